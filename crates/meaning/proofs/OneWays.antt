-- One-way streams: any sequence of feeds and allowances comes to the definition's reading of the bytes consumed; a feed gets on; a feed stops
-- only where it may. Assumes nothing.
use Rattle.std.specs.Prelude.{◌≡◌}
use Rattle.std.proofs.Math.Path.{refl, sym, ap}
use Rattle.std.proofs.Common.{◌∙◌, subst}
use Prim.Native.Nat.{ℕ, zero, suc, ◌+◌, ◌-◌, ◌*◌, ◌%◌, ◌≤◌, zero-le}
use Rattle.std.proofs.Math.Nat.{sub_self, add-zero}
use native.Mathlib.Omega.{arith}
use mathlib.Core.List.{List, [], ◌∷◌, ◌++◌, append_assoc, append-nil}
use Rattle.std.proofs.Math.ListN.{length, take, length-append}
use Rattle.std.proofs.Math.Seq.{length-take-le, take-length}
use Rattle.rules.specs.Block.{Section}
use Rattle.rules.specs.Integers.{cut, got, more, extra, integer}
use Rattle.rules.specs.Reading.{skipped as skipped-frame, kept, Use, content, section, Ruling, Next, stop, go, Saying}
use Rattle.rules.specs.Control.{Control, unset, control}
use Rattle.rules.specs.OneWay.{Qpack, a_control, a_qpack, skipped, Typed, refuse, is, type_rule, typed, behind_type, one_way_read}
use Rattle.meaning.specs.IntegerLaws.{integer_length, integer_append}
use Rattle.meaning.specs.Machine.{Prog, fresh, need, Fed, going, value, after, fed, State, in_type, in_length, in_payload, due, Outcome, between, Run, reads, stuck, supplied, settled, finished, began, run, lists, fresh_run, answered, typed as machine-typed, keep, over, with_left, ruled, sized, step, next}
use Rattle.meaning.specs.ControlLaws.{ControlView, v_refused, v_skipped, v_kept, control_view}
use Rattle.meaning.proofs.Cut.{run_append, lists_append, read_from_is}
use Rattle.meaning.specs.Feed as F
use Rattle.meaning.specs.Feeds.{unheaded, headers_in}
use Rattle.meaning.proofs.Feeds.{shows_also, within_also, unheaded_append, headers_in_append, feed_runs}
use Rattle.meaning.specs.EveryFeed.{Stops, ReadsOn}
use Rattle.meaning.proofs.EveryFeed.{feed_stops, feed_moves, feed_allows}
use Rattle.meaning.specs.OneWayFeed.{OneState, in_stream_type, in_control, in_qpack, in_skipped, OneOutcome, lives, dies, OneEvent, of_frames, qpack_bytes, OneFeeding, controlled, of_control, halt, also, qpack_feed, kind_feed, typed_feed, type_feed, feed, shows, Call, feed_call, Done, nothing_done, done_then, called, calls}
use Rattle.meaning.specs.OneWays.{resumed, OneWithin, OfControl, ReadsOnOne, OneStops, at_event, NoSection, NoSectionRun, Holds, h_type, h_refused, h_control, h_died, h_qpack, h_skipped, Went, HoldsOf, Came, still_untyped, type_refused, a_control_stream, a_qpack_stream, a_skipped_stream}

-- ---- the type, a byte at a time

after_going : (k v at : ℕ) (y : List ℕ) {g : Prog} → after k v ≡ going g → more k v at y ≡ resumed g at y
unfolding after resumed
after_going zero v at y e = let z : ◌≡◌ {A = ℕ} 0 1 = cc in absurd (omega arith)
after_going (suc k) v at y {g} e = let q : g ≡ need k v = cc in rw q

after_value : (k v at : ℕ) (y : List ℕ) {t : ℕ} → after k v ≡ value t → more k v at y ≡ got t at y
unfolding after more
after_value zero v at y {t} e = let q : v ≡ t = cc in rw q
after_value (suc k) v at y e = let z : ◌≡◌ {A = ℕ} 0 1 = cc in absurd (omega arith)

-- a byte leaves the progress, or the value and all that follows
fed_going : (g : Prog) (b at : ℕ) (y : List ℕ) {g' : Prog} → fed g b ≡ going g' → resumed g at (b ∷ y) ≡ resumed g' (suc at) y
unfolding fed resumed integer more
fed_going fresh b at y e = unfold resumed in after_going (extra b) (b % 64) (suc at) y e
fed_going (need k v) b at y e = unfold resumed in after_going k (v * 256 + b) (suc at) y e

fed_value : (g : Prog) (b at : ℕ) (y : List ℕ) {t : ℕ} → fed g b ≡ value t → resumed g at (b ∷ y) ≡ got t (suc at) y
unfolding fed resumed integer more
fed_value fresh b at y e = after_value (extra b) (b % 64) (suc at) y e
fed_value (need k v) b at y e = after_value k (v * 256 + b) (suc at) y e

no_more : (g : Prog) (at : ℕ) → resumed g at [] ≡ cut
unfolding resumed integer more
no_more fresh at = refl
no_more (need k v) at = refl

-- ---- what holds of the bytes consumed, what was shown, the headers finished and the state

one_shows_also : (e : OneEvent) (u b : ℕ) (bs : List ℕ) → OneWithin e u → shows e (suc u) (b ∷ bs) ≡ shows e u bs
unfolding shows
one_shows_also (of_frames e) u b bs w = let x = shows_also e u b bs w in rw x
one_shows_also (qpack_bytes q len) u b bs w = let x : suc u - len ≡ suc (u - len) = omega arith in rw x

one_within_also : (e : OneEvent) (u : ℕ) → OneWithin e u → OneWithin e (suc u)
one_within_also (of_frames e) u w = within_also e u w
one_within_also (qpack_bytes q len) u w = omega arith

module _ (seen : List ℕ) where
  controlled_holds : {bytes : List ℕ} {frames : List Saying} {qpack : List ℕ} {heads t next : ℕ} {rest : List ℕ} (o : Outcome Control) → integer 0 bytes ≡ got t next rest
      → type_rule seen t ≡ is a_control → OfControl bytes frames heads next rest o → qpack ≡ [] → Holds seen bytes frames qpack heads (controlled o)
  unfolding controlled
  controlled_holds (Outcome.lives s) e r c q = h_control e r c q
  controlled_holds (Outcome.dies code) e r c q = h_died e r c q

  -- frames behind bytes that hold frames already, or none
  control_went : {bytes : List ℕ} {frames : List Saying} {qpack : List ℕ} {heads t next : ℕ} {rest : List ℕ} (allow : ℕ) (s : State Control) (piece : List ℕ)
      → integer 0 bytes ≡ got t next rest → type_rule seen t ≡ is a_control → OfControl bytes frames heads next rest (Outcome.lives s) → qpack ≡ []
      → Went seen bytes frames qpack heads piece (of_control (F.feed control allow s piece))
  unfolding of_control shows
  control_went {bytes} {frames} {qpack} {heads} {t} {next} {rest} allow s piece e ru c q =
      let f = F.feed control allow s piece in
      let r = feed_runs control allow (length bytes) s piece in
      let x = take f.used piece in
      let l = length-take-le f.used piece r.fits in
      let i = integer_length 0 bytes e in
      let n : next + length rest ≡ length bytes = omega arith in
      let a = length-append bytes x in
      let k : length (bytes ++ x) ≡ length bytes + f.used = omega arith in
      let r0 = fresh_run control [] in
      let ra = run_append control next (length bytes) r0 rest x n in
      let la = lists_append control next next (length bytes) r0 rest x n in
      let begun = began control next next r0 rest in
      record {
        fits = r.fits;
        within = r.within;
        holds = controlled_holds f.after (integer_append 0 bytes x e) ru
            (record {
              state = rw k (r.state [] ∙ ap (λ z. run control (length bytes) z x) c.state ∙ sym ra);
              shown = cc (c.shown, r.shown begun [], c.state, la, unheaded_append (lists control next next r0 rest) (lists control begun (length bytes) (run control next r0 rest) x));
              heads = cc (c.heads, r.heads begun [], c.state, la, headers_in_append (lists control next next r0 rest) (lists control begun (length bytes) (run control next r0 rest) x));
            })
            (rw q refl);
      }

  -- nothing more is read
  halted : {bytes : List ℕ} {frames : List Saying} {qpack : List ℕ} {heads : ℕ} (piece : List ℕ) (o : OneOutcome) → Holds seen bytes frames qpack heads o
      → Went seen bytes frames qpack heads piece (halt o)
  unfolding halt shows
  halted {bytes} {frames} {qpack} {heads} piece o h =
      record { fits = zero-le; within = tt; holds = unfold F.shows in rw (append-nil bytes, append-nil frames, append-nil qpack, add-zero heads) h }

  qpack_went : {bytes : List ℕ} {frames : List Saying} {qpack : List ℕ} {heads t next : ℕ} (q : Qpack) (piece : List ℕ)
      → integer 0 bytes ≡ got t next qpack → type_rule seen t ≡ is (a_qpack q) → frames ≡ [] → heads ≡ 0 → Went seen bytes frames qpack heads piece (qpack_feed q piece)
  unfolding qpack_feed shows
  qpack_went q [] e r f h = halted [] (lives (in_qpack q)) (h_qpack e r f h)
  qpack_went {bytes} {frames} {qpack} {heads} q (b ∷ bs) e r f h =
      let n = sub_self (suc (length bs)) in
      let k = take-length bs in
      record { fits = omega arith; within = omega arith; holds = rw (n, k) (h_qpack (integer_append 0 bytes (b ∷ bs) e) r (rw f refl) (omega arith)) }

  skip_went : {bytes : List ℕ} {frames : List Saying} {qpack : List ℕ} {heads t next : ℕ} {rest : List ℕ} (allow : ℕ) (piece : List ℕ)
      → integer 0 bytes ≡ got t next rest → type_rule seen t ≡ is skipped → frames ≡ [] → qpack ≡ [] → heads ≡ 0 → Went seen bytes frames qpack heads piece (kind_feed allow skipped piece)
  unfolding kind_feed shows F.shows
  skip_went {bytes} {frames} {qpack} {heads} allow piece e r f q h =
      let k = take-length piece in
      record { fits = omega arith; within = tt; holds = rw k (h_skipped (integer_append 0 bytes piece e) r (append-nil frames ∙ f) (append-nil qpack ∙ q) (omega arith)) }

  also_went : {bytes : List ℕ} {frames : List Saying} {qpack : List ℕ} {heads : ℕ} (b : ℕ) (bs : List ℕ) (f : OneFeeding) → Went seen (bytes ++ (b ∷ [])) frames qpack heads bs f
      → Went seen bytes frames qpack heads (b ∷ bs) (also f)
  unfolding also
  also_went {bytes} b bs f w =
      let s = one_shows_also f.event f.used b bs w.within in
      let a = append_assoc bytes (b ∷ []) (take f.used bs) in
      record { fits = omega (arith, w.fits); within = one_within_also f.event f.used w.within; holds = rw (s, ← a) w.holds }

  -- the type has come whole, and nothing behind it yet
  typed_went : {bytes : List ℕ} (allow t : ℕ) (piece : List ℕ) → integer 0 bytes ≡ got t (length bytes) [] → (x : Typed) → type_rule seen t ≡ x
      → Went seen bytes [] [] 0 piece (typed_feed allow x piece)
  unfolding typed_feed
  typed_went allow t piece e (refuse code) r = halted piece (dies code) (h_refused e r refl refl refl)
  typed_went allow t piece e (is a_control) r =
      unfold kind_feed in control_went allow (between unset) piece e r (unfold settled supplied run lists unheaded headers_in in record { state = refl; shown = refl; heads = refl }) refl
  typed_went allow t piece e (is (a_qpack q)) r = unfold kind_feed in qpack_went q piece e r refl refl
  typed_went allow t piece e (is skipped) r = skip_went allow piece e r refl refl refl

  type_byte : (allow : ℕ) (g : Prog) (bytes : List ℕ) (b : ℕ) (bs : List ℕ) → ((y : List ℕ) → integer 0 (bytes ++ y) ≡ resumed g (length bytes) y)
      → ((g : Prog) (bytes : List ℕ) → ((y : List ℕ) → integer 0 (bytes ++ y) ≡ resumed g (length bytes) y) → Went seen bytes [] [] 0 bs (type_feed seen allow g bs))
      → (x : Fed) → fed g b ≡ x
      → Went seen (bytes ++ (b ∷ [])) [] [] 0 bs (elim x [ going g' ↦ type_feed seen allow g' bs | value t ↦ typed_feed allow (type_rule seen t) bs ])
  type_byte allow g bytes b bs h ih (going g') e =
      let l = length-append bytes (b ∷ []) in
      let n : length (bytes ++ (b ∷ [])) ≡ suc (length bytes) = omega arith in
      ih g' (bytes ++ (b ∷ [])) (λ y. rw (append_assoc bytes (b ∷ []) y, n) (h (b ∷ y) ∙ fed_going g b (length bytes) y e))
  type_byte allow g bytes b bs h ih (value t) e =
      let l = length-append bytes (b ∷ []) in
      let n : length (bytes ++ (b ∷ [])) ≡ suc (length bytes) = omega arith in
      typed_went allow t bs (rw n (h (b ∷ []) ∙ fed_value g b (length bytes) [] e)) (type_rule seen t) refl

  type_went : (allow : ℕ) (piece : List ℕ) (g : Prog) (bytes : List ℕ) → ((y : List ℕ) → integer 0 (bytes ++ y) ≡ resumed g (length bytes) y)
      → Went seen bytes [] [] 0 piece (type_feed seen allow g piece)
  unfolding type_feed
  type_went allow [] g bytes h = halted [] (lives (in_stream_type g)) (h_type h refl refl refl)
  type_went allow (b ∷ bs) g bytes h = also_went b bs _ (type_byte allow g bytes b bs h (type_went allow bs) (fed g b) refl)

  -- ANY FEED keeps it
  feed_went : {bytes : List ℕ} {frames : List Saying} {qpack : List ℕ} {heads : ℕ} (allow : ℕ) {s : OneState} (piece : List ℕ) → Holds seen bytes frames qpack heads (lives s)
      → Went seen bytes frames qpack heads piece (feed seen allow s piece)
  unfolding feed
  feed_went {bytes} allow piece (h_type {g = g} h f q n) = rw (f, q, n) (type_went allow piece g bytes h)
  feed_went allow piece (h_control {s = s} e r c q) = control_went allow s piece e r c q
  feed_went allow piece (h_qpack {q = q} e r f n) = qpack_went q piece e r f n
  feed_went allow piece (h_skipped e r f q n) = skip_went allow piece e r f q n

  called_holds : (d : Done) (c : Call) (o : OneOutcome) → d.after ≡ o → HoldsOf seen d → HoldsOf seen (called seen d c o)
  unfolding called done_then
  called_holds d (feed_call allow piece) (lives s) e h = (feed_went allow {s = s} piece (rw e at h)).holds
  called_holds d (feed_call allow piece) (dies code) e h = h

  pub calls_hold : (d : Done) (cs : List Call) → HoldsOf seen d → HoldsOf seen (calls seen d cs)
  unfolding calls
  calls_hold d [] h = h
  calls_hold d (c ∷ cs) h = calls_hold (called seen d c d.after) cs (called_holds d c d.after refl h)

  -- ---- in the words of the definition

  control_came : (d : Done) {t next : ℕ} {rest : List ℕ} (o : Outcome Control) → integer 0 d.bytes ≡ got t next rest → type_rule seen t ≡ is a_control
      → OfControl d.bytes d.frames d.heads next rest o → d.qpack ≡ [] → d.after ≡ controlled o → Came seen d (one_way_read seen d.bytes)
  unfolding one_way_read behind_type typed
  control_came d {t} {next} {rest} o e r c q a =
      let i = integer_length 0 d.bytes e in
      let n : next + length rest ≡ length d.bytes = omega arith in
      let w = read_from_is control next (length d.bytes) [] rest n in
      rw (e, behind_type, r) (a_control_stream o a (c.shown ∙ sym (ap (λ x. unheaded x.said) w)) q (c.heads ∙ sym (ap (λ x. headers_in x.said) w))
      (ap (λ x. x.verdict) w ∙ ap (finished control (length d.bytes)) (sym c.state)))

  came : (d : Done) (o : OneOutcome) → d.after ≡ o → Holds seen d.bytes d.frames d.qpack d.heads o → Came seen d (one_way_read seen d.bytes)
  unfolding one_way_read behind_type typed
  came d o a (h_type {g = g} h f q n) = let e : integer 0 d.bytes ≡ cut = rw (append-nil d.bytes) at (h [] ∙ no_more g (length d.bytes)) in rw (e, behind_type) (still_untyped a f q n)
  came d o a (h_refused e r f q n) = rw (e, behind_type, r) (type_refused a f q n)
  came d o a (h_control {s = s} e r c q) = control_came d (Outcome.lives s) e r c q (a ∙ unfold controlled in refl)
  came d o a (h_died {code = code} e r c q) = control_came d (Outcome.dies code) e r c q (a ∙ unfold controlled in refl)
  came d o a (h_qpack e r f n) = rw (e, behind_type, r) (a_qpack_stream a f n)
  came d o a (h_skipped e r f q n) = rw (e, behind_type, r) (a_skipped_stream a f q n)

  pub first_holds : HoldsOf seen nothing_done
  unfolding nothing_done resumed
  first_holds = h_type {g = fresh} (λ y. refl) refl refl refl

  -- DEMAND 2 for one-way streams: whatever the feeds and allowances, what they show, count and leave is what the bytes consumed mean
  pub calls_read : (cs : List Call) → let d = calls seen nothing_done cs in Came seen d (one_way_read seen d.bytes)
  calls_read cs = let d = calls seen nothing_done cs in came d d.after refl (calls_hold nothing_done cs first_holds)

-- ---- progress, the stop rule and the allowance

-- PROGRESS: with an allowance and a byte, a feed consumes one or more
pub one_moves : (seen : List ℕ) (n b : ℕ) (s : OneState) (bs : List ℕ) → ReadsOnOne s → 1 ≤ (feed seen (suc n) s (b ∷ bs)).used
unfolding feed type_feed also of_control qpack_feed kind_feed
one_moves seen n b (in_stream_type g) bs h = omega arith
one_moves seen n b (in_control s) bs h = feed_moves control n b s bs h
one_moves seen n b (in_qpack q) bs h = omega arith
one_moves seen n b in_skipped bs h = omega arith

control_stops : {allow : ℕ} {piece : List ℕ} (f : F.Feeding Control) → Stops allow piece f → OneStops allow piece (of_control f)
unfolding of_control controlled
control_stops f (Stops.at_section e) = at_event (rw e tt)
control_stops f (Stops.at_content e) = at_event (rw e tt)
control_stops f (Stops.at_taken e) = at_event (rw e tt)
control_stops f (Stops.at_end e) = OneStops.at_end e
control_stops f (Stops.at_allowance e) = OneStops.at_allowance e
control_stops f (Stops.at_fault e) = OneStops.at_fault (ap controlled e)
control_stops f (Stops.while_due e) = OneStops.while_due (ap controlled e)

also_stops : {allow b : ℕ} {bs : List ℕ} (f : OneFeeding) → OneStops allow bs f → OneStops allow (b ∷ bs) (also f)
unfolding also
also_stops f (at_event l) = at_event l
also_stops f (OneStops.at_end e) = OneStops.at_end (ap suc e)
also_stops f (OneStops.at_allowance e) = OneStops.at_allowance e
also_stops f (OneStops.at_fault e) = OneStops.at_fault e
also_stops f (OneStops.while_due e) = OneStops.while_due e

qpack_stops : {allow : ℕ} (q : Qpack) (piece : List ℕ) → OneStops allow piece (qpack_feed q piece)
unfolding qpack_feed halt
qpack_stops q [] = OneStops.at_end refl
qpack_stops q (b ∷ bs) = at_event tt

typed_stops : (allow : ℕ) (x : Typed) (piece : List ℕ) → OneStops allow piece (typed_feed allow x piece)
unfolding typed_feed kind_feed halt
typed_stops allow (refuse code) piece = OneStops.at_fault refl
typed_stops allow (is a_control) piece = control_stops (F.feed control allow (between unset) piece) (feed_stops control allow (between unset) piece)
typed_stops allow (is (a_qpack q)) piece = qpack_stops q piece
typed_stops allow (is skipped) piece = OneStops.at_end refl

module _ (seen : List ℕ) where
  fed_stops : (allow : ℕ) (bs : List ℕ) → ((g : Prog) → OneStops allow bs (type_feed seen allow g bs)) → (x : Fed)
      → OneStops allow bs (elim x [ going g' ↦ type_feed seen allow g' bs | value t ↦ typed_feed allow (type_rule seen t) bs ])
  fed_stops allow bs ih (going g) = ih g
  fed_stops allow bs ih (value t) = typed_stops allow (type_rule seen t) bs

  type_stops : (allow : ℕ) (piece : List ℕ) (g : Prog) → OneStops allow piece (type_feed seen allow g piece)
  unfolding type_feed halt
  type_stops allow [] g = OneStops.at_end refl
  type_stops allow (b ∷ bs) g = also_stops _ (fed_stops allow bs (type_stops allow bs) (fed g b))

  -- THE STOP RULE: only at an event, the end of the piece, the allowance, or a fault
  pub one_stops : (allow : ℕ) (s : OneState) (piece : List ℕ) → OneStops allow piece (feed seen allow s piece)
  unfolding feed kind_feed
  one_stops allow (in_stream_type g) piece = type_stops allow piece g
  one_stops allow (in_control s) piece = control_stops (F.feed control allow s piece) (feed_stops control allow s piece)
  one_stops allow (in_qpack q) piece = qpack_stops q piece
  one_stops allow in_skipped piece = OneStops.at_end refl

  also_heads : {allow : ℕ} (f : OneFeeding) → f.heads ≤ allow → (also f).heads ≤ allow
  unfolding also
  also_heads f h = h

  qpack_heads : {allow : ℕ} (q : Qpack) (piece : List ℕ) → (qpack_feed q piece).heads ≤ allow
  unfolding qpack_feed halt
  qpack_heads q [] = zero-le
  qpack_heads q (b ∷ bs) = zero-le

  typed_allows : (allow : ℕ) (x : Typed) (piece : List ℕ) → (typed_feed allow x piece).heads ≤ allow
  unfolding typed_feed kind_feed halt of_control
  typed_allows allow (refuse code) piece = zero-le
  typed_allows allow (is a_control) piece = feed_allows control allow (between unset) piece
  typed_allows allow (is (a_qpack q)) piece = qpack_heads q piece
  typed_allows allow (is skipped) piece = zero-le

  fed_allows : (allow : ℕ) (bs : List ℕ) → ((g : Prog) → (type_feed seen allow g bs).heads ≤ allow) → (x : Fed)
      → (elim x as (λ y. OneFeeding) [ going g' ↦ type_feed seen allow g' bs | value t ↦ typed_feed allow (type_rule seen t) bs ]).heads ≤ allow
  fed_allows allow bs ih (going g) = ih g
  fed_allows allow bs ih (value t) = typed_allows allow (type_rule seen t) bs

  type_allows : (allow : ℕ) (piece : List ℕ) (g : Prog) → (type_feed seen allow g piece).heads ≤ allow
  unfolding type_feed halt
  type_allows allow [] g = zero-le
  type_allows allow (b ∷ bs) g = also_heads _ (fed_allows allow bs (type_allows allow bs) (fed g b))

  -- THE ALLOWANCE: no more headers than it says
  pub one_allows : (allow : ℕ) (s : OneState) (piece : List ℕ) → (feed seen allow s piece).heads ≤ allow
  unfolding feed kind_feed of_control
  one_allows allow (in_stream_type g) piece = type_allows allow piece g
  one_allows allow (in_control s) piece = feed_allows control allow s piece
  one_allows allow (in_qpack q) piece = qpack_heads q piece
  one_allows allow in_skipped piece = zero-le

-- ---- no section is ever due on a control stream

answered_none : (bl : List Section) (at : ℕ) (n : Next Control) → NoSectionRun (settled control at bl (answered n))
unfolding answered settled supplied
answered_none bl at (stop code) = tt
answered_none bl at (go c) = tt

left_none : (bl : List Section) (at : ℕ) (u : Use) (k : List ℕ) (l : ℕ) (c : Control) → NoSection (in_payload u k 0 c) → NoSectionRun (settled control at bl (with_left control u k l c))
unfolding settled supplied with_left over
left_none bl at content k zero c h = tt
left_none bl at content k (suc l) c h = tt
left_none bl at skipped-frame k zero c h = tt
left_none bl at skipped-frame k (suc l) c h = tt
left_none bl at (section t) k l c h = absurd h
left_none bl at (kept f) k zero c h = answered_none bl at (control.judged f c k)
left_none bl at (kept f) k (suc l) c h = tt

ruled_none : (bl : List Section) (at len : ℕ) {c : Control} {r : Ruling Control} → ControlView c r → NoSectionRun (settled control at bl (ruled control len r))
unfolding ruled settled
ruled_none bl at len v_refused = tt
ruled_none bl at len {c} v_skipped = left_none bl at skipped-frame [] len c tt
ruled_none bl at len {c} (v_kept {k = k}) = left_none bl at (kept k) [] len c tt

sized_none : (bl : List Section) (at t : ℕ) (c : Control) (x : Fed) → NoSectionRun (settled control at bl (sized control t c x))
unfolding sized settled supplied
sized_none bl at t c (going g) = tt
sized_none bl at t c (value len) = ruled_none bl at len (control_view c t len)

typed_none : (bl : List Section) (at : ℕ) (c : Control) (x : Fed) → NoSectionRun (supplied control at bl (machine-typed c x))
unfolding machine-typed supplied
typed_none bl at c (going g) = tt
typed_none bl at c (value t) = tt

step_none : (bl : List Section) (at b : ℕ) (s : State Control) → NoSection s → NoSectionRun (settled control at bl (step control s b))
unfolding step settled
step_none bl at b (in_type g c) h = typed_none bl at c (fed g b)
step_none bl at b (in_length t g c) h = sized_none bl at t c (fed g b)
step_none bl at b (in_payload content k l c) h = left_none bl at content (keep content k b) l c tt
step_none bl at b (in_payload skipped-frame k l c) h = left_none bl at skipped-frame (keep skipped-frame k b) l c tt
step_none bl at b (in_payload (section t) k l c) h = absurd h
step_none bl at b (in_payload (kept f) k l c) h = left_none bl at (kept f) (keep (kept f) k b) l c tt
step_none bl at b (due t c) h = absurd h

run_none : (at : ℕ) (r : Run Control) (bs : List ℕ) → NoSectionRun r → NoSectionRun (run control at r bs)
unfolding run next
run_none at r [] h = h
run_none at (reads bl s) (b ∷ bs) h = run_none (suc at) (settled control (suc at) bl (step control s b)) bs (step_none bl (suc at) b s h)
run_none at (stuck v) (b ∷ bs) h = run_none (suc at) (stuck v) bs h

settled_none : (at : ℕ) (s : State Control) → NoSectionRun (settled control at [] (Outcome.lives s)) → ReadsOn s
unfolding settled supplied
settled_none at (in_type g c) h = tt
settled_none at (in_length t g c) h = tt
settled_none at (in_payload u k l c) h = tt
settled_none at (due t c) h = h

holds_reads : (seen : List ℕ) {bytes : List ℕ} {frames : List Saying} {qpack : List ℕ} {heads : ℕ} {s : OneState} → Holds seen bytes frames qpack heads (lives s) → ReadsOnOne s
holds_reads seen (h_type h f q n) = tt
holds_reads seen {bytes} (h_control {next = next} {rest = rest} {s = s} e r c q) =
    settled_none (length bytes) s (subst NoSectionRun (sym c.state) (run_none next (fresh_run control []) rest tt))
holds_reads seen (h_qpack e r f n) = tt
holds_reads seen (h_skipped e r f q n) = tt

-- whatever the calls, where a one-way stream is not refused, no section is due on it
pub always_reads : (seen : List ℕ) (cs : List Call) (s : OneState) → (calls seen nothing_done cs).after ≡ lives s → ReadsOnOne s
always_reads seen cs s e =
    let d = calls seen nothing_done cs in
    let h = calls_hold seen nothing_done cs (first_holds seen) in
    holds_reads seen (subst (Holds seen d.bytes d.frames d.qpack d.heads) e h)

-- and a byte and an allowance move it
pub always_moves : (seen : List ℕ) (cs : List Call) (s : OneState) → (calls seen nothing_done cs).after ≡ lives s → (n b : ℕ) (bs : List ℕ) → 1 ≤ (feed seen (suc n) s (b ∷ bs)).used
always_moves seen cs s e n b bs = one_moves seen n b s bs (always_reads seen cs s e)
