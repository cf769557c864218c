-- THE ALLOWANCE of one-way streams over traces: a feed of a control stream that has finished as many headers as it was allowed reads no byte of a further
-- one (Allowed, for frames behind a type). Assumes nothing.
use Rattle.std.specs.Prelude.{◌≡◌, refl, ℕ, zero, suc, ◌+◌, ◌*◌, ◌%◌, ◌≤◌, length, take}
use Rattle.std.proofs.Common.{sym, ap, ◌∙◌, arith, length-append, length-take-le}
use Rattle.std.proofs.Math.Path.{subst}
use mathlib.Core.List.{List, [], ◌∷◌, ◌++◌, append-nil, append_assoc}
use Rattle.std.proofs.Math.Option.{some, none-ne-some}
use Rattle.rules.specs.Integers.{Int, cut, got, more, extra, integer}
use Rattle.rules.specs.Reading.{Reading}
use Rattle.rules.specs.Control.{Control, unset, control}
use Rattle.rules.specs.OneWay as W
use Rattle.rules.specs.OneWay.{Qpack, Typed, type_rule}
use Rattle.meaning.specs.IntegerLaws.{integer_length, integer_append}
use Rattle.meaning.specs.Machine as M
use Rattle.meaning.specs.Machine.{Prog, State, Outcome, between}
use Rattle.meaning.proofs.Cut.{run_append, read_from_is}
use Rattle.meaning.specs.Feed as F
use Rattle.meaning.proofs.Feeds.{feed_runs}
use Rattle.meaning.specs.OneWayFeed as O
use Rattle.meaning.specs.OneWays.{resumed}
use Rattle.rules.specs.Calls.{Event, goes, fed, feed, act₁, one_way, kind_of, telling, Pair, Call, on, gave, act_on, fresh, call, run, trace}
use Rattle.rules.specs.Shown.{Shown, running, View, nothing, plus_feed, view}
use Rattle.traces.specs.Alone.{call_on}
use Rattle.traces.specs.Follow.{Agrees, open_still, over, agrees, not_running}
use Rattle.traces.specs.Oneways.{Reached₁, at_first, by_feed, Story₁, Says, says, story₁}
use Rattle.demands.specs.Streams.{streams}
use Rattle.demands.specs.Becomes.{as_control, is_for}
use Rattle.demands.specs.Moves.{alone_by, alone}
use Rattle.demands.specs.OneWayReads.{type_shown, type_shown_lem}
use Rattle.demands.specs.Parts.{InHeader, got_heard}
use Rattle.demands.specs.Allowed.{last_end, EndsBy, run_ends, not_behind, Outside, feed_outside, begins_outside}
use Rattle.demands.specs.Events.{by_itself}

-- ---- DEFINITION

-- where the frames begin: behind the type
unfoldable pub type_end : Int → ℕ
type_end cut = 0
type_end (got type next rest) = next

-- behind these bytes of a one-way stream, if it is a control stream, no byte of a header that is not finished
abbrev pub NoFurther₁ : (bytes : List ℕ) → Type 0
NoFurther₁ bytes = (r : Reading) → W.one_way_read [] bytes ≡ W.of_control r → length bytes ≤ last_end (type_end (integer 0 bytes)) r.said

-- ---- where a control stream's machine is, behind its bytes

pub record ControlAt (bytes : List ℕ) (o : Outcome Control) : Type 0 where
  type : ℕ
  next : ℕ
  rest : List ℕ
  read : integer 0 bytes ≡ got type next rest
  kind : type_rule [] type ≡ W.is W.a_control
  state : M.settled control (length bytes) [] o ≡ M.run control next (M.fresh_run control []) rest

abbrev pub At : List ℕ → O.OneState → Type 0
At bytes (O.in_stream_type g) = (y : List ℕ) → integer 0 (bytes ++ y) ≡ resumed g (length bytes) y
At bytes (O.in_control s) = ControlAt bytes (M.lives s)
At bytes (O.in_qpack q) = Unit {0}
At bytes O.in_skipped = Unit {0}

abbrev AtBy : List ℕ → O.OneOutcome → Type 0
AtBy bytes (O.lives s) = At bytes s
AtBy bytes (O.dies n) = Unit {0}

-- behind a feed that began behind these bytes
record AtAfter (bytes piece : List ℕ) (f : O.OneFeeding) : Type 0 where
  there : AtBy (bytes ++ take f.used piece) f.after

controlled_at : (bytes : List ℕ) (o : Outcome Control) → ControlAt bytes o → AtBy bytes (O.controlled o)
unfolding O.controlled
controlled_at bytes (M.lives s) w = w
controlled_at bytes (M.dies n) w = tt

control_at : (bytes : List ℕ) (allow : ℕ) (s : State Control) (piece : List ℕ) → ControlAt bytes (M.lives s) → AtAfter bytes piece (O.of_control (F.feed control allow s piece))
unfolding O.of_control
control_at bytes allow s piece w =
    let f = F.feed control allow s piece in
    let r = feed_runs control allow (length bytes) s piece in
    let x = take f.used piece in
    let l = length-take-le f.used piece r.fits in
    let i = integer_length 0 bytes w.read in
    let n : w.next + length w.rest ≡ length bytes = omega arith in
    let a = length-append bytes x in
    let k : length (bytes ++ x) ≡ length bytes + f.used = omega arith in
    record {
      there = controlled_at (bytes ++ x) f.after (record {
        type = w.type;
        next = w.next;
        rest = w.rest ++ x;
        read = integer_append 0 bytes x w.read;
        kind = w.kind;
        state = rw k (r.state [] ∙ ap (λ z. M.run control (length bytes) z x) w.state ∙ sym (run_append control w.next (length bytes) (M.fresh_run control []) w.rest x n));
      });
    }

qpack_at : (bytes : List ℕ) (q : Qpack) (piece : List ℕ) → AtAfter bytes piece (O.qpack_feed q piece)
unfolding O.qpack_feed O.halt
qpack_at bytes q [] = record { there = tt }
qpack_at bytes q (b ∷ bs) = record { there = tt }

typed_at : (bytes : List ℕ) (allow t : ℕ) (x : Typed) → type_rule [] t ≡ x → (piece : List ℕ) → integer 0 bytes ≡ got t (length bytes) [] → AtAfter bytes piece (O.typed_feed allow x piece)
unfolding O.typed_feed O.kind_feed O.halt M.settled M.supplied M.run
typed_at bytes allow t (W.refuse n) e piece r = record { there = tt }
typed_at bytes allow t (W.is W.a_control) e piece r = control_at bytes allow (between unset) piece (record { type = t; next = length bytes; rest = []; read = r; kind = e; state = refl })
typed_at bytes allow t (W.is (W.a_qpack q)) e piece r = qpack_at bytes q piece
typed_at bytes allow t (W.is W.skipped) e piece r = record { there = tt }

after_going : (k v at : ℕ) (y : List ℕ) {g : Prog} → M.after k v ≡ M.going g → more k v at y ≡ resumed g at y
unfolding M.after resumed
after_going zero v at y e = let z : ◌≡◌ {A = ℕ} 0 1 = cc in absurd (omega arith)
after_going (suc k) v at y {g} e = let q : g ≡ M.need k v = cc in rw q

after_value : (k v at : ℕ) (y : List ℕ) {t : ℕ} → M.after k v ≡ M.value t → more k v at y ≡ got t at y
unfolding M.after more
after_value zero v at y {t} e = let q : v ≡ t = cc in rw q
after_value (suc k) v at y e = let z : ◌≡◌ {A = ℕ} 0 1 = cc in absurd (omega arith)

-- a byte of the type
byte_going : (g : Prog) (b at : ℕ) (y : List ℕ) {g' : Prog} → M.fed g b ≡ M.going g' → resumed g at (b ∷ y) ≡ resumed g' (suc at) y
unfolding M.fed resumed integer more
byte_going M.fresh b at y e = unfold resumed in after_going (extra b) (b % 64) (suc at) y e
byte_going (M.need k v) b at y e = unfold resumed in after_going k (v * 256 + b) (suc at) y e

byte_value : (g : Prog) (b at : ℕ) (y : List ℕ) {t : ℕ} → M.fed g b ≡ M.value t → resumed g at (b ∷ y) ≡ got t (suc at) y
unfolding M.fed resumed integer more
byte_value M.fresh b at y e = after_value (extra b) (b % 64) (suc at) y e
byte_value (M.need k v) b at y e = after_value k (v * 256 + b) (suc at) y e

module _ (bytes : List ℕ) (b : ℕ) where
  abbrev one_more : List ℕ
  one_more = bytes ++ (b ∷ [])

  longer : length one_more ≡ suc (length bytes)
  longer = let a = length-append bytes (b ∷ []) in omega arith

  also_at : (bs : List ℕ) (f : O.OneFeeding) → AtAfter one_more bs f → AtAfter bytes (b ∷ bs) (O.also f)
  unfolding O.also
  also_at bs f w = record { there = rw (append_assoc bytes (b ∷ []) (take f.used bs)) at w.there }

module _ (allow : ℕ) where
  -- what the bytes of a type come to, where they go on as g does
  abbrev Goes : List ℕ → Prog → Type 0
  Goes bytes g = (y : List ℕ) → integer 0 (bytes ++ y) ≡ resumed g (length bytes) y

  byte_at : (b : ℕ) (bs : List ℕ) (g : Prog) (bytes : List ℕ) → Goes bytes g → ((g' : Prog) (bytes : List ℕ) → Goes bytes g' → AtAfter bytes bs (O.type_feed [] allow g' bs)) → (x : M.Fed) → M.fed g b ≡ x
      → AtAfter (one_more bytes b) bs (elim x [ M.going g' ↦ O.type_feed [] allow g' bs | M.value t ↦ O.typed_feed allow (type_rule [] t) bs ])
  byte_at b bs g bytes h ih (M.going g') e =
      ih g' (one_more bytes b) (λ y. (ap (integer 0) (append_assoc bytes (b ∷ []) y) ∙ h (b ∷ y) ∙ byte_going g b (length bytes) y e ∙ ap (λ n. resumed g' n y) (sym (longer bytes b))))
  byte_at b bs g bytes h ih (M.value t) e = typed_at (one_more bytes b) allow t (type_rule [] t) refl bs (h (b ∷ []) ∙ byte_value g b (length bytes) [] e ∙ ap (λ n. got t n []) (sym (longer bytes b)))

  type_at : (piece : List ℕ) (g : Prog) (bytes : List ℕ) → Goes bytes g → AtAfter bytes piece (O.type_feed [] allow g piece)
  unfolding O.type_feed O.halt
  type_at [] g bytes h = record { there = subst (λ z. Goes z g) (sym (append-nil bytes)) h }
  type_at (b ∷ bs) g bytes h = also_at bytes b bs _ (byte_at b bs g bytes h (λ g' bytes h. type_at bs g' bytes h) (M.fed g b) refl)

  feed_at : (w : O.OneState) (bytes piece : List ℕ) → At bytes w → AtAfter bytes piece (O.feed [] allow w piece)
  unfolding O.feed O.kind_feed
  feed_at (O.in_stream_type g) bytes piece h = type_at piece g bytes h
  feed_at (O.in_control s) bytes piece h = control_at bytes allow s piece h
  feed_at (O.in_qpack q) bytes piece h = qpack_at bytes q piece
  feed_at O.in_skipped bytes piece h = record { there = tt }

alone_goes : (u₀ h₀ : ℕ) (e₀ : O.OneEvent) (o : O.OneOutcome) {u h : ℕ} {e : Event} {w : O.OneState} → alone_by u₀ h₀ e₀ o ≡ goes u h e w → (o ≡ O.lives w) × (u₀ ≡ u) × (h₀ ≡ h)
unfolding alone_by
alone_goes u₀ h₀ e₀ (O.lives s) q = (cc, cc, cc)
alone_goes u₀ h₀ e₀ (O.dies code) q = let z : ◌≡◌ {A = ℕ} 0 1 = cc in absurd (omega arith)

pub reached_at : {s : Shown streams} {w : O.OneState} → Reached₁ alone s w → At s.bytes w
unfolding nothing plus_feed
reached_at at_first = unfold resumed in (λ y. refl)
reached_at (by_feed {s = s} {w = w} {w' = w'} {allow = allow} {u = u} {piece = piece} t q) =
    let f = O.feed [] allow w piece in
    let a = alone_goes f.used f.heads f.event f.after q in
    let x = (feed_at allow w s.bytes piece (reached_at t)).there in
    subst (AtBy (s.bytes ++ take u piece)) a.0 (subst (λ n. AtBy (s.bytes ++ take n piece) f.after) a.1 x)

-- ---- a feed that finished as many headers as it was allowed stops inside none

abbrev Outside₁ : O.OneOutcome → Type 0
Outside₁ (O.lives (O.in_stream_type g)) = Unit {0}
Outside₁ (O.lives (O.in_control s)) = InHeader s → ⊥
Outside₁ (O.lives (O.in_qpack q)) = Unit {0}
Outside₁ (O.lives O.in_skipped) = Unit {0}
Outside₁ (O.dies n) = Unit {0}

record Held₁ (allow : ℕ) (f : O.OneFeeding) : Type 0 where
  holds : f.heads ≡ allow → Outside₁ f.after

controlled_outside : (o : Outcome Control) → Outside o → Outside₁ (O.controlled o)
unfolding O.controlled
controlled_outside (M.lives s) w = w
controlled_outside (M.dies n) w = tt

qpack_held : (allow : ℕ) (q : Qpack) (piece : List ℕ) → Held₁ allow (O.qpack_feed q piece)
unfolding O.qpack_feed O.halt
qpack_held allow q [] = record { holds = λ e. tt }
qpack_held allow q (b ∷ bs) = record { holds = λ e. tt }

typed_held : (allow : ℕ) (x : Typed) (piece : List ℕ) → Held₁ allow (O.typed_feed allow x piece)
unfolding O.typed_feed O.kind_feed O.halt O.of_control
typed_held allow (W.refuse n) piece = record { holds = λ e. tt }
typed_held allow (W.is W.a_control) piece = record { holds = λ e. controlled_outside _ (begins_outside control allow (between unset) (λ i. i) piece e) }
typed_held allow (W.is (W.a_qpack q)) piece = qpack_held allow q piece
typed_held allow (W.is W.skipped) piece = record { holds = λ e. tt }

also_held₁ : (allow : ℕ) (f : O.OneFeeding) → Held₁ allow f → Held₁ allow (O.also f)
unfolding O.also
also_held₁ allow f w = record { holds = w.holds }

module _ (seen : List ℕ) (allow : ℕ) where
  byte_held : (bs : List ℕ) → ((g : Prog) → Held₁ allow (O.type_feed seen allow g bs)) → (x : M.Fed)
      → Held₁ allow (elim x [ M.going g ↦ O.type_feed seen allow g bs | M.value t ↦ O.typed_feed allow (type_rule seen t) bs ])
  byte_held bs ih (M.going g) = ih g
  byte_held bs ih (M.value t) = typed_held allow (type_rule seen t) bs

  type_held : (piece : List ℕ) (g : Prog) → Held₁ allow (O.type_feed seen allow g piece)
  unfolding O.type_feed O.halt
  type_held [] g = record { holds = λ e. tt }
  type_held (b ∷ bs) g = also_held₁ allow _ (byte_held bs (type_held bs) (M.fed g b))

one_outside : (allow : ℕ) (w : O.OneState) (piece : List ℕ) → (O.feed [] allow w piece).heads ≡ allow → 1 ≤ (O.feed [] allow w piece).used → Outside₁ (O.feed [] allow w piece).after
unfolding O.feed O.kind_feed O.of_control
one_outside allow (O.in_stream_type g) piece q l = (type_held [] allow piece g).holds q
one_outside allow (O.in_control s) piece q l = controlled_outside _ (feed_outside control allow s piece q l)
one_outside allow (O.in_qpack c) piece q l = (qpack_held allow c piece).holds q
one_outside allow O.in_skipped piece q l = tt

-- ---- over traces

-- the reading of a control stream's bytes, and where its last payload ends
pub control_reads : (bytes : List ℕ) (s : State Control) → ControlAt bytes (M.lives s) → (r : Reading) × (W.one_way_read [] bytes ≡ W.of_control r)
    × EndsBy control (length bytes) (last_end (type_end (integer 0 bytes)) r.said) (M.settled control (length bytes) [] (M.lives s))
unfolding W.one_way_read W.behind_type W.typed type_end
control_reads bytes s w =
    let i = integer_length 0 bytes w.read in
    let z : w.next + length w.rest ≡ length bytes = omega arith in
    let a = rw z at (run_ends control w.next w.next w.next (M.fresh_run control []) w.rest refl) in
    let b = subst (EndsBy control (length bytes) (last_end w.next (M.lists control w.next w.next (M.fresh_run control []) w.rest))) (sym w.state) a in
    let r : Reading = record { said = M.lists control w.next w.next (M.fresh_run control []) w.rest; verdict = M.finished control (length bytes) (M.run control w.next (M.fresh_run control []) w.rest) } in
    let q : W.one_way_read [] bytes ≡ W.of_control r = (rw (w.read, w.kind) refl) ∙ ap W.of_control (read_from_is control w.next (length bytes) [] w.rest z) in
    (r, q, rw w.read b)

none_further₁ : (bytes : List ℕ) (s : State Control) → ControlAt bytes (M.lives s) → (InHeader s → ⊥) → NoFurther₁ bytes
none_further₁ bytes s w n r e =
    let c = control_reads bytes s w in
    let k = one_reading (sym e ∙ c.1) in
    rw k (not_behind control (length bytes) _ s c.2 n)
  where
    one_reading : {x y : Reading} → W.of_control x ≡ W.of_control y → x ≡ y
    one_reading e = cc

-- another stream than a control stream shows no such type
of_other : (bytes : List ℕ) (w : O.OneState) → type_shown (W.one_way_read [] bytes) ≡ is_for w → At bytes w → Outside₁ (O.lives w) → NoFurther₁ bytes
unfolding type_shown is_for
of_other bytes (O.in_stream_type g) t h x r e = absurd (none-ne-some as_control (sym t ∙ ap type_shown e))
of_other bytes (O.in_control s) t h x r e = none_further₁ bytes s h x r e
of_other bytes (O.in_qpack W.encoder) t h x r e = let z = sym t ∙ ap type_shown e in let y : ◌≡◌ {A = ℕ} 0 1 = cc in absurd (omega arith)
of_other bytes (O.in_qpack W.decoder) t h x r e = let z = sym t ∙ ap type_shown e in let y : ◌≡◌ {A = ℕ} 0 1 = cc in absurd (omega arith)
of_other bytes O.in_skipped t h x r e = absurd (none-ne-some as_control (sym t ∙ ap type_shown e))

fed_further : (s : Shown streams) (w w' : O.OneState) (allow u h : ℕ) (piece : List ℕ) (e : Event) → Reached₁ alone s w → alone.alone₁ w allow piece ≡ goes u h e w' → h ≡ allow → 1 ≤ u → NoFurther₁ (s.bytes ++ take u piece)
unfolding plus_feed
fed_further s w w' allow u h piece e t q z l =
    let f = O.feed [] allow w piece in
    let a = alone_goes f.used f.heads f.event f.after q in
    let t' : Reached₁ alone (plus_feed u h e piece s) w' = by_feed t q in
    of_other (s.bytes ++ take u piece) w' (type_shown_lem t') (reached_at t') (subst Outside₁ a.0 (one_outside allow w piece (a.2 ∙ z) (omega (arith, l, a.1))))

further_agrees : (id : ℕ) (p : Pair streams) (v : View streams) (allow u h : ℕ) (piece : List ℕ) (e : Event) → v.fate ≡ running → (call (on id (feed allow piece)) p).answer ≡ gave (fed u h e)
    → h ≡ allow → 1 ≤ u → Agrees (Says alone) (Story₁ alone) id p v → NoFurther₁ (v.shown.bytes ++ take u piece)
unfolding act_on act₁
further_agrees id p v allow u h piece e n q z l (over {f = f} t g) = absurd (not_running f ((story₁ alone).shut t) n)
further_agrees id p v allow u h piece e n q z l (open_still {s = s} a (says {w = w} t) f) =
    let k = p.conn.kept in
    let c = got_heard id p (λ x. record { stream = telling x.state; kept = x.kept }) u h e (streams.feed₁ k w allow piece) (sym (ap (λ x. x.answer) (call_on p id (telling w) (feed allow piece) a f)) ∙ q) in
    fed_further s w c.0.state allow u h piece e t (by_itself (alone.like k w allow piece) c.1) z l

-- NO HEADER BYTE ONCE THE ALLOWANCE IS REACHED, of a one-way stream that runs: on a control stream no byte is behind the payload of the last header finished
pub no_further_header₁ : (id : ℕ) → kind_of id ≡ some one_way → (cs : List (Call streams)) (allow used heads : ℕ) (piece : List ℕ) (e : Event) → (view id (trace fresh cs)).fate ≡ running
    → (call (on id (feed allow piece)) (run fresh cs)).answer ≡ gave (fed used heads e) → heads ≡ allow → 1 ≤ used → NoFurther₁ ((view id (trace fresh cs)).shown.bytes ++ take used piece)
no_further_header₁ id k cs allow u h piece e n q z l = further_agrees id (run fresh cs) (view id (trace fresh cs)) allow u h piece e n q z l (agrees (story₁ alone) id cs k)
