-- DEMAND 2 for one-way streams over traces: whatever the trace, what a control stream has reported, what was handed over of a QPACK stream, and
-- the headers counted are what the bytes consumed mean (rules, OneWay), and so is the stream's fate. Assumes nothing.
use Rattle.std.proofs.Math.Path.{◌≡◌, refl, sym, ap, ap₂, subst}
use Rattle.std.proofs.Common.{◌∙◌, arith, inl, inr, take-append-drop}
use Prim.Native.Nat.{ℕ, suc, ◌-◌, ◌≤◌}
use mathlib.Core.List.{List, [], ◌∷◌, ◌++◌, map, append-nil, append_assoc, map-append}
use Rattle.std.proofs.Math.Option.{Option, none, some}
use Rattle.std.specs.Prelude.{◌⊎◌, length, drop}
use Rattle.std.proofs.Math.ListN.{take}
use Rattle.std.proofs.Math.Seq.{take-length}
use Rattle.rules.specs.Numbers.{ConnectionFault, stream_creation_error, Code, of_connection, closed_critical_stream}
use Rattle.rules.specs.Integers.{Int, cut, got, integer}
use Rattle.rules.specs.Reading as R
use Rattle.rules.specs.Control.{Control, control, Told, told_settings, told_goaway, told_max_push_id, told_nothing, tells}
use Rattle.rules.specs.OneWay as W
use Rattle.rules.specs.OneWay.{Qpack, encoder, decoder}
use Rattle.meaning.specs.IntegerLaws.{integer_append}
use Rattle.meaning.specs.Machine as M
use Rattle.meaning.specs.Feed as F
use Rattle.meaning.specs.Feeds.{unheaded, headers_in}
use Rattle.meaning.specs.EveryFeed.{ReadsOn}
use Rattle.meaning.proofs.EveryFeed.{feed_silent}
use Rattle.meaning.specs.OneWayFeed as O
use Rattle.meaning.specs.OneWayFirst.{Struck, NoFault}
use Rattle.meaning.proofs.OneWayFirst.{calls_struck, calls_unhurt}
use Rattle.meaning.specs.OneWays.{Came, still_untyped, type_refused, a_control_stream, a_qpack_stream, a_skipped_stream, ReadsOnOne}
use Rattle.meaning.proofs.OneWays.{calls_read, always_reads}
use Rattle.rules.specs.Calls.{Notice, told_by, notices_in, of_type, part_by, qpack_in, Event, content_in, section_in, goes, faults, end, reset, of_closed, map_out, freed, act₁, one_way, kind_of, telling, Pair, Call, on, Answer, left as is-left, code as is_code, with, faulted, settle, act_on, fresh, call, run, trace}
use Rattle.rules.specs.Shown.{Shown, Fate, unopened, spent, running, ended, dropped, refused, lost, View, nothing, plus_feed, plus_bytes, view}
use Rattle.traces.specs.Alone.{call_on}
use Rattle.traces.specs.Follow.{Agrees, open_still, over, not_running}
use Rattle.traces.specs.Oneways.{Both, Reached₁, at_first, by_feed, Story₁, not_yet, never, cut_off, closed, closed_critical, bad_feed, second_of_type, Says, says, story₁, follows₁}
use Rattle.demands.specs.Streams.{Keeps, types_in, notice_of, frames_event, one_event, heard_by, type_of, close_of, streams}
use Rattle.demands.specs.Reads.{part_is}
use Rattle.demands.specs.Becomes.{Once, as_control, as_encoder, as_decoder, is_for}
use Rattle.demands.specs.Moves.{alone_by, alone_of, alone}

-- ---- DEFINITION: what the bytes of a one-way stream report, count and come to

-- what kept frames report, in order
unfoldable pub notices_of : List R.Saying → List Notice
notices_of [] = []
notices_of (R.header h u ∷ xs) = notices_of xs
notices_of (R.refused h ∷ xs) = notices_of xs
notices_of (R.section_byte b ∷ xs) = notices_of xs
notices_of (R.content_byte b ∷ xs) = notices_of xs
notices_of (R.frame_kept k p ∷ xs) = notices_in (notice_of (tells k p)) ++ notices_of xs

unfoldable pub notices_by : W.OneWay → List Notice
notices_by W.untyped = []
notices_by (W.refused code place) = []
notices_by (W.of_control r) = notices_of r.said
notices_by (W.of_qpack q bytes) = []
notices_by W.passed_over = []

-- the bytes behind the type
unfoldable pub qpack_by : W.OneWay → List (ℕ × ℕ)
qpack_by W.untyped = []
qpack_by (W.refused code place) = []
qpack_by (W.of_control r) = []
qpack_by (W.of_qpack q bytes) = of_type (type_of q) bytes
qpack_by W.passed_over = []

unfoldable pub heads_by : W.OneWay → ℕ
heads_by W.untyped = 0
heads_by (W.refused code place) = 0
heads_by (W.of_control r) = headers_in r.said
heads_by (W.of_qpack q bytes) = 0
heads_by W.passed_over = 0

-- the fault that the bytes bring, or else the one of closing
unfoldable pub fault_by : W.OneWay → Option Code
fault_by m = W.closed m

-- ---- what events report, and what is said

notices_append : (x y : List R.Saying) → notices_of (x ++ y) ≡ notices_of x ++ notices_of y
unfolding notices_of
notices_append [] y = refl
notices_append (R.header h u ∷ x) y = notices_append x y
notices_append (R.refused h ∷ x) y = notices_append x y
notices_append (R.section_byte b ∷ x) y = notices_append x y
notices_append (R.content_byte b ∷ x) y = notices_append x y
notices_append (R.frame_kept k p ∷ x) y = let t = notices_in (notice_of (tells k p)) in ap (λ l. t ++ l) (notices_append x y) ∙ sym (append_assoc t (notices_of x) (notices_of y))

-- headers report nothing
notices_unheaded : (x : List R.Saying) → notices_of (unheaded x) ≡ notices_of x
unfolding notices_of unheaded
notices_unheaded [] = refl
notices_unheaded (R.header h u ∷ x) = notices_unheaded x
notices_unheaded (R.refused h ∷ x) = notices_unheaded x
notices_unheaded (R.section_byte b ∷ x) = notices_unheaded x
notices_unheaded (R.content_byte b ∷ x) = notices_unheaded x
notices_unheaded (R.frame_kept k p ∷ x) = ap (λ l. notices_in (notice_of (tells k p)) ++ l) (notices_unheaded x)

-- nor do section bytes and content
no_notices : (p : List ℕ) → (notices_of (map R.section_byte p) ≡ []) × (notices_of (map R.content_byte p) ≡ [])
unfolding notices_of
no_notices [] = (refl, refl)
no_notices (b ∷ p) = no_notices p

event_tells : (e : O.OneEvent) (u : ℕ) (piece : List ℕ) → notices_in (one_event u e) ≡ notices_of (O.shows e u piece).frames
unfolding notices_in one_event frames_event O.shows F.shows notices_of told_by
event_tells (O.of_frames F.quiet) u piece = refl
event_tells (O.of_frames (F.section_bytes len last)) u piece = sym (no_notices (drop (u - len) (take u piece))).0
event_tells (O.of_frames (F.content_bytes len)) u piece = sym (no_notices (drop (u - len) (take u piece))).1
event_tells (O.of_frames (F.taken k p)) u piece = sym (append-nil (notices_in (notice_of (tells k p))))
event_tells (O.qpack_bytes q len) u piece = refl

-- a one-way stream hands over neither content nor section bytes; frames are no part of a QPACK stream
told_bare : (t : Told) (piece : List ℕ) → (content_in (notice_of t) piece ≡ []) × (section_in (notice_of t) piece ≡ []) × (qpack_in (notice_of t) piece ≡ [])
unfolding notice_of content_in section_in qpack_in part_by
told_bare (told_settings s) piece = (refl, refl, refl)
told_bare (told_goaway id) piece = (refl, refl, refl)
told_bare (told_max_push_id id) piece = (refl, refl, refl)
told_bare told_nothing piece = (refl, refl, refl)

frames_bare : (e : F.Event) (piece : List ℕ) → (content_in (frames_event e) piece ≡ []) × (section_in (frames_event e) piece ≡ []) × (qpack_in (frames_event e) piece ≡ [])
unfolding frames_event content_in section_in qpack_in
frames_bare F.quiet piece = (refl, refl, refl)
frames_bare (F.section_bytes len last) piece = (refl, refl, refl)
frames_bare (F.content_bytes len) piece = (refl, refl, refl)
frames_bare (F.taken k p) piece = unfold content_in section_in qpack_in in told_bare (tells k p) piece

event_bare : (e : O.OneEvent) (u : ℕ) (piece : List ℕ) → (content_in (one_event u e) piece ≡ []) × (section_in (one_event u e) piece ≡ [])
unfolding one_event content_in section_in
event_bare (O.of_frames e) u piece = unfold content_in section_in in ((frames_bare e piece).0, (frames_bare e piece).1)
event_bare (O.qpack_bytes q len) u piece = (refl, refl)

-- ---- what a feed names: an event of frames, or a part of the QPACK stream that it then is

abbrev SameType : O.OneState → O.OneOutcome → Type 0
SameType (O.in_stream_type g) o = Unit {0}
SameType (O.in_control s) o = Unit {0}
SameType (O.in_qpack q) o = o ≡ O.lives (O.in_qpack q)
SameType O.in_skipped o = Unit {0}

data Names (w : O.OneState) (u : ℕ) : O.OneEvent → O.OneOutcome → Type 0 where
  frames_only : {e : F.Event} {o : O.OneOutcome} → SameType w o → ((code : Code) → o ≡ O.dies code → e ≡ F.quiet) → Names w u (O.of_frames e) o
  a_part : {q : Qpack} {len : ℕ} → len ≤ u → SameType w (O.lives (O.in_qpack q)) → Names w u (O.qpack_bytes q len) (O.lives (O.in_qpack q))

abbrev NamesIn : O.OneState → O.OneFeeding → Type 0
NamesIn w f = Names w f.used f.event f.after

more : {w : O.OneState} {u : ℕ} {e : O.OneEvent} {o : O.OneOutcome} → Names w u e o → Names w (suc u) e o
more (frames_only s q) = frames_only s q
more {u = u} (a_part {len = len} l s) = a_part (let z : len ≤ suc u = omega arith in z) s

also_names : (w : O.OneState) (f : O.OneFeeding) → NamesIn w f → NamesIn w (O.also f)
unfolding O.also
also_names w f n = more n

controlled_dies : (o : M.Outcome Control) (code : Code) → O.controlled o ≡ O.dies code → o ≡ M.dies code
unfolding O.controlled
controlled_dies (M.lives s) code e = let z : ◌≡◌ {A = ℕ} 0 1 = cc in absurd (omega arith)
controlled_dies (M.dies c) code e = cc

control_names : (w : O.OneState) (allow : ℕ) (s : M.State Control) (piece : List ℕ) → ((o : O.OneOutcome) → SameType w o) → NamesIn w (O.of_control (F.feed control allow s piece))
unfolding O.of_control
control_names w allow s piece t =
    let f = F.feed control allow s piece in frames_only (t (O.controlled f.after)) (λ code e. feed_silent control allow s piece code (controlled_dies f.after code e))

qpack_names : (w : O.OneState) (q : Qpack) (piece : List ℕ) → SameType w (O.lives (O.in_qpack q)) → NamesIn w (O.qpack_feed q piece)
unfolding O.qpack_feed O.halt
qpack_names w q [] s = frames_only s (λ code e. refl)
qpack_names w q (b ∷ bs) s = let z : length (b ∷ bs) ≤ length (b ∷ bs) = omega arith in a_part z s

module _ (seen : List ℕ) where
  module _ (g₀ : M.Prog) (allow : ℕ) where
    abbrev From : O.OneFeeding → Type 0
    From f = NamesIn (O.in_stream_type g₀) f

    typed_names : (x : W.Typed) (piece : List ℕ) → From (O.typed_feed allow x piece)
    unfolding O.typed_feed O.kind_feed O.halt
    typed_names (W.refuse code) piece = frames_only tt (λ code e. refl)
    typed_names (W.is W.a_control) piece = control_names (O.in_stream_type g₀) allow _ piece (λ o. tt)
    typed_names (W.is (W.a_qpack q)) piece = qpack_names (O.in_stream_type g₀) q piece tt
    typed_names (W.is W.skipped) piece = frames_only tt (λ code e. refl)

    byte_names : (bs : List ℕ) → ((g : M.Prog) → From (O.type_feed seen allow g bs)) → (x : M.Fed)
        → From (elim x as (λ y. O.OneFeeding) [ M.going g ↦ O.type_feed seen allow g bs | M.value t ↦ O.typed_feed allow (W.type_rule seen t) bs ])
    byte_names bs ih (M.going g) = ih g
    byte_names bs ih (M.value t) = typed_names (W.type_rule seen t) bs

    type_names : (piece : List ℕ) (g : M.Prog) → From (O.type_feed seen allow g piece)
    unfolding O.type_feed O.halt
    type_names [] g = frames_only tt (λ code e. refl)
    type_names (b ∷ bs) g = also_names _ _ (byte_names bs (type_names bs) (M.fed g b))

  feed_names : (allow : ℕ) (w : O.OneState) (piece : List ℕ) → NamesIn w (O.feed seen allow w piece)
  unfolding O.feed O.kind_feed
  feed_names allow (O.in_stream_type g) piece = type_names g allow piece g
  feed_names allow (O.in_control s) piece = control_names (O.in_control s) allow s piece (λ o. tt)
  feed_names allow (O.in_qpack q) piece = qpack_names (O.in_qpack q) q piece refl
  feed_names allow O.in_skipped piece = frames_only tt (λ code e. refl)

-- a fault is silent
silent : {w : O.OneState} {u : ℕ} {e : O.OneEvent} {o : O.OneOutcome} {code : Code} → Names w u e o → o ≡ O.dies code → e ≡ O.of_frames F.quiet
silent {code = code} (frames_only s q) d = ap O.of_frames (q code d)
silent (a_part l s) d = let z : ◌≡◌ {A = ℕ} 0 1 = cc in absurd (omega arith)

-- ---- QPACK bytes are reported with the type of the stream that they came on

abbrev Tagged : List (ℕ × ℕ) → List ℕ → O.OneOutcome → Type 0
Tagged t raw (O.lives (O.in_stream_type g)) = (t ≡ []) × (raw ≡ [])
Tagged t raw (O.lives (O.in_control s)) = (t ≡ []) × (raw ≡ [])
Tagged t raw (O.lives (O.in_qpack q)) = t ≡ of_type (type_of q) raw
Tagged t raw (O.lives O.in_skipped) = (t ≡ []) × (raw ≡ [])
Tagged t raw (O.dies code) = (t ≡ []) × (raw ≡ [])

none_tagged : (t : List (ℕ × ℕ)) (raw : List ℕ) (o : O.OneOutcome) → t ≡ [] → raw ≡ [] → Tagged t raw o
unfolding of_type
none_tagged t raw (O.lives (O.in_stream_type g)) a b = (a, b)
none_tagged t raw (O.lives (O.in_control s)) a b = (a, b)
none_tagged t raw (O.lives (O.in_qpack q)) a b = rw (a, b) refl
none_tagged t raw (O.lives O.in_skipped) a b = (a, b)
none_tagged t raw (O.dies code) a b = (a, b)

tagged_none : (t : List (ℕ × ℕ)) (raw : List ℕ) (o : O.OneOutcome) → Tagged t raw o → raw ≡ [] → t ≡ []
unfolding of_type
tagged_none t raw (O.lives (O.in_stream_type g)) h e = h.0
tagged_none t raw (O.lives (O.in_control s)) h e = h.0
tagged_none t raw (O.lives (O.in_qpack q)) h e = h ∙ ap (map (λ b. (type_of q, b))) e
tagged_none t raw (O.lives O.in_skipped) h e = h.0
tagged_none t raw (O.dies code) h e = h.0

still_tagged : (w : O.OneState) (t : List (ℕ × ℕ)) (raw : List ℕ) (o : O.OneOutcome) → SameType w o → Tagged t raw (O.lives w) → Tagged t raw o
still_tagged (O.in_stream_type g) t raw o s h = none_tagged t raw o h.0 h.1
still_tagged (O.in_control c) t raw o s h = none_tagged t raw o h.0 h.1
still_tagged (O.in_qpack q) t raw o s h = subst (Tagged t raw) (sym s) h
still_tagged O.in_skipped t raw o s h = none_tagged t raw o h.0 h.1

of_append : (n : ℕ) (x y : List ℕ) → of_type n (x ++ y) ≡ of_type n x ++ of_type n y
unfolding of_type
of_append n x y = map-append (λ b. (n, b)) x y

tagged_fed : (w : O.OneState) (t : List (ℕ × ℕ)) (raw piece : List ℕ) (u : ℕ) {e : O.OneEvent} {o : O.OneOutcome} → Names w u e o → Tagged t raw (O.lives w)
    → Tagged (t ++ qpack_in (one_event u e) piece) (raw ++ (O.shows e u piece).qpack) o
unfolding one_event O.shows qpack_in part_by
tagged_fed w t raw piece u (frames_only {e = e} {o = o} s q) h =
    let x : t ++ qpack_in (frames_event e) piece ≡ t = ap (λ l. t ++ l) (frames_bare e piece).2 ∙ append-nil t in
    subst (λ l. Tagged l (raw ++ []) o) (sym x) (subst (λ l. Tagged t l o) (sym (append-nil raw)) (still_tagged w t raw o s h))
tagged_fed w t raw piece u (a_part {q = q} {len = len} l s) h =
    ap₂ ◌++◌ (still_tagged w t raw (O.lives (O.in_qpack q)) s h) (ap (of_type (type_of q)) (part_is len u piece l)) ∙ sym (of_append (type_of q) raw (drop (u - len) (take u piece)))

-- ---- what a stream shows is what some feeds came to

abbrev done_of : Shown streams → List R.Saying → List ℕ → O.OneOutcome → O.Done
done_of s frames raw o = record { bytes = s.bytes; frames = frames; qpack = raw; heads = s.heads; after = o }

-- a control stream may never end
control_closes : (n : ℕ) (c : M.State Control) → ReadsOn c → W.fault_in (M.finished control n (M.settled control n [] (M.lives c))) ≡ some (of_connection closed_critical_stream)
unfolding M.settled M.supplied M.finished M.finish W.fault_in R.ended
control_closes n (M.in_type M.fresh p) h = refl
control_closes n (M.in_type (M.need k v) p) h = refl
control_closes n (M.in_length t g p) h = refl
control_closes n (M.in_payload u k left p) h = refl
control_closes n (M.due t p) h = absurd h

unfoldable pub code_for : Option ConnectionFault → Option Code
code_for none = none
code_for (some c) = some (of_connection c)

lived : (w w' : O.OneState) → O.lives w ≡ O.lives w' → w ≡ w'
lived w w' e = cc

control_by : (w : O.OneState) (c : M.Outcome Control) (n : ℕ) (v : R.Verdict) → ReadsOnOne w → O.lives w ≡ O.controlled c → v ≡ M.finished control n (M.settled control n [] c)
    → W.fault_in v ≡ code_for (close_of w)
unfolding O.controlled
control_by w (M.lives s) n v h a e =
    let z = lived w (O.in_control s) a in
    let y = control_closes n s (subst ReadsOnOne z h) in
    ap W.fault_in e ∙ y ∙ unfold code_for close_of in (rw z refl)
control_by w (M.dies code) n v h a e = let z : ◌≡◌ {A = ℕ} 0 1 = cc in absurd (omega arith)

module _ (seen : List ℕ) where
  record Been (s : Shown streams) (o : O.OneOutcome) : Type 0 where
    made : List O.Call
    frames : List R.Saying
    raw : List ℕ
    came : O.calls seen O.nothing_done made ≡ done_of s frames raw o
    notices : s.notices ≡ notices_of frames
    tagged : Tagged s.qpack raw o
    content : s.content ≡ []
    blocks : s.blocks ≡ []

  calls_then : (d : O.Done) (cs : List O.Call) (c : O.Call) → O.calls seen d (cs ++ (c ∷ [])) ≡ O.called seen (O.calls seen d cs) c (O.calls seen d cs).after
  unfolding O.calls
  calls_then d [] c = refl
  calls_then d (x ∷ cs) c = calls_then (O.called seen d x d.after) cs c

  been_first : Been nothing (O.lives (O.in_stream_type M.fresh))
  unfolding nothing
  been_first = record {
    made = [];
    frames = [];
    raw = [];
    came = unfold O.calls O.nothing_done in refl;
    notices = unfold notices_of in refl;
    tagged = (refl, refl);
    content = refl;
    blocks = refl;
  }

  been_fed : (s : Shown streams) (w : O.OneState) (allow : ℕ) (piece : List ℕ) → Been s (O.lives w)
      → let f = O.feed seen allow w piece in Been (plus_feed f.used f.heads (one_event f.used f.event) piece s) f.after
  unfolding plus_feed
  been_fed s w allow piece b =
      let f = O.feed seen allow w piece in
      let shown = O.shows f.event f.used piece in
      let x = event_bare f.event f.used piece in
      record {
        made = b.made ++ (O.feed_call allow piece ∷ []);
        frames = b.frames ++ shown.frames;
        raw = b.raw ++ shown.qpack;
        came = calls_then O.nothing_done b.made (O.feed_call allow piece)
            ∙ ap (λ d. O.called seen d (O.feed_call allow piece) d.after) b.came ∙ unfold O.called O.done_then in refl;
        notices = ap₂ ◌++◌ b.notices (event_tells f.event f.used piece) ∙ sym (notices_append b.frames shown.frames);
        tagged = tagged_fed w s.qpack b.raw piece f.used (feed_names seen allow w piece) b.tagged;
        content = ap₂ ◌++◌ b.content x.0;
        blocks = ap₂ ◌++◌ b.blocks x.1;
      }

  -- so the bytes up to it are all that a fault adds
  been_dead : (s : Shown streams) (w : O.OneState) (allow u h : ℕ) (code : Code) (piece : List ℕ) → Been s (O.lives w) → let f = O.feed seen allow w piece in
      f.after ≡ O.dies code → f.used ≡ u → f.heads ≡ h → Been (plus_bytes u h piece s) (O.dies code)
  unfolding plus_bytes
  been_dead s w allow u h code piece b e x y =
      let z = silent (feed_names seen allow w piece) e in
      let v = rw (z, e, x, y) at (been_fed s w allow piece b) in
      unfold plus_feed one_event frames_event content_in section_in notices_in qpack_in in
      (rw (append-nil s.content, append-nil s.blocks, append-nil s.notices, append-nil s.qpack) at v)

  -- a fault is one of the bytes, whatever follows; and where there was none, the bytes have none
  been_struck : (s : Shown streams) (code : Code) → Been s (O.dies code) → Struck seen code s.bytes
  been_struck s code b = subst (λ d. Struck seen code d.bytes) b.came (calls_struck seen b.made code (ap (λ d. d.after) b.came))

  been_unhurt : (s : Shown streams) (w : O.OneState) → Been s (O.lives w) → NoFault seen s.bytes
  been_unhurt s w b = subst (λ d. NoFault seen d.bytes) b.came (calls_unhurt seen b.made w (ap (λ d. d.after) b.came))

  -- in the words of the definition

  came_of : (s : Shown streams) (o : O.OneOutcome) (b : Been s o) → Came seen (done_of s b.frames b.raw o) (W.one_way_read seen s.bytes)
  came_of s o b = subst (λ d. Came seen d (W.one_way_read seen d.bytes)) b.came (calls_read seen b.made)

  -- what a one-way stream has shown is what the bytes consumed report
  pub record Hears (s : Shown streams) : Type 0 where
    pub notices : s.notices ≡ notices_by (W.one_way_read seen s.bytes)
    pub qpack : s.qpack ≡ qpack_by (W.one_way_read seen s.bytes)
    pub heads : s.heads ≡ heads_by (W.one_way_read seen s.bytes)
    pub content : s.content ≡ []
    pub blocks : s.blocks ≡ []

  abbrev HearsBy : Shown streams → W.OneWay → Type 0
  HearsBy s m = (s.notices ≡ notices_by m) × (s.qpack ≡ qpack_by m) × (s.heads ≡ heads_by m)

  hears_none : (s : Shown streams) (o : O.OneOutcome) (b : Been s o) → b.frames ≡ [] → s.notices ≡ []
  hears_none s o b f = b.notices ∙ ap notices_of f ∙ unfold notices_of in refl

  hears_by : (s : Shown streams) (o : O.OneOutcome) (b : Been s o) {m : W.OneWay} → Came seen (done_of s b.frames b.raw o) m → HearsBy s m
  unfolding notices_by qpack_by heads_by
  hears_by s o b (still_untyped a f q n) = (hears_none s o b f, tagged_none s.qpack b.raw o b.tagged q, n)
  hears_by s o b (type_refused a f q n) = (hears_none s o b f, tagged_none s.qpack b.raw o b.tagged q, n)
  hears_by s o b (a_control_stream {r = r} c a f q n v) = (b.notices ∙ ap notices_of f ∙ notices_unheaded r.said, tagged_none s.qpack b.raw o b.tagged q, n)
  hears_by s o b (a_qpack_stream a f n) = (hears_none s o b f, subst (Tagged s.qpack b.raw) a b.tagged, n)
  hears_by s o b (a_skipped_stream a f q n) = (hears_none s o b f, tagged_none s.qpack b.raw o b.tagged q, n)

  hears : (s : Shown streams) (o : O.OneOutcome) → Been s o → Hears s
  hears s o b = let h = hears_by s o b (came_of s o b) in record { notices = h.0; qpack = h.1; heads = h.2; content = b.content; blocks = b.blocks }

  -- a fault is the one that the bytes bring
  dead_by_lem : (s : Shown streams) (code : Code) (b : Been s (O.dies code)) {m : W.OneWay} → Came seen (done_of s b.frames b.raw (O.dies code)) m → W.closed m ≡ some code
  unfolding W.closed
  dead_by_lem s code b (still_untyped a f q n) = let z : ◌≡◌ {A = ℕ} 0 1 = cc in absurd (omega arith)
  dead_by_lem s code b (type_refused a f q n) = ap some (cc)
  dead_by_lem s code b (a_control_stream {r = r} c a f q n v) =
      let e = controlled_dies c code (sym a) in
      ap W.fault_in (v ∙ ap (λ o. M.finished control (length s.bytes) (M.settled control (length s.bytes) [] o)) e) ∙ unfold M.finished M.settled W.fault_in in refl
  dead_by_lem s code b (a_qpack_stream a f n) = let z : ◌≡◌ {A = ℕ} 0 1 = cc in absurd (omega arith)
  dead_by_lem s code b (a_skipped_stream a f q n) = let z : ◌≡◌ {A = ℕ} 0 1 = cc in absurd (omega arith)

  -- closing
  close_by : (s : Shown streams) (w : O.OneState) (b : Been s (O.lives w)) {m : W.OneWay} → ReadsOnOne w → Came seen (done_of s b.frames b.raw (O.lives w)) m
      → W.closed m ≡ code_for (close_of w)
  unfolding W.closed
  close_by s w b h (still_untyped {g = g} a f q n) = unfold code_for close_of in (rw (lived w (O.in_stream_type g) a) refl)
  close_by s w b h (type_refused a f q n) = let z : ◌≡◌ {A = ℕ} 0 1 = cc in absurd (omega arith)
  close_by s w b h (a_control_stream {r = r} c a f q n v) = control_by w c (length s.bytes) r.verdict h a v
  close_by s w b h (a_qpack_stream {q = q} a f n) = unfold code_for close_of in (rw (lived w (O.in_qpack q) a) refl)
  close_by s w b h (a_skipped_stream a f q n) = unfold code_for close_of in (rw (lived w O.in_skipped a) refl)

  closes : (s : Shown streams) (w : O.OneState) → Been s (O.lives w) → fault_by (W.one_way_read seen s.bytes) ≡ code_for (close_of w)
  unfolding fault_by
  closes s w b = close_by s w b (always_reads seen b.made w (ap (λ d. d.after) b.came)) (came_of s (O.lives w) b)

-- ---- every stream that accepted feeds lead to

pub alone_goes : (u₀ h₀ : ℕ) (e₀ : O.OneEvent) (o : O.OneOutcome) {u h : ℕ} {e : Event} {w : O.OneState} → alone_by u₀ h₀ e₀ o ≡ goes u h e w
    → (o ≡ O.lives w) × (u₀ ≡ u) × (h₀ ≡ h) × (one_event u₀ e₀ ≡ e)
unfolding alone_by
alone_goes u₀ h₀ e₀ (O.lives s) q = (cc, cc, cc, cc)
alone_goes u₀ h₀ e₀ (O.dies code) q = let z : ◌≡◌ {A = ℕ} 0 1 = cc in absurd (omega arith)

alone_faults : (u₀ h₀ : ℕ) (e₀ : O.OneEvent) (o : O.OneOutcome) {u h : ℕ} {k : Code} → alone_by u₀ h₀ e₀ o ≡ faults k u h
    → (code : Code) × (o ≡ O.dies code) × (u₀ ≡ u) × (h₀ ≡ h) × (code ≡ k)
unfolding alone_by
alone_faults u₀ h₀ e₀ (O.lives s) q = let z : ◌≡◌ {A = ℕ} 0 1 = cc in absurd (omega arith)
alone_faults u₀ h₀ e₀ (O.dies code) q = (code, refl, cc, cc, cc)

been_goes : (s : Shown streams) (w w' : O.OneState) (allow u h : ℕ) (piece : List ℕ) (e : Event) → Been [] s (O.lives w) → alone_of w allow piece ≡ goes u h e w'
    → Been [] (plus_feed u h e piece s) (O.lives w')
been_goes s w w' allow u h piece e b q =
    let f = O.feed [] allow w piece in
    let g = alone_goes f.used f.heads f.event f.after q in
    rw (← g.1, ← g.2, ← g.3, ← g.0) (been_fed [] s w allow piece b)

been : {s : Shown streams} {w : O.OneState} → Reached₁ alone s w → Been [] s (O.lives w)
been at_first = been_first []
been (by_feed {s = s} {w = w} {w' = w'} {allow = allow} {u = u} {h = h} {piece = piece} {e = e} t q) = been_goes s w w' allow u h piece e (been t) q

-- which type that may come once the bytes show
unfoldable pub type_shown : W.OneWay → Option Once
type_shown W.untyped = none
type_shown (W.refused code place) = none
type_shown (W.of_control r) = some as_control
type_shown (W.of_qpack encoder bytes) = some as_encoder
type_shown (W.of_qpack decoder bytes) = some as_decoder
type_shown W.passed_over = none

controlled_for : (w : O.OneState) (o : M.Outcome Control) → O.lives w ≡ O.controlled o → some as_control ≡ is_for w
unfolding O.controlled is_for
controlled_for w (M.lives s) e = let z : w ≡ O.in_control s = cc in rw z refl
controlled_for w (M.dies code) e = let z : ◌≡◌ {A = ℕ} 0 1 = cc in absurd (omega arith)

shown_for : (s : Shown streams) (w : O.OneState) (b : Been [] s (O.lives w)) {m : W.OneWay} → Came [] (done_of s b.frames b.raw (O.lives w)) m → type_shown m ≡ is_for w
unfolding type_shown is_for
shown_for s w b (still_untyped {g = g} e f q n) = let z : w ≡ O.in_stream_type g = cc in rw z refl
shown_for s w b (type_refused e f q n) = let z : ◌≡◌ {A = ℕ} 0 1 = cc in absurd (omega arith)
shown_for s w b (a_control_stream o e f q n v) = controlled_for w o e
shown_for s w b (a_qpack_stream {q = encoder} e f n) = let z : w ≡ O.in_qpack encoder = cc in rw z refl
shown_for s w b (a_qpack_stream {q = decoder} e f n) = let z : w ≡ O.in_qpack decoder = cc in rw z refl
shown_for s w b (a_skipped_stream e f q n) = let z : w ≡ O.in_skipped = cc in rw z refl

pub type_shown_lem : {s : Shown streams} {w : O.OneState} → Reached₁ alone s w → type_shown (W.one_way_read [] s.bytes) ≡ is_for w
type_shown_lem {s} {w} t = let b = been t in shown_for s w b (came_of [] s (O.lives w) b)

came_untyped : (seen : List ℕ) {d : O.Done} {m : W.OneWay} → Came seen d m → m ≡ W.untyped → (g : M.Prog) × (d.after ≡ O.lives (O.in_stream_type g))
came_untyped seen (still_untyped {g = g} e f q n) z = (g, e)
came_untyped seen (type_refused e f q n) z = let y : ◌≡◌ {A = ℕ} 0 1 = cc in absurd (omega arith)
came_untyped seen (a_control_stream o e f q n v) z = let y : ◌≡◌ {A = ℕ} 0 1 = cc in absurd (omega arith)
came_untyped seen (a_qpack_stream e f n) z = let y : ◌≡◌ {A = ℕ} 0 1 = cc in absurd (omega arith)
came_untyped seen (a_skipped_stream e f q n) z = let y : ◌≡◌ {A = ℕ} 0 1 = cc in absurd (omega arith)

-- where the bytes are no whole type it waits for more of it
pub untyped_reached : {s : Shown streams} {w : O.OneState} → Reached₁ alone s w → W.one_way_read [] s.bytes ≡ W.untyped → (g : M.Prog) × (w ≡ O.in_stream_type g)
untyped_reached {s} {w} t e = let b = been t in let x = came_untyped [] (came_of [] s (O.lives w) b) e in (x.0, lived w (O.in_stream_type x.0) x.1)

-- no section is due on it
pub reads_on : {s : Shown streams} {w : O.OneState} → Reached₁ alone s w → ReadsOnOne w
reads_on {s} {w} t = let b = been t in always_reads [] b.made w (ap (λ d. d.after) b.came)

-- ---- every trace

-- a fate beside what the bytes consumed mean: closed without fault, or refused with the fault that they bring or that closing is
abbrev pub FateBy : Fate → W.OneWay → Type 0
FateBy unopened m = Unit {0}
FateBy spent m = Unit {0}
FateBy running m = Unit {0}
FateBy ended m = ⊥
FateBy dropped m = fault_by m ≡ none
FateBy (refused k) m = fault_by m ≡ some k
FateBy lost m = Unit {0}

-- the second of its type is refused as the definition refuses it where those types came before
pub data Heard (v : View streams) : Type 0 where
  by_its_bytes : Hears [] v.shown → FateBy v.fate (W.one_way_read [] v.shown.bytes) → Heard v
  second : (seen : List ℕ) → v.fate ≡ refused (of_connection stream_creation_error) → Hears seen v.shown → fault_by (W.one_way_read seen v.shown.bytes) ≡ some (of_connection stream_creation_error) → Heard v

-- a feed that met a fault
fault_of : (seen : List ℕ) (s : Shown streams) (w : O.OneState) (allow u h : ℕ) (piece : List ℕ) (k : Code) → Been seen s (O.lives w) → let f = O.feed seen allow w piece in
    (code : Code) → f.after ≡ O.dies code → f.used ≡ u → f.heads ≡ h → code ≡ k
    → let s' = plus_bytes u h piece s in Hears seen s' × (fault_by (W.one_way_read seen s'.bytes) ≡ some k) × Struck seen k s'.bytes
fault_of seen s w allow u h piece k b code e x y c =
    let v = been_dead seen s w allow u h code piece b e x y in
    let s' = plus_bytes u h piece s in
    let d = dead_by_lem seen s' code v (came_of seen s' (O.dies code) v) in
    (hears seen s' (O.dies code) v, unfold fault_by in (d ∙ ap some c), subst (λ c. Struck seen c s'.bytes) c (been_struck seen s' code v))

fault_story : (s : Shown streams) (w : O.OneState) (allow u h : ℕ) (piece : List ℕ) (k : Code) → Been [] s (O.lives w) → alone_of w allow piece ≡ faults k u h
    → Heard (record { fate = refused k; shown = plus_bytes u h piece s })
fault_story s w allow u h piece k b q =
    let f = O.feed [] allow w piece in
    let g = alone_faults f.used f.heads f.event f.after q in
    let z = fault_of [] s w allow u h piece k b g.0 g.1 g.2 g.3 g.4 in
    by_its_bytes z.0 z.1

-- a feed of a stream by itself that met a fault: the last byte consumed brings it
pub struck_by : (s : Shown streams) (w : O.OneState) (allow u h : ℕ) (piece : List ℕ) (k : Code) → Reached₁ alone s w → alone_of w allow piece ≡ faults k u h → Struck [] k (s.bytes ++ take u piece)
unfolding plus_bytes
struck_by s w allow u h piece k t q =
    let f = O.feed [] allow w piece in
    let g = alone_faults f.used f.heads f.event f.after q in
    (fault_of [] s w allow u h piece k (been t) g.0 g.1 g.2 g.3 g.4).2

-- and one that accepted feeds lead to has none
pub unhurt_by : {s : Shown streams} {w : O.OneState} → Reached₁ alone s w → NoFault [] s.bytes
unhurt_by {s} {w} t = been_unhurt [] s w (been t)

pub heard_reached : {s : Shown streams} {w : O.OneState} → Reached₁ alone s w → Hears [] s
heard_reached {s} {w} t = hears [] s (O.lives w) (been t)

-- ---- the second of its type

abbrev Typed : O.OneOutcome → Type 0
Typed (O.lives (O.in_stream_type g)) = ⊥
Typed (O.lives (O.in_control s)) = Unit {0}
Typed (O.lives (O.in_qpack q)) = Unit {0}
Typed (O.lives O.in_skipped) = Unit {0}
Typed (O.dies code) = Unit {0}

controlled_typed : (o : M.Outcome Control) → Typed (O.controlled o)
unfolding O.controlled
controlled_typed (M.lives s) = tt
controlled_typed (M.dies code) = tt

qpack_typed : (q : Qpack) (piece : List ℕ) → Typed (O.qpack_feed q piece).after
unfolding O.qpack_feed O.halt
qpack_typed q [] = tt
qpack_typed q (b ∷ bs) = tt

typed_typed : (allow : ℕ) (x : W.Typed) (piece : List ℕ) → Typed (O.typed_feed allow x piece).after
unfolding O.typed_feed O.kind_feed O.halt O.of_control
typed_typed allow (W.refuse code) piece = tt
typed_typed allow (W.is W.a_control) piece = controlled_typed _
typed_typed allow (W.is (W.a_qpack q)) piece = qpack_typed q piece
typed_typed allow (W.is W.skipped) piece = tt

-- a stream whose type has come stays so, and what came before it is asked no more
typed_on : (allow : ℕ) (w : O.OneState) (piece : List ℕ) → Typed (O.lives w) → Typed (O.feed [] allow w piece).after
unfolding O.feed O.of_control O.kind_feed
typed_on allow (O.in_stream_type g) piece t = absurd t
typed_on allow (O.in_control s) piece t = controlled_typed _
typed_on allow (O.in_qpack q) piece t = qpack_typed q piece
typed_on allow O.in_skipped piece t = tt

module _ (seen : List ℕ) (allow : ℕ) where
  typed_same : (w : O.OneState) (piece : List ℕ) → Typed (O.lives w) → O.feed seen allow w piece ≡ O.feed [] allow w piece
  unfolding O.feed
  typed_same (O.in_stream_type g) piece t = absurd t
  typed_same (O.in_control s) piece t = refl
  typed_same (O.in_qpack q) piece t = refl
  typed_same O.in_skipped piece t = refl

  abbrev byte_by : List ℕ → List ℕ → M.Fed → O.OneFeeding
  byte_by before bs x = elim x [ M.going g ↦ O.type_feed before allow g bs | M.value t ↦ O.typed_feed allow (W.type_rule before t) bs ]

  byte_same : (bs : List ℕ) (g' : M.Prog) → ((g : M.Prog) → (O.type_feed [] allow g bs).after ≡ O.lives (O.in_stream_type g') → O.type_feed seen allow g bs ≡ O.type_feed [] allow g bs) → (x : M.Fed)
      → (byte_by [] bs x).after ≡ O.lives (O.in_stream_type g') → byte_by seen bs x ≡ byte_by [] bs x
  byte_same bs g' ih (M.going g) e = ih g e
  byte_same bs g' ih (M.value t) e = absurd (subst Typed e (typed_typed allow (W.type_rule [] t) bs))

  -- nor is it before the type has come whole
  type_same : (g' : M.Prog) (piece : List ℕ) (g : M.Prog) → (O.type_feed [] allow g piece).after ≡ O.lives (O.in_stream_type g') → O.type_feed seen allow g piece ≡ O.type_feed [] allow g piece
  unfolding O.type_feed
  type_same g' [] g e = refl
  type_same g' (b ∷ bs) g e = ap O.also (byte_same bs g' (type_same g' bs) (M.fed g b) (unfold O.also in e))

  byte_uses : (bs : List ℕ) (g' : M.Prog) → ((g : M.Prog) → (O.type_feed seen allow g bs).after ≡ O.lives (O.in_stream_type g') → (O.type_feed seen allow g bs).used ≡ length bs) → (x : M.Fed)
      → (byte_by seen bs x).after ≡ O.lives (O.in_stream_type g') → (byte_by seen bs x).used ≡ length bs
  byte_uses bs g' ih (M.going g) e = ih g e
  byte_uses bs g' ih (M.value t) e = absurd (subst Typed e (typed_typed allow (W.type_rule seen t) bs))

  -- a feed that leaves it not whole has used its piece
  type_uses : (g' : M.Prog) (piece : List ℕ) (g : M.Prog) → (O.type_feed seen allow g piece).after ≡ O.lives (O.in_stream_type g') → (O.type_feed seen allow g piece).used ≡ length piece
  unfolding O.type_feed O.halt O.also
  type_uses g' [] g e = refl
  type_uses g' (b ∷ bs) g e = ap suc (byte_uses bs g' (type_uses g' bs) (M.fed g b) e)

untyped_goes : (seen : List ℕ) (s : Shown streams) (w : O.OneState) (allow u h : ℕ) (piece : List ℕ) (e : Event) (g : M.Prog)
    → ((g₀ : M.Prog) → w ≡ O.in_stream_type g₀ → Been seen s (O.lives (O.in_stream_type g₀))) → alone_of w allow piece ≡ goes u h e (O.in_stream_type g)
    → Been seen (plus_feed u h e piece s) (O.lives (O.in_stream_type g))
untyped_goes seen s (O.in_stream_type g₀) allow u h piece e g b q =
    let f = O.feed [] allow (O.in_stream_type g₀) piece in
    let a = alone_goes f.used f.heads f.event f.after q in
    let z : O.feed seen allow (O.in_stream_type g₀) piece ≡ f = unfold O.feed in type_same seen allow g piece g₀ a.0 in
    rw (← a.1, ← a.2, ← a.3, ← a.0) (rw z at (been_fed seen s (O.in_stream_type g₀) allow piece (b g₀ refl)))
untyped_goes seen s (O.in_control c) allow u h piece e g b q =
    let f = O.feed [] allow (O.in_control c) piece in
    absurd (subst Typed (alone_goes f.used f.heads f.event f.after q).0 (typed_on allow (O.in_control c) piece tt))
untyped_goes seen s (O.in_qpack c) allow u h piece e g b q =
    let f = O.feed [] allow (O.in_qpack c) piece in
    absurd (subst Typed (alone_goes f.used f.heads f.event f.after q).0 (typed_on allow (O.in_qpack c) piece tt))
untyped_goes seen s O.in_skipped allow u h piece e g b q =
    let f = O.feed [] allow O.in_skipped piece in
    absurd (subst Typed (alone_goes f.used f.heads f.event f.after q).0 (typed_on allow O.in_skipped piece tt))

untyped_by : (g g₀ : M.Prog) → O.in_stream_type g ≡ O.in_stream_type g₀ → g ≡ g₀
untyped_by g g₀ e = cc

-- a stream whose type has not come whole was fed as it is wherever others came before
been_untyped : (seen : List ℕ) {s : Shown streams} {w : O.OneState} → Reached₁ alone s w → (g : M.Prog) → w ≡ O.in_stream_type g → Been seen s (O.lives (O.in_stream_type g))
been_untyped seen at_first g e = rw (← (untyped_by M.fresh g e)) (been_first seen)
been_untyped seen (by_feed {s = s} {w = w} {w' = w'} {allow = allow} {u = u} {h = h} {piece = piece} {e = ev} t q) g e =
    untyped_goes seen s w allow u h piece ev g (λ g₀ z. been_untyped seen t g₀ z) (rw e at q)

heard_faults : (k : Keeps) (u₀ h₀ : ℕ) (e₀ : O.OneEvent) (o : O.OneOutcome) {u h : ℕ} {c : Code} → heard_by k u₀ h₀ e₀ o ≡ faults c u h
    → (code : Code) × (o ≡ O.dies code) × (u₀ ≡ u) × (h₀ ≡ h) × (code ≡ c)
unfolding heard_by
heard_faults k u₀ h₀ e₀ (O.lives s) q = let z : ◌≡◌ {A = ℕ} 0 1 = cc in absurd (omega arith)
heard_faults k u₀ h₀ e₀ (O.dies code) q = (code, refl, cc, cc, cc)

typed_both : (s : Shown streams) (w : O.OneState) (k : Keeps) (allow u h : ℕ) (piece : List ℕ) → Typed (O.lives w) → Reached₁ alone s w → streams.feed₁ k w allow piece ≡ faults (of_connection stream_creation_error) u h
    → let s' = plus_bytes u h piece s in Hears [] s' × (fault_by (W.one_way_read [] s'.bytes) ≡ some (of_connection stream_creation_error)) × Struck [] (of_connection stream_creation_error) s'.bytes
typed_both s w k allow u h piece y t q =
    let f = O.feed [] allow w piece in
    let z : heard_by k f.used f.heads f.event f.after ≡ faults (of_connection stream_creation_error) u h = rw (typed_same (types_in k) allow w piece y) at q in
    let r = heard_faults k f.used f.heads f.event f.after z in
    fault_of [] s w allow u h piece (of_connection stream_creation_error) (been t) r.0 r.1 r.2 r.3 r.4

typed_story : (s : Shown streams) (w : O.OneState) (k : Keeps) (allow u h : ℕ) (piece : List ℕ) → Typed (O.lives w) → Reached₁ alone s w → streams.feed₁ k w allow piece ≡ faults (of_connection stream_creation_error) u h
    → Heard (record { fate = refused (of_connection stream_creation_error); shown = plus_bytes u h piece s })
typed_story s w k allow u h piece y t q = let x = typed_both s w k allow u h piece y t q in by_its_bytes x.0 x.1

second_story : (s : Shown streams) (w : O.OneState) (k : Keeps) (allow u h : ℕ) (piece : List ℕ) → Reached₁ alone s w → streams.feed₁ k w allow piece ≡ faults (of_connection stream_creation_error) u h
    → Heard (record { fate = refused (of_connection stream_creation_error); shown = plus_bytes u h piece s })
second_story s (O.in_stream_type g) k allow u h piece t q =
    let f = O.feed (types_in k) allow (O.in_stream_type g) piece in
    let r = heard_faults k f.used f.heads f.event f.after q in
    let z = fault_of (types_in k) s (O.in_stream_type g) allow u h piece (of_connection stream_creation_error) (been_untyped (types_in k) t g refl) r.0 r.1 r.2 r.3 r.4 in
    second (types_in k) refl z.0 z.1
second_story s (O.in_control c) k allow u h piece t q = typed_story s (O.in_control c) k allow u h piece tt t q
second_story s (O.in_qpack c) k allow u h piece t q = typed_story s (O.in_qpack c) k allow u h piece tt t q
second_story s O.in_skipped k allow u h piece t q = typed_story s O.in_skipped k allow u h piece tt t q

-- a type that is not whole, and one that is refused
type_cut : (seen bytes : List ℕ) → integer 0 bytes ≡ cut → W.one_way_read seen bytes ≡ W.untyped
unfolding W.one_way_read W.behind_type
type_cut seen bytes e = ap (W.behind_type seen (length bytes)) e

type_refusal : (seen bytes : List ℕ) {t n : ℕ} {rest : List ℕ} {c : Code} → integer 0 bytes ≡ got t n rest → W.type_rule seen t ≡ W.refuse c → W.one_way_read seen bytes ≡ W.refused c n
unfolding W.one_way_read W.behind_type W.typed
type_refusal seen bytes {t} {n} {rest} e r = ap (W.behind_type seen (length bytes)) e ∙ ap (W.typed n (length bytes) rest) r

came_refused : (seen : List ℕ) {d : O.Done} {m : W.OneWay} {c : Code} {next : ℕ} → Came seen d m → m ≡ W.refused c next → (d.after ≡ O.dies c) × (d.heads ≡ 0) × (length d.bytes ≡ next)
came_refused seen (still_untyped e f q n) z = let y : ◌≡◌ {A = ℕ} 0 1 = cc in absurd (omega arith)
came_refused seen (type_refused e f q n) z = (cc, n, cc)
came_refused seen (a_control_stream o e f q n v) z = let y : ◌≡◌ {A = ℕ} 0 1 = cc in absurd (omega arith)
came_refused seen (a_qpack_stream e f n) z = let y : ◌≡◌ {A = ℕ} 0 1 = cc in absurd (omega arith)
came_refused seen (a_skipped_stream e f q n) z = let y : ◌≡◌ {A = ℕ} 0 1 = cc in absurd (omega arith)

module _ (seen : List ℕ) (allow : ℕ) (s : Shown streams) (g : M.Prog) (piece : List ℕ) (c : Code) (b : Been seen s (O.lives (O.in_stream_type g))) where
  abbrev feeding : O.OneFeeding
  feeding = O.feed seen allow (O.in_stream_type g) piece

  abbrev consumed : List ℕ
  consumed = s.bytes ++ take feeding.used piece

  abbrev left : List ℕ
  left = drop feeding.used piece

  abbrev showing : Shown streams
  showing = plus_feed feeding.used feeding.heads (one_event feeding.used feeding.event) piece s

  abbrev fed_on : Been seen showing feeding.after
  fed_on = been_fed seen s (O.in_stream_type g) allow piece b

  all_used : (g' : M.Prog) → feeding.after ≡ O.lives (O.in_stream_type g') → consumed ≡ s.bytes ++ piece
  unfolding O.feed
  all_used g' e = ap (λ n. s.bytes ++ take n piece) (type_uses seen allow g' piece g e) ∙ ap (λ l. s.bytes ++ l) (take-length piece)

  consumed_left : consumed ++ left ≡ s.bytes ++ piece
  consumed_left = append_assoc s.bytes (take feeding.used piece) left ∙ ap (λ l. s.bytes ++ l) (take-append-drop feeding.used piece)

  -- a type that is whole within the piece and refused there: the fault comes with its last byte
  refused_whole : {t next : ℕ} {rest : List ℕ} → integer 0 (s.bytes ++ piece) ≡ got t next rest → W.type_rule seen t ≡ W.refuse c → (x : Int) → integer 0 consumed ≡ x
      → (feeding.after ≡ O.dies c) × (feeding.heads ≡ 0) × (length consumed ≡ next)
  unfolding plus_feed
  refused_whole {t} {next} {rest} e r cut i =
      let a = came_untyped seen (came_of seen showing feeding.after fed_on) (type_cut seen consumed i) in
      let z : cut ≡ got t next rest = sym i ∙ ap (integer 0) (all_used a.0 a.1) ∙ e in
      let y : ◌≡◌ {A = ℕ} 0 1 = cc in absurd (omega arith)
  refused_whole {t} {next} {rest} e r (got t' n' rest') i =
      let z : got t next rest ≡ got t' n' (rest' ++ left) = sym e ∙ ap (integer 0) (sym consumed_left) ∙ integer_append 0 consumed left i in
      let t_same : t ≡ t' = cc in
      let n-same : n' ≡ next = cc in
      let v = came_refused seen (came_of seen showing feeding.after fed_on) (type_refusal seen consumed i (subst (λ x. W.type_rule seen x ≡ W.refuse c) t_same r)) in
      (v.0, omega (arith, v.1), v.2 ∙ n-same)

-- and so of a feed, where the types that are kept came before
pub refused_among : (s : Shown streams) (g : M.Prog) (k : Keeps) (allow : ℕ) (piece : List ℕ) (c : Code) {t next : ℕ} {rest : List ℕ} → Reached₁ alone s (O.in_stream_type g) → integer 0 (s.bytes ++ piece) ≡ got t next rest
    → W.type_rule (types_in k) t ≡ W.refuse c → (u : ℕ) × (length (s.bytes ++ take u piece) ≡ next) × (streams.feed₁ k (O.in_stream_type g) allow piece ≡ faults c u 0)
unfolding heard_by
refused_among s g k allow piece c t e r =
    let f = O.feed (types_in k) allow (O.in_stream_type g) piece in
    let v = refused_whole (types_in k) allow s g piece c (been_untyped (types_in k) t g refl) e r (integer 0 (s.bytes ++ take f.used piece)) refl in
    (f.used, v.2, ap (λ o. heard_by k f.used f.heads f.event o) v.0 ∙ ap (λ h. faults c f.used h) v.1)

-- a stream refused with 0x0103: by its own bytes, or, its type not yet shown, as they are where the types that are kept came before
pub creation_by : (s : Shown streams) (w : O.OneState) (k : Keeps) (allow u h : ℕ) (piece : List ℕ) → Reached₁ alone s w → streams.feed₁ k w allow piece ≡ faults (of_connection stream_creation_error) u h
    → let b = s.bytes ++ take u piece in Struck [] (of_connection stream_creation_error) b ⊎ ((is_for w ≡ none) × Struck (types_in k) (of_connection stream_creation_error) b)
unfolding plus_bytes is_for
creation_by s (O.in_stream_type g) k allow u h piece t q =
    let f = O.feed (types_in k) allow (O.in_stream_type g) piece in
    let r = heard_faults k f.used f.heads f.event f.after q in
    inr (refl, (fault_of (types_in k) s (O.in_stream_type g) allow u h piece (of_connection stream_creation_error) (been_untyped (types_in k) t g refl) r.0 r.1 r.2 r.3 r.4).2)
creation_by s (O.in_control c) k allow u h piece t q = inl (typed_both s (O.in_control c) k allow u h piece tt t q).2
creation_by s (O.in_qpack c) k allow u h piece t q = inl (typed_both s (O.in_qpack c) k allow u h piece tt t q).2
creation_by s O.in_skipped k allow u h piece t q = inl (typed_both s O.in_skipped k allow u h piece tt t q).2

-- so closing is answered as the bytes say
pub closes_reached : {s : Shown streams} {w : O.OneState} → Reached₁ alone s w → fault_by (W.one_way_read [] s.bytes) ≡ code_for (close_of w)
closes_reached {s} {w} t = closes [] s w (been t)

heard_story : {f : Fate} {s : Shown streams} → Story₁ alone f s → Heard (record { fate = f; shown = s })
heard_story not_yet = by_its_bytes (heard_reached at_first) tt
heard_story never = by_its_bytes (heard_reached at_first) tt
heard_story (cut_off t) = by_its_bytes (heard_reached t) tt
heard_story (closed {s = s} {w = w} t e) = by_its_bytes (heard_reached t) (closes [] s w (been t) ∙ unfold code_for in (rw e refl))
heard_story (closed_critical {s = s} {w = w} t e) = by_its_bytes (heard_reached t) (closes [] s w (been t) ∙ unfold code_for in (rw e refl))
heard_story (bad_feed {s = s} {w = w} {allow = allow} {u = u} {h = h} {piece = piece} {k = k} t e) = fault_story s w allow u h piece k (been t) e
heard_story (second_of_type {s = s} {w = w} {k = k} {allow = allow} {u = u} {h = h} {piece = piece} t e) = second_story s w k allow u h piece t e

heard_agrees : {id : ℕ} {p : Pair streams} {v : View streams} → Agrees (Says alone) (Story₁ alone) id p v → Heard v
heard_agrees (open_still a (says t) f) = by_its_bytes (heard_reached t) tt
heard_agrees (over t n) = heard_story t

-- DEMAND 2 FOR ONE-WAY STREAMS: at every moment of every trace
pub one_way_reads : (id : ℕ) → kind_of id ≡ some one_way → (cs : List (Call streams)) → Heard (view id (trace fresh cs))
one_way_reads id q cs = heard_agrees (follows₁ alone id q cs)

-- ---- an end or a reset

unfoldable pub close_answer : Option Code → Answer
close_answer none = is-left freed
close_answer (some k) = is_code k 0 0

close_settled : (id : ℕ) (p : Pair streams) (c : Option ConnectionFault)
    → (settle id p (map_out (λ (x : Both streams). record { stream = telling x.state; kept = x.kept }) (of_closed c))).answer ≡ close_answer (code_for c)
unfolding settle map_out of_closed with faulted close_answer code_for
close_settled id p none = refl
close_settled id p (some c) = refl

close_agrees : (id : ℕ) (p : Pair streams) (v : View streams) → v.fate ≡ running → Agrees (Says alone) (Story₁ alone) id p v
    → let a = close_answer (fault_by (W.one_way_read [] v.shown.bytes)) in ((call (on id end) p).answer ≡ a) × ((call (on id reset) p).answer ≡ a)
unfolding act_on act₁
close_agrees id p v e (over {f = f} t n) = absurd (not_running f ((story₁ alone).shut t) e)
close_agrees id p v e (open_still {s = s} a (says {w = w} t) f) =
    let c = close_settled id p (close_of w) ∙ ap close_answer (sym (closes [] s w (been t))) in
    (ap (λ r. r.answer) (call_on p id (telling w) end a f) ∙ c, ap (λ r. r.answer) (call_on p id (telling w) reset a f) ∙ c)

-- while it runs, an end or a reset is answered as its bytes say: freed without fault, or the fault of closing
pub closes_exactly : (id : ℕ) → kind_of id ≡ some one_way → (cs : List (Call streams)) → let v = view id (trace fresh cs) in
    v.fate ≡ running → let a = close_answer (fault_by (W.one_way_read [] v.shown.bytes)) in ((call (on id end) (run fresh cs)).answer ≡ a) × ((call (on id reset) (run fresh cs)).answer ≡ a)
closes_exactly id q cs e = close_agrees id (run fresh cs) (view id (trace fresh cs)) e (follows₁ alone id q cs)
