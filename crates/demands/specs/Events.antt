-- EVENTS over traces: what a feed that is accepted may hand over. On a request stream nothing, content or section bytes, a part being empty only where it
-- is the marked one of an empty HEADERS; on a one-way stream nothing, a notice of its own kind, or a QPACK part that reaches the piece's end.
-- Assumes nothing.
use Rattle.std.specs.Prelude.{◌≡◌, refl, ℕ, suc, ◌+◌, ◌-◌, ◌≤◌, min, Bool, false, eqb, length, take}
use Rattle.std.proofs.Common.{sym, ap, ◌∙◌, subst, arith}
use mathlib.Core.List.{List, [], ◌∷◌, ◌++◌, append-nil}
use Rattle.std.proofs.Math.Bool.{true}
use Rattle.std.proofs.Math.Option.{Option, none, some}
use Rattle.rules.specs.Reading.{Grammar}
use Rattle.rules.specs.Control.{Told, told_settings, told_goaway, told_max_push_id, told_nothing, tells}
use Rattle.rules.specs.Message.{Message}
use Rattle.rules.specs.Request.{document, request as asking-rules}
use Rattle.rules.specs.OneWay as W
use Rattle.rules.specs.OneWay.{Qpack, encoder, decoder}
use Rattle.meaning.specs.Machine as M
use Rattle.meaning.specs.Machine.{State}
use Rattle.meaning.specs.Feed as F
use Rattle.meaning.specs.Feed.{Feeding, halt, also, named, taking}
use Rattle.meaning.proofs.EveryFeed.{every_feed}
use Rattle.meaning.specs.OneWayFeed as O
use Rattle.rules.specs.Calls.{qpack_bytes, settings, client_goaway, max_push_id, Event, quiet, section_bytes, content_bytes, notice, section_in, part, Fed, goes, fed, feed, act, act₁, request, one_way, kind_of, asking, telling, Pair, Call, on, gave, act_on, fresh, call, run, trace}
use Rattle.rules.specs.Shown.{Shown, running, View, plus_feed, view}
use Rattle.traces.specs.Alone.{call_on_asking, call_on}
use Rattle.traces.specs.Follow.{Agrees, open_still, over, agrees, not_running}
use Rattle.traces.specs.Oneways.{Both, Like, goes_alike, faults_alike, second, Reached₁, by_feed, Story₁, Says, says, story₁}
use Rattle.traces.specs.Story as asking-story
use Rattle.traces.specs.Story.{Reached, Asks, asks, Story, story, shut}
use Rattle.demands.specs.Streams.{is_due, event_of, Keeps, types_in, type_of, notice_of, frames_event, one_event, heard_by, streams}
use Rattle.demands.specs.Reading.{reading}
use Rattle.demands.specs.Reads.{fed_goes, reads}
use Rattle.demands.specs.Becomes.{Once, as_control, as_encoder, as_decoder, is_for, type_number}
use Rattle.demands.specs.Moves.{alone}
use Rattle.demands.specs.Suited.{RowSuits, found_suits, suits_fresh}
use Rattle.demands.specs.Overheard.{OneSuits, OneTells, one_suits}
use Rattle.demands.specs.OneWayReads.{type_shown, type_shown_lem}
use Rattle.demands.specs.Parts.{got_fed, got_heard, heard_goes, suits_run}

-- ---- DEFINITION

-- of a request stream, behind what it has shown: content of a byte or more; section bytes, a byte or more unless the part is marked and the bytes used
-- hold no byte of a section; no notice
abbrev pub RequestEvent : (before : Shown streams) (used : ℕ) (piece : List ℕ) → Event → Type 0
RequestEvent s u piece quiet = Unit {0}
RequestEvent s u piece (content_bytes from len) = 1 ≤ len
RequestEvent s u piece (section_bytes from len false) = 1 ≤ len
RequestEvent s u piece (section_bytes from len true) = len ≡ 0 → reading.blocks (s.bytes ++ take u piece) s.sections ≡ reading.blocks s.bytes s.sections
RequestEvent s u piece (notice what) = ⊥

-- the number of a QPACK stream's type
unfoldable pub qpack_type : Option Once → Option ℕ
qpack_type none = none
qpack_type (some as_control) = none
qpack_type (some as_encoder) = some (type_number as_encoder)
qpack_type (some as_decoder) = some (type_number as_decoder)

-- of a one-way stream, by the type that its bytes show: settings, GOAWAY and MAX_PUSH_ID on a control stream only; QPACK bytes on a stream of their
-- type, a byte or more and to the end of the piece; no content and no section bytes
abbrev pub OneWayEvent : (shown : Option Once) (piece : List ℕ) → Event → Type 0
OneWayEvent t piece quiet = Unit {0}
OneWayEvent t piece (content_bytes from len) = ⊥
OneWayEvent t piece (section_bytes from len last) = ⊥
OneWayEvent t piece (notice (qpack_bytes type from len)) = (qpack_type t ≡ some type) × (1 ≤ len) × (from + len ≡ length piece)
OneWayEvent t piece (notice (settings size capacity blocked)) = t ≡ some as_control
OneWayEvent t piece (notice (client_goaway id)) = t ≡ some as_control
OneWayEvent t piece (notice (max_push_id id)) = t ≡ some as_control

-- ---- a request stream

abbrev asks_so : Grammar
asks_so = asking-rules document

-- a part is a byte or more, but for the marked one
abbrev Sized : F.Event → Type 0
Sized F.quiet = Unit {0}
Sized (F.content_bytes len) = 1 ≤ len
Sized (F.section_bytes len false) = 1 ≤ len
Sized (F.section_bytes len true) = Unit {0}
Sized (F.taken k payload) = Unit {0}

marked_sized : (len : ℕ) (last : Bool) → 1 ≤ len → Sized (F.section_bytes len last)
marked_sized len true l = tt
marked_sized len false l = l

feed_sized : (G : Grammar) (allow : ℕ) (s : State G.P) (piece : List ℕ) → Sized (F.feed G allow s piece).event
unfolding halt also taking named
feed_sized G = every_feed G (λ allow piece f. Sized f.event) (record {
  nothing_left = λ allow s. tt;
  none_allowed = λ s piece. tt;
  waiting = λ allow piece t p. tt;
  fault = λ allow piece code. tt;
  empty_section = λ allow piece t p. tt;
  told = λ allow piece k payload p. tt;
  content_part = λ allow left b bs p. omega arith;
  section_part = λ allow left b bs t p. marked_sized (suc (min left (length bs))) (eqb (left - min left (length bs)) 0) (omega arith);
  byte = λ allow b bs f q. q;
  header_byte = λ allow b bs f q. q;
})

-- an empty part adds no byte of a section
same_blocks : (s : Shown streams) (u h : ℕ) (piece : List ℕ) (e : Event) (r r' : State Message) → Reached s r → Reached (plus_feed u h e piece s) r' → section_in e piece ≡ []
    → reading.blocks (s.bytes ++ take u piece) s.sections ≡ reading.blocks s.bytes s.sections
unfolding plus_feed
same_blocks s u h piece e r r' t t' z = sym (reads.so_far t').blocks ∙ ap (λ x. s.blocks ++ x) z ∙ append-nil s.blocks ∙ (reads.so_far t).blocks

no_bytes : (from len : ℕ) (last : Bool) (piece : List ℕ) → len ≡ 0 → section_in (section_bytes from len last) piece ≡ []
unfolding section_in part
no_bytes from len last piece z = rw z refl

module _ (s : Shown streams) (r r' : State Message) (u h : ℕ) (piece : List ℕ) (t : Reached s r) where
  asked_event : (x : F.Event) → Sized x → Reached (plus_feed u h (event_of u x) piece s) r' → RequestEvent s u piece (event_of u x)
  unfolding event_of
  asked_event F.quiet w t' = tt
  asked_event (F.content_bytes len) w t' = w
  asked_event (F.section_bytes len false) w t' = w
  asked_event (F.section_bytes len true) w t' = λ z. same_blocks s u h piece (section_bytes (u - len) len true) r r' t t' (no_bytes (u - len) len true piece z)
  asked_event (F.taken k payload) w t' = tt

request_fed : (s : Shown streams) (r r' : State Message) (allow u h : ℕ) (piece : List ℕ) (e : Event) → Reached s r → is_due r ≡ false → streams.feed r allow piece ≡ goes u h e r' → RequestEvent s u piece e
request_fed s r r' allow u h piece e t d q =
    let f = F.feed asks_so allow r piece in
    let g = fed_goes f.used f.heads f.event f.after q in
    let i : event_of u f.event ≡ e = ap (λ n. event_of n f.event) (sym g.1) ∙ g.3 in
    let t' : Reached (plus_feed u h e piece s) r' = asking-story.by_feed t d q in
    subst (RequestEvent s u piece) i (asked_event s r r' u h piece t f.event (feed_sized asks_so allow r piece) (subst (λ x. Reached (plus_feed u h x piece s) r') (sym i) t'))

request_agrees : (id : ℕ) (p : Pair streams) (v : View streams) (allow u h : ℕ) (piece : List ℕ) (e : Event) → v.fate ≡ running → (call (on id (feed allow piece)) p).answer ≡ gave (fed u h e)
    → Agrees Asks Story id p v → RequestEvent v.shown u piece e
unfolding act
request_agrees id p v allow u h piece e n q (over {f = f} t g) = absurd (not_running f (shut t) n)
request_agrees id p v allow u h piece e n q (open_still {s = s} a (asks {r = r} t) f) =
    let c = got_fed id p (λ x. record { stream = asking x; kept = p.conn.kept }) u h e (is_due r) (streams.feed r allow piece) (sym (ap (λ x. x.answer) (call_on_asking p id r (feed allow piece) a f)) ∙ q) in
    request_fed s r c.1.0 allow u h piece e t c.0 c.1.1

-- THE EVENT OF A REQUEST STREAM'S FEED
pub request_events : (id : ℕ) → kind_of id ≡ some request → (cs : List (Call streams)) (allow used heads : ℕ) (piece : List ℕ) (e : Event) → (view id (trace fresh cs)).fate ≡ running
    → (call (on id (feed allow piece)) (run fresh cs)).answer ≡ gave (fed used heads e) → RequestEvent (view id (trace fresh cs)).shown used piece e
request_events id k cs allow u h piece e n q = request_agrees id (run fresh cs) (view id (trace fresh cs)) allow u h piece e n q (agrees story id cs k)

-- ---- a one-way stream

-- a QPACK part is the rest of the piece, and the stream is then one of that type
record AllOfIt (piece : List ℕ) (q : Qpack) (len used : ℕ) (o : O.OneOutcome) : Type 0 where
  to_the_end : used ≡ length piece
  some_bytes : 1 ≤ len
  within : len ≤ used
  of_type : o ≡ O.lives (O.in_qpack q)

abbrev Greedy : (piece : List ℕ) (used : ℕ) → O.OneEvent → O.OneOutcome → Type 0
Greedy piece u (O.of_frames e) o = Unit {0}
Greedy piece u (O.qpack_bytes q len) o = AllOfIt piece q len u o

record GreedyIn (piece : List ℕ) (f : O.OneFeeding) : Type 0 where
  is : Greedy piece f.used f.event f.after

one_more : (b : ℕ) (bs : List ℕ) (u : ℕ) (e : O.OneEvent) (o : O.OneOutcome) → Greedy bs u e o → Greedy (b ∷ bs) (suc u) e o
one_more b bs u (O.of_frames e) o w = tt
one_more b bs u (O.qpack_bytes q len) o w = record { to_the_end = ap suc w.to_the_end; some_bytes = w.some_bytes; within = omega (arith, w.within); of_type = w.of_type }

also_greedy : (b : ℕ) (bs : List ℕ) (f : O.OneFeeding) → GreedyIn bs f → GreedyIn (b ∷ bs) (O.also f)
unfolding O.also
also_greedy b bs f w = record { is = one_more b bs f.used f.event f.after w.is }

qpack_greedy : (q : Qpack) (piece : List ℕ) → GreedyIn piece (O.qpack_feed q piece)
unfolding O.qpack_feed O.halt
qpack_greedy q [] = record { is = tt }
qpack_greedy q (b ∷ bs) = record { is = record { to_the_end = refl; some_bytes = omega arith; within = omega arith; of_type = refl } }

typed_greedy : (allow : ℕ) (x : W.Typed) (piece : List ℕ) → GreedyIn piece (O.typed_feed allow x piece)
unfolding O.typed_feed O.kind_feed O.halt O.of_control
typed_greedy allow (W.refuse n) piece = record { is = tt }
typed_greedy allow (W.is W.a_control) piece = record { is = tt }
typed_greedy allow (W.is (W.a_qpack q)) piece = qpack_greedy q piece
typed_greedy allow (W.is W.skipped) piece = record { is = tt }

module _ (seen : List ℕ) (allow : ℕ) where
  byte_greedy : (bs : List ℕ) → ((g : M.Prog) → GreedyIn bs (O.type_feed seen allow g bs)) → (x : M.Fed)
      → GreedyIn bs (elim x [ M.going g ↦ O.type_feed seen allow g bs | M.value t ↦ O.typed_feed allow (W.type_rule seen t) bs ])
  byte_greedy bs ih (M.going g) = ih g
  byte_greedy bs ih (M.value t) = typed_greedy allow (W.type_rule seen t) bs

  type_greedy : (piece : List ℕ) (g : M.Prog) → GreedyIn piece (O.type_feed seen allow g piece)
  unfolding O.type_feed O.halt
  type_greedy [] g = record { is = tt }
  type_greedy (b ∷ bs) g = also_greedy b bs _ (byte_greedy bs (type_greedy bs) (M.fed g b))

  one_greedy : (w : O.OneState) (piece : List ℕ) → GreedyIn piece (O.feed seen allow w piece)
  unfolding O.feed O.kind_feed O.of_control
  one_greedy (O.in_stream_type g) piece = type_greedy piece g
  one_greedy (O.in_control s) piece = record { is = tt }
  one_greedy (O.in_qpack q) piece = qpack_greedy q piece
  one_greedy O.in_skipped piece = record { is = tt }

-- what a control stream reports
told_event : (t : Told) (k : Option Once) (piece : List ℕ) → k ≡ some as_control → OneWayEvent k piece (notice_of t)
unfolding notice_of
told_event (told_settings s) k piece e = e
told_event (told_goaway id) k piece e = e
told_event (told_max_push_id id) k piece e = e
told_event told_nothing k piece e = tt

controlled_for : (w : O.OneState) (c : State _) → O.lives w ≡ O.controlled (M.lives c) → is_for w ≡ some as_control
unfolding O.controlled is_for
controlled_for w c e = let z : w ≡ O.in_control c = cc in rw z refl

lived : (w w' : O.OneState) → O.lives w ≡ O.lives w' → w ≡ w'
lived w w' e = cc

qpack_for : (q : Qpack) → qpack_type (is_for (O.in_qpack q)) ≡ some (type_of q)
unfolding qpack_type is_for type_of type_number
qpack_for encoder = refl
qpack_for decoder = refl

one_event_lem : (piece : List ℕ) (u : ℕ) (e : O.OneEvent) (o : O.OneOutcome) (w : O.OneState) → o ≡ O.lives w → OneTells e o → Greedy piece u e o → OneWayEvent (is_for w) piece (one_event u e)
unfolding one_event frames_event
one_event_lem piece u (O.of_frames F.quiet) o w l t g = tt
one_event_lem piece u (O.of_frames (F.section_bytes len last)) o w l t g = absurd t
one_event_lem piece u (O.of_frames (F.content_bytes len)) o w l t g = absurd t
one_event_lem piece u (O.of_frames (F.taken k payload)) o w l (y, q, j) g = told_event (tells k payload) (is_for w) piece (controlled_for w _ (sym l ∙ q ∙ ap O.controlled j.left))
one_event_lem piece u (O.qpack_bytes q len) o w l t g =
    let z : w ≡ O.in_qpack q = lived w (O.in_qpack q) (sym l ∙ g.of_type) in
    (ap (λ x. qpack_type (is_for x)) z ∙ qpack_for q, g.some_bytes, omega (arith, g.to_the_end, g.within))

goes_same : {X : Type 0} {u u' h h' : ℕ} {e e' : Event} {x y : X} → goes u h e x ≡ goes u' h' e' y → (u ≡ u') × (h ≡ h') × (e ≡ e') × (x ≡ y)
goes_same q = (cc, cc, cc, cc)

-- what is accepted on a connection is so by itself
pub by_itself : {x : Fed O.OneState} {y : Fed (Both streams)} {u h : ℕ} {e : Event} {z : Both streams} → Like streams x y → y ≡ goes u h e z → x ≡ goes u h e z.state
by_itself goes_alike q = let a = goes_same q in cc (a.0, a.1, a.2, ap (λ y. y.state) a.3)
by_itself faults_alike q = let z : ◌≡◌ {A = ℕ} 0 1 = cc in absurd (omega arith)
by_itself second q = let z : ◌≡◌ {A = ℕ} 0 1 = cc in absurd (omega arith)

state_is : (k : Keeps) (u₀ h₀ : ℕ) (e₀ : O.OneEvent) (o : O.OneOutcome) (w : O.OneState) {u h : ℕ} {e : Event} {x : Both streams} → o ≡ O.lives w → heard_by k u₀ h₀ e₀ o ≡ goes u h e x → w ≡ x.state
unfolding heard_by
state_is k u₀ h₀ e₀ (O.lives w') w l q = cc
state_is k u₀ h₀ e₀ (O.dies n) w l q = let z : ◌≡◌ {A = ℕ} 0 1 = cc in absurd (omega arith)

-- the kind that a stream's bytes show
abbrev pub shown_by : List ℕ → Option Once
shown_by bytes = type_shown (W.one_way_read [] bytes)

one_fed : (s : Shown streams) (k : Keeps) (w : O.OneState) (allow u h : ℕ) (piece : List ℕ) (e : Event) (x : Both streams) → OneSuits w → Reached₁ alone s w → streams.feed₁ k w allow piece ≡ goes u h e x
    → OneWayEvent (shown_by (s.bytes ++ take u piece)) piece e
unfolding plus_feed
one_fed s k w allow u h piece e x f t q =
    let o = O.feed (types_in k) allow w piece in
    let g = heard_goes k o.used o.heads o.event o.after q in
    let a = by_itself (alone.like k w allow piece) q in
    let t' : Reached₁ alone (plus_feed u h e piece s) x.state = by_feed t a in
    let i = one_event_lem piece o.used o.event o.after g.0 g.1 (one_suits (types_in k) allow w f piece).event (one_greedy (types_in k) allow w piece).is in
    subst (λ y. OneWayEvent y piece e) (sym (type_shown_lem t')) (subst (λ y. OneWayEvent (is_for y) piece e) (state_is k o.used o.heads o.event o.after g.0 g.1 q) (subst (OneWayEvent (is_for g.0) piece) g.4 i))

one_agrees : (id : ℕ) (p : Pair streams) (v : View streams) (allow u h : ℕ) (piece : List ℕ) (e : Event) → RowSuits p.row → v.fate ≡ running
    → (call (on id (feed allow piece)) p).answer ≡ gave (fed u h e) → Agrees (Says alone) (Story₁ alone) id p v → OneWayEvent (shown_by (v.shown.bytes ++ take u piece)) piece e
unfolding act_on act₁
one_agrees id p v allow u h piece e w n q (over {f = f} t g) = absurd (not_running f ((story₁ alone).shut t) n)
one_agrees id p v allow u h piece e w n q (open_still {s = s} a (says {w = y} t) f) =
    let k = p.conn.kept in
    let c = got_heard id p (λ x. record { stream = telling x.state; kept = x.kept }) u h e (streams.feed₁ k y allow piece) (sym (ap (λ x. x.answer) (call_on p id (telling y) (feed allow piece) a f)) ∙ q) in
    one_fed s k y allow u h piece e c.0 (found_suits id (telling y) p.row w f) t c.1

-- THE EVENT OF A ONE-WAY STREAM'S FEED
pub one_way_events : (id : ℕ) → kind_of id ≡ some one_way → (cs : List (Call streams)) (allow used heads : ℕ) (piece : List ℕ) (e : Event) → (view id (trace fresh cs)).fate ≡ running
    → (call (on id (feed allow piece)) (run fresh cs)).answer ≡ gave (fed used heads e) → OneWayEvent (shown_by ((view id (trace fresh cs)).shown.bytes ++ take used piece)) piece e
one_way_events id k cs allow u h piece e n q = one_agrees id (run fresh cs) (view id (trace fresh cs)) allow u h piece e (suits_run cs fresh suits_fresh) n q (agrees (story₁ alone) id cs k)
