-- PARTS, MARKS AND ALLOWANCES: what every feed of every trace keeps to. It uses no more than the piece and finishes no more headers than allowed, on
-- a fault too; the part that it names ends where it stopped; it stops only at an event, the end of the piece or the allowance; and a part of a
-- section is marked exactly if the section is due behind it. Assumes nothing.
use Rattle.std.proofs.Math.Path.{◌≡◌, refl, sym, ap}
use Rattle.std.proofs.Common.{◌∙◌, subst, true≢false}
use Prim.Native.Nat.{ℕ, zero, suc, ◌+◌, ◌-◌, ◌<◌, ◌≤◌, min, zero-le}
use native.Mathlib.Omega.{arith}
use mathlib.Core.List.{List, [], ◌∷◌, ◌++◌}
use Rattle.std.specs.Prelude.{Bool, ◌↔◌, length, take}
use Rattle.std.proofs.Math.Bool.{true, false}
use Rattle.std.proofs.Math.Option.{Option, none, some}
use Rattle.std.proofs.Math.Dec.{eqb-suc-zero}
use Rattle.rules.specs.Numbers.{frame_error, section_due, of_stream, of_connection, ConnectionFault, Code}
use Rattle.rules.specs.Reading.{Part, Kept, Use, content, skipped, section, kept, Ruling, refuse, accept, Next, stop, go, Grammar, ended}
use Rattle.rules.specs.Integers.{integer}
use Rattle.rules.specs.Message as message
use Rattle.rules.specs.Message.{Message}
use Rattle.rules.specs.Request as ask
use Rattle.rules.specs.Request.{document, request as asking-rules, end_of_ended}
use Rattle.rules.specs.Control.{Control, unset, control, Told, told_settings, told_goaway, told_max_push_id, told_nothing, tells, Settings, set, settings_of, only, after_integer, after_settings, judged, settings_in, id_in}
use Rattle.rules.specs.OneWay.{Qpack, Typed, a_control, a_qpack, is, type_rule}
use Rattle.rules.specs.OneWay as way
use Rattle.meaning.specs.Machine as M
use Rattle.meaning.specs.Machine.{State, in_type, in_length, in_payload, due, Outcome, lives, dies, between}
use Rattle.meaning.specs.Feed as F
use Rattle.meaning.specs.Feed.{Feeding, halt, also, onward, judged_event, over_event, left_event, behind_header, named, taking}
use Rattle.meaning.specs.Feeds.{Within}
use Rattle.meaning.proofs.Feeds.{feed_runs}
use Rattle.meaning.specs.EveryFeed as E
use Rattle.meaning.proofs.EveryFeed.{feed_stops, feed_allows}
use Rattle.meaning.specs.OneWayFeed as O
use Rattle.meaning.specs.OneWays.{OneStops}
use Rattle.meaning.proofs.OneWays.{one_allows, one_stops}
use Rattle.rules.specs.Calls.{qpack_bytes, settings, client_goaway, max_push_id, Event, quiet, section_bytes, content_bytes, notice, Fed, goes, faults, Ended, is_whole, broken, done, fed, feed, of_fed, map_out, Machine, act, act₁, either, request, kind_of, Stream, asking, telling, Pair, Held, Call, on, Answer, gave, left, house, code, same, with, alive, faulted, act_on, settle, acting, find, fresh, call, run, trace, one_way}
use Rattle.rules.specs.Calls as stream
use Rattle.rules.specs.Shown.{Shown, running, View, plus_feed, view}
use Rattle.traces.specs.Alone.{call_on_asking, no_code, no_house, call_on}
use Rattle.traces.specs.Follow.{Agrees, open_still, over, agrees, not_running}
use Rattle.traces.specs.Oneways.{Both, Story₁, Says, says, story₁}
use Rattle.traces.specs.Story.{Reached, by_feed, Asks, asks, Story, story, shut}
use Rattle.traces.specs.Demands.{waits, verdict_of, end_answer}
use Rattle.demands.specs.Streams.{stream_code, conn_code, ended_by, is_due, event_of, fed_by, Keeps, types_in, notice_of, frames_event, one_event, heard_by, streams}
use Rattle.demands.specs.Reading.{reading}
use Rattle.demands.specs.Reads.{fed_goes, reads}
use Rattle.demands.specs.Moves.{alone}
use Rattle.demands.specs.Overheard.{OneSuits, OneAfter, OneTells, one_suits}
use Rattle.demands.specs.Suits.{RequestFits, RequestSuits, EventSuits, request_suits, ControlFits}
use Rattle.demands.specs.Suited.{RowSuits, found_suits, suits_fresh, suits_call}

-- ---- what an answer to a feed keeps to

-- a part ends where the feed stopped
abbrev pub EndsAt : (used : ℕ) → Event → Type 0
EndsAt u quiet = Unit {0}
EndsAt u (section_bytes from len last) = from + len ≡ u
EndsAt u (content_bytes from len) = from + len ≡ u
EndsAt u (notice (qpack_bytes type from len)) = from + len ≡ u
EndsAt u (notice (settings size capacity blocked)) = Unit {0}
EndsAt u (notice (client_goaway id)) = Unit {0}
EndsAt u (notice (max_push_id id)) = Unit {0}

pub record Bounded (allow : ℕ) (piece : List ℕ) (used heads : ℕ) : Type 0 where
  pub fits : used ≤ length piece
  pub allowed : heads ≤ allow

-- accepted or refused; nothing else is a feed's answer
abbrev pub KeepsTo : (allow : ℕ) (piece : List ℕ) → Answer → Type 0
KeepsTo allow piece (gave done) = ⊥
KeepsTo allow piece (gave (fed u h e)) = Bounded allow piece u h × EndsAt u e
KeepsTo allow piece (left l) = ⊥
KeepsTo allow piece (house n) = Unit {0}
KeepsTo allow piece (code k u h) = Bounded allow piece u h

-- ---- any machine whose feeds keep to it

abbrev FedWithin : {X : Type 0} → (allow : ℕ) (piece : List ℕ) → Fed X → Type 0
FedWithin allow piece (goes u h e x) = Bounded allow piece u h × EndsAt u e
FedWithin allow piece (faults k u h) = Bounded allow piece u h

module _ {M : Machine} where
  of_fed_lem : {X : Type 0} (id : ℕ) (p : Pair M) (f : X → Held M) (allow : ℕ) (piece : List ℕ) (x : Fed X) → FedWithin allow piece x → KeepsTo allow piece (settle id p (map_out f (of_fed x))).answer
  unfolding settle map_out of_fed with faulted
  of_fed_lem id p f allow piece (goes u h e x) w = w
  of_fed_lem id p f allow piece (faults (of_stream k) u h) w = w
  of_fed_lem id p f allow piece (faults (of_connection k) u h) w = w

  of_due : (id : ℕ) (p : Pair M) (f : M.Request → Held M) (allow : ℕ) (piece : List ℕ) (d : Bool) (x : Fed M.Request) → FedWithin allow piece x
      → KeepsTo allow piece (settle id p (map_out f (either d (stream.refuse section_due) (of_fed x)))).answer
  unfolding either
  of_due id p f allow piece true x w = unfold settle map_out same in tt
  of_due id p f allow piece false x w = of_fed_lem id p f allow piece x w

  module _ (law : (r : M.Request) (allow : ℕ) (piece : List ℕ) → FedWithin allow piece (M.feed r allow piece))
      (law₁ : (k : M.Kept) (w : M.Oneway) (allow : ℕ) (piece : List ℕ) → FedWithin allow piece (M.feed₁ k w allow piece)) where
    at_stream : (id : ℕ) (p : Pair M) (x : Stream M) (allow : ℕ) (piece : List ℕ) → KeepsTo allow piece (settle id p (act_on p.conn.kept x (feed allow piece))).answer
    unfolding act_on act act₁
    at_stream id p (asking r) allow piece = of_due id p _ allow piece (M.due r) (M.feed r allow piece) (law r allow piece)
    at_stream id p (telling w) allow piece = of_fed_lem id p _ allow piece (M.feed₁ p.conn.kept w allow piece) (law₁ p.conn.kept w allow piece)

    at_slot : (id : ℕ) (p : Pair M) (o : Option (Stream M)) (allow : ℕ) (piece : List ℕ) → KeepsTo allow piece (acting id (feed allow piece) p o).answer
    unfolding acting same
    at_slot id p none allow piece = tt
    at_slot id p (some x) allow piece = at_stream id p x allow piece

    at_call : (id : ℕ) (p : Pair M) (allow : ℕ) (piece : List ℕ) → KeepsTo allow piece (call (on id (feed allow piece)) p).answer
    unfolding call alive same
    at_call id p allow piece = by p.conn.dead
      where
        by : (d : Option ConnectionFault) → KeepsTo allow piece (alive d p (acting id (feed allow piece) p (find id p.row))).answer
        by none = at_slot id p (find id p.row) allow piece
        by (some k) = record { fits = zero-le; allowed = zero-le }

-- ---- the streams of document 01

part_ends : (u : ℕ) (e : F.Event) → Within e u → EndsAt u (event_of u e)
unfolding event_of
part_ends u F.quiet w = tt
part_ends u (F.section_bytes len last) w = omega arith
part_ends u (F.content_bytes len) w = omega arith
part_ends u (F.taken k payload) w = tt

request_by : (allow : ℕ) (piece : List ℕ) (u h : ℕ) (e : F.Event) (o : Outcome Message) → Bounded allow piece u h → Within e u → FedWithin allow piece (fed_by u h e o)
unfolding fed_by
request_by allow piece u h e (lives s) w p = (w, part_ends u e p)
request_by allow piece u h e (dies n) w p = w

request_within : (r : State Message) (allow : ℕ) (piece : List ℕ) → FedWithin allow piece (streams.feed r allow piece)
request_within r allow piece =
    let f = F.feed (asking-rules document) allow r piece in
    let w = feed_runs (asking-rules document) allow 0 r piece in
    request_by allow piece f.used f.heads f.event f.after (record { fits = w.fits; allowed = feed_allows (asking-rules document) allow r piece }) w.within

-- of a one-way stream only QPACK bytes are a part
abbrev pub OneWithin : O.OneEvent → ℕ → Type 0
OneWithin (O.of_frames e) u = Unit {0}
OneWithin (O.qpack_bytes q len) u = len ≤ u

pub record OneFits (piece : List ℕ) (f : O.OneFeeding) : Type 0 where
  pub fits : f.used ≤ length piece
  pub within : OneWithin f.event f.used

also_within : (e : O.OneEvent) (u : ℕ) → OneWithin e u → OneWithin e (suc u)
also_within (O.of_frames e) u w = tt
also_within (O.qpack_bytes q len) u w = omega arith

also_fits : (b : ℕ) (bs : List ℕ) (f : O.OneFeeding) → OneFits bs f → OneFits (b ∷ bs) (O.also f)
unfolding O.also
also_fits b bs f w = record { fits = omega (arith, w.fits); within = also_within f.event f.used w.within }

control_fits : (allow : ℕ) (s : State Control) (piece : List ℕ) → OneFits piece (O.of_control (F.feed control allow s piece))
unfolding O.of_control
control_fits allow s piece = record { fits = (feed_runs control allow 0 s piece).fits; within = tt }

qpack_fits : (q : Qpack) (piece : List ℕ) → OneFits piece (O.qpack_feed q piece)
unfolding O.qpack_feed O.halt
qpack_fits q [] = record { fits = zero-le; within = tt }
qpack_fits q (b ∷ bs) = record { fits = omega arith; within = omega arith }

typed_fits : (allow : ℕ) (t : Typed) (piece : List ℕ) → OneFits piece (O.typed_feed allow t piece)
unfolding O.typed_feed O.kind_feed O.halt
typed_fits allow (way.refuse n) piece = record { fits = zero-le; within = tt }
typed_fits allow (is a_control) piece = control_fits allow (between unset) piece
typed_fits allow (is (a_qpack q)) piece = qpack_fits q piece
typed_fits allow (is way.skipped) piece = record { fits = omega arith; within = tt }

module _ (seen : List ℕ) (allow : ℕ) where
  type_fits : (piece : List ℕ) (g : M.Prog) → OneFits piece (O.type_feed seen allow g piece)
  unfolding O.type_feed O.halt
  type_fits [] g = record { fits = zero-le; within = tt }
  type_fits (b ∷ bs) g = also_fits b bs _ (by (type_fits bs) (M.fed g b))
    where
      by : ((g : M.Prog) → OneFits bs (O.type_feed seen allow g bs)) → (x : M.Fed) → OneFits bs (elim x [ M.going g' ↦ O.type_feed seen allow g' bs | M.value t ↦ O.typed_feed allow (type_rule seen t) bs ])
      by next (M.going g') = next g'
      by next (M.value t) = typed_fits allow (type_rule seen t) bs

  pub one_fits : (s : O.OneState) (piece : List ℕ) → OneFits piece (O.feed seen allow s piece)
  unfolding O.feed O.kind_feed O.typed_feed
  one_fits (O.in_stream_type g) piece = type_fits piece g
  one_fits (O.in_control s) piece = control_fits allow s piece
  one_fits (O.in_qpack q) piece = qpack_fits q piece
  one_fits O.in_skipped piece = typed_fits allow (is way.skipped) piece

notice_ends : (u : ℕ) (t : Told) → EndsAt u (notice_of t)
unfolding notice_of
notice_ends u (told_settings s) = tt
notice_ends u (told_goaway id) = tt
notice_ends u (told_max_push_id id) = tt
notice_ends u told_nothing = tt

one_part_ends : (u : ℕ) (e : O.OneEvent) → OneWithin e u → EndsAt u (one_event u e)
unfolding one_event frames_event
one_part_ends u (O.of_frames F.quiet) w = tt
one_part_ends u (O.of_frames (F.section_bytes len last)) w = tt
one_part_ends u (O.of_frames (F.content_bytes len)) w = tt
one_part_ends u (O.of_frames (F.taken k payload)) w = notice_ends u (tells k payload)
one_part_ends u (O.qpack_bytes q len) w = omega arith

one_by : (k : Keeps) (allow : ℕ) (piece : List ℕ) (u h : ℕ) (e : O.OneEvent) (o : O.OneOutcome) → Bounded allow piece u h → OneWithin e u → FedWithin allow piece (heard_by k u h e o)
unfolding heard_by
one_by k allow piece u h e (O.lives s) w p = (w, one_part_ends u e p)
one_by k allow piece u h e (O.dies n) w p = w

one_within : (k : Keeps) (s : O.OneState) (allow : ℕ) (piece : List ℕ) → FedWithin allow piece (streams.feed₁ k s allow piece)
one_within k s allow piece =
    let f = O.feed (types_in k) allow s piece in
    let w = one_fits (types_in k) allow s piece in
    one_by k allow piece f.used f.heads f.event f.after (record { fits = w.fits; allowed = one_allows (types_in k) allow s piece }) w.within

-- PARTS AND ALLOWANCES: whatever the trace, the stream, the allowance and the piece
pub parts : (cs : List (Call streams)) (id allow : ℕ) (piece : List ℕ) → KeepsTo allow piece (call (on id (feed allow piece)) (run fresh cs)).answer
parts cs id allow piece = at_call request_within one_within id (run fresh cs) allow piece

-- ---- a request stream that runs

unfoldable pub is_marked : Event → Bool
is_marked quiet = false
is_marked (section_bytes from len last) = last
is_marked (content_bytes from len) = false
is_marked (notice what) = false

abbrev pub Loud : Event → Type 0
Loud quiet = ⊥
Loud (section_bytes from len last) = Unit {0}
Loud (content_bytes from len) = Unit {0}
Loud (notice what) = Unit {0}

-- why an accepted feed stopped
pub data Stopped (allow : ℕ) (piece : List ℕ) (used heads : ℕ) (e : Event) : Type 0 where
  at_event : Loud e → Stopped allow piece used heads e
  at_end : used ≡ length piece → Stopped allow piece used heads e
  at_allowance : heads ≡ allow → Stopped allow piece used heads e

-- where a section is due behind a feed, its part was marked: one induction over the feeds of any grammar
unfoldable due_in : {P : Type 0} → Outcome P → Bool
due_in (lives s) = is_due s
due_in (dies n) = false

unfoldable mark_in : F.Event → Bool
mark_in F.quiet = false
mark_in (F.section_bytes len last) = last
mark_in (F.content_bytes len) = false
mark_in (F.taken k payload) = false

module _ (G : Grammar) where
  abbrev Marks : Feeding G.P → Type 0
  Marks f = due_in f.after ≡ mark_in f.event

  also_marks : (h : ℕ) (f : Feeding G.P) → Marks f → Marks (also h f)
  unfolding also
  also_marks h f w = w

  halts : (e : F.Event) (o : Outcome G.P) → due_in o ≡ mark_in e → Marks (halt e o)
  unfolding halt
  halts e o w = w

  still : (s : State G.P) → is_due s ≡ false → Marks (halt F.quiet (lives s))
  unfolding due_in mark_in
  still s e = halts F.quiet (lives s) e

  judged_marks : (k : Kept) (payload : List ℕ) (n : Next G.P) (f : State G.P → Feeding G.P) → Marks (onward (judged_event k payload n) (M.answered n) f)
  unfolding onward judged_event M.answered due_in mark_in is_due
  judged_marks k payload (stop n) f = halts F.quiet (dies n) refl
  judged_marks k payload (go p) f = halts (F.taken k payload) (lives (between p)) refl

  module _ (f : State G.P → Feeding G.P) (next : (s : State G.P) → is_due s ≡ false → Marks (f s)) where
    left_marks : (u : Use) (k : List ℕ) (l : ℕ) (p : G.P) → Marks (onward (left_event G u k l p) (M.with_left G u k l p) f)
    unfolding onward left_event over_event M.with_left M.over due_in mark_in is_due
    left_marks content k zero p = next (between p) refl
    left_marks skipped k zero p = next (between p) refl
    left_marks (section t) k zero p = halts (F.section_bytes 0 true) (lives (due t p)) refl
    left_marks (kept x) k zero p = judged_marks x k (G.judged x p k) f
    left_marks u k (suc l) p = next (in_payload u k l p) refl

    skip_marks : (l : ℕ) (p : G.P) → Marks (onward F.quiet (M.with_left G skipped [] l p) f)
    unfolding onward M.with_left M.over is_due
    skip_marks zero p = next (between p) refl
    skip_marks (suc l) p = next (in_payload skipped [] l p) refl

    behind_marks : (len : ℕ) (r : Ruling G.P) → Marks (behind_header G len r f)
    unfolding behind_header due_in mark_in
    behind_marks len (refuse n) = halts F.quiet (dies n) refl
    behind_marks len (accept u p) = left_marks u [] len p

  content_marks : (j l : ℕ) (p : G.P) → Marks (taking G content j l p)
  unfolding taking named M.with_left M.over due_in mark_in is_due
  content_marks j zero p = refl
  content_marks j (suc l) p = refl

  section_marks : (t : Part) (j l : ℕ) (p : G.P) → Marks (taking G (section t) j l p)
  unfolding taking named M.with_left M.over due_in mark_in is_due
  section_marks t j zero p = refl
  section_marks t j (suc l) p = sym (eqb-suc-zero l)

  typed_reads : (p : G.P) (x : M.Fed) → is_due (M.typed p x) ≡ false
  unfolding M.typed is_due
  typed_reads p (M.going g) = refl
  typed_reads p (M.value t) = refl

  length_marks : (n t : ℕ) (p : G.P) (bs : List ℕ) → ((n : ℕ) (s : State G.P) → is_due s ≡ false → Marks (F.feed G n s bs)) → (x : M.Fed) → Marks (elim x [
    | M.going g ↦ also 0 (F.feed G (suc n) (in_length t g p) bs)
    | M.value len ↦ also 1 (behind_header G len (G.rule p t len) (λ s. F.feed G n s bs))
  ])
  unfolding is_due
  length_marks n t p bs ih (M.going g) = also_marks 0 _ (ih (suc n) (in_length t g p) refl)
  length_marks n t p bs ih (M.value len) = also_marks 1 _ (behind_marks (λ s. F.feed G n s bs) (λ s h. ih n s h) len (G.rule p t len))

  feed_marks : (n : ℕ) (s : State G.P) → is_due s ≡ false → (bs : List ℕ) → Marks (F.feed G n s bs)
  unfolding F.feed is_due
  feed_marks n s h [] = still s h
  feed_marks zero (in_type g p) h (b ∷ bs) = still (in_type g p) refl
  feed_marks (suc n) (in_type g p) h (b ∷ bs) = also_marks 0 _ (feed_marks (suc n) (M.typed p (M.fed g b)) (typed_reads p (M.fed g b)) bs)
  feed_marks zero (in_length t g p) h (b ∷ bs) = still (in_length t g p) refl
  feed_marks (suc n) (in_length t g p) h (b ∷ bs) = length_marks n t p bs (λ n s h. feed_marks n s h bs) (M.fed g b)
  feed_marks n (in_payload content k l p) h (b ∷ bs) = content_marks (min l (length bs)) (l - min l (length bs)) p
  feed_marks n (in_payload (section t) k l p) h (b ∷ bs) = section_marks t (min l (length bs)) (l - min l (length bs)) p
  feed_marks n (in_payload skipped k l p) h (b ∷ bs) = also_marks 0 _ (skip_marks (λ s. F.feed G n s bs) (λ s h. feed_marks n s h bs) l p)
  feed_marks n (in_payload (kept x) k l p) h (b ∷ bs) = also_marks 0 _ (left_marks (λ s. F.feed G n s bs) (λ s h. feed_marks n s h bs) (kept x) (k ++ (b ∷ [])) l p)
  feed_marks n (due t p) h (b ∷ bs) = let z : ◌≡◌ {A = ℕ} 0 1 = cc in absurd (omega arith)

-- where a feed that used some of its piece and not all of it stops: between two frames, or where a section is due
abbrev AtRest : {P : Type 0} → Outcome P → Type 0
AtRest (lives (in_type M.fresh p)) = Unit {0}
AtRest (lives (in_type (M.need k v) p)) = ⊥
AtRest (lives (in_length t g p)) = ⊥
AtRest (lives (in_payload u k l p)) = ⊥
AtRest (lives (due t p)) = Unit {0}
AtRest (dies n) = Unit {0}

abbrev pub InHeader : {P : Type 0} → State P → Type 0
InHeader (in_type M.fresh p) = ⊥
InHeader (in_type (M.need k v) p) = Unit {0}
InHeader (in_length t g p) = Unit {0}
InHeader (in_payload u k l p) = ⊥
InHeader (due t p) = ⊥

data Rests {P : Type 0} (piece : List ℕ) (f : Feeding P) : Type 0 where
  at_rest : AtRest f.after → Rests piece f
  all_used : f.used ≡ length piece → Rests piece f

module _ (G : Grammar) where
  also_rests : (h b : ℕ) (bs : List ℕ) (f : Feeding G.P) → Rests bs f → Rests (b ∷ bs) (also h f)
  unfolding also
  also_rests h b bs f (at_rest a) = at_rest a
  also_rests h b bs f (all_used e) = all_used (ap suc e)

  halt_rests : (e : F.Event) (o : Outcome G.P) (bs : List ℕ) → AtRest o → Rests bs (halt e o)
  unfolding halt
  halt_rests e o bs a = at_rest a

  judged_rests : (bs : List ℕ) (k : Kept) (payload : List ℕ) (n : Next G.P) (f : State G.P → Feeding G.P) → Rests bs (onward (judged_event k payload n) (M.answered n) f)
  unfolding onward judged_event M.answered
  judged_rests bs k payload (stop n) f = halt_rests F.quiet (dies n) bs tt
  judged_rests bs k payload (go p) f = halt_rests (F.taken k payload) (lives (between p)) bs tt

  module _ (bs : List ℕ) (f : State G.P → Feeding G.P) (next : (s : State G.P) → (InHeader s → ⊥) → Rests bs (f s)) where
    left_rests : (u : Use) (k : List ℕ) (l : ℕ) (p : G.P) → Rests bs (onward (left_event G u k l p) (M.with_left G u k l p) f)
    unfolding onward left_event over_event M.with_left M.over
    left_rests content k zero p = next (between p) (λ i. i)
    left_rests skipped k zero p = next (between p) (λ i. i)
    left_rests (section t) k zero p = halt_rests (F.section_bytes 0 true) (lives (due t p)) bs tt
    left_rests (kept x) k zero p = judged_rests bs x k (G.judged x p k) f
    left_rests u k (suc l) p = next (in_payload u k l p) (λ i. i)

    skip_rests : (l : ℕ) (p : G.P) → Rests bs (onward F.quiet (M.with_left G skipped [] l p) f)
    unfolding onward M.with_left M.over
    skip_rests zero p = next (between p) (λ i. i)
    skip_rests (suc l) p = next (in_payload skipped [] l p) (λ i. i)

    behind_rests : (len : ℕ) (r : Ruling G.P) → Rests bs (behind_header G len r f)
    unfolding behind_header
    behind_rests len (refuse n) = halt_rests F.quiet (dies n) bs tt
    behind_rests len (accept u p) = left_rests u [] len p

  content_rests : (l b : ℕ) (bs : List ℕ) (p : G.P) (m : ℕ) → l - min l (length bs) ≡ m → Rests (b ∷ bs) (taking G content (min l (length bs)) m p)
  unfolding taking M.with_left M.over
  content_rests l b bs p zero e = at_rest tt
  content_rests l b bs p (suc m) e = all_used (omega arith)

  section_rests : (l b : ℕ) (bs : List ℕ) (t : Part) (p : G.P) (m : ℕ) → l - min l (length bs) ≡ m → Rests (b ∷ bs) (taking G (section t) (min l (length bs)) m p)
  unfolding taking M.with_left M.over
  section_rests l b bs t p zero e = at_rest tt
  section_rests l b bs t p (suc m) e = all_used (omega arith)

  length_rests : (n t : ℕ) (p : G.P) (b : ℕ) (bs : List ℕ) → ((n : ℕ) (s : State G.P) → (n ≡ 0 → InHeader s → ⊥) → Rests bs (F.feed G n s bs)) → (x : M.Fed) → Rests {P = G.P} (b ∷ bs) (elim x [
    | M.going g ↦ also 0 (F.feed G (suc n) (in_length t g p) bs)
    | M.value len ↦ also 1 (behind_header G len (G.rule p t len) (λ s. F.feed G n s bs))
  ])
  length_rests n t p b bs ih (M.going g) = also_rests 0 b bs _ (ih (suc n) (in_length t g p) (λ z i. omega arith))
  length_rests n t p b bs ih (M.value len) = also_rests 1 b bs _ (behind_rests bs (λ s. F.feed G n s bs) (λ s h. ih n s (λ z i. h i)) len (G.rule p t len))

  -- unless it is allowed no header and is inside one
  feed_rests : (n : ℕ) (s : State G.P) → (n ≡ 0 → InHeader s → ⊥) → (bs : List ℕ) → Rests bs (F.feed G n s bs)
  unfolding F.feed halt
  feed_rests n s h [] = all_used refl
  feed_rests zero (in_type M.fresh p) h (b ∷ bs) = at_rest tt
  feed_rests zero (in_type (M.need k v) p) h (b ∷ bs) = absurd (h refl tt)
  feed_rests (suc n) (in_type g p) h (b ∷ bs) = also_rests 0 b bs _ (feed_rests (suc n) (M.typed p (M.fed g b)) (λ z i. omega arith) bs)
  feed_rests zero (in_length t g p) h (b ∷ bs) = absurd (h refl tt)
  feed_rests (suc n) (in_length t g p) h (b ∷ bs) = length_rests n t p b bs (λ n s h. feed_rests n s h bs) (M.fed g b)
  feed_rests n (in_payload content k l p) h (b ∷ bs) = content_rests l b bs p (l - min l (length bs)) refl
  feed_rests n (in_payload (section t) k l p) h (b ∷ bs) = section_rests l b bs t p (l - min l (length bs)) refl
  feed_rests n (in_payload skipped k l p) h (b ∷ bs) = also_rests 0 b bs _ (skip_rests bs (λ s. F.feed G n s bs) (λ s h. feed_rests n s (λ z i. h i) bs) l p)
  feed_rests n (in_payload (kept x) k l p) h (b ∷ bs) = also_rests 0 b bs _ (left_rests bs (λ s. F.feed G n s bs) (λ s h. feed_rests n s (λ z i. h i) bs) (kept x) (k ++ (b ∷ [])) l p)
  feed_rests n (due t p) h (b ∷ bs) = at_rest tt

  -- and then it uses nothing
  pub feed_held : (s : State G.P) → InHeader s → (bs : List ℕ) → (F.feed G zero s bs).used ≡ 0
  unfolding F.feed halt
  feed_held s i [] = refl
  feed_held (in_type g p) i (b ∷ bs) = refl
  feed_held (in_length t g p) i (b ∷ bs) = refl
  feed_held (in_payload u k l p) i (b ∷ bs) = absurd i
  feed_held (due t p) i (b ∷ bs) = absurd i

  pub in_header : (s : State G.P) → Dec (InHeader s)
  in_header (in_type M.fresh p) = no (λ i. i)
  in_header (in_type (M.need k v) p) = yes tt
  in_header (in_length t g p) = yes tt
  in_header (in_payload u k l p) = no (λ i. i)
  in_header (due t p) = no (λ i. i)

  feed_ends : (n : ℕ) (s : State G.P) (bs : List ℕ) → 1 ≤ (F.feed G n s bs).used → Rests bs (F.feed G n s bs)
  feed_ends zero s bs l = by (in_header s)
    where
      by : Dec (InHeader s) → Rests bs (F.feed G zero s bs)
      by (yes i) = absurd (omega (arith, l, feed_held s i bs))
      by (no m) = feed_rests zero s (λ z i. m i) bs
  feed_ends (suc n) s bs l = feed_rests (suc n) s (λ z i. omega arith) bs

abbrev asks_so : Grammar
asks_so = asking-rules document

mark_same : (u : ℕ) (e : F.Event) → mark_in e ≡ is_marked (event_of u e)
unfolding mark_in is_marked event_of
mark_same u F.quiet = refl
mark_same u (F.section_bytes len last) = refl
mark_same u (F.content_bytes len) = refl
mark_same u (F.taken k payload) = refl

mark_loud : (u : ℕ) (e : F.Event) → mark_in e ≡ true → Loud (event_of u e)
unfolding mark_in event_of
mark_loud u F.quiet m = absurd (true≢false (sym m))
mark_loud u (F.section_bytes len last) m = tt
mark_loud u (F.content_bytes len) m = tt
mark_loud u (F.taken k payload) m = absurd (true≢false (sym m))

module _ (r r' : State Message) (allow u h : ℕ) (piece : List ℕ) (e : Event) (fits : RequestSuits r) (reading-on : is_due r ≡ false) (so : streams.feed r allow piece ≡ goes u h e r') where
  abbrev this : Feeding Message
  this = F.feed asks_so allow r piece

  was : (this.after ≡ lives r') × (this.used ≡ u) × (this.heads ≡ h) × (event_of this.used this.event ≡ e)
  was = fed_goes this.used this.heads this.event this.after so

  due_as : is_due r' ≡ is_marked e
  unfolding due_in
  due_as = ap due_in (sym was.0) ∙ feed_marks asks_so allow r reading-on piece ∙ mark_same this.used this.event ∙ ap is_marked was.3

  named_loud : (x : F.Event) → Loud (event_of this.used x) → this.event ≡ x → Stopped allow piece u h e
  named_loud x l q = at_event (subst Loud (ap (event_of this.used) (sym q) ∙ was.3) l)

  stops_by : E.Stops allow piece this → Stopped allow piece u h e
  unfolding event_of due_in is_due
  stops_by (E.Stops.at_section {len = len} {last = last} q) = named_loud (F.section_bytes len last) tt q
  stops_by (E.Stops.at_content {len = len} q) = named_loud (F.content_bytes len) tt q
  stops_by (E.Stops.at_taken q) = absurd (subst (λ x. EventSuits asks_so RequestFits x this.after) q (request_suits allow r fits piece).event).fits
  stops_by (E.Stops.at_end q) = at_end (sym was.1 ∙ q)
  stops_by (E.Stops.at_allowance q) = at_allowance (sym was.2 ∙ q)
  stops_by (E.Stops.at_fault {code = n} q) = absurd (alive-still r' n (sym was.0 ∙ q))
    where
      alive-still : (s : State Message) (n : Code) → lives s ≡ dies n → ⊥
      alive-still s n e = let z : ◌≡◌ {A = ℕ} 0 1 = cc in omega arith
  stops_by (E.Stops.while_due q) = named_loud this.event (mark_loud this.used this.event (sym (feed_marks asks_so allow r reading-on piece) ∙ ap due_in q)) refl

  rests_there : 1 ≤ u → u < length piece → AtRest (lives r')
  rests_there l m = by (feed_ends asks_so allow r piece (omega (arith, l, was.1)))
    where
      by : Rests piece this → AtRest (lives r')
      by (at_rest a) = subst AtRest was.0 a
      by (all_used n) = absurd (omega (arith, m, n, was.1))

pub got_fed : {M : Machine} (id : ℕ) (p : Pair M) (f : M.Request → Held M) (u h : ℕ) (e : Event) (d : Bool) (x : Fed M.Request)
    → (settle id p (map_out f (either d (stream.refuse section_due) (of_fed x)))).answer ≡ gave (fed u h e) → (d ≡ false) × ((r : M.Request) × (x ≡ goes u h e r))
unfolding settle map_out either of_fed same with faulted
got_fed id p f u h e true x q = absurd (no_house q)
got_fed id p f u h e false (goes u' h' e' r) q = (refl, (r, cc))
got_fed id p f u h e false (faults (of_stream k) u' h') q = absurd (no_code q)
got_fed id p f u h e false (faults (of_connection k) u' h') q = absurd (no_code q)

pub suits_run : (cs : List (Call streams)) (p : Pair streams) → RowSuits p.row → RowSuits (run p cs).row
unfolding run
suits_run [] p w = w
suits_run (c ∷ cs) p w = suits_run cs (call c p).after (suits_call c p w)

pub never_waits : (x : Ended) → verdict_of x ≡ waits → ⊥
unfolding verdict_of
never_waits is_whole e = let z : ◌≡◌ {A = ℕ} 0 1 = cc in omega arith
never_waits (broken k) e = let z : ◌≡◌ {A = ℕ} 0 1 = cc in omega arith

-- a request stream ended between two frames may be incomplete or malformed, but is not cut
not_cut : (x : message.Ended) → ended_by (ended (end_of_ended x) 0) ≡ broken (of_connection frame_error) → ⊥
unfolding ended_by ended end_of_ended ask.code_of conn_code stream_code
not_cut message.all_come e = let z : ◌≡◌ {A = ℕ} 0 1 = cc in omega arith
not_cut (message.lacks message.out_of_place) e = let z : ◌≡◌ {A = ℕ} 0 1 = cc in omega arith
not_cut (message.lacks message.past_stated) e = let z : ◌≡◌ {A = ℕ} 0 1 = cc in omega arith
not_cut (message.lacks message.past_limit) e = let z : ◌≡◌ {A = ℕ} 0 1 = cc in omega arith
not_cut (message.lacks message.no_section) e = let z : ◌≡◌ {A = ℕ} 0 1 = cc in omega arith
not_cut (message.lacks message.unequal) e = let z : ◌≡◌ {A = ℕ} 0 1 = cc in omega arith

rest_ends : (r : State Message) → is_due r ≡ false → AtRest (lives r) → streams.finish r ≡ broken (of_connection frame_error) → ⊥
unfolding is_due M.finish
rest_ends (in_type M.fresh m) d a e = not_cut (message.ends m) e
rest_ends (in_type (M.need k v) m) d a e = a
rest_ends (in_length t g m) d a e = a
rest_ends (in_payload u k l m) d a e = a
rest_ends (due t m) d a e = true≢false d

cut_answer : (x : Ended) → end_answer (verdict_of x) ≡ code (of_connection frame_error) 0 0 → x ≡ broken (of_connection frame_error)
unfolding end_answer verdict_of
cut_answer is_whole e = let z : ◌≡◌ {A = ℕ} 0 1 = cc in absurd (omega arith)
cut_answer (broken k) e = ap broken (cc)

waits_answer : end_answer waits ≡ code (of_connection frame_error) 0 0 → ⊥
unfolding end_answer
waits_answer e = let z : ◌≡◌ {A = ℕ} 0 1 = cc in omega arith

-- what is said of an accepted feed, over the bytes and sections before it: why it stopped; that the mark is exactly where a section is due; and
-- that one which used some of its piece and not all of it stopped inside no frame: ended there, the stream would not be cut (0x0106). So a part
-- is as long as the piece and the payload allow, and where the piece goes on no byte of a further header was read
pub record Exactly (allow : ℕ) (piece : List ℕ) (used heads : ℕ) (e : Event) (before : Shown streams) : Type 0 where
  pub stopped : Stopped allow piece used heads e
  pub marked : (is_marked e ≡ true) ↔ (reading.verdict (before.bytes ++ take used piece) before.sections ≡ waits)
  pub whole_frames : 1 ≤ used → used < length piece → end_answer (reading.verdict (before.bytes ++ take used piece) before.sections) ≡ code (of_connection frame_error) 0 0 → ⊥

exactly : (s : Shown streams) (r r' : State Message) (allow u h : ℕ) (piece : List ℕ) (e : Event) → Reached s r → RequestSuits r → is_due r ≡ false → streams.feed r allow piece ≡ goes u h e r' → Exactly allow piece u h e s
unfolding plus_feed
exactly s r r' allow u h piece e t w d q =
    let t' : Reached (plus_feed u h e piece s) r' = by_feed t d q in
    record {
      stopped = stops_by r r' allow u h piece e w d q (feed_stops asks_so allow r piece);
      marked = (λ m. reads.while_due t' (due_as r r' allow u h piece e w d q ∙ m), λ v. back v t' (is_due r') refl);
      whole_frames = λ l m c. ends_there t' c (is_due r') refl (rests_there r r' allow u h piece e w d q l m);
    }
  where
    ends_there : Reached (plus_feed u h e piece s) r' → end_answer (reading.verdict (s.bytes ++ take u piece) s.sections) ≡ code (of_connection frame_error) 0 0 → (b : Bool) → is_due r' ≡ b → AtRest (lives r') → ⊥
    ends_there t' c true b a = waits_answer (sym (ap end_answer (reads.while_due t' b)) ∙ c)
    ends_there t' c false b a = rest_ends r' b a (cut_answer (streams.finish r') (sym (ap end_answer (reads.at_end t' b)) ∙ c))

    back : reading.verdict (s.bytes ++ take u piece) s.sections ≡ waits → Reached (plus_feed u h e piece s) r' → (b : Bool) → is_due r' ≡ b → is_marked e ≡ true
    back v t' true b = sym (due_as r r' allow u h piece e w d q) ∙ b
    back v t' false b = absurd (never_waits (streams.finish r') (sym (reads.at_end t' b) ∙ v))

exactly_agrees : (id : ℕ) (p : Pair streams) (v : View streams) (allow u h : ℕ) (piece : List ℕ) (e : Event) → RowSuits p.row → v.fate ≡ running
    → (call (on id (feed allow piece)) p).answer ≡ gave (fed u h e) → Agrees Asks Story id p v → Exactly allow piece u h e v.shown
unfolding act
exactly_agrees id p v allow u h piece e w n q (over {f = f} t g) = absurd (not_running f (shut t) n)
exactly_agrees id p v allow u h piece e w n q (open_still {s = s} a (asks {r = r} t) f) =
    let c = got_fed id p (λ x. record { stream = asking x; kept = p.conn.kept }) u h e (is_due r) (streams.feed r allow piece) (sym (ap (λ x. x.answer) (call_on_asking p id r (feed allow piece) a f)) ∙ q) in
    exactly s r c.1.0 allow u h piece e t (found_suits id (asking r) p.row w f) c.0 c.1.1

-- STOPS AND MARKS: a feed that a running request stream accepts stopped at an event, at the end of the piece or at its allowance; and its part is
-- marked exactly if a section is due behind it
pub feeds_exactly : (id : ℕ) → kind_of id ≡ some request → (cs : List (Call streams)) (allow used heads : ℕ) (piece : List ℕ) (e : Event) → (view id (trace fresh cs)).fate ≡ running
    → (call (on id (feed allow piece)) (run fresh cs)).answer ≡ gave (fed used heads e) → Exactly allow piece used heads e (view id (trace fresh cs)).shown
feeds_exactly id k cs allow u h piece e n q = exactly_agrees id (run fresh cs) (view id (trace fresh cs)) allow u h piece e (suits_run cs fresh suits_fresh) n q (agrees story id cs k)

-- ---- a one-way stream that runs

-- a payload that was judged good is reported
settings_loud : (n : Next Settings) (next : Control) → after_settings n ≡ go next → Loud (notice_of (settings_in n))
unfolding after_settings settings_in notice_of
settings_loud (stop n) next e = let z : ◌≡◌ {A = ℕ} 0 1 = cc in omega arith
settings_loud (go s) next e = tt

module _ (s : Settings) (g m : Option ℕ) (next : Control) where
  goaway_loud : (o : Option ℕ) → after_integer Kept.goaway s g m o ≡ go next → Loud (notice_of (id_in told_goaway o))
  unfolding after_integer id_in notice_of
  goaway_loud none e = let z : ◌≡◌ {A = ℕ} 0 1 = cc in omega arith
  goaway_loud (some id) e = tt

  push_loud : (o : Option ℕ) → after_integer Kept.max_push_id s g m o ≡ go next → Loud (notice_of (id_in told_max_push_id o))
  unfolding after_integer id_in notice_of
  push_loud none e = let z : ◌≡◌ {A = ℕ} 0 1 = cc in omega arith
  push_loud (some id) e = tt

  cancel_loud : (o : Option ℕ) → after_integer Kept.cancel_push s g m o ≡ go next → Loud (notice_of told_nothing)
  unfolding after_integer
  cancel_loud none e = let z : ◌≡◌ {A = ℕ} 0 1 = cc in absurd (omega arith)
  cancel_loud (some id) e = let z : ◌≡◌ {A = ℕ} 0 1 = cc in absurd (omega arith)

pub taken_loud : (k : Kept) (place next : Control) (payload : List ℕ) → ControlFits (kept k) place → judged k place payload ≡ go next → Loud (notice_of (tells k payload))
unfolding judged tells
taken_loud Kept.settings place next payload f e = settings_loud (settings_of payload) next (rw f at e)
taken_loud Kept.goaway unset next payload f e = absurd f
taken_loud Kept.goaway (set s g m) next payload f e = goaway_loud s g m next (only (integer 0 payload)) e
taken_loud Kept.max_push_id unset next payload f e = absurd f
taken_loud Kept.max_push_id (set s g m) next payload f e = push_loud s g m next (only (integer 0 payload)) e
taken_loud Kept.cancel_push unset next payload f e = absurd f
taken_loud Kept.cancel_push (set s g m) next payload f e = cancel_loud s g m next (only (integer 0 payload)) e

one_stopped : (allow : ℕ) (piece : List ℕ) (u h : ℕ) (e : O.OneEvent) (o : O.OneOutcome) (s : O.OneState) → OneTells e o → OneAfter o → o ≡ O.lives s
    → OneStops allow piece (record { used = u; heads = h; event = e; after = o }) → Stopped allow piece u h (one_event u e)
unfolding one_event frames_event
one_stopped allow piece u h (O.of_frames F.quiet) o s w a l (OneStops.at_event x) = absurd x
one_stopped allow piece u h (O.of_frames F.quiet) o s w a l (OneStops.at_end x) = at_end x
one_stopped allow piece u h (O.of_frames F.quiet) o s w a l (OneStops.at_allowance x) = at_allowance x
one_stopped allow piece u h (O.of_frames F.quiet) o s w a l (OneStops.at_fault {code = n} x) = absurd (lives_on s n (sym l ∙ x))
  where
    lives_on : (s : O.OneState) (n : Code) → O.lives s ≡ O.dies n → ⊥
    lives_on s n e = let z : ◌≡◌ {A = ℕ} 0 1 = cc in omega arith
one_stopped allow piece u h (O.of_frames F.quiet) o s w a l (OneStops.while_due x) = absurd (subst OneAfter x a)
one_stopped allow piece u h (O.of_frames (F.section_bytes len last)) o s w a l x = absurd w
one_stopped allow piece u h (O.of_frames (F.content_bytes len)) o s w a l x = absurd w
one_stopped allow piece u h (O.of_frames (F.taken k payload)) o s (y, q, j) a l x = at_event (taken_loud k j.place j.next payload j.fits j.is)
one_stopped allow piece u h (O.qpack_bytes q len) o s w a l x = at_event tt

pub heard_goes : (k : Keeps) (u₀ h₀ : ℕ) (e₀ : O.OneEvent) (o : O.OneOutcome) {u h : ℕ} {e : Event} {x : Both streams} → heard_by k u₀ h₀ e₀ o ≡ goes u h e x
    → (s : O.OneState) × (o ≡ O.lives s) × (u₀ ≡ u) × (h₀ ≡ h) × (one_event u₀ e₀ ≡ e)
unfolding heard_by
heard_goes k u₀ h₀ e₀ (O.lives s) q = (s, refl, cc, cc, cc)
heard_goes k u₀ h₀ e₀ (O.dies n) q = let z : ◌≡◌ {A = ℕ} 0 1 = cc in absurd (omega arith)

heard_stopped : (k : Keeps) (w : O.OneState) (allow u h : ℕ) (piece : List ℕ) (e : Event) (x : Both streams) → OneSuits w → streams.feed₁ k w allow piece ≡ goes u h e x → Stopped allow piece u h e
heard_stopped k w allow u h piece e x f q =
    let o = O.feed (types_in k) allow w piece in
    let y = one_suits (types_in k) allow w f piece in
    let g = heard_goes k o.used o.heads o.event o.after q in
    rw (← g.2, ← g.3, ← g.4) (one_stopped allow piece o.used o.heads o.event o.after g.0 y.event y.after g.1 (one_stops (types_in k) allow w piece))

pub got_heard : {M : Machine} {X : Type 0} (id : ℕ) (p : Pair M) (f : X → Held M) (u h : ℕ) (e : Event) (x : Fed X) → (settle id p (map_out f (of_fed x))).answer ≡ gave (fed u h e) → (y : X) × (x ≡ goes u h e y)
unfolding settle map_out of_fed with faulted
got_heard id p f u h e (goes u' h' e' y) q = (y, cc)
got_heard id p f u h e (faults (of_stream k) u' h') q = absurd (no_code q)
got_heard id p f u h e (faults (of_connection k) u' h') q = absurd (no_code q)

stopped_agrees : (id : ℕ) (p : Pair streams) (v : View streams) (allow u h : ℕ) (piece : List ℕ) (e : Event) → RowSuits p.row → v.fate ≡ running
    → (call (on id (feed allow piece)) p).answer ≡ gave (fed u h e) → Agrees (Says alone) (Story₁ alone) id p v → Stopped allow piece u h e
unfolding act_on act₁
stopped_agrees id p v allow u h piece e w n q (over {f = f} t g) = absurd (not_running f ((story₁ alone).shut t) n)
stopped_agrees id p v allow u h piece e w n q (open_still a (says {w = s} t) f) =
    let k = p.conn.kept in
    let c = got_heard id p (λ x. record { stream = telling x.state; kept = x.kept }) u h e (streams.feed₁ k s allow piece) (sym (ap (λ x. x.answer) (call_on p id (telling s) (feed allow piece) a f)) ∙ q) in
    heard_stopped k s allow u h piece e c.0 (found_suits id (telling s) p.row w f) c.1

-- STOPS of a one-way stream: only at an event, at the end of the piece or at the allowance
pub one_way_stops : (id : ℕ) → kind_of id ≡ some one_way → (cs : List (Call streams)) (allow used heads : ℕ) (piece : List ℕ) (e : Event) → (view id (trace fresh cs)).fate ≡ running
    → (call (on id (feed allow piece)) (run fresh cs)).answer ≡ gave (fed used heads e) → Stopped allow piece used heads e
one_way_stops id k cs allow u h piece e n q = stopped_agrees id (run fresh cs) (view id (trace fresh cs)) allow u h piece e (suits_run cs fresh suits_fresh) n q (agrees (story₁ alone) id cs k)
