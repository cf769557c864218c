-- WHAT THE CONNECTION KEEPS OF ITS CLIENT is what the control stream's notices have reported since the last start, read from calls and answers alone: unset while
-- none has reported any, also before a control stream has its type. Assumes nothing.
use Rattle.std.proofs.Math.Path.{◌≡◌, refl, sym, ap, subst}
use Rattle.std.proofs.Common.{◌∙◌, arith, true≢false}
use Prim.Native.Nat.{ℕ, zero, suc, ◌-◌, min}
use mathlib.Core.List.{List, [], ◌∷◌, ◌++◌, append-nil, append_assoc}
use Rattle.std.specs.Prelude.{Bool, ◌||◌, eqb, ltb, length}
use Rattle.std.proofs.Math.Bool.{true, false}
use Rattle.std.proofs.Math.Option.{Option, none, some, none-ne-some}
use Rattle.rules.specs.Numbers.{section_due, no_section, unreadable, ConnectionFault, of_connection, frame_error, excessive_load, id_error, missing_settings}
use Rattle.rules.specs.Text.{lookup}
use Rattle.rules.specs.Integers.{integer}
use Rattle.rules.specs.Block.{lines}
use Rattle.rules.specs.Reading as reading
use Rattle.rules.specs.Reading.{Part, Kept as Payload, Use, content, skipped, section, kept, Ruling, refuse, accept, Next, stop, go, Grammar, Verdict, whole, fault, waits}
use Rattle.rules.specs.Message.{Message}
use Rattle.rules.specs.Request.{document}
use Rattle.rules.specs.Request as asked
use Rattle.rules.specs.Control as say
use Rattle.rules.specs.Control.{Settings, Control, unset, set, control, settings_limit}
use Rattle.rules.specs.OneWay.{Qpack, encoder, decoder, Typed, is, a_control, a_qpack, type_rule}
use Rattle.rules.specs.OneWay as W
use Rattle.meaning.specs.Machine as M
use Rattle.meaning.specs.Machine.{State, in_type, in_length, in_payload, due, Outcome, lives, dies, between, Fed, going, value, fed, typed, answered, with_left, over}
use Rattle.meaning.specs.Feed as F
use Rattle.meaning.specs.Feed.{Feeding, halt, also, onward, judged_event, over_event, left_event, behind_header, named, taking}
use Rattle.meaning.specs.OneWayFeed as O
use Rattle.meaning.specs.OneWayFeed.{OneState, OneEvent, OneOutcome, OneFeeding}
use Rattle.rules.specs.Calls as calls
use Rattle.rules.specs.Calls.{Notice, qpack_bytes, settings, client_goaway, max_push_id, Event, quiet, section_bytes, content_bytes, notice, Own, end, reset, Gave, done, Out, step, leave, of_fed, of_given, of_ended, of_closed, map_out, either, act, act₁, Kind, request, one_way, Stream, asking, telling, Conn, Pair, Held, Call, start, open', on, goaway, Answer, gave, left, house, code, spend, keeping, killed, limited, same, find, act_on, call, run, fresh, Entry, trace}
use Rattle.traces.specs.Went as went
use Rattle.traces.specs.Went.{Went}
use Rattle.traces.specs.Alone.{Later}
use Rattle.traces.specs.Kept.{Steps, tells_nothing, becomes, tells_on}
use Rattle.demands.specs.Streams.{Keeps, types_in, is_due, event_of, fed_by, is_readable, section_of, given_by, ended_by, place_in, kept_by, notice_of, frames_event, one_event, heard_by, close_of, streams}
use Rattle.demands.specs.Suits.{EventSuits, ControlFits, ControlSuits, control_suits}
use Rattle.demands.specs.Overheard.{OneSuits}
use Rattle.demands.specs.Suited.{StreamSuits, RowSuits, found_suits, suits_fresh, suits_call}
use Rattle.demands.specs.Moves.{told_by, steps}
use Rattle.demands.specs.Demands.{Calls, mirrored}

-- ---- DEFINITION: what the notices of a trace come to

-- settings are the first that a control stream reports; GOAWAY and MAX_PUSH_ID come behind them, and the last of each is kept
unfoldable pub noted : Notice → Control → Control
noted (qpack_bytes type from len) p = p
noted (settings size capacity blocked) p = set (record { section_size = size; table_capacity = capacity; blocked_streams = blocked }) none none
noted (client_goaway id) unset = unset
noted (client_goaway id) (set s g m) = set s (some id) m
noted (max_push_id id) unset = unset
noted (max_push_id id) (set s g m) = set s g (some id)

unfoldable pub after_event : Event → Control → Control
after_event quiet p = p
after_event (section_bytes from len last) p = p
after_event (content_bytes from len) p = p
after_event (notice n) p = noted n p

unfoldable pub after_answer : Answer → Control → Control
after_answer (gave done) p = p
after_answer (gave (calls.fed u h e)) p = after_event e p
after_answer (left l) p = p
after_answer (house n) p = p
after_answer (code k u h) p = p

-- a start forgets all of it
unfoldable pub after_call : Call streams → Answer → Control → Control
after_call start a p = unset
after_call (open' id) a p = after_answer a p
after_call (on id o) a p = after_answer a p
after_call (goaway id room) a p = after_answer a p

unfoldable pub told_from : Control → List (Entry streams) → Control
told_from p [] = p
told_from p (x ∷ xs) = told_from (after_call x.asked x.answer p) xs

-- from a fresh connection
abbrev pub told_in : List (Entry streams) → Control
told_in t = told_from unset t

-- as instances: settings and the last of two GOAWAYs; a start behind them
abbrev told_of : Notice → Entry streams
told_of n = record { asked = on 2 (calls.feed 1 []); answer = gave (calls.fed 1 1 (notice n)) }

abbrev some_told : List (Entry streams)
some_told = told_of (settings (some 9) 1 2) ∷ told_of (client_goaway 8) ∷ told_of (client_goaway 4) ∷ []

two_goaways : told_in some_told ≡ set (record { section_size = some 9; table_capacity = 1; blocked_streams = 2 }) (some 4) none
unfolding told_from after_call after_answer after_event noted
two_goaways = refl

start_forgets : told_in (some_told ++ (record { asked = start; answer = gave done } ∷ [])) ≡ unset
unfolding told_from after_call after_answer after_event noted
start_forgets = refl

-- ---- a feed of frames leaves the place as it was, but for a payload that it reports

module _ (G : Grammar) where
  abbrev RuleStays : G.P → Ruling G.P → Type 0
  RuleStays p (refuse c) = Unit {0}
  RuleStays p (accept u q) = q ≡ p

  abbrev Stays : G.P → Outcome G.P → Type 0
  Stays p (lives s) = place_in s ≡ p
  Stays p (dies c) = Unit {0}

  abbrev EventStays : G.P → F.Event → Outcome G.P → Type 0
  EventStays p F.quiet o = Stays p o
  EventStays p (F.section_bytes len last) o = Stays p o
  EventStays p (F.content_bytes len) o = Stays p o
  EventStays p (F.taken k payload) o = (next : G.P) × (G.judged k p payload ≡ go next) × (o ≡ lives (between next))

  abbrev FeedStays : G.P → Feeding G.P → Type 0
  FeedStays p f = EventStays p f.event f.after

  module _ (rules : (p : G.P) (t len : ℕ) → RuleStays p (G.rule p t len)) where
    also_stays : (p : G.P) (h : ℕ) (f : Feeding G.P) → FeedStays p f → FeedStays p (also h f)
    unfolding also
    also_stays p h f w = w

    judged_stays : (k : Payload) (p : G.P) (all : List ℕ) (n : Next G.P) → G.judged k p all ≡ n → (f : State G.P → Feeding G.P) → FeedStays p (onward (judged_event k all n) (answered n) f)
    unfolding onward judged_event answered halt
    judged_stays k p all (stop c) e f = tt
    judged_stays k p all (go q) e f = (q, e, refl)

    module _ (f : State G.P → Feeding G.P) (p : G.P) (next : (s : State G.P) → place_in s ≡ p → FeedStays p (f s)) where
      left-stays : (u : Use) (k : List ℕ) (l : ℕ) → FeedStays p (onward (left_event G u k l p) (with_left G u k l p) f)
      unfolding onward left_event over_event with_left over halt place_in
      left-stays content k zero = next (between p) refl
      left-stays skipped k zero = next (between p) refl
      left-stays (section t) k zero = refl
      left-stays (kept x) k zero = judged_stays x p k (G.judged x p k) refl f
      left-stays u k (suc l) = next (in_payload u k l p) refl

      skip-stays : (l : ℕ) → FeedStays p (onward F.quiet (with_left G skipped [] l p) f)
      unfolding onward with_left over place_in
      skip-stays zero = next (between p) refl
      skip-stays (suc l) = next (in_payload skipped [] l p) refl

      behind-stays : (len : ℕ) (r : Ruling G.P) → RuleStays p r → FeedStays p (behind_header G len r f)
      unfolding behind_header halt
      behind-stays len (refuse c) w = tt
      behind-stays len (accept u q) w = subst (λ y. FeedStays p (onward (left_event G u [] len y) (with_left G u [] len y) f)) (sym w) (left-stays u [] len)

    content_stays : (j l : ℕ) (p : G.P) → FeedStays p (taking G content j l p)
    unfolding taking named with_left over place_in
    content_stays j zero p = refl
    content_stays j (suc l) p = refl

    section_stays : (t : Part) (j l : ℕ) (p : G.P) → FeedStays p (taking G (section t) j l p)
    unfolding taking named with_left over place_in
    section_stays t j zero p = refl
    section_stays t j (suc l) p = refl

    typed_place : (p : G.P) (x : Fed) → place_in (typed p x) ≡ p
    unfolding typed place_in
    typed_place p (going g) = refl
    typed_place p (value t) = refl

    length_stays : (n t : ℕ) (p : G.P) (bs : List ℕ) → ((n : ℕ) (s : State G.P) → place_in s ≡ p → FeedStays p (F.feed G n s bs)) → (x : Fed) → FeedStays p (elim x [
      | going g ↦ also 0 (F.feed G (suc n) (in_length t g p) bs)
      | value len ↦ also 1 (behind_header G len (G.rule p t len) (λ s. F.feed G n s bs))
    ])
    unfolding place_in
    length_stays n t p bs ih (going g) = also_stays p 0 _ (ih (suc n) (in_length t g p) refl)
    length_stays n t p bs ih (value len) = also_stays p 1 _ (behind-stays (λ s. F.feed G n s bs) p (λ s h. ih n s h) len (G.rule p t len) (rules p t len))

    feed_stays : (n : ℕ) (s : State G.P) (bs : List ℕ) (p : G.P) → place_in s ≡ p → FeedStays p (F.feed G n s bs)
    unfolding F.feed halt place_in
    feed_stays n s [] p e = e
    feed_stays zero (in_type g q) (b ∷ bs) p e = e
    feed_stays (suc n) (in_type g q) (b ∷ bs) p e = also_stays p 0 _ (feed_stays (suc n) (typed q (fed g b)) bs p (typed_place q (fed g b) ∙ e))
    feed_stays zero (in_length t g q) (b ∷ bs) p e = e
    feed_stays (suc n) (in_length t g q) (b ∷ bs) p e = subst (λ y. FeedStays y (F.feed G (suc n) (in_length t g q) (b ∷ bs))) e (length_stays n t q bs (λ n s h. feed_stays n s bs q h) (fed g b))
    feed_stays n (in_payload content k l q) (b ∷ bs) p e = subst (λ y. FeedStays y (taking G content (min l (length bs)) (l - min l (length bs)) q)) e (content_stays (min l (length bs)) (l - min l (length bs)) q)
    feed_stays n (in_payload (section t) k l q) (b ∷ bs) p e = subst (λ y. FeedStays y (taking G (section t) (min l (length bs)) (l - min l (length bs)) q)) e (section_stays t (min l (length bs)) (l - min l (length bs)) q)
    feed_stays n (in_payload skipped k l q) (b ∷ bs) p e = subst (λ y. FeedStays y (F.feed G n (in_payload skipped k l q) (b ∷ bs))) e (also_stays q 0 _ (skip-stays (λ s. F.feed G n s bs) q (λ s h. feed_stays n s bs q h) l))
    feed_stays n (in_payload (kept x) k l q) (b ∷ bs) p e =
        subst (λ y. FeedStays y (F.feed G n (in_payload (kept x) k l q) (b ∷ bs))) e (also_stays q 0 _ (left-stays (λ s. F.feed G n s bs) q (λ s h. feed_stays n s bs q h) (kept x) (k ++ (b ∷ [])) l))
    feed_stays n (due t q) (b ∷ bs) p e = e

-- ---- a control stream's

rule_if : (p : Control) (x : Bool) (a b : Ruling Control) → RuleStays control p a → RuleStays control p b → RuleStays control p (elim x [ true ↦ a | false ↦ b ])
rule_if p true a b h k = h
rule_if p false a b h k = k

kind_stays : (k : say.Kind) (p : Control) (len : ℕ) → RuleStays control p (say.rule_for k p len)
unfolding say.rule_for
kind_stays say.forbidden p len = tt
kind_stays (say.one_integer k) p len = rule_if p (eqb len 0 || ltb 8 len) (refuse (of_connection frame_error)) (accept (kept k) p) tt refl
kind_stays say.unknown p len = refl

control_stays : (p : Control) (t len : ℕ) → RuleStays control p (say.rule p t len)
unfolding say.rule say.first_rule
control_stays unset t len = first (eqb t 4)
  where
    first : (x : Bool) → RuleStays control unset (elim x [ false ↦ refuse (of_connection missing_settings) | true ↦ elim (ltb settings_limit len) [ true ↦ refuse (of_connection excessive_load) | false ↦ accept (kept reading.settings) unset ] ])
    first false = tt
    first true = rule_if unset (ltb settings_limit len) (refuse (of_connection excessive_load)) (accept (kept reading.settings) unset) tt refl
control_stays (set s g m) t len = kind_stays (lookup say.column say.unknown t) (set s g m) len

-- a payload that it reports leaves what is noted of it
settings_noted : (p : Control) (n : Next Settings) (next : Control) → say.after_settings n ≡ go next → next ≡ after_event (notice_of (say.settings_in n)) p
unfolding say.after_settings say.settings_in notice_of after_event noted
settings_noted p (stop c) next e = let z : ◌≡◌ {A = ℕ} 0 1 = cc in absurd (omega arith)
settings_noted p (go s) next e = let q : set s none none ≡ next = cc in sym q

settings_bare : (n : Next Settings) (next : Control) → say.after_settings n ≡ go next → (s : Settings) × (next ≡ set s none none)
unfolding say.after_settings
settings_bare (stop c) next e = let z : ◌≡◌ {A = ℕ} 0 1 = cc in absurd (omega arith)
settings_bare (go s) next e = let q : set s none none ≡ next = cc in (s, sym q)

module _ (s : Settings) (g m : Option ℕ) (next : Control) where
  goaway_is : (o : Option ℕ) → say.after_integer reading.goaway s g m o ≡ go next → (id : ℕ) × (o ≡ some id) × (next ≡ set s (some id) m)
  unfolding say.after_integer say.after_goaway
  goaway_is none e = let z : ◌≡◌ {A = ℕ} 0 1 = cc in absurd (omega arith)
  goaway_is (some id) e = by (say.above id g) e
    where
      by : (x : Bool) → elim x as (λ y. Next Control) [ true ↦ stop (of_connection id_error) | false ↦ go (set s (some id) m) ] ≡ go next → (i : ℕ) × (some id ≡ some i) × (next ≡ set s (some i) m)
      by true e = let z : ◌≡◌ {A = ℕ} 0 1 = cc in absurd (omega arith)
      by false e = let q : set s (some id) m ≡ next = cc in (id, refl, sym q)

  max_push_is : (o : Option ℕ) → say.after_integer reading.max_push_id s g m o ≡ go next → (id : ℕ) × (o ≡ some id) × (next ≡ set s g (some id))
  unfolding say.after_integer say.after_max_push
  max_push_is none e = let z : ◌≡◌ {A = ℕ} 0 1 = cc in absurd (omega arith)
  max_push_is (some id) e = by (say.below id m) e
    where
      by : (x : Bool) → elim x as (λ y. Next Control) [ true ↦ stop (of_connection id_error) | false ↦ go (set s g (some id)) ] ≡ go next → (i : ℕ) × (some id ≡ some i) × (next ≡ set s g (some i))
      by true e = let z : ◌≡◌ {A = ℕ} 0 1 = cc in absurd (omega arith)
      by false e = let q : set s g (some id) ≡ next = cc in (id, refl, sym q)

  cancel_none : {X : Type 0} (o : Option ℕ) → say.after_integer reading.cancel_push s g m o ≡ go next → X
  unfolding say.after_integer
  cancel_none none e = let z : ◌≡◌ {A = ℕ} 0 1 = cc in absurd (omega arith)
  cancel_none (some id) e = let z : ◌≡◌ {A = ℕ} 0 1 = cc in absurd (omega arith)

judged_noted : (k : Payload) (p place next : Control) (payload : List ℕ) → ControlFits (kept k) place → say.judged k place payload ≡ go next → say.judged k p payload ≡ go next → next ≡ after_event (notice_of (say.tells k payload)) p
unfolding say.judged say.tells say.id_in notice_of after_event noted
judged_noted reading.settings p place next payload f e d = settings_noted p (say.settings_of payload) next (rw f at e)
judged_noted reading.goaway p unset next payload f e d = absurd f
judged_noted reading.goaway (set s g m) (set s' g' m') next payload f e d = let u = goaway_is s g m next (say.only (integer 0 payload)) d in let q = u.1 in rw q u.2
judged_noted reading.goaway unset (set s g m) next payload f e d =
    let u = goaway_is s g m next (say.only (integer 0 payload)) e in
    let v = settings_bare (say.settings_of payload) next d in
    let c : set v.0 none none ≡ set s (some u.0) m = sym v.1 ∙ u.2 in
    let z : ◌≡◌ {A = ℕ} 0 1 = cc in absurd (omega arith)
judged_noted reading.max_push_id p unset next payload f e d = absurd f
judged_noted reading.max_push_id (set s g m) (set s' g' m') next payload f e d = let u = max_push_is s g m next (say.only (integer 0 payload)) d in let q = u.1 in rw q u.2
judged_noted reading.max_push_id unset (set s g m) next payload f e d =
    let u = max_push_is s g m next (say.only (integer 0 payload)) e in
    let v = settings_bare (say.settings_of payload) next d in
    let c : set v.0 none none ≡ set s g (some u.0) = sym v.1 ∙ u.2 in
    let z : ◌≡◌ {A = ℕ} 0 1 = cc in absurd (omega arith)
judged_noted reading.cancel_push p unset next payload f e d = absurd f
judged_noted reading.cancel_push p (set s g m) next payload f e d = cancel_none s g m next (say.only (integer 0 payload)) e

-- ---- a one-way stream's

-- only a control stream reports; p is where it was
abbrev OneStays : Control → OneEvent → OneOutcome → Type 0
OneStays p (O.of_frames e) (O.lives (O.in_stream_type g)) = frames_event e ≡ quiet
OneStays p (O.of_frames e) (O.lives (O.in_control s)) = place_in s ≡ after_event (frames_event e) p
OneStays p (O.of_frames e) (O.lives (O.in_qpack q)) = frames_event e ≡ quiet
OneStays p (O.of_frames e) (O.lives O.in_skipped) = frames_event e ≡ quiet
OneStays p (O.of_frames e) (O.dies c) = Unit {0}
OneStays p (O.qpack_bytes q len) (O.lives (O.in_stream_type g)) = Unit {0}
OneStays p (O.qpack_bytes q len) (O.lives (O.in_control s)) = ⊥
OneStays p (O.qpack_bytes q len) (O.lives (O.in_qpack r)) = Unit {0}
OneStays p (O.qpack_bytes q len) (O.lives O.in_skipped) = Unit {0}
OneStays p (O.qpack_bytes q len) (O.dies c) = Unit {0}

abbrev OneFedStays : Control → OneFeeding → Type 0
OneFedStays p f = OneStays p f.event f.after

same_next : {a b : Control} → lives (between a) ≡ lives (between b) → a ≡ b
same_next e = cc

frames_stay : (p : Control) (e : F.Event) (x : Outcome Control) → EventSuits control ControlFits e x → EventStays control p e x → OneStays p (O.of_frames e) (O.controlled x)
unfolding O.controlled frames_event after_event place_in
frames_stay p F.quiet (lives s) h w = w
frames_stay p F.quiet (dies c) h w = tt
frames_stay p (F.section_bytes len last) x (t, (q, h)) w = absurd h
frames_stay p (F.content_bytes len) x (q, h) w = absurd h
frames_stay p (F.taken k payload) x h (next, d, q) =
    let z : h.next ≡ next = same_next (sym h.left ∙ q) in
    rw q (judged_noted k p h.place next payload h.fits (subst (λ y. say.judged k h.place payload ≡ go y) z h.is) d)

-- where a control stream is, or begins
unfoldable place_of : OneState → Control
place_of (O.in_stream_type g) = unset
place_of (O.in_control s) = place_in s
place_of (O.in_qpack q) = unset
place_of O.in_skipped = unset

control_one : (allow : ℕ) (s : State Control) → ControlSuits s → (piece : List ℕ) → OneFedStays (place_in s) (O.of_control (F.feed control allow s piece))
unfolding O.of_control
control_one allow s h piece = let f = F.feed control allow s piece in frames_stay (place_in s) f.event f.after (control_suits allow s h piece).event (feed_stays control control_stays allow s piece (place_in s) refl)

qpack_one : (p : Control) (q : Qpack) (piece : List ℕ) → OneFedStays p (O.qpack_feed q piece)
unfolding O.qpack_feed O.halt frames_event
qpack_one p q [] = refl
qpack_one p q (b ∷ bs) = tt

typed_one : (allow : ℕ) (t : Typed) (piece : List ℕ) → OneFedStays unset (O.typed_feed allow t piece)
unfolding O.typed_feed O.kind_feed O.halt frames_event place_in
typed_one allow (W.refuse c) piece = tt
typed_one allow (is a_control) piece = unfold place_in in control_one allow (between unset) tt piece
typed_one allow (is (a_qpack q)) piece = qpack_one unset q piece
typed_one allow (is W.skipped) piece = refl

also_one : (p : Control) (f : OneFeeding) → OneFedStays p f → OneFedStays p (O.also f)
unfolding O.also
also_one p f h = h

module _ (seen : List ℕ) (allow : ℕ) where
  type_one : (piece : List ℕ) (g : M.Prog) → OneFedStays unset (O.type_feed seen allow g piece)
  unfolding O.type_feed O.halt frames_event
  type_one [] g = refl
  type_one (b ∷ bs) g = also_one unset _ (by (type_one bs) (M.fed g b))
    where
      by : ((g : M.Prog) → OneFedStays unset (O.type_feed seen allow g bs)) → (x : Fed) → OneFedStays unset (elim x [ M.going g' ↦ O.type_feed seen allow g' bs | M.value t ↦ O.typed_feed allow (type_rule seen t) bs ])
      by next (M.going g') = next g'
      by next (M.value t) = typed_one allow (type_rule seen t) bs

  one_stays : (w : OneState) → OneSuits w → (piece : List ℕ) → OneFedStays (place_of w) (O.feed seen allow w piece)
  unfolding O.feed O.kind_feed place_of frames_event
  one_stays (O.in_stream_type g) h piece = type_one piece g
  one_stays (O.in_control s) h piece = control_one allow s h piece
  one_stays (O.in_qpack q) h piece = qpack_one unset q piece
  one_stays O.in_skipped h piece = refl

-- ---- what is kept after a call on a stream

-- nothing is kept of a control stream before there is one
abbrev Unclaimed : Keeps → Type 0
Unclaimed k = k.control ≡ false → k.said ≡ unset

module _ (k : Keeps) (un : Unclaimed k) where
  abbrev KeptSo : Event → Keeps → Type 0
  KeptSo e y = (y.said ≡ after_event e k.said) × Unclaimed y

  abbrev OutKeeps : Out (Held streams) → Type 0
  OutKeeps (calls.refuse h) = Unit {0}
  OutKeeps (step done x) = KeptSo quiet x.kept
  OutKeeps (step (calls.fed u h e) x) = KeptSo e x.kept
  OutKeeps (leave l) = Unit {0}
  OutKeeps (calls.fault c u h) = Unit {0}

  -- a request
  abbrev AskKeeps : Out (State Message) → Type 0
  AskKeeps o = OutKeeps (map_out (λ x. record { stream = asking x; kept = k }) o)

  either_keeps : (b : Bool) (x y : Out (State Message)) → AskKeeps x → AskKeeps y → AskKeeps (either b x y)
  unfolding either
  either_keeps true x y f g = f
  either_keeps false x y f g = g

  fed_keeps : (u h : ℕ) (e : F.Event) (o : Outcome Message) → AskKeeps (of_fed (fed_by u h e o))
  unfolding of_fed fed_by event_of map_out after_event
  fed_keeps u h F.quiet (lives s) = (refl, un)
  fed_keeps u h (F.section_bytes len last) (lives s) = (refl, un)
  fed_keeps u h (F.content_bytes len) (lives s) = (refl, un)
  fed_keeps u h (F.taken f payload) (lives s) = (refl, un)
  fed_keeps u h e (dies n) = tt

  given_keeps : (o : Outcome Message) → AskKeeps (of_given (given_by o))
  unfolding of_given given_by map_out after_event
  given_keeps (lives s) = (refl, un)
  given_keeps (dies n) = tt

  ended_keeps : (v : Verdict) → AskKeeps (of_ended (ended_by v))
  unfolding of_ended ended_by map_out
  ended_keeps whole = tt
  ended_keeps (fault n place) = tt
  ended_keeps (waits place) = tt

  ask_keeps : (s : State Message) (o : Own streams) → OutKeeps (act_on k (asking s) o)
  unfolding act_on act map_out
  ask_keeps s (calls.feed allow piece) = let g = F.feed (asked.request document) allow s piece in
      either_keeps (is_due s) (calls.refuse section_due) (of_fed (fed_by g.used g.heads g.event g.after)) tt (fed_keeps g.used g.heads g.event g.after)
  ask_keeps s (calls.section b) = let o = M.given (asked.request document) (section_of (lines b)) s in
      either_keeps (is_due s) (either (is_readable (lines b)) (of_given (given_by o)) (calls.refuse unreadable)) (calls.refuse no_section)
      (either_keeps (is_readable (lines b)) (of_given (given_by o)) (calls.refuse unreadable) (given_keeps o) tt) tt
  ask_keeps s end = either_keeps (is_due s) (calls.refuse section_due) (of_ended (ended_by (M.finish (asked.request document) 0 s))) tt (ended_keeps (M.finish (asked.request document) 0 s))
  ask_keeps s reset = tt

  -- a one-way stream
  abbrev TellKeeps : Out (record { state : OneState; kept : Keeps }) → Type 0
  TellKeeps o = OutKeeps (map_out (λ x. record { stream = telling x.state; kept = x.kept }) o)

  abbrev IsControl : OneState → Type 0
  IsControl (O.in_stream_type g) = ⊥
  IsControl (O.in_control s) = Unit {0}
  IsControl (O.in_qpack q) = ⊥
  IsControl O.in_skipped = ⊥

  state_keeps : (p : Control) (u : ℕ) (e : OneEvent) (s : OneState) → OneStays p e (O.lives s) → (IsControl s → p ≡ k.said) → KeptSo (one_event u e) (kept_by k s)
  unfolding kept_by one_event after_event noted
  state_keeps p u (O.of_frames e) (O.in_stream_type g) w q = (sym (ap (λ v. after_event v k.said) w), un)
  state_keeps p u (O.of_frames e) (O.in_control s) w q = (w ∙ ap (after_event (frames_event e)) (q tt), λ z. absurd (true≢false z))
  state_keeps p u (O.of_frames e) (O.in_qpack encoder) w q = (sym (ap (λ v. after_event v k.said) w), un)
  state_keeps p u (O.of_frames e) (O.in_qpack decoder) w q = (sym (ap (λ v. after_event v k.said) w), un)
  state_keeps p u (O.of_frames e) O.in_skipped w q = (sym (ap (λ v. after_event v k.said) w), un)
  state_keeps p u (O.qpack_bytes r len) (O.in_stream_type g) w q = (refl, un)
  state_keeps p u (O.qpack_bytes r len) (O.in_control s) w q = absurd w
  state_keeps p u (O.qpack_bytes r len) (O.in_qpack encoder) w q = (refl, un)
  state_keeps p u (O.qpack_bytes r len) (O.in_qpack decoder) w q = (refl, un)
  state_keeps p u (O.qpack_bytes r len) O.in_skipped w q = (refl, un)

  heard_keeps : (p : Control) (u h : ℕ) (e : OneEvent) (o : OneOutcome) → OneStays p e o → ((s : OneState) → o ≡ O.lives s → IsControl s → p ≡ k.said) → TellKeeps (of_fed (heard_by k u h e o))
  unfolding of_fed heard_by map_out
  heard_keeps p u h e (O.lives s) w q = state_keeps p u e s w (q s refl)
  heard_keeps p u h e (O.dies n) w q = tt

  closed_keeps : (c : Option ConnectionFault) → TellKeeps (of_closed c)
  unfolding of_closed map_out
  closed_keeps none = tt
  closed_keeps (some c) = tt

  module _ (w : OneState) (tells : (m : Control) → told_by w ≡ some m → m ≡ k.said) where
    -- it becomes the control stream only where none was
    none_was : (k' : Keeps) (s : State Control) → Steps streams Control (λ k. k.said) (λ k. k.control) told_by k w k' (O.in_control s) → told_by w ≡ none → k.control ≡ false
    none_was k' s (tells_nothing a b c d) e = let z : some (place_in s) ≡ none = (unfold told_by in b) in absurd (none-ne-some (place_in s) (sym z))
    none_was k' s (becomes a b c) e = a
    none_was k' s (tells_on m a b c) e = absurd (none-ne-some m (sym e ∙ a))

    begins_unset : (allow : ℕ) (piece : List ℕ) (s : State Control) → (O.feed (types_in k) allow w piece).after ≡ O.lives (O.in_control s) → told_by w ≡ none → unset ≡ k.said
    begins_unset allow piece s e n = let f = O.feed (types_in k) allow w piece in
        sym (un (none_was (kept_by k (O.in_control s)) s (steps k w allow piece f.used f.heads (one_event f.used f.event) (record { state = O.in_control s; kept = kept_by k (O.in_control s) }) (ap (heard_by k f.used f.heads f.event) e ∙ unfold heard_by in refl)) n))

    was_said : (allow : ℕ) (piece : List ℕ) (s : OneState) → (O.feed (types_in k) allow w piece).after ≡ O.lives s → IsControl s → place_of w ≡ k.said
    unfolding place_of
    was_said allow piece (O.in_stream_type g) e i = absurd i
    was_said allow piece (O.in_control s) e i = by w refl
      where
        by : (v : OneState) → w ≡ v → place_of v ≡ k.said
        by (O.in_stream_type g) q = begins_unset allow piece s e (ap told_by q ∙ unfold told_by in refl)
        by (O.in_control x) q = tells (place_in x) (ap told_by q ∙ unfold told_by in refl)
        by (O.in_qpack x) q = begins_unset allow piece s e (ap told_by q ∙ unfold told_by in refl)
        by O.in_skipped q = begins_unset allow piece s e (ap told_by q ∙ unfold told_by in refl)
    was_said allow piece (O.in_qpack q) e i = absurd i
    was_said allow piece O.in_skipped e i = absurd i

    tell_keeps : OneSuits w → (o : Own streams) → OutKeeps (act_on k (telling w) o)
    unfolding act_on act₁ map_out
    tell_keeps h (calls.feed allow piece) = let f = O.feed (types_in k) allow w piece in heard_keeps (place_of w) f.used f.heads f.event f.after (one_stays (types_in k) allow w h piece) (was_said allow piece)
    tell_keeps h (calls.section b) = tt
    tell_keeps h end = closed_keeps (close_of w)
    tell_keeps h reset = closed_keeps (close_of w)

  act_keeps : (s : Stream streams) → StreamSuits s → ((w : OneState) (m : Control) → s ≡ telling w → told_by w ≡ some m → m ≡ k.said) → (o : Own streams) → OutKeeps (act_on k s o)
  act_keeps (asking s) h t o = ask_keeps s o
  act_keeps (telling w) h t o = tell_keeps w (λ m e. t w m refl e) h o

  gave_keeps : (g : Gave) (x : Held streams) → OutKeeps (step g x) → (x.kept.said ≡ after_answer (gave g) k.said) × Unclaimed x.kept
  unfolding after_answer after_event
  gave_keeps done x h = h
  gave_keeps (calls.fed u w e) x h = h

-- ---- after any call

record Keeping (p : Pair streams) : Type 0 where
  unclaimed : Unclaimed p.conn.kept
  suits : RowSuits p.row
  tells : (id : ℕ) (w : OneState) (m : Control) → find id p.row ≡ some (telling w) → told_by w ≡ some m → m ≡ p.conn.kept.said

spend_kept : (k : Kind) (c : Conn streams) → (spend k c).kept ≡ c.kept
unfolding spend
spend_kept request c = refl
spend_kept one_way c = refl

abbrev After : Pair streams → Answer → Pair streams → Type 0
After p a p' = (p'.conn.kept.said ≡ after_answer a p.conn.kept.said) × Unclaimed p'.conn.kept

went_keeps : {p p' : Pair streams} {k : Call streams} {a : Answer} → Later k → Keeping p → Went p k a p' → After p a p'
unfolding keeping killed limited after_answer
went_keeps l h went.restarted = absurd l
went_keeps l h (went.still_dead e) = (refl, h.unclaimed)
went_keeps l h (went.by_house e) = (refl, h.unclaimed)
went_keeps {p} l h (went.barring {k = k} e q n b c) = let z = spend_kept k p.conn in rw z (refl, h.unclaimed)
went_keeps l h (went.faulting e f) = (refl, h.unclaimed)
went_keeps l h (went.dying e f) = (refl, h.unclaimed)
went_keeps {p} l h (went.opening {k = k} e q n b c s) = let z = spend_kept k p.conn in rw z (refl, h.unclaimed)
went_keeps {p} l h (went.stepping {id = id} {o = o} {s = s} {g = g} x e f w) = let k = p.conn.kept in
    unfold after_answer in gave_keeps k h.unclaimed g x
    (subst (OutKeeps k h.unclaimed) w (act_keeps k h.unclaimed s (found_suits id s p.row h.suits f) (λ v m q t. h.tells id v m (f ∙ ap some q) t) o))
went_keeps l h (went.leaving e f) = (refl, h.unclaimed)
went_keeps l h (went.sending e g b) = (refl, h.unclaimed)

call_keeps : (k : Call streams) (p : Pair streams) → Keeping p → ((call k p).after.conn.kept.said ≡ after_call k (call k p).answer p.conn.kept.said) × Unclaimed (call k p).after.conn.kept
unfolding after_call
call_keeps start p h = unfold call same fresh in (refl, λ e. refl)
call_keeps (open' id) p h = went_keeps {k = open' id} tt h (went.went (open' id) p)
call_keeps (on id o) p h = went_keeps {k = on id o} tt h (went.went (on id o) p)
call_keeps (goaway id room) p h = went_keeps {k = goaway id room} tt h (went.went (goaway id room) p)

-- ---- OVER TRACES

run_last : (p : Pair streams) (ks : Calls) (k : Call streams) → run p (ks ++ (k ∷ [])) ≡ (call k (run p ks)).after
unfolding run
run_last p [] k = refl
run_last p (j ∷ ks) k = run_last (call j p).after ks k

told_last : (c : Control) (p : Pair streams) (ks : Calls) (k : Call streams) → told_from c (trace p (ks ++ (k ∷ []))) ≡ after_call k (call k (run p ks)).answer (told_from c (trace p ks))
unfolding run trace told_from
told_last c p [] k = refl
told_last c p (j ∷ ks) k = told_last (after_call j (call j p).answer c) (call j p).after ks k

record SaidSo (ks : Calls) : Type 0 where
  said : (run fresh ks).conn.kept.said ≡ told_in (trace fresh ks)
  unclaimed : Unclaimed (run fresh ks).conn.kept
  suits : RowSuits (run fresh ks).row

said_next : (ks : Calls) (k : Call streams) → SaidSo ks → SaidSo (ks ++ (k ∷ []))
said_next ks k h =
    let p = run fresh ks in
    let u = call_keeps k p (record { unclaimed = h.unclaimed; suits = h.suits; tells = λ id w m f t. ((mirrored ks).tells id w m f t).0 }) in
    let z = sym (run_last fresh ks k) in
    record {
      said = ap (λ q. q.conn.kept.said) (sym z) ∙ u.0 ∙ ap (after_call k (call k p).answer) h.said ∙ sym (told_last unset fresh ks k);
      unclaimed = subst (λ (q : Pair streams). Unclaimed q.conn.kept) z u.1;
      suits = subst (λ (q : Pair streams). RowSuits q.row) z (suits_call k p h.suits);
    }

said_on : (ds ks : Calls) → SaidSo ds → SaidSo (ds ++ ks)
said_on ds [] h = subst SaidSo (sym (append-nil ds)) h
said_on ds (k ∷ ks) h = subst SaidSo (append_assoc ds (k ∷ []) ks) (said_on (ds ++ (k ∷ [])) ks (said_next ds k h))

said_first : SaidSo []
unfolding run trace told_from
said_first = record { said = unfold fresh in refl; unclaimed = unfold fresh in (λ e. refl); suits = suits_fresh }

-- WHAT IS KEPT is what the notices have reported since the last start
pub said_is_told : (ks : Calls) → (run fresh ks).conn.kept.said ≡ told_in (trace fresh ks)
said_is_told ks = (said_on [] ks said_first).said
