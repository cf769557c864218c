-- What a grammar's rule can answer is all that its feeds come to: the uses of the frames it accepts and how long they are, the codes it refuses
-- with. So a request keeps no payload, and on a control stream nothing is handed over and what is kept has an end. Assumes nothing.
use Rattle.std.specs.Prelude.{true, length}
use Prim.Native.Nat.{ℕ, zero, suc, ◌-◌, min}
use mathlib.Core.List.{List, [], ◌∷◌, ◌++◌}
use Rattle.rules.specs.Numbers.{Code}
use Rattle.rules.specs.Reading.{Part, Kept, Use, content, skipped, section, kept, Ruling, refuse, accept, Next, stop, go, Grammar}
use Rattle.meaning.specs.Machine.{Fed, going, value, fed, State, in_type, in_length, in_payload, due, Outcome, lives, dies, between, answered, typed, over, with_left}
use Rattle.meaning.specs.Feed.{Event, quiet, section_bytes, content_bytes, taken, Feeding, halt, also, onward, judged_event, over_event, left_event, behind_header, named, taking, feed}

-- uses of a payload, with what is kept so far and how many bytes are to come
abbrev pub Uses : Type 1
Uses = Use → (sofar : List ℕ) → (left : ℕ) → Type 0

abbrev pub NotKept : Use → Type 0
NotKept content = Unit {0}
NotKept skipped = Unit {0}
NotKept (section t) = Unit {0}
NotKept (kept f) = ⊥

-- a ruling on a frame of this length, and a judgement, within some uses and codes
abbrev pub RulesWithin : {P : Type 0} → (U : Uses) (K : Code → Type 0) → (len : ℕ) → Ruling P → Type 0
RulesWithin U K len (refuse code) = K code
RulesWithin U K len (accept u p) = U u [] len

abbrev pub JudgesWithin : {P : Type 0} → (K : Code → Type 0) → Next P → Type 0
JudgesWithin K (stop code) = K code
JudgesWithin K (go p) = Unit {0}

-- a state, and an outcome, within some uses
abbrev pub StateWithin : {P : Type 0} → (U : Uses) → State P → Type 0
StateWithin U (in_type g p) = Unit {0}
StateWithin U (in_length t g p) = Unit {0}
StateWithin U (in_payload u k left p) = U u k (suc left)
StateWithin U (due t p) = U (section t) [] 0

abbrev pub OutcomeWithin : {P : Type 0} → (U : Uses) (K : Code → Type 0) → Outcome P → Type 0
OutcomeWithin U K (lives s) = StateWithin U s
OutcomeWithin U K (dies code) = K code

-- an event; of section bytes, some section is among the uses
abbrev pub EventWithin : (U : Uses) → Event → Type 0
EventWithin U quiet = Unit {0}
EventWithin U (section_bytes len last) = (t : Part) × U (section t) [] 0
EventWithin U (content_bytes len) = U content [] 0
EventWithin U (taken k payload) = U (kept k) payload 0

pub record FeedWithin {P : Type 0} (U : Uses) (K : Code → Type 0) (f : Feeding P) : Type 0 where
  pub event : EventWithin U f.event
  pub after : OutcomeWithin U K f.after

module _ (G : Grammar) (U : Uses) (K : Code → Type 0) (clear : (u : Use) → NotKept u → (k : List ℕ) (l : ℕ) → U u k l → (n : ℕ) → U u [] n) (more : (f : Kept) (k : List ℕ) (b l : ℕ) → U (kept f) k (suc l) → U (kept f) (k ++ (b ∷ [])) l)
    (rules : (p : G.P) (t len : ℕ) → RulesWithin U K len (G.rule p t len))
    (judges : (k : Kept) (p : G.P) (payload : List ℕ) → JudgesWithin K (G.judged k p payload)) where
  halts : (e : Event) (o : Outcome G.P) → EventWithin U e → OutcomeWithin U K o → FeedWithin U K (halt e o)
  unfolding halt
  halts e o a b = record { event = a; after = b }

  also_within : (h : ℕ) (f : Feeding G.P) → FeedWithin U K f → FeedWithin U K (also h f)
  unfolding also
  also_within h f w = record { event = w.event; after = w.after }

  judged_within : (k : Kept) (all : List ℕ) (n : Next G.P) (f : State G.P → Feeding G.P) → U (kept k) all 0 → JudgesWithin K n → FeedWithin U K (onward (judged_event k all n) (answered n) f)
  unfolding onward judged_event answered
  judged_within k all (stop code) f u j = halts quiet (dies code) tt j
  judged_within k all (go p) f u j = halts (taken k all) (lives (between p)) u tt

  module _ (f : State G.P → Feeding G.P) (on : (s : State G.P) → StateWithin U s → FeedWithin U K (f s)) where
    left_within : (u : Use) (k : List ℕ) (l : ℕ) (p : G.P) → U u k l → FeedWithin U K (onward (left_event G u k l p) (with_left G u k l p) f)
    unfolding onward left_event over_event with_left over
    left_within content k zero p w = on (between p) tt
    left_within skipped k zero p w = on (between p) tt
    left_within (section t) k zero p w = let v = clear (section t) tt k 0 w 0 in halts (section_bytes 0 true) (lives (due t p)) (t, v) v
    left_within (kept x) k zero p w = judged_within x k (G.judged x p k) f w (judges x p k)
    left_within u k (suc l) p w = on (in_payload u k l p) w

    skip_within : (l : ℕ) (p : G.P) → ((n : ℕ) → U skipped [] n) → FeedWithin U K (onward quiet (with_left G skipped [] l p) f)
    unfolding onward with_left over
    skip_within zero p w = on (between p) tt
    skip_within (suc l) p w = on (in_payload skipped [] l p) (w (suc l))

    behind_within : (len : ℕ) (r : Ruling G.P) → RulesWithin U K len r → FeedWithin U K (behind_header G len r f)
    unfolding behind_header
    behind_within len (refuse code) w = halts quiet (dies code) tt w
    behind_within len (accept u p) w = left_within u [] len p w

  content_within : (j l : ℕ) (p : G.P) → ((n : ℕ) → U content [] n) → FeedWithin U K (taking G content j l p)
  unfolding taking named with_left over
  content_within j zero p w = record { event = w 0; after = tt }
  content_within j (suc l) p w = record { event = w 0; after = w (suc l) }

  section_within : (t : Part) (j l : ℕ) (p : G.P) → ((n : ℕ) → U (section t) [] n) → FeedWithin U K (taking G (section t) j l p)
  unfolding taking named with_left over
  section_within t j zero p w = record { event = (t, w 0); after = w 0 }
  section_within t j (suc l) p w = record { event = (t, w 0); after = w (suc l) }

  typed_within : (p : G.P) (x : Fed) → StateWithin U (typed p x)
  unfolding typed
  typed_within p (going g) = tt
  typed_within p (value t) = tt

  length_within : (n t : ℕ) (p : G.P) (bs : List ℕ) → ((n : ℕ) (s : State G.P) → StateWithin U s → FeedWithin U K (feed G n s bs)) → (x : Fed) → FeedWithin {P = G.P} U K (elim x [
    | going g ↦ also 0 (feed G (suc n) (in_length t g p) bs)
    | value len ↦ also 1 (behind_header G len (G.rule p t len) (λ s. feed G n s bs))
  ])
  length_within n t p bs ih (going g) = also_within 0 _ (ih (suc n) (in_length t g p) tt)
  length_within n t p bs ih (value len) = also_within 1 _ (behind_within (λ s. feed G n s bs) (λ s h. ih n s h) len (G.rule p t len) (rules p t len))

  -- A FEED STAYS WITHIN WHAT THE RULE CAN ANSWER
  pub feed_within : (n : ℕ) (s : State G.P) → StateWithin U s → (bs : List ℕ) → FeedWithin U K (feed G n s bs)
  unfolding feed
  feed_within n s h [] = halts quiet (lives s) tt h
  feed_within zero (in_type g p) h (b ∷ bs) = halts quiet (lives (in_type g p)) tt tt
  feed_within (suc n) (in_type g p) h (b ∷ bs) = also_within 0 _ (feed_within (suc n) (typed p (fed g b)) (typed_within p (fed g b)) bs)
  feed_within zero (in_length t g p) h (b ∷ bs) = halts quiet (lives (in_length t g p)) tt tt
  feed_within (suc n) (in_length t g p) h (b ∷ bs) = length_within n t p bs (λ n s h. feed_within n s h bs) (fed g b)
  feed_within n (in_payload content k left p) h (b ∷ bs) = content_within (min left (length bs)) (left - min left (length bs)) p (clear content tt k (suc left) h)
  feed_within n (in_payload (section t) k left p) h (b ∷ bs) = section_within t (min left (length bs)) (left - min left (length bs)) p (clear (section t) tt k (suc left) h)
  feed_within n (in_payload skipped k left p) h (b ∷ bs) = also_within 0 _ (skip_within (λ s. feed G n s bs) (λ s h. feed_within n s h bs) left p (clear skipped tt k (suc left) h))
  feed_within n (in_payload (kept x) k left p) h (b ∷ bs) = also_within 0 _ (left_within (λ s. feed G n s bs) (λ s h. feed_within n s h bs) (kept x) (k ++ (b ∷ [])) left p (more x k b left h))
  feed_within n (due t p) h (b ∷ bs) = halts quiet (lives (due t p)) tt h
