-- Grammars that go alike: where one is carried into another with its rules, so are its feeds. So one engine reads request and control streams.
-- Assumes nothing.
use Rattle.std.specs.Prelude.{◌≡◌, length}
use Rattle.std.proofs.Math.Path.{refl, ap}
use Rattle.std.proofs.Common.{◌∙◌}
use Prim.Native.Nat.{ℕ, zero, suc, ◌-◌, min}
use mathlib.Core.List.{List, [], ◌∷◌, ◌++◌}
use Rattle.rules.specs.Reading.{Kept, Use, content, skipped, section, kept, Ruling, refuse, accept, Next, stop, go, Grammar}
use Rattle.meaning.specs.Machine.{Fed, going, value, fed, State, in_type, in_length, in_payload, due, Outcome, lives, dies, answered, typed, over, with_left}
use Rattle.meaning.specs.Feed.{Event, quiet, section_bytes, content_bytes, taken, Feeding, halt, also, onward, judged_event, over_event, left_event, behind_header, named, taking, feed}

module _ {P Q : Type 0} (f : P → Q) where
  unfoldable pub map_ruling : Ruling P → Ruling Q
  map_ruling (refuse code) = refuse code
  map_ruling (accept u p) = accept u (f p)

  unfoldable pub map_next : Next P → Next Q
  map_next (stop code) = stop code
  map_next (go p) = go (f p)

  unfoldable pub map_state : State P → State Q
  map_state (in_type g p) = in_type g (f p)
  map_state (in_length t g p) = in_length t g (f p)
  map_state (in_payload u k left p) = in_payload u k left (f p)
  map_state (due t p) = due t (f p)

  unfoldable pub map_outcome : Outcome P → Outcome Q
  map_outcome (lives s) = lives (map_state s)
  map_outcome (dies code) = dies code

  unfoldable pub map_feeding : Feeding P → Feeding Q
  map_feeding r = record { used = r.used; heads = r.heads; event = r.event; after = map_outcome r.after }

-- what is carried by f and back by g is as it was
module _ {P Q : Type 0} (f : P → Q) (g : Q → P) (back : (p : P) → g (f p) ≡ p) where
  pub state_back : (s : State P) → map_state g (map_state f s) ≡ s
  unfolding map_state
  state_back (in_type h p) = ap (in_type h) (back p)
  state_back (in_length t h p) = ap (in_length t h) (back p)
  state_back (in_payload u k left p) = ap (in_payload u k left) (back p)
  state_back (due t p) = ap (due t) (back p)

  outcome_back : (o : Outcome P) → map_outcome g (map_outcome f o) ≡ o
  unfolding map_outcome
  outcome_back (lives s) = ap lives (state_back s)
  outcome_back (dies code) = refl

  pub feeding_back : (r : Feeding P) → map_feeding g (map_feeding f r) ≡ r
  unfolding map_feeding
  feeding_back r = ap (λ o. record { used = r.used; heads = r.heads; event = r.event; after = o }) (outcome_back r.after)

-- G carried into H by f
pub record Carries (G H : Grammar) (f : G.P → H.P) : Type 0 where
  pub rule : (p : G.P) (t len : ℕ) → H.rule (f p) t len ≡ map_ruling f (G.rule p t len)
  pub judged : (k : Kept) (p : G.P) (payload : List ℕ) → H.judged k (f p) payload ≡ map_next f (G.judged k p payload)

module _ (G H : Grammar) (f : G.P → H.P) (c : Carries G H f) where
  map_halt : (e : Event) (o : Outcome G.P) → halt e (map_outcome f o) ≡ map_feeding f (halt e o)
  unfolding halt map_feeding
  map_halt e o = refl

  map_also : (h : ℕ) (r : Feeding G.P) → also h (map_feeding f r) ≡ map_feeding f (also h r)
  unfolding also map_feeding
  map_also h r = refl

  map_onward : (e : Event) (o : Outcome G.P) (r : State G.P → Feeding G.P) (q : State H.P → Feeding H.P)
      → ((s : State G.P) → q (map_state f s) ≡ map_feeding f (r s)) → onward e (map_outcome f o) q ≡ map_feeding f (onward e o r)
  unfolding onward map_outcome
  map_onward quiet (lives s) r q h = h s
  map_onward quiet (dies code) r q h = map_halt quiet (dies code)
  map_onward (section_bytes len last) o r q h = map_halt (section_bytes len last) o
  map_onward (content_bytes len) o r q h = map_halt (content_bytes len) o
  map_onward (taken k p) o r q h = map_halt (taken k p) o

  map_event : (k : Kept) (payload : List ℕ) (n : Next G.P) → judged_event k payload (map_next f n) ≡ judged_event k payload n
  unfolding judged_event map_next
  map_event k payload (stop code) = refl
  map_event k payload (go p) = refl

  map_answered : (n : Next G.P) → answered (map_next f n) ≡ map_outcome f (answered n)
  unfolding answered map_next map_outcome map_state
  map_answered (stop code) = refl
  map_answered (go p) = refl

  map_over_event : (u : Use) (k : List ℕ) (p : G.P) → over_event H u k (f p) ≡ over_event G u k p
  unfolding over_event
  map_over_event content k p = refl
  map_over_event skipped k p = refl
  map_over_event (section t) k p = refl
  map_over_event (kept x) k p = let e = c.judged x p k in rw e (map_event x k (G.judged x p k))

  map_left_event : (u : Use) (k : List ℕ) (l : ℕ) (p : G.P) → left_event H u k l (f p) ≡ left_event G u k l p
  unfolding left_event
  map_left_event u k zero p = map_over_event u k p
  map_left_event u k (suc l) p = refl

  map_over : (u : Use) (k : List ℕ) (p : G.P) → over H u k (f p) ≡ map_outcome f (over G u k p)
  unfolding over map_outcome map_state
  map_over content k p = refl
  map_over skipped k p = refl
  map_over (section t) k p = refl
  map_over (kept x) k p = let e = c.judged x p k in rw e (map_answered (G.judged x p k))

  map_left : (u : Use) (k : List ℕ) (l : ℕ) (p : G.P) → with_left H u k l (f p) ≡ map_outcome f (with_left G u k l p)
  unfolding with_left
  map_left u k zero p = map_over u k p
  map_left u k (suc l) p = unfold map_outcome map_state in refl

  map_left_onward : (u : Use) (k : List ℕ) (l : ℕ) (p : G.P) (r : State G.P → Feeding G.P) (q : State H.P → Feeding H.P)
      → ((s : State G.P) → q (map_state f s) ≡ map_feeding f (r s))
      → onward (left_event H u k l (f p)) (with_left H u k l (f p)) q ≡ map_feeding f (onward (left_event G u k l p) (with_left G u k l p) r)
  map_left_onward u k l p r q h =
      let a = map_left_event u k l p in
      let b = map_left u k l p in
      rw (a, b) (map_onward (left_event G u k l p) (with_left G u k l p) r q h)

  map_behind : (len : ℕ) (ru : Ruling G.P) (r : State G.P → Feeding G.P) (q : State H.P → Feeding H.P) → ((s : State G.P) → q (map_state f s) ≡ map_feeding f (r s))
      → behind_header H len (map_ruling f ru) q ≡ map_feeding f (behind_header G len ru r)
  unfolding behind_header map_ruling map_outcome
  map_behind len (refuse code) r q h = map_halt quiet (dies code)
  map_behind len (accept u p) r q h = map_left_onward u [] len p r q h

  map_named : (u : Use) (k l : ℕ) → named H u k l ≡ named G u k l
  unfolding named
  map_named content k l = refl
  map_named skipped k l = refl
  map_named (section t) k l = refl
  map_named (kept x) k l = refl

  map_taking : (u : Use) (j l : ℕ) (p : G.P) → taking H u j l (f p) ≡ map_feeding f (taking G u j l p)
  unfolding taking map_feeding
  map_taking u j l p = let b = map_left u [] l p in let e = map_named u (suc j) l in rw (b, e) refl

  map_typed : (p : G.P) (x : Fed) → typed (f p) x ≡ map_state f (typed p x)
  unfolding typed map_state
  map_typed p (going g) = refl
  map_typed p (value t) = refl

  map_length : (n t : ℕ) (p : G.P) (bs : List ℕ) → ((n : ℕ) (s : State G.P) → feed H n (map_state f s) bs ≡ map_feeding f (feed G n s bs)) → (x : Fed)
      → ◌≡◌ {A = Feeding H.P} (elim x [
        | going g ↦ also 0 (feed H (suc n) (in_length t g (f p)) bs)
        | value len ↦ also 1 (behind_header H len (H.rule (f p) t len) (λ s. feed H n s bs))
      ])
      (map_feeding f (elim x [
        | going g ↦ also 0 (feed G (suc n) (in_length t g p) bs)
        | value len ↦ also 1 (behind_header G len (G.rule p t len) (λ s. feed G n s bs))
      ]))
  unfolding map_state
  map_length n t p bs ih (going g) = ap (also 0) (ih (suc n) (in_length t g p)) ∙ map_also 0 _
  map_length n t p bs ih (value len) =
      let e = c.rule p t len in
      rw e (ap (also 1) (map_behind len (G.rule p t len) (λ s. feed G n s bs) (λ s. feed H n s bs) (λ s. ih n s)) ∙ map_also 1 _)

  -- FEEDS ARE CARRIED ALONG
  pub map_feed : (n : ℕ) (s : State G.P) (bs : List ℕ) → feed H n (map_state f s) bs ≡ map_feeding f (feed G n s bs)
  unfolding feed map_state map_outcome
  map_feed n s [] = map_halt quiet (lives s)
  map_feed zero (in_type g p) (b ∷ bs) = map_halt quiet (lives (in_type g p))
  map_feed (suc n) (in_type g p) (b ∷ bs) = let e = map_typed p (fed g b) in rw e (ap (also 0) (map_feed (suc n) (typed p (fed g b)) bs) ∙ map_also 0 _)
  map_feed zero (in_length t g p) (b ∷ bs) = map_halt quiet (lives (in_length t g p))
  map_feed (suc n) (in_length t g p) (b ∷ bs) = map_length n t p bs (λ n s. map_feed n s bs) (fed g b)
  map_feed n (in_payload content k left p) (b ∷ bs) = map_taking content (min left (length bs)) (left - min left (length bs)) p
  map_feed n (in_payload (section t) k left p) (b ∷ bs) = map_taking (section t) (min left (length bs)) (left - min left (length bs)) p
  map_feed n (in_payload skipped k left p) (b ∷ bs) =
      let e = map_left skipped [] left p in
      rw e (ap (also 0) (map_onward quiet (with_left G skipped [] left p) (λ s. feed G n s bs) (λ s. feed H n s bs) (λ s. map_feed n s bs)) ∙ map_also 0 _)
  map_feed n (in_payload (kept x) k left p) (b ∷ bs) =
      ap (also 0) (map_left_onward (kept x) (k ++ (b ∷ [])) left p (λ s. feed G n s bs) (λ s. feed H n s bs) (λ s. map_feed n s bs)) ∙ map_also 0 _
  map_feed n (due t p) (b ∷ bs) = map_halt quiet (lives (due t p))
