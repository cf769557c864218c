-- A payload that is handed on or kept, to its end or the piece's: what a feed says of it. Assumes nothing.
use Rattle.std.specs.Prelude.{◌≡◌, drop}
use Rattle.std.proofs.Math.Path.{refl, ap}
use Rattle.std.proofs.Common.{◌∙◌}
use Prim.Native.Nat.{ℕ, suc, ◌-◌, ◌≤◌, ◌<◌, min}
use native.Mathlib.Omega.{arith}
use mathlib.Core.List.{List, [], ◌∷◌, ◌++◌}
use Rattle.std.proofs.Math.ListN.{length, take}
use Rattle.rules.specs.Reading.{Part, Kept, Use, content, section, kept, Next, stop, go, Grammar}
use Rattle.meaning.specs.Machine.{State, in_payload, Outcome, lives, answered, over, with_left}
use Rattle.meaning.specs.Feed.{Event, Feeding, halt, onward, judged_event, over_event, left_event, named, taking, feed}
use Rattle.meaning.specs.FeedLaws.{past}
use Rattle.meaning.proofs.FeedLaws.{content_feed, section_feed, kept_whole}

-- content and sections are shown, a part to a feed
pub data Shown : Use → Type 0 where
  content_shown : Shown content
  section_shown : (t : Part) → Shown (section t)

pub data Stopping : Use → Type 0 where
  section_stops : (t : Part) → Stopping (section t)
  kept_stops : (k : Kept) → Stopping (kept k)

module _ (G : Grammar) (n : ℕ) (p : G.P) where
  abbrev says : (used : ℕ) → Event → Outcome G.P → Feeding G.P
  says used e o = record { used = used; heads = 0; event = e; after = o }

  -- one part of a payload with l + 1 bytes to come, j + 1 of which are there
  takes : (u : Use) (j l : ℕ) → taking G u j l p ≡ says (suc j) (named G u (suc j) l) (with_left G u [] l p)
  unfolding taking
  takes u j l = refl

  shown_feed : {u : Use} → Shown u → (l b : ℕ) (bs : List ℕ) → let j = min l (length bs) in feed G n (in_payload u [] l p) (b ∷ bs) ≡ taking G u j (l - j) p
  shown_feed content_shown l b bs = content_feed G n [] l p b bs
  shown_feed (section_shown t) l b bs = section_feed G n t [] l p b bs

  pub part_whole : {u : Use} → Shown u → (l : ℕ) (bs : List ℕ) → suc l ≤ length bs → feed G n (in_payload u [] l p) bs ≡ says (suc l) (named G u (suc l) 0) (over G u [] p)
  unfolding with_left
  part_whole h l [] e = absurd (omega arith)
  part_whole {u} h l (b ∷ bs) e =
      let j : min l (length bs) ≡ l = omega arith in
      let z : l - l ≡ 0 = omega arith in
      shown_feed h l b bs ∙ rw (j, z) (takes u l 0)

  pub part_short : {u : Use} → Shown u → (l : ℕ) (bs : List ℕ) → 0 < length bs → length bs ≤ l
      → feed G n (in_payload u [] l p) bs ≡ says (length bs) (named G u (length bs) (suc (l - length bs))) (lives (in_payload u [] (l - length bs) p))
  unfolding with_left
  part_short h l [] e f = absurd (omega arith)
  part_short {u} h l (b ∷ bs) e f =
      let j : min l (length bs) ≡ length bs = omega arith in
      let z : l - length bs ≡ suc (l - suc (length bs)) = omega arith in
      shown_feed h l b bs ∙ rw (j, z) (takes u (length bs) (suc (l - suc (length bs))))

  -- a kept payload that is complete: judged, whatever would follow
  unfoldable pub judged_as : Kept → (all : List ℕ) → Feeding G.P
  judged_as k all = halt (judged_event k all (G.judged k p all)) (answered (G.judged k p all))

  judged_stops : (k : Kept) (all : List ℕ) (f : State G.P → Feeding G.P) (x : Next G.P) → onward (judged_event k all x) (answered x) f ≡ halt (judged_event k all x) (answered x)
  unfolding onward judged_event answered
  judged_stops k all f (stop code) = refl
  judged_stops k all f (go q) = refl

  -- a section or a kept payload that is complete stops the feed
  pub over_stops : {u : Use} → Stopping u → (all : List ℕ) (f : State G.P → Feeding G.P) → onward (left_event G u all 0 p) (with_left G u all 0 p) f ≡ halt (over_event G u all p) (over G u all p)
  unfolding left_event over_event with_left over onward
  over_stops (section_stops t) all f = refl
  over_stops (kept_stops k) all f = judged_stops k all f (G.judged k p all)

  pub kept_judged : (k : Kept) (l : ℕ) (sofar bs : List ℕ) → suc l ≤ length bs → feed G n (in_payload (kept k) sofar l p) bs ≡ past (suc l) 0 (judged_as k (sofar ++ take (suc l) bs))
  unfolding over_event over judged_as
  kept_judged k l sofar bs h = kept_whole G n p k l sofar bs h ∙ ap (past (suc l) 0) (over_stops (kept_stops k) (sofar ++ take (suc l) bs) (λ s. feed G n s (drop (suc l) bs)))
