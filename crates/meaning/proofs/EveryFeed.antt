-- What holds of every feed: one induction over the feeds of any grammar, and its uses: the stop rule, progress, maximal parts, the allowance and
-- the mark. Assumes nothing.
use Rattle.std.specs.Prelude.{◌≡◌, refl, true, length}
use Rattle.std.proofs.Common.{ap, arith}
use Prim.Native.Nat.{ℕ, zero, suc, ◌+◌, ◌-◌, ◌≤◌, min, zero-le}
use mathlib.Core.List.{List, [], ◌∷◌, ◌++◌}
use Rattle.std.proofs.Math.Dec.{eqb-suc-zero}
use Rattle.rules.specs.Numbers.{Code}
use Rattle.rules.specs.Reading.{Part, Kept, Use, content, skipped, section, kept, Ruling, refuse, accept, Next, stop, go, Grammar}
use Rattle.meaning.specs.Machine.{Fed, going, value, fed, State, in_type, in_length, in_payload, due, lives, dies, between, answered, typed, over, with_left}
use Rattle.meaning.specs.Feed.{quiet, section_bytes, Feeding, halt, also, onward, judged_event, over_event, left_event, behind_header, named, taking, feed}
use Rattle.meaning.specs.EveryFeed.{Closed, Stops, at_section, at_content, at_taken, at_end, at_allowance, at_fault, while_due, ReadsOn, Greedy, no_part, no_bytes, piece_used, content_over, section_over, Marked, not_at_all, not_content, not_told, marked, unmarked, is_part}

-- ---- one induction

module _ (G : Grammar) (Q : (allow : ℕ) (piece : List ℕ) → Feeding G.P → Type 0) (c : Closed G Q) where
  judged_holds : (allow : ℕ) (piece : List ℕ) (k : Kept) (payload : List ℕ) (n : Next G.P) (f : State G.P → Feeding G.P) → Q allow piece (onward (judged_event k payload n) (answered n) f)
  unfolding onward judged_event answered
  judged_holds allow piece k payload (stop code) f = c.fault allow piece code
  judged_holds allow piece k payload (go p) f = c.told allow piece k payload p

  left_holds : (allow : ℕ) (piece : List ℕ) (u : Use) (k : List ℕ) (l : ℕ) (p : G.P) (f : State G.P → Feeding G.P) → ((s : State G.P) → Q allow piece (f s))
      → Q allow piece (onward (left_event G u k l p) (with_left G u k l p) f)
  unfolding onward left_event over_event with_left over
  left_holds allow piece content k zero p f r = r (between p)
  left_holds allow piece skipped k zero p f r = r (between p)
  left_holds allow piece (section t) k zero p f r = c.empty_section allow piece t p
  left_holds allow piece (kept t) k zero p f r = judged_holds allow piece t k (G.judged t p k) f
  left_holds allow piece u k (suc l) p f r = r (in_payload u k l p)

  behind_holds : (allow : ℕ) (piece : List ℕ) (len : ℕ) (ru : Ruling G.P) (f : State G.P → Feeding G.P) → ((s : State G.P) → Q allow piece (f s))
      → Q allow piece (behind_header G len ru f)
  unfolding behind_header
  behind_holds allow piece len (refuse code) f r = c.fault allow piece code
  behind_holds allow piece len (accept u p) f r = left_holds allow piece u [] len p f r

  length_holds : (n t : ℕ) (p : G.P) (b : ℕ) (bs : List ℕ) → ((n : ℕ) (s : State G.P) → Q n bs (feed G n s bs)) → (x : Fed)
      → Q (suc n) (b ∷ bs) (elim x [
        | going g ↦ also 0 (feed G (suc n) (in_length t g p) bs)
        | value len ↦ also 1 (behind_header G len (G.rule p t len) (λ s. feed G n s bs))
      ])
  length_holds n t p b bs ih (going g) = c.byte (suc n) b bs _ (ih (suc n) (in_length t g p))
  length_holds n t p b bs ih (value len) = c.header_byte n b bs _ (behind_holds n bs len (G.rule p t len) (λ s. feed G n s bs) (λ s. ih n s))

  skip_holds : (allow : ℕ) (piece : List ℕ) (l : ℕ) (p : G.P) (f : State G.P → Feeding G.P) → ((s : State G.P) → Q allow piece (f s))
      → Q allow piece (onward quiet (with_left G skipped [] l p) f)
  unfolding onward with_left over
  skip_holds allow piece zero p f r = r (between p)
  skip_holds allow piece (suc l) p f r = r (in_payload skipped [] l p)

  -- WHAT IS CLOSED HOLDS OF EVERY FEED
  pub every_feed : (allow : ℕ) (s : State G.P) (piece : List ℕ) → Q allow piece (feed G allow s piece)
  unfolding feed
  every_feed allow s [] = c.nothing_left allow s
  every_feed zero (in_type g p) (b ∷ bs) = c.none_allowed (in_type g p) (b ∷ bs)
  every_feed (suc n) (in_type g p) (b ∷ bs) = c.byte (suc n) b bs _ (every_feed (suc n) (typed p (fed g b)) bs)
  every_feed zero (in_length t g p) (b ∷ bs) = c.none_allowed (in_length t g p) (b ∷ bs)
  every_feed (suc n) (in_length t g p) (b ∷ bs) = length_holds n t p b bs (λ n s. every_feed n s bs) (fed g b)
  every_feed n (in_payload content k left p) (b ∷ bs) = c.content_part n left b bs p
  every_feed n (in_payload (section t) k left p) (b ∷ bs) = c.section_part n left b bs t p
  every_feed n (in_payload skipped k left p) (b ∷ bs) = c.byte n b bs _ (skip_holds n bs left p (λ s. feed G n s bs) (λ s. every_feed n s bs))
  every_feed n (in_payload (kept t) k left p) (b ∷ bs) = c.byte n b bs _ (left_holds n bs (kept t) (k ++ (b ∷ [])) left p (λ s. feed G n s bs) (λ s. every_feed n s bs))
  every_feed n (due t p) (b ∷ bs) = c.waiting n (b ∷ bs) t p

-- ---- the stop rule

also_stops : {P : Type 0} {allow : ℕ} (h all : ℕ) → h + allow ≡ all → {b : ℕ} {bs : List ℕ} {f : Feeding P} → Stops allow bs f → Stops all (b ∷ bs) (also h f)
unfolding also
also_stops h all n (at_section e) = at_section e
also_stops h all n (at_content e) = at_content e
also_stops h all n (at_taken e) = at_taken e
also_stops h all n (at_end e) = at_end (ap suc e)
also_stops h all n (at_allowance e) = at_allowance (omega arith)
also_stops h all n (at_fault e) = at_fault e
also_stops h all n (while_due e) = while_due e

-- a feed stops only at an event, the end of the piece, the allowance, a fault, or where a section was due
pub feed_stops : (G : Grammar) (allow : ℕ) (s : State G.P) (piece : List ℕ) → Stops allow piece (feed G allow s piece)
unfolding halt taking named
feed_stops G = every_feed G Stops (record {
  nothing_left = λ allow s. at_end refl;
  none_allowed = λ s piece. at_allowance refl;
  waiting = λ allow piece t p. while_due refl;
  fault = λ allow piece code. at_fault refl;
  empty_section = λ allow piece t p. at_section refl;
  told = λ allow piece k payload p. at_taken refl;
  content_part = λ allow left b bs p. at_content refl;
  section_part = λ allow left b bs t p. at_section refl;
  byte = λ allow b bs f q. also_stops 0 allow (omega arith) q;
  header_byte = λ allow b bs f q. also_stops 1 (suc allow) (omega arith) q;
})

-- ---- progress

length_moves : (G : Grammar) (n t : ℕ) (p : G.P) (bs : List ℕ) (x : Fed) → 1 ≤ (elim x as (λ y. Feeding G.P) [
  | going g ↦ also 0 (feed G (suc n) (in_length t g p) bs)
  | value len ↦ also 1 (behind_header G len (G.rule p t len) (λ s. feed G n s bs))
]).used
unfolding also
length_moves G n t p bs (going g) = omega arith
length_moves G n t p bs (value len) = omega arith

-- PROGRESS: with an allowance and a byte, where no section is due, a feed consumes one or more
pub feed_moves : (G : Grammar) (n b : ℕ) (s : State G.P) (bs : List ℕ) → ReadsOn s → 1 ≤ (feed G (suc n) s (b ∷ bs)).used
unfolding feed also taking
feed_moves G n b (in_type g p) bs h = omega arith
feed_moves G n b (in_length t g p) bs h = length_moves G n t p bs (fed g b)
feed_moves G n b (in_payload content k left p) bs h = omega arith
feed_moves G n b (in_payload skipped k left p) bs h = omega arith
feed_moves G n b (in_payload (section t) k left p) bs h = omega arith
feed_moves G n b (in_payload (kept t) k left p) bs h = omega arith
feed_moves G n b (due t p) bs h = absurd h

-- ---- a part is as long as the piece and the payload allow

also_greedy : {P : Type 0} {allow : ℕ} (h all : ℕ) {b : ℕ} {bs : List ℕ} {f : Feeding P} → Greedy allow bs f → Greedy all (b ∷ bs) (also h f)
unfolding also
also_greedy h all (no_part e) = no_part e
also_greedy h all (no_bytes e) = no_bytes e
also_greedy h all (piece_used e) = piece_used (ap suc e)
also_greedy h all (content_over e) = content_over e
also_greedy h all (section_over e) = section_over e

content_greedy : (G : Grammar) (allow left b : ℕ) (bs : List ℕ) (p : G.P) (l : ℕ) → left - min left (length bs) ≡ l → Greedy allow (b ∷ bs) (taking G content (min left (length bs)) l p)
unfolding taking with_left over
content_greedy G allow left b bs p zero e = content_over refl
content_greedy G allow left b bs p (suc l) e = piece_used (omega arith)

section_greedy : (G : Grammar) (allow left b : ℕ) (bs : List ℕ) (t : Part) (p : G.P) (l : ℕ) → left - min left (length bs) ≡ l → Greedy allow (b ∷ bs) (taking G (section t) (min left (length bs)) l p)
unfolding taking with_left over
section_greedy G allow left b bs t p zero e = section_over refl
section_greedy G allow left b bs t p (suc l) e = piece_used (omega arith)

-- MAXIMAL PARTS: a feed that names section bytes or content has used up the piece or come to the payload's end
pub feed_greedy : (G : Grammar) (allow : ℕ) (s : State G.P) (piece : List ℕ) → Greedy allow piece (feed G allow s piece)
unfolding halt
feed_greedy G = every_feed G Greedy (record {
  nothing_left = λ allow s. no_part refl;
  none_allowed = λ s piece. no_part refl;
  waiting = λ allow piece t p. no_part refl;
  fault = λ allow piece code. no_part refl;
  empty_section = λ allow piece t p. section_over refl;
  told = λ allow piece k payload p. no_bytes refl;
  content_part = λ allow left b bs p. content_greedy G allow left b bs p (left - min left (length bs)) refl;
  section_part = λ allow left b bs t p. section_greedy G allow left b bs t p (left - min left (length bs)) refl;
  byte = λ allow b bs f q. also_greedy 0 allow q;
  header_byte = λ allow b bs f q. also_greedy 1 (suc allow) q;
})

-- ---- the allowance

-- THE ALLOWANCE: a feed finishes no more headers than it is allowed
pub feed_allows : (G : Grammar) (allow : ℕ) (s : State G.P) (piece : List ℕ) → (feed G allow s piece).heads ≤ allow
unfolding halt also taking
feed_allows G = every_feed G (λ allow piece f. f.heads ≤ allow) (record {
  nothing_left = λ allow s. zero-le;
  none_allowed = λ s piece. zero-le;
  waiting = λ allow piece t p. zero-le;
  fault = λ allow piece code. zero-le;
  empty_section = λ allow piece t p. zero-le;
  told = λ allow piece k payload p. zero-le;
  content_part = λ allow left b bs p. zero-le;
  section_part = λ allow left b bs t p. zero-le;
  byte = λ allow b bs f q. omega arith;
  header_byte = λ allow b bs f q. omega arith;
})

-- ---- the mark

also_marked : {P : Type 0} {allow : ℕ} (h all : ℕ) {b : ℕ} {bs : List ℕ} {f : Feeding P} → Marked allow bs f → Marked all (b ∷ bs) (also h f)
unfolding also
also_marked h all (not_at_all e) = not_at_all e
also_marked h all (not_content e) = not_content e
also_marked h all (not_told e) = not_told e
also_marked h all (marked e a) = marked e a
also_marked h all (unmarked e a) = unmarked e a

section_marked : (G : Grammar) (allow : ℕ) (piece : List ℕ) (t : Part) (p : G.P) (j l : ℕ) → Marked allow piece (taking G (section t) j l p)
unfolding taking named with_left over
section_marked G allow piece t p j zero = marked refl refl
section_marked G allow piece t p j (suc l) = unmarked (ap (section_bytes (suc j)) (eqb-suc-zero l)) refl

-- THE MARK is on the part behind which the section is due, and on no other
pub feed_marks : (G : Grammar) (allow : ℕ) (s : State G.P) (piece : List ℕ) → Marked allow piece (feed G allow s piece)
unfolding halt taking named
feed_marks G = every_feed G Marked (record {
  nothing_left = λ allow s. not_at_all refl;
  none_allowed = λ s piece. not_at_all refl;
  waiting = λ allow piece t p. not_at_all refl;
  fault = λ allow piece code. not_at_all refl;
  empty_section = λ allow piece t p. marked refl refl;
  told = λ allow piece k payload p. not_told refl;
  content_part = λ allow left b bs p. not_content refl;
  section_part = λ allow left b bs t p. section_marked G allow (b ∷ bs) t p (min left (length bs)) (left - min left (length bs));
  byte = λ allow b bs f q. also_marked 0 allow q;
  header_byte = λ allow b bs f q. also_marked 1 (suc allow) q;
})

-- ---- no refusal gives an event

never_dies : {P : Type 0} {A : Type 0} (s : State P) (code : Code) → lives s ≡ dies code → A
never_dies s code e = let z : ◌≡◌ {A = ℕ} 0 1 = cc in absurd (omega arith)

part_lives : (G : Grammar) (u : Use) → is_part u ≡ true → (j l : ℕ) (p : G.P) (code : Code) → (taking G u j l p).after ≡ dies code → ⊥
unfolding taking with_left over
part_lives G content h j zero p code e = never_dies (between p) code e
part_lives G content h j (suc l) p code e = never_dies (in_payload content [] l p) code e
part_lives G skipped h j l p code e = let z : ◌≡◌ {A = ℕ} 0 1 = cc in omega arith
part_lives G (section t) h j zero p code e = never_dies (due t p) code e
part_lives G (section t) h j (suc l) p code e = never_dies (in_payload (section t) [] l p) code e
part_lives G (kept k) h j l p code e = let z : ◌≡◌ {A = ℕ} 0 1 = cc in omega arith

-- A FAULT IS SILENT
pub feed_silent : (G : Grammar) (allow : ℕ) (s : State G.P) (piece : List ℕ) (code : Code) → (feed G allow s piece).after ≡ dies code → (feed G allow s piece).event ≡ quiet
unfolding halt also taking
feed_silent G allow s piece = every_feed G (λ allow piece f. (code : Code) → f.after ≡ dies code → f.event ≡ quiet) (record {
  nothing_left = λ allow s code e. refl;
  none_allowed = λ s piece code e. refl;
  waiting = λ allow piece t p code e. refl;
  fault = λ allow piece c code e. refl;
  empty_section = λ allow piece t p code e. never_dies (due t p) code e;
  told = λ allow piece k payload p code e. never_dies (between p) code e;
  content_part = λ allow left b bs p code e. absurd (part_lives G content refl (min left (length bs)) (left - min left (length bs)) p code e);
  section_part = λ allow left b bs t p code e. absurd (part_lives G (section t) refl (min left (length bs)) (left - min left (length bs)) p code e);
  byte = λ allow b bs f q. q;
  header_byte = λ allow b bs f q. q;
}) allow s piece
