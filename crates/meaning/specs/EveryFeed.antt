-- What holds of every feed: one induction over the feeds of any grammar, and its uses: the stop rule, progress, maximal parts, the allowance and
-- the mark. Assumes nothing.
use Rattle.std.specs.Prelude.{◌≡◌, Bool, true, false, length}
use Prim.Native.Nat.{ℕ, zero, suc, ◌-◌, min}
use mathlib.Core.List.{List, [], ◌∷◌}
use Rattle.rules.specs.Numbers.{Code}
use Rattle.rules.specs.Reading.{Part, Kept, Use, content, skipped, section, kept, Grammar}
use Rattle.meaning.specs.Machine.{State, in_type, in_length, in_payload, due, lives, dies, between}
use Rattle.meaning.specs.Feed.{quiet, section_bytes, content_bytes, taken, Feeding, halt, also, taking}

-- ---- one induction

-- A property of feeds, by what a feed is made of.
pub record Closed (G : Grammar) (Q : (allow : ℕ) (piece : List ℕ) → Feeding G.P → Type 0) : Type 0 where
  pub nothing_left : (allow : ℕ) (s : State G.P) → Q allow [] (halt quiet (lives s))
  pub none_allowed : (s : State G.P) (piece : List ℕ) → Q zero piece (halt quiet (lives s))
  pub waiting : (allow : ℕ) (piece : List ℕ) (t : Part) (p : G.P) → Q allow piece (halt quiet (lives (due t p)))
  pub fault : (allow : ℕ) (piece : List ℕ) (code : Code) → Q allow piece (halt quiet (dies code))
  pub empty_section : (allow : ℕ) (piece : List ℕ) (t : Part) (p : G.P) → Q allow piece (halt (section_bytes 0 true) (lives (due t p)))
  pub told : (allow : ℕ) (piece : List ℕ) (k : Kept) (payload : List ℕ) (p : G.P) → Q allow piece (halt (taken k payload) (lives (between p)))
  pub content_part : (allow left b : ℕ) (bs : List ℕ) (p : G.P) → let j = min left (length bs) in Q allow (b ∷ bs) (taking G content j (left - j) p)
  pub section_part : (allow left b : ℕ) (bs : List ℕ) (t : Part) (p : G.P) → let j = min left (length bs) in Q allow (b ∷ bs) (taking G (section t) j (left - j) p)
  pub byte : (allow b : ℕ) (bs : List ℕ) (f : Feeding G.P) → Q allow bs f → Q allow (b ∷ bs) (also 0 f)
  pub header_byte : (allow b : ℕ) (bs : List ℕ) (f : Feeding G.P) → Q allow bs f → Q (suc allow) (b ∷ bs) (also 1 f)

-- ---- the stop rule

pub data Stops {P : Type 0} (allow : ℕ) (piece : List ℕ) (f : Feeding P) : Type 0 where
  at_section : {len : ℕ} {last : Bool} → f.event ≡ section_bytes len last → Stops allow piece f
  at_content : {len : ℕ} → f.event ≡ content_bytes len → Stops allow piece f
  at_taken : {k : Kept} {payload : List ℕ} → f.event ≡ taken k payload → Stops allow piece f
  at_end : f.used ≡ length piece → Stops allow piece f
  at_allowance : f.heads ≡ allow → Stops allow piece f
  at_fault : {code : Code} → f.after ≡ dies code → Stops allow piece f
  while_due : {t : Part} {p : P} → f.after ≡ lives (due t p) → Stops allow piece f

-- ---- progress

abbrev pub ReadsOn : {P : Type 0} → State P → Type 0
ReadsOn (in_type g p) = Unit {0}
ReadsOn (in_length t g p) = Unit {0}
ReadsOn (in_payload u k left p) = Unit {0}
ReadsOn (due t p) = ⊥

-- ---- a part is as long as the piece and the payload allow

pub data Greedy {P : Type 0} (allow : ℕ) (piece : List ℕ) (f : Feeding P) : Type 0 where
  no_part : f.event ≡ quiet → Greedy allow piece f
  no_bytes : {k : Kept} {payload : List ℕ} → f.event ≡ taken k payload → Greedy allow piece f
  piece_used : f.used ≡ length piece → Greedy allow piece f
  content_over : {p : P} → f.after ≡ lives (between p) → Greedy allow piece f
  section_over : {t : Part} {p : P} → f.after ≡ lives (due t p) → Greedy allow piece f

-- ---- the mark

pub data Marked {P : Type 0} (allow : ℕ) (piece : List ℕ) (f : Feeding P) : Type 0 where
  not_at_all : f.event ≡ quiet → Marked allow piece f
  not_content : {len : ℕ} → f.event ≡ content_bytes len → Marked allow piece f
  not_told : {k : Kept} {payload : List ℕ} → f.event ≡ taken k payload → Marked allow piece f
  marked : {len : ℕ} {t : Part} {p : P} → f.event ≡ section_bytes len true → f.after ≡ lives (due t p) → Marked allow piece f
  unmarked : {len l : ℕ} {t : Part} {p : P} → f.event ≡ section_bytes len false → f.after ≡ lives (in_payload (section t) [] l p) → Marked allow piece f

-- ---- no refusal gives an event

abbrev pub is_part : Use → Bool
is_part content = true
is_part skipped = false
is_part (section t) = true
is_part (kept k) = false
