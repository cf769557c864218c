-- What the walk over a SETTINGS payload goes by: its pairs, looking again at those passed, and what is kept so far. Assumes nothing.
use Rattle.std.specs.Prelude.{◌≡◌, ℕ, List, [], ◌∷◌, Bool, ◌||◌, length, drop, Option as Maybe, Some, None, Result, Ok, Err}
use Rattle.rules.specs.Text.{is_one_of}
use Rattle.rules.specs.Integers.{cut, got, integer}
use Rattle.rules.specs.Reading.{Next}
use Rattle.rules.specs.Control.{Settings, pairs}
use Rattle.meaning.specs.NumberLaws.{numbered}
use Rattle.rules.specs.declared.codes.Code.{Code}
use Rattle.control.specs.declared.settings.Pair.{Pair}
use Rattle.control.specs.declared.settings.Settings as kept
use Rattle.control.specs.Answers.{judged_is}

-- ---- pairs of a payload l

-- an identifier and value from one place to another
pub record IsPair (l : List ℕ) (at identifier value to : ℕ) : Type 0 where
  pub middle : ℕ
  pub identifies : integer at (drop at l) ≡ got identifier middle (drop middle l)
  pub holds : integer middle (drop middle l) ≡ got value to (drop to l)

pub data IsCut (l : List ℕ) (at : ℕ) : Type 0 where
  identifier_cut : integer at (drop at l) ≡ cut → IsCut l at
  value_cut : {identifier middle : ℕ} → integer at (drop at l) ≡ got identifier middle (drop middle l) → integer middle (drop middle l) ≡ cut → IsCut l at

abbrev pub FoundAt : List ℕ → (at : ℕ) → Maybe Pair → Type 0
FoundAt l at (Some p) = IsPair l at p.identifier p.value p.shorter
FoundAt l at None = IsCut l at

-- ---- those passed

-- the pairs from one place to another put their identifiers before those seen
pub data Passed (l : List ℕ) : (from until : ℕ) → (before after : List ℕ) → Type 0 where
  nothing : {at : ℕ} {seen : List ℕ} → Passed l at at seen seen
  pair : {from to until i v : ℕ} {before after : List ℕ} → IsPair l from i v to → Passed l to until (i ∷ before) after → Passed l from until before after

-- whether one of them has the identifier sought
abbrev pub Looked : List ℕ → (from until sought : ℕ) → Bool → Type 0
Looked l from until i r = (before after : List ℕ) → Passed l from until before after → is_one_of after i ≡ (r || is_one_of before i)

-- ---- the walk

-- the rule from some pair on
abbrev pub rest : (seen : List ℕ) → Settings → List ℕ → Next Settings
rest seen s bs = pairs (length bs) seen s bs

-- the answer at a place that is reached with s kept
abbrev pub Walked : List ℕ → (at : ℕ) → Settings → Result kept.Settings Code → Type 0
Walked l at s r = (seen : List ℕ) → Passed l 0 at [] seen → judged_is r ≡ numbered (rest seen s (drop at l))

-- the answer, with what is kept
abbrev pub kept_by : Result (Unit {0}) Code → kept.Settings → Result kept.Settings Code
kept_by (Ok u) k = Ok k
kept_by (Err c) k = Err c
