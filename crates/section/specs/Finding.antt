-- The first line that passes a test, and where a line's value is in the block. Assumes nothing.
use Rattle.std.specs.Prelude.{ℕ, ◌+◌, ◌-◌, ◌≤◌, ◌≡◌, List, [], ◌∷◌, Bool, cond, length, drop}
use Rattle.std.proofs.Math.Option.{Option, none, some}
use Rattle.std.proofs.Common.{arith, length-drop, length-take-le}
use Rattle.rules.specs.Block.{Line, Section}
use Rattle.fields.specs.Walk.{part}

unfoldable pub first : (Line → Bool) → Section → Option Line
first test [] = none
first test (l ∷ s) = cond (test l) (some l) (first test s)

-- where a line's value is in the block, and where it ends
abbrev pub value_from : Line → ℕ
value_from l = l.at + 6 + length l.name

abbrev pub value_to : Line → ℕ
value_to l = value_from l + length l.value

unfoldable pub from_of : Option Line → ℕ
from_of none = 0
from_of (some l) = value_from l

unfoldable pub to_of : Option Line → ℕ
to_of none = 0
to_of (some l) = value_to l

pub length_part : (block : List ℕ) (from to : ℕ) → to ≤ length block → length (part from to block) ≡ to - from
length_part block from to h = length-take-le (to - from) (drop from block) (rw length-drop (omega arith))
