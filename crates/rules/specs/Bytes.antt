-- Which byte of a section is bad (document 02, Q-3): of the rules of names and values (Section) the one that it breaks, its line, and its place in the block.
-- Assumes nothing.
use Rattle.std.specs.Prelude.{ℕ, suc, ◌+◌, ◌-◌, List, [], ◌∷◌, Bool, true, false, length}
use Rattle.std.proofs.Math.Option.{Option, none, some}
use Rattle.rules.specs.Block.{Line, Section}
use Rattle.rules.specs.Classes.{is_capital, is_name, is_value, is_blank}
use Rattle.rules.specs.Section.{is_empty, begins, ends, is_pseudo}

pub data Fault : Type 0 where
  empty_name capital bad_in_name bad_in_value blank_at_end : Fault

-- a fault, and the place of its byte
pub record Spot : Type 0 where
  pub fault : Fault
  pub place : ℕ

abbrev pub spot : Fault → (place : ℕ) → Spot
spot f p = record { fault = f; place = p }

-- a spot where a test says yes
unfoldable pub if : Bool → Spot → Option Spot
if true s = some s
if false s = none

-- the one, or else the other
unfoldable pub or_else : Option Spot → Option Spot → Option Spot
or_else none b = b
or_else (some a) b = some a

-- the first byte outside a class; `from` is the place of the first byte
unfoldable pub first_outside : (is_in : ℕ → Bool) (says : ℕ → Fault) (from : ℕ) → List ℕ → Option Spot
first_outside is_in says from [] = none
first_outside is_in says from (b ∷ bs) = elim (is_in b) [ true ↦ first_outside is_in says (suc from) bs | false ↦ some (spot (says b) from) ]

-- in its record a name is behind six bytes, and its value behind it
unfoldable pub name_from : Line → ℕ
name_from l = l.at + 6

unfoldable pub value_from : Line → ℕ
value_from l = name_from l + length l.name

-- a name: none at all is told at its record's first byte; one that begins with a colon is left to the section's rules
unfoldable pub name_fault : ℕ → Fault
name_fault b = elim (is_capital b) [ true ↦ capital | false ↦ bad_in_name ]

unfoldable pub name_spot : Line → Option Spot
name_spot l = elim (is_pseudo l) [
  | true ↦ none
  | false ↦ or_else (if (is_empty l.name) (spot empty_name l.at)) (first_outside is_name name_fault (name_from l) l.name)
]

-- a value: the lowest of a blank first byte, a byte that no value holds, a blank last byte
unfoldable pub value_spot : Line → Option Spot
value_spot l =
    or_else (if (begins is_blank l.value) (spot blank_at_end (value_from l)))
    (or_else (first_outside is_value (λ b. bad_in_value) (value_from l) l.value)
    (if (ends is_blank l.value) (spot blank_at_end (value_from l + length l.value - 1))))

-- a line: its name comes before its value
unfoldable pub line_spot : Line → Option Spot
line_spot l = or_else (name_spot l) (value_spot l)

-- a section: the first line that has one, by its number from 0
pub record BadByte : Type 0 where
  pub line : ℕ
  pub at : Spot

unfoldable pub bad_byte : Section → Option BadByte
bad_byte [] = none
bad_byte (l ∷ s) = elim (line_spot l) [ none ↦ bad_byte s | some x ↦ some (record { line = l.number; at = x }) ]
