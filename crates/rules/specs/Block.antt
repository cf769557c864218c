-- The section block (document 01, "Section block"): what a HEADERS payload decodes to. Assumes nothing.
use Rattle.std.specs.Prelude.{ℕ, zero, suc, ◌+◌, ◌*◌, List, [], ◌∷◌, true, false, ltb, eqb, length, take, drop}

-- A field line, with its number in the block and the place of its record in the block, both from 0.
pub record Line : Type 0 where
  pub number : ℕ
  pub at : ℕ
  pub name : List ℕ
  pub value : List ℕ

-- A section: the lines of a readable block.
abbrev pub Section : Type 0
Section = List Line

-- Why a block is unreadable.
pub data Flaw : Type 0 where
  other_kind : Flaw
  short_length : Flaw  -- a length below 4
  long_name : Flaw  -- a name longer than the record
  cut_record : Flaw

pub data Lines : Type 0 where
  unreadable : Flaw → Lines
  readable : Section → Lines

-- a two-byte number, little-endian
unfoldable pub little : (a b : ℕ) → ℕ
little a b = a + 256 * b

-- what follows a record's length, all there: kind 1, a field line; the name's length; name, value
pub data Record : Type 0 where
  flawed : Flaw → Record
  line : (name value : List ℕ) → Record

unfoldable pub fields : (nameLength : ℕ) → List ℕ → Record
fields n bytes = elim (ltb (length bytes) n) [ true ↦ flawed long_name | false ↦ line (take n bytes) (drop n bytes) ]

unfoldable pub record_of : List ℕ → Record
record_of [] = flawed short_length
record_of (k ∷ []) = flawed short_length
record_of (k ∷ k' ∷ []) = flawed short_length
record_of (k ∷ k' ∷ n ∷ []) = flawed short_length
record_of (k ∷ k' ∷ n ∷ n' ∷ bytes) = elim (eqb (little k k') 1) [ true ↦ fields (little n n') bytes | false ↦ flawed other_kind ]

unfoldable pub before : Line → Lines → Lines
before l (unreadable f) = unreadable f
before l (readable ls) = readable (l ∷ ls)

-- Records back to back. `fuel` bounds the number of records: a record takes six bytes or more, so the number of bytes is enough.
unfoldable pub lines_from : (fuel number at : ℕ) → List ℕ → Lines
lines_from zero number at bytes = readable []
lines_from (suc fuel) number at [] = readable []
lines_from (suc fuel) number at (a ∷ []) = unreadable cut_record
lines_from (suc fuel) number at (a ∷ b ∷ rest) =
    let len : ℕ = little a b in
    elim (ltb len 4) [
      | true ↦ unreadable short_length
      | false ↦ elim (ltb (length rest) len) [
        | true ↦ unreadable cut_record
        | false ↦ elim (record_of (take len rest)) [
          | flawed f ↦ unreadable f
          | line name value ↦
              before (record { number = number; at = at; name = name; value = value })
              (lines_from fuel (suc number) (at + 2 + len) (drop len rest))
        ]
      ]
    ]

unfoldable pub lines : (block : List ℕ) → Lines
lines block = lines_from (length block) 0 0 block
