-- Edges of Bytes: blocks, and the bad byte of each, worked out by hand from document 02 (Q3.2 to Q3.7). One claim, computed. Assumes nothing.
use Rattle.std.specs.Prelude.{◌≡◌, refl, ℕ, List, [], ◌∷◌, map}
use Prim.Native.String.{String}
use Rattle.std.proofs.Math.Option.{Option, none, some}
use Rattle.rules.specs.Text.{ascii, nibble, hex_from, hex, between, is_one_of, any, all, same}
use Rattle.rules.specs.Block.{Section, Lines, unreadable, readable, little, fields, record_of, before, lines_from, lines}
use Rattle.rules.specs.Classes.{is_digit, is_capital, is_small, is_mark, is_token, is_name, is_value, is_blank}
use Rattle.rules.specs.Section.{is_empty, begins, ends, is_pseudo}
use Rattle.rules.specs.Bytes.{Fault, empty_name, capital, bad_in_name, bad_in_value, blank_at_end, spot, if, or_else, first_outside, name_from, value_from, name_fault, name_spot, value_spot, line_spot, BadByte, bad_byte}

-- the lines of a block, none of an unreadable one
abbrev held : Lines → Section
held (unreadable f) = []
held (readable s) = s

unfoldable pub asked : List (String × Option BadByte) → List (Option BadByte)
unfolding ascii nibble hex_from hex between is_one_of any all same little fields record_of before lines_from lines is_digit is_capital is_small is_mark is_token is_name is_value is_blank is_empty begins ends is_pseudo if or_else first_outside name_from value_from name_fault name_spot value_spot line_spot bad_byte
asked rows = map (λ r. bad_byte (held (lines (hex r.0)))) rows

abbrev bad : (line : ℕ) → Fault → (place : ℕ) → Option BadByte
bad line f place = some (record { line = line; at = spot f place })

abbrev rows : List (String × Option BadByte)
rows =
    ("", none)
    -- x: y
    ∷ ("06 00 01 00 01 00 78 79", none)
    -- X, aB, a{, a:b; a name behind a bad one in a line
    ∷ ("06 00 01 00 01 00 58 79", bad 0 capital 6)
    ∷ ("07 00 01 00 02 00 61 42 79", bad 0 capital 7)
    ∷ ("07 00 01 00 02 00 61 7B 79", bad 0 bad_in_name 7)
    ∷ ("08 00 01 00 03 00 61 3A 62 79", bad 0 bad_in_name 7)
    ∷ ("07 00 01 00 02 00 7B 42 79", bad 0 bad_in_name 6)
    ∷ ("07 00 01 00 02 00 42 7B 79", bad 0 capital 6)
    -- no name, with a sound and a bad value
    ∷ ("05 00 01 00 00 00 79", bad 0 empty_name 0)
    ∷ ("05 00 01 00 00 00 00", bad 0 empty_name 0)
    ∷ ("04 00 01 00 00 00", bad 0 empty_name 0)
    -- :A is left to the section's rules, its value is not
    ∷ ("07 00 01 00 02 00 3A 41 79", none)
    ∷ ("07 00 01 00 02 00 3A 41 7F", bad 0 bad_in_value 8)
    -- a name before its value
    ∷ ("06 00 01 00 01 00 58 00", bad 0 capital 6)
    -- values: 00, 7F and 0A; a blank first, last and alone; the last of three; the lower of two
    ∷ ("06 00 01 00 01 00 78 00", bad 0 bad_in_value 7)
    ∷ ("07 00 01 00 01 00 78 79 7F", bad 0 bad_in_value 8)
    ∷ ("08 00 01 00 01 00 78 79 0A 79", bad 0 bad_in_value 8)
    ∷ ("07 00 01 00 01 00 78 20 79", bad 0 blank_at_end 7)
    ∷ ("07 00 01 00 01 00 78 79 09", bad 0 blank_at_end 8)
    ∷ ("06 00 01 00 01 00 78 20", bad 0 blank_at_end 7)
    ∷ ("09 00 01 00 01 00 78 62 20 20 09", bad 0 blank_at_end 10)
    ∷ ("07 00 01 00 01 00 78 20 00", bad 0 blank_at_end 7)
    ∷ ("08 00 01 00 01 00 78 79 00 20", bad 0 bad_in_value 8)
    ∷ ("08 00 01 00 01 00 78 79 20 79", none)
    -- in a later line: its number, and the place in the whole block
    ∷ ("06 00 01 00 01 00 78 79 06 00 01 00 01 00 58 79", bad 1 capital 14)
    ∷ ("06 00 01 00 01 00 78 79 05 00 01 00 00 00 79", bad 1 empty_name 8)
    ∷ ("06 00 01 00 01 00 78 00 06 00 01 00 01 00 58 79", bad 0 bad_in_value 7)
    ∷ ("06 00 01 00 01 00 78 79 06 00 01 00 01 00 78 79 07 00 01 00 01 00 78 79 20", bad 2 blank_at_end 24)
    ∷ []

pub bad_bytes : asked rows ≡ map (λ r. r.1) rows
unfolding asked
bad_bytes = refl
