-- What the promises ask at inputs where a wrong program shows: each of the public tests is an equation with the function on the left, and a program
-- that does what the comment says answers otherwise there. Assumes nothing.
use Rattle.std.specs.Prelude.{◌≡◌, refl, Bool, true, false, List, [], ◌∷◌, map, eqb}
use Rattle.rules.specs.Text.{any, all, same, between, is_one_of, ascii}
use Rattle.rules.specs.Classes.{is_name, is_token, is_value, is_digit, is_blank, is_small, is_capital, is_mark}
use Rattle.rules.specs.Block.{lines, lines_from}
use Rattle.rules.specs.Section.{begins, ends, is_empty}
use Rattle.fields.specs.Bytes.{bad_name_bytes, bad_value_bytes}
use Rattle.fields.specs.Walk.{is_readable}

pub record Row : Type 0 where
  pub asked : Bool
  pub says : Bool

abbrev row : (asked says : Bool) → Row
row a s = record { asked = a; says = s }

unfoldable pub rows : List Row
rows =
    row (any (eqb 0x40) (0x61 ∷ 0x40 ∷ [])) true  -- looks at the first byte only
    ∷ row (any (eqb 0x40) []) false  -- finds a byte in nothing
    ∷ row (all is_name (0x61 ∷ 0x41 ∷ [])) false  -- looks at the first byte only
    ∷ row (all is_name []) true  -- asks for a byte
    ∷ row (begins (is_blank) (0x61 ∷ 0x20 ∷ [])) false  -- looks at the last byte, or at any
    ∷ row (begins (is_blank) []) false  -- says so of nothing
    ∷ row (ends (is_blank) (0x20 ∷ 0x61 ∷ [])) false  -- looks at the first byte, or at any
    ∷ row (ends (is_blank) (0x61 ∷ 0x20 ∷ [])) true  -- wants every byte so
    ∷ row (same (0x61 ∷ []) (0x61 ∷ 0x62 ∷ [])) false  -- compares up to the shorter one's end
    ∷ row (same (0x61 ∷ []) (0x41 ∷ [])) false  -- folds case
    ∷ row (is_token 0x41) true  -- takes a token for a name
    ∷ row (is_token 0x3a) false  -- takes a colon for a token's byte
    ∷ row (is_digit 0x39) true  -- ends before 9
    ∷ row (is_digit 0x3a) false  -- goes on behind 9
    ∷ row (is_blank 0x09) true  -- knows the space alone
    ∷ row (is_blank 0x0a) false  -- takes a line feed for a blank
    ∷ row (bad_name_bytes []) true  -- takes the empty name
    ∷ row (bad_name_bytes (0x3a ∷ 0x41 ∷ [])) false  -- judges a pseudo-field here, where only its name's own rule does
    ∷ row (bad_value_bytes []) false  -- refuses the empty value
    ∷ row (bad_value_bytes (0x20 ∷ 0x61 ∷ [])) true  -- looks at the end only
    ∷ row (is_readable (lines [])) true  -- refuses the empty block
    ∷ row (is_readable (lines (0x00 ∷ []))) false  -- passes over a stray byte
    ∷ []

pub refuted : map (λ (r : Row). r.asked) rows ≡ map (λ (r : Row). r.says) rows
unfolding rows begins ends bad_name_bytes bad_value_bytes lines any all same is_name is_blank is_token is_digit is_empty is_value lines_from between is_small is_capital is_mark is_one_of ascii
refuted = refl
