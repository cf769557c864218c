-- The byte classes as the code asks for them, and the checks of a name's and a value's bytes. Assumes nothing.
use Rattle.std.specs.Prelude.{ℕ, List, Bool, not, ◌||◌, ◌&&◌, eqb}
use Rattle.rules.specs.Text.{all}
use Rattle.rules.specs.Classes.{is_name, is_token, is_value, is_digit, is_blank}
use Rattle.rules.specs.Section.{is_empty, begins, ends}
use Rattle.fields.specs.declared.Class.{Class}
use Rattle.fields.specs.declared.Class.TheVariants.{Name, Token, Value, Digit}

abbrev pub is_in : Class → ℕ → Bool
is_in Name = is_name
is_in Token = is_token
is_in Value = is_value
is_in Digit = is_digit

-- the class's bit in the table
abbrev pub mask_of : Class → ℕ
mask_of Name = 1
mask_of Token = 2
mask_of Value = 4
mask_of Digit = 8

abbrev pub outside : Class → ℕ → Bool
outside c b = not (is_in c b)

-- a field line's checks, on the bytes of its name and of its value
unfoldable pub bad_name_bytes : List ℕ → Bool
bad_name_bytes name = not (begins (eqb 0x3a) name) && (is_empty name || not (all is_name name))

unfoldable pub bad_value_bytes : List ℕ → Bool
bad_value_bytes value = not (all is_value value) || begins is_blank value || ends is_blank value
