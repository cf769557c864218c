-- Byte classes (document 01, "Requests"; RFC 9110 sections 5.5 and 5.6.2). Assumes nothing.
use Rattle.std.specs.Prelude.{ℕ, Bool, ◌||◌, eqb}
use Rattle.rules.specs.Text.{ascii, between, is_one_of}

unfoldable pub is_digit : ℕ → Bool
is_digit b = between 0x30 0x39 b

unfoldable pub is_capital : ℕ → Bool
is_capital b = between 0x41 0x5a b

unfoldable pub is_small : ℕ → Bool
is_small b = between 0x61 0x7a b

-- a token's marks
unfoldable pub is_mark : ℕ → Bool
is_mark b = is_one_of (ascii "!#$%&'*+-.^_`|~") b

-- a token of RFC 9110
unfoldable pub is_token : ℕ → Bool
is_token b = is_digit b || is_capital b || is_small b || is_mark b

-- a name's bytes: those of a token, without capitals
unfoldable pub is_name : ℕ → Bool
is_name b = is_digit b || is_small b || is_mark b

-- a value's bytes: 09, 20 to 7E and 80 to FF
unfoldable pub is_value : ℕ → Bool
is_value b = eqb b 0x09 || between 0x20 0x7e b || between 0x80 0xff b

-- what a value neither begins nor ends with
unfoldable pub is_blank : ℕ → Bool
is_blank b = eqb b 0x20 || eqb b 0x09
