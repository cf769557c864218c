-- Edges of Classes: each class byte by byte (RFC 9110 section 5.6.2).
-- Each list is a claim, computed; what it says was worked out by hand from document 01. Assumes nothing.
use Rattle.std.specs.Prelude.{refl, ℕ, List, [], ◌∷◌, ◌++◌, Bool}
use Rattle.rules.specs.Text.{ascii, nibble, hex_from, hex}
use Rattle.rules.specs.Classes.{is_digit, is_capital, is_small, is_mark, is_token, is_name, is_value, is_blank}
use Rattle.rules.specs.Worked.{bytes_with, bytes_are, Worked, answer, Holds, asks}

abbrev pub passing : (ℕ → Bool) → (bytes : List ℕ) → Worked
passing test bytes = asks (bytes_with test) (bytes_are bytes)

abbrev pub digits : List ℕ
digits = ascii "0123456789"

abbrev pub names : List ℕ
names = ascii "!#$%&'*+-.0123456789^_`abcdefghijklmnopqrstuvwxyz|~"

abbrev pub tokens : List ℕ
tokens = ascii "!#$%&'*+-.0123456789ABCDEFGHIJKLMNOPQRSTUVWXYZ^_`abcdefghijklmnopqrstuvwxyz|~"

-- 21 to 3F, 41 to 7E, 80 to FF
abbrev pub below_at : List ℕ
below_at = ascii "!\"#$%&'()*+,-./0123456789:;<=>?"

abbrev pub above_at : List ℕ
above_at = ascii "ABCDEFGHIJKLMNOPQRSTUVWXYZ[\\]^_`abcdefghijklmnopqrstuvwxyz{|}~"

abbrev pub high : List ℕ
high =
    hex "80 81 82 83 84 85 86 87 88 89 8A 8B 8C 8D 8E 8F 90 91 92 93 94 95 96 97 98 99 9A 9B 9C 9D 9E 9F"
    ++ hex "A0 A1 A2 A3 A4 A5 A6 A7 A8 A9 AA AB AC AD AE AF B0 B1 B2 B3 B4 B5 B6 B7 B8 B9 BA BB BC BD BE BF"
    ++ hex "C0 C1 C2 C3 C4 C5 C6 C7 C8 C9 CA CB CC CD CE CF D0 D1 D2 D3 D4 D5 D6 D7 D8 D9 DA DB DC DD DE DF"
    ++ hex "E0 E1 E2 E3 E4 E5 E6 E7 E8 E9 EA EB EC ED EE EF F0 F1 F2 F3 F4 F5 F6 F7 F8 F9 FA FB FC FD FE FF"

-- a value of one byte
abbrev pub single_values : List ℕ
single_values = below_at ++ hex "40" ++ above_at ++ high

pub byte_classes : Holds (
    passing is_digit digits
    ∷ passing is_capital (ascii "ABCDEFGHIJKLMNOPQRSTUVWXYZ")
    ∷ passing is_small (ascii "abcdefghijklmnopqrstuvwxyz")
    ∷ passing is_mark (ascii "!#$%&'*+-.^_`|~")
    ∷ passing is_token tokens
    ∷ passing is_name names
    ∷ passing is_value (hex "09 20" ++ single_values)
    ∷ passing is_blank (hex "09 20")
    ∷ []
    )
unfolding answer hex hex_from nibble ascii
byte_classes = refl
