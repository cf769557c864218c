-- Small words that the rules are written in: texts as bytes, tests on numbers and lists. Assumes nothing.
use Rattle.std.specs.Prelude.{ℕ, ◌+◌, ◌-◌, ◌*◌, List, [], ◌∷◌, Bool, true, false, ◌||◌, ◌&&◌, leb, eqb}
use Prim.Native.Char.{code}
use Prim.Native.String.{String}
use Rattle.std.proofs.Math.Option.{Option, none, some}

-- a text's bytes; every text here is ASCII
unfoldable pub ascii : String → List ℕ
ascii String.[] = []
ascii (String.◌∷◌ c s) = code c ∷ ascii s

-- lo ≤ b ≤ hi
unfoldable pub between : (lo hi b : ℕ) → Bool
between lo hi b = leb lo b && leb b hi

-- bytes as document 01 writes them: "80 00 40 00"; what is not so written is 256 or more, which is no byte
unfoldable pub nibble : ℕ → ℕ
nibble c = elim (between 0x30 0x39 c) [ true ↦ c - 0x30 | false ↦ elim (between 0x41 0x46 c) [ true ↦ c - 0x37 | false ↦ 0x100 ] ]

unfoldable pub hex_from : Option ℕ → String → List ℕ
hex_from none String.[] = []
hex_from (some high) String.[] = 0x100 ∷ []
hex_from none (String.◌∷◌ c s) = elim (eqb (code c) 0x20) [ true ↦ hex_from none s | false ↦ hex_from (some (nibble (code c))) s ]
hex_from (some high) (String.◌∷◌ c s) = (high * 16 + nibble (code c)) ∷ hex_from none s

unfoldable pub hex : String → List ℕ
hex s = hex_from none s

unfoldable pub is_one_of : List ℕ → ℕ → Bool
is_one_of [] b = false
is_one_of (x ∷ xs) b = eqb b x || is_one_of xs b

-- a table by number; what is not in it is other
unfoldable pub lookup : {A : Type 0} → (table : List (ℕ × A)) (other : A) (key : ℕ) → A
lookup [] other key = other
lookup (row ∷ rows) other key = elim (eqb key row.0) [ true ↦ row.1 | false ↦ lookup rows other key ]

unfoldable pub any : {A : Type 0} → (A → Bool) → List A → Bool
any test [] = false
any test (x ∷ xs) = test x || any test xs

unfoldable pub all : {A : Type 0} → (A → Bool) → List A → Bool
all test [] = true
all test (x ∷ xs) = test x && all test xs

-- the same bytes
unfoldable pub same : List ℕ → List ℕ → Bool
same [] [] = true
same [] (y ∷ ys) = false
same (x ∷ xs) [] = false
same (x ∷ xs) (y ∷ ys) = eqb x y && same xs ys
