-- Integers (document 01, "Integers"; RFC 9000 section 16). A list of bytes is a list of numbers below 256 throughout; the definitions say something
-- of every list, and only that is meant. Assumes nothing.
use Rattle.std.specs.Prelude.{ℕ, zero, suc, ◌+◌, ◌-◌, ◌*◌, ◌^◌, ◌/◌, ◌%◌, List, [], ◌∷◌, true, false, leb}
use Rattle.std.proofs.Math.Option.{Option, none, some}

-- ---- reading: any of the sizes

-- An integer, read at an offset: cut short, or its value, the offset behind it, and the bytes from there on.
pub data Int : Type 0 where
  cut : Int
  got : (value next : ℕ) (rest : List ℕ) → Int

-- k more bytes, big-endian, behind the value so far
unfoldable pub more : (k value at : ℕ) → List ℕ → Int
more zero v at bs = got v at bs
more (suc k) v at [] = cut
more (suc k) v at (b ∷ bs) = more k (v * 256 + b) (suc at) bs

-- the top two bits of the first byte give the size, 1, 2, 4 or 8 bytes: so many follow the first
unfoldable pub extra : ℕ → ℕ
extra b = 2 ^ (b / 64) - 1

unfoldable pub integer : (at : ℕ) → List ℕ → Int
integer at [] = cut
integer at (b ∷ bs) = more (extra b) (b % 64) (suc at) bs

-- ---- writing: the shortest

-- RFC 9000's table: the top two bits, the size in bytes, the largest value
pub record Row : Type 0 where
  pub mark : ℕ
  pub size : ℕ
  pub top : ℕ

abbrev pub row : ℕ → ℕ → ℕ → Row
row mark size top = record { mark = mark; size = size; top = top }

unfoldable pub rows : List Row
rows =
    row 0 1 63
    ∷ row 1 2 16_383
    ∷ row 2 4 1_073_741_823
    ∷ row 3 8 4_611_686_018_427_387_903
    ∷ []

-- the k low bytes of v, big-endian
unfoldable pub low : (k v : ℕ) → List ℕ
low zero v = []
low (suc k) v = (v / 256 ^ k % 256) ∷ low k v

-- v in the size of a row
unfoldable pub in_row : Row → ℕ → List ℕ
in_row r v = (r.mark * 64 + v / 256 ^ (r.size - 1)) ∷ low (r.size - 1) v

-- the first row that v fits
unfoldable pub in_first : List Row → ℕ → Option (List ℕ)
in_first [] v = none
in_first (r ∷ rs) v = elim (leb v r.top) [ true ↦ some (in_row r v) | false ↦ in_first rs v ]

-- none above 2^62 - 1
unfoldable pub written : ℕ → Option (List ℕ)
written v = in_first rows v

unfoldable pub largest : ℕ
largest = 4_611_686_018_427_387_903
