-- What the promises ask at inputs where a wrong program shows: a program that does what the comment says answers otherwise there. Assumes nothing.
use Rattle.std.specs.Prelude.{◌≡◌, refl, ℕ, ◌^◌, List, [], ◌∷◌, map, option_to_list}
use Rattle.std.proofs.lemmas.List.Edits.{sets}
use Rattle.rules.specs.Integers.{integer, more, extra, written, rows as forms, in_first, in_row, low}
use Rattle.varint.specs.ByByte.{fresh_part}
use Rattle.varint.specs.Whole.{whole_at, end_of, value_of}
use Rattle.varint.specs.Shortest.{bytes_of, length_in, sized}

pub record Row : Type 0 where
  pub asked : List ℕ
  pub says : List ℕ

abbrev row : (asked says : List ℕ) → Row
row a s = record { asked = a; says = s }

unfoldable pub rows : List Row
rows =
    row (fresh_part.due ∷ fresh_part.acc ∷ []) (0 ∷ 0 ∷ [])  -- begins inside an integer; begins with a value
    ∷ row (option_to_list (end_of (whole_at (0x25 ∷ []) 0))) (1 ∷ [])  -- wants a byte behind the integer
    ∷ row (option_to_list (end_of (whole_at (0x40 ∷ []) 0))) []  -- takes a cut integer
    ∷ row (value_of (whole_at (0x40 ∷ 0x25 ∷ []) 0) ∷ []) (0x25 ∷ [])  -- counts the size bits in
    ∷ row (value_of (whole_at (0x25 ∷ 0x26 ∷ []) 1) ∷ []) (0x26 ∷ [])  -- reads at the start
    ∷ row (option_to_list (end_of (whole_at (0x25 ∷ 0x40 ∷ 0x25 ∷ []) 1))) (3 ∷ [])  -- counts from the place, not from the start
    ∷ row (option_to_list (sized 64)) (2 ∷ [])  -- takes 64 for one byte
    ∷ row (option_to_list (sized (2 ^ 62))) []  -- writes above 2^62-1
    ∷ row (sets (9 ∷ 9 ∷ 9 ∷ []) 1 (bytes_of (written 37))) (9 ∷ 0x25 ∷ 9 ∷ [])  -- writes two bytes; writes at the start
    ∷ row (sets (9 ∷ 9 ∷ 9 ∷ []) 0 (bytes_of (written 64))) (0x40 ∷ 0x40 ∷ 9 ∷ [])  -- forgets the size bits
    ∷ []

pub refuted : map (λ (r : Row). r.asked) rows ≡ map (λ (r : Row). r.says) rows
unfolding rows length_in end_of value_of bytes_of written integer in_first more forms extra in_row low
refuted = refl
