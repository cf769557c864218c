-- WRONG WRITES: what the promise asks at rooms where a wrong program shows; one that does what the comment says answers otherwise there. By
-- `Once.one_write` no other answer meets it. Assumes nothing.
use Rattle.std.specs.Prelude.{◌≡◌, refl, ℕ, zero, suc, ◌^◌, List, [], ◌∷◌, map, length}
use Rattle.rules.specs.Text.{hex, hex_from, nibble, between}
use Rattle.rules.specs.Integers.{written, rows as forms, in_first, in_row, low}
use Rattle.rules.specs.Writer.{Write, refused, wrote, into, both, frame_header_bytes, write_header, integer_frame, write_integer_frame, opening, write_opening}
use Rattle.varint.specs.Write.{wrote_of, left_in}
use Rattle.calls.specs.Promises.{written_of}

-- the number, the count, and the room that is left
unfoldable pub told : Write → List ℕ → List ℕ
told (refused number) room = (written_of (wrote_of (refused number))).number ∷ (written_of (wrote_of (refused number))).count ∷ left_in (refused number) room
told (wrote bytes) room = (written_of (wrote_of (wrote bytes))).number ∷ (written_of (wrote_of (wrote bytes))).count ∷ left_in (wrote bytes) room

unfoldable pub nines : ℕ → List ℕ
nines zero = []
nines (suc n) = 9 ∷ nines n

abbrev asks : (room : List ℕ) → (ℕ → Write) → List ℕ
asks room w = told (w (length room)) room

pub record Row : Type 0 where
  pub asked : List ℕ
  pub says : List ℕ

abbrev row : (asked says : List ℕ) → Row
row a s = record { asked = a; says = s }

unfoldable pub rows : List Row
rows =
    row (asks (nines 3) (λ n. write_header n 1 2)) (0 ∷ 2 ∷ 1 ∷ 2 ∷ 9 ∷ [])  -- length before type; clears the room behind
    ∷ row (asks (nines 3) (λ n. write_header n 1 64)) (0 ∷ 3 ∷ 1 ∷ 64 ∷ 64 ∷ [])  -- counts two bytes for any header
    ∷ row (asks (nines 2) (λ n. write_header n 1 64)) (7 ∷ 0 ∷ nines 2)  -- writes what it can; counts it
    ∷ row (asks (nines 0) (λ n. write_header n (2 ^ 62) 0)) (8 ∷ 0 ∷ [])  -- 7 before 8; looks at the length alone
    ∷ row (asks (nines 0) (λ n. write_header n 0 (2 ^ 62))) (8 ∷ 0 ∷ [])  -- looks at the type alone
    ∷ row (asks (nines 4) (λ n. write_integer_frame n 7 37)) (0 ∷ 3 ∷ 7 ∷ 1 ∷ 37 ∷ 9 ∷ [])  -- integer before type; no length
    ∷ row (asks (nines 4) (λ n. write_integer_frame n 7 64)) (0 ∷ 4 ∷ 7 ∷ 2 ∷ 64 ∷ 64 ∷ [])  -- a length of 1 for any integer
    ∷ row (asks (nines 2) (λ n. write_integer_frame n 7 37)) (7 ∷ 0 ∷ nines 2)  -- room for the header is enough
    ∷ row (asks (nines 0) (λ n. write_integer_frame n 7 (2 ^ 62))) (8 ∷ 0 ∷ [])  -- 7 before 8
    ∷ row (asks (nines 13) write_opening) (0 ∷ 12 ∷ 0 ∷ 4 ∷ 9 ∷ 1 ∷ 0 ∷ 6 ∷ 128 ∷ 0 ∷ 64 ∷ 0 ∷ 7 ∷ 0 ∷ 9 ∷ [])  -- fills the room; no stream type
    ∷ row (asks (nines 11) write_opening) (7 ∷ 0 ∷ nines 11)  -- eleven bytes are enough
    ∷ []

pub refuted : map (λ (r : Row). r.asked) rows ≡ map (λ (r : Row). r.says) rows
unfolding rows told nines wrote_of left_in into both frame_header_bytes write_header integer_frame write_integer_frame opening write_opening written forms in_first in_row low hex hex_from nibble between
refuted = refl
