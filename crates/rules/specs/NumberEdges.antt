-- Edges of Numbers: each row, and the numbers beside them that have none.
-- Each list is a claim, computed; what it says was worked out by hand from document 01. Assumes nothing.
use Rattle.std.specs.Prelude.{refl, ℕ, [], ◌∷◌}
use Rattle.std.proofs.Math.Option.{none, some}
use Rattle.rules.specs.Numbers.{Severity, house, stream as a-stream, connection, Leaves, nothing_altered, id_unspent, untouched, record_freed, code_kept}
use Rattle.rules.specs.Worked.{number, row_is, Worked, answer, Holds, asks}

abbrev has_row : ℕ → Severity → Leaves → Worked
has_row n s l = asks (number n) (row_is n (some s) (some l))

abbrev no_row : ℕ → Worked
no_row n = asks (number n) (row_is n none none)

pub number_rows : Holds (
    has_row 1 house nothing_altered
    ∷ has_row 2 house nothing_altered
    ∷ has_row 3 house id_unspent
    ∷ has_row 4 house nothing_altered
    ∷ has_row 5 house nothing_altered
    ∷ has_row 6 house nothing_altered
    ∷ has_row 7 house untouched
    ∷ has_row 8 house nothing_altered
    ∷ has_row 9 house nothing_altered
    ∷ has_row 0x010b a-stream record_freed
    ∷ has_row 0x010c a-stream record_freed
    ∷ has_row 0x010d a-stream record_freed
    ∷ has_row 0x010e a-stream record_freed
    ∷ has_row 0x0103 connection code_kept
    ∷ has_row 0x0104 connection code_kept
    ∷ has_row 0x0105 connection code_kept
    ∷ has_row 0x0106 connection code_kept
    ∷ has_row 0x0107 connection code_kept
    ∷ has_row 0x0108 connection code_kept
    ∷ has_row 0x0109 connection code_kept
    ∷ has_row 0x010a connection code_kept
    ∷ no_row 0
    ∷ no_row 10
    ∷ no_row 0xff
    ∷ no_row 0x0100
    ∷ no_row 0x0101
    ∷ no_row 0x0102
    ∷ no_row 0x010f
    ∷ no_row 0x0110
    ∷ no_row 0x0200
    ∷ []
    )
unfolding answer
number_rows = refl
