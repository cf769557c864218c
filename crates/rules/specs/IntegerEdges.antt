-- Edges of Integers: each size's first and last value, and RFC 9000's samples; each value into a room of its size, and into one less.
-- Each list is a claim, computed; what it says was worked out by hand from document 01. Assumes nothing.
use Rattle.std.specs.Prelude.{refl, ℕ, ◌+◌, ◌^◌, [], ◌∷◌}
use Prim.Native.String.{String}
use Rattle.rules.specs.Text.{nibble, hex_from, hex}
use Rattle.rules.specs.Integers.{cut, got, largest}
use Rattle.rules.specs.Writer.{Write, wrote, refused}
use Rattle.rules.specs.Worked.{reads, writes, read_as, written_as, Worked, answer, reads_as, writes_as, Holds, asks}

abbrev reads_and_leaves : String → (value next : ℕ) (rest : String) → Worked
reads_and_leaves bytes v next rest = asks (reads (hex bytes)) (read_as (got v next (hex rest)))

abbrev cuts : String → Worked
cuts bytes = asks (reads (hex bytes)) (read_as cut)

pub integers_read : Holds (
    reads_as "C2 19 7C 5E FF 14 E8 8C" 151_288_809_941_952_652
    ∷ reads_as "9D 7F 3E 7D" 494_878_333
    ∷ reads_as "7B BD" 15_293
    ∷ reads_as "25" 37
    ∷ reads_as "40 25" 37
    ∷ reads_as "80 00 00 25" 37
    ∷ reads_as "C0 00 00 00 00 00 00 25" 37
    ∷ reads_as "00" 0
    ∷ reads_as "40 00" 0
    ∷ reads_as "80 00 00 00" 0
    ∷ reads_as "C0 00 00 00 00 00 00 00" 0
    ∷ reads_as "3F" 63
    ∷ reads_as "40 40" 64
    ∷ reads_as "7F FF" 16_383
    ∷ reads_as "80 00 40 00" 16_384
    ∷ reads_as "BF FF FF FF" 1_073_741_823
    ∷ reads_as "C0 00 00 00 40 00 00 00" 1_073_741_824
    ∷ reads_as "FF FF FF FF FF FF FF FF" largest
    ∷ reads_and_leaves "25 40 25" 37 1 "40 25"
    ∷ reads_and_leaves "40 25 FF" 37 2 "FF"
    ∷ reads_and_leaves "80 00 00 25 00 00" 37 4 "00 00"
    ∷ reads_and_leaves "C0 00 00 00 00 00 00 25 01" 37 8 "01"
    ∷ cuts ""
    ∷ cuts "40"
    ∷ cuts "80"
    ∷ cuts "80 00 00"
    ∷ cuts "C0"
    ∷ cuts "C0 00 00 00 00 00 00"
    ∷ []
    )
unfolding answer hex hex_from nibble largest
integers_read = refl

abbrev writes_into : (room value : ℕ) → Write → Worked
writes_into room v w = asks (writes room v) (written_as w)

-- a room of exactly the size, and one less; 8 before 7
pub integers_written : Holds (
    writes_as 151_288_809_941_952_652 "C2 19 7C 5E FF 14 E8 8C"
    ∷ writes_as 494_878_333 "9D 7F 3E 7D"
    ∷ writes_as 15_293 "7B BD"
    ∷ writes_into 1 0 (wrote (hex "00"))
    ∷ writes_into 0 0 (refused 7)
    ∷ writes_into 1 63 (wrote (hex "3F"))
    ∷ writes_into 0 63 (refused 7)
    ∷ writes_into 2 64 (wrote (hex "40 40"))
    ∷ writes_into 1 64 (refused 7)
    ∷ writes_into 2 16_383 (wrote (hex "7F FF"))
    ∷ writes_into 1 16_383 (refused 7)
    ∷ writes_into 4 16_384 (wrote (hex "80 00 40 00"))
    ∷ writes_into 3 16_384 (refused 7)
    ∷ writes_into 4 1_073_741_823 (wrote (hex "BF FF FF FF"))
    ∷ writes_into 3 1_073_741_823 (refused 7)
    ∷ writes_into 8 1_073_741_824 (wrote (hex "C0 00 00 00 40 00 00 00"))
    ∷ writes_into 7 1_073_741_824 (refused 7)
    ∷ writes_into 8 largest (wrote (hex "FF FF FF FF FF FF FF FF"))
    ∷ writes_into 7 largest (refused 7)
    ∷ writes_into 8 (largest + 1) (refused 8)
    ∷ writes_into 0 (largest + 1) (refused 8)
    ∷ writes_into 8 (2 ^ 64) (refused 8)
    ∷ writes_into 100 37 (wrote (hex "25"))
    ∷ []
    )
unfolding answer hex hex_from nibble largest
integers_written = refl
