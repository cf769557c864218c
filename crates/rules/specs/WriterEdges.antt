-- Edges of Writer: each writer at the largest value and one past it, into a room of the size and one less; 8 before 7.
-- Each list is a claim, computed; what it says was worked out by hand from document 01. Assumes nothing.
use Rattle.std.specs.Prelude.{refl, ℕ, ◌+◌, ◌-◌, ◌^◌, [], ◌∷◌}
use Rattle.std.proofs.Math.Option.{Option, none, some}
use Rattle.rules.specs.Text.{nibble, hex_from, hex}
use Rattle.rules.specs.Integers.{largest}
use Rattle.rules.specs.Section.{size_limit}
use Rattle.rules.specs.Reading.{fault}
use Rattle.rules.specs.Numbers.{number_of, rows, named_in, named, code_in, coded}
use Rattle.rules.specs.Writer.{Write, wrote, refused}
use Rattle.rules.specs.Worked.{writes_header, writes_integer_frame, writes_goaway, writes_opening, written_as, Worked, answer, control, Holds, asks}
use Rattle.rules.specs.ControlEdges.{tell, told}

abbrev header_into : (room type len : ℕ) → Write → Worked
header_into room type len w = asks (writes_header room type len) (written_as w)

abbrev frame_into : (room type value : ℕ) → Write → Worked
frame_into room type value w = asks (writes_integer_frame room type value) (written_as w)

abbrev goaway_into : (sent : Option ℕ) (room id : ℕ) → Write → Worked
goaway_into sent room id w = asks (writes_goaway sent room id) (written_as w)

abbrev opening_into : (room : ℕ) → Write → Worked
opening_into room w = asks (writes_opening room) (written_as w)

pub frames_written : Holds (
    -- a frame header, of any type
    header_into 2 0 0 (wrote (hex "00 00"))
    ∷ header_into 1 0 0 (refused 7)
    ∷ header_into 0 0 0 (refused 7)
    ∷ header_into 9 9 63 (wrote (hex "09 3F"))
    ∷ header_into 3 1 64 (wrote (hex "01 40 40"))
    ∷ header_into 2 1 64 (refused 7)
    ∷ header_into 5 1 16_384 (wrote (hex "01 80 00 40 00"))
    ∷ header_into 4 1 16_384 (refused 7)
    ∷ header_into 5 0xf0700 2 (wrote (hex "80 0F 07 00 02"))
    ∷ header_into 16 largest largest (wrote (hex "FF FF FF FF FF FF FF FF FF FF FF FF FF FF FF FF"))
    ∷ header_into 15 largest largest (refused 7)
    ∷ header_into 16 (largest + 1) 0 (refused 8)
    ∷ header_into 16 0 (largest + 1) (refused 8)
    ∷ header_into 0 (largest + 1) 0 (refused 8)
    ∷ header_into 0 0 (largest + 1) (refused 8)
    -- an integer frame, of any type
    ∷ frame_into 3 7 0 (wrote (hex "07 01 00"))
    ∷ frame_into 2 7 0 (refused 7)
    ∷ frame_into 3 13 63 (wrote (hex "0D 01 3F"))
    ∷ frame_into 4 13 64 (wrote (hex "0D 02 40 40"))
    ∷ frame_into 3 13 64 (refused 7)
    ∷ frame_into 4 3 16_383 (wrote (hex "03 02 7F FF"))
    ∷ frame_into 6 3 16_384 (wrote (hex "03 04 80 00 40 00"))
    ∷ frame_into 5 3 16_384 (refused 7)
    ∷ frame_into 6 33 1_073_741_823 (wrote (hex "21 04 BF FF FF FF"))
    ∷ frame_into 10 33 1_073_741_824 (wrote (hex "21 08 C0 00 00 00 40 00 00 00"))
    ∷ frame_into 9 33 1_073_741_824 (refused 7)
    ∷ frame_into 4 64 5 (wrote (hex "40 40 01 05"))
    ∷ frame_into 17 largest largest (wrote (hex "FF FF FF FF FF FF FF FF 08 FF FF FF FF FF FF FF FF"))
    ∷ frame_into 16 largest largest (refused 7)
    ∷ frame_into 99 7 (largest + 1) (refused 8)
    ∷ frame_into 99 (largest + 1) 0 (refused 8)
    ∷ frame_into 0 7 (largest + 1) (refused 8)
    ∷ frame_into 0 (largest + 1) 0 (refused 8)
    -- our GOAWAY
    ∷ goaway_into none 3 0 (wrote (hex "07 01 00"))
    ∷ goaway_into none 2 0 (refused 7)
    ∷ goaway_into none 3 60 (wrote (hex "07 01 3C"))
    ∷ goaway_into none 4 64 (wrote (hex "07 02 40 40"))
    ∷ goaway_into none 3 64 (refused 7)
    ∷ goaway_into none 10 (largest - 3) (wrote (hex "07 08 FF FF FF FF FF FF FF FC"))
    ∷ goaway_into none 9 (largest - 3) (refused 7)
    ∷ goaway_into none 10 1 (refused 8)
    ∷ goaway_into none 10 2 (refused 8)
    ∷ goaway_into none 10 3 (refused 8)
    ∷ goaway_into none 10 5 (refused 8)
    ∷ goaway_into none 10 largest (refused 8)
    ∷ goaway_into none 10 (largest + 1) (refused 8)
    ∷ goaway_into none 10 (2 ^ 64) (refused 8)
    ∷ goaway_into (some 8) 3 8 (wrote (hex "07 01 08"))
    ∷ goaway_into (some 8) 3 4 (wrote (hex "07 01 04"))
    ∷ goaway_into (some 8) 3 0 (wrote (hex "07 01 00"))
    ∷ goaway_into (some 8) 10 12 (refused 8)
    ∷ goaway_into (some 8) 10 9 (refused 8)
    ∷ goaway_into (some 8) 10 7 (refused 8)
    ∷ goaway_into (some 0) 3 0 (wrote (hex "07 01 00"))
    ∷ goaway_into (some 0) 10 4 (refused 8)
    -- 8 before 7
    ∷ goaway_into (some 8) 0 12 (refused 8)
    ∷ goaway_into (some 8) 2 8 (refused 7)
    ∷ goaway_into none 0 1 (refused 8)
    ∷ goaway_into none 0 (largest + 1) (refused 8)
    -- our control opening, and what a reader makes of it
    ∷ opening_into 12 (wrote (hex "00 04 09 01 00 06 80 00 40 00 07 00"))
    ∷ opening_into 100 (wrote (hex "00 04 09 01 00 06 80 00 40 00 07 00"))
    ∷ opening_into 11 (refused 7)
    ∷ opening_into 0 (refused 7)
    ∷ control "00 04 09 01 00 06 80 00 40 00 07 00" (fault (coded 0x0104) 12)
    ∷ tell "00 04 09 01 00 06 80 00 40 00 07 00" (told (some size_limit) 0 0 ∷ [])
    ∷ []
    )
unfolding answer hex hex_from nibble number_of rows named_in named code_in coded size_limit largest
frames_written = refl
