-- The writer (document 01, "The writer and the lister", "Calls and the host's memory"). Assumes nothing.
use Rattle.std.specs.Prelude.{ℕ, ◌%◌, List, ◌++◌, Bool, true, false, ◌||◌, not, ltb, eqb, length}
use Rattle.std.proofs.Math.Option.{Option, none, some}
use Rattle.rules.specs.Text.{hex}
use Rattle.rules.specs.Numbers.{ROOM-SHORT, BAD-VALUE}
use Rattle.rules.specs.Integers.{written, largest}

-- A write is refused with a number, or it is these bytes, at the start of the room.
pub data Write : Type 0 where
  refused : (number : ℕ) → Write
  wrote : List ℕ → Write

-- bytes into a room: a value above 2^62-1 comes before a room that is too short
unfoldable pub into : (room : ℕ) → Option (List ℕ) → Write
into room none = refused BAD-VALUE
into room (some bytes) = elim (ltb room (length bytes)) [ true ↦ refused ROOM-SHORT | false ↦ wrote bytes ]

-- one behind the other, if both can be written
unfoldable pub both : Option (List ℕ) → Option (List ℕ) → Option (List ℕ)
both none y = none
both (some x) none = none
both (some x) (some y) = some (x ++ y)

unfoldable pub write_integer : (room value : ℕ) → Write
write_integer room v = into room (written v)

unfoldable pub frame_header_bytes : (type len : ℕ) → Option (List ℕ)
frame_header_bytes type len = both (written type) (written len)

unfoldable pub write_header : (room type len : ℕ) → Write
write_header room type len = into room (frame_header_bytes type len)

-- a frame whose payload is one integer
unfoldable pub integer_frame : (type : ℕ) → Option (List ℕ) → Option (List ℕ)
integer_frame type none = none
integer_frame type (some payload) = both (frame_header_bytes type (length payload)) (some payload)

unfoldable pub write_integer_frame : (room type value : ℕ) → Write
write_integer_frame room type v = into room (integer_frame type (written v))

-- our control stream's opening: its type, then SETTINGS
unfoldable pub opening : List ℕ
opening = hex "00 04 09 01 00 06 80 00 40 00 07 00"

unfoldable pub write_opening : (room : ℕ) → Write
write_opening room = into room (some opening)

-- our GOAWAY takes a multiple of 4 below 2^62, no higher than one already sent
unfoldable pub is_higher : ℕ → Option ℕ → Bool
is_higher id none = false
is_higher id (some sent) = ltb sent id

unfoldable pub bad_goaway : (sent : Option ℕ) (id : ℕ) → Bool
bad_goaway sent id = not (eqb (id % 4) 0) || ltb largest id || is_higher id sent

unfoldable pub write_goaway : (sent : Option ℕ) (room id : ℕ) → Write
write_goaway sent room id = elim (bad_goaway sent id) [ true ↦ refused BAD-VALUE | false ↦ write_integer_frame room 7 id ]
