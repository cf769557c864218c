-- The lines that `replay` prints, byte by byte. Assumes nothing.
use Rattle.std.specs.Prelude.{Option, Some, None, ℕ, zero, suc, List, [], ◌∷◌, ◌++◌, Bool, true, false, eqb, length}
use Rattle.rules.specs.Events.{CONTENT, SECTION, SECTION-END, QPACK, SETTINGS, GOAWAY, MAX-PUSH-ID, WHOLE, FREED}
use Rattle.record.specs.Kinds.{FREE, REQUEST, UNTYPED, CONTROL, ENCODER, DECODER}
use Rattle.frames.specs.Modes.{HEADER-SECTION-DUE, TRAILERS-DUE}
use Rattle.rules.specs.Text.{ascii}
use Rattle.rules.specs.Integers.{Int, cut, got}
use Rattle.rules.specs.Writer.{Write, refused, wrote, write_integer, write_header, write_integer_frame, write_opening}
use Rattle.varint.specs.Write.{left_in}
use Rattle.listing.specs.Text.{decimal}
use Rattle.script.specs.Words.{hex_word}
use Rattle.script.specs.declared.Writing.{Writing}
use Rattle.script.specs.declared.Writing.TheVariants.{Header, IntegerFrame, Integer, Opening}
use Rattle.record.specs.declared.Record.{Record}
use Rattle.control.specs.declared.Kept.{Kept}
use Rattle.connection.specs.declared.doors.Doors.{Doors}
use Rattle.connection.specs.declared.Connection.{Connection}
use Rattle.connection.specs.declared.Report.{Report}

unfoldable pub pick : Bool → List ℕ → List ℕ → List ℕ
pick true a b = a
pick false a b = b

-- a blank, and a number
unfoldable pub blank : ℕ → List ℕ
blank n = ascii " " ++ decimal n

-- a blank, and a number or `-`
unfoldable pub maybe : (there n : ℕ) → List ℕ
maybe there n = pick (eqb there 0) (ascii " -") (blank n)

-- the same of an Option, and of a flag beside a value
unfoldable pub maybe_text : Option ℕ → List ℕ
maybe_text None = ascii " -"
maybe_text (Some n) = blank n

unfoldable pub flagged : (there n : ℕ) → Option ℕ
flagged zero n = None
flagged (suc there) n = Some n

-- the section size, the QPACK table's capacity and the blocked streams
unfoldable pub settings_text : Kept → List ℕ
settings_text k = pick (eqb k.set 0) (ascii " - 0 0") (maybe k.limited k.size ++ blank k.capacity ++ blank k.blocked)

-- the number, the bytes consumed, the headers finished
unfoldable pub head_text : (number used heads : ℕ) → List ℕ
head_text number used heads = decimal number ++ blank used ++ blank heads ++ ascii " "

-- what the call gave
unfoldable pub event_text : Kept → Report → List ℕ
event_text k r =
    pick (eqb r.event CONTENT) (ascii "content" ++ blank r.start ++ blank r.len)
    (pick (eqb r.event SECTION) (ascii "section" ++ blank r.start ++ blank r.len ++ ascii " 0")
    (pick (eqb r.event SECTION-END) (ascii "section" ++ blank r.start ++ blank r.len ++ ascii " 1")
    (pick (eqb r.event QPACK) (ascii "qpack" ++ blank r.value ++ blank r.start ++ blank r.len)
    (pick (eqb r.event SETTINGS) (ascii "settings" ++ settings_text k)
    (pick (eqb r.event GOAWAY) (ascii "goaway" ++ blank r.value)
    (pick (eqb r.event MAX-PUSH-ID) (ascii "maxpush" ++ blank r.value)
    (pick (eqb r.event WHOLE) (ascii "whole")
    (pick (eqb r.event FREED) (ascii "freed") (ascii "-")))))))))

abbrev pub line_feed : List ℕ
line_feed = 10 ∷ []

-- THE LINE OF A CALL ON A STREAM, with the connection's record as it is left
unfoldable pub report_line : Connection → Report → List ℕ
report_line c r = head_text r.number r.used r.heads ++ event_text c.side.kept r ++ line_feed

-- of a start
unfoldable pub start_line : (number : ℕ) → List ℕ
start_line number = head_text number 0 0 ++ (ascii "-" ++ line_feed)

-- of a write, with the whole buffer
unfoldable pub written_line : (number count : ℕ) (buffer : List ℕ) → List ℕ
written_line number count buffer = head_text number 0 0 ++ ascii "written" ++ blank count ++ ascii " " ++ hex_word buffer ++ line_feed

unfoldable pub write_of : Writing → (a b room : ℕ) → Write
write_of Header a b room = write_header room a b
write_of IntegerFrame a b room = write_integer_frame room a b
write_of Integer a b room = write_integer room a
write_of Opening a b room = write_opening room

unfoldable pub write_line : Write → (before : List ℕ) → List ℕ
write_line (refused number) before = written_line number 0 (left_in (refused number) before)
write_line (wrote bytes) before = written_line 0 (length bytes) (left_in (wrote bytes) before)

-- of an integer read
unfoldable pub value_line : (value size : ℕ) → List ℕ
value_line value size = ascii "0 0 0 value" ++ blank value ++ blank size ++ line_feed

abbrev pub cut_line : List ℕ
cut_line = ascii "0 0 0 cut" ++ line_feed

unfoldable pub read_line : Int → List ℕ
read_line cut = cut_line
read_line (got value next rest) = value_line value next

-- of the state

unfoldable pub kind_text : ℕ → List ℕ
kind_text kind =
    pick (eqb kind REQUEST) (ascii "request")
    (pick (eqb kind UNTYPED) (ascii "untyped") (pick (eqb kind CONTROL) (ascii "control") (pick (eqb kind ENCODER) (ascii "encoder") (pick (eqb kind DECODER) (ascii "decoder") (ascii "skipped")))))

-- a section is due
unfoldable pub due_text : Record → List ℕ
due_text r = pick (eqb r.kind REQUEST) (pick (eqb r.mode HEADER-SECTION-DUE) (ascii "+") (pick (eqb r.mode TRAILERS-DUE) (ascii "+") [])) []

unfoldable pub record_text : ℕ → Record → List ℕ
record_text index r = pick (eqb r.kind FREE) [] (blank index ++ ascii ":" ++ decimal r.id ++ ascii ":" ++ kind_text r.kind ++ due_text r)

unfoldable pub rows_text : ℕ → List Record → List ℕ
rows_text index [] = []
rows_text index (r ∷ rs) = record_text index r ++ rows_text (suc index) rs

unfoldable pub conn_text : Doors → Kept → List ℕ
conn_text d k =
    ascii "0 0 0 state" ++ blank d.code ++ blank d.requests ++ blank d.oneways ++ maybe d.goaways d.goaway.0 ++ maybe k.goaways k.goaway.0 ++ maybe k.pushes k.push.0 ++ settings_text k

unfoldable pub state_line : Connection → List Record → List ℕ
state_line c rows = conn_text c.doors c.side.kept ++ rows_text 0 rows ++ line_feed

abbrev pub bad_line : List ℕ
bad_line = ascii "bad line" ++ line_feed

abbrev pub long_line : List ℕ
long_line = ascii "too long" ++ line_feed
