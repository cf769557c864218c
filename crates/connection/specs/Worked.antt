-- Calls worked by hand, each at an input where a wrong program shows. Assumes nothing.
use Rattle.std.specs.Prelude.{refl, ℕ, List, [], ◌∷◌}
use Rattle.std.proofs.Common.{arith}
use Rattle.rules.specs.Reading.{header_section}
use Rattle.rules.specs.Message.{Message, opening}
use Rattle.rules.specs.Control.{unset}
use Rattle.rules.specs.OneWay.{encoder}
use Rattle.rules.specs.Numbers.{STREAM-CREATION-ERROR, CLOSED-CRITICAL-STREAM, FRAME-UNEXPECTED, REQUEST-REJECTED, REQUEST-INCOMPLETE}
use Rattle.meaning.specs.Machine.{State, fresh, due, between}
use Rattle.meaning.specs.OneWayFeed.{OneState, in_stream_type, in_control, in_qpack}
use Rattle.record.specs.declared.Record.{Record}
use Rattle.record.specs.Row.{request_record, one_way_record, free_record}
use Rattle.connection.specs.Goaway.{sending_of, write_of}
use Rattle.connection.specs.declared.Call.{Call}
use Rattle.connection.specs.declared.Own.{Own}
use Rattle.connection.specs.declared.Own.TheVariants.{Feed, Give, End, Reset}
use Rattle.connection.specs.declared.Connection.{Connection}
use Rattle.connection.specs.declared.Found.{Found}
use Rattle.connection.specs.declared.Turn.{Turn}
use Rattle.connection.specs.Halves.{stream_id, doors_in, with_doors, side_in, with_side}
use Rattle.connection.specs.Faults.{with_code}
use Rattle.connection.specs.Turned.{fresh_connection, told, numbered, turn, opened_at, request_as, replied, one_way_as, overheard, Turned, other_row, dead, begun_of, swept_of, gone_by}

pub record Row : Type 0 where
  pub asked : Turn
  pub says : Turn

abbrev row : (asked says : Turn) → Row
row a s = record { asked = a; says = s }

-- ---- connections, and what a search found

-- the next IDs; our GOAWAY
abbrev next : (requests oneways : ℕ) → Connection
next r o = with_doors fresh_connection (record { code = 0; requests = r; oneways = o; goaways = 0; goaway = stream_id 0 })

abbrev gone : (requests id : ℕ) → Connection
gone r id = with_doors fresh_connection (record { code = 0; requests = r; oneways = 2; goaways = 1; goaway = stream_id id })

-- the first record is free, or none is
abbrev first : Found
first = record { len = 24; at = 0; row = free_record }

abbrev none_free : Found
none_free = record { len = 24; at = 24; row = free_record }

-- ---- calls

abbrev asks : State Message → Own → (allow : ℕ) → List ℕ → Turn
asks s own allow piece = replied fresh_connection (request_as own allow piece (request_record 0 s) s)

abbrev hears : Connection → OneState → Own → (allow : ℕ) → List ℕ → Turn
hears c s own allow piece = overheard c (one_way_as own allow piece (one_way_record 2 s) (side_in c) s)

abbrev at : State Message → Record
at s = request_record 0 s

abbrev of : OneState → Record
of s = one_way_record 2 s

-- a control stream has come; an encoder stream has
abbrev seen : (control encoder set : ℕ) → Connection
seen c e s = with_side fresh_connection (record { control = c; encoder = e; decoder = 0; kept = record { set = s; limited = 0; size = 0; capacity = 0; blocked = 0; goaways = 0; goaway = record { 0 = 0 }; pushes = 0; push = record { 0 = 0 } }; held = 0; bytes = fresh_connection.side.bytes })

abbrev starts : Connection → (len : ℕ) → Record → Turn
starts c len r = turn (begun_of c len).conn (swept_of len r) (numbered (begun_of c len).number)

abbrev goes : Connection → (id room : ℕ) → Turn
goes c id room =
    let g = gone_by (sending_of (doors_in c) (stream_id id) (write_of c.doors.code (doors_in c) id room)) in turn (with_doors c g.doors) free_record (told g.written.number 0 0 0 g.written.count 0 0)

unfoldable pub rows : List Row
rows =
    row (opened_at fresh_connection first 0) (turn (next 4 2) (at (between opening)) (numbered 0))  -- leaves the ID unspent
    ∷ row (opened_at fresh_connection first 2) (turn (next 0 6) (of (in_stream_type fresh)) (numbered 0))  -- opens every stream as a request
    ∷ row (opened_at fresh_connection first 4) (turn fresh_connection free_record (numbered 2))  -- passes over an ID
    ∷ row (opened_at fresh_connection none_free 0) (turn fresh_connection free_record (numbered 3))  -- spends an ID that has no record
    ∷ row (opened_at (gone 0 0) none_free 0) (turn (gone 4 0) free_record (numbered REQUEST-REJECTED))  -- gives 3 before barred, or leaves a barred ID unspent
    ∷ row (opened_at (gone 0 0) first 2) (turn (with_doors (gone 0 0) (record { code = 0; requests = 0; oneways = 6; goaways = 1; goaway = stream_id 0 })) (of (in_stream_type fresh)) (numbered 0))  -- bars one-way streams
    ∷ row (asks (between opening) Feed 1 (0x00 ∷ 0x00 ∷ [])) (turn (with_code FRAME-UNEXPECTED fresh_connection) (at (between opening)) (told FRAME-UNEXPECTED 0 0 0 2 1 0))  -- loses the code of a fault, or frees the record
    ∷ row (asks (between opening) End 0 []) (turn fresh_connection free_record (numbered REQUEST-INCOMPLETE))  -- keeps the code of a stream fault
    ∷ row (asks (between opening) Give 0 []) (turn fresh_connection (at (between opening)) (numbered 5))  -- swaps 4 and 5
    ∷ row (asks (due header_section opening) Feed 1 (0x00 ∷ [])) (turn fresh_connection (at (due header_section opening)) (numbered 4))  -- reads on while a section is due
    ∷ row (asks (due header_section opening) Reset 0 []) (turn fresh_connection free_record (told 0 12 0 0 0 0 0))  -- gives 4 to a reset
    ∷ row (hears fresh_connection (in_stream_type fresh) Feed 0 (0x00 ∷ [])) (turn (seen 1 0 0) (of (in_control (between unset))) (told 0 0 0 0 1 0 0))  -- forgets that a control stream came
    ∷ row (hears (seen 1 0 0) (in_stream_type fresh) Feed 0 (0x00 ∷ [])) (turn (with_code STREAM-CREATION-ERROR (seen 1 0 0)) (of (in_stream_type fresh)) (told STREAM-CREATION-ERROR 0 0 0 1 0 0))  -- lets a second one in
    ∷ row (hears fresh_connection (in_stream_type fresh) Feed 0 (0x02 ∷ 0x61 ∷ [])) (turn (seen 0 1 0) (of (in_qpack encoder)) (told 0 7 1 1 2 0 2))  -- tells a part without its type
    ∷ row (hears fresh_connection (in_stream_type fresh) Give 0 []) (turn fresh_connection (of (in_stream_type fresh)) (numbered 5))  -- gives 4 on a one-way stream
    ∷ row (hears (seen 1 0 0) (in_control (between unset)) End 0 []) (turn (with_code CLOSED-CRITICAL-STREAM (seen 1 0 0)) (of (in_control (between unset))) (numbered CLOSED-CRITICAL-STREAM))  -- lets a control stream end
    ∷ row (hears fresh_connection (in_stream_type fresh) Reset 0 []) (turn fresh_connection free_record (told 0 12 0 0 0 0 0))  -- finds fault with a stream before its type
    ∷ row (starts (with_code FRAME-UNEXPECTED (next 8 6)) 24 (at (between opening))) (turn fresh_connection free_record (numbered 0))  -- leaves a dead connection dead
    ∷ row (starts (with_code FRAME-UNEXPECTED (next 8 6)) 23 (at (between opening))) (turn (with_code FRAME-UNEXPECTED (next 8 6)) (at (between opening)) (numbered 9))  -- starts on another row
    ∷ row (goes (gone 0 8) 4 3) (turn (gone 0 4) free_record (told 0 0 0 0 3 0 0))  -- does not lower its bar
    ∷ row (goes (gone 0 8) 4 2) (turn (gone 0 8) free_record (numbered 7))  -- keeps as sent what had no room
    ∷ row (goes (gone 0 8) 12 2) (turn (gone 0 8) free_record (numbered 8))  -- gives 7 before 8
    ∷ []

-- 9 before the code of a dead connection; that code before all else
abbrev fallen : Connection
fallen = with_code FRAME-UNEXPECTED fresh_connection

pub nine_first : (call : Call) → Turned fallen (record { len = 23; at = 0; row = free_record }) call 0 0 [] (turn fallen free_record (numbered 9))
nine_first call = other_row (λ e. omega arith) refl

pub dead_next : (call : Call) → Turned fallen first call 0 0 [] (turn fallen free_record (numbered FRAME-UNEXPECTED))
dead_next call = dead refl (λ e. omega arith) refl
