-- WHAT THE EXPORTED CALLS PROMISE, a name for each: this is what there is to believe of them. The connection's record c and the host's row are lent, and c'
-- and rows' are what is left of them; a call that writes is lent a room. No call asks anything of its host. Assumes nothing.
use Rattle.std.specs.Prelude.{◌≡◌, ℕ, List, [], map, length, set}
use Rattle.rules.specs.Writer.{Write, write_header, write_integer_frame, write_opening}
use Rattle.varint.specs.Write.{wrote_of, left_in}
use Rattle.record.specs.declared.Record.{Record}
use Rattle.connection.specs.declared.Call.{Call}
use Rattle.connection.specs.declared.Own.{Own}
use Rattle.connection.specs.declared.Connection.{Connection}
use Rattle.connection.specs.declared.Report.{Report}
use Rattle.connection.specs.declared.Found.{Found}
use Rattle.connection.specs.declared.Turn.{Turn}
use Rattle.connection.specs.declared.Gone.{Gone}
use Rattle.connection.specs.declared.Written.{Written}
use Rattle.connection.specs.Whose.{FoundIn}
use Rattle.connection.specs.Halves.{with_doors}
use Rattle.connection.specs.Turned.{Turned, begun_of, swept_of, GoesAway}
pub use Rattle.connection.specs.Turned.{written_of}

-- ---- `eistulko_start`: the connection is begun, and every record swept

pub record Started (c : Connection) (rows : List Record) (c' : Connection) (rows' : List Record) (number : ℕ) : Type 0 where
  pub conn_left : c' ≡ (begun_of c (length rows)).conn
  pub rows_left : rows' ≡ map (swept_of (length rows)) rows
  pub answered : number ≡ (begun_of c (length rows)).number

-- ---- a call on one stream: one record is found, the core turns it, and it is stored back at its place

pub record Stepped (c : Connection) (rows : List Record) (call : Call) (id allow : ℕ) (piece : List ℕ) (c' : Connection) (rows' : List Record) (r : Report) : Type 0 where
  pub found : Found
  pub turn : Turn
  pub is_found : FoundIn call id rows found
  pub turned : Turned c found call id allow piece turn
  pub conn_left : c' ≡ turn.conn
  pub rows_left : rows' ≡ set rows found.at turn.row
  pub answered : r ≡ turn.report

-- which call it is stands here and in no other promise

-- `eistulko_open`
abbrev pub Opened : (c : Connection) (rows : List Record) (id : ℕ) (c' : Connection) (rows' : List Record) (r : Report) → Type 0
Opened c rows id c' rows' r = Stepped c rows Call.Open id 0 [] c' rows' r

-- `eistulko_feed`: a piece of the stream's bytes, and how many frame headers may be read
abbrev pub Fed : (c : Connection) (rows : List Record) (id : ℕ) (piece : List ℕ) (allow : ℕ) (c' : Connection) (rows' : List Record) (r : Report) → Type 0
Fed c rows id piece allow c' rows' r = Stepped c rows (Call.On Own.Feed) id allow piece c' rows' r

-- `eistulko_give`: the section that the decoder made, as a block
abbrev pub Given : (c : Connection) (rows : List Record) (id : ℕ) (block : List ℕ) (c' : Connection) (rows' : List Record) (r : Report) → Type 0
Given c rows id block c' rows' r = Stepped c rows (Call.On Own.Give) id 0 block c' rows' r

-- `eistulko_end`
abbrev pub Ended : (c : Connection) (rows : List Record) (id : ℕ) (c' : Connection) (rows' : List Record) (r : Report) → Type 0
Ended c rows id c' rows' r = Stepped c rows (Call.On Own.End) id 0 [] c' rows' r

-- `eistulko_reset`
abbrev pub Reset : (c : Connection) (rows : List Record) (id : ℕ) (c' : Connection) (rows' : List Record) (r : Report) → Type 0
Reset c rows id c' rows' r = Stepped c rows (Call.On Own.Reset) id 0 [] c' rows' r

-- ---- `eistulko_goaway`: our GOAWAY, sent into the room

pub record SaidGoaway (c : Connection) (id : ℕ) (room : List ℕ) (c' : Connection) (room' : List ℕ) (w : Written) : Type 0 where
  pub gone : Gone
  pub goes : GoesAway c.doors id room gone room'
  pub conn_left : c' ≡ with_doors c gone.doors
  pub answered : w ≡ gone.written

-- ---- the other writes: lent the room alone, the answer and the room that is left are those of a write

pub record WroteInto (w : Write) (room : List ℕ) (r : Written) (room' : List ℕ) : Type 0 where
  pub answered : r ≡ written_of (wrote_of w)
  pub room_left : room' ≡ left_in w room

-- `eistulko_write_header`
abbrev pub WroteHeader : (type len : ℕ) (room : List ℕ) (r : Written) (room' : List ℕ) → Type 0
WroteHeader type len room r room' = WroteInto (write_header (length room) type len) room r room'

-- `eistulko_write_integer_frame`
abbrev pub WroteIntegerFrame : (type value : ℕ) (room : List ℕ) (r : Written) (room' : List ℕ) → Type 0
WroteIntegerFrame type value room r room' = WroteInto (write_integer_frame (length room) type value) room r room'

-- `eistulko_write_opening`: our control stream's first bytes
abbrev pub WroteOpening : (room : List ℕ) (r : Written) (room' : List ℕ) → Type 0
WroteOpening room r room' = WroteInto (write_opening (length room)) room r room'
