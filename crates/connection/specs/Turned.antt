-- What each call makes of a connection and the record that was found (document 01, "Calls and the host's memory"), in document 01's order.
-- Assumes nothing.
use Rattle.std.specs.Prelude.{◌≡◌, ℕ, zero, suc, ◌%◌, ◌<◌, List, true, false, ◌⊎◌, eqb, ltb, Result, Ok, Err}
use Rattle.rules.specs.Numbers.{NOT-OPEN, OTHER-ROW, house_number}
use Rattle.rules.specs.Named.{house_of}
use Rattle.rules.specs.declared.codes.House.{House}
use Rattle.rules.specs.declared.codes.House.TheVariants.{OtherRow}
use Rattle.rules.specs.Message.{Message, opening}
use Rattle.meaning.specs.Machine.{State, between, fresh}
use Rattle.meaning.specs.OneWayFeed.{OneState, in_stream_type}
use Rattle.record.specs.declared.Record.{Record}
use Rattle.record.specs.Row.{request_record, one_way_record, free_record}
use Rattle.requests.specs.declared.Reply.{Reply}
use Rattle.requests.specs.Reply.{Open, state_in, fed_as, given_as, ended_as, reset_as, Answered}
use Rattle.connection.specs.declared.doors.Doors.{Doors}
use Rattle.connection.specs.declared.doors.Opening.{Opening}
use Rattle.connection.specs.Openings.{fresh_doors, opened_of}
use Rattle.connection.specs.Goaway.{Goaway, Sends}
use Rattle.oneway.specs.declared.calls.Side.{Side}
use Rattle.oneway.specs.declared.calls.Heard.{Heard}
use Rattle.oneway.specs.Mirror.{fresh_side}
use Rattle.oneway.specs.Heard.{Heeds, state_here, feeding, fed_here, Stays, given_here, closed_here, HeardAs}
use Rattle.connection.specs.declared.Call.{Call}
use Rattle.connection.specs.declared.Own.{Own}
use Rattle.connection.specs.declared.Connection.{Connection}
use Rattle.connection.specs.declared.Report.{Report}
use Rattle.connection.specs.declared.Found.{Found}
use Rattle.connection.specs.declared.Near.{Near}
use Rattle.connection.specs.declared.Turn.{Turn}
use Rattle.connection.specs.declared.Written.{Written}
use Rattle.connection.specs.declared.Gone.{Gone}
use Rattle.connection.specs.Whose.{Vacant}
use Rattle.connection.specs.Halves.{stream_id, both, side_in}
use Rattle.connection.specs.Faults.{code_in}

abbrev pub fresh_connection : Connection
fresh_connection = both fresh_doors fresh_side

-- ---- answers

abbrev pub told : (number event start len used heads value : ℕ) → Report
told n e s l u h v = record { number = n; event = e; start = s; len = l; used = u; heads = h; value = v }

abbrev pub numbered : (number : ℕ) → Report
numbered n = told n 0 0 0 0 0 0

abbrev pub turn : Connection → Record → Report → Turn
turn c r p = record { conn = c; row = r; report = p }

-- what leaves the side as it is, beside any
abbrev pub near : Doors → Record → Report → Near
near d r p = record { doors = d; row = r; report = p }

abbrev pub beside : Side → Near → Turn
beside s n = turn (both n.doors s) n.row n.report

-- nothing altered
abbrev pub stays : (number : ℕ) → Doors → Found → Near
stays n d f = near d f.row (numbered n)

abbrev pub unaltered : (number : ℕ) → Connection → Found → Turn
unaltered n c f = turn c f.row (numbered n)

-- ---- an opening

-- the record that a stream begins with
unfoldable pub first_as : (rest id : ℕ) → Record
first_as zero id = request_record id (between opening)
first_as (suc rest) id = one_way_record id (in_stream_type fresh)

abbrev pub first_record : (id : ℕ) → Record
first_record id = first_as (id % 4) id

-- an opening that is accepted takes the record, any other leaves it
unfoldable pub taken_by : (number id : ℕ) → Record → Record
taken_by zero id r = first_record id
taken_by (suc n) id r = r

-- how many free records a search for one has found
unfoldable pub free_at : (at : ℕ) → ℕ
free_at at = elim (ltb at 24) [ true ↦ 1 | false ↦ 0 ]

abbrev pub lets_in : Found → (id : ℕ) → Opening → Near
lets_in f id o = near o.doors (taken_by o.number id f.row) (numbered o.number)

abbrev pub let_in : Connection → Found → (id : ℕ) → Opening → Turn
let_in c f id o = beside c.side (lets_in f id o)

abbrev pub opens_at : Doors → Found → (id : ℕ) → Near
opens_at d f id = lets_in f id (opened_of d id (free_at f.at))

abbrev pub opened_at : Connection → Found → (id : ℕ) → Turn
opened_at c f id = beside c.side (opens_at c.doors f id)

-- ---- a call on an open stream

unfoldable pub by_own : {A : Type 0} → Own → (fed given ended reset : A) → A
by_own Own.Feed f g e r = f
by_own Own.Give f g e r = g
by_own Own.End f g e r = e
by_own Own.Reset f g e r = r

-- a request's answer; of the connection it alters the code alone
abbrev pub request_as : Own → (allow : ℕ) → (piece : List ℕ) → Record → State Message → Reply
request_as own allow piece r s = by_own own (fed_as r allow piece s) (given_as r piece s) (ended_as r s) (reset_as r s)

-- and what it leaves, if it is accepted, is an open request or a free record
pub record Asks (r : Record) (own : Own) (allow : ℕ) (piece : List ℕ) (a : Reply) : Type 0 where
  pub answers : Answered r (request_as own allow piece r) a
  pub stays : a.number ≡ 0 → Open a.row ⊎ Vacant a.row

abbrev pub request_report : Reply → Report
request_report a = told a.number a.event a.start a.len a.used a.heads 0

abbrev pub replies : Doors → Reply → Near
replies d a = near (code_in d a.number) a.row (request_report a)

abbrev pub replied : Connection → Reply → Turn
replied c a = beside c.side (replies c.doors a)

-- a one-way stream's answer; it alters its side of the connection, and the code
abbrev pub one_way_as : Own → (allow : ℕ) → (piece : List ℕ) → Record → Side → OneState → Heard
one_way_as own allow piece r d s = by_own own (fed_here r d allow piece s) (given_here r d s) (closed_here r d s) (closed_here r d s)

-- and what a feed leaves, if it is accepted, is an open stream in the state after
abbrev pub StaysOn : Own → (allow : ℕ) → (piece : List ℕ) → Record → Side → Heard → Type 0
StaysOn own allow piece r d a = own ≡ Own.Feed → Stays a.row a.side (feeding d allow piece (state_here r d))

pub record Hears (r : Record) (d : Side) (own : Own) (allow : ℕ) (piece : List ℕ) (a : Heard) : Type 0 where
  pub answers : HeardAs r d (one_way_as own allow piece r d) a
  pub stays : Heeds r → StaysOn own allow piece r d a

abbrev pub one_way_report : Heard → Report
one_way_report a = told a.number a.event a.start a.len a.used a.heads a.value

abbrev pub overhears : Doors → Heard → Turn
overhears d a = turn (both (code_in d a.number) a.side) a.row (one_way_report a)

abbrev pub overheard : Connection → Heard → Turn
overheard c a = overhears c.doors a

-- ---- EVERY WAY A CALL CAN GO

-- neither 9 nor a dead connection
pub record Alive (d : Doors) (f : Found) : Type 0 where
  pub long : f.len ≡ 24
  pub alive : d.code ≡ 0

pub data Turned (c : Connection) (f : Found) (call : Call) (id allow : ℕ) (piece : List ℕ) (t : Turn) : Type 0 where
  -- 9
  other_row : (f.len ≡ 24 → ⊥) → t ≡ unaltered OTHER-ROW c f → Turned c f call id allow piece t
  -- the code of a dead connection
  dead : f.len ≡ 24 → (c.doors.code ≡ 0 → ⊥) → t ≡ unaltered c.doors.code c f → Turned c f call id allow piece t
  -- an opening: 2; 0x010b; 3; accepted
  opens : Alive c.doors f → call ≡ Call.Open → t ≡ opened_at c f id → Turned c f call id allow piece t
  -- 1
  not_open : {own : Own} → Alive c.doors f → call ≡ Call.On own → (f.at < 24 → Open f.row ⊎ Heeds f.row → ⊥) → t ≡ unaltered NOT-OPEN c f → Turned c f call id allow piece t
  -- 4 or 5; 6; protocol
  request : {own : Own} → Alive c.doors f → call ≡ Call.On own → f.at < 24 → Open f.row → t ≡ replied c (request_as own allow piece f.row (state_in f.row))
      → (t.report.number ≡ 0 → Open t.row ⊎ Vacant t.row) → Turned c f call id allow piece t
  -- 5; protocol
  one_way : {own : Own} → Alive c.doors f → call ≡ Call.On own → f.at < 24 → Heeds f.row → t ≡ overheard c (one_way_as own allow piece f.row (side_in c) (state_here f.row (side_in c)))
      → StaysOn own allow piece f.row (side_in c) (one_way_as own allow piece f.row (side_in c) (state_here f.row (side_in c))) → Turned c f call id allow piece t

-- ---- start

-- a fresh connection; 9 on another row
unfoldable pub started_of : (len : ℕ) → Result Connection House
started_of len = elim (eqb len 24) [ true ↦ Ok fresh_connection | false ↦ Err OtherRow ]

-- what it answers, and what it leaves: a refusal leaves the connection that it was lent
pub record Begun : Type 0 where
  pub number : ℕ
  pub conn : Connection

abbrev pub begun_as : Connection → Result Connection House → Begun
begun_as c (Ok d) = record { number = 0; conn = d }
begun_as c (Err h) = record { number = house_number (house_of h); conn = c }

abbrev pub begun_of : Connection → (len : ℕ) → Begun
begun_of c len = begun_as c (started_of len)

-- what start frees: every record
abbrev pub vacated : Record → Record
vacated r = free_record

unfoldable pub swept_of : (len : ℕ) → Record → Record
swept_of len r = elim (eqb len 24) [ true ↦ vacated r | false ↦ r ]

-- ---- our GOAWAY

-- the answer as a host reads it: a refusal's number, or 0 and how many bytes are written
abbrev pub written_of : Result ℕ ℕ → Written
written_of (Err number) = record { number = number; count = 0 }
written_of (Ok n) = record { number = 0; count = n }

abbrev pub gone_by : Goaway → Gone
gone_by g = record { doors = g.doors; written = record { number = g.number; count = g.count } }

pub record GoesAway (d : Doors) (id : ℕ) (before : List ℕ) (r : Gone) (after : List ℕ) : Type 0 where
  pub sent : Goaway
  pub sends : Sends d (stream_id id) before sent after
  pub is : r ≡ gone_by sent
