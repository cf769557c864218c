-- BELIEVED (docs/PROOFS.md): what a connection's record and the host's row mean as the pair that traces are about; which call a lent call is, and how an answer
-- is reported. Assumes nothing.
use Rattle.std.specs.Prelude.{ℕ, zero, suc, List, map, Bool, true, false}
use Rattle.std.proofs.Math.Option.{Option, none, some}
use Rattle.rules.specs.Numbers.{house_number, ConnectionFault, code_number, coded}
use Rattle.rules.specs.Calls.{Notice, qpack_bytes, settings, client_goaway, max_push_id, Event, quiet, section_bytes, content_bytes, notice, Own, feed, section, end, reset, done, fed, whole, freed, asking, telling, Slot, free, held, Row, Conn, Pair, Call, open', on, Answer, gave, left, house, code, goaway_size}
use Rattle.control.specs.Rules.{control_of}
use Rattle.record.specs.declared.Record.{Record}
use Rattle.requests.specs.Reply.{state_in}
use Rattle.connection.specs.Goaway.{sent_as}
use Rattle.oneway.specs.declared.calls.Side.{Side}
use Rattle.oneway.specs.Heard.{state_here}
use Rattle.connection.specs.declared.Call.{Call as CoreCall}
use Rattle.connection.specs.declared.Own.{Own as CoreOwn}
use Rattle.connection.specs.declared.Connection.{Connection}
use Rattle.connection.specs.declared.Report.{Report}
use Rattle.connection.specs.declared.Written.{Written}
use Rattle.connection.specs.Halves.{side_in}
use Rattle.connection.specs.Turned.{by_own, told, numbered}
use Rattle.demands.specs.Streams.{conn_code, Keeps, streams}

-- ---- the row

-- kind 0 is free, 1 a request, the others one-way; a control stream's payload is kept at the connection
unfoldable pub slot_at : (kind : ℕ) → Side → Record → Slot streams
slot_at zero d r = free
slot_at (suc zero) d r = held r.id (asking (state_in r))
slot_at (suc (suc n)) d r = held r.id (telling (state_here r d))

abbrev pub slot_of : Side → Record → Slot streams
slot_of d r = slot_at r.kind d r

abbrev pub row_of : Side → List Record → Row streams
row_of d rows = map (slot_of d) rows

-- ---- the connection

-- code 0: it is alive
unfoldable pub dead_by : (code : ℕ) → Option ConnectionFault
dead_by zero = none
dead_by (suc n) = some (conn_code (coded (suc n)))

unfoldable pub is_there : ℕ → Bool
is_there zero = false
is_there (suc n) = true

abbrev pub keeps_of : Side → Keeps
keeps_of d = record { control = is_there d.control; encoder = is_there d.encoder; decoder = is_there d.decoder; said = control_of d.kept }

abbrev pub conn_of : Connection → Conn streams
conn_of c = record { dead = dead_by c.doors.code; next_request = c.doors.requests; next_oneway = c.doors.oneways; limit = sent_as c.doors.goaways c.doors.goaway.0; kept = keeps_of (side_in c) }

-- THE PAIR
abbrev pub pair_of : Connection → List Record → Pair streams
pair_of c rows = record { conn = conn_of c; row = row_of (side_in c) rows }

-- ---- the calls

abbrev pub own_of : CoreOwn → (allow : ℕ) → (piece : List ℕ) → Own streams
own_of own allow piece = by_own own (feed allow piece) (section piece) end reset

unfoldable pub call_of : CoreCall → (id allow : ℕ) → (piece : List ℕ) → Call streams
call_of CoreCall.Open id allow piece = open' id
call_of (CoreCall.On own) id allow piece = on id (own_of own allow piece)

-- ---- the answers: events are numbered as docs/DECISIONS N13 has them

-- (a report has no room for the three numbers of settings: event 8 says that they have come, and the host reads them in the connection's record, which
-- holds those of the notice: Runs, settings_kept_lem)
unfoldable pub noticed : (used heads : ℕ) → Notice → Report
noticed u h (qpack_bytes type from len) = told 0 7 from len u h type
noticed u h (settings size capacity blocked) = told 0 8 0 0 u h 0
noticed u h (client_goaway id) = told 0 9 0 0 u h id
noticed u h (max_push_id id) = told 0 10 0 0 u h id

unfoldable pub reported : (used heads : ℕ) → Event → Report
reported u h quiet = told 0 0 0 0 u h 0
reported u h (content_bytes from len) = told 0 1 from len u h 0
reported u h (section_bytes from len false) = told 0 2 from len u h 0
reported u h (section_bytes from len true) = told 0 3 from len u h 0
reported u h (notice n) = noticed u h n

-- a refusal has its number, and of a fault what was used
unfoldable pub report_of : Answer → Report
report_of (gave done) = numbered 0
report_of (gave (fed u h e)) = reported u h e
report_of (left whole) = told 0 11 0 0 0 0 0
report_of (left freed) = told 0 12 0 0 0 0 0
report_of (house n) = numbered (house_number n)
report_of (code k u h) = told (code_number k) 0 0 0 u h 0

-- our GOAWAY: how many bytes are written
unfoldable pub written_of : (id : ℕ) → Answer → Written
written_of id (gave g) = record { number = 0; count = goaway_size id }
written_of id (left l) = record { number = 0; count = 0 }
written_of id (house n) = record { number = house_number n; count = 0 }
written_of id (code k u h) = record { number = code_number k; count = 0 }
