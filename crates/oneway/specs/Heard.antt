-- The calls of one one-way stream over its record and the connection's side, as definitions: what each answers. Assumes nothing.
use Rattle.std.specs.Prelude.{◌≡◌, ℕ, zero, suc, ◌-◌, ◌≤◌, List, take}
use Rattle.rules.specs.Events.{NOTHING, QPACK, SETTINGS, GOAWAY, MAX-PUSH-ID, FREED}
use Rattle.rules.specs.Numbers.{ACCEPTED, NOT-OPEN, NO-SECTION, code_number}
use Rattle.rules.specs.Reading.{Kept as Payload, settings, goaway, max_push_id, cancel_push}
use Rattle.rules.specs.Control.{Control, control}
use Rattle.rules.specs.OneWay.{Qpack, encoder, decoder}
use Rattle.meaning.specs.Feed.{Event, quiet, section_bytes, content_bytes, taken}
use Rattle.meaning.specs.OneWayFeed.{OneState, OneOutcome, lives, dies, OneEvent, of_frames, qpack_bytes, OneFeeding, of_control, feed}
use Rattle.meaning.specs.FeedLaws.{past}
use Rattle.frames.specs.Modes.{IN-SETTINGS}
use Rattle.frames.specs.Parts.{judged_as}
use Rattle.frames.specs.Answers.{kept_at}
use Rattle.record.specs.Kinds.{UNTYPED}
use Rattle.record.specs.declared.Record.{Record}
use Rattle.record.specs.Row.{one_way_record, free_record}
use Rattle.record.specs.Sound.{cells_in, Sound}
use Rattle.oneway.specs.Types.{types_of}
use Rattle.oneway.specs.Stands.{one_state_at}
use Rattle.oneway.specs.Closed.{closes}
use Rattle.control.specs.declared.Kept.{Kept}
use Rattle.control.specs.Rules.{control_of}
use Rattle.oneway.specs.declared.calls.Side.{Side}
use Rattle.oneway.specs.declared.calls.Heard.{Heard}
use Rattle.oneway.specs.Mirror.{kept_in, held_in, side_after}

-- ---- an open one-way stream, and its state

-- sound, of a one-way kind, and what is to come of a kept payload is no more than a connection keeps
pub record Heeds (r : Record) : Type 0 where
  pub sound : Sound r
  pub kind : UNTYPED ≤ r.kind
  pub room : IN-SETTINGS ≤ r.mode → r.acc ≤ 256

abbrev pub place_here : Record → Side → Control
place_here r d = control_of (kept_in r.phase d.kept)

abbrev pub sofar_here : Record → Side → List ℕ
sofar_here r d = take (held_in r.mode r.acc d.held) d.bytes

abbrev pub state_here : Record → Side → OneState
state_here r d = one_state_at r.kind (cells_in r) (place_here r d) (sofar_here r d)

-- ---- answers

abbrev pub heard : (number event start len used heads value : ℕ) → Record → Side → Heard
heard n e s l u h v r d = record { number = n; event = e; start = s; len = l; used = u; heads = h; value = v; row = r; side = d }

abbrev pub refused : (number : ℕ) → Record → Side → Heard
refused n r d = heard n NOTHING 0 0 0 0 0 r d

-- CANCEL_PUSH is never judged good
unfoldable pub taken_number : Payload → ℕ
taken_number settings = SETTINGS
taken_number goaway = GOAWAY
taken_number max_push_id = MAX-PUSH-ID
taken_number cancel_push = NOTHING

-- the push ID that is kept then
unfoldable pub value_in : Payload → Kept → ℕ
value_in settings k = 0
value_in goaway k = k.goaway.0
value_in max_push_id k = k.push.0
value_in cancel_push k = 0

-- on a control stream nothing is handed over
unfoldable pub frame_event : Event → ℕ
frame_event quiet = NOTHING
frame_event (section_bytes len last) = NOTHING
frame_event (content_bytes len) = NOTHING
frame_event (taken f payload) = taken_number f

unfoldable pub frame_value : Event → Kept → ℕ
frame_value quiet k = 0
frame_value (section_bytes len last) k = 0
frame_value (content_bytes len) k = 0
frame_value (taken f payload) k = value_in f k

unfoldable pub type_number : Qpack → ℕ
type_number encoder = 2
type_number decoder = 3

-- A PIECE FED: every fault of a one-way stream is the connection's, and leaves record and side
unfoldable pub said_by : Record → Side → (used heads : ℕ) → OneEvent → OneOutcome → Heard
said_by r d u h e (dies code) = heard (code_number code) NOTHING 0 0 u h 0 r d
said_by r d u h (of_frames e) (lives s) = heard ACCEPTED (frame_event e) 0 0 u h (frame_value e (side_after d s).kept) (one_way_record r.id s) (side_after d s)
said_by r d u h (qpack_bytes q len) (lives s) = heard ACCEPTED QPACK (u - len) len u h (type_number q) (one_way_record r.id s) (side_after d s)

abbrev pub said : Record → Side → OneFeeding → Heard
said r d f = said_by r d f.used f.heads f.event f.after

-- a complete payload of a control stream in this phase, judged
abbrev pub judging : (which phase : ℕ) → (payload : List ℕ) → (used heads : ℕ) → Side → OneFeeding
judging which phase payload u h d = of_control (past u h (judged_as control 0 (control_of (kept_in phase d.kept)) (kept_at which) payload))

abbrev pub judged_here : (which phase : ℕ) → (payload : List ℕ) → (used heads : ℕ) → Record → Side → Heard
judged_here which phase payload u h r d = said r d (judging which phase payload u h d)

-- the definition's feed, with the types that have come
abbrev pub feeding : Side → (allow : ℕ) → (piece : List ℕ) → OneState → OneFeeding
feeding d allow piece s = feed (types_of d.control d.encoder d.decoder) allow s piece

abbrev pub fed_here : Record → Side → (allow : ℕ) → (piece : List ℕ) → OneState → Heard
fed_here r d allow piece s = said r d (feeding d allow piece s)

-- what is left is an open stream, in the state after
abbrev pub Stays : Record → Side → OneFeeding → Type 0
Stays r d f = (s : OneState) → f.after ≡ lives s → Heeds r × (state_here r d ≡ s)

-- A SECTION GIVEN: none is ever due
abbrev pub given_here : Record → Side → OneState → Heard
given_here r d s = refused NO-SECTION r d

-- THE END OR A RESET: freed, or the code
unfoldable pub closed_by : Record → Side → (number : ℕ) → Heard
closed_by r d zero = heard ACCEPTED FREED 0 0 0 0 0 free_record d
closed_by r d (suc c) = refused (suc c) r d

abbrev pub closed_here : Record → Side → OneState → Heard
closed_here r d s = closed_by r d (closes s)

-- ---- THE ANSWER TO ANY RECORD: not open, nothing altered, unless it is an open one-way stream; then what the call answers from its state

pub data HeardAs (r : Record) (d : Side) (want : OneState → Heard) (a : Heard) : Type 0 where
  shut : (Heeds r → ⊥) → a ≡ refused NOT-OPEN r d → HeardAs r d want a
  opened : Heeds r → a ≡ want (state_here r d) → HeardAs r d want a

-- and a piece fed
pub record FedAs (r : Record) (d : Side) (allow : ℕ) (piece : List ℕ) (a : Heard) : Type 0 where
  pub answers : HeardAs r d (fed_here r d allow piece) a
  pub stays : Heeds r → Stays a.row a.side (feeding d allow piece (state_here r d))
