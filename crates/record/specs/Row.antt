-- THE ONE RECORD that means a state: numbers alone, and those that would say nothing are 0. Assumes nothing.
use Rattle.std.specs.Prelude.{ℕ, suc}
use Rattle.std.proofs.Math.Option.{Option, none, some}
use Rattle.rules.specs.Message.{Message, opening, body, trailed}
use Rattle.rules.specs.Control.{unset, set}
use Rattle.rules.specs.OneWay.{encoder, decoder}
use Rattle.meaning.specs.Machine.{State, in_type, in_length, in_payload, due, between}
use Rattle.meaning.specs.Hom.{map_state}
use Rattle.meaning.specs.OneWayFeed.{OneState, in_stream_type, in_control, in_qpack, in_skipped}
use Rattle.varint.specs.ByByte.{part_of}
use Rattle.frames.specs.Modes.{IN-TYPE, IN-LENGTH, OPENING, BODY, TRAILED, UNSET, SET, paying, waiting, mode_number}
use Rattle.frames.specs.declared.Cells.{Cells}
use Rattle.frames.specs.Both.{Place, of_request, of_control}
use Rattle.record.specs.Kinds.{FREE, REQUEST, UNTYPED, CONTROL, ENCODER, DECODER, SKIPPED}
use Rattle.record.specs.declared.Record.{Record}

-- ---- a place between two frames: its phase, whether a length is stated, the length, the sum of DATA

unfoldable pub phase_of : Place → ℕ
phase_of (of_request opening) = OPENING
phase_of (of_request (body stated sum)) = BODY
phase_of (of_request (trailed stated sum)) = TRAILED
phase_of (of_control unset) = UNSET
phase_of (of_control (set s g m)) = SET

unfoldable pub stated_in : Place → Option ℕ
stated_in (of_request opening) = none
stated_in (of_request (body stated sum)) = stated
stated_in (of_request (trailed stated sum)) = stated
stated_in (of_control c) = none

unfoldable pub is_stated : Option ℕ → ℕ
is_stated none = 0
is_stated (some n) = 1

unfoldable pub length_of : Option ℕ → ℕ
length_of none = 0
length_of (some n) = n

unfoldable pub sum_in : Place → ℕ
sum_in (of_request opening) = 0
sum_in (of_request (body stated sum)) = sum
sum_in (of_request (trailed stated sum)) = sum
sum_in (of_control c) = 0

-- ---- a place in a header or payload: a mode, the integer's value so far or the payload's bytes to come, the integer's bytes to come, the type

pub record Numbers : Type 0 where
  pub mode : ℕ
  pub acc : ℕ
  pub due : ℕ
  pub ftype : ℕ

abbrev pub numbers : (mode acc due ftype : ℕ) → Numbers
numbers mode acc d ftype = record { mode = mode; acc = acc; due = d; ftype = ftype }

unfoldable pub numbers_of : {P : Type 0} → State P → Numbers
numbers_of (in_type g p) = numbers IN-TYPE (part_of g).acc (part_of g).due 0
numbers_of (in_length t g p) = numbers IN-LENGTH (part_of g).acc (part_of g).due t
numbers_of (in_payload u k left p) = numbers (mode_number (paying u)) (suc left) 0 0
numbers_of (due t p) = numbers (mode_number (waiting t)) 0 0 0

unfoldable pub place_in : {P : Type 0} → State P → P
place_in (in_type g p) = p
place_in (in_length t g p) = p
place_in (in_payload u k left p) = p
place_in (due t p) = p

-- ---- the record

-- these cells, as they are
abbrev pub record_at : (kind id : ℕ) → Cells → Record
record_at kind id c = record {
  id = id;
  acc = c.acc;
  ftype = c.ftype;
  stated = c.stated;
  sum = c.sum;
  kind = kind;
  mode = c.mode;
  due = c.due;
  phase = c.phase;
  has = c.has;
  owner = 0;
  room = 0;
}

abbrev pub cells_by : Numbers → Place → Cells
cells_by h p = record {
  mode = h.mode;
  acc = h.acc;
  due = h.due;
  ftype = h.ftype;
  phase = phase_of p;
  has = is_stated (stated_in p);
  stated = length_of (stated_in p);
  sum = sum_in p;
}

-- THE CELLS of a state, and ITS RECORD: what is kept of a kept payload, and of a control stream behind SETTINGS, is kept elsewhere
abbrev pub cells_for : State Place → Cells
cells_for s = cells_by (numbers_of s) (place_in s)

abbrev pub record_from : (kind id : ℕ) → State Place → Record
record_from kind id s = record_at kind id (cells_for s)

-- A REQUEST STREAM'S, and A ONE-WAY STREAM'S: one that has no frames, or none yet, leaves the place unused
abbrev pub request_record : (id : ℕ) → State Message → Record
request_record id s = record_from REQUEST id (map_state of_request s)

unfoldable pub one_way_record : (id : ℕ) → OneState → Record
one_way_record id (in_stream_type g) = record_from UNTYPED id (in_type g (of_request opening))
one_way_record id (in_control s) = record_from CONTROL id (map_state of_control s)
one_way_record id (in_qpack encoder) = record_from ENCODER id (between (of_request opening))
one_way_record id (in_qpack decoder) = record_from DECODER id (between (of_request opening))
one_way_record id in_skipped = record_from SKIPPED id (between (of_request opening))

abbrev pub no_cells : Cells
no_cells = record { mode = IN-TYPE; acc = 0; due = 0; ftype = 0; phase = OPENING; has = 0; stated = 0; sum = 0 }

-- A FREE RECORD
abbrev pub free_record : Record
free_record = record_at FREE 0 no_cells
