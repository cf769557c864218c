-- Which records are sound, and what reading and writing answer. Assumes nothing.
use Rattle.std.specs.Prelude.{◌≡◌, ℕ, ◌%◌, ◌≤◌, ◌<◌, ◌^◌, List, [], Bool, true, false, Option, Some, None}
use Rattle.frames.specs.Modes.{IN-TYPE, IN-CONTENT, TRAILERS-DUE, IN-SETTINGS, OPENING, TRAILED, UNSET, SET}
use Rattle.frames.specs.declared.Cells.{Cells}
use Rattle.frames.specs.Both.{Place}
use Rattle.frames.specs.Uses.{place_of}
use Rattle.frames.specs.Answers.{state_of, StandsIn, Sane}
use Rattle.record.specs.Kinds.{REQUEST, UNTYPED, CONTROL, ENCODER, SKIPPED}
use Rattle.record.specs.declared.Record.{Record}
use Rattle.record.specs.declared.Stream.{Stream}
use Rattle.record.specs.declared.Reading.{Reading}
use Rattle.record.specs.declared.Reading.TheVariants as reading
use Rattle.record.specs.Row.{cells_for, record_from, free_record}

-- a test that says whether this holds
pub record Decides (holds : Type 0) (r : Bool) : Type 0 where
  pub yes : r ≡ true → holds
  pub no : r ≡ false → holds → ⊥

-- a record's numbers as cells
abbrev pub cells_in : Record → Cells
cells_in r = record {
  mode = r.mode;
  acc = r.acc;
  due = r.due;
  ftype = r.ftype;
  phase = r.phase;
  has = r.has;
  stated = r.stated;
  sum = r.sum;
}

-- the cells of a record of which this holds; of another none
pub data CellsIf (holds : Type 0) (r : Record) (c : Option Cells) : Type 0 where
  is_so : holds → c ≡ Some (cells_in r) → CellsIf holds r c
  is_not : (holds → ⊥) → c ≡ None → CellsIf holds r c

-- ---- what numbers an open stream has

-- A one-way stream before its type is whole has the type's own integer, in a place that is not used; one of QPACK, or that is skipped, nothing but its ID.
pub record Shaped (kind id : ℕ) (c : Cells) : Type 0 where
  pub opened : REQUEST ≤ kind
  pub known : kind ≤ SKIPPED
  pub ids : id < 2 ^ 62
  pub request_id : kind ≡ REQUEST → id % 4 ≡ 0
  pub one_way_id : UNTYPED ≤ kind → id % 4 ≡ 2
  pub phases : c.phase ≤ SET
  pub request_phase : kind ≡ REQUEST → c.phase ≤ TRAILED
  pub request_mode : kind ≡ REQUEST → c.mode ≤ TRAILERS-DUE
  pub control_phase : kind ≡ CONTROL → UNSET ≤ c.phase
  pub control_mode : kind ≡ CONTROL → IN-CONTENT ≤ c.mode → IN-SETTINGS ≤ c.mode
  pub bare_phase : UNTYPED ≤ kind → (kind ≡ CONTROL → ⊥) → c.phase ≡ OPENING
  pub bare_mode : UNTYPED ≤ kind → (kind ≡ CONTROL → ⊥) → c.mode ≡ IN-TYPE
  pub bare : ENCODER ≤ kind → c.due ≡ 0

pub record Fit (kind id : ℕ) (c : Cells) : Type 0 where
  pub sane : Sane c
  pub shaped : Shaped kind id c

-- ---- a record

-- the place that the numbers say
abbrev pub own_place : Cells → Place
own_place c = place_of c.phase c.has c.stated c.sum

-- the cells of the state that these cells mean: of cells that mean one state, the one that says nothing else
abbrev pub tidied : Cells → Cells
tidied c = cells_for (state_of c (own_place c) [])

-- SOUND: the numbers are some open stream's, and this is the one record of the state that they mean
pub record Sound (r : Record) : Type 0 where
  pub fit : Fit r.kind r.id (cells_in r)
  pub own : r ≡ record_from r.kind r.id (state_of (cells_in r) (own_place (cells_in r)) [])

-- ---- the answers

abbrev pub stream : (kind id : ℕ) → Cells → Stream
stream kind id c = record { kind = kind; id = id; cells = c }

-- WHAT IS READ of any record
pub data Read (r : Record) (s : Reading) : Type 0 where
  is_free : r ≡ free_record → s ≡ reading.Free → Read r s
  is_open : Sound r → s ≡ reading.Open (stream r.kind r.id (cells_in r)) → Read r s
  is_unsound : (r ≡ free_record → ⊥) → (Sound r → ⊥) → s ≡ reading.Unsound → Read r s

-- WHAT IS WRITTEN of any stream: the one record of its state, for every state that its cells mean; of what is none, a free record
pub data Written (s : Stream) (r : Record) : Type 0 where
  is_record : Fit s.kind s.id s.cells → ((p : Place) (k : List ℕ) → StandsIn s.cells p → r ≡ record_from s.kind s.id (state_of s.cells p k)) → Written s r
  is_none : (Fit s.kind s.id s.cells → ⊥) → r ≡ free_record → Written s r
