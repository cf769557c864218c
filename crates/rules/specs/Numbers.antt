-- Numbers and what they leave (document 01's last table; RFC 9114 section 8.1), each under its name. A new number is a constructor, its number,
-- and its place in `rows`. Assumes nothing.
use Rattle.std.specs.Prelude.{ℕ, List, [], ◌∷◌, true, false, eqb}
use Rattle.std.proofs.Math.Option.{Option, none, some}

-- ---- names

-- the house's own: the call is refused, and that is all
pub data House : Type 0 where
  not_open : House  -- stream not open
  not_next : House  -- ID is not next, or above 2^62-1
  no_record : House  -- no free record
  section_due : House  -- feed or end while a section is due
  no_section : House  -- section when none is due
  unreadable : House  -- block unreadable
  room_short : House  -- write buffer too short
  bad_value : House  -- write value above 2^62-1, bad GOAWAY ID
  other_row : House  -- row lent with other than 24 records

-- RFC 9114's names, less H3_
pub data StreamFault : Type 0 where
  request_rejected request_cancelled request_incomplete message_error : StreamFault

pub data ConnectionFault : Type 0 where
  stream_creation_error closed_critical_stream frame_unexpected frame_error excessive_load id_error settings_error missing_settings : ConnectionFault

-- the code of a protocol fault
pub data Code : Type 0 where
  of_stream : StreamFault → Code
  of_connection : ConnectionFault → Code

-- What a call answers.
pub data Answer : Type 0 where
  accepted : Answer
  refusal : House → Answer
  fault : Code → Answer
  other : (number : ℕ) → Answer  -- in no row: only a lent record that no call of ours has left can hold it, as its connection's code

-- ---- numbers

-- each number as the code has it, under the same name
abbrev pub ACCEPTED : ℕ
ACCEPTED = 0

abbrev pub NOT-OPEN : ℕ
NOT-OPEN = 1

abbrev pub NOT-NEXT : ℕ
NOT-NEXT = 2

abbrev pub NO-RECORD : ℕ
NO-RECORD = 3

abbrev pub SECTION-DUE : ℕ
SECTION-DUE = 4

abbrev pub NO-SECTION : ℕ
NO-SECTION = 5

abbrev pub UNREADABLE : ℕ
UNREADABLE = 6

abbrev pub ROOM-SHORT : ℕ
ROOM-SHORT = 7

abbrev pub BAD-VALUE : ℕ
BAD-VALUE = 8

abbrev pub OTHER-ROW : ℕ
OTHER-ROW = 9

abbrev pub STREAM-CREATION-ERROR : ℕ
STREAM-CREATION-ERROR = 0x0103

abbrev pub CLOSED-CRITICAL-STREAM : ℕ
CLOSED-CRITICAL-STREAM = 0x0104

abbrev pub FRAME-UNEXPECTED : ℕ
FRAME-UNEXPECTED = 0x0105

abbrev pub FRAME-ERROR : ℕ
FRAME-ERROR = 0x0106

abbrev pub EXCESSIVE-LOAD : ℕ
EXCESSIVE-LOAD = 0x0107

abbrev pub ID-ERROR : ℕ
ID-ERROR = 0x0108

abbrev pub SETTINGS-ERROR : ℕ
SETTINGS-ERROR = 0x0109

abbrev pub MISSING-SETTINGS : ℕ
MISSING-SETTINGS = 0x010a

abbrev pub REQUEST-REJECTED : ℕ
REQUEST-REJECTED = 0x010b

abbrev pub REQUEST-CANCELLED : ℕ
REQUEST-CANCELLED = 0x010c

abbrev pub REQUEST-INCOMPLETE : ℕ
REQUEST-INCOMPLETE = 0x010d

abbrev pub MESSAGE-ERROR : ℕ
MESSAGE-ERROR = 0x010e

abbrev pub house_number : House → ℕ
house_number not_open = NOT-OPEN
house_number not_next = NOT-NEXT
house_number no_record = NO-RECORD
house_number section_due = SECTION-DUE
house_number no_section = NO-SECTION
house_number unreadable = UNREADABLE
house_number room_short = ROOM-SHORT
house_number bad_value = BAD-VALUE
house_number other_row = OTHER-ROW

abbrev pub code_number : Code → ℕ
code_number (of_stream request_rejected) = REQUEST-REJECTED
code_number (of_stream request_cancelled) = REQUEST-CANCELLED
code_number (of_stream request_incomplete) = REQUEST-INCOMPLETE
code_number (of_stream message_error) = MESSAGE-ERROR
code_number (of_connection stream_creation_error) = STREAM-CREATION-ERROR
code_number (of_connection closed_critical_stream) = CLOSED-CRITICAL-STREAM
code_number (of_connection frame_unexpected) = FRAME-UNEXPECTED
code_number (of_connection frame_error) = FRAME-ERROR
code_number (of_connection excessive_load) = EXCESSIVE-LOAD
code_number (of_connection id_error) = ID-ERROR
code_number (of_connection settings_error) = SETTINGS-ERROR
code_number (of_connection missing_settings) = MISSING-SETTINGS

unfoldable pub number_of : Answer → ℕ
number_of accepted = ACCEPTED
number_of (refusal h) = house_number h
number_of (fault c) = code_number c
number_of (other n) = n

-- the table's rows
unfoldable pub rows : List Answer
rows =
    refusal not_open
    ∷ refusal not_next
    ∷ refusal no_record
    ∷ refusal section_due
    ∷ refusal no_section
    ∷ refusal unreadable
    ∷ refusal room_short
    ∷ refusal bad_value
    ∷ refusal other_row
    ∷ fault (of_stream request_rejected)
    ∷ fault (of_stream request_cancelled)
    ∷ fault (of_stream request_incomplete)
    ∷ fault (of_stream message_error)
    ∷ fault (of_connection stream_creation_error)
    ∷ fault (of_connection closed_critical_stream)
    ∷ fault (of_connection frame_unexpected)
    ∷ fault (of_connection frame_error)
    ∷ fault (of_connection excessive_load)
    ∷ fault (of_connection id_error)
    ∷ fault (of_connection settings_error)
    ∷ fault (of_connection missing_settings)
    ∷ []

unfoldable pub named_in : List Answer → (number : ℕ) → Answer
named_in [] n = other n
named_in (a ∷ rest) n = elim (eqb n (number_of a)) [ true ↦ a | false ↦ named_in rest n ]

-- THE VIEW: the answer that a number is
unfoldable pub named : (number : ℕ) → Answer
named n = named_in (accepted ∷ rows) n

-- the code that a number is; of a number in no row of a code, which none of ours is, message_error
unfoldable pub code_in : Answer → Code
code_in accepted = of_stream message_error
code_in (refusal h) = of_stream message_error
code_in (fault c) = c
code_in (other n) = of_stream message_error

unfoldable pub coded : (number : ℕ) → Code
coded n = code_in (named n)

-- ---- how far they reach, and what they leave

pub data Severity : Type 0 where
  house : Severity  -- the call is refused, and that is all
  stream : Severity  -- a stream fault
  connection : Severity  -- a connection fault

unfoldable pub severity : Answer → Option Severity
severity accepted = none
severity (refusal h) = some house
severity (fault (of_stream f)) = some stream
severity (fault (of_connection f)) = some connection
severity (other n) = none

pub data Leaves : Type 0 where
  nothing_altered : Leaves
  id_unspent : Leaves  -- nothing altered: the ID may be opened later
  untouched : Leaves  -- buffer and records
  record_freed : Leaves  -- its record is free; a barred ID is spent
  code_kept : Leaves  -- the code is kept, all else is as before

unfoldable pub house_leaves : House → Leaves
house_leaves not_open = nothing_altered
house_leaves not_next = nothing_altered
house_leaves no_record = id_unspent
house_leaves section_due = nothing_altered
house_leaves no_section = nothing_altered
house_leaves unreadable = nothing_altered
house_leaves room_short = untouched
house_leaves bad_value = nothing_altered
house_leaves other_row = nothing_altered

-- of an answer that is no refusal of the table, nothing
unfoldable pub leaves : Answer → Option Leaves
leaves accepted = none
leaves (refusal h) = some (house_leaves h)
leaves (fault (of_stream f)) = some record_freed
leaves (fault (of_connection f)) = some code_kept
leaves (other n) = none
