-- What each call of one request stream answers, and what it leaves, through the rules' own reading. Assumes nothing.
use Rattle.std.specs.Prelude.{◌≡◌, ℕ, ◌-◌, List, [], Bool, true, false}
use Rattle.std.proofs.Math.Option.{Option, none, some}
use Rattle.rules.specs.Events.{NOTHING, CONTENT, SECTION, SECTION-END, WHOLE, FREED}
use Rattle.rules.specs.Block.{Lines, unreadable, readable, lines}
use Rattle.rules.specs.Reading.{Verdict, whole, fault, waits}
use Rattle.rules.specs.Message.{Message}
use Rattle.rules.specs.Request.{document, request}
use Rattle.rules.specs.Numbers.{NOT-OPEN, SECTION-DUE, NO-SECTION, UNREADABLE, ACCEPTED, code_number, named, Leaves, nothing_altered, id_unspent, untouched, record_freed, code_kept, leaves}
use Rattle.meaning.specs.Machine.{State, in_type, in_length, in_payload, due, Outcome, lives, dies, given, finish}
use Rattle.meaning.specs.Feed.{Event, quiet, section_bytes, content_bytes, taken, Feeding, feed}
use Rattle.frames.specs.Answers.{state_of}
use Rattle.frames.specs.Apart.{message}
use Rattle.record.specs.Kinds.{REQUEST}
use Rattle.record.specs.declared.Record.{Record}
use Rattle.record.specs.Row.{request_record, free_record}
use Rattle.record.specs.Sound.{cells_in, own_place, Sound}
use Rattle.record.specs.Body.{content_in}
use Rattle.requests.specs.declared.Reply.{Reply}

-- ---- an open request

-- a record that is sound and a request's
pub record Open (r : Record) : Type 0 where
  pub sound : Sound r
  pub kind : r.kind ≡ REQUEST

-- THE STATE that its numbers say
abbrev pub state_in : Record → State Message
state_in r = state_of (cells_in r) (message (own_place (cells_in r))) []

-- ---- a number, and what it leaves

abbrev pub reply : (number event start len used heads : ℕ) → Record → Reply
reply number event start len used heads r = record { number = number; event = event; start = start; len = len; used = used; heads = heads; row = r }

abbrev pub refused : (number : ℕ) → Record → Reply
refused number r = reply number NOTHING 0 0 0 0 r

-- document 01's last table says which numbers free the record
unfoldable pub frees : Option Leaves → Bool
frees none = false
frees (some nothing_altered) = false
frees (some id_unspent) = false
frees (some untouched) = false
frees (some record_freed) = true
frees (some code_kept) = false

unfoldable pub freed_if : Bool → Record → Record
freed_if true r = free_record
freed_if false r = r

abbrev pub left_by : (number : ℕ) → Record → Record
left_by number r = freed_if (frees (leaves (named number))) r

-- ---- the calls

-- A FEED: no event beside a fault (on a request no payload is kept)
unfoldable pub said_by : Record → (used heads : ℕ) → Event → Outcome Message → Reply
said_by r u h e (dies code) = reply (code_number code) NOTHING 0 0 u h (left_by (code_number code) r)
said_by r u h quiet (lives s) = reply ACCEPTED NOTHING 0 0 u h (request_record r.id s)
said_by r u h (content_bytes len) (lives s) = reply ACCEPTED CONTENT (u - len) len u h (request_record r.id s)
said_by r u h (section_bytes len false) (lives s) = reply ACCEPTED SECTION (u - len) len u h (request_record r.id s)
said_by r u h (section_bytes len true) (lives s) = reply ACCEPTED SECTION-END (u - len) len u h (request_record r.id s)
said_by r u h (taken k payload) (lives s) = reply ACCEPTED NOTHING 0 0 u h (request_record r.id s)

abbrev pub said : Record → Feeding Message → Reply
said r f = said_by r f.used f.heads f.event f.after

unfoldable pub unless_due : State Message → (while_due else : Reply) → Reply
unless_due (in_type g m) x y = y
unless_due (in_length t g m) x y = y
unless_due (in_payload u k left m) x y = y
unless_due (due t m) x y = x

abbrev pub fed_as : Record → (allow : ℕ) → (piece : List ℕ) → State Message → Reply
fed_as r allow piece s = unless_due s (refused SECTION-DUE r) (said r (feed (request document) allow s piece))

-- A SECTION GIVEN
unfoldable pub taken_as : Record → Outcome Message → Reply
taken_as r (dies code) = refused (code_number code) (left_by (code_number code) r)
taken_as r (lives s) = refused ACCEPTED (request_record r.id s)

unfoldable pub read_as : Record → State Message → Lines → Reply
read_as r s (unreadable f) = refused UNREADABLE r
read_as r s (readable block) = taken_as r (given (request document) block s)

abbrev pub given_as : Record → (block : List ℕ) → State Message → Reply
given_as r block s = unless_due s (read_as r s (lines block)) (refused NO-SECTION r)

-- THE END
unfoldable pub ended_by : Record → Verdict → Reply
ended_by r whole = reply ACCEPTED WHOLE 0 0 0 0 free_record
ended_by r (fault code place) = refused (code_number code) (left_by (code_number code) r)
ended_by r (waits place) = refused SECTION-DUE r

abbrev pub ended_as : Record → State Message → Reply
ended_as r s = ended_by r (finish (request document) 0 s)

-- A RESET: freed, whatever the state
abbrev pub reset_as : Record → State Message → Reply
reset_as r s = reply ACCEPTED FREED 0 0 0 0 free_record

-- ---- an answer to any record

-- THE ANSWER: not open, nothing altered, unless the record is an open request; then what the call answers from its state
pub data Answered (r : Record) (want : State Message → Reply) (a : Reply) : Type 0 where
  shut : (Open r → ⊥) → a ≡ refused NOT-OPEN r → Answered r want a
  opened : Open r → a ≡ want (state_in r) → Answered r want a

-- and what is accepted leaves an open request
pub record Keeps (r : Record) (want : State Message → Reply) (a : Reply) : Type 0 where
  pub answers : Answered r want a
  pub stays : a.number ≡ ACCEPTED → Open a.row

-- A FEED OF CONTENT is accepted, and of the record it alters three numbers
pub record Content (r : Record) (allow : ℕ) (piece : List ℕ) (a : Reply) : Type 0 where
  pub accepted : a.number ≡ ACCEPTED
  pub keeps : Keeps r (fed_as r allow piece) a
  pub alters : a.row ≡ content_in r (cells_in a.row)
