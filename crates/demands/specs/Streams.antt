-- BELIEVED (docs/PROOFS.md): the streams of document 01 (rules, meaning) as the machine that traces are about. Assumes nothing.
use Rattle.std.specs.Prelude.{ℕ, ◌-◌, List, [], ◌∷◌, ◌++◌, Bool, true, false}
use Rattle.std.proofs.Math.Option.{Option, none, some}
use Rattle.rules.specs.Numbers.{StreamFault, message_error, ConnectionFault, closed_critical_stream, missing_settings, Code, of_stream, of_connection}
use Rattle.rules.specs.Block.{Section, Lines, readable, unreadable, lines}
use Rattle.rules.specs.Reading.{Verdict, whole, fault, waits}
use Rattle.rules.specs.Message.{Message, opening}
use Rattle.rules.specs.Request.{document, request}
use Rattle.rules.specs.Control.{Control, unset, Told, told_settings, told_goaway, told_max_push_id, told_nothing, tells}
use Rattle.rules.specs.OneWay.{Qpack, encoder, decoder}
use Rattle.meaning.specs.Machine as M
use Rattle.meaning.specs.Feed as F
use Rattle.meaning.specs.OneWayFeed as O
use Rattle.rules.specs.Calls.{qpack_bytes, settings, client_goaway, max_push_id, Event, quiet, section_bytes, content_bytes, notice, Fed, goes, faults, Given, sound, unsound, Ended, is_whole, broken, Machine}

-- ---- codes

-- the fault of a code that reaches as far (a section's code is a stream's, and a dead connection's a connection's: Codes)
unfoldable pub stream_code : Code → StreamFault
stream_code (of_stream f) = f
stream_code (of_connection f) = message_error

unfoldable pub conn_code : Code → ConnectionFault
conn_code (of_stream f) = missing_settings
conn_code (of_connection f) = f

-- ---- a request stream

unfoldable pub is_due : {P : Type 0} → M.State P → Bool
is_due (M.in_type g p) = false
is_due (M.in_length t g p) = false
is_due (M.in_payload u k left p) = false
is_due (M.due t p) = true

-- a part ends where the feed stopped
unfoldable pub event_of : (used : ℕ) → F.Event → Event
event_of u F.quiet = quiet
event_of u (F.section_bytes len last) = section_bytes (u - len) len last
event_of u (F.content_bytes len) = content_bytes (u - len) len
event_of u (F.taken k payload) = quiet

unfoldable pub fed_by : (used heads : ℕ) → F.Event → M.Outcome Message → Fed (M.State Message)
fed_by u h e (M.lives s) = goes u h (event_of u e) s
fed_by u h e (M.dies code) = faults code u h

abbrev pub fed_of : F.Feeding Message → Fed (M.State Message)
fed_of f = fed_by f.used f.heads f.event f.after

unfoldable pub is_readable : Lines → Bool
is_readable (readable s) = true
is_readable (unreadable f) = false

-- the section of a block that is readable
unfoldable pub section_of : Lines → Section
section_of (readable s) = s
section_of (unreadable f) = []

unfoldable pub given_by : M.Outcome Message → Given (M.State Message)
given_by (M.lives s) = sound s
given_by (M.dies code) = unsound (stream_code code)

-- (a wait is answered before: a section is due: Refusals, waits_while_due)
unfoldable pub ended_by : Verdict → Ended
ended_by whole = is_whole
ended_by (fault code place) = broken code
ended_by (waits place) = is_whole

-- ---- a one-way stream

-- what a connection keeps of its one-way streams: which types have come, and what the control stream has said
pub record Keeps : Type 0 where
  pub control : Bool
  pub encoder : Bool
  pub decoder : Bool
  pub said : Control

unfoldable pub came : Bool → (type : ℕ) → List ℕ
came true t = t ∷ []
came false t = []

unfoldable pub types_in : Keeps → List ℕ
types_in k = came k.control 0 ++ (came k.encoder 2 ++ came k.decoder 3)

unfoldable pub place_in : {P : Type 0} → M.State P → P
place_in (M.in_type g p) = p
place_in (M.in_length t g p) = p
place_in (M.in_payload u k left p) = p
place_in (M.due t p) = p

unfoldable pub kept_by : Keeps → O.OneState → Keeps
kept_by k (O.in_stream_type g) = k
kept_by k (O.in_control s) = record { control = true; encoder = k.encoder; decoder = k.decoder; said = place_in s }
kept_by k (O.in_qpack encoder) = record { control = k.control; encoder = true; decoder = k.decoder; said = k.said }
kept_by k (O.in_qpack decoder) = record { control = k.control; encoder = k.encoder; decoder = true; said = k.said }
kept_by k O.in_skipped = k

unfoldable pub type_of : Qpack → ℕ
type_of encoder = 2
type_of decoder = 3

unfoldable pub notice_of : Told → Event
notice_of (told_settings s) = notice (settings s.section_size s.table_capacity s.blocked_streams)
notice_of (told_goaway id) = notice (client_goaway id)
notice_of (told_max_push_id id) = notice (max_push_id id)
notice_of told_nothing = quiet

-- on a control stream nothing is handed over
unfoldable pub frames_event : F.Event → Event
frames_event F.quiet = quiet
frames_event (F.section_bytes len last) = quiet
frames_event (F.content_bytes len) = quiet
frames_event (F.taken k payload) = notice_of (tells k payload)

unfoldable pub one_event : (used : ℕ) → O.OneEvent → Event
one_event u (O.of_frames e) = frames_event e
one_event u (O.qpack_bytes q len) = notice (qpack_bytes (type_of q) (u - len) len)

unfoldable pub heard_by : Keeps → (used heads : ℕ) → O.OneEvent → O.OneOutcome → Fed (record { state : O.OneState; kept : Keeps })
heard_by k u h e (O.lives s) = goes u h (one_event u e) (record { state = s; kept = kept_by k s })
heard_by k u h e (O.dies code) = faults code u h

abbrev pub heard_of : Keeps → O.OneFeeding → Fed (record { state : O.OneState; kept : Keeps })
heard_of k f = heard_by k f.used f.heads f.event f.after

unfoldable pub close_of : O.OneState → Option ConnectionFault
close_of (O.in_stream_type g) = none
close_of (O.in_control s) = some closed_critical_stream
close_of (O.in_qpack q) = some closed_critical_stream
close_of O.in_skipped = none

-- ---- THE MACHINE

abbrev pub streams : Machine
streams = record {
  Block = List ℕ;
  readable = λ b. is_readable (lines b);
  Request = M.State Message;
  new = M.between opening;
  due = is_due;
  feed = λ s allow piece. fed_of (F.feed (request document) allow s piece);
  give = λ s b. given_by (M.given (request document) (section_of (lines b)) s);
  finish = λ s. ended_by (M.finish (request document) 0 s);
  Kept = Keeps;
  nothing_kept = record { control = false; encoder = false; decoder = false; said = unset };
  Oneway = O.OneState;
  untyped = O.in_stream_type M.fresh;
  feed₁ = λ k w allow piece. heard_of k (O.feed (types_in k) allow w piece);
  close = close_of;
}
