-- WHAT EACH CALL LEAVES OF THE HOST'S RECORDS, OF THE EXPORTED FUNCTIONS: a start one content, whatever memory it is lent; a call on a stream one record
-- altered, in its place; and at every moment of a run they mean what the trace leaves, and the connection's record keeps of the client what its notices have
-- reported (Said). Exported says what `Every` is. Assumes nothing.
use Rattle.std.proofs.Math.Path.{◌≡◌, sym, ap}
use Rattle.std.specs.Prelude.{refl, ℕ, zero, suc, ◌<◌, List, [], ◌∷◌, ◌++◌, map, true, false, ◌⊎◌, length, get_or, set, replicate}
use Rattle.std.proofs.Common.{◌∙◌, subst, arith}
use Rattle.std.proofs.Math.Decide.{dec_lt}
use Rattle.std.proofs.Math.Logic.{inl, inr}
use Rattle.rules.specs.Numbers.{Code, code_number}
use Rattle.rules.specs.Block.{Lines, readable, unreadable, lines}
use Rattle.rules.specs.Reading.{Verdict, whole, fault, waits}
use Rattle.rules.specs.Message.{Message}
use Rattle.rules.specs.Request.{document, request as asking-rules}
use Rattle.rules.specs.Control.{Control, unset, set as has-set}
use Rattle.meaning.specs.NumberLaws.{code_high}
use Rattle.meaning.specs.Machine.{State, in_type, in_length, in_payload, due, Outcome, lives, dies, given, finish}
use Rattle.meaning.specs.Feed as F
use Rattle.meaning.specs.OneWayFeed as O
use Rattle.meaning.specs.OneWayFeed.{OneState, OneEvent, OneOutcome}
use Rattle.rules.specs.Calls.{feed, section, end, reset, done, Pair, Call, start, open', on, goaway, gave, same, fresh, call, run, trace}
use Rattle.record.specs.declared.Record.{Record}
use Rattle.record.specs.Row.{request_record, one_way_record, free_record}
use Rattle.requests.specs.declared.Reply.{Reply}
use Rattle.requests.specs.Reply as reply
use Rattle.requests.specs.Reply.{state_in}
use Rattle.control.specs.Rules.{some_if, limits_is, control_at, control_of}
use Rattle.oneway.specs.declared.calls.Side.{Side}
use Rattle.oneway.specs.declared.calls.Heard.{Heard}
use Rattle.oneway.specs.Heard as side
use Rattle.oneway.specs.Heard.{state_here, feeding}
use Rattle.oneway.specs.Closed.{closes}
use Rattle.connection.specs.declared.doors.Doors.{Doors}
use Rattle.connection.specs.declared.doors.Opening.{Opening}
use Rattle.connection.specs.declared.Call.{Call as CoreCall}
use Rattle.connection.specs.declared.Own.{Own as CoreOwn}
use Rattle.connection.specs.declared.Connection.{Connection}
use Rattle.connection.specs.declared.Report.{Report}
use Rattle.connection.specs.declared.Found.{Found}
use Rattle.connection.specs.declared.Turn.{Turn}
use Rattle.connection.specs.OpeningWays as ways
use Rattle.connection.specs.Halves.{side_in}
use Rattle.connection.specs.Faults.{with_code, Fault}
use Rattle.connection.specs.Whose.{Belongs, Wanted, FoundIn, belongs_wanted, wanted_belongs, open_not_on, one_own}
use Rattle.connection.specs.Turned.{fresh_connection, first_record, taken_by, free_at, by_own, request_as, one_way_as, Turned, other_row, dead, opens, not_open, request, one_way, swept_of}
use Rattle.connection.specs.Ways.{none_at}
use Rattle.connection.proofs.Ways.{begun_fresh, swept_free}
use Rattle.calls.specs.Promises.{Started, Stepped}
use Rattle.demands.specs.Streams.{streams}
use Rattle.demands.specs.Demands.{Calls}
use Rattle.demands.specs.Means.{pair_of, report_of}
use Rattle.demands.specs.Runs.{Seen, a_written, Does, starts, opens_one, feeds, gives, ends, resets, goes_away, number_in, start_nine, fault_alters, SettingsAre}
use Rattle.demands.specs.Host.{Run}
use Rattle.demands.specs.InMemory.{IsStreamFault, turned_freed, stream_fault}
use Rattle.demands.specs.Said.{told_in}
use Rattle.demands.specs.Exports.{CallSays}

-- ---- DEFINITION: what a start leaves

-- on a row of 24 it answers 0 and leaves the fresh connection record and 24 free records; on a row of another length it answers 9 and alters nothing
pub record StartsAnew (c : Connection) (rows : List Record) (n : ℕ) (c' : Connection) (rows' : List Record) : Type 0 where
  pub anew : length rows ≡ 24 → (n ≡ 0) × (c' ≡ fresh_connection) × (rows' ≡ replicate 24 free_record)
  pub refused : ¬ (length rows ≡ 24) → (n ≡ 9) × (c' ≡ c) × (rows' ≡ rows)

-- ---- DEFINITION: which record, and what is left of the row

-- the lowest free record
pub record LowestFree (rows : List Record) (at : ℕ) : Type 0 where
  pub there : at < length rows
  pub is_free : get_or rows at free_record ≡ free_record
  pub lowest : (j : ℕ) → j < at → ¬ (get_or rows j free_record ≡ free_record)

-- the first record of an open stream that has this ID
pub record FirstOf (id : ℕ) (rows : List Record) (at : ℕ) : Type 0 where
  pub there : at < length rows
  pub own : Belongs id (get_or rows at free_record)
  pub first : (j : ℕ) → j < at → ¬ (Belongs id (get_or rows j free_record))

-- a request's record in some state, or a one-way stream's: the ID and the state decide every byte of it
abbrev pub HoldsState : (id : ℕ) → Record → Type 0
HoldsState id x = ((s : State Message) × (x ≡ request_record id s)) ⊎ ((s : OneState) × (x ≡ one_way_record id s))

-- the stream's record holds a state of the stream (which one: leaves_as_traced, over runs), every other is as it was and where it was
abbrev pub Alters : (id : ℕ) (rows rows' : List Record) → Type 0
Alters id rows rows' = (at : ℕ) × FirstOf id rows at × ((x : Record) × HoldsState id x × (rows' ≡ set rows at x))

-- the stream's record is free, every other is as it was and where it was
abbrev pub FreesFirst : (id : ℕ) (rows rows' : List Record) → Type 0
FreesFirst id rows rows' = (at : ℕ) × FirstOf id rows at × (rows' ≡ set rows at free_record)

-- after a call that is accepted
abbrev pub LeavesRow : Call streams → (rows rows' : List Record) → Type 0
LeavesRow start rows rows' = rows' ≡ replicate 24 free_record
LeavesRow (open' id) rows rows' = (at : ℕ) × LowestFree rows at × (rows' ≡ set rows at (first_record id))
LeavesRow (on id (feed allow piece)) rows rows' = Alters id rows rows'
LeavesRow (on id (section block)) rows rows' = Alters id rows rows'
LeavesRow (on id end) rows rows' = FreesFirst id rows rows'
LeavesRow (on id reset) rows rows' = FreesFirst id rows rows'
LeavesRow (goaway id room) rows rows' = rows' ≡ rows

-- after a stream fault (of an opening: a barred request; neither a start nor our GOAWAY answers with one)
abbrev pub FaultLeavesRow : Call streams → (rows rows' : List Record) → Type 0
FaultLeavesRow start rows rows' = ⊥
FaultLeavesRow (open' id) rows rows' = rows' ≡ rows
FaultLeavesRow (on id o) rows rows' = FreesFirst id rows rows'
FaultLeavesRow (goaway id room) rows rows' = ⊥

-- ---- start

swept_all : (n : ℕ) → n ≡ 24 → (rows : List Record) → map (swept_of n) rows ≡ replicate (length rows) free_record
swept_all n e [] = refl
swept_all n e (r ∷ rows) = ap (λ x. x ∷ map (swept_of n) rows) (sym (swept_free n r e refl)) ∙ ap (λ x. free_record ∷ x) (swept_all n e rows)

pub starts_anew : {c : Connection} {rows : List Record} {n : ℕ} {c' : Connection} {rows' : List Record} → Started c rows c' rows' n → StartsAnew c rows n c' rows'
unfolding report_of
starts_anew {c} {rows} m = record {
  anew = λ long. let b = sym (begun_fresh c (length rows) long refl) in
      (m.answered ∙ ap (λ y. y.number) b, m.conn_left ∙ ap (λ y. y.conn) b, m.rows_left ∙ swept_all (length rows) long rows ∙ ap (λ k. replicate k free_record) long);
  refused = λ other. let u = start_nine other m in (u.2, u.0, u.1);
}

-- and over traces
pub start_accepted : (p : Pair streams) → call start p ≡ same (gave done) fresh
unfolding call
start_accepted p = refl

-- ---- which record was found

lowest_free : {id : ℕ} {rows : List Record} {f : Found} → FoundIn CoreCall.Open id rows f → f.at < length rows → LowestFree rows f.at
unfolding Wanted
lowest_free x l = record { there = l; is_free = x.there l; lowest = x.before }

pub first_of : {call : CoreCall} {own : CoreOwn} {id : ℕ} {rows : List Record} {f : Found} → call ≡ CoreCall.On own → FoundIn call id rows f → f.at < length rows → FirstOf id rows f.at
first_of {id = id} {rows = rows} {f = f} n x l =
    record { there = l; own = wanted_belongs id (get_or rows f.at free_record) n (x.there l); first = λ j m b. x.before j m (belongs_wanted id (get_or rows j free_record) n b) }

below : (at : ℕ) → 0 < free_at at → at < 24
below at l = by (dec_lt at 24)
  where
    by : Dec (at < 24) → at < 24
    by (yes x) = x
    by (no x) = let z = none_at at (omega arith) in absurd (omega arith)

opened_below : {d : Doors} {id at : ℕ} {o : Opening} → ways.Went d id (free_at at) o → o.number ≡ 0 → at < 24
opened_below (ways.refused n z) e = absurd (z e)
opened_below (ways.barred a b) e = absurd (omega arith)
opened_below {at = at} (ways.a_request a b c l) e = below at l
opened_below {at = at} (ways.a_one_way a b c l) e = below at l

-- ---- what an end or a reset leaves

ended_frees : (r : Record) (v : Verdict) → (reply.ended_by r v).number ≡ 0 → (reply.ended_by r v).row ≡ free_record
unfolding reply.ended_by
ended_frees r whole e = refl
ended_frees r (fault n place) e = let h = code_high n in absurd (omega arith)
ended_frees r (waits place) e = absurd (omega arith)

closed_frees : (r : Record) (d : Side) (n : ℕ) → (side.closed_by r d n).number ≡ 0 → (side.closed_by r d n).row ≡ free_record
unfolding side.closed_by
closed_frees r d zero e = refl
closed_frees r d (suc n) e = absurd (omega arith)

data Altering : CoreOwn → Type 0 where
  a_feed : Altering CoreOwn.Feed
  a_section : Altering CoreOwn.Give

data Closing : CoreOwn → Type 0 where
  an_end : Closing CoreOwn.End
  a_reset : Closing CoreOwn.Reset

request_frees : {own : CoreOwn} → Closing own → (allow : ℕ) (piece : List ℕ) (r : Record) (s : State Message) → (request_as own allow piece r s).number ≡ 0 → (request_as own allow piece r s).row ≡ free_record
unfolding by_own
request_frees an_end allow piece r s e = ended_frees r (finish (asking-rules document) 0 s) e
request_frees a_reset allow piece r s e = refl

one_way_frees : {own : CoreOwn} → Closing own → (allow : ℕ) (piece : List ℕ) (r : Record) (d : Side) (s : OneState) → (one_way_as own allow piece r d s).number ≡ 0 → (one_way_as own allow piece r d s).row ≡ free_record
unfolding by_own
one_way_frees an_end allow piece r d s e = closed_frees r d (closes s) e
one_way_frees a_reset allow piece r d s e = closed_frees r d (closes s) e

-- ---- what a feed or a section leaves

module _ (r : Record) where
  abbrev Holds : (number : ℕ) → Record → Type 0
  Holds n x = n ≡ 0 → HoldsState r.id x

  abbrev ReplyHolds : Reply → Type 0
  ReplyHolds a = Holds a.number a.row

  abbrev HeardHolds : Heard → Type 0
  HeardHolds a = Holds a.number a.row

  code_holds : (k : Code) (x : Record) → Holds (code_number k) x
  code_holds k x z = let h = code_high k in absurd (omega arith)

  said_holds : (u h : ℕ) (e : F.Event) (o : Outcome Message) → ReplyHolds (reply.said_by r u h e o)
  unfolding reply.said_by
  said_holds u h F.quiet (dies n) = code_holds n _
  said_holds u h (F.content_bytes len) (dies n) = code_holds n _
  said_holds u h (F.section_bytes len false) (dies n) = code_holds n _
  said_holds u h (F.section_bytes len true) (dies n) = code_holds n _
  said_holds u h (F.taken k payload) (dies n) = code_holds n _
  said_holds u h F.quiet (lives s) = λ z. inl (s, refl)
  said_holds u h (F.content_bytes len) (lives s) = λ z. inl (s, refl)
  said_holds u h (F.section_bytes len false) (lives s) = λ z. inl (s, refl)
  said_holds u h (F.section_bytes len true) (lives s) = λ z. inl (s, refl)
  said_holds u h (F.taken k payload) (lives s) = λ z. inl (s, refl)

  due_holds : (x y : Reply) (s : State Message) → ReplyHolds x → ReplyHolds y → ReplyHolds (reply.unless_due s x y)
  unfolding reply.unless_due
  due_holds x y (in_type g m) a b = b
  due_holds x y (in_length t g m) a b = b
  due_holds x y (in_payload u k l m) a b = b
  due_holds x y (due t m) a b = a

  taken_holds : (o : Outcome Message) → ReplyHolds (reply.taken_as r o)
  unfolding reply.taken_as
  taken_holds (dies n) = code_holds n _
  taken_holds (lives s) = λ z. inl (s, refl)

  read_holds : (s : State Message) (l : Lines) → ReplyHolds (reply.read_as r s l)
  unfolding reply.read_as
  read_holds s (unreadable f) = λ z. absurd (omega arith)
  read_holds s (readable block) = taken_holds (given (asking-rules document) block s)

  heard_holds : (d : Side) (u h : ℕ) (e : OneEvent) (o : OneOutcome) → HeardHolds (side.said_by r d u h e o)
  unfolding side.said_by
  heard_holds d u h (O.of_frames e) (O.dies n) = code_holds n _
  heard_holds d u h (O.qpack_bytes q len) (O.dies n) = code_holds n _
  heard_holds d u h (O.of_frames e) (O.lives s) = λ z. inr (s, refl)
  heard_holds d u h (O.qpack_bytes q len) (O.lives s) = λ z. inr (s, refl)

  request_holds : {own : CoreOwn} → Altering own → (allow : ℕ) (piece : List ℕ) (s : State Message) → ReplyHolds (request_as own allow piece r s)
  unfolding by_own
  request_holds a_feed allow piece s = let f = F.feed (asking-rules document) allow s piece in
      due_holds (reply.refused 4 r) (reply.said r f) s (λ z. absurd (omega arith)) (said_holds f.used f.heads f.event f.after)
  request_holds a_section allow piece s = due_holds (reply.read_as r s (lines piece)) (reply.refused 5 r) s (read_holds s (lines piece)) (λ z. absurd (omega arith))

  one_way_holds : {own : CoreOwn} → Altering own → (allow : ℕ) (piece : List ℕ) (d : Side) (s : OneState) → HeardHolds (one_way_as own allow piece r d s)
  unfolding by_own
  one_way_holds a_feed allow piece d s = let f = feeding d allow piece s in heard_holds d f.used f.heads f.event f.after
  one_way_holds a_section allow piece d s = λ z. absurd (omega arith)

-- ---- a call that is accepted

module _ {c : Connection} {f : Found} {call : CoreCall} {id allow : ℕ} {piece : List ℕ} {t : Turn} (z : t.report.number ≡ 0) where
  turned_opens : call ≡ CoreCall.Open → Turned c f call id allow piece t → (f.at < 24) × (t.row ≡ first_record id)
  unfolding taken_by
  turned_opens b (other_row x q) = let e = ap (λ y. y.report.number) q in absurd (omega arith)
  turned_opens b (dead l x q) = absurd (x (sym (ap (λ y. y.report.number) q) ∙ z))
  turned_opens b (opens v e q) =
      let n = sym (ap (λ y. y.report.number) q) ∙ z in
      (opened_below (ways.went c.doors id (free_at f.at)) n, ap (λ y. y.row) q ∙ ap (λ k. taken_by k id f.row) n)
  turned_opens b (not_open v x s q) = absurd (open_not_on b x)
  turned_opens b (request v x l o q s) = absurd (open_not_on b x)
  turned_opens b (one_way v x l h q s) = absurd (open_not_on b x)

  module _ {own : CoreOwn} (n : call ≡ CoreCall.On own) where
    turned_place : Turned c f call id allow piece t → f.at < 24
    turned_place (other_row x q) = let e = ap (λ y. y.report.number) q in absurd (omega arith)
    turned_place (dead l x q) = absurd (x (sym (ap (λ y. y.report.number) q) ∙ z))
    turned_place (opens v e q) = absurd (open_not_on e n)
    turned_place (not_open v x s q) = let e = ap (λ y. y.report.number) q in absurd (omega arith)
    turned_place (request v x l o q s) = l
    turned_place (one_way v x l h q s) = l

    turned_closes : Closing own → Turned c f call id allow piece t → t.row ≡ free_record
    turned_closes k (other_row x q) = let e = ap (λ y. y.report.number) q in absurd (omega arith)
    turned_closes k (dead l x q) = absurd (x (sym (ap (λ y. y.report.number) q) ∙ z))
    turned_closes k (opens v e q) = absurd (open_not_on e n)
    turned_closes k (not_open v x s q) = let e = ap (λ y. y.report.number) q in absurd (omega arith)
    turned_closes k (request v x l o q s) = ap (λ y. y.row) q ∙ request_frees (subst Closing (one_own n x) k) allow piece f.row (state_in f.row) (sym (ap (λ y. y.report.number) q) ∙ z)
    turned_closes k (one_way v x l h q s) = ap (λ y. y.row) q ∙ one_way_frees (subst Closing (one_own n x) k) allow piece f.row (side_in c) (state_here f.row (side_in c)) (sym (ap (λ y. y.report.number) q) ∙ z)

    turned_holds : Altering own → Turned c f call id allow piece t → HoldsState f.row.id t.row
    turned_holds k (other_row x q) = let e = ap (λ y. y.report.number) q in absurd (omega arith)
    turned_holds k (dead l x q) = absurd (x (sym (ap (λ y. y.report.number) q) ∙ z))
    turned_holds k (opens v e q) = absurd (open_not_on e n)
    turned_holds k (not_open v x s q) = let e = ap (λ y. y.report.number) q in absurd (omega arith)
    turned_holds k (request v x l o q s) = subst (HoldsState f.row.id) (sym (ap (λ y. y.row) q)) (request_holds f.row (subst Altering (one_own n x) k) allow piece (state_in f.row) (sym (ap (λ y. y.report.number) q) ∙ z))
    turned_holds k (one_way v x l h q s) = subst (HoldsState f.row.id) (sym (ap (λ y. y.row) q)) (one_way_holds f.row (subst Altering (one_own n x) k) allow piece (side_in c) (state_here f.row (side_in c)) (sym (ap (λ y. y.report.number) q) ∙ z))

module _ {c : Connection} {rows : List Record} {call : CoreCall} {id allow : ℕ} {piece : List ℕ} {c' : Connection} {rows' : List Record} {r : Report} (long : length rows ≡ 24) (m : Stepped c rows call id allow piece c' rows' r) where
  -- the one record, and what it holds then
  set_to : {x : Record} → m.turn.row ≡ x → rows' ≡ set rows m.found.at x
  set_to q = m.rows_left ∙ ap (set rows m.found.at) q

  module _ (z : r.number ≡ 0) where
    accepted : m.turn.report.number ≡ 0
    accepted = sym (ap (λ y. y.number) m.answered) ∙ z

    altered : {own : CoreOwn} → call ≡ CoreCall.On own → Altering own → Alters id rows rows'
    altered n k =
        let l = turned_place accepted n m.turned in
        let o = first_of n m.is_found (omega arith) in
        let i : m.found.row.id ≡ id = ap (λ y. y.id) m.is_found.row ∙ o.own.own in
        (m.found.at, o, (m.turn.row, subst (λ j. HoldsState j m.turn.row) i (turned_holds accepted n k m.turned), m.rows_left))

    closed : {own : CoreOwn} → call ≡ CoreCall.On own → Closing own → FreesFirst id rows rows'
    closed n k = let l = turned_place accepted n m.turned in (m.found.at, first_of n m.is_found (omega arith), set_to (turned_closes accepted n k m.turned))

  faulted : c.doors.code ≡ 0 → IsStreamFault r.number → {own : CoreOwn} → call ≡ CoreCall.On own → FreesFirst id rows rows'
  faulted a z n =
      let u = turned_freed a (z.0, sym (ap (λ y. y.number) m.answered) ∙ z.1) n m.turned in
      let k = m.is_found.long in
      (m.found.at, first_of n m.is_found (let l = u.2 in omega arith), set_to u.1)

opened_lowest : {c : Connection} {rows : List Record} {id : ℕ} {c' : Connection} {rows' : List Record} {r : Report} → length rows ≡ 24 → Stepped c rows CoreCall.Open id 0 [] c' rows' r → r.number ≡ 0 → LeavesRow (open' id) rows rows'
opened_lowest long m z =
    let u = turned_opens (accepted long m z) refl m.turned in
    (m.found.at, lowest_free m.is_found (let l = u.0 in omega arith), set_to long m u.1)

pub leaves_row : {c : Connection} {rows : List Record} {k : Call streams} {x : Seen} {c' : Connection} {rows' : List Record} → Does c rows k x c' rows' → length rows ≡ 24 → number_in x ≡ 0 → LeavesRow k rows rows'
unfolding number_in
leaves_row (starts m) long z = ((starts_anew m).anew long).2
leaves_row (opens_one m) long z = opened_lowest long m z
leaves_row (feeds m) long z = altered long m z refl a_feed
leaves_row (gives m) long z = altered long m z refl a_section
leaves_row (ends m) long z = closed long m z refl an_end
leaves_row (resets m) long z = closed long m z refl a_reset
leaves_row (goes_away m) long z = refl

-- AFTER A CALL THAT IS ACCEPTED, whatever memory is lent with a row of 24
abbrev pub AltersOne : CallSays
AltersOne c rows k x c' rows' = length rows ≡ 24 → number_in x ≡ 0 → LeavesRow k rows rows'

pub fault_leaves_row : {c : Connection} {rows : List Record} {k : Call streams} {x : Seen} {c' : Connection} {rows' : List Record} → Does c rows k x c' rows' → c.doors.code ≡ 0 → length rows ≡ 24 → IsStreamFault (number_in x) → FaultLeavesRow k rows rows'
unfolding number_in
fault_leaves_row (starts m) a long z = absurd (stream_fault a (starts m) z)
fault_leaves_row (opens_one m) a long z = (stream_fault a (opens_one m) z).1
fault_leaves_row (feeds m) a long z = faulted long m a z refl
fault_leaves_row (gives m) a long z = faulted long m a z refl
fault_leaves_row (ends m) a long z = faulted long m a z refl
fault_leaves_row (resets m) a long z = faulted long m a z refl
fault_leaves_row {c} {rows} (goes_away {c' = c'} {w = w} {id = id} {room = room} m) a long z = let d : Does c rows (goaway id (length room)) (a_written w) c' rows = goes_away m in absurd (stream_fault a d z)

-- AFTER A STREAM FAULT on a live connection, whatever memory is lent with a row of 24
abbrev pub FaultFreesOne : CallSays
FaultFreesOne c rows k x c' rows' = c.doors.code ≡ 0 → length rows ≡ 24 → IsStreamFault (number_in x) → FaultLeavesRow k rows rows'

-- AFTER A CONNECTION FAULT of a call on a stream, whatever memory is lent: the code is kept, and every other byte is as it was
abbrev pub OnStream : Call streams → Type 0
OnStream start = ⊥
OnStream (open' id) = ⊥
OnStream (on id o) = Unit {0}
OnStream (goaway id room) = ⊥

abbrev pub KeepsCode : CallSays
KeepsCode c rows k x c' rows' = OnStream k → Fault (number_in x) → (c' ≡ with_code (number_in x) c) × (rows' ≡ rows)

pub keeps_code : {c : Connection} {rows : List Record} {k : Call streams} {x : Seen} {c' : Connection} {rows' : List Record} → Does c rows k x c' rows' → KeepsCode c rows k x c' rows'
unfolding number_in
keeps_code (starts m) l z = absurd l
keeps_code (opens_one m) l z = absurd l
keeps_code (feeds m) l z = fault_alters refl m z
keeps_code (gives m) l z = fault_alters refl m z
keeps_code (ends m) l z = fault_alters refl m z
keeps_code (resets m) l z = fault_alters refl m z
keeps_code (goes_away m) l z = absurd l

-- ---- WHAT IS LEFT MEANS WHAT THE TRACE LEAVES, after every call of a run: the state of each stream (of a request its stated length and its sum too), and the
-- connection
abbrev pub LeavesAsTraced : CallSays
LeavesAsTraced c rows k x c' rows' = (ks : Calls) (xs : List Seen) → Run ks xs c rows → pair_of c' rows' ≡ run fresh (ks ++ (k ∷ []))

-- ---- WHAT THE CONNECTION'S RECORD KEEPS OF THE CLIENT

-- no settings have come; or these, and of GOAWAY and MAX_PUSH_ID the last, if any
abbrev pub KeptIs : Connection → Control → Type 0
KeptIs c unset = c.side.kept.set ≡ 0
KeptIs c (has-set s g m) =
    let k = c.side.kept in
    SettingsAre c s.section_size s.table_capacity s.blocked_streams × (some_if k.goaways k.goaway.0 ≡ g) × (some_if k.pushes k.push.0 ≡ m)

pub kept_is : (c : Connection) (p : Control) → control_of (side_in c).kept ≡ p → KeptIs c p
kept_is c p e = by c.side.kept.set refl p e
  where
    by : (n : ℕ) → c.side.kept.set ≡ n → (p : Control) → control_at n (side_in c).kept ≡ p → KeptIs c p
    by zero q unset e = q
    by zero q (has-set s g m) e = let z : ◌≡◌ {A = ℕ} 0 1 = (unfold control_at in cc) in absurd (omega arith)
    by (suc n) q unset e = let z : ◌≡◌ {A = ℕ} 0 1 = (unfold control_at in cc) in absurd (omega arith)
    by (suc n) q (has-set s g m) e =
        let k = (side_in c).kept in
        let z : limits_is k ≡ s = (unfold control_at in cc) in
        let y : some_if k.goaways k.goaway.0 ≡ g = (unfold control_at in cc) in
        let x : some_if k.pushes k.push.0 ≡ m = (unfold control_at in cc) in
        (record { have_come = λ o. omega arith; section_size = ap (λ v. v.section_size) z; table_capacity = ap (λ v. v.table_capacity) z; blocked_streams = ap (λ v. v.blocked_streams) z }, y, x)

-- a start leaves none, whatever was there
pub fresh_keeps_none : KeptIs fresh_connection unset
fresh_keeps_none = refl

-- and after every call of a run: what the notices have reported since the last start
abbrev pub KeepsWhatWasTold : CallSays
KeepsWhatWasTold c rows k x c' rows' = (ks : Calls) (xs : List Seen) → Run ks xs c rows → KeptIs c' (told_in (trace fresh (ks ++ (k ∷ []))))
