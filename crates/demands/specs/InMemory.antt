-- DEMAND 1 IN MEMORY, whatever memory is lent. The report of a refusal hands nothing over and counts what document 01 says; its number is one of the table, or
-- the code that the memory already had. A stream fault frees the stream's record, a barred opening spends the ID, and every other byte is as it was.
-- Assumes nothing.
use Rattle.std.specs.Prelude.{◌≡◌, List, Bool, ◌⊎◌, leb, ltb, length, get_or, set, Result, Ok, Err}
use Rattle.std.proofs.Math.Path.{refl, subst}
use Rattle.std.proofs.Common.{sym, ap, ◌∙◌, arith, eqb→eq}
use Prim.Native.Nat.{ℕ, zero, suc, ◌%◌, ◌≤◌, ◌<◌, ◌^◌, zero-le}
use Rattle.std.proofs.Math.Bool.{true, false}
use Rattle.std.proofs.Math.Logic.{inl, inr}
use Rattle.std.proofs.Math.Option.{Option, none, some}
use Rattle.std.proofs.Math.Dec.{T, eqb}
use Rattle.std.proofs.lemmas.List.{set-get_or}
use Rattle.rules.specs.Events.{NOTHING}
use Rattle.rules.specs.Numbers as table
use Rattle.rules.specs.Numbers.{ROOM-SHORT, BAD-VALUE, House, house_number, StreamFault, request_rejected, ConnectionFault, closed_critical_stream, Code, of_stream, of_connection, code_number, named, Leaves, house_leaves, record_freed, code_kept, leaves}
use Rattle.rules.specs.declared.codes.House.{House as CodeHouse}
use Rattle.rules.specs.declared.codes.House.TheVariants.{OtherRow}
use Rattle.rules.specs.Block.{Lines, readable, unreadable, lines}
use Rattle.rules.specs.Reading.{Verdict, whole, fault, waits}
use Rattle.rules.specs.Message.{Message}
use Rattle.rules.specs.Request.{document, request as asking-rules}
use Rattle.rules.specs.Writer.{Write, refused, wrote, into, integer_frame, bad_goaway, write_goaway, write_integer_frame}
use Rattle.rules.specs.Integers.{written}
use Rattle.meaning.specs.NumberLaws.{refusal_named, fault_named, code_high, OfConnection}
use Rattle.meaning.specs.Machine as M
use Rattle.meaning.specs.Machine.{State, Outcome}
use Rattle.meaning.specs.Feed as F
use Rattle.meaning.proofs.Feeds.{feed_runs}
use Rattle.meaning.proofs.EveryFeed.{feed_allows}
use Rattle.meaning.specs.OneWayFeed as O
use Rattle.meaning.specs.OneWayFeed.{OneState, OneOutcome, OneEvent}
use Rattle.meaning.proofs.OneWays.{one_allows}
use Rattle.rules.specs.Calls.{feed, section, end, reset, Call, start, open', on, goaway}
use Rattle.record.specs.declared.Record.{Record}
use Rattle.record.specs.Row.{free_record}
use Rattle.requests.specs.declared.Reply.{Reply}
use Rattle.requests.specs.Reply as reply
use Rattle.requests.specs.Reply.{left_by, state_in}
use Rattle.requests.specs.Severity.{stream_frees}
use Rattle.oneway.specs.Closed.{closes}
use Rattle.oneway.specs.Types.{types_of}
use Rattle.oneway.specs.declared.calls.Side.{Side}
use Rattle.oneway.specs.declared.calls.Heard.{Heard}
use Rattle.oneway.specs.Heard as side
use Rattle.oneway.specs.Heard.{state_here}
use Rattle.connection.specs.declared.doors.Doors.{Doors}
use Rattle.connection.specs.declared.doors.Opening.{Opening}
use Rattle.connection.specs.declared.Call.{Call as CoreCall}
use Rattle.connection.specs.declared.Own.{Own as CoreOwn}
use Rattle.connection.specs.declared.Connection.{Connection}
use Rattle.connection.specs.declared.Report.{Report}
use Rattle.connection.specs.declared.Found.{Found}
use Rattle.connection.specs.declared.Turn.{Turn}
use Rattle.connection.specs.declared.Written.{Written}
use Rattle.connection.specs.Openings as openings
use Rattle.connection.specs.Openings.{refusal, barred_at, next_request, next_one_way, admitted_as, request_of, one_way_of, alive_of, opened_of}
use Rattle.connection.specs.Goaway.{sending_of, write_of, sent_in}
use Rattle.connection.specs.Halves.{stream_id, doors_in, with_doors, side_in}
use Rattle.connection.specs.Faults.{code_kept_in, stream_keeps_none}
use Rattle.connection.specs.Ways.{taken_none}
use Rattle.connection.specs.Whose.{Belongs, wanted_belongs, open_not_on}
use Rattle.connection.specs.Leavings.{by_any}
use Rattle.connection.specs.Turned.{free_at, request_as, one_way_as, Turned, other_row, dead, opens, not_open, request, one_way, fresh_connection, started_of, begun_as, begun_of}
use Rattle.calls.specs.Promises.{Stepped, SaidGoaway}
use Rattle.demands.specs.Streams.{conn_code, streams}
use Rattle.demands.specs.Codes.{is_of_connection, one_way_listed}
use Rattle.demands.specs.Parts.{one_fits}
use Rattle.demands.specs.Runs.{Seen, a_number, a_report, a_written, Does, starts, opens_one, feeds, gives, ends, resets, goes_away, OfHouse, number_in}
use Rattle.demands.specs.Host.{HandsNothing}

-- ---- DEFINITION: the report of a refusal

-- a number of document 01's table (rules, Numbers)
abbrev pub InTable : ℕ → Type 0
InTable n = (l : Leaves) × (leaves (named n) ≡ some l)

-- nothing consumed, and no header finished
abbrev pub CountsNothing : Report → Type 0
CountsNothing r = (r.used ≡ 0) × (r.heads ≡ 0)

-- of a feed no more than the piece and the allowance, and nothing with a house number or on a dead connection; of every other call nothing
abbrev pub Counts : Connection → Call streams → Report → Type 0
Counts c start r = CountsNothing r
Counts c (open' id) r = CountsNothing r
Counts c (on id (feed allow piece)) r = (r.used ≤ length piece) × (r.heads ≤ allow) × ((OfHouse r.number ⊎ (¬ (c.doors.code ≡ 0))) → CountsNothing r)
Counts c (on id (section block)) r = CountsNothing r
Counts c (on id end) r = CountsNothing r
Counts c (on id reset) r = CountsNothing r
Counts c (goaway id room) r = CountsNothing r

abbrev pub CountsSo : Connection → Call streams → Seen → Type 0
CountsSo c k (a_number n) = Unit {0}
CountsSo c k (a_report r) = Counts c k r
CountsSo c k (a_written w) = Unit {0}

-- A REFUSAL: no event, no part, no value, no byte counted as written; what it counts; and its number
pub record Refused (c : Connection) (k : Call streams) (x : Seen) : Type 0 where
  pub hands_nothing : HandsNothing x
  pub counts : CountsSo c k x
  pub numbered : InTable (number_in x) ⊎ (number_in x ≡ c.doors.code)

-- ---- DEFINITION: what a stream fault leaves

abbrev pub IsStreamFault : ℕ → Type 0
IsStreamFault n = (f : StreamFault) × (n ≡ code_number (of_stream f))

-- the stream's record is freed, and every other record is as it was
pub record Frees (id : ℕ) (rows rows' : List Record) : Type 0 where
  pub at : ℕ
  pub there : at < length rows
  pub own : Belongs id (get_or rows at free_record)
  pub freed : rows' ≡ set rows at free_record

-- the ID, the next request's, is spent, and every other number is as it was
pub record Spends (id : ℕ) (c c' : Connection) : Type 0 where
  pub next : id ≡ c.doors.requests
  pub spent : c' ≡ with_doors c (next_request c.doors)

-- (neither a start nor our GOAWAY answers with one)
abbrev pub AfterStreamFault : Call streams → (c : Connection) (rows : List Record) (c' : Connection) (rows' : List Record) → Type 0
AfterStreamFault start c rows c' rows' = ⊥
AfterStreamFault (open' id) c rows c' rows' = Spends id c c' × (rows' ≡ rows)
AfterStreamFault (on id o) c rows c' rows' = (c' ≡ c) × Frees id rows rows'
AfterStreamFault (goaway id room) c rows c' rows' = ⊥

-- ---- numbers

house_row : (n : House) → InTable (house_number n)
unfolding leaves
house_row n = (house_leaves n, ap leaves (refusal_named n))

code_row : (k : Code) → InTable (code_number k)
unfolding leaves
code_row (of_stream f) = (record_freed, ap leaves (fault_named (of_stream f)))
code_row (of_connection f) = (code_kept, ap leaves (fault_named (of_connection f)))

house_small : (n : House) → house_number n ≤ 9
house_small table.not_open = omega arith
house_small table.not_next = omega arith
house_small table.no_record = omega arith
house_small table.section_due = omega arith
house_small table.no_section = omega arith
house_small table.unreadable = omega arith
house_small table.room_short = omega arith
house_small table.bad_value = omega arith
house_small table.other_row = omega arith

small_none : {X : Type 0} (n : ℕ) → n ≤ 9 → IsStreamFault n → X
small_none n l (f, e) = let h = code_high (of_stream f) in absurd (omega arith)

never : {X : Type 0} {m : ℕ} (n : ℕ) → n ≤ 9 → m ≡ n → IsStreamFault m → X
never n l e z = small_none n l (subst IsStreamFault e z)

apart : (f : StreamFault) (g : ConnectionFault) → code_number (of_connection g) ≡ code_number (of_stream f) → ⊥
apart f g e = let q = sym (fault_named (of_connection g)) ∙ ap named e ∙ fault_named (of_stream f) in let z : ◌≡◌ {A = ℕ} 0 1 = cc in omega arith

-- ---- how a call may answer

-- 1 of a feed
abbrev pub fed_by : CoreCall → ℕ
fed_by CoreCall.Open = 0
fed_by (CoreCall.On CoreOwn.Feed) = 1
fed_by (CoreCall.On CoreOwn.Give) = 0
fed_by (CoreCall.On CoreOwn.End) = 0
fed_by (CoreCall.On CoreOwn.Reset) = 0

-- accepted; with a number of the house; with the code that the connection had; with a fault, which counts in a feed alone
data Answers (c : Connection) (call : CoreCall) (allow : ℕ) (piece : List ℕ) : (number event start len used heads value : ℕ) → Type 0 where
  accepts : {e s l u h v : ℕ} → Answers c call allow piece 0 e s l u h v
  of_house : (n : House) → Answers c call allow piece (house_number n) 0 0 0 0 0 0
  dead_already : Answers c call allow piece c.doors.code 0 0 0 0 0 0
  in_feed : (k : Code) {u h : ℕ} → c.doors.code ≡ 0 → fed_by call ≡ 1 → u ≤ length piece → h ≤ allow → Answers c call allow piece (code_number k) 0 0 0 u h 0
  elsewhere : (k : Code) → Answers c call allow piece (code_number k) 0 0 0 0 0 0

record Facts (c : Connection) (call : CoreCall) (allow : ℕ) (piece : List ℕ) (number event start len used heads value : ℕ) : Type 0 where
  hands : (event ≡ NOTHING) × (start ≡ 0) × (len ≡ 0) × (value ≡ 0)
  fits : used ≤ length piece
  allowed : heads ≤ allow
  nothing : OfHouse number ⊎ ((¬ (c.doors.code ≡ 0)) ⊎ (fed_by call ≡ 0)) → (used ≡ 0) × (heads ≡ 0)
  row : InTable number ⊎ (number ≡ c.doors.code)

facts : {c : Connection} {call : CoreCall} {allow : ℕ} {piece : List ℕ} {n e s l u h v : ℕ} → Answers c call allow piece n e s l u h v → ¬ (n ≡ 0) → Facts c call allow piece n e s l u h v
facts accepts z = absurd (z refl)
facts (of_house n) z = record { hands = (refl, refl, refl, refl); fits = zero-le; allowed = zero-le; nothing = λ x. (refl, refl); row = inl (house_row n) }
facts dead_already z = record { hands = (refl, refl, refl, refl); fits = zero-le; allowed = zero-le; nothing = λ x. (refl, refl); row = inr refl }
facts {c} {call} (in_feed k {u} {h} a b f g) z = record { hands = (refl, refl, refl, refl); fits = f; allowed = g; nothing = none_of; row = inl (code_row k) }
  where
    none_of : OfHouse (code_number k) ⊎ ((¬ (c.doors.code ≡ 0)) ⊎ (fed_by call ≡ 0)) → (u ≡ 0) × (h ≡ 0)
    none_of (inl x) = let y = code_high k in absurd (omega (arith, x.1, y))
    none_of (inr (inl x)) = absurd (x a)
    none_of (inr (inr x)) = absurd (omega (arith, x, b))
facts (elsewhere k) z = record { hands = (refl, refl, refl, refl); fits = zero-le; allowed = zero-le; nothing = λ x. (refl, refl); row = inl (code_row k) }

module _ (c : Connection) (own : CoreOwn) (allow : ℕ) (piece : List ℕ) (alive : c.doors.code ≡ 0) where
  -- a request's
  abbrev Replies : Reply → Type 0
  Replies a = Answers c (CoreCall.On own) allow piece a.number a.event a.start a.len a.used a.heads 0

  said_answers : (r : Record) (u h : ℕ) (e : F.Event) (o : Outcome Message) → own ≡ CoreOwn.Feed → u ≤ length piece → h ≤ allow → Replies (reply.said_by r u h e o)
  unfolding reply.said_by
  said_answers r u h F.quiet (M.dies n) z f g = in_feed n alive (rw z refl) f g
  said_answers r u h (F.content_bytes len) (M.dies n) z f g = in_feed n alive (rw z refl) f g
  said_answers r u h (F.section_bytes len false) (M.dies n) z f g = in_feed n alive (rw z refl) f g
  said_answers r u h (F.section_bytes len true) (M.dies n) z f g = in_feed n alive (rw z refl) f g
  said_answers r u h (F.taken k payload) (M.dies n) z f g = in_feed n alive (rw z refl) f g
  said_answers r u h F.quiet (M.lives s) z f g = accepts
  said_answers r u h (F.content_bytes len) (M.lives s) z f g = accepts
  said_answers r u h (F.section_bytes len false) (M.lives s) z f g = accepts
  said_answers r u h (F.section_bytes len true) (M.lives s) z f g = accepts
  said_answers r u h (F.taken k payload) (M.lives s) z f g = accepts

  due_answers : (x y : Reply) (s : State Message) → Replies x → Replies y → Replies (reply.unless_due s x y)
  unfolding reply.unless_due
  due_answers x y (M.in_type g m) a b = b
  due_answers x y (M.in_length t g m) a b = b
  due_answers x y (M.in_payload u k l m) a b = b
  due_answers x y (M.due t m) a b = a

  taken_answers : (r : Record) (o : Outcome Message) → Replies (reply.taken_as r o)
  unfolding reply.taken_as
  taken_answers r (M.dies n) = elsewhere n
  taken_answers r (M.lives s) = accepts

  read_answers : (r : Record) (s : State Message) (l : Lines) → Replies (reply.read_as r s l)
  unfolding reply.read_as
  read_answers r s (unreadable f) = of_house table.unreadable
  read_answers r s (readable block) = taken_answers r (M.given (asking-rules document) block s)

  end_answers : (r : Record) (v : Verdict) → Replies (reply.ended_by r v)
  unfolding reply.ended_by
  end_answers r whole = accepts
  end_answers r (fault n place) = elsewhere n
  end_answers r (waits place) = of_house table.section_due

  request_answers : (r : Record) (s : State Message) → Replies (request_as own allow piece r s)
  request_answers r s =
      let f = F.feed (asking-rules document) allow s piece in
      by_any Replies own
      (λ z. due_answers _ _ s (of_house table.section_due) (said_answers r f.used f.heads f.event f.after z (feed_runs (asking-rules document) allow 0 s piece).fits (feed_allows (asking-rules document) allow s piece)))
      (due_answers _ _ s (read_answers r s (lines piece)) (of_house table.no_section))
      (end_answers r (M.finish (asking-rules document) 0 s))
      accepts

  -- a one-way stream's
  abbrev Hears : Heard → Type 0
  Hears a = Answers c (CoreCall.On own) allow piece a.number a.event a.start a.len a.used a.heads a.value

  heard_answers : (r : Record) (d : Side) (u h : ℕ) (e : OneEvent) (o : OneOutcome) → own ≡ CoreOwn.Feed → u ≤ length piece → h ≤ allow → Hears (side.said_by r d u h e o)
  unfolding side.said_by
  heard_answers r d u h (O.of_frames e) (O.dies n) z f g = in_feed n alive (rw z refl) f g
  heard_answers r d u h (O.qpack_bytes q len) (O.dies n) z f g = in_feed n alive (rw z refl) f g
  heard_answers r d u h (O.of_frames e) (O.lives s) z f g = accepts
  heard_answers r d u h (O.qpack_bytes q len) (O.lives s) z f g = accepts

  close_answers : (r : Record) (d : Side) (s : OneState) → Hears (side.closed_by r d (closes s))
  unfolding side.closed_by closes
  close_answers r d (O.in_stream_type g) = accepts
  close_answers r d (O.in_control s) = elsewhere (of_connection closed_critical_stream)
  close_answers r d (O.in_qpack q) = elsewhere (of_connection closed_critical_stream)
  close_answers r d O.in_skipped = accepts

  one_way_answers : (r : Record) (d : Side) (s : OneState) → Hears (one_way_as own allow piece r d s)
  one_way_answers r d s =
      let seen = types_of d.control d.encoder d.decoder in
      let f = O.feed seen allow s piece in
      by_any Hears own (λ z. heard_answers r d f.used f.heads f.event f.after z (one_fits seen allow s piece).fits (one_allows seen allow s piece)) (of_house table.no_section) (close_answers r d s) (close_answers r d s)

-- ---- an opening

-- what is so of each way that an opening goes: accepted, 2, 3, or barred
module _ (P : Opening → Type 0) (d : Doors) (id : ℕ) (accepted : (next : Doors) → P (refusal 0 next)) (not_next : P (refusal 2 d)) (no_record : P (refusal 3 d))
    (barred : id ≡ d.requests → P (refusal table.REQUEST-REJECTED (next_request d))) where
  room_goes : (free : ℕ) (next : Doors) → P (admitted_as free next d)
  unfolding admitted_as
  room_goes zero next = no_record
  room_goes (suc n) next = accepted next

  request_goes : (free : ℕ) → P (request_of d id free)
  unfolding request_of
  request_goes free = by (eqb id d.requests) refl (barred_at d.goaways d.goaway.0 id)
    where
      by : (x : Bool) → eqb id d.requests ≡ x → (y : Bool)
          → P (elim x [ false ↦ refusal 2 d | true ↦ elim y [ true ↦ refusal table.REQUEST-REJECTED (next_request d) | false ↦ admitted_as free (next_request d) d ] ])
      by false e y = not_next
      by true e true = barred (eqb→eq id d.requests (subst T (sym e) tt))
      by true e false = room_goes free (next_request d)

  one_way_goes : (free : ℕ) → P (one_way_of d id free)
  unfolding one_way_of
  one_way_goes free = by (eqb id d.oneways)
    where
      by : (x : Bool) → P (elim x [ false ↦ refusal 2 d | true ↦ admitted_as free (next_one_way d) d ])
      by false = not_next
      by true = room_goes free (next_one_way d)

  kind_goes : (rest free : ℕ) → P (openings.kind_of rest d id free)
  unfolding openings.kind_of
  kind_goes zero free = request_goes free
  kind_goes (suc zero) free = not_next
  kind_goes (suc (suc zero)) free = one_way_goes free
  kind_goes (suc (suc (suc n))) free = not_next

  opening_goes : (n free : ℕ) → n ≡ 0 → P (alive_of n d id free)
  unfolding alive_of
  opening_goes zero free e = by (leb (2 ^ 62) id)
    where
      by : (x : Bool) → P (elim x [ true ↦ refusal 2 d | false ↦ openings.kind_of (id % 4) d id free ])
      by true = not_next
      by false = kind_goes (id % 4) free
  opening_goes (suc n) free e = absurd (omega arith)

-- ---- every call on a stream

abbrev Reports : (c : Connection) (call : CoreCall) (allow : ℕ) (piece : List ℕ) → Report → Type 0
Reports c call allow piece r = Answers c call allow piece r.number r.event r.start r.len r.used r.heads r.value

module _ {c : Connection} {f : Found} {call : CoreCall} {id allow : ℕ} {piece : List ℕ} {t : Turn} where
  turned_answers : Turned c f call id allow piece t → Reports c call allow piece t.report
  turned_answers (other_row x q) = subst (Reports c call allow piece) (sym (ap (λ y. y.report) q)) (of_house table.other_row)
  turned_answers (dead l x q) = subst (Reports c call allow piece) (sym (ap (λ y. y.report) q)) dead_already
  turned_answers (opens v e q) = subst (Reports c call allow piece) (sym (ap (λ y. y.report) q))
      (opening_goes (λ o. Answers c call allow piece o.number 0 0 0 0 0 0) c.doors id (λ next. accepts) (of_house table.not_next) (of_house table.no_record) (λ x. elsewhere (of_stream request_rejected)) c.doors.code (free_at f.at) v.alive)
  turned_answers (not_open v x s q) = subst (Reports c call allow piece) (sym (ap (λ y. y.report) q)) (of_house table.not_open)
  turned_answers (request {own} v x l o q s) = subst (Reports c call allow piece) (sym (ap (λ y. y.report) q)) (rw x (request_answers c own allow piece v.alive f.row (state_in f.row)))
  turned_answers (one_way {own} v x l h q s) = subst (Reports c call allow piece) (sym (ap (λ y. y.report) q)) (rw x (one_way_answers c own allow piece v.alive f.row (side_in c) (state_here f.row (side_in c))))

module _ {c : Connection} {rows : List Record} {call : CoreCall} {id allow : ℕ} {piece : List ℕ} {c' : Connection} {rows' : List Record} {r : Report} (m : Stepped c rows call id allow piece c' rows' r) where
  stepped_facts : ¬ (r.number ≡ 0) → Facts c call allow piece r.number r.event r.start r.len r.used r.heads r.value
  stepped_facts z = facts (subst (Reports c call allow piece) (sym m.answered) (turned_answers m.turned)) z

  -- a call that is no feed counts nothing
  refused_other : (k : Call streams) → ((x : CountsNothing r) → Counts c k r) → fed_by call ≡ 0 → ¬ (r.number ≡ 0) → Refused c k (a_report r)
  unfolding number_in
  refused_other k so n z = let f = stepped_facts z in record { hands_nothing = f.hands; counts = so (f.nothing (inr (inr n))); numbered = f.row }

  refused_feed : (j : ℕ) → ¬ (r.number ≡ 0) → Refused c (on j (feed allow piece)) (a_report r)
  unfolding number_in
  refused_feed j z = let f = stepped_facts z in record { hands_nothing = f.hands; counts = (f.fits, f.allowed, λ x. f.nothing (by x)); numbered = f.row }
    where
      by : OfHouse r.number ⊎ (¬ (c.doors.code ≡ 0)) → OfHouse r.number ⊎ ((¬ (c.doors.code ≡ 0)) ⊎ (fed_by call ≡ 0))
      by (inl x) = inl x
      by (inr x) = inr (inl x)

-- ---- a start, and our GOAWAY

-- what is so of 0 and of 9 is so of a start's number
begun_goes : (P : ℕ → Type 0) (c : Connection) (len : ℕ) → P 0 → P 9 → P (begun_of c len).number
unfolding started_of
begun_goes P c len x y = by (eqb len 24)
  where
    by : (b : Bool) → P (begun_as c (elim b as (λ z. Result Connection CodeHouse) [ true ↦ Ok fresh_connection | false ↦ Err OtherRow ])).number
    by true = x
    by false = y

-- a write's number and count
data Writes (c : Connection) : (number count : ℕ) → Type 0 where
  writes : {n : ℕ} → Writes c 0 n
  writes_none : (n : House) → Writes c (house_number n) 0
  dead_writes : Writes c c.doors.code 0

module _ (c : Connection) (id room : ℕ) where
  abbrev Sends : Write → Type 0
  Sends w = let g = sending_of (doors_in c) (stream_id id) w in Writes c g.number g.count

  into_sends : (o : Option (List ℕ)) → Sends (into room o)
  unfolding into sending_of
  into_sends none = writes_none table.bad_value
  into_sends (some bytes) = by (ltb room (length bytes))
    where
      by : (x : Bool) → Sends (elim x [ true ↦ refused ROOM-SHORT | false ↦ wrote bytes ])
      by true = writes_none table.room_short
      by false = writes

  goaway_sends : (code : ℕ) → code ≡ c.doors.code → Sends (write_of code (doors_in c) id room)
  unfolding write_of write_goaway write_integer_frame sending_of
  goaway_sends zero e = by (bad_goaway (sent_in (doors_in c)) id)
    where
      by : (x : Bool) → Sends (elim x [ true ↦ refused BAD-VALUE | false ↦ into room (integer_frame 7 (written id)) ])
      by true = writes_none table.bad_value
      by false = into_sends (integer_frame 7 (written id))
  goaway_sends (suc n) e = subst (λ k. Writes c k 0) (sym e) dead_writes

said_writes : {c : Connection} {id : ℕ} {room : List ℕ} {c' : Connection} {room' : List ℕ} {w : Written} → SaidGoaway c id room c' room' w → Writes c w.number w.count
said_writes {c} {id} {room} m =
    subst (λ (y : Written). Writes c y.number y.count) (sym (m.answered ∙ ap (λ y. y.written) m.goes.is ∙ ap (λ y. record { number = y.number; count = y.count }) m.goes.sends.answers))
    (goaway_sends c id (length room) c.doors.code refl)

written_facts : {c : Connection} {n count : ℕ} → Writes c n count → ¬ (n ≡ 0) → (count ≡ 0) × (InTable n ⊎ (n ≡ c.doors.code))
written_facts writes z = absurd (z refl)
written_facts (writes_none n) z = (refl, inl (house_row n))
written_facts dead_writes z = (refl, inr refl)

-- EVERY REFUSAL of every call, whatever memory is lent
pub refused_in_memory : {c : Connection} {rows : List Record} {k : Call streams} {x : Seen} {c' : Connection} {rows' : List Record} → Does c rows k x c' rows' → ¬ (number_in x ≡ 0) → Refused c k x
unfolding number_in
refused_in_memory {c} {rows} (starts m) z = record { hands_nothing = tt; counts = tt; numbered = inl (subst InTable (sym m.answered) (begun_goes (λ n. ¬ (n ≡ 0) → InTable n) c (length rows) (λ x. absurd (x refl)) (λ x. house_row table.other_row) (λ e. z (m.answered ∙ e)))) }
refused_in_memory (opens_one {id = id} m) z = refused_other m (open' id) (λ x. x) refl z
refused_in_memory (feeds {id = id} m) z = refused_feed m id z
refused_in_memory (gives {id = id} {block = block} m) z = refused_other m (on id (section block)) (λ x. x) refl z
refused_in_memory (ends {id = id} m) z = refused_other m (on id end) (λ x. x) refl z
refused_in_memory (resets {id = id} m) z = refused_other m (on id reset) (λ x. x) refl z
refused_in_memory (goes_away m) z = let f = written_facts (said_writes m) z in record { hands_nothing = f.0; counts = tt; numbered = f.1 }

-- ---- a stream fault

-- a request's record
module _ (r : Record) where
  abbrev Freed : Reply → Type 0
  Freed a = IsStreamFault a.number → a.row ≡ free_record

  code_freed : (k : Code) → IsStreamFault (code_number k) → left_by (code_number k) r ≡ free_record
  code_freed k (f, e) = ap (λ n. left_by n r) e ∙ stream_frees f r

  said_freed : (u h : ℕ) (e : F.Event) (o : Outcome Message) → Freed (reply.said_by r u h e o)
  unfolding reply.said_by
  said_freed u h F.quiet (M.dies n) = code_freed n
  said_freed u h (F.content_bytes len) (M.dies n) = code_freed n
  said_freed u h (F.section_bytes len false) (M.dies n) = code_freed n
  said_freed u h (F.section_bytes len true) (M.dies n) = code_freed n
  said_freed u h (F.taken k payload) (M.dies n) = code_freed n
  said_freed u h F.quiet (M.lives s) = small_none 0 (omega arith)
  said_freed u h (F.content_bytes len) (M.lives s) = small_none 0 (omega arith)
  said_freed u h (F.section_bytes len false) (M.lives s) = small_none 0 (omega arith)
  said_freed u h (F.section_bytes len true) (M.lives s) = small_none 0 (omega arith)
  said_freed u h (F.taken k payload) (M.lives s) = small_none 0 (omega arith)

  due_freed : (x y : Reply) (s : State Message) → Freed x → Freed y → Freed (reply.unless_due s x y)
  unfolding reply.unless_due
  due_freed x y (M.in_type g m) a b = b
  due_freed x y (M.in_length t g m) a b = b
  due_freed x y (M.in_payload u k l m) a b = b
  due_freed x y (M.due t m) a b = a

  taken_freed : (o : Outcome Message) → Freed (reply.taken_as r o)
  unfolding reply.taken_as
  taken_freed (M.dies n) = code_freed n
  taken_freed (M.lives s) = small_none 0 (omega arith)

  read_freed : (s : State Message) (l : Lines) → Freed (reply.read_as r s l)
  unfolding reply.read_as
  read_freed s (unreadable f) = small_none 6 (omega arith)
  read_freed s (readable block) = taken_freed (M.given (asking-rules document) block s)

  end_freed : (v : Verdict) → Freed (reply.ended_by r v)
  unfolding reply.ended_by
  end_freed whole = small_none 0 (omega arith)
  end_freed (fault n place) = code_freed n
  end_freed (waits place) = small_none 4 (omega arith)

  request_freed : (own : CoreOwn) (allow : ℕ) (piece : List ℕ) (s : State Message) → Freed (request_as own allow piece r s)
  request_freed own allow piece s =
      let f = F.feed (asking-rules document) allow s piece in
      by_any Freed own
      (λ z. due_freed (reply.refused 4 r) (reply.said r f) s (small_none 4 (omega arith)) (said_freed f.used f.heads f.event f.after))
      (due_freed (reply.read_as r s (lines piece)) (reply.refused 5 r) s (read_freed s (lines piece)) (small_none 5 (omega arith)))
      (end_freed (M.finish (asking-rules document) 0 s))
      (small_none 0 (omega arith))

-- a one-way stream has none
abbrev NoStreamFault : Heard → Type 0
NoStreamFault a = IsStreamFault a.number → ⊥

listed_none : (k : Code) → OfConnection k → IsStreamFault (code_number k) → ⊥
listed_none k w (f, e) = apart f (conn_code k) (ap code_number (sym (is_of_connection k w)) ∙ e)

heard_none : (r : Record) (d : Side) (u h : ℕ) (e : OneEvent) (o : OneOutcome) → ((k : Code) → o ≡ O.dies k → OfConnection k) → NoStreamFault (side.said_by r d u h e o)
unfolding side.said_by
heard_none r d u h (O.of_frames e) (O.dies n) w = listed_none n (w n refl)
heard_none r d u h (O.qpack_bytes q len) (O.dies n) w = listed_none n (w n refl)
heard_none r d u h (O.of_frames e) (O.lives s) w = small_none 0 (omega arith)
heard_none r d u h (O.qpack_bytes q len) (O.lives s) w = small_none 0 (omega arith)

close_none : (r : Record) (d : Side) (s : OneState) → NoStreamFault (side.closed_by r d (closes s))
unfolding side.closed_by closes
close_none r d (O.in_stream_type g) = small_none 0 (omega arith)
close_none r d (O.in_control s) = listed_none (of_connection closed_critical_stream) tt
close_none r d (O.in_qpack q) = listed_none (of_connection closed_critical_stream) tt
close_none r d O.in_skipped = small_none 0 (omega arith)

one_way_none : (own : CoreOwn) (allow : ℕ) (piece : List ℕ) (r : Record) (d : Side) (s : OneState) → NoStreamFault (one_way_as own allow piece r d s)
one_way_none own allow piece r d s =
    let seen = types_of d.control d.encoder d.decoder in
    let f = O.feed seen allow s piece in
    by_any NoStreamFault own (λ z. heard_none r d f.used f.heads f.event f.after (λ k e. one_way_listed seen allow s piece k e)) (small_none 5 (omega arith)) (close_none r d s) (close_none r d s)

module _ {c : Connection} {f : Found} {call : CoreCall} {id allow : ℕ} {piece : List ℕ} {t : Turn} (alive : c.doors.code ≡ 0) (z : IsStreamFault t.report.number) where
  pub turned_freed : {own : CoreOwn} → call ≡ CoreCall.On own → Turned c f call id allow piece t → (t.conn ≡ c) × (t.row ≡ free_record) × (f.at < f.len)
  turned_freed b (other_row x q) = never 9 (omega arith) (ap (λ y. y.report.number) q) z
  turned_freed b (dead l x q) = absurd (x alive)
  turned_freed b (opens v e q) = absurd (open_not_on e b)
  turned_freed b (not_open v x s q) = never 1 (omega arith) (ap (λ y. y.report.number) q) z
  turned_freed b (request {own} v x l o q s) =
      let a = request_as own allow piece f.row (state_in f.row) in
      let i : t.report.number ≡ a.number = ap (λ y. y.report.number) q in
      let y : IsStreamFault a.number = (z.0, sym i ∙ z.1) in
      let k = v.long in
      (ap (λ w. w.conn) q ∙ ap (code_kept_in c) y.1 ∙ stream_keeps_none c y.0, ap (λ w. w.row) q ∙ request_freed f.row own allow piece (state_in f.row) y, omega arith)
  turned_freed b (one_way {own} v x l h q s) = absurd (one_way_none own allow piece f.row (side_in c) (state_here f.row (side_in c)) (subst IsStreamFault (ap (λ y. y.report.number) q) z))

  -- of an opening: barred
  turned_spent : call ≡ CoreCall.Open → Turned c f call id allow piece t → (id ≡ c.doors.requests) × (t.conn ≡ with_doors c (next_request c.doors)) × (t.row ≡ f.row)
  turned_spent b (other_row x q) = never 9 (omega arith) (ap (λ y. y.report.number) q) z
  turned_spent b (dead l x q) = absurd (x alive)
  turned_spent b (opens v e q) =
      let o = opened_of c.doors id (free_at f.at) in
      let i : t.report.number ≡ o.number = ap (λ y. y.report.number) q in
      let w = opening_goes (λ o. IsStreamFault o.number → (id ≡ c.doors.requests) × (o.doors ≡ next_request c.doors) × (¬ (o.number ≡ 0))) c.doors id
      (λ next. small_none 0 (omega arith)) (small_none 2 (omega arith)) (small_none 3 (omega arith)) (λ x y. (x, refl, λ n. omega arith)) c.doors.code (free_at f.at) v.alive (subst IsStreamFault i z) in
      (w.0, ap (λ y. y.conn) q ∙ ap (with_doors c) w.1, ap (λ y. y.row) q ∙ sym (taken_none id f.row o.number w.2 refl))
  turned_spent b (not_open v x s q) = absurd (open_not_on b x)
  turned_spent b (request v x l o q s) = absurd (open_not_on b x)
  turned_spent b (one_way v x l h q s) = absurd (open_not_on b x)

module _ {c : Connection} {rows : List Record} {call : CoreCall} {id allow : ℕ} {piece : List ℕ} {c' : Connection} {rows' : List Record} {r : Report} (alive : c.doors.code ≡ 0) (m : Stepped c rows call id allow piece c' rows' r) (z : IsStreamFault r.number) where
  its : IsStreamFault m.turn.report.number
  its = subst IsStreamFault (ap (λ (y : Report). y.number) m.answered) z

  stepped_freed : {own : CoreOwn} → call ≡ CoreCall.On own → (c' ≡ c) × Frees id rows rows'
  stepped_freed b =
      let u = turned_freed alive its b m.turned in
      let l : m.found.at < length rows = subst (λ n. m.found.at < n) m.is_found.long u.2 in (
        m.conn_left ∙ u.0,
        record { at = m.found.at; there = l; own = wanted_belongs id (get_or rows m.found.at free_record) b (m.is_found.there l); freed = m.rows_left ∙ ap (set rows m.found.at) u.1 },
      )

  stepped_spent : call ≡ CoreCall.Open → Spends id c c' × (rows' ≡ rows)
  stepped_spent b =
      let u = turned_spent alive its b m.turned in
      (record { next = u.0; spent = m.conn_left ∙ u.1 }, m.rows_left ∙ ap (set rows m.found.at) (u.2 ∙ m.is_found.row) ∙ set-get_or rows m.found.at free_record)

writes_no_fault : {c : Connection} {n count : ℕ} → c.doors.code ≡ 0 → Writes c n count → IsStreamFault n → ⊥
writes_no_fault a writes z = small_none 0 (omega arith) z
writes_no_fault a (writes_none n) z = small_none (house_number n) (house_small n) z
writes_no_fault {c} a dead_writes z = small_none c.doors.code (omega arith) z

-- A STREAM FAULT on a live connection, whatever else the memory holds: the record freed, or the ID of a barred opening spent, and no other byte altered
pub stream_fault : {c : Connection} {rows : List Record} {k : Call streams} {x : Seen} {c' : Connection} {rows' : List Record} → c.doors.code ≡ 0 → Does c rows k x c' rows' → IsStreamFault (number_in x)
    → AfterStreamFault k c rows c' rows'
unfolding number_in
stream_fault {c} {rows} a (starts m) z = begun_goes (λ n. IsStreamFault n → ⊥) c (length rows) (small_none 0 (omega arith)) (small_none 9 (omega arith)) (subst IsStreamFault m.answered z)
stream_fault a (opens_one m) z = stepped_spent a m z refl
stream_fault a (feeds m) z = stepped_freed a m z refl
stream_fault a (gives m) z = stepped_freed a m z refl
stream_fault a (ends m) z = stepped_freed a m z refl
stream_fault a (resets m) z = stepped_freed a m z refl
stream_fault a (goes_away m) z = writes_no_fault a (said_writes m) z
