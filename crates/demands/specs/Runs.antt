-- THE LENT CALLS AND THE TRACES: lent calls on one connection and one row, from one start on, answer as the trace of the same calls does
-- and leave what it leaves. In memory a number of the house alters nothing, and where settings are reported the record holds them. Assumes nothing.
use Rattle.std.specs.Prelude.{◌≡◌, Bool, ◌⊎◌, length, set}
use Rattle.std.proofs.Math.Path.{refl, sym, ap}
use Rattle.std.proofs.Common.{◌∙◌, subst, inl, inr}
use Prim.Native.Nat.{ℕ, zero, suc, ◌≤◌}
use native.Mathlib.Omega.{arith}
use mathlib.Core.List.{List, [], ◌∷◌, map}
use Rattle.std.proofs.Math.Bool.{true, false}
use Rattle.std.proofs.Math.Option.{Option, none, some}
use Rattle.std.proofs.lemmas.List.{set-get_or}
use Rattle.rules.specs.Events.{SETTINGS}
use Rattle.rules.specs.Numbers as numbers
use Rattle.rules.specs.Numbers.{NOT-OPEN, OTHER-ROW, section_due, no_section, other_row as row-refused, house_number, ConnectionFault, Code, of_connection, code_number}
use Rattle.rules.specs.Block.{Lines, readable, unreadable, lines}
use Rattle.rules.specs.Integers.{integer}
use Rattle.rules.specs.Reading as reading
use Rattle.rules.specs.Reading.{Kept as Payload, kept, Next, stop, go, Verdict, whole, fault, waits}
use Rattle.rules.specs.Message.{Message}
use Rattle.rules.specs.Request.{document}
use Rattle.rules.specs.Request as asked
use Rattle.rules.specs.Control as say
use Rattle.rules.specs.Control.{Settings, Control}
use Rattle.rules.specs.Writer.{Write, refused, wrote}
use Rattle.meaning.specs.NumberLaws.{code_high}
use Rattle.meaning.specs.Machine as M
use Rattle.meaning.specs.Machine.{State, Outcome}
use Rattle.meaning.specs.Feed as F
use Rattle.meaning.specs.OneWayFeed as O
use Rattle.meaning.specs.OneWayFeed.{OneState, OneOutcome, OneEvent}
use Rattle.rules.specs.Calls as trace
use Rattle.rules.specs.Calls.{qpack_bytes, settings, client_goaway, max_push_id, Event, quiet, section_bytes, content_bytes, notice, Own, feed, section, end, reset, Gave, done, fed, Out, refuse, step, leave, of_fed, of_given, of_ended, of_closed, map_out, either, act, act₁, Stream, asking, telling, Pair, Held, Call, start, open', on, goaway, Answer, gave, left, house, code, keeping, call, same, act_on, run, Entry, trace, fresh}
use Rattle.traces.specs.Went as went
use Rattle.traces.specs.Went.{Went}
use Rattle.traces.specs.Alone.{Later}
use Rattle.varint.specs.Write.{left_in}
use Rattle.record.specs.declared.Record.{Record}
use Rattle.record.specs.Row.{free_record}
use Rattle.requests.specs.declared.Reply.{Reply}
use Rattle.requests.specs.Reply as reply
use Rattle.requests.specs.Reply.{left_by, state_in}
use Rattle.requests.specs.Severity.{connection_leaves}
use Rattle.connection.specs.Goaway.{Goaway, sending_of, write_of}
use Rattle.oneway.specs.Closed.{closes}
use Rattle.control.specs.Rules.{some_if, limits_is, control_at, control_of}
use Rattle.oneway.specs.declared.calls.Side.{Side}
use Rattle.oneway.specs.declared.calls.Heard.{Heard}
use Rattle.oneway.specs.Heard as side
use Rattle.oneway.specs.Heard.{state_here}
use Rattle.connection.specs.declared.Call.{Call as CoreCall}
use Rattle.connection.specs.declared.Own.{Own as CoreOwn}
use Rattle.connection.specs.declared.Connection.{Connection}
use Rattle.connection.specs.declared.Report.{Report}
use Rattle.connection.specs.declared.Found.{Found}
use Rattle.connection.specs.declared.Turn.{Turn}
use Rattle.connection.specs.declared.Written.{Written}
use Rattle.connection.specs.Halves.{stream_id, doors_in, with_doors, side_in, with_side}
use Rattle.connection.specs.Faults.{with_code, Fault, kept_fault, kept_small}
use Rattle.connection.specs.Whose.{open_not_on}
use Rattle.connection.specs.Leavings.{by_any}
use Rattle.connection.specs.Turned.{by_own, unaltered, opened_at, request_as, one_way_as, Turned, other_row, dead, opens, not_open, request, one_way, swept_of}
use Rattle.connection.specs.Ways.{opening_refused}
use Rattle.connection.proofs.Ways.{begun_fresh, begun_other, swept_other}
use Rattle.calls.specs.Promises.{Started, Stepped, Opened, Fed, Given, Ended, Reset, SaidGoaway}
use Rattle.demands.specs.Streams.{Keeps, types_in, is_due, event_of, fed_by, is_readable, section_of, given_by, ended_by, place_in, kept_by, notice_of, frames_event, one_event, heard_by, close_of, streams}
use Rattle.demands.specs.Means.{pair_of, call_of, noticed, reported, report_of, written_of}
use Rattle.demands.specs.Suits.{ControlFits}
use Rattle.demands.specs.Overheard.{OneSuits, OneTells, one_suits}
use Rattle.demands.specs.Suited.{StreamSuits, RowSuits, found_suits}
use Rattle.demands.specs.Stands.{Stands}
use Rattle.demands.specs.Steps.{stepped_traced, stepped_stands, started_fresh, started_number, started_stands}
use Rattle.demands.specs.Sends.{said_traced, said_stands}

-- ---- what a host does and sees

-- a start answers a number, our GOAWAY a number and a count, every other call a report
pub data Seen : Type 0 where
  a_number : ℕ → Seen
  a_report : Report → Seen
  a_written : Written → Seen

unfoldable pub seen_of : Call streams → Answer → Seen
seen_of start a = a_number (report_of a).number
seen_of (open' id) a = a_report (report_of a)
seen_of (on id o) a = a_report (report_of a)
seen_of (goaway id room) a = a_written (written_of id a)

abbrev pub seen_in : Entry streams → Seen
seen_in e = seen_of e.asked e.answer

-- ONE LENT CALL, as its promise has it: which call of a trace it is, what the host sees, and what is left
pub data Does (c : Connection) (rows : List Record) : Call streams → Seen → Connection → List Record → Type 0 where
  starts : {c' : Connection} {rows' : List Record} {n : ℕ} → Started c rows c' rows' n → Does c rows start (a_number n) c' rows'
  opens_one : {c' : Connection} {rows' : List Record} {r : Report} {id : ℕ} → Opened c rows id c' rows' r → Does c rows (open' id) (a_report r) c' rows'
  feeds : {c' : Connection} {rows' : List Record} {r : Report} {id allow : ℕ} {piece : List ℕ} → Fed c rows id piece allow c' rows' r → Does c rows (on id (feed allow piece)) (a_report r) c' rows'
  gives : {c' : Connection} {rows' : List Record} {r : Report} {id : ℕ} {block : List ℕ} → Given c rows id block c' rows' r → Does c rows (on id (section block)) (a_report r) c' rows'
  ends : {c' : Connection} {rows' : List Record} {r : Report} {id : ℕ} → Ended c rows id c' rows' r → Does c rows (on id end) (a_report r) c' rows'
  resets : {c' : Connection} {rows' : List Record} {r : Report} {id : ℕ} → Reset c rows id c' rows' r → Does c rows (on id reset) (a_report r) c' rows'
  goes_away : {c' : Connection} {w : Written} {id : ℕ} {room room' : List ℕ} → SaidGoaway c id room c' room' w → Does c rows (goaway id (length room)) (a_written w) c' rows

-- CALL AFTER CALL, each on what the one before has left
pub data Runs : Connection → List Record → List (Call streams) → List Seen → Connection → List Record → Type 0 where
  no_more : {c : Connection} {rows : List Record} → Runs c rows [] [] c rows
  and_then : {c : Connection} {rows : List Record} {k : Call streams} {x : Seen} {d : Connection} {row : List Record} {ks : List (Call streams)} {xs : List Seen} {c' : Connection} {rows' : List Record}
      → Does c rows k x d row → Runs d row ks xs c' rows' → Runs c rows (k ∷ ks) (x ∷ xs) c' rows'

-- ---- they are the trace's

-- one call
pub record Done (c : Connection) (rows : List Record) (k : Call streams) (x : Seen) (c' : Connection) (rows' : List Record) : Type 0 where
  pub after : pair_of c' rows' ≡ (call k (pair_of c rows)).after
  pub seen : x ≡ seen_of k (call k (pair_of c rows)).answer
  pub stands : Stands c' rows'

module _ {c : Connection} {rows : List Record} (s : Stands c rows) where
  on_stream : {core : CoreCall} {id allow : ℕ} {piece : List ℕ} {c' : Connection} {rows' : List Record} {r : Report} (k : Call streams) → call_of core id allow piece ≡ k → ((a : Answer) → seen_of k a ≡ a_report (report_of a)) → Stepped c rows core id allow piece c' rows' r
      → Done c rows k (a_report r) c' rows'
  on_stream k e v m = let t = stepped_traced s m in record {
    after = t.after ∙ ap (λ y. (call y (pair_of c rows)).after) e;
    seen = ap a_report t.answer ∙ ap (λ y. a_report (report_of (call y (pair_of c rows)).answer)) e ∙ sym (v (call k (pair_of c rows)).answer);
    stands = stepped_stands s m;
  }

  pub does_so : {k : Call streams} {x : Seen} {c' : Connection} {rows' : List Record} → Does c rows k x c' rows' → Done c rows k x c' rows'
  unfolding seen_of call_of by_own call same report_of
  does_so (starts m) = let long = s.paired.long in record { after = started_fresh long m; seen = ap a_number (started_number long m); stands = started_stands long m }
  does_so (opens_one {id = id} m) = on_stream (open' id) refl (λ a. refl) m
  does_so (feeds {id = id} {allow = allow} {piece = piece} m) = on_stream (on id (feed allow piece)) refl (λ a. refl) m
  does_so (gives {id = id} {block = block} m) = on_stream (on id (section block)) refl (λ a. refl) m
  does_so (ends {id = id} m) = on_stream (on id end) refl (λ a. refl) m
  does_so (resets {id = id} m) = on_stream (on id reset) refl (λ a. refl) m
  does_so (goes_away m) = let t = said_traced s m in record { after = t.after; seen = ap a_written t.answer; stands = said_stands s m }

-- any number of calls
pub record Ran (c : Connection) (rows : List Record) (ks : List (Call streams)) (xs : List Seen) (c' : Connection) (rows' : List Record) : Type 0 where
  pub after : pair_of c' rows' ≡ run (pair_of c rows) ks
  pub seen : xs ≡ map seen_in (trace (pair_of c rows) ks)
  pub stands : Stands c' rows'

pub runs_so : {c : Connection} {rows : List Record} {ks : List (Call streams)} {xs : List Seen} {c' : Connection} {rows' : List Record} → Stands c rows → Runs c rows ks xs c' rows' → Ran c rows ks xs c' rows'
unfolding run trace
runs_so s no_more = record { after = refl; seen = refl; stands = s }
runs_so {c} {rows} s (and_then {k = k} {x = x} {ks = ks} {xs = xs} m more) =
    let d = does_so s m in
    let e = runs_so d.stands more in
    let q = d.after in
    record {
      after = e.after ∙ ap (λ p. run p ks) q;
      seen = ap (λ y. y ∷ xs) d.seen ∙ ap (λ y. seen_of k (call k (pair_of c rows)).answer ∷ y) (e.seen ∙ ap (λ p. map seen_in (trace p ks)) q);
      stands = e.stands;
    }

-- FROM ONE START ON: what the host has seen is the trace, and what it holds means what the trace leaves
module _ {c₀ : Connection} {rows₀ : List Record} {c : Connection} {rows : List Record} {n : ℕ} (long : length rows₀ ≡ 24) (begun : Started c₀ rows₀ c rows n)
    {ks : List (Call streams)} {xs : List Seen} {c' : Connection} {rows' : List Record} (m : Runs c rows ks xs c' rows') where
  pub from_start : (pair_of c' rows' ≡ run fresh ks) × (xs ≡ map seen_in (trace fresh ks)) × Stands c' rows'
  from_start =
      let r = runs_so (started_stands long begun) m in
      let e = started_fresh long begun in
      (r.after ∙ ap (λ p. run p ks) e, r.seen ∙ ap (λ p. map seen_in (trace p ks)) e, r.stands)

-- ---- what is stored back as it was

-- a turn that leaves the connection and the record found
record Untouched (c : Connection) (f : Found) (t : Turn) : Type 0 where
  conn : t.conn ≡ c
  row : t.row ≡ f.row

unaltered_so : {c : Connection} {f : Found} {t : Turn} (k : ℕ) → t ≡ unaltered k c f → Untouched c f t
unaltered_so k q = record { conn = ap (λ y. y.conn) q; row = ap (λ y. y.row) q }

module _ {c : Connection} {rows : List Record} {core : CoreCall} {id allow : ℕ} {piece : List ℕ} {c' : Connection} {rows' : List Record} {r : Report} (m : Stepped c rows core id allow piece c' rows' r) where
  stored : Untouched c m.found m.turn → (c' ≡ c) × (rows' ≡ rows)
  stored u = (m.conn_left ∙ u.conn, m.rows_left ∙ ap (set rows m.found.at) (u.row ∙ m.is_found.row) ∙ set-get_or rows m.found.at free_record)

-- ---- a row of another length: 9, before all else, and nothing altered

module _ {c : Connection} {rows : List Record} {core : CoreCall} {id allow : ℕ} {piece : List ℕ} {c' : Connection} {rows' : List Record} {r : Report} (other : ¬ (length rows ≡ 24)) (m : Stepped c rows core id allow piece c' rows' r) where
  pub nine : (c' ≡ c) × (rows' ≡ rows) × (r ≡ report_of (house row-refused))
  unfolding report_of
  nine = let q = by m.turned in let u = stored m (unaltered_so 9 q) in (u.0, u.1, m.answered ∙ ap (λ t. t.report) q)
    where
      short : m.found.len ≡ 24 → ⊥
      short e = other (sym m.is_found.long ∙ e)

      by : {t : Turn} → Turned c m.found core id allow piece t → t ≡ unaltered OTHER-ROW c m.found
      by (other_row x q) = q
      by (dead l x q) = absurd (short l)
      by (opens v e q) = absurd (short v.long)
      by (not_open v x s q) = absurd (short v.long)
      by (request v x l o q s) = absurd (short v.long)
      by (one_way v x l h q s) = absurd (short v.long)

-- and so a start
module _ {c : Connection} {rows : List Record} {c' : Connection} {rows' : List Record} {n : ℕ} (other : ¬ (length rows ≡ 24)) (m : Started c rows c' rows' n) where
  pub start_nine : (c' ≡ c) × (rows' ≡ rows) × (n ≡ (report_of (house row-refused)).number)
  unfolding report_of
  start_nine = let q = sym (begun_other c (length rows) other) in (m.conn_left ∙ ap (λ b. b.conn) q, m.rows_left ∙ swept rows, m.answered ∙ ap (λ b. b.number) q)
    where
      swept : (rs : List Record) → map (swept_of (length rows)) rs ≡ rs
      swept [] = refl
      swept (r ∷ rs) = let e : swept_of (length rows) r ≡ r = sym (swept_other (length rows) r other refl) in rw e (ap (λ x. r ∷ x) (swept rs))

-- ---- a number of the house, or a dead connection: nothing altered, byte for byte

abbrev pub OfHouse : ℕ → Type 0
OfHouse n = (1 ≤ n) × (n ≤ 9)

-- a number that frees no record
abbrev FreesNone : ℕ → Type 0
FreesNone n = OfHouse n ⊎ Fault n

not_zero : FreesNone 0 → ⊥
not_zero (inl h) = omega arith
not_zero (inr (f, e)) = let h = code_high (of_connection f) in omega arith

-- a request's record
record AsIs (r : Record) (a : Reply) : Type 0 where
  row : FreesNone a.number → a.row ≡ r

module _ (r : Record) where
  same_as_is : (n e s l u h : ℕ) → AsIs r (reply.reply n e s l u h r)
  same_as_is n e s l u h = record { row = λ z. refl }

  code_as_is : (k : Code) (u h : ℕ) → let n = code_number k in AsIs r (reply.reply n 0 0 0 u h (left_by n r))
  code_as_is k u h = record { row = by }
    where
      by : FreesNone (code_number k) → left_by (code_number k) r ≡ r
      by (inl x) = let l = code_high k in absurd (omega arith)
      by (inr (f, e)) = ap (λ n. left_by n r) e ∙ connection_leaves f r

  zero_as_is : (q : Record) (e s l u h : ℕ) → AsIs r (reply.reply 0 e s l u h q)
  zero_as_is q e s l u h = record { row = λ z. absurd (not_zero z) }

  said_as_is : (u h : ℕ) (e : F.Event) (o : Outcome Message) → AsIs r (reply.said_by r u h e o)
  unfolding reply.said_by
  said_as_is u h F.quiet (M.dies n) = code_as_is n u h
  said_as_is u h (F.content_bytes len) (M.dies n) = code_as_is n u h
  said_as_is u h (F.section_bytes len false) (M.dies n) = code_as_is n u h
  said_as_is u h (F.section_bytes len true) (M.dies n) = code_as_is n u h
  said_as_is u h (F.taken k payload) (M.dies n) = code_as_is n u h
  said_as_is u h F.quiet (M.lives x) = zero_as_is _ _ _ _ _ _
  said_as_is u h (F.content_bytes len) (M.lives x) = zero_as_is _ _ _ _ _ _
  said_as_is u h (F.section_bytes len false) (M.lives x) = zero_as_is _ _ _ _ _ _
  said_as_is u h (F.section_bytes len true) (M.lives x) = zero_as_is _ _ _ _ _ _
  said_as_is u h (F.taken k payload) (M.lives x) = zero_as_is _ _ _ _ _ _

  due_as_is : (x y : Reply) (s : State Message) → AsIs r x → AsIs r y → AsIs r (reply.unless_due s x y)
  unfolding reply.unless_due
  due_as_is x y (M.in_type g m) a b = b
  due_as_is x y (M.in_length t g m) a b = b
  due_as_is x y (M.in_payload u k l m) a b = b
  due_as_is x y (M.due t m) a b = a

  taken_as_is : (o : Outcome Message) → AsIs r (reply.taken_as r o)
  unfolding reply.taken_as
  taken_as_is (M.dies n) = code_as_is n 0 0
  taken_as_is (M.lives x) = zero_as_is _ _ _ _ _ _

  read_as_is : (s : State Message) (l : Lines) → AsIs r (reply.read_as r s l)
  unfolding reply.read_as
  read_as_is s (unreadable f) = same_as_is _ _ _ _ _ _
  read_as_is s (readable block) = taken_as_is (M.given (asked.request document) block s)

  end_as_is : (v : Verdict) → AsIs r (reply.ended_by r v)
  unfolding reply.ended_by
  end_as_is whole = zero_as_is _ _ _ _ _ _
  end_as_is (fault n place) = code_as_is n 0 0
  end_as_is (waits place) = same_as_is _ _ _ _ _ _

  request_as_is : (own : CoreOwn) (allow : ℕ) (piece : List ℕ) (s : State Message) → AsIs r (request_as own allow piece r s)
  request_as_is own allow piece s =
      let f = F.feed (asked.request document) allow s piece in
      by_any (AsIs r) own
      (λ z. due_as_is _ _ s (same_as_is 4 0 0 0 0 0) (said_as_is f.used f.heads f.event f.after))
      (due_as_is _ _ s (read_as_is s (lines piece)) (same_as_is 5 0 0 0 0 0))
      (end_as_is (M.finish (asked.request document) 0 s))
      (zero_as_is _ _ _ _ _ _)

-- a one-way stream's record, and the connection's side
record AsIs₁ (r : Record) (d : Side) (a : Heard) : Type 0 where
  row : FreesNone a.number → a.row ≡ r
  side : FreesNone a.number → a.side ≡ d

module _ (r : Record) (d : Side) where
  same_as_is₁ : (n u h : ℕ) → AsIs₁ r d (side.heard n 0 0 0 u h 0 r d)
  same_as_is₁ n u h = record { row = λ z. refl; side = λ z. refl }

  zero_as_is₁ : (q : Record) (x : Side) (e s l u h v : ℕ) → AsIs₁ r d (side.heard 0 e s l u h v q x)
  zero_as_is₁ q x e s l u h v = record { row = λ z. absurd (not_zero z); side = λ z. absurd (not_zero z) }

  said_as_is₁ : (u h : ℕ) (e : OneEvent) (o : OneOutcome) → AsIs₁ r d (side.said_by r d u h e o)
  unfolding side.said_by
  said_as_is₁ u h (O.of_frames e) (O.dies n) = same_as_is₁ (code_number n) u h
  said_as_is₁ u h (O.qpack_bytes q len) (O.dies n) = same_as_is₁ (code_number n) u h
  said_as_is₁ u h (O.of_frames e) (O.lives x) = zero_as_is₁ _ _ _ _ _ _ _ _
  said_as_is₁ u h (O.qpack_bytes q len) (O.lives x) = zero_as_is₁ _ _ _ _ _ _ _ _

  close_as_is₁ : (n : ℕ) → AsIs₁ r d (side.closed_by r d n)
  unfolding side.closed_by
  close_as_is₁ zero = zero_as_is₁ _ _ _ _ _ _ _ _
  close_as_is₁ (suc n) = same_as_is₁ (suc n) 0 0

  one_way_as_is : (own : CoreOwn) (allow : ℕ) (piece : List ℕ) (s : OneState) → AsIs₁ r d (one_way_as own allow piece r d s)
  one_way_as_is own allow piece s =
      let f = side.feeding d allow piece s in
      by_any (AsIs₁ r d) own (λ z. said_as_is₁ f.used f.heads f.event f.after) (same_as_is₁ 5 0 0) (close_as_is₁ (closes s)) (close_as_is₁ (closes s))

-- the turn
module _ {c : Connection} {f : Found} {core : CoreCall} {id allow : ℕ} {piece : List ℕ} {t : Turn} where
  house_turned : Turned c f core id allow piece t → OfHouse t.report.number → Untouched c f t
  house_turned (other_row x q) z = unaltered_so _ q
  house_turned (dead l x q) z = unaltered_so _ q
  house_turned (opens v e q) z =
      let k : t.report.number ≡ (opened_at c f id).report.number = ap (λ y. y.report.number) q in
      unaltered_so _ (q ∙ opening_refused c f id (λ e. omega arith) (λ e. omega arith))
  house_turned (not_open v x s q) z = unaltered_so _ q
  house_turned (request {own} v x l o q s) z =
      let a = request_as own allow piece f.row (state_in f.row) in
      let k : t.report.number ≡ a.number = ap (λ y. y.report.number) q in
      let i = request_as_is f.row own allow piece (state_in f.row) in
      record { conn = ap (λ y. y.conn) q ∙ sym (kept_small c a.number (omega arith)); row = ap (λ y. y.row) q ∙ i.row (inl (omega arith, omega arith)) }
  house_turned (one_way {own} v x l h q s) z =
      let a = one_way_as own allow piece f.row (side_in c) (state_here f.row (side_in c)) in
      let k : t.report.number ≡ a.number = ap (λ y. y.report.number) q in
      let i = one_way_as_is f.row (side_in c) own allow piece (state_here f.row (side_in c)) in
      record {
        conn = ap (λ y. y.conn) q ∙ sym (kept_small (with_side c a.side) a.number (omega arith)) ∙ ap (with_side c) (i.side (inl (omega arith, omega arith)));
        row = ap (λ y. y.row) q ∙ i.row (inl (omega arith, omega arith));
      }

  -- and a connection fault of a call on a stream: the code, and all else byte for byte
  fault_turned : {own : CoreOwn} → core ≡ CoreCall.On own → Turned c f core id allow piece t → Fault t.report.number → (t.conn ≡ with_code t.report.number c) × (t.row ≡ f.row)
  fault_turned b (other_row x q) z = let k : t.report.number ≡ OTHER-ROW = ap (λ y. y.report.number) q in let h = code_high (of_connection z.0) in let e = z.1 in absurd (omega arith)
  fault_turned b (dead l x q) z = let k : t.report.number ≡ c.doors.code = ap (λ y. y.report.number) q in (ap (λ y. y.conn) q ∙ ap (λ y. with_code y c) (sym k), ap (λ y. y.row) q)
  fault_turned b (opens v e q) z = absurd (open_not_on e b)
  fault_turned b (not_open v x s q) z = let k : t.report.number ≡ NOT-OPEN = ap (λ y. y.report.number) q in let h = code_high (of_connection z.0) in let e = z.1 in absurd (omega arith)
  fault_turned b (request {own} v x l o q s) z =
      let a = request_as own allow piece f.row (state_in f.row) in
      let k : t.report.number ≡ a.number = ap (λ y. y.report.number) q in
      let i = request_as_is f.row own allow piece (state_in f.row) in
      (ap (λ y. y.conn) q ∙ sym (kept_fault c a.number (z.0, sym k ∙ z.1)) ∙ ap (λ y. with_code y c) (sym k), ap (λ y. y.row) q ∙ i.row (inr (z.0, sym k ∙ z.1)))
  fault_turned b (one_way {own} v x l h q s) z =
      let a = one_way_as own allow piece f.row (side_in c) (state_here f.row (side_in c)) in
      let k : t.report.number ≡ a.number = ap (λ y. y.report.number) q in
      let i = one_way_as_is f.row (side_in c) own allow piece (state_here f.row (side_in c)) in (
        ap (λ y. y.conn) q ∙ sym (kept_fault (with_side c a.side) a.number (z.0, sym k ∙ z.1)) ∙ ap (λ y. with_code a.number (with_side c y)) (i.side (inr (z.0, sym k ∙ z.1))) ∙ ap (λ y. with_code y c) (sym k),
        ap (λ y. y.row) q ∙ i.row (inr (z.0, sym k ∙ z.1)),
      )

  dead_turned : Turned c f core id allow piece t → ¬ (c.doors.code ≡ 0) → Untouched c f t
  dead_turned (other_row x q) z = unaltered_so _ q
  dead_turned (dead l x q) z = unaltered_so _ q
  dead_turned (opens v e q) z = absurd (z v.alive)
  dead_turned (not_open v x s q) z = absurd (z v.alive)
  dead_turned (request v x l o q s) z = absurd (z v.alive)
  dead_turned (one_way v x l h q s) z = absurd (z v.alive)

-- our GOAWAY, with any number but 0
module _ {c c' : Connection} {id : ℕ} {room room' : List ℕ} {w : Written} (m : SaidGoaway c id room c' room' w) where
  abbrev written_by : Write → Goaway
  written_by x = sending_of (doors_in c) (stream_id id) x

  number_is : w.number ≡ (written_by (write_of c.doors.code (doors_in c) id (length room))).number
  number_is = ap (λ y. y.number) m.answered ∙ ap (λ y. y.written.number) m.goes.is ∙ ap (λ y. y.number) m.goes.sends.answers

  pub goaway_refused : ¬ (w.number ≡ 0) → (c' ≡ c) × (room' ≡ room)
  unfolding sending_of left_in
  goaway_refused z =
      by (write_of c.doors.code (doors_in c) id (length room)) (m.conn_left ∙ ap (λ y. with_doors c y.doors) m.goes.is ∙ ap (λ y. with_doors c y.doors) m.goes.sends.answers) number_is m.goes.sends.leaves
    where
      by : (x : Write) → c' ≡ with_doors c (written_by x).doors → w.number ≡ (written_by x).number → room' ≡ left_in x room → (c' ≡ c) × (room' ≡ room)
      by (refused k) a b e = (a, e)
      by (wrote bytes) a b e = absurd (z b)

  dead_number : ¬ (c.doors.code ≡ 0) → ¬ (w.number ≡ 0)
  dead_number z e = by c.doors.code z (sym number_is ∙ e)
    where
      by : (k : ℕ) → ¬ (k ≡ 0) → (written_by (write_of k (doors_in c) id (length room))).number ≡ 0 → ⊥
      by zero z e = z refl
      by (suc k) z e = let x : suc k ≡ 0 = (unfold write_of sending_of in e) in omega arith

-- the number that the host sees
unfoldable pub number_in : Seen → ℕ
number_in (a_number n) = n
number_in (a_report r) = r.number
number_in (a_written w) = w.number

-- refused with a number of the house, or because the connection is dead
pub data Refuses (c : Connection) (k : Call streams) (x : Seen) : Type 0 where
  by_house : OfHouse (number_in x) → Refuses c k x
  by_death : Later k → ¬ (c.doors.code ≡ 0) → Refuses c k x

-- the room is lent to our GOAWAY alone
abbrev pub RoomAsIs : {c : Connection} {rows : List Record} {k : Call streams} {x : Seen} {c' : Connection} {rows' : List Record} → Does c rows k x c' rows' → Type 0
RoomAsIs (starts m) = Unit {0}
RoomAsIs (opens_one m) = Unit {0}
RoomAsIs (feeds m) = Unit {0}
RoomAsIs (gives m) = Unit {0}
RoomAsIs (ends m) = Unit {0}
RoomAsIs (resets m) = Unit {0}
RoomAsIs (goes_away {room = room} {room' = room'} m) = room' ≡ room

said_nothing : {c c' : Connection} {w : Written} {id : ℕ} {room room' : List ℕ} (k : Call streams) → SaidGoaway c id room c' room' w → Refuses c k (a_written w) → (c' ≡ c) × (room' ≡ room)
unfolding number_in
said_nothing k m (by_house z) = goaway_refused m (λ e. omega arith)
said_nothing k m (by_death l z) = goaway_refused m (dead_number m z)

module _ {c : Connection} {rows : List Record} where
  stepped_nothing : {core : CoreCall} {id allow : ℕ} {piece : List ℕ} {c' : Connection} {rows' : List Record} {r : Report} (k : Call streams) → Stepped c rows core id allow piece c' rows' r → Refuses c k (a_report r) → (c' ≡ c) × (rows' ≡ rows)
  unfolding number_in
  stepped_nothing k m (by_house z) = let e = ap (λ y. y.number) m.answered in stored m (house_turned m.turned (omega (arith, z.0), omega (arith, z.1)))
  stepped_nothing k m (by_death l z) = stored m (dead_turned m.turned z)

  started_nothing : {c' : Connection} {rows' : List Record} {n : ℕ} → Started c rows c' rows' n → Refuses c start (a_number n) → (c' ≡ c) × (rows' ≡ rows)
  unfolding number_in
  started_nothing m (by_house z) = let u = start_nine (λ l. (let e = m.answered ∙ ap (λ b. b.number) (sym (begun_fresh c (length rows) l refl)) in omega arith)) m in (u.0, u.1)
  started_nothing m (by_death l z) = absurd l

  -- IT DOES NOTHING: the connection's record, every record of the row, and the room are as they were
  pub does_nothing : {k : Call streams} {x : Seen} {c' : Connection} {rows' : List Record} (m : Does c rows k x c' rows') → Refuses c k x → (c' ≡ c) × (rows' ≡ rows) × RoomAsIs m
  does_nothing (starts m) z = let u = started_nothing m z in (u.0, u.1, tt)
  does_nothing (opens_one {id = id} m) z = let u = stepped_nothing (open' id) m z in (u.0, u.1, tt)
  does_nothing (feeds {id = id} {allow = allow} {piece = piece} m) z = let u = stepped_nothing (on id (feed allow piece)) m z in (u.0, u.1, tt)
  does_nothing (gives {id = id} {block = block} m) z = let u = stepped_nothing (on id (section block)) m z in (u.0, u.1, tt)
  does_nothing (ends {id = id} m) z = let u = stepped_nothing (on id end) m z in (u.0, u.1, tt)
  does_nothing (resets {id = id} m) z = let u = stepped_nothing (on id reset) m z in (u.0, u.1, tt)
  does_nothing (goes_away {id = id} {room = room} m) z = let u = said_nothing (goaway id (length room)) m z in (u.0, refl, u.1)

-- A CONNECTION FAULT of a call on a stream: the code is kept, every other number of the connection's record and every record of the row is as it was
pub fault_alters : {c : Connection} {rows : List Record} {core : CoreCall} {id allow : ℕ} {piece : List ℕ} {c' : Connection} {rows' : List Record} {r : Report} {own : CoreOwn} → core ≡ CoreCall.On own → Stepped c rows core id allow piece c' rows' r → Fault r.number
    → (c' ≡ with_code r.number c) × (rows' ≡ rows)
fault_alters {c} {rows} b m z =
    let e = ap (λ y. y.number) m.answered in
    let u = fault_turned b m.turned (z.0, sym e ∙ z.1) in
    (m.conn_left ∙ u.0 ∙ ap (λ k. with_code k c) (sym e), m.rows_left ∙ ap (set rows m.found.at) (u.1 ∙ m.is_found.row) ∙ set-get_or rows m.found.at free_record)

-- ---- settings that are reported are those that are kept (the report has no room for them: the host reads them in the connection's record)

-- what has been said, beside an event that reports settings
abbrev SaidSo : Event → Control → Type 0
SaidSo quiet p = Unit {0}
SaidSo (section_bytes from len last) p = Unit {0}
SaidSo (content_bytes from len) p = Unit {0}
SaidSo (notice (qpack_bytes type from len)) p = Unit {0}
SaidSo (notice (settings size capacity blocked)) p = p ≡ say.set (record { section_size = size; table_capacity = capacity; blocked_streams = blocked }) none none
SaidSo (notice (client_goaway id)) p = Unit {0}
SaidSo (notice (max_push_id id)) p = Unit {0}

abbrev OutSays : Out (Held streams) → Type 0
OutSays (refuse h) = Unit {0}
OutSays (step done x) = Unit {0}
OutSays (step (fed u h e) x) = SaidSo e x.kept.said
OutSays (leave l) = Unit {0}
OutSays (trace.fault k u h) = Unit {0}

settings_said : (n : Next Settings) (next : Control) → say.after_settings n ≡ go next → SaidSo (notice_of (say.settings_in n)) next
unfolding say.after_settings say.settings_in notice_of
settings_said (stop n) next e = tt
settings_said (go s) next e = let q : say.set s none none ≡ next = cc in sym q

id_said : (o : Option ℕ) (next : Control) → SaidSo (notice_of (say.id_in say.told_goaway o)) next × SaidSo (notice_of (say.id_in say.told_max_push_id o)) next
unfolding say.id_in notice_of
id_said none next = (tt, tt)
id_said (some id) next = (tt, tt)

judged_said : (k : Payload) (place next : Control) (payload : List ℕ) → ControlFits (kept k) place → say.judged k place payload ≡ go next → SaidSo (notice_of (say.tells k payload)) next
unfolding say.judged say.tells notice_of
judged_said reading.settings place next payload f e = settings_said (say.settings_of payload) next (rw f at e)
judged_said reading.goaway place next payload f e = (id_said (say.only (integer 0 payload)) next).0
judged_said reading.max_push_id place next payload f e = (id_said (say.only (integer 0 payload)) next).1
judged_said reading.cancel_push place next payload f e = tt

controlled_is : {y : OneState} {s : State Control} → O.lives y ≡ O.controlled (M.lives s) → y ≡ O.in_control s
unfolding O.controlled
controlled_is e = cc

module _ (k : Keeps) where
  abbrev AskSays : Out (State Message) → Type 0
  AskSays o = OutSays (map_out (λ x. record { stream = asking x; kept = k }) o)

  either_says : (b : Bool) (x y : Out (State Message)) → AskSays x → AskSays y → AskSays (either b x y)
  unfolding either
  either_says true x y f g = f
  either_says false x y f g = g

  fed_says : (u h : ℕ) (e : F.Event) (o : Outcome Message) → AskSays (of_fed (fed_by u h e o))
  unfolding of_fed fed_by event_of map_out
  fed_says u h F.quiet (M.lives s) = tt
  fed_says u h (F.section_bytes len last) (M.lives s) = tt
  fed_says u h (F.content_bytes len) (M.lives s) = tt
  fed_says u h (F.taken f payload) (M.lives s) = tt
  fed_says u h e (M.dies n) = tt

  given_says : (o : Outcome Message) → AskSays (of_given (given_by o))
  unfolding of_given given_by map_out
  given_says (M.lives s) = tt
  given_says (M.dies n) = tt

  ended_says : (v : Verdict) → AskSays (of_ended (ended_by v))
  unfolding of_ended ended_by map_out
  ended_says whole = tt
  ended_says (fault n place) = tt
  ended_says (waits place) = tt

  ask_says : (s : State Message) (o : Own streams) → OutSays (act_on k (asking s) o)
  unfolding act_on act map_out
  ask_says s (feed allow piece) = let g = F.feed (asked.request document) allow s piece in either_says (is_due s) (refuse section_due) (of_fed (fed_by g.used g.heads g.event g.after)) tt (fed_says g.used g.heads g.event g.after)
  ask_says s (section b) = let o = M.given (asked.request document) (section_of (lines b)) s in
      either_says (is_due s) (either (is_readable (lines b)) (of_given (given_by o)) (refuse numbers.unreadable)) (refuse no_section) (either_says (is_readable (lines b)) (of_given (given_by o)) (refuse numbers.unreadable) (given_says o) tt) tt
  ask_says s end = either_says (is_due s) (refuse section_due) (of_ended (ended_by (M.finish (asked.request document) 0 s))) tt (ended_says (M.finish (asked.request document) 0 s))
  ask_says s reset = tt

  abbrev TellSays : Out (record { state : OneState; kept : Keeps }) → Type 0
  TellSays o = OutSays (map_out (λ x. record { stream = telling x.state; kept = x.kept }) o)

  heard_says : (u h : ℕ) (e : OneEvent) (o : OneOutcome) → OneTells e o → TellSays (of_fed (heard_by k u h e o))
  unfolding of_fed heard_by one_event frames_event map_out
  heard_says u h (O.of_frames F.quiet) (O.lives s) w = tt
  heard_says u h (O.of_frames (F.section_bytes len last)) (O.lives s) w = tt
  heard_says u h (O.of_frames (F.content_bytes len)) (O.lives s) w = tt
  heard_says u h (O.of_frames (F.taken f payload)) (O.lives s) (o, q, j) =
      let z : s ≡ O.in_control (M.between j.next) = controlled_is (q ∙ ap O.controlled j.left) in
      rw z (unfold kept_by place_in in judged_said f j.place j.next payload j.fits j.is)
  heard_says u h (O.qpack_bytes q len) (O.lives s) w = tt
  heard_says u h e (O.dies n) w = tt

  closed_says : (c : Option ConnectionFault) → TellSays (of_closed c)
  unfolding of_closed map_out
  closed_says none = tt
  closed_says (some c) = tt

  tell_says : (w : OneState) → OneSuits w → (o : Own streams) → OutSays (act_on k (telling w) o)
  unfolding act_on act₁ map_out
  tell_says w f (feed allow piece) = let g = O.feed (types_in k) allow w piece in heard_says g.used g.heads g.event g.after (one_suits (types_in k) allow w f piece).event
  tell_says w f (section b) = tt
  tell_says w f end = closed_says (close_of w)
  tell_says w f reset = closed_says (close_of w)

act_says : (k : Keeps) (s : Stream streams) → StreamSuits s → (o : Own streams) → OutSays (act_on k s o)
act_says k (asking s) f o = ask_says k s o
act_says k (telling w) f o = tell_says k w f o

-- every call
abbrev AnswerSays : Answer → Control → Type 0
AnswerSays (gave done) p = Unit {0}
AnswerSays (gave (fed u h e)) p = SaidSo e p
AnswerSays (left l) p = Unit {0}
AnswerSays (house h) p = Unit {0}
AnswerSays (code k u h) p = Unit {0}

gave_says : (g : Gave) (x : Held streams) → OutSays (step g x) → AnswerSays (gave g) x.kept.said
gave_says done x h = tt
gave_says (fed u w e) x h = h

went_says : {p p' : Pair streams} {k : Call streams} {a : Answer} → RowSuits p.row → Went p k a p' → AnswerSays a p'.conn.kept.said
unfolding keeping
went_says h went.restarted = tt
went_says h (went.still_dead e) = tt
went_says h (went.by_house e) = tt
went_says h (went.barring e k n l b) = tt
went_says h (went.faulting e f) = tt
went_says h (went.dying e f) = tt
went_says h (went.opening e k n l b q) = tt
went_says {p} h (went.stepping {id = id} {o = o} {s = s} {g = g} x e f w) = gave_says g x (subst OutSays w (act_says p.conn.kept s (found_suits id s p.row h f) o))
went_says h (went.leaving e f) = tt
went_says h (went.sending e g l) = tt

-- event 8 is settings
record IsSettings (a : Answer) (r : Report) : Type 0 where
  size : Option ℕ
  capacity : ℕ
  blocked : ℕ
  is : a ≡ gave (fed r.used r.heads (notice (settings size capacity blocked)))

event_eight : (a : Answer) → (report_of a).event ≡ SETTINGS → IsSettings a (report_of a)
unfolding report_of reported noticed
event_eight (gave done) e = absurd (omega arith)
event_eight (gave (fed u h quiet)) e = absurd (omega arith)
event_eight (gave (fed u h (section_bytes from len true))) e = absurd (omega arith)
event_eight (gave (fed u h (section_bytes from len false))) e = absurd (omega arith)
event_eight (gave (fed u h (content_bytes from len))) e = absurd (omega arith)
event_eight (gave (fed u h (notice (qpack_bytes type from len)))) e = absurd (omega arith)
event_eight (gave (fed u h (notice (settings size capacity blocked)))) e = record { size = size; capacity = capacity; blocked = blocked; is = refl }
event_eight (gave (fed u h (notice (client_goaway id)))) e = absurd (omega arith)
event_eight (gave (fed u h (notice (max_push_id id)))) e = absurd (omega arith)
event_eight (left trace.whole) e = absurd (omega arith)
event_eight (left trace.freed) e = absurd (omega arith)
event_eight (house n) e = absurd (omega arith)
event_eight (code k u h) e = absurd (omega arith)

is_eight : (a : Answer) {r : Report} → r ≡ report_of a → r.event ≡ SETTINGS → IsSettings a r
is_eight a q e = subst (IsSettings a) (sym q) (event_eight a (sym (ap (λ y. y.event) q) ∙ e))

-- the settings in a connection's record
pub record SettingsAre (c : Connection) (size : Option ℕ) (capacity blocked : ℕ) : Type 0 where
  pub have_come : ¬ (c.side.kept.set ≡ 0)
  pub section_size : some_if c.side.kept.limited c.side.kept.size ≡ size
  pub table_capacity : c.side.kept.capacity ≡ capacity
  pub blocked_streams : c.side.kept.blocked ≡ blocked

settings_are : (c : Connection) (s : Settings) → control_of (side_in c).kept ≡ say.set s none none → SettingsAre c s.section_size s.table_capacity s.blocked_streams
settings_are c s e = by c.side.kept.set refl e
  where
    by : (n : ℕ) → c.side.kept.set ≡ n → control_at n (side_in c).kept ≡ say.set s none none → SettingsAre c s.section_size s.table_capacity s.blocked_streams
    by zero q e = let z : ◌≡◌ {A = ℕ} 0 1 = (unfold control_at in cc) in absurd (omega arith)
    by (suc n) q e = let z : limits_is (side_in c).kept ≡ s = (unfold control_at in cc) in
        record { have_come = λ x. omega arith; section_size = ap (λ y. y.section_size) z; table_capacity = ap (λ y. y.table_capacity) z; blocked_streams = ap (λ y. y.blocked_streams) z }

told_kept : (c : Connection) {a : Answer} {r : Report} (i : IsSettings a r) {p : Control} → AnswerSays a p → control_of (side_in c).kept ≡ p → SettingsAre c i.size i.capacity i.blocked
told_kept c i {p} h q = settings_are c (record { section_size = i.size; table_capacity = i.capacity; blocked_streams = i.blocked }) (q ∙ subst (λ y. AnswerSays y p) i.is h)

-- SETTINGS: where event 8 is reported, the trace's answer reports settings, and the connection's record then holds those
pub record ToldSettings (k : Call streams) (p : Pair streams) (c' : Connection) (r : Report) : Type 0 where
  pub size : Option ℕ
  pub capacity : ℕ
  pub blocked : ℕ
  pub told_so : (call k p).answer ≡ gave (fed r.used r.heads (notice (settings size capacity blocked)))
  pub kept_so : SettingsAre c' size capacity blocked

pub report_seen : (k : Call streams) (a : Answer) {r : Report} → a_report r ≡ seen_of k a → r ≡ report_of a
unfolding seen_of
report_seen start a e = let z : ◌≡◌ {A = ℕ} 0 1 = cc in absurd (omega arith)
report_seen (open' id) a e = cc
report_seen (on id o) a e = cc
report_seen (goaway id room) a e = let z : ◌≡◌ {A = ℕ} 0 1 = cc in absurd (omega arith)

pub settings_kept_lem : {c : Connection} {rows : List Record} {k : Call streams} {r : Report} {c' : Connection} {rows' : List Record} → Stands c rows → Does c rows k (a_report r) c' rows' → r.event ≡ SETTINGS → ToldSettings k (pair_of c rows) c' r
settings_kept_lem {c} {rows} {k} {c' = c'} s m e =
    let d = does_so s m in
    let i = is_eight (call k (pair_of c rows)).answer (report_seen k (call k (pair_of c rows)).answer d.seen) e in
    record {
      size = i.size;
      capacity = i.capacity;
      blocked = i.blocked;
      told_so = i.is;
      kept_so = told_kept c' i (went_says s.suits (went.went k (pair_of c rows))) (ap (λ y. y.conn.kept.said) d.after);
    }
