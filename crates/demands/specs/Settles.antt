-- What the core makes of the record that was found is what the trace makes of the stream: answer by answer. Assumes nothing.
use Rattle.std.specs.Prelude.{◌≡◌, ℕ, zero, suc, ◌<◌, List, get_or, set}
use Rattle.std.proofs.Math.Path.{refl, ap}
use Rattle.std.proofs.Common.{sym, ◌∙◌, arith}
use Rattle.std.proofs.Math.Option.{some}
use Rattle.std.proofs.lemmas.List.{set-get_or}
use Rattle.rules.specs.Numbers.{House, house_number, StreamFault, ConnectionFault, of_stream, of_connection, code_number, coded}
use Rattle.rules.specs.Calls.{Own, Gave, Left, Out, refuse, step, leave, fault, Stream, free, held, Row, Conn, Pair, Held, Call, on, gave, left, code, Result, killed, keeping, find, put, same, with, alive, faulted, act_on, settle, acting, call}
use Rattle.traces.specs.Went.{pair}
use Rattle.traces.specs.Refine.{FoundAt, found_find, found_put_as, found_put}
use Rattle.record.specs.declared.Record.{Record}
use Rattle.record.specs.Row.{free_record}
use Rattle.connection.specs.declared.Connection.{Connection}
use Rattle.connection.specs.declared.Report.{Report}
use Rattle.connection.specs.declared.Turn.{Turn}
use Rattle.connection.specs.Halves.{side_in}
use Rattle.connection.specs.Faults.{with_code}
use Rattle.connection.specs.Turned.{numbered, turn}
use Rattle.demands.specs.Streams.{conn_code, streams}
use Rattle.meaning.specs.NumberLaws.{code_high}
use Rattle.demands.specs.Codes.{connection_back}
use Rattle.demands.specs.Means.{slot_at, slot_of, row_of, dead_by, conn_of, pair_of, report_of}

-- A CALL IS THE TRACE'S: what is left means what the trace leaves, and the report is its answer
pub record Traced (c : Connection) (rows : List Record) (k : Call streams) (c' : Connection) (rows' : List Record) (r : Report) : Type 0 where
  pub after : pair_of c' rows' ≡ (call k (pair_of c rows)).after
  pub answer : r ≡ report_of (call k (pair_of c rows)).answer

-- the same of a result
pub record Results (p : Result streams) (c' : Connection) (rows' : List Record) (r : Report) : Type 0 where
  pub after : pair_of c' rows' ≡ p.after
  pub answer : r ≡ report_of p.answer

pub pair_as : {c d : Conn streams} {x y : Row streams} → c ≡ d → x ≡ y → pair c x ≡ pair d y
pair_as p q = λ i. record { conn = p i; row = q i }

-- a connection that is alive
pub alive_call : (c : Connection) → c.doors.code ≡ 0 → (p : Pair streams) (r : Result streams) → alive (dead_by c.doors.code) p r ≡ r
unfolding alive dead_by
alive_call c e p r = rw e refl

-- a code that is kept
pub dead_by_lem : (k : ConnectionFault) → dead_by (code_number (of_connection k)) ≡ some k
unfolding dead_by
dead_by_lem k = by (code_number (of_connection k)) (code_high (of_connection k)) ∙ ap some (connection_back k)
  where
    by : (n : ℕ) → 9 < n → dead_by n ≡ some (conn_code (coded n))
    by zero h = absurd (omega arith)
    by (suc n) h = refl

pub killed_by : (c : Connection) (k : ConnectionFault) → conn_of (with_code (code_number (of_connection k)) c) ≡ killed k (conn_of c)
unfolding killed
killed_by c k = ap (λ x. record { dead = x; next_request = (conn_of c).next_request; next_oneway = (conn_of c).next_oneway; limit = (conn_of c).limit; kept = (conn_of c).kept }) (dead_by_lem k)

module _ (c : Connection) (rows : List Record) (at id : ℕ) (r : Record) where
  -- what comes of the record that was found; a step may alter what the connection keeps, and then the other records read as before
  pub data Comes (t : Turn) : Out (Held streams) → Type 0 where
    refuses : {h : House} → t ≡ turn c r (numbered (house_number h)) → Comes t (refuse h)
    steps : {g : Gave} {x : Held streams} (d : Connection) (q : Record) → t ≡ turn d q (report_of (gave g)) → slot_of (side_in d) q ≡ held id x.stream → conn_of d ≡ keeping x.kept (conn_of c)
        → ((j : ℕ) → ¬ (j ≡ at) → slot_of (side_in d) (get_or rows j free_record) ≡ slot_of (side_in c) (get_or rows j free_record)) → Comes t (step g x)
    leaves : {l : Left} → t ≡ turn c free_record (report_of (left l)) → Comes t (leave l)
    fails : {k : StreamFault} {u h : ℕ} → t ≡ turn c free_record (report_of (code (of_stream k) u h)) → Comes t (fault (of_stream k) u h)
    kills : {k : ConnectionFault} {u h : ℕ} → t ≡ turn (with_code (code_number (of_connection k)) c) r (report_of (code (of_connection k) u h)) → Comes t (fault (of_connection k) u h)

  module _ (was : r ≡ get_or rows at free_record) (s : Stream streams) (found : FoundAt Record (slot_of (side_in c)) free_record rows id at s) where
    freed_row : row_of (side_in c) (set rows at free_record) ≡ put id free (row_of (side_in c) rows)
    unfolding slot_at
    freed_row = found_put Record (slot_of (side_in c)) free_record rows id at s free_record found

    as_before : row_of (side_in c) (set rows at r) ≡ row_of (side_in c) rows
    as_before = ap (row_of (side_in c)) (ap (set rows at) was ∙ set-get_or rows at free_record)

    settled : {t : Turn} {o : Out (Held streams)} → Comes t o → Results (settle id (pair_of c rows) o) t.conn (set rows at t.row) t.report
    unfolding settle same with faulted report_of
    settled (refuses e) = rw e (record { after = pair_as refl as_before; answer = refl })
    settled (steps {x = x} d q e slot kept others) = rw e (record {
      after = pair_as kept (found_put_as Record (slot_of (side_in c)) free_record (slot_of (side_in d)) rows id at s q found others ∙ ap (λ y. put id y (row_of (side_in c) rows)) slot);
      answer = refl;
    })
    settled (leaves e) = rw e (record { after = pair_as refl freed_row; answer = refl })
    settled (fails e) = rw e (record { after = pair_as refl freed_row; answer = refl })
    settled (kills {k = k} e) = rw e (record { after = pair_as (killed_by c k) as_before; answer = refl })

    -- ON A LIVE CONNECTION, the stream found
    pub comes_traced : c.doors.code ≡ 0 → (o : Own streams) {t : Turn} → Comes t (act_on (conn_of c).kept s o) → Traced c rows (on id o) t.conn (set rows at t.row) t.report
    unfolding call acting
    comes_traced z o {t} m =
        let p = pair_of c rows in
        let q : call (on id o) p ≡ settle id p (act_on (conn_of c).kept s o) = alive_call c z p (acting id o p (find id p.row)) ∙ ap (acting id o p) (found_find Record (slot_of (side_in c)) free_record rows id at s found) in
        let x = settled m in
        record { after = x.after ∙ ap (λ y. y.after) (sym q); answer = x.answer ∙ ap (λ y. report_of y.answer) (sym q) }
