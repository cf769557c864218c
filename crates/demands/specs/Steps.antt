-- EVERY LENT CALL IS THE TRACE'S, on a pair that is as a start and calls leave it; and it is so again. Assumes nothing.
use Rattle.std.specs.Prelude.{◌≡◌, ℕ, zero, suc, ◌≤◌, ◌<◌, List, [], ◌∷◌, map, length, get_or, set}
use Rattle.std.proofs.Math.Path.{refl, ap}
use Rattle.std.proofs.Common.{sym, ◌∙◌, subst, arith, inl, inr}
use Rattle.std.proofs.Math.Decide.{dec_lt}
use Rattle.std.proofs.Math.Option.{some}
use Rattle.std.proofs.Math.ListN.{replicate}
use Rattle.std.proofs.lemmas.List.{set-get_or}
use Rattle.rules.specs.Numbers.{NOT-OPEN, not_open, ConnectionFault, of_connection}
use Rattle.rules.specs.Calls as Board
use Rattle.rules.specs.Calls.{Stream, asking, telling, free, held, Pair, open', on, house, code, find, same, alive, acting, fresh, call}
use Rattle.traces.specs.Refine.{Whose, FoundAt, found_find, absent_find}
use Rattle.record.specs.declared.Record.{Record}
use Rattle.record.specs.Row.{free_record}
use Rattle.requests.specs.Reply.{Open, state_in}
use Rattle.oneway.specs.declared.calls.Side.{Side}
use Rattle.oneway.specs.Heard.{Heeds, state_here}
use Rattle.control.specs.Rules.{control_at}
use Rattle.connection.specs.Goaway.{sent_as}
use Rattle.connection.specs.declared.Call.{Call as CoreCall}
use Rattle.connection.specs.declared.Own.{Own as CoreOwn}
use Rattle.connection.specs.declared.Connection.{Connection}
use Rattle.connection.specs.declared.Report.{Report}
use Rattle.connection.specs.declared.Found.{Found}
use Rattle.connection.specs.declared.Turn.{Turn}
use Rattle.connection.specs.Whose.{Belongs, FoundIn, belongs_wanted, wanted_belongs}
use Rattle.connection.specs.Halves.{side_in}
use Rattle.connection.specs.Turned as turned
use Rattle.connection.specs.Turned.{fresh_connection, numbered, unaltered, request_as, replied, one_way_as, overheard, StaysOn, Turned, other_row, dead, opens, request, one_way, begun_of, swept_of}
use Rattle.connection.proofs.Ways.{begun_fresh, swept_free}
use Rattle.connection.specs.Pair.{kept_pair, found_open}
use Rattle.connection.proofs.Pair.{start_pair}
use Rattle.calls.specs.Promises.{Stepped, Started}
use Rattle.demands.specs.Streams.{streams}
use Rattle.demands.specs.Means.{slot_at, slot_of, row_of, dead_by, is_there, conn_of, pair_of, own_of, call_of, report_of}
use Rattle.demands.specs.Settles.{Traced, Comes, pair_as, dead_by_lem, alive_call, comes_traced}
use Rattle.demands.specs.Asked.{request_comes}
use Rattle.demands.specs.Overheard.{two_slot, one_way_comes}
use Rattle.demands.specs.Suited.{StreamSuits, RowSuits, found_suits, suits_fresh, suits_call}
use Rattle.demands.specs.Opened.{opening_traced}
use Rattle.demands.specs.Stands.{Coded, Stands, turned_coded}

-- ---- which record a call is about

whose_belongs : (d : Side) (id : ℕ) (q : Record) → Whose {M = streams} id (slot_of d q) → Belongs id q
whose_belongs d id q = by q.kind refl
  where
    by : (k : ℕ) → q.kind ≡ k → Whose {M = streams} id (slot_at k d q) → Belongs id q
    by zero e w = absurd (unfold slot_at in w)
    by (suc zero) e w = record { taken = λ z. omega arith; own = unfold slot_at in w }
    by (suc (suc k)) e w = record { taken = λ z. omega arith; own = unfold slot_at in w }

call_on : {call : CoreCall} {own : CoreOwn} (id allow : ℕ) (piece : List ℕ) → call ≡ CoreCall.On own → call_of call id allow piece ≡ on id (own_of own allow piece)
unfolding call_of
call_on id allow piece e = rw e refl

call_open : {call : CoreCall} (id allow : ℕ) (piece : List ℕ) → call ≡ CoreCall.Open → call_of call id allow piece ≡ open' id
unfolding call_of
call_open id allow piece e = rw e refl

-- ---- a dead connection

call_dead : (call : CoreCall) (id allow : ℕ) (piece : List ℕ) (p : Pair streams) (k : ConnectionFault) → p.conn.dead ≡ some k → Board.call (call_of call id allow piece) p ≡ same (code (of_connection k) 0 0) p
unfolding call_of Board.call alive
call_dead CoreCall.Open id allow piece p k e = rw e refl
call_dead (CoreCall.On own) id allow piece p k e = rw e refl

module _ (c : Connection) (rows : List Record) (s : Stands c rows) (call : CoreCall) (id allow : ℕ) (piece : List ℕ) (f : Found) (found : FoundIn call id rows f) where
  abbrev p : Pair streams
  p = pair_of c rows

  abbrev as_slot : Record → Board.Slot streams
  as_slot = slot_of (side_in c)

  -- the turn that was made, stored back, is the trace's call
  abbrev Turns : Turn → Type 0
  Turns t = Traced c rows (call_of call id allow piece) t.conn (set rows f.at t.row) t.report

  same_row : set rows f.at f.row ≡ rows
  same_row = ap (set rows f.at) found.row ∙ set-get_or rows f.at free_record

  dead_turns : ¬ (c.doors.code ≡ 0) → Turns (unaltered c.doors.code c f)
  unfolding same report_of
  dead_turns n = by s.coded
    where
      by : Coded c.doors.code → Turns (unaltered c.doors.code c f)
      by (inl e) = absurd (n e)
      by (inr (k, e)) =
          let q = call_dead call id allow piece p k (ap dead_by e ∙ dead_by_lem k) in
          record { after = ap (pair_of c) same_row ∙ ap (λ x. x.after) (sym q); answer = ap numbered e ∙ ap (λ x. report_of x.answer) (sym q) }

  module _ (live : c.doors.code ≡ 0) {own : CoreOwn} (n : call ≡ CoreCall.On own) where
    -- no record is its own
    absent_turns : 24 ≤ f.at → Turns (unaltered NOT-OPEN c f)
    unfolding Board.call acting same report_of
    absent_turns l =
        let none_there = absent_find Record as_slot free_record rows id (λ j m w. found.before j (let q = s.paired.long in omega arith) (belongs_wanted id (get_or rows j free_record) n (whose_belongs (side_in c) id (get_or rows j free_record) w))) in
        let q : Board.call (on id (own_of own allow piece)) p ≡ same (house not_open) p = alive_call c live p (acting id (own_of own allow piece) p (find id p.row)) ∙ ap (acting id (own_of own allow piece) p) none_there in
        let y = call_on id allow piece n in
        rw y (record { after = ap (pair_of c) same_row ∙ ap (λ x. x.after) (sym q); answer = ap (λ x. report_of x.answer) (sym q) })

    module _ (l : f.at < 24) where
      belongs : Belongs id (get_or rows f.at free_record)
      belongs = wanted_belongs id (get_or rows f.at free_record) n (found.there (let q = s.paired.long in omega arith))

      own-id : f.row.id ≡ id
      own-id = ap (λ x. x.id) found.row ∙ belongs.own

      found_at : (x : Stream streams) → as_slot f.row ≡ held f.row.id x → FoundAt Record as_slot free_record rows f.row.id f.at x
      found_at x e = record {
        within = let q = s.paired.long in omega arith;
        that = ap as_slot (sym found.row) ∙ e;
        before = λ j m w. found.before j m (belongs_wanted id (get_or rows j free_record) n (whose_belongs (side_in c) id (get_or rows j free_record) (subst (λ i. Whose {M = streams} i (as_slot (get_or rows j free_record))) own-id w)));
      }

      -- the stream found
      comes-turns : (x : Stream streams) → as_slot f.row ≡ held f.row.id x → {t : Turn} → Comes c rows f.at f.row.id f.row t (Board.act_on (conn_of c).kept x (own_of own allow piece)) → Turns t
      comes-turns x e {t} m =
          let r = comes_traced c rows f.at f.row.id f.row found.row x (found_at x e) live (own_of own allow piece) m in
          subst (λ k. Traced c rows k t.conn (set rows f.at t.row) t.report) (ap (λ i. on i (own_of own allow piece)) own-id ∙ sym (call_on id allow piece n)) r

      its-suits : (x : Stream streams) → as_slot f.row ≡ held f.row.id x → StreamSuits x
      its-suits x e = found_suits f.row.id x p.row s.suits (found_find Record as_slot free_record rows f.row.id f.at x (found_at x e))

      request-slot : Open f.row → as_slot f.row ≡ held f.row.id (asking (state_in f.row))
      unfolding slot_at
      request-slot o = ap (λ k. slot_at k (side_in c) f.row) o.kind

      request-turns : Open f.row → Turns (replied c (request_as own allow piece f.row (state_in f.row)))
      request-turns o = let x = asking (state_in f.row) in
          comes-turns x (request-slot o) (request_comes c rows f.at f.row o (its-suits x (request-slot o)) own allow piece)

      one-way-turns : Heeds f.row → StaysOn own allow piece f.row (side_in c) (one_way_as own allow piece f.row (side_in c) (state_here f.row (side_in c)))
          → Turns (overheard c (one_way_as own allow piece f.row (side_in c) (state_here f.row (side_in c))))
      one-way-turns h stays = let x = telling (state_here f.row (side_in c)) in let e = two_slot (side_in c) f.row f.row.kind h.kind in
          comes-turns x e (one_way_comes c rows s.paired f.at f.row found.row allow piece (its-suits x e) own stays)

  -- EVERY TURN
  turns : {t : Turn} → Turned c f call id allow piece t → Turns t
  turns (other_row n q) = absurd (n (found.long ∙ s.paired.long))
  turns (dead l n q) = rw q (dead_turns n)
  turns (opens v e q) =
      let o = opening_traced c rows s.paired id f (subst (λ k. FoundIn k id rows f) e found) v.alive in
      let y = call_open id allow piece e in
      rw (q, y) o
  turns {t} (turned.not_open v n shut q) = by (dec_lt f.at 24)
    where
      by : Dec (f.at < 24) → Turns t
      by (yes l) = absurd (shut l (found_open found s.paired n l))
      by (no l) = rw q (absent_turns v.alive n (omega arith))
  turns (request v n l o q stays) = rw q (request-turns v.alive n l o)
  turns (one_way v n l h q stays) = rw q (one-way-turns v.alive n l h stays)

  -- it is so again
  stands_on : {t : Turn} → Turned c f call id allow piece t → Stands t.conn (set rows f.at t.row)
  stands_on {t} m = record {
    paired = kept_pair found s.paired m;
    coded = turned_coded s.coded m;
    suits = subst (λ x. RowSuits x.row) (sym (turns m).after) (suits_call (call_of call id allow piece) p s.suits);
  }

-- A CALL ON ONE STREAM
module _ {c : Connection} {rows : List Record} {call : CoreCall} {id allow : ℕ} {piece : List ℕ} {c' : Connection} {rows' : List Record} {r : Report} (s : Stands c rows) (m : Stepped c rows call id allow piece c' rows' r) where
  pub stepped_traced : Traced c rows (call_of call id allow piece) c' rows' r
  stepped_traced = let a = m.conn_left in let b = m.rows_left in let e = m.answered in rw (a, b, e) (turns c rows s call id allow piece m.found m.is_found m.turned)

  pub stepped_stands : Stands c' rows'
  stepped_stands = let a = m.conn_left in let b = m.rows_left in rw (a, b) (stands_on c rows s call id allow piece m.found m.is_found m.turned)

-- START
swept_row : (d : Side) (n : ℕ) → n ≡ 24 → (rows : List Record) → row_of d (map (swept_of n) rows) ≡ replicate (length rows) free
unfolding slot_at
swept_row d n e [] = refl
swept_row d n e (r ∷ rows) = let q : slot_of d (swept_of n r) ≡ free = ap (slot_of d) (sym (swept_free n r e refl)) in rw q (ap (λ x. free ∷ x) (swept_row d n e rows))

module _ {c : Connection} {rows : List Record} {c' : Connection} {rows' : List Record} {number : ℕ} (long : length rows ≡ 24) (m : Started c rows c' rows' number) where
  begun : begun_of c (length rows) ≡ record { number = 0; conn = fresh_connection }
  begun = sym (begun_fresh c (length rows) long refl)

  pub started_fresh : pair_of c' rows' ≡ fresh
  unfolding fresh dead_by is_there sent_as control_at
  started_fresh = let a = m.conn_left ∙ ap (λ b. b.conn) begun in let b = m.rows_left in
      rw (a, b) (pair_as refl (swept_row (side_in fresh_connection) (length rows) long rows ∙ ap (λ n. replicate n free) long))

  pub started_number : number ≡ 0
  started_number = m.answered ∙ ap (λ b. b.number) begun

  pub started_stands : Stands c' rows'
  started_stands = record {
    paired = let a = m.conn_left in let b = m.rows_left in rw (a, b) (start_pair c rows long);
    coded = inl (ap (λ x. x.doors.code) (m.conn_left ∙ ap (λ b. b.conn) begun));
    suits = subst (λ x. RowSuits x.row) (sym started_fresh) suits_fresh;
  }
