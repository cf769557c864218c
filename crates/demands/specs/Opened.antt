-- An opening: what the core answers, and the IDs it spends, is what the trace's opening does. Assumes nothing.
use Rattle.std.specs.Prelude.{◌≡◌, ℕ, zero, suc, ◌%◌, ◌^◌, ◌≤◌, ◌<◌, List, Bool, leb, length}
use Rattle.std.proofs.Math.Path.{refl, sym, ap, subst}
use Rattle.std.proofs.Common.{◌∙◌, arith, inl, inr, eqb-true, le-leb}
use Rattle.std.proofs.Math.Decide.{ℕ_discrete, dec_le, dec_lt}
use Rattle.std.proofs.Math.Bool.{true, false}
use Rattle.std.proofs.Math.Option.{Option, none, some}
use Rattle.std.proofs.Math.Dec.{eqb}
use Rattle.std.proofs.Math.ListN.{get_or, set}
use Rattle.std.proofs.lemmas.List.{set-get_or}
use Rattle.std.proofs.lemmas.Bool.{eqb-false, lt-leb}
use Rattle.record.specs.Kinds.{FREE}
use Rattle.rules.specs.Numbers.{not_next, no_record, of_stream, request_rejected, REQUEST-REJECTED}
use Rattle.varint.specs.ByByte.{prog, part_of}
use Rattle.record.specs.declared.Record.{Record}
use Rattle.record.specs.Row.{numbers_of, place_in, one_way_record, free_record}
use Rattle.oneway.specs.Stands.{one_state_at}
use Rattle.requests.specs.Opens.{begins_fresh}
use Rattle.rules.specs.Calls.{either, pick, Kind, request, one_way, kind_of, over, asking, held, Result, open', house, code, next_of, spend, barred, seat, same, with, first, seated, opening, call}
use Rattle.traces.specs.Row.{pick_yes, pick_no}
use Rattle.traces.specs.Refine.{IsFree, FreeAt, free_seat, full_seat}
use Rattle.connection.specs.declared.doors.Doors.{Doors}
use Rattle.connection.specs.declared.doors.Opening.{Opening}
use Rattle.connection.specs.Openings.{refusal, barred_at, next_request, next_one_way, admitted_as, request_of, one_way_of, opened_of, open_above, open-request, open-one-way, open_none}
use Rattle.connection.specs.Goaway.{sent_as}
use Rattle.oneway.specs.declared.calls.Side.{Side}
use Rattle.connection.specs.declared.Call.{Call as CoreCall}
use Rattle.connection.specs.declared.Connection.{Connection}
use Rattle.connection.specs.declared.Found.{Found}
use Rattle.connection.specs.Whose.{Vacant, Wanted, FoundIn}
use Rattle.connection.specs.Halves.{doors_in, with_doors, side_in}
use Rattle.connection.specs.Turned.{numbered, first_as, taken_by, free_at, opened_at}
use Rattle.connection.specs.Ways.{some_at, none_at}
use Rattle.connection.specs.Pair.{Known, Paired}
use Rattle.demands.specs.Streams.{streams}
use Rattle.demands.specs.Means.{slot_at, slot_of, row_of, conn_of, pair_of, report_of}
use Rattle.demands.specs.Settles.{Traced, Results, pair_as, alive_call}

-- ---- what our GOAWAY bars

barred_same : (n g id : ℕ) → barred_at n g id ≡ over (sent_as n g) id
unfolding barred_at sent_as over
barred_same zero g id = refl
barred_same (suc n) g id = by (dec_le g id)
  where
    by : (x : Dec (g ≤ id)) → leb g id ≡ pick x true false
    by (yes l) = le-leb g id l ∙ sym (pick_yes (yes l) true false l)
    by (no l) = lt-leb g id (omega arith) ∙ sym (pick_no (no l) true false l)

-- ---- a record that may be taken, and the first that a stream has

taken_slot : (d : Side) (q : Record) (k : ℕ) → ¬ (k ≡ 0) → ¬ IsFree (slot_at k d q)
unfolding slot_at
taken_slot d q zero n = absurd (n refl)
taken_slot d q (suc zero) n = λ x. x
taken_slot d q (suc (suc k)) n = λ x. x

not_vacant : (q : Record) → Known q → ¬ Vacant q → ¬ (q.kind ≡ FREE)
not_vacant q (inl v) n = absurd (n v)
not_vacant q (inr (inl o)) n = λ e. (let k = o.kind in omega arith)
not_vacant q (inr (inr h)) n = λ e. (let k = h.kind in omega arith)

first_request : (d : Side) (id : ℕ) (r : Record) → id % 4 ≡ 0 → slot_of d (taken_by 0 id r) ≡ held id (first request)
unfolding taken_by first_as slot_at first
first_request d id r e = rw e (ap (λ x. held id (asking x)) (begins_fresh id))

first_one_way : (d : Side) (id : ℕ) (r : Record) → id % 4 ≡ 2 → slot_of d (taken_by 0 id r) ≡ held id (first one_way)
unfolding taken_by first_as slot_at first one_way_record one_state_at numbers_of place_in part_of prog
first_one_way d id r e = rw e refl

-- ---- the calls

module _ (c : Connection) (rows : List Record) (paired : Paired c rows) (id : ℕ) (f : Found) (found : FoundIn CoreCall.Open id rows f) where
  vacant : f.at < length rows → Vacant (get_or rows f.at free_record)
  unfolding Wanted
  vacant l = found.there l

  none_before : (j : ℕ) → j < f.at → ¬ IsFree (slot_of (side_in c) (get_or rows j free_record))
  unfolding Wanted
  none_before j l = let q = get_or rows j free_record in taken_slot (side_in c) q q.kind (not_vacant q (paired.known j) (found.before j l))

  free_at_lem : f.at < length rows → FreeAt Record (slot_of (side_in c)) free_record rows f.at
  unfolding slot_at
  free_at_lem l = let v = vacant l in record { within = l; that = ap (slot_of (side_in c)) v; before = none_before }

  -- what comes of an opening that the doors answer so
  abbrev Opened : Opening → Result streams → Type 0
  Opened o y = Results y (with_doors c o.doors) (set rows f.at (taken_by o.number id f.row)) (numbered o.number)

  as_before : row_of (side_in c) (set rows f.at f.row) ≡ row_of (side_in c) rows
  as_before = ap (row_of (side_in c)) (ap (set rows f.at) found.row ∙ set-get_or rows f.at free_record)

  not_next_so : Opened (refusal 2 (doors_in c)) (same (house not_next) (pair_of c rows))
  unfolding same taken_by report_of
  not_next_so = record { after = pair_as refl as_before; answer = refl }

  no_room_so : Opened (refusal 3 (doors_in c)) (same (house no_record) (pair_of c rows))
  unfolding same taken_by report_of
  no_room_so = record { after = pair_as refl as_before; answer = refl }

  barred_so : Opened (refusal REQUEST-REJECTED (next_request (doors_in c))) (with (code (of_stream request_rejected) 0 0) (spend request (conn_of c)) (row_of (side_in c) rows))
  unfolding with taken_by report_of spend
  barred_so = record { after = pair_as refl as_before; answer = refl }

  -- the doors of a kind
  abbrev after : Kind → Doors
  after request = next_request (doors_in c)
  after one_way = next_one_way (doors_in c)

  spends : (k : Kind) (row : List Record) → pair_of (with_doors c (after k)) row ≡ record { conn = spend k (conn_of c); row = row_of (side_in c) row }
  unfolding spend
  spends request row = refl
  spends one_way row = refl

  admitted : (k : Kind) → slot_of (side_in c) (taken_by 0 id f.row) ≡ held id (first k) → Opened (admitted_as (free_at f.at) (after k) (doors_in c)) (seated k (pair_of c rows) (seat (held id (first k)) (row_of (side_in c) rows)))
  unfolding admitted_as seated with report_of
  admitted k e = by (dec_lt f.at 24)
    where
      by : Dec (f.at < 24) → Opened (admitted_as (free_at f.at) (after k) (doors_in c)) (seated k (pair_of c rows) (seat (held id (first k)) (row_of (side_in c) rows)))
      by (yes l) =
          let x = sym (some_at f.at l) in
          let row = set rows f.at (taken_by 0 id f.row) in
          let y : seat (held id (first k)) (row_of (side_in c) rows) ≡ some (row_of (side_in c) row) = ap (λ z. seat z (row_of (side_in c) rows)) (sym e) ∙ free_seat Record (slot_of (side_in c)) free_record rows f.at (taken_by 0 id f.row) (free_at_lem (let q = paired.long in omega arith)) in
          rw (x, y) (record { after = spends k row; answer = refl })
      by (no n) =
          let x = sym (none_at f.at (omega arith)) in
          let y : seat (held id (first k)) (row_of (side_in c) rows) ≡ none = full_seat Record (slot_of (side_in c)) free_record rows (held id (first k)) (λ j l. none_before j (let q = paired.long in omega arith)) in
          rw (x, y) no_room_so

  -- by the trace's tests
  module _ (below : id < 2 ^ 62) where
    next_yes : (k : Kind) → id ≡ next_of k (conn_of c) → opening id (some k) (pair_of c rows)
        ≡ either (barred k (conn_of c) id) (with (code (of_stream request_rejected) 0 0) (spend k (conn_of c)) (row_of (side_in c) rows)) (seated k (pair_of c rows) (seat (held id (first k)) (row_of (side_in c) rows)))
    unfolding opening
    next_yes k e = pick_yes (ℕ_discrete id (next_of k (conn_of c))) _ _ e ∙ pick_yes (dec_lt id (2 ^ 62)) _ _ below

  next_no : (k : Kind) → ¬ (id ≡ next_of k (conn_of c)) → opening id (some k) (pair_of c rows) ≡ same (house not_next) (pair_of c rows)
  unfolding opening
  next_no k n = pick_no (ℕ_discrete id (next_of k (conn_of c))) _ _ n

  above_no : ¬ (id < 2 ^ 62) → (k : Option Kind) → opening id k (pair_of c rows) ≡ same (house not_next) (pair_of c rows)
  unfolding opening
  above_no n none = refl
  above_no n (some k) = by (ℕ_discrete id (next_of k (conn_of c)))
    where
      by : (x : Dec (id ≡ next_of k (conn_of c))) → opening id (some k) (pair_of c rows) ≡ same (house not_next) (pair_of c rows)
      by (yes e) = pick_yes (ℕ_discrete id (next_of k (conn_of c))) _ _ e ∙ pick_no (dec_lt id (2 ^ 62)) _ _ n
      by (no m) = next_no k m

  request_so : id < 2 ^ 62 → id % 4 ≡ 0 → Opened (request_of (doors_in c) id (free_at f.at)) (opening id (some request) (pair_of c rows))
  unfolding request_of next_of barred either
  request_so l m = by (eqb id c.doors.requests) refl
    where
      bars : (b : Bool) → barred_at c.doors.goaways c.doors.goaway.0 id ≡ b → id ≡ c.doors.requests → Opened (elim b [ true ↦ refusal REQUEST-REJECTED (next_request (doors_in c)) | false ↦ admitted_as (free_at f.at) (next_request (doors_in c)) (doors_in c) ])
          (either b (with (code (of_stream request_rejected) 0 0) (spend request (conn_of c)) (row_of (side_in c) rows)) (seated request (pair_of c rows) (seat (held id (first request)) (row_of (side_in c) rows))))
      bars true e q = barred_so
      bars false e q = admitted request (first_request (side_in c) id f.row m)

      by : (b : Bool) → eqb id c.doors.requests ≡ b → Opened (elim b [
        | false ↦ refusal 2 (doors_in c)
        | true ↦ elim (barred_at c.doors.goaways c.doors.goaway.0 id) [ true ↦ refusal REQUEST-REJECTED (next_request (doors_in c)) | false ↦ admitted_as (free_at f.at) (next_request (doors_in c)) (doors_in c) ]
      ]) (opening id (some request) (pair_of c rows))
      by false e = let y = next_no request (eqb-false id c.doors.requests e) in rw y not_next_so
      by true e =
          let q = eqb-true id c.doors.requests e in
          let y = next_yes l request q ∙ ap (λ b. either b (with (code (of_stream request_rejected) 0 0) (spend request (conn_of c)) (row_of (side_in c) rows)) (seated request (pair_of c rows) (seat (held id (first request)) (row_of (side_in c) rows)))) (sym (barred_same c.doors.goaways c.doors.goaway.0 id)) in
          rw y (bars (barred_at c.doors.goaways c.doors.goaway.0 id) refl q)

  one_way_so : id < 2 ^ 62 → id % 4 ≡ 2 → Opened (one_way_of (doors_in c) id (free_at f.at)) (opening id (some one_way) (pair_of c rows))
  unfolding one_way_of next_of barred either
  one_way_so l m = by (eqb id c.doors.oneways) refl
    where
      by : (b : Bool) → eqb id c.doors.oneways ≡ b → Opened (elim b [ false ↦ refusal 2 (doors_in c) | true ↦ admitted_as (free_at f.at) (next_one_way (doors_in c)) (doors_in c) ]) (opening id (some one_way) (pair_of c rows))
      by false e = let y = next_no one_way (eqb-false id c.doors.oneways e) in rw y not_next_so
      by true e = let y = next_yes l one_way (eqb-true id c.doors.oneways e) in rw y (admitted one_way (first_one_way (side_in c) id f.row m))

  module _ (live : c.doors.code ≡ 0) where
    opens_so : Opened (opened_of (doors_in c) id (free_at f.at)) (opening id (kind_of id) (pair_of c rows))
    unfolding kind_of
    opens_so = by (dec_lt id (2 ^ 62)) (ℕ_discrete (id % 4) 0) (ℕ_discrete (id % 4) 2)
      where
        so : {o : Opening} {y : Result streams} → o ≡ opened_of (doors_in c) id (free_at f.at) → opening id (kind_of id) (pair_of c rows) ≡ y → Opened o y → Opened (opened_of (doors_in c) id (free_at f.at)) (opening id (kind_of id) (pair_of c rows))
        so {o} {y} e q w = subst (λ x. Opened x (opening id (kind_of id) (pair_of c rows))) e (subst (Opened o) (sym q) w)

        by : Dec (id < 2 ^ 62) → Dec (id % 4 ≡ 0) → Dec (id % 4 ≡ 2) → Opened (opened_of (doors_in c) id (free_at f.at)) (opening id (kind_of id) (pair_of c rows))
        by (no n) a b = so (open_above (doors_in c) id (free_at f.at) live (omega arith) refl) (above_no n (kind_of id)) not_next_so
        by (yes l) (yes m) b = so (open-request (doors_in c) id (free_at f.at) live l m refl) (ap (λ k. opening id k (pair_of c rows)) (pick_yes (ℕ_discrete (id % 4) 0) _ _ m)) (request_so l m)
        by (yes l) (no n) (yes m) = so (open-one-way (doors_in c) id (free_at f.at) live l m refl) (ap (λ k. opening id k (pair_of c rows)) (pick_no (ℕ_discrete (id % 4) 0) _ _ n ∙ pick_yes (ℕ_discrete (id % 4) 2) _ _ m)) (one_way_so l m)
        by (yes l) (no n) (no m) = so (open_none (doors_in c) id (free_at f.at) live l n m refl) (ap (λ k. opening id k (pair_of c rows)) (pick_no (ℕ_discrete (id % 4) 0) _ _ n ∙ pick_no (ℕ_discrete (id % 4) 2) _ _ m)) (unfold opening in not_next_so)

    -- AN OPENING ON A LIVE CONNECTION
    pub opening_traced : let t = opened_at c f id in Traced c rows (open' id) t.conn (set rows f.at t.row) t.report
    unfolding call
    opening_traced =
        let q : call (open' id) (pair_of c rows) ≡ opening id (kind_of id) (pair_of c rows) = alive_call c live (pair_of c rows) (opening id (kind_of id) (pair_of c rows)) in
        let x = opens_so in
        record { after = x.after ∙ ap (λ y. y.after) (sym q); answer = x.answer ∙ ap (λ y. report_of y.answer) (sym q) }
