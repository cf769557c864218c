-- THE PAIR'S INVARIANT: what a connection and a row that had the same start have in common, and that every call keeps it. Assumes nothing.
use Rattle.std.proofs.Math.Path.{◌≡◌, sym, ap}
use Rattle.std.specs.Prelude.{refl, ℕ, zero, suc, ◌%◌, ◌≤◌, ◌<◌, List, Bool, true, false, ◌⊎◌, length, get_or, set}
use Rattle.std.proofs.Common.{◌∙◌, inl, inr, length-set, get_or-set_same, get_or-set_other}
use Rattle.std.proofs.Math.Decide.{ℕ_discrete, dec_lt}
use native.Mathlib.Omega.{arith}
use Rattle.std.proofs.Math.Seq.{set_out}
use Rattle.rules.specs.Message.{opening}
use Rattle.rules.specs.Control.{Control}
use Rattle.rules.specs.OneWay.{encoder, decoder}
use Rattle.rules.specs.Numbers.{named as answer-named, leaves, REQUEST-REJECTED}
use Rattle.rules.specs.Writer.{Write, refused, wrote}
use Rattle.meaning.specs.Machine.{State, between, fresh}
use Rattle.meaning.specs.OneWayFeed.{OneState, in_stream_type, in_control, in_qpack, in_skipped, lives}
use Rattle.record.specs.Kinds.{FREE, REQUEST, UNTYPED, CONTROL}
use Rattle.record.specs.declared.Record.{Record}
use Rattle.record.specs.Row.{request_record, one_way_record, free_record}
use Rattle.record.specs.Sound.{cells_in}
use Rattle.requests.specs.declared.Reply.{Reply}
use Rattle.requests.specs.Reply.{Open, state_in}
use Rattle.requests.specs.Opens.{begins_open}
use Rattle.connection.specs.declared.doors.Opening.{Opening}
use Rattle.connection.specs.Openings.{next_request, next_one_way}
use Rattle.connection.specs.OpeningWays.{Went, barred, a_request, a_one_way, went}
use Rattle.connection.specs.OpeningWays as doors
use Rattle.connection.specs.Goaway.{sending_of, write_of}
use Rattle.oneway.specs.declared.calls.Side.{Side}
use Rattle.oneway.specs.declared.calls.Heard.{Heard}
use Rattle.oneway.specs.Mirror.{side_after}
use Rattle.oneway.specs.Heard.{Heeds, place_here, sofar_here, state_here, feeding}
use Rattle.connection.specs.declared.Call.{Call}
use Rattle.connection.specs.declared.Own.{Own}
use Rattle.connection.specs.declared.Connection.{Connection}
use Rattle.connection.specs.declared.Found.{Found}
use Rattle.connection.specs.declared.Turn.{Turn}
use Rattle.connection.specs.declared.Gone.{Gone}
use Rattle.connection.specs.Whose.{Vacant, Belongs, FoundIn, wanted_belongs}
use Rattle.connection.specs.Halves.{stream_id, doors_in, with_doors, side_in, with_side}
use Rattle.connection.specs.Faults.{keeps, kept_if, code_kept_in}
use Rattle.connection.specs.Turned.{unaltered, first_as, taken_by, free_at, request_as, one_way_as, StaysOn, Turned, other_row, dead, opens, not_open, request, one_way, GoesAway}
use Rattle.connection.specs.Ways.{taken_none}
use Rattle.connection.specs.Leavings as left
use Rattle.connection.specs.Leavings.{Left, request_left, Heeded, one_way_left, Standing, controls, others, standing, control_once, control_kind, begins_heeding}

-- past the row's end there is no stream
abbrev pub at : List Record → ℕ → Record
at rows i = get_or rows i free_record

-- free, an open request, or an open one-way stream
abbrev pub Known : Record → Type 0
Known r = Vacant r ⊎ (Open r ⊎ Heeds r)

-- its ID is one of its kind, and was opened
pub record Spent (c : Connection) (r : Record) : Type 0 where
  pub request : r.kind ≡ REQUEST → (r.id % 4 ≡ 0) × (r.id < c.doors.requests)
  pub one_way : UNTYPED ≤ r.kind → (r.id % 4 ≡ 2) × (r.id < c.doors.oneways)

-- every record is known and its ID spent; no two streams have one ID; at most one is a control stream, and none is before one has come
pub record Paired (c : Connection) (rows : List Record) : Type 0 where
  pub long : length rows ≡ 24
  pub known : (i : ℕ) → Known (at rows i)
  pub spent : (i : ℕ) → Spent c (at rows i)
  pub distinct : (i j : ℕ) → ((at rows i).kind ≡ FREE → ⊥) → ((at rows j).kind ≡ FREE → ⊥) → (at rows i).id ≡ (at rows j).id → i ≡ j
  pub control : (i : ℕ) → (at rows i).kind ≡ CONTROL → c.side.control ≡ 0 → ⊥
  pub single : (i j : ℕ) → (at rows i).kind ≡ CONTROL → (at rows j).kind ≡ CONTROL → i ≡ j

-- ---- another connection: IDs are spent, and what has come stays so

pub record Later (c d : Connection) : Type 0 where
  pub requests : c.doors.requests ≤ d.doors.requests
  pub oneways : c.doors.oneways ≤ d.doors.oneways
  pub control : d.side.control ≡ 0 → c.side.control ≡ 0

later_spent : {c d : Connection} {r : Record} → Later c d → Spent c r → Spent d r
later_spent l s = record {
  request = λ k. (let h = s.request k in let m = l.requests in (h.0, omega (arith, h.1)));
  one_way = λ k. (let h = s.one_way k in let m = l.oneways in (h.0, omega (arith, h.1)));
}

later_pair : {c d : Connection} {rows : List Record} → Later c d → Paired c rows → Paired d rows
later_pair l p = record {
  long = p.long;
  known = p.known;
  spent = λ i. later_spent l (p.spent i);
  distinct = p.distinct;
  control = λ i k e. p.control i k (l.control e);
  single = p.single;
}

-- the code alone
later_code : {c d : Connection} (n : ℕ) → Later c d → Later c (code_kept_in d n)
unfolding kept_if
later_code {c} {d} n l = by (keeps (leaves (answer-named n)))
  where
    by : (b : Bool) → Later c (with_doors d (kept_if b n d.doors))
    by true = record { requests = l.requests; oneways = l.oneways; control = l.control }
    by false = l

-- ---- another record in one place of the row

pub record Fits (c : Connection) (rows : List Record) (k : ℕ) (q : Record) : Type 0 where
  pub known : Known q
  pub spent : Spent c q
  pub apart : (j : ℕ) → (j ≡ k → ⊥) → (q.kind ≡ FREE → ⊥) → ((at rows j).kind ≡ FREE → ⊥) → (at rows j).id ≡ q.id → ⊥
  pub control : q.kind ≡ CONTROL → c.side.control ≡ 0 → ⊥
  pub single : (j : ℕ) → (j ≡ k → ⊥) → q.kind ≡ CONTROL → (at rows j).kind ≡ CONTROL → ⊥

module _ (rows : List Record) (k : ℕ) (q : Record) where
  data Spot (i : ℕ) : Type 0 where
    here : i ≡ k → k < length rows → at (set rows k q) i ≡ q → Spot i
    elsewhere : (i ≡ k → k < length rows → ⊥) → at (set rows k q) i ≡ at rows i → Spot i

  spot : (i : ℕ) → Spot i
  spot i = by (ℕ_discrete i k) (dec_lt k (length rows))
    where
      by : Dec (i ≡ k) → Dec (k < length rows) → Spot i
      by (yes e) (yes l) = here e l (ap (at (set rows k q)) e ∙ get_or-set_same rows k q free_record l)
      by (yes e) (no n) = elsewhere (λ x l. n l) (ap (λ x. at x i) (set_out rows k q (omega arith)))
      by (no n) d = elsewhere (λ x l. n x) (get_or-set_other rows k i q free_record n)

  put_pair : {c : Connection} → Paired c rows → Fits c rows k q → Paired c (set rows k q)
  put_pair {c} p f = record {
    long = length-set rows k q ∙ p.long;
    known = λ i. known (spot i);
    spent = λ i. spent (spot i);
    distinct = λ i j. distinct (spot i) (spot j);
    control = λ i. control (spot i);
    single = λ i j. single (spot i) (spot j);
  }
    where
      known : {i : ℕ} → Spot i → Known (at (set rows k q) i)
      known (here x l e) = rw e f.known
      known {i} (elsewhere n e) = rw e (p.known i)

      spent : {i : ℕ} → Spot i → Spent c (at (set rows k q) i)
      spent (here x l e) = rw e f.spent
      spent {i} (elsewhere n e) = rw e (p.spent i)

      distinct : {i j : ℕ} → Spot i → Spot j → ((at (set rows k q) i).kind ≡ FREE → ⊥) → ((at (set rows k q) j).kind ≡ FREE → ⊥) → (at (set rows k q) i).id ≡ (at (set rows k q) j).id → i ≡ j
      distinct (here x l e) (here y m g) a b h = x ∙ sym y
      distinct {i} {j} (here x l e) (elsewhere n g) a b h = absurd (f.apart j (λ y. n y l) (rw e at a) (rw g at b) (sym (rw (e, g) at h)))
      distinct {i} {j} (elsewhere n e) (here y l g) a b h = absurd (f.apart i (λ x. n x l) (rw g at b) (rw e at a) (rw (e, g) at h))
      distinct {i} {j} (elsewhere n e) (elsewhere m g) a b h = p.distinct i j (rw e at a) (rw g at b) (rw (e, g) at h)

      control : {i : ℕ} → Spot i → (at (set rows k q) i).kind ≡ CONTROL → c.side.control ≡ 0 → ⊥
      control (here x l e) a = f.control (rw e at a)
      control {i} (elsewhere n e) a = p.control i (rw e at a)

      single : {i j : ℕ} → Spot i → Spot j → (at (set rows k q) i).kind ≡ CONTROL → (at (set rows k q) j).kind ≡ CONTROL → i ≡ j
      single (here x l e) (here y m g) a b = x ∙ sym y
      single {i} {j} (here x l e) (elsewhere n g) a b = absurd (f.single j (λ y. n y l) (rw e at a) (rw g at b))
      single {i} {j} (elsewhere n e) (here y l g) a b = absurd (f.single i (λ x. n x l) (rw g at b) (rw e at a))
      single {i} {j} (elsewhere n e) (elsewhere m g) a b = p.single i j (rw e at a) (rw g at b)

later_same : {c : Connection} → Later c c
later_same = record { requests = omega arith; oneways = omega arith; control = λ e. e }

module _ {c : Connection} {rows : List Record} (p : Paired c rows) (k : ℕ) {d : Connection} (l : Later c d) (q : Record) where
  leave : Fits d rows k q → Paired d (set rows k q)
  leave f = put_pair rows k q (later_pair l p) f

  -- the record as it was
  same_record : q ≡ at rows k → Paired d (set rows k q)
  same_record e =
      leave (rw e (record {
        known = p.known k;
        spent = later_spent l (p.spent k);
        apart = λ j n a b h. n (p.distinct j k b a h);
        control = λ a z. p.control k a (l.control z);
        single = λ j n a b. n (p.single j k b a);
      }))

  free_one : Vacant q → Paired d (set rows k q)
  free_one e =
      leave (rw e (record {
        known = inl refl;
        spent = record { request = λ z. absurd (omega arith); one_way = λ z. absurd (omega arith) };
        apart = λ j n a b h. a refl;
        control = λ z e. omega arith;
        single = λ j n z b. omega arith;
      }))

  -- another state of the stream that has it
  module _ (i : q.id ≡ (at rows k).id) where
    next_request_lem : (at rows k).kind ≡ REQUEST → Open q → Paired d (set rows k q)
    next_request_lem w o = let one = o.kind in
        leave (record {
          known = inr (inl o);
          spent = record { request = λ z. (let h = (later_spent l (p.spent k)).request w in rw i h); one_way = λ z. absurd (omega arith) };
          apart = λ j n a b h. n (p.distinct j k b (λ z. omega arith) (h ∙ i));
          control = λ z e. omega arith;
          single = λ j n z b. omega arith;
        })

    next_one_way_lem : 2 ≤ (at rows k).kind → Heeds q → (q.kind ≡ CONTROL → (d.side.control ≡ 0 → ⊥) × ((c.side.control ≡ 0) ⊎ ((at rows k).kind ≡ CONTROL))) → Paired d (set rows k q)
    next_one_way_lem w m t = let two = m.kind in
        leave (record {
          known = inr (inr m);
          spent = record { request = λ z. absurd (omega arith); one_way = λ z. (let h = (later_spent l (p.spent k)).one_way w in rw i h) };
          apart = λ j n a b h. n (p.distinct j k b (λ z. omega arith) (h ∙ i));
          control = λ z e. (t z).0 e;
          single = λ j n z b. lone j n b (t z).1;
        })
      where
        lone : (j : ℕ) → (j ≡ k → ⊥) → (at rows j).kind ≡ CONTROL → (c.side.control ≡ 0) ⊎ ((at rows k).kind ≡ CONTROL) → ⊥
        lone j n b (inl e) = p.control j b e
        lone j n b (inr e) = n (p.single j k b e)

-- ---- an opening

first_is_request : (id : ℕ) (r : Record) → id % 4 ≡ 0 → taken_by 0 id r ≡ request_record id (between opening)
unfolding taken_by first_as
first_is_request id r e = rw e refl

first_is_one_way : (id : ℕ) (r : Record) → id % 4 ≡ 2 → taken_by 0 id r ≡ one_way_record id (in_stream_type fresh)
unfolding taken_by first_as
first_is_one_way id r e = rw e refl

module _ {c : Connection} {rows : List Record} (p : Paired c rows) (id : ℕ) where
  -- the next ID of a kind is no stream's
  not_taken : ((id % 4 ≡ 0) × (id ≡ c.doors.requests)) ⊎ ((id % 4 ≡ 2) × (id ≡ c.doors.oneways)) → (j : ℕ) → ((at rows j).kind ≡ FREE → ⊥) → (at rows j).id ≡ id → ⊥
  not_taken w j n e = by (ℕ_discrete (at rows j).kind REQUEST) w
    where
      above : (k : ℕ) → (k ≡ 0 → ⊥) → (k ≡ 1 → ⊥) → 2 ≤ k
      above zero a b = absurd (a refl)
      above (suc zero) a b = absurd (b refl)
      above (suc (suc k)) a b = omega arith

      by : Dec ((at rows j).kind ≡ REQUEST) → ((id % 4 ≡ 0) × (id ≡ c.doors.requests)) ⊎ ((id % 4 ≡ 2) × (id ≡ c.doors.oneways)) → ⊥
      by (yes o) (inl x) = let s = (p.spent j).request o in omega (arith, s.1, x.1)
      by (yes o) (inr x) = let s = (p.spent j).request o in omega (arith, ap (λ y. y % 4) e, s.0, x.0)
      by (no m) (inl x) = let s = (p.spent j).one_way (above (at rows j).kind n m) in omega (arith, ap (λ y. y % 4) e, s.0, x.0)
      by (no m) (inr x) = let s = (p.spent j).one_way (above (at rows j).kind n m) in omega (arith, s.1, x.1)

  module _ (k : ℕ) {r : Record} (was : r ≡ at rows k) (free : ℕ) where
    spent_request : Later c (with_doors c (next_request (doors_in c)))
    spent_request = record { requests = omega arith; oneways = omega arith; control = λ e. e }

    spent_one_way : Later c (with_doors c (next_one_way (doors_in c)))
    spent_one_way = record { requests = omega arith; oneways = omega arith; control = λ e. e }

    after_opening : {o : Opening} → Went (doors_in c) id free o → Paired (with_doors c o.doors) (set rows k (taken_by o.number id r))
    after_opening (doors.refused n z) = same_record p k later_same _ (sym (taken_none id r n z refl) ∙ was)
    after_opening (barred m e) = same_record p k spent_request _ (sym (taken_none id r REQUEST-REJECTED (λ z. omega arith) refl) ∙ was)
    after_opening (a_request m e l f) =
        leave p k spent_request _ (rw (first_is_request id r m) (record {
          known = inr (inl (begins_open id l m));
          spent = record { request = λ z. (m, omega arith); one_way = λ z. absurd (omega arith) };
          apart = λ j n a b h. not_taken (inl (m, e)) j b h;
          control = λ z y. omega arith;
          single = λ j n z b. omega arith;
        }))
    after_opening (a_one_way m e l f) = by (one_way_record id (in_stream_type fresh)) (first_is_one_way id r m) (begins_heeding id l m) (standing id (in_stream_type fresh))
      where
        by : (q : Record) → taken_by 0 id r ≡ q → Heeds q → Standing id q (in_stream_type fresh) → Paired (with_doors c (next_one_way (doors_in c))) (set rows k (taken_by 0 id r))
        by q x h (others i w n3) =
            leave p k spent_one_way _ (rw x (record {
              known = inr (inr h);
              spent = record { request = λ z. absurd (omega arith); one_way = λ z. (rw i m, omega arith) };
              apart = λ j n a b y. not_taken (inr (m, e)) j b (y ∙ i);
              control = λ z y. n3 z;
              single = λ j n z b. n3 z;
            }))

-- ---- a call on an open stream

module _ {c : Connection} {rows : List Record} (p : Paired c rows) (k : ℕ) {r : Record} (was : r ≡ at rows k) where
  after_request : Open r → (a : Reply) → Left r a → (a.number ≡ 0 → Open a.row ⊎ Vacant a.row) → Paired (code_kept_in c a.number) (set rows k a.row)
  after_request o a (left.same e) s = same_record p k (later_code a.number later_same) _ (e ∙ was)
  after_request o a (left.freed e) s = free_one p k (later_code a.number later_same) _ e
  after_request o a (left.goes_on z w i) s = by (s z)
    where
      by : Open a.row ⊎ Vacant a.row → Paired (code_kept_in c a.number) (set rows k a.row)
      by (inl x) = next_request_lem p k (later_code a.number later_same) _ (i ∙ ap (λ y. y.id) was) (sym (ap (λ y. y.kind) was) ∙ o.kind) x
      by (inr x) = free_one p k (later_code a.number later_same) _ x

side_later : (d : Side) (s : OneState) → (side_after d s).control ≡ 0 → d.control ≡ 0
unfolding side_after
side_later d (in_stream_type g) e = e
side_later d (in_control s) e = absurd (omega arith)
side_later d (in_qpack encoder) e = e
side_later d (in_qpack decoder) e = e
side_later d in_skipped e = e

later_side : {c : Connection} (d : Side) → (d.control ≡ 0 → c.side.control ≡ 0) → Later c (with_side c d)
later_side d h = record { requests = omega arith; oneways = omega arith; control = h }

module _ {c : Connection} {rows : List Record} (p : Paired c rows) (k : ℕ) {r : Record} (was : r ≡ at rows k) (two : UNTYPED ≤ r.kind) (own : Own) (allow : ℕ) (piece : List ℕ) (a : Heard) where
  abbrev after : Connection
  after = code_kept_in (with_side c a.side) a.number

  later_heard : (a.side.control ≡ 0 → c.side.control ≡ 0) → Later c after
  later_heard h = later_code a.number (later_side a.side h)

  next_standing : (x : OneState) → (feeding (side_in c) allow piece (state_here r (side_in c))).after ≡ lives x → a.side ≡ side_after (side_in c) x → Heeds a.row
      → Standing r.id a.row x → Paired after (set rows k a.row)
  unfolding side_after
  next_standing x f g h (others i w n) =
      next_one_way_lem p k (later_heard (λ z. side_later (side_in c) x (rw g at z))) a.row (i ∙ ap (λ y. y.id) was) (rw was at two) h (λ z. absurd (n z))
  next_standing (in_control s) f g h (controls i w) =
      next_one_way_lem p k (later_heard (λ z. side_later (side_in c) (in_control s) (rw g at z))) a.row (i ∙ ap (λ y. y.id) was) (rw was at two) h
      (λ z. (come, was-one (control_once c.side.control c.side.encoder c.side.decoder allow (state_here r (side_in c)) piece f)))
    where
      come : after.side.control ≡ 0 → ⊥
      come z = let y = (later_code {c = with_side c a.side} a.number later_same).control z in let m : ◌≡◌ {A = ℕ} 1 0 = sym (ap (λ x. x.control) g) ∙ y in omega arith

      was-one : (c.side.control ≡ 0) ⊎ ((y : State Control) × (state_here r (side_in c) ≡ in_control y)) → (c.side.control ≡ 0) ⊎ ((at rows k).kind ≡ CONTROL)
      was-one (inl e) = inl e
      was-one (inr y) = inr (sym (ap (λ x. x.kind) was) ∙ control_kind (cells_in r) (place_here r (side_in c)) (sofar_here r (side_in c)) r.kind y.1)

  after_one_way : Heeded r (side_in c) own allow piece (state_here r (side_in c)) a → StaysOn own allow piece r (side_in c) a → Paired after (set rows k a.row)
  after_one_way (left.same e s) t = same_record p k (later_heard (λ z. rw s at z)) _ (e ∙ was)
  after_one_way (left.freed e s) t = free_one p k (later_heard (λ z. rw s at z)) _ e
  after_one_way (left.goes_on o x f e s) t = next_standing x f s (t o x f).0 (rw e (standing r.id x))

-- ---- EVERY CALL KEEPS IT

module _ {c : Connection} {rows : List Record} {f : Found} {call : Call} {id : ℕ} (found : FoundIn call id rows f) (p : Paired c rows) where
  unaltered_pair : {t : Turn} (n : ℕ) → t ≡ unaltered n c f → Paired t.conn (set rows f.at t.row)
  unaltered_pair n q = rw q (same_record p f.at later_same f.row found.row)

  pub kept_pair : {allow : ℕ} {piece : List ℕ} {t : Turn} → Turned c f call id allow piece t → Paired t.conn (set rows f.at t.row)
  kept_pair (other_row n q) = unaltered_pair 9 q
  kept_pair (dead l n q) = unaltered_pair c.doors.code q
  kept_pair (opens v e q) = rw q (after_opening p id f.at found.row (free_at f.at) (went (doors_in c) id (free_at f.at)))
  kept_pair (not_open v n s q) = unaltered_pair 1 q
  kept_pair {allow} {piece} (request {own} v n l o q s) = let r = f.row in
      rw q (after_request p f.at found.row o (request_as own allow piece r (state_in r)) (request_left r own allow piece (state_in r)) (rw q at s))
  kept_pair {allow} {piece} (one_way {own} v n l h q s) = let r = f.row in let d = side_in c in
      rw q (after_one_way p f.at found.row h.kind own allow piece (one_way_as own allow piece r d (state_here r d)) (one_way_left r d own allow piece (state_here r d)) s)

  -- A STREAM THAT IS FOUND IS OPEN: 1 is for those that are not
  pub found_open : {own : Own} → call ≡ Call.On own → f.at < 24 → Open f.row ⊎ Heeds f.row
  found_open n l = by (p.known f.at)
    where
      taken : Belongs id (at rows f.at)
      taken = wanted_belongs id (at rows f.at) n (found.there (let e = p.long in omega arith))

      by : Known (at rows f.at) → Open f.row ⊎ Heeds f.row
      by (inl v) = absurd (taken.taken (ap (λ x. x.kind) v))
      by (inr o) = rw found.row o

-- our GOAWAY
gone_later : (c : Connection) (id : ℕ) (w : Write) → Later c (with_doors c (sending_of (doors_in c) (stream_id id) w).doors)
unfolding sending_of
gone_later c id (refused n) = later_same
gone_later c id (wrote bytes) = record { requests = omega arith; oneways = omega arith; control = λ e. e }

pub goaway_pair : {c : Connection} {rows : List Record} {id : ℕ} {before after : List ℕ} {r : Gone} → GoesAway c.doors id before r after → Paired c rows → Paired (with_doors c r.doors) rows
goaway_pair {c} {id = id} {before = before} g p = rw g.is (rw g.sends.answers (later_pair (gone_later c id (write_of c.doors.code (doors_in c) id (length before))) p))
