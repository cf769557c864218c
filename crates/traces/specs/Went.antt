-- Every way a call can go, as one table stated apart from the calls: the answer, and what it leaves. Assumes nothing.
use Rattle.std.specs.Prelude.{◌≡◌, ℕ, ◌<◌, ◌≤◌, ◌^◌, Bool}
use Rattle.std.proofs.Math.Path.{refl}
use Rattle.std.proofs.Math.Decide.{ℕ_discrete, dec_le, dec_lt}
use Rattle.std.proofs.Math.Bool.{true, false}
use Rattle.std.proofs.Math.Option.{Option, none, some}
use Rattle.rules.specs.Numbers.{House, StreamFault, request_rejected, ConnectionFault, of_stream, of_connection}
use Rattle.rules.specs.Calls.{Gave, done, Left, Own, Out, refuse, step, leave, fault, Machine, either, pick, Kind, kind_of, Stream, Slot, free, held, Row, Conn, Pair, Held, Call, start, open', on, goaway, Answer, gave, left, house, code, Result, next_of, spend, killed, keeping, limited, barred, find, put, seat, same, with, alive, fresh, first, seated, faulted, act_on, settle, acting, goaway_size, call}
use Rattle.rules.specs.Writer.{bad_goaway}
use Rattle.rules.specs.Calls
use Rattle.traces.specs.Row.{Seated, seat_is}

abbrev pub Alive : {M : Machine} → Pair M → Type 0
Alive p = p.conn.dead ≡ none

abbrev pub pair : {M : Machine} → Conn M → Row M → Pair M
pair c row = record { conn = c; row = row }

pub data Went {M : Machine} (p : Pair M) : Call M → Answer → Pair M → Type 0 where
  restarted : Went p start (gave done) fresh
  -- refusals
  still_dead : {c : Call M} {k : ConnectionFault} → p.conn.dead ≡ some k → Went p c (code (of_connection k) 0 0) p
  by_house : {c : Call M} {h : House} → Alive p → Went p c (house h) p
  barring : {id : ℕ} {k : Kind} → Alive p → kind_of id ≡ some k → id ≡ next_of k p.conn → id < 2 ^ 62 → barred k p.conn id ≡ true
      → Went p (open' id) (code (of_stream request_rejected) 0 0) (pair (spend k p.conn) p.row)
  faulting : {id : ℕ} {o : Own M} {s : Stream M} {k : StreamFault} {u h : ℕ} → Alive p → find id p.row ≡ some s
      → Went p (on id o) (code (of_stream k) u h) (pair p.conn (put id free p.row))
  dying : {id : ℕ} {o : Own M} {s : Stream M} {k : ConnectionFault} {u h : ℕ} → Alive p → find id p.row ≡ some s
      → Went p (on id o) (code (of_connection k) u h) (pair (killed k p.conn) p.row)
  -- accepted
  opening : {id : ℕ} {k : Kind} {row : Row M} → Alive p → kind_of id ≡ some k → id ≡ next_of k p.conn → id < 2 ^ 62 → barred k p.conn id ≡ false
      → Seated (held id (first k)) p.row row → Went p (open' id) (gave done) (pair (spend k p.conn) row)
  stepping : {id : ℕ} {o : Own M} {s : Stream M} {g : Gave} (x : Held M) → Alive p → find id p.row ≡ some s → act_on p.conn.kept s o ≡ step g x
      → Went p (on id o) (gave g) (pair (keeping x.kept p.conn) (put id (held id x.stream) p.row))
  leaving : {id : ℕ} {o : Own M} {s : Stream M} {l : Left} → Alive p → find id p.row ≡ some s
      → Went p (on id o) (left l) (pair p.conn (put id free p.row))
  sending : {id room : ℕ} → Alive p → bad_goaway p.conn.limit id ≡ false → goaway_size id ≤ room
      → Went p (goaway id room) (gave done) (pair (limited id p.conn) p.row)

module _ {M : Machine} where
  abbrev pub Goes : Pair M → Call M → Result M → Type 0
  Goes p c r = Went p c r.answer r.after

  went_alive : (p : Pair M) (c : Call M) (r : Result M) → (Alive p → Goes p c r) → Goes p c (alive p.conn.dead p r)
  unfolding alive same
  went_alive p c r w = go p.conn.dead refl
    where
      go : (d : Option ConnectionFault) → p.conn.dead ≡ d → Goes p c (alive d p r)
      go none e = w e
      go (some k) e = still_dead e

  went_opening : (id : ℕ) (p : Pair M) → Alive p → Goes p (open' id) (Calls.opening id (kind_of id) p)
  unfolding Calls.opening same with pick either seated
  went_opening id p a = go (kind_of id) refl
    where
      last : (k : Kind) → kind_of id ≡ some k → id ≡ next_of k p.conn → id < 2 ^ 62 → barred k p.conn id ≡ false
          → (o : Option (Row M)) → seat (held id (first k)) p.row ≡ o → Goes p (open' id) (seated k p o)
      last k e n l b none q = by_house a
      last k e n l b (some row) q = opening a e n l b (seat_is (held id (first k)) p.row row q)

      bars : (k : Kind) → kind_of id ≡ some k → id ≡ next_of k p.conn → id < 2 ^ 62 → (b : Bool) → barred k p.conn id ≡ b
          → Goes p (open' id) (either b (with (code (of_stream request_rejected) 0 0) (spend k p.conn) p.row) (seated k p (seat (held id (first k)) p.row)))
      bars k e n l true q = barring a e n l q
      bars k e n l false q = last k e n l q (seat (held id (first k)) p.row) refl

      low : (k : Kind) → kind_of id ≡ some k → id ≡ next_of k p.conn → (d : Dec (id < 2 ^ 62))
          → Goes p (open' id) (pick d (either (barred k p.conn id) (with (code (of_stream request_rejected) 0 0) (spend k p.conn) p.row) (seated k p (seat (held id (first k)) p.row))) (same (house House.not_next) p))
      low k e n (yes l) = bars k e n l (barred k p.conn id) refl
      low k e n (no l) = by_house a

      next : (k : Kind) → kind_of id ≡ some k → (d : Dec (id ≡ next_of k p.conn))
          → Goes p (open' id) (pick d (pick (dec_lt id (2 ^ 62)) (either (barred k p.conn id) (with (code (of_stream request_rejected) 0 0) (spend k p.conn) p.row) (seated k p (seat (held id (first k)) p.row))) (same (house House.not_next) p)) (same (house House.not_next) p))
      next k e (yes n) = low k e n (dec_lt id (2 ^ 62))
      next k e (no n) = by_house a

      go : (o : Option Kind) → kind_of id ≡ o → Goes p (open' id) (Calls.opening id o p)
      go none e = by_house a
      go (some k) e = next k e (ℕ_discrete id (next_of k p.conn))

  went_settle : (id : ℕ) (o : Own M) (p : Pair M) (s : Stream M) → Alive p → find id p.row ≡ some s → (x : Out (Held M)) → act_on p.conn.kept s o ≡ x → Goes p (on id o) (settle id p x)
  unfolding settle same with faulted
  went_settle id o p s a f (refuse h) q = by_house a
  went_settle id o p s a f (step g x) q = stepping x a f q
  went_settle id o p s a f (leave l) q = leaving a f
  went_settle id o p s a f (fault (of_stream k) u h) q = faulting a f
  went_settle id o p s a f (fault (of_connection k) u h) q = dying a f

  went_acting : (id : ℕ) (o : Own M) (p : Pair M) → Alive p → (f : Option (Stream M)) → find id p.row ≡ f → Goes p (on id o) (acting id o p f)
  unfolding acting same
  went_acting id o p a none e = by_house a
  went_acting id o p a (some s) e = went_settle id o p s a e (act_on p.conn.kept s o) refl

  went_sending : (id room : ℕ) (p : Pair M) → Alive p → Goes p (goaway id room) (Calls.sending id room p)
  unfolding Calls.sending same with either pick
  went_sending id room p a = go (bad_goaway p.conn.limit id) refl (dec_le (goaway_size id) room)
    where
      go : (b : Bool) → bad_goaway p.conn.limit id ≡ b → (d : Dec (goaway_size id ≤ room))
          → Goes p (goaway id room) (either b (same (house House.bad_value) p) (pick d (with (gave done) (limited id p.conn) p.row) (same (house House.room_short) p)))
      go true e d = by_house a
      go false e (yes l) = sending a e l
      go false e (no l) = by_house a

  pub went : (c : Call M) (p : Pair M) → Went p c (call c p).answer (call c p).after
  unfolding call same
  went start p = restarted
  went (open' id) p = went_alive p (open' id) (Calls.opening id (kind_of id) p) (went_opening id p)
  went (on id o) p = went_alive p (on id o) (acting id o p (find id p.row)) (λ a. went_acting id o p a (find id p.row) refl)
  went (goaway id room) p = went_alive p (goaway id room) (Calls.sending id room p) (went_sending id room p)
