-- Document 01's table "Numbers and what they leave", stated apart from the calls, and proved of every call. Assumes nothing.
use Rattle.std.specs.Prelude.{◌≡◌, ℕ, length}
use Rattle.std.proofs.Math.Path.{refl}
use Rattle.std.proofs.Math.Decide.{ℕ_discrete}
use Rattle.std.proofs.Math.Option.{some}
use Rattle.rules.specs.Numbers.{House, other_row, StreamFault, request_rejected, ConnectionFault, of_stream, of_connection}
use Rattle.rules.specs.Calls.{Gave, Left, Own, Machine, pick, Kind, kind_of, free, Row, Pair, Call, start, open', on, goaway, Answer, gave, left, house, code, same, spend, killed, call, rowed, lent}
use Rattle.traces.specs.Row.{Replaced, put_replaces, pick_yes, pick_no}
use Rattle.traces.specs.Went.{pair, Went, restarted, still_dead, by_house, barring, faulting, dying, opening, stepping, leaving, sending, went}

pub data Leaves {M : Machine} (p : Pair M) : Call M → Answer → Pair M → Type 0 where
  -- 1 to 9: nothing altered
  nothing_altered : {c : Call M} {h : House} → Leaves p c (house h) p
  -- a stream fault: its record freed, no other slot and nothing of the connection record altered
  record_freed : {id : ℕ} {o : Own M} {k : StreamFault} {u h : ℕ} {row : Row M} → Replaced id free p.row row
      → Leaves p (on id o) (code (of_stream k) u h) (pair p.conn row)
  -- a barred opening: the ID is spent
  only_spent : {id : ℕ} {k : Kind} → kind_of id ≡ some k → Leaves p (open' id) (code (of_stream request_rejected) 0 0) (pair (spend k p.conn) p.row)
  -- a connection fault, new or old: the code kept, all else as before
  code_kept : {c : Call M} {k : ConnectionFault} {u h : ℕ} {p' : Pair M} → p' ≡ pair (killed k p.conn) p.row → Leaves p c (code (of_connection k) u h) p'
  -- accepted
  accepted : {c : Call M} {g : Gave} {p' : Pair M} → Leaves p c (gave g) p'
  accepted_last : {c : Call M} {l : Left} {p' : Pair M} → Leaves p c (left l) p'

module _ {M : Machine} where
  killed_again : (p : Pair M) (k : ConnectionFault) → p.conn.dead ≡ some k → p ≡ pair (killed k p.conn) p.row
  unfolding killed
  killed_again p k e = λ i. record {
    conn = record { dead = e i; next_request = p.conn.next_request; next_oneway = p.conn.next_oneway; limit = p.conn.limit; kept = p.conn.kept };
    row = p.row;
  }

  leaves_went : (p p' : Pair M) (c : Call M) (a : Answer) → Went p c a p' → Leaves p c a p'
  leaves_went p p' c a restarted = accepted
  leaves_went p p' c a (still_dead {k = k} e) = code_kept (killed_again p k e)
  leaves_went p p' c a (by_house e) = nothing_altered
  leaves_went p p' c a (barring e k' m l b) = only_spent k'
  leaves_went p p' c a (faulting {id = id} {s = s} e f) = record_freed (put_replaces id free s p.row f)
  leaves_went p p' c a (dying e f) = code_kept refl
  leaves_went p p' c a (opening e k' m l b q) = accepted
  leaves_went p p' c a (stepping x e f w) = accepted
  leaves_went p p' c a (leaving e f) = accepted_last
  leaves_went p p' c a (sending e g l) = accepted

  pub leaves : (c : Call M) (p : Pair M) → Leaves p c (call c p).answer (call c p).after
  leaves c p = leaves_went p (call c p).after c (call c p).answer (went c p)

  -- ---- the lent row

  -- of another length than 24: 9, before all else, and nothing altered
  pub other_length : (id : ℕ) (o : Own M) (p : Pair M) → ¬ (length p.row ≡ 24)
      → (lent start p ≡ same (house other_row) p) × (lent (open' id) p ≡ same (house other_row) p) × (lent (on id o) p ≡ same (house other_row) p)
  unfolding lent rowed
  other_length id o p n = (pick_no _ _ _ n, pick_no _ _ _ n, pick_no _ _ _ n)

  -- of length 24: the call
  pub of_24 : (c : Call M) (p : Pair M) → length p.row ≡ 24 → lent c p ≡ call c p
  unfolding lent rowed
  of_24 start p e = pick_yes _ _ _ e
  of_24 (open' id) p e = pick_yes _ _ _ e
  of_24 (on id o) p e = pick_yes _ _ _ e
  of_24 (goaway id room) p e = refl

  -- every call as it is lent, 9 among its answers
  leaves_rowed : (c : Call M) (p : Pair M) → Leaves p c (rowed p (call c p)).answer (rowed p (call c p)).after
  unfolding rowed pick same
  leaves_rowed c p = go (ℕ_discrete (length p.row) 24)
    where
      go : (d : Dec (length p.row ≡ 24)) → Leaves p c (pick d (call c p) (same (house other_row) p)).answer (pick d (call c p) (same (house other_row) p)).after
      go (yes e) = leaves c p
      go (no n) = nothing_altered

  pub leaves_lent : (c : Call M) (p : Pair M) → Leaves p c (lent c p).answer (lent c p).after
  unfolding lent
  leaves_lent start p = leaves_rowed start p
  leaves_lent (open' id) p = leaves_rowed (open' id) p
  leaves_lent (on id o) p = leaves_rowed (on id o) p
  leaves_lent (goaway id room) p = leaves (goaway id room) p

  -- what start leaves does not depend on what was there
  pub start_anew : (p q : Pair M) → call start p ≡ call start q
  unfolding call
  start_anew p q = refl
