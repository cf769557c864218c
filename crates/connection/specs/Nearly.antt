-- WHAT THE DOORS DECIDE: every call but one on a one-way stream, and the same beside every side. Assumes nothing.
use Rattle.std.specs.Prelude.{◌≡◌, refl, ℕ, ◌≤◌, ◌<◌, List, Option, Some, None}
use Rattle.std.proofs.Common.{sym, ap, ◌∙◌, arith}
use Rattle.std.proofs.lemmas.Option.{none-some}
use Rattle.record.specs.Kinds.{REQUEST}
use Rattle.rules.specs.Numbers.{NOT-OPEN, OTHER-ROW}
use Rattle.requests.specs.declared.Reply.{Reply}
use Rattle.connection.specs.declared.doors.Doors.{Doors}
use Rattle.oneway.specs.declared.calls.Side.{Side}
use Rattle.oneway.specs.declared.calls.Heard.{Heard}
use Rattle.oneway.specs.Mirror.{fresh_side}
use Rattle.connection.specs.declared.Call.{Call}
use Rattle.connection.specs.declared.Own.{Own}
use Rattle.connection.specs.declared.Connection.{Connection}
use Rattle.connection.specs.declared.Found.{Found}
use Rattle.connection.specs.declared.Near.{Near}
use Rattle.connection.specs.declared.Turn.{Turn}
use Rattle.connection.specs.Whose.{open_not_on}
use Rattle.connection.specs.Halves.{both}
use Rattle.connection.specs.Turned.{near, beside, stays, opens_at, Asks, replies, Hears, overhears, Alive, Turned, other_row, dead, opens}
use Rattle.connection.specs.Ways.{past_row, on_request, on_one_way}
use Rattle.connection.specs.One.{one_turn}

-- the side is asked: a call on a live connection's record that is no request's
pub record Aside (d : Doors) (f : Found) (call : Call) : Type 0 where
  pub live : Alive d f
  pub own : Own
  pub on : call ≡ Call.On own
  pub within : f.at < 24
  pub other : f.row.kind ≡ REQUEST → ⊥

-- none: the side is asked
pub data Nearly (d : Doors) (f : Found) (call : Call) (id allow : ℕ) (piece : List ℕ) (n : Option Near) : Type 0 where
  here : {m : Near} → n ≡ Some m → (Aside d f call → ⊥) → ((s : Side) → Turned (both d s) f call id allow piece (beside s m)) → Nearly d f call id allow piece n
  aside : Aside d f call → n ≡ None → Nearly d f call id allow piece n

-- ---- laws: a law for each way out

module _ {d : Doors} {f : Found} {call : Call} {id allow : ℕ} {piece : List ℕ} {n : Near} where
  pub near_other : (f.len ≡ 24 → ⊥) → n ≡ stays OTHER-ROW d f → Nearly d f call id allow piece (Some n)
  near_other l q = here refl (λ a. l a.live.long) (λ s. other_row l (ap (beside s) q))

  pub near_dead : f.len ≡ 24 → (d.code ≡ 0 → ⊥) → n ≡ stays d.code d f → Nearly d f call id allow piece (Some n)
  near_dead l z q = here refl (λ a. z a.live.alive) (λ s. dead l z (ap (beside s) q))

  module _ (live : Alive d f) where
    pub near_opens : call ≡ Call.Open → n ≡ opens_at d f id → Nearly d f call id allow piece (Some n)
    near_opens e q = here refl (λ a. open_not_on e a.on) (λ s. opens live e (ap (beside s) q))

    module _ {own : Own} (z : call ≡ Call.On own) where
      pub near-past : 24 ≤ f.at → n ≡ stays NOT-OPEN d f → Nearly d f call id allow piece (Some n)
      near-past l q = here refl (λ a. (let w = a.within in omega arith)) (λ s. past_row id allow live z l (ap (beside s) q))

      pub near-request : f.at < 24 → {a : Reply} → f.row.kind ≡ REQUEST → Asks f.row own allow piece a → n ≡ replies d a → Nearly d f call id allow piece (Some n)
      near-request w k m q = here refl (λ a. a.other k) (λ s. on_request id allow live z w k m (ap (beside s) q))

module _ {d : Doors} {f : Found} {call : Call} {own : Own} {id allow : ℕ} {piece : List ℕ} where
  pub near-aside : Alive d f → call ≡ Call.On own → f.at < 24 → (f.row.kind ≡ REQUEST → ⊥) → Nearly d f call id allow piece None
  near-aside live z w k = aside (record { live = live; own = own; on = z; within = w; other = k }) refl

-- ---- what a call comes to

pub not_aside : {d : Doors} {f : Found} {call : Call} {id allow : ℕ} {piece : List ℕ} → Nearly d f call id allow piece None → call ≡ Call.Open → ⊥
not_aside (here e o t) q = none-some _ e
not_aside (aside a e) q = open_not_on q a.on

module _ {c : Connection} {f : Found} {call : Call} {id allow : ℕ} {piece : List ℕ} where
  pub turned_near : {n : Near} {t : Turn} → Nearly c.doors f call id allow piece (Some n) → t ≡ beside c.side n → Turned c f call id allow piece t
  turned_near {n} (here {m} e o t) s = let q : n ≡ m = cc in rw (s, q) (t c.side)
  turned_near (aside a e) s = absurd (none-some _ (sym e))

  pub turned_aside : {own : Own} {a : Heard} {t : Turn} → Nearly c.doors f call id allow piece None → call ≡ Call.On own → Hears f.row c.side own allow piece a → t ≡ overhears c.doors a → Turned c f call id allow piece t
  turned_aside (here e o t) on h s = absurd (none-some _ e)
  turned_aside (aside a e) on h s = on_one_way id allow a.live on a.within a.other refl h s

-- ---- ONE ANSWER

module _ (d : Doors) (f : Found) (call : Call) (id allow : ℕ) (piece : List ℕ) where
  same_near : {n m : Near} → beside fresh_side n ≡ beside fresh_side m → n ≡ m
  same_near q = ap (λ (t : Turn). near t.conn.doors t.row t.report) q

  pub one_near : {n m : Option Near} → Nearly d f call id allow piece n → Nearly d f call id allow piece m → n ≡ m
  one_near (here a o t) (here b p u) = a ∙ ap Some (same_near (one_turn (both d fresh_side) f call id allow piece (t fresh_side) (u fresh_side))) ∙ sym b
  one_near (here a o t) (aside x q) = absurd (o x)
  one_near (aside x q) (here b p u) = absurd (p x)
  one_near (aside x q) (aside y r) = q ∙ sym r
