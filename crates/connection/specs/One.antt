-- One answer: two results of a call that meet its promise are equal. Assumes nothing.
use Rattle.std.specs.Prelude.{◌≡◌, ℕ, ◌≤◌, ◌<◌, List, ◌⊎◌}
use Rattle.std.proofs.Common.{sym, ap, ◌∙◌, arith, inl, inr}
use Rattle.record.specs.Kinds.{REQUEST}
use Rattle.rules.specs.Numbers.{NOT-OPEN, OTHER-ROW}
use Rattle.requests.specs.Reply.{Open, state_in}
use Rattle.connection.specs.declared.doors.Doors.{Doors}
use Rattle.connection.specs.Goaway.{sends_one}
use Rattle.oneway.specs.Heard.{Heeds, state_here}
use Rattle.connection.specs.declared.Call.{Call}
use Rattle.connection.specs.declared.Own.{Own}
use Rattle.connection.specs.declared.Connection.{Connection}
use Rattle.connection.specs.declared.Found.{Found}
use Rattle.connection.specs.declared.Turn.{Turn}
use Rattle.connection.specs.declared.Gone.{Gone}
use Rattle.connection.specs.Halves.{side_in}
use Rattle.connection.specs.Turned.{unaltered, opened_at, request_as, replied, one_way_as, overheard, Turned, other_row, dead, opens, not_open, request, one_way, gone_by, GoesAway}

-- one of two that shut each other out, each with one answer
fork_one : {P Q A B C D E : Type 0} → (P → Q → ⊥) → (A → B → E) → (C → D → E) → (P × A) ⊎ (Q × C) → (P × B) ⊎ (Q × D) → E
fork_one n a c (inl x) (inl y) = a x.1 y.1
fork_one n a c (inl x) (inr y) = absurd (n x.0 y.0)
fork_one n a c (inr x) (inl y) = absurd (n y.0 x.0)
fork_one n a c (inr x) (inr y) = c x.1 y.1

module _ (c : Connection) (f : Found) (call : Call) (id allow : ℕ) (piece : List ℕ) where
  -- document 01's order, test by test
  abbrev Taken : Type 0
  Taken = (f.at < 24) × (Open f.row ⊎ Heeds f.row)

  abbrev OnStream : Own → Turn → Type 0
  OnStream own t = ((f.row.kind ≡ REQUEST) × (t ≡ replied c (request_as own allow piece f.row (state_in f.row))))
      ⊎ ((2 ≤ f.row.kind) × (t ≡ overheard c (one_way_as own allow piece f.row (side_in c) (state_here f.row (side_in c)))))

  abbrev Living : Call → Turn → Type 0
  Living Call.Open t = t ≡ opened_at c f id
  Living (Call.On own) t = ((Taken → ⊥) × (t ≡ unaltered NOT-OPEN c f)) ⊎ (Taken × OnStream own t)

  abbrev On24 : Turn → Type 0
  On24 t = ((c.doors.code ≡ 0 → ⊥) × (t ≡ unaltered c.doors.code c f)) ⊎ ((c.doors.code ≡ 0) × Living call t)

  abbrev Tested : Turn → Type 0
  Tested t = ((f.len ≡ 24 → ⊥) × (t ≡ unaltered OTHER-ROW c f)) ⊎ ((f.len ≡ 24) × On24 t)

  tested : {t : Turn} → Turned c f call id allow piece t → Tested t
  tested (other_row n q) = inl (n, q)
  tested (dead l n q) = inr (l, inl (n, q))
  tested (opens v e q) = inr (v.long, inr (v.alive, rw e q))
  tested (not_open v n s q) = inr (v.long, inr (v.alive, rw n (inl ((λ x. s x.0 x.1), q))))
  tested (request v n l o q s) = inr (v.long, inr (v.alive, rw n (inr ((l, inl o), inl (o.kind, q)))))
  tested (one_way v n l h q s) = inr (v.long, inr (v.alive, rw n (inr ((l, inr h), inr (h.kind, q)))))

  -- A CALL HAS ONE ANSWER, and leaves one connection and one record
  pub one_turn : {t u : Turn} → Turned c f call id allow piece t → Turned c f call id allow piece u → t ≡ u
  one_turn {t} {u} x y = fork_one (λ n l. n l) same on24 (tested x) (tested y)
    where
      same : {v : Turn} → t ≡ v → u ≡ v → t ≡ u
      same p q = p ∙ sym q

      on_stream : (own : Own) → OnStream own t → OnStream own u → t ≡ u
      on_stream own = fork_one (λ k l. omega arith) same same

      living : (k : Call) → Living k t → Living k u → t ≡ u
      living Call.Open = same
      living (Call.On own) = fork_one (λ n l. n l) same (on_stream own)

      on24 : On24 t → On24 u → t ≡ u
      on24 = fork_one (λ n e. n e) same (living call)

-- OUR GOAWAY HAS ONE ANSWER, and leaves the doors and the room in one way
pub one_goaway : {d : Doors} {id : ℕ} {l a b : List ℕ} {r q : Gone} → GoesAway d id l r a → GoesAway d id l q b → (r ≡ q) × (a ≡ b)
one_goaway x y = let s = sends_one x.sends y.sends in (x.is ∙ ap gone_by s.0 ∙ sym y.is, s.1)
