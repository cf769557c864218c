-- Laws of the small words (rules, Text): equal tests, and a table by number. Assumes nothing.
use Rattle.std.specs.Prelude.{◌≡◌, ℕ, Bool}
use Rattle.std.proofs.Math.Path.{refl}
use mathlib.Core.List.{List, [], ◌∷◌}
use Rattle.std.proofs.Math.Bool.{true, false}
use Rattle.std.proofs.Math.Dec.{eqb, eqb_refl}
use Rattle.std.proofs.Common.{eqb→eq}
use Rattle.rules.specs.Text.{lookup}

pub differs : (t x : ℕ) → eqb t x ≡ false → t ≡ x → ⊥
differs t x e p = rw (rw p at e) at (eqb_refl x)

pub is_false : (t x : ℕ) → (t ≡ x → ⊥) → (y : Bool) → eqb t x ≡ y → y ≡ false
is_false t x d true e = absurd (d (eqb→eq t x (rw e tt)))
is_false t x d false e = refl

module _ {A : Type 0} (t : ℕ) where
  -- what every row would have to hold
  abbrev pub Rows : (P : A → Type 0) → List (ℕ × A) → Type 0
  Rows P [] = Unit {0}
  Rows P (row ∷ rows) = (t ≡ row.0 → P row.1) × Rows P rows

  abbrev pub Absent : List (ℕ × A) → Type 0
  Absent [] = Unit {0}
  Absent (row ∷ rows) = (t ≡ row.0 → ⊥) × Absent rows

  -- a row, or none
  pub lookup_view : (P : A → Type 0) (table : List (ℕ × A)) (other : A) → Rows P table → (Absent table → P other) → P (lookup table other t)
  unfolding lookup
  lookup_view P [] other r f = f tt
  lookup_view P (row ∷ rows) other r f = go (eqb t row.0) refl (λ d. lookup_view P rows other r.1 (λ a. f (d, a)))
    where
      go : (x : Bool) → eqb t row.0 ≡ x → ((t ≡ row.0 → ⊥) → P (lookup rows other t)) → P (elim x [ true ↦ row.1 | false ↦ lookup rows other t ])
      go true e g = r.0 (eqb→eq t row.0 (rw e tt))
      go false e g = g (differs t row.0 e)

  pub lookup_absent : (table : List (ℕ × A)) (other : A) → Absent table → lookup table other t ≡ other
  unfolding lookup
  lookup_absent [] other a = refl
  lookup_absent (row ∷ rows) other a = let e = is_false t row.0 a.0 (eqb t row.0) refl in rw (e, lookup) (lookup_absent rows other a.1)
