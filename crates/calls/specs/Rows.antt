-- Lists of which a place is changed. Assumes nothing.
use Rattle.std.specs.Prelude.{◌≡◌, refl, ℕ, zero, suc, ◌≤◌, List, [], ◌∷◌, length, set, get_or}
use Rattle.std.proofs.Common.{ap, not-suc-le-zero, le_of_suc-le-suc}

module _ {A : Type 0} where
  -- a store past the end changes nothing
  pub set_past : (xs : List A) (i : ℕ) (y : A) → length xs ≤ i → set xs i y ≡ xs
  set_past [] i y h = refl
  set_past (x ∷ xs) zero y h = absurd (not-suc-le-zero h)
  set_past (x ∷ xs) (suc i) y h = ap (λ (zs : List A). x ∷ zs) (set_past xs i y (le_of_suc-le-suc h))

  -- a store leaves every other place as it was
  pub set_other : (xs : List A) (i j : ℕ) (y d : A) → (j ≡ i → ⊥) → get_or (set xs i y) j d ≡ get_or xs j d
  set_other [] i j y d h = refl
  set_other (x ∷ xs) zero zero y d h = absurd (h refl)
  set_other (x ∷ xs) zero (suc j) y d h = refl
  set_other (x ∷ xs) (suc i) zero y d h = refl
  set_other (x ∷ xs) (suc i) (suc j) y d h = set_other xs i j y d (λ e. h (ap suc e))
