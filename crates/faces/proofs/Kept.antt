-- What is lent of the front is what comes back before the rest. Assumes nothing.
use Rattle.std.specs.Prelude.{◌≡◌, ℕ, List, ◌++◌, length, take, drop}
use Rattle.std.proofs.Common.{sym, subst, arith}
use Rattle.std.proofs.Math.Seq.{take-append_seam}
use Rattle.faces.specs.Behind.{Behind, behind_row}

module _ {A : Type 0} where
  front : (n : ℕ) (row before : List A) → length row ≡ n → take n (row ++ drop n before) ≡ row
  front n row before e = rw (← e) (take-append_seam row _)

  -- what is promised of the row is so of the front that comes back
  pub back : (P : List A → Type 0) (n : ℕ) (row before : List A) → length row ≡ n → P row → P (take n (row ++ drop n before)) × Behind n before (row ++ drop n before)
  back P n row before e p = (subst P (sym (front n row before e)) p, behind_row n n row before e (omega arith))
