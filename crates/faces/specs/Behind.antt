-- The records behind the row that is lent. Assumes nothing.
use Rattle.std.specs.Prelude.{◌≡◌, ℕ, ◌≤◌, ◌+◌, ◌-◌, List, ◌++◌, drop}
use Rattle.std.proofs.Common.{◌∙◌, drop-drop}
use native.Mathlib.Omega.{arith}
use Rattle.std.proofs.Math.ListN.{length}
use Rattle.std.proofs.Math.Seq.{drop-append-add}

module _ {A : Type 0} where
  -- from m on they are as they were
  unfoldable pub Behind : (m : ℕ) (before after : List A) → Type 0
  Behind m before after = drop m after ≡ drop m before

  pub behind_row : (n m : ℕ) (row before : List A) → length row ≡ n → n ≤ m → Behind m before (row ++ drop n before)
  unfolding Behind
  behind_row n m row before e h =
      let p : length row + (m - n) ≡ m = omega arith in
      let q : n + (m - n) ≡ m = omega arith in
      rw p at (drop-append-add row (drop n before) (m - n)) ∙ rw q at (drop-drop (m - n) n before)
