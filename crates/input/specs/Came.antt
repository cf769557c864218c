-- What a read leaves of a room: as many bytes as it had, of which those that came are the first. Assumes nothing.
use Rattle.std.specs.Prelude.{ℕ, ◌≤◌, ◌≡◌, List, length, Result, Ok, Err}
use Rattle.std.proofs.Common.{arith}

abbrev pub count_of : {E : Type 0} → Result ℕ E → ℕ
count_of (Ok n) = n
count_of (Err e) = 0

pub record Came {E : Type 0} (before : List ℕ) (r : Result ℕ E) (after : List ℕ) : Type 0 where
  pub same : length after ≡ length before
  pub within : count_of r ≤ length before

-- what came lies within the room
pub fits : {E : Type 0} {before after : List ℕ} {r : Result ℕ E} {n : ℕ} → Came before r after → r ≡ Ok n → n ≤ length after
fits c e = let s = c.same in let w = rw e at c.within in omega arith
