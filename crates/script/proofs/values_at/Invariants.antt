-- `script::values_at` meets its contract: each number leads on. Assumes nothing.
use lib.ListN.{length}
use Prim.Native.Nat.{◌≤◌}
use Rattle.script.proofs.values_at.Given as goal

abbrev pub invariant-loop-slot : goal.invariant-loop-slot
invariant-loop-slot l = (l.at ≤ l.next) × (l.next ≤ length l.s)
