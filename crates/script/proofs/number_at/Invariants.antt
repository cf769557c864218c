-- `script::number_at` meets its contract: the invariant is that the digits so far spell the value. Assumes nothing.
use mathlib.Core.Path.{◌≡◌}
use Prim.Native.Nat.{◌+◌, ◌<◌}
use Rattle.listing.specs.Text.{decimal}
use Rattle.script.specs.Words.{between}
use Rattle.script.proofs.number_at.Given as goal

abbrev pub invariant-loop-i : goal.invariant-loop-i
invariant-loop-i l = (0 < l.value) × (between l.s l.at (l.at + 1 + l.i) ≡ decimal l.value)
