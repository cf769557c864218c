-- `section::walk_lines` meets its contract. Assumes nothing.
use Prim.Native.Nat.{◌-◌}
use lib.ListN.{length}
use Rattle.section.specs.Walking.{Walking}
use Rattle.section.proofs.walk_lines.Given as goal

abbrev pub invariant-loop-line : goal.invariant-loop-line
invariant-loop-line l = Walking l.block l.at l.facts

abbrev pub decreases-loop-line : goal.decreases-loop-line
decreases-loop-line l = length l.block - l.at
