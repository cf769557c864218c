-- The records before r are swept. Assumes nothing.
use Rattle.std.proofs.Common.{◌≡◌, ◌++◌, map, take, drop, length}
use Rattle.connection.specs.Turned.{swept_of}
use Rattle.calls.proofs.empty.Given as goal

abbrev pub invariant-loop-r : goal.invariant-loop-r
invariant-loop-r l = l.row ≡ map (swept_of (length l.initial.row)) (take l.r-index l.initial.row) ++ drop l.r-index l.initial.row
