-- The invariant: the integer is what is read so far with the bytes to come. Assumes nothing.
use Prim.Native.Nat.{◌+◌, ◌-◌}
use Rattle.varint.specs.Whole.{OnWay}
use Rattle.varint.proofs.long.Given as goal

abbrev pub invariant-loop-b : goal.invariant-loop-b
invariant-loop-b l = OnWay l.s l.at (l.due - l.b-index) l.acc (l.at + 1 + l.b-index)
