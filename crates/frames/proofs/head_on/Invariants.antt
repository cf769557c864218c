use Rattle.frames.specs.Heads.{OnWay}
use Rattle.frames.proofs.head_on.Given as goal

abbrev pub invariant-loop-i : goal.invariant-loop-i
invariant-loop-i l = OnWay l.piece l.fn.head l.i l.head
