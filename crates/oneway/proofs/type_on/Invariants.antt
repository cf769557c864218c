use Rattle.oneway.specs.Typed.{OnType}
use Rattle.oneway.proofs.type_on.Given as goal

abbrev pub invariant-loop-i : goal.invariant-loop-i
invariant-loop-i l = OnType l.s l.acc l.due l.i l.p
