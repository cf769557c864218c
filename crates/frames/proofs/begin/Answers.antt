use native.Mathlib.Omega.{arith}
use Rattle.frames.specs.Begun.{begin_skip, begin_fresh}
use Rattle.frames.proofs.begin.Goals as goal

pub returns-in-2 : goal.returns-in-2
returns-in-2 c = let a = c in rw c.skipping.ensures (begin_skip a.args.c a.args.s.now a.args.allow a.requires.0 c.in-2.is)

pub returns-in-0 : goal.returns-in-0
returns-in-0 c = let a = c in rw c.skipping-in-0.ensures (begin_fresh a.args.c a.args.s.now a.args.allow a.requires.0 (omega arith) (omega arith))
