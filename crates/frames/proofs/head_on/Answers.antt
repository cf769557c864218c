use native.Mathlib.Omega.{arith}
use Rattle.frames.specs.Heads.{way_begins, way_on, way_whole, way_ends}
use Rattle.frames.proofs.head_on.Goals as goal

pub loop-i-init : goal.loop-i-init
loop-i-init c = way_begins _ _ c.requires

pub step-requires : goal.step-requires
step-requires c = c.loop-i.invariant.good

pub returns-in-Break : goal.returns-in-Break
returns-in-Break c = way_whole _ _ _ _ _ c.loop-i.invariant c.loop-i-test.true c.in-Break.ensures

pub loop-i-preserved : goal.loop-i-preserved
loop-i-preserved c = way_on _ _ _ _ _ c.loop-i.invariant c.loop-i-test.true c.in-Continue.ensures

pub returns : goal.returns
returns c = way_ends _ _ _ c.loop-i.i (omega arith) c.loop-i.invariant
