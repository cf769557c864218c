use native.Mathlib.Omega.{arith}
use Rattle.oneway.specs.Typed.{type_begins, type_on, type_whole, type_ends}
use Rattle.oneway.proofs.type_on.Goals as goal

pub loop-i-init : goal.loop-i-init
loop-i-init c = type_begins _ _ _ c.requires

pub read_step-requires : goal.read_step-requires
read_step-requires c = c.loop-i.invariant.good

pub loop-i-preserved : goal.loop-i-preserved
loop-i-preserved c = type_on _ _ _ _ _ c.loop-i.invariant c.loop-i-test.true c.read_step.ensures c.in-Continue.is

pub returns-in-Break : goal.returns-in-Break
returns-in-Break c = type_whole _ _ _ _ _ c.loop-i.invariant c.loop-i-test.true c.read_step.ensures c.in-Break.is

pub returns : goal.returns
returns c = type_ends _ _ _ _ _ c.loop-i.invariant (omega (arith, c.loop-i-test.false))
