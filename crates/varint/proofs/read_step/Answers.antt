-- A first byte, and a later one; a good part leaves room for a byte more. Assumes nothing.
use native.Mathlib.Omega.{arith}
use Rattle.varint.specs.ByByte.{next_fits, first_step, next_step}
use Rattle.varint.proofs.read_step.Goals as goal

pub overflow_mul-p : goal.overflow_mul-p
overflow_mul-p c = let s = c in omega (arith, next_fits s.args.p s.args.b s.ranges.b.fits (omega arith) s.requires)

pub overflow_add-p : goal.overflow_add-p
overflow_add-p c = let s = c in omega (arith, next_fits s.args.p s.args.b s.ranges.b.fits (omega arith) s.requires)

pub returns-then-p-eq0 : goal.returns-then-p-eq0
returns-then-p-eq0 c = let s = c in first_step s.args.p s.args.b _ _ c.from-x.ensures s.ranges.b.fits c.if-p-eq0.true c.follow.ensures c.onward.ensures

pub returns-else-p-eq0 : goal.returns-else-p-eq0
returns-else-p-eq0 c = let s = c in next_step s.args.p s.args.b _ c.from-x.ensures s.ranges.b.fits (omega arith) s.requires c.onward-else-p-eq0.ensures
