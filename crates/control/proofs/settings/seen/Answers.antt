-- `control::settings::seen` meets its contract. The loop's invariant: what the pairs from `at` on say of the identifier, the pairs from the
-- beginning say. The measure is what is left of the payload. Assumes nothing.
use native.Mathlib.Omega.{arith}
use mathlib.Core.Bool.{true, false}
use Rattle.control.specs.WalkLaws.{look_none, look_cut, look_here, look_on, pair_shortens}
use Rattle.control.proofs.settings.seen.Goals as goal

pub loop-at-init : goal.loop-at-init
loop-at-init c = λ r k. k

pub returns-in_default : goal.returns-in_default
returns-in_default c =
    c.loop-at.invariant false (look_cut _ _ _ _ c.loop-at-test.true c.in_default.ensures)

pub returns-then-pair-sought : goal.returns-then-pair-sought
returns-then-pair-sought c =
    c.loop-at.invariant true
    (look_here _ _ _ _ c.loop-at-test.true c.in-Some.ensures c.if-pair-sought.true)

pub loop-at-smaller : goal.loop-at-smaller
loop-at-smaller c =
    omega (arith, pair_shortens _ c.in-Some.ensures)

pub loop-at-preserved : goal.loop-at-preserved
loop-at-preserved c =
    λ r k. c.loop-at.invariant r
    (look_on _ _ _ _ r c.loop-at-test.true c.in-Some.ensures c.if-pair-sought.false k)

pub returns : goal.returns
returns c = c.loop-at.invariant false (look_none _ _ _ _ c.loop-at-test.false)
