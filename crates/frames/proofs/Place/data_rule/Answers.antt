use native.Mathlib.Omega.{arith}
use mathlib.Core.Path.{refl}
use Rattle.frames.specs.Ruled.{past_limit, in_limit, past_stated, in_stated}
use Rattle.frames.proofs.Place.data_rule.Goals as goal

pub returns-then-stated-total : goal.returns-then-stated-total
returns-then-stated-total c = rw c.in-Some.is (past_stated 1 c.in-Some.stated _ _ (λ e. omega arith) c.if-stated-total.true)

pub returns-else-stated-total : goal.returns-else-stated-total
returns-else-stated-total c = rw c.in-Some.is (in_stated 1 c.in-Some.stated _ _ (λ e. omega arith) c.if-stated-total.false)

pub returns-then-total-gt-CONTENT_LIMIT : goal.returns-then-total-gt-CONTENT_LIMIT
returns-then-total-gt-CONTENT_LIMIT c = rw c.in-None.is (past_limit 0 0 _ _ refl c.if-total-gt-CONTENT_LIMIT.true)

pub returns-else-total-gt-CONTENT_LIMIT : goal.returns-else-total-gt-CONTENT_LIMIT
returns-else-total-gt-CONTENT_LIMIT c = rw c.in-None.is (in_limit 0 0 _ _ refl c.if-total-gt-CONTENT_LIMIT.false)
