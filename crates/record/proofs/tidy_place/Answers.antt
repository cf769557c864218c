use native.Mathlib.Omega.{arith}
use Rattle.record.specs.Tidy.{tidy_nowhere, tidy_unstated, tidy_stated}
use Rattle.record.proofs.tidy_place.Goals as goal
use Rattle.record.proofs.tidy_place.Goals.{in_default-via-then-c-lt1, in_default-via-else-c-lt1+else-c-lt3}

pub returns-then-c-eq0 : goal.returns-then-c-eq0
returns-then-c-eq0 c = tidy_unstated _ (omega arith) (omega arith) c.if-c-eq0.true c.placed.ensures

pub returns-else-c-eq0 : goal.returns-else-c-eq0
returns-else-c-eq0 c = tidy_stated _ (omega arith) (omega arith) c.if-c-eq0.false c.placed-else-c-eq0.ensures

pub returns-in_default : goal.returns-in_default
returns-in_default c = elim c.in_default.branch [ in_default-via-then-c-lt1 w ↦ tidy_nowhere _ (λ e. omega arith) (λ e. omega arith) c.placed-in_default.ensures | in_default-via-else-c-lt1+else-c-lt3 w ↦ tidy_nowhere _ (λ e. omega arith) (λ e. omega arith) c.placed-in_default.ensures ]
