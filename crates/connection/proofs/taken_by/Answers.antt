use mathlib.Core.Path.{refl}
use Rattle.connection.specs.Ways.{taken_first, taken_none}
use Rattle.connection.proofs.taken_by.Goals as goal

pub returns-then-number-eq-ACCEPTED : goal.returns-then-number-eq-ACCEPTED
returns-then-number-eq-ACCEPTED c = taken_first _ _ _ c.if-number-eq-ACCEPTED.true c.first_record.ensures

pub returns-else-number-eq-ACCEPTED : goal.returns-else-number-eq-ACCEPTED
returns-else-number-eq-ACCEPTED c = taken_none _ _ _ c.if-number-eq-ACCEPTED.false refl
