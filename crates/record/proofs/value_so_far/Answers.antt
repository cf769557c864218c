use Rattle.record.specs.Tidy.{value_none, value_some}
use Rattle.record.proofs.value_so_far.Goals as goal

pub returns-then-due-eq0 : goal.returns-then-due-eq0
returns-then-due-eq0 c = value_none _ _ c.if-due-eq0.true

pub returns-else-due-eq0 : goal.returns-else-due-eq0
returns-else-due-eq0 c = value_some _ _ c.if-due-eq0.false
