use Rattle.record.specs.Tests.{part_within}
use Rattle.record.proofs.is_part.Goals as goal

pub returns-then-due-le7 : goal.returns-then-due-le7
returns-then-due-le7 c = part_within _ _ c.if-due-le7.true
