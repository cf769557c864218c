use Rattle.frames.specs.Heads.{type_more, type_done, length_more, length_done}
use Rattle.frames.proofs.Head.step.Goals as goal

pub returns-in-Continue : goal.returns-in-Continue
returns-in-Continue c = rw c.in-InType.is (type_more _ _ _ c.in-Continue.ensures)

pub returns-in-Break : goal.returns-in-Break
returns-in-Break c = rw (c.in-InType.is, c.fresh.ensures) (type_done _ _ _ c.in-Break.ensures)

pub returns-in-Continue-read_step : goal.returns-in-Continue-read_step
returns-in-Continue-read_step c = let g = rw c.in-InLength.is at c.requires in rw c.in-InLength.is (length_more _ _ _ _ g.1 c.in-Continue-read_step.ensures)

pub returns-in-Break-read_step : goal.returns-in-Break-read_step
returns-in-Break-read_step c = rw c.in-InLength.is (length_done _ _ _ _ _ c.in-Break-read_step.ensures)
