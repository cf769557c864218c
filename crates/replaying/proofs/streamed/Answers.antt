-- `replaying::streamed` meets its contract: lent the kept row, or another. Assumes nothing.
use Rattle.replaying.specs.Plays.{step_lent, lined}
use Rattle.replaying.proofs.streamed.Goals as goal

pub returns : goal.returns
returns c = let a = c.args in lined (step_lent a.pair a.n c.requires.1 c.lent.ensures c.left.ensures c.drive-d.ensures.0) c.report_line.ensures
