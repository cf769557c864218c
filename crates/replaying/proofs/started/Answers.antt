-- `replaying::started` meets its contract: lent the kept row, or another. Assumes nothing.
use Rattle.replaying.specs.Plays.{start_lent, lined}
use Rattle.replaying.proofs.started.Goals as goal

pub returns : goal.returns
returns c = let a = c.args in lined (start_lent a.pair a.n c.requires.1 c.lent.ensures c.left.ensures c.drive_start-b.ensures.0) c.start_line.ensures
