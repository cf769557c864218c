-- `replaying::goaway` meets its contract: the buffer lent has 64 bytes at most. Assumes nothing.
use Rattle.replaying.specs.Plays.{goaway_in}
use Rattle.replaying.proofs.goaway.Goals as goal

pub returns : goal.returns
returns c = let a = c.args in goaway_in a.pair a.l c.filled-buffer.result c.requires.1 c.filled-buffer.ensures c.requires.2 c.told_goaway.ensures
