-- `replaying::buffered` meets its contract: the buffer lent has 64 bytes at most. Assumes nothing.
use Rattle.replaying.specs.Plays.{write_in}
use Rattle.replaying.proofs.buffered.Goals as goal

pub returns : goal.returns
returns c = let a = c.args in write_in a.pair a.l c.filled-buffer.result c.requires.1 c.filled-buffer.ensures c.requires.2 c.written.ensures
