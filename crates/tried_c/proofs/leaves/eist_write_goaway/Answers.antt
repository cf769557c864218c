-- `tried_c::leaves::eist_write_goaway` meets its contract: the answer is given in numbers. Assumes nothing.
use Rattle.tried_c.specs.LeafNumbers.{written, given_sent}
use Rattle.tried_c.proofs.leaves.eist_write_goaway.Goals as goal

pub returns : goal.returns
returns c = written (rw (given_sent c.args.sent _ c.then_some-sent.ensures) at c.write_goaway.ensures) c.told.ensures.value c.told.ensures.out_after
