-- By whether bytes are due. Assumes nothing.
use Rattle.varint.specs.ByByte.{onward_done, onward_more}
use Rattle.varint.proofs.onward.Goals as goal

pub returns-then-k-eq0 : goal.returns-then-k-eq0
returns-then-k-eq0 c = onward_done c.args.k c.args.v c.if-k-eq0.true

pub returns-else-k-eq0 : goal.returns-else-k-eq0
returns-else-k-eq0 c = onward_more c.args.k c.args.v c.if-k-eq0.false
