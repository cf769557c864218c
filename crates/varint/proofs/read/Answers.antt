-- Where it ends and its value make the integer. Assumes nothing.
use Rattle.varint.specs.Whole.{ended_whole, read_short, read_value}
use Rattle.varint.proofs.read.Goals as goal

pub returns-in_err-next : goal.returns-in_err-next
returns-in_err-next c = rw c.from_residual.ensures (read_short c.args.s.now c.args.at c.in_err-next.ensures)

pub value-requires : goal.value-requires
value-requires c = ended_whole c.args.s.now c.args.at c.in_ok-next.ensures

pub returns : goal.returns
returns c = read_value c.args.s.now c.args.at _ _ c.in_ok-next.ensures c.value.ensures
