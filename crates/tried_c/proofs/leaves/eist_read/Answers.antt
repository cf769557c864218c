-- `tried_c::leaves::eist_read` meets its contract: what is read is the integer, or it is cut. Assumes nothing.
use Rattle.varint.specs.Whole.{whole_is}
use Rattle.tried_c.specs.LeafNumbers.{read_number, read_out}
use Rattle.tried_c.proofs.leaves.eist_read.Goals as goal

pub returns-in-None : goal.returns-in-None
unfolding whole_is read_number read_out
returns-in-None c =
    let e = rw c.in-None.is at c.read.ensures in
    record { value = rw (← e); out_after = rw (← e) }

pub returns-in-Some : goal.returns-in-Some
unfolding whole_is read_number read_out
returns-in-Some c =
    let e = rw c.in-Some.is at c.read.ensures in
    record { value = rw (← e); out_after = rw (← e) }
