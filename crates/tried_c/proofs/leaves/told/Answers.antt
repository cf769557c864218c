-- `tried_c::leaves::told` meets its contract, in each case. Assumes nothing.
use Rattle.tried_c.proofs.leaves.told.Goals as goal

pub returns-in-Ok : goal.returns-in-Ok
returns-in-Ok c = record { value = rw c.in-Ok.is; out_after = rw c.in-Ok.is }
