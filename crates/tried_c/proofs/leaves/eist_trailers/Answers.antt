-- `tried_c::leaves::eist_trailers` meets its contract: each answer is what the rules say of the block. Assumes nothing.
use Rattle.std.proofs.Common.{◌∙◌}
use Rattle.section.specs.Answer.{trailer_number}
use Rattle.tried_c.specs.LeafNumbers.{same_fault}
use Rattle.tried_c.proofs.leaves.eist_trailers.Goals as goal

pub returns-in-Err : goal.returns-in-Err
returns-in-Err c =
    let e = rw c.in-Err.is at c.trailers.ensures in
    rw (← e) (c.number.ensures ∙ same_fault c.in-Err.fault)

pub returns-in-Ok : goal.returns-in-Ok
unfolding trailer_number
returns-in-Ok c =
    let e = rw c.in-Ok.is at c.trailers.ensures in
    rw (← e)
