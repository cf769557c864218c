-- `control::settings::only` meets its contract: the integer ends where the payload does, or not. Assumes nothing.
use Rattle.varint.specs.Whole.{whole_is}
use Rattle.control.specs.OnlyLaws.{only_cut, only_is, only_not}
use Rattle.control.proofs.settings.only.Goals as goal

pub returns-in_err-whole : goal.returns-in_err-whole
unfolding whole_is
returns-in_err-whole c = rw c.from_residual.ensures (only_cut _ c.in_err-whole.ensures)

pub returns-then-whole-payload : goal.returns-then-whole-payload
unfolding whole_is
returns-then-whole-payload c = only_is _ c.in_ok-whole.ensures c.if-whole-payload.true

pub returns-else-whole-payload : goal.returns-else-whole-payload
unfolding whole_is
returns-else-whole-payload c = only_not _ c.in_ok-whole.ensures c.if-whole-payload.false
