use Rattle.frames.specs.Stops.{unready_type, unready_length, header_found}
use Rattle.frames.proofs.whole_header.Goals as goal

pub returns-in_err-middle : goal.returns-in_err-middle
returns-in_err-middle c = rw c.from_residual.ensures (unready_type _ _ c.in_err-middle.ensures)

pub returns-in_err-next : goal.returns-in_err-next
returns-in_err-next c = rw c.from_residual-in_err-next.ensures (unready_length _ _ _ c.in_ok-middle.ensures c.in_err-next.ensures)

pub returns : goal.returns
returns c = header_found _ _ _ _ _ _ c.in_ok-middle.ensures c.value.ensures c.in_ok-next.ensures c.value-2.ensures
