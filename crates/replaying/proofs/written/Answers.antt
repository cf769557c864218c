-- `replaying::written` meets its contract: a line for each answer. Assumes nothing.
use Rattle.replaying.specs.Calls.{write_refused, write_count}
use Rattle.replaying.specs.Puts.{puts_as}
use Rattle.replaying.proofs.written.Goals as goal

pub returns-in-Err : goal.returns-in-Err
returns-in-Err c = puts_as (write_refused _ c.wrote.ensures c.in-Err.is) (rw c.number.ensures at c.written_line.ensures)

pub returns-in-Ok : goal.returns-in-Ok
returns-in-Ok c = puts_as (write_count _ c.wrote.ensures c.in-Ok.is) c.written_line-in-Ok.ensures
