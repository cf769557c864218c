use Rattle.record.specs.Tests.{some_cells}
use Rattle.oneway.specs.Feeds.{close_freed, close_held}
use Rattle.oneway.proofs.calls.close.Goals as goal

pub returns-in-Ok : goal.returns-in-Ok
returns-in-Ok c = let a = c.args in let o = some_cells _ c.in-Some.ensures in let q = c.told-in-Ok.ensures in rw q (close_freed a.r o.0 a.d c.from.ensures o.1 c.close.ensures c.in-Ok.is c.free.ensures)

pub returns-in-Err : goal.returns-in-Err
returns-in-Err c = let a = c.args in let o = some_cells _ c.in-Some.ensures in close_held a.r o.0 a.d c.from.ensures o.1 c.close.ensures c.in-Err.is c.number.ensures c.told-in-Err.ensures
