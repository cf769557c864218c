use native.Mathlib.Omega.{arith}
use mathlib.Core.Path.{refl}
use Rattle.record.specs.Tests.{some_cells}
use Rattle.requests.specs.Told.{end_whole, end_code}
use Rattle.requests.proofs.end.Goals as goal

pub returns-in-0 : goal.returns-in-0
returns-in-0 c = let r = c.args.r in let o = some_cells _ c.in-Some.ensures in end_whole r o.0 o.1 c.end.ensures c.in-0.is c.free.ensures c.told-in-0.ensures

pub returns-in_default-end : goal.returns-in_default-end
returns-in_default-end c = let r = c.args.r in let o = some_cells _ c.in-Some.ensures in end_code r o.0 o.1 c.end.ensures (λ e. omega arith) refl c.refused.ensures
