use native.Mathlib.Omega.{arith}
use Rattle.oneway.specs.Closed.{number_in, closes_none}
use Rattle.oneway.proofs.close.Goals as goal

pub returns-in_default : goal.returns-in_default
unfolding number_in
returns-in_default c = let w = c.args.w in λ p k. closes_none w.kind w.cells p k (λ l u. omega arith)
