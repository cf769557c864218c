use mathlib.Core.Path.{ap, ◌∙◌}
use Rattle.record.specs.Tests.{some_cells}
use Rattle.requests.specs.Gives.{give_fit, give_taken, give_turned}
use Rattle.requests.specs.Taken.{given_of}
use Rattle.requests.proofs.give.Goals as goal

pub kept-requires : goal.kept-requires
kept-requires c = let g = c.args in let o = some_cells _ c.in-Some.ensures in give_fit g.r o.0 g.block.now _ (c.in-Ok.ensures ∙ ap (λ x. given_of x g.block.now) o.1)

pub returns-in-Ok : goal.returns-in-Ok
returns-in-Ok c = let g = c.args in let o = some_cells _ c.in-Some.ensures in give_taken g.r o.0 g.block.now _ (c.in-Ok.ensures ∙ ap (λ x. given_of x g.block.now) o.1) _ c.kept.ensures c.told-in-Ok.ensures

pub returns-in-Err : goal.returns-in-Err
returns-in-Err c = let g = c.args in let o = some_cells _ c.in-Some.ensures in give_turned g.r o.0 g.block.now _ (c.in-Err.ensures ∙ ap (λ x. given_of x g.block.now) o.1) c.refused.ensures
