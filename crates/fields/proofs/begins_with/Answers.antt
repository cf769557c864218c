-- `fields::begins_with` meets its contract. Assumes nothing.
use mathlib.Core.Path.{refl, ◌∙◌}
use Rattle.fields.specs.Laws.{begins_is}
use Rattle.fields.proofs.begins_with.Goals as goal

pub returns : goal.returns
returns c = c.eq.ensures ∙ begins_is c.args.b _ c.args.v.now c.first.result refl c.first.ensures.value
