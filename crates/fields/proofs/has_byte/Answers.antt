-- `fields::has_byte` meets its contract. Assumes nothing.
use mathlib.Core.Path.{◌∙◌}
use Rattle.fields.specs.Laws.{any_is}
use Rattle.fields.proofs.has_byte.Goals as goal

pub returns : goal.returns
returns c = c.contains.ensures.value ∙ any_is c.args.b c.args.v.now
