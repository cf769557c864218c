-- `section::held_below` meets its contract. Assumes nothing.
use mathlib.Core.Path.{◌∙◌}
use Rattle.fields.specs.Decimal.{capped_min}
use Rattle.section.proofs.held_below.Goals as goal

pub returns : goal.returns
returns c = c.min.ensures ∙ capped_min _
