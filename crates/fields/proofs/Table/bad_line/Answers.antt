-- `fields::Table::bad_line` meets its contract. Assumes nothing.
use mathlib.Core.Path.{◌∙◌, ap}
use Rattle.fields.specs.Spots.{is_some, line_bad, some_spot}
use Rattle.fields.proofs.Table.bad_line.Goals as goal

pub returns : goal.returns
returns c = c.is_some.ensures ∙ some_spot _ ∙ ap is_some c.line_spot.ensures ∙ line_bad 0 _ _
