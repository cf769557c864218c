-- `fields::Table::line_spot` meets its contract. Assumes nothing.
use Rattle.fields.specs.Spots.{name_first, value_then}
use Rattle.fields.proofs.Table.line_spot.Goals as goal

pub returns-in-None : goal.returns-in-None
returns-in-None c = value_then _ _ _ _ c.name_spot.ensures c.in-None.is c.value_spot.ensures

pub returns-in_default : goal.returns-in_default
returns-in_default c = name_first _ _ _ _ c.name_spot.ensures c.in_default.not-None
