-- `fields::is_capital` meets its contract. Assumes nothing.
use Rattle.rules.specs.Text.{between}
use Rattle.rules.specs.Classes.{is_capital}
use Rattle.fields.proofs.is_capital.Goals as goal

pub returns : goal.returns
unfolding is_capital between
returns c = c.is_ascii_uppercase.ensures.value
