-- `fields::Table::any_outside` meets its contract. Assumes nothing.
use mathlib.Core.Path.{◌∙◌, ap}
use Rattle.std.specs.Prelude as std
use Rattle.fields.specs.Bytes.{is_in}
use Rattle.fields.specs.Spots.{some_out, run_any}
use Rattle.fields.proofs.Table.any_outside.Goals as goal

pub returns : goal.returns
returns c = c.is_some.ensures ∙ ap std.is_some c.first_outside.ensures ∙ some_out (is_in c.args.class) c.args.v.now ∙ run_any c.args.class c.args.v.now
