-- `fields::Table::first_outside` meets its contract: by the table's entries. Assumes nothing.
use lib.ListN.{get_or}
use mathlib.Core.Bool.{not}
use native.Mathlib.Omega.{arith}
use Rattle.std.proofs.Common.{rules, tests}
use Rattle.std.proofs.lemmas.Iterator.{YieldsList-from_slice}
use Rattle.std.proofs.lemmas.Iterator.Search.{position_from_yields_List}
use Rattle.fields.specs.Table.{marked}
use Rattle.fields.specs.Spots.{position_out}
use Rattle.fields.proofs.Table.first_outside.Goals as goal

pub returns : goal.returns
returns c =
    position_out c.args.self.now.entries c.args.self.now.right c.args.class c.args.v.now (λ k. omega (arith, c.type_inv.v k)) c.position.result
    (position_from_yields_List (λ b. not (marked (get_or c.args.self.now.entries b 0) c.args.class)) _ _ _ c.position.ensures.ran (YieldsList-from_slice c.args.v.now cc)
    (λ x b q k. search (rules, tests)))
