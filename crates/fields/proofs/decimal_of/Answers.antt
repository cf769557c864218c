-- `fields::decimal_of` meets its contract: capping at each digit changes nothing in the end. Assumes nothing.
use Prim.Native.Nat.{◌+◌, ◌*◌, ◌-◌}
use mathlib.Core.Path.{◌∙◌}
use native.Mathlib.Omega.{arith}
use Rattle.std.proofs.Common.{rules, tests}
use Rattle.std.proofs.lemmas.Iterator.{YieldsList-from_slice}
use Rattle.std.proofs.lemmas.Iterator.Consumers.{fold_from_yields_List}
use Rattle.rules.specs.Section.{decimal}
use Rattle.fields.specs.Decimal.{capped, capped_fold}
use Rattle.fields.proofs.decimal_of.Goals as goal

pub returns : goal.returns
unfolding decimal
returns c =
    fold_from_yields_List _ (λ total b. capped (total * 10 + (b - 0x30))) 0 _ c.fold.ensures.ran (YieldsList-from_slice c.args.v.now cc) (λ a x b q k. search (rules, tests))
    ∙ capped_fold 0 c.args.v.now (omega arith)
