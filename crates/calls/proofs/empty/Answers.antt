-- Each turn sweeps one record more. Assumes nothing.
use Rattle.std.specs.Prelude.{◌<◌, length, set}
use Rattle.std.proofs.Common.{arith, ap, ◌∙◌}
use Rattle.std.proofs.lemmas.List.{get_or_default}
use Rattle.std.proofs.lemmas.List.Edits.{map_over_more}
use Rattle.record.specs.Row.{free_record}
use Rattle.calls.proofs.empty.Goals as goal

pub loop-r-preserved : goal.loop-r-preserved
loop-r-preserved c =
    let l : c.loop-r.r-index < length c.loop-r.row = omega arith in
    ap (set c.loop-r.row c.loop-r.r-index) c.swept.ensures
    ∙ map_over_more _ _ _ _ _ (omega arith) c.loop-r.invariant (get_or_default _ _ free_record _ l)
