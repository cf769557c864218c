use mathlib.Core.Path.{ap, ◌∙◌, subst, sym}
use Rattle.control.specs.Judged.{judged_of}
use Rattle.record.specs.Sound.{Fit, stream, Written}
use Rattle.oneway.specs.Feeds.{behind_fit, judged_good, judged_refused, judged_good_stays, judged_refused_stays}
use Rattle.oneway.proofs.calls.judged.Goals as goal

pub row_of-row-requires : goal.row_of-row-requires
row_of-row-requires c = subst (Fit 3 c.args.r.id) (sym c.behind_settings.ensures) (behind_fit c.args.r.id c.requires.1 c.requires.2)

pub returns-then-v-ne-ACCEPTED : goal.returns-then-v-ne-ACCEPTED
returns-then-v-ne-ACCEPTED c = let a = c.args in let v = c.judge-v.ensures ∙ ap (λ x. judged_of a.which x a.payload.now) c.kept_in.ensures in (c.told.ensures ∙ judged_refused a.which a.phase a.payload.now a.used a.heads a.r a.d _ v c.if-v-ne-ACCEPTED.true, judged_refused_stays a.which a.phase a.payload.now a.used a.heads a.r a.d _ v c.if-v-ne-ACCEPTED.true c.told.result.row c.told.result.side)

pub returns : goal.returns
returns c =
    let a = c.args in
    let v = c.judge-v.ensures ∙ ap (λ x. judged_of a.which x a.payload.now) c.kept_in.ensures in
    let w = subst (λ x. Written (stream 3 a.r.id x) c.row_of-row.result) c.behind_settings.ensures c.row_of-row.ensures in
    let q = c.told-2.ensures in
    rw q (judged_good a.which a.phase a.payload.now a.used a.heads a.r a.d _ v c.if-v-ne-ACCEPTED.false c.requires.1 c.requires.2 c.tidy_kept-kept.ensures c.taken_number.ensures c.value_in.ensures w c.control_side.ensures, judged_good_stays a.which a.phase a.payload.now a.used a.heads a.r a.d _ v c.if-v-ne-ACCEPTED.false c.requires.1 c.requires.2 c.tidy_kept-kept.ensures w c.control_side.ensures)
