use native.Mathlib.Omega.{arith}
use mathlib.Core.Path.{◌≡◌}
use Rattle.frames.specs.Modes.{USE-CONTENT}
use Rattle.frames.specs.Both.{rule}
use Rattle.frames.specs.Uses.{place_of, number_of}
use Rattle.frames.specs.Wants.{ruled_back}
use Rattle.frames.specs.Begun.{numbers_more}
use Rattle.frames.specs.Fed.{fed_content, data_law, fed-data, known_content}
use Rattle.frames.proofs.brisk.Goals as goal
use Rattle.frames.proofs.brisk.Goals.{In-Ok-Content}

-- the table gives content
known : (c : In-Ok-Content) → let b = c.args.c in USE-CONTENT ≡ number_of (rule (place_of b.phase b.has b.stated b.sum) c.in-Some.h.ftype c.in-Some.h.len)
known c = let b = c.args.c in let p = c.place.ensures in ruled_back b.phase b.has b.stated b.sum _ _ p.phase p.stated p.sum (rw c.in-Ok-Content.field-0-is at c.in-Ok-Content.ensures)

pub returns-then-c-eq-IN_CONTENT : goal.returns-then-c-eq-IN_CONTENT
returns-then-c-eq-IN_CONTENT c = let a = c.args in known_content a.c a.s.now a.allow (fed_content a.c a.s.now a.allow c.requires c.if-c-eq-IN_CONTENT.true c.handed.ensures) _ c.content.ensures

pub more_sum-requires : goal.more_sum-requires
more_sum-requires c = let a = c.args in (data_law a.c a.s.now a.allow c.requires c.if-c-eq-IN_TYPE.true c.if-c-eq0.true c.if-allow-ne0.true c.in-Some.ensures (known (goal.at.more_sum-requires c).In-Ok-Content)).1

pub handed-requires-2 : goal.handed-requires-2
handed-requires-2 c =
    let a = c.args in
    let w = c.in-Some.ensures in
    let d = data_law a.c a.s.now a.allow c.requires c.if-c-eq-IN_TYPE.true c.if-c-eq0.true c.if-allow-ne0.true w (known (goal.at.handed-requires-2 c).In-Ok-Content) in
    (w.within, w.small, numbers_more _ _ _ c.more_sum.ensures d.1 c.requires.stateds, (omega arith, omega arith, (λ e. omega arith), (λ e. omega arith)), λ e. omega (arith, c.if-h-ne0.true))

pub returns : goal.returns
returns c = let a = c.args in
    known_content a.c a.s.now a.allow (fed-data a.c a.s.now a.allow c.requires c.if-c-eq-IN_TYPE.true c.if-c-eq0.true c.if-allow-ne0.true c.in-Some.ensures (known (goal.at.returns c).In-Ok-Content) c.if-h-ne0.true c.more_sum.ensures c.handed-2.ensures) _ c.content-2.ensures
