use native.Mathlib.Omega.{arith}
use mathlib.Core.Path.{ap, refl}
use Rattle.rules.specs.Reading.{header_section, trailers}
use Rattle.frames.specs.Fed.{Fed}
use Rattle.record.specs.Sound.{cells_in}
use Rattle.record.specs.Tests.{some_cells}
use Rattle.requests.specs.Feeds.{part_goes, none_goes, feed_due, feed_fault, feed-fit, feed-quiet, feed-part}
use Rattle.requests.proofs.feed.Goals as goal
use Rattle.requests.proofs.feed.Goals.{then-c-eq-HEADER_SECTION_DUE-via-then-c-eq-HEADER_SECTION_DUE, then-c-eq-HEADER_SECTION_DUE-via-else-c-eq-HEADER_SECTION_DUE+then-c-eq-TRAILERS_DUE}

pub returns-then-c-eq-HEADER_SECTION_DUE : goal.returns-then-c-eq-HEADER_SECTION_DUE
returns-then-c-eq-HEADER_SECTION_DUE c =
    let g = c.args in
    let o = some_cells _ c.in-Some.ensures in
    let m = ap (λ x. x.mode) o.1 in
    let q = c.told-then-c-eq-HEADER_SECTION_DUE.ensures in
    elim c.then-c-eq-HEADER_SECTION_DUE.branch [
      | then-c-eq-HEADER_SECTION_DUE-via-then-c-eq-HEADER_SECTION_DUE w ↦ feed_due g.r o.0 g.piece.now g.allow header_section (omega (arith, m, w.if-c-eq-HEADER_SECTION_DUE.true)) q
      | then-c-eq-HEADER_SECTION_DUE-via-else-c-eq-HEADER_SECTION_DUE+then-c-eq-TRAILERS_DUE w ↦ feed_due g.r o.0 g.piece.now g.allow trailers (omega (arith, m, w.if-c-eq-TRAILERS_DUE.true)) q
    ]

pub returns-in-Fault : goal.returns-in-Fault
returns-in-Fault c = let g = c.args in let o = some_cells _ c.in-Some.ensures in let e = o.1 in let m = ap (λ x. x.mode) e in let f : Fed (cells_in g.r) g.piece.now g.allow _ = rw e at c.feed-a.ensures in let q = c.refused.ensures in rw q (feed_fault g.r o.0 g.piece.now g.allow (λ x. omega (arith, x, m, c.if-c-eq-HEADER_SECTION_DUE.false)) (λ x. omega (arith, x, m, c.if-c-eq-TRAILERS_DUE.false)) _ f c.in-Fault.code c.in-Fault.is c.number.ensures refl)

pub kept-requires : goal.kept-requires
kept-requires c = let g = c.args in let o = some_cells _ c.in-Some.ensures in let e = o.1 in let m = ap (λ x. x.mode) e in let f : Fed (cells_in g.r) g.piece.now g.allow _ = rw e at c.feed-a.ensures in feed-fit g.r o.0 g.piece.now g.allow (λ x. omega (arith, x, m, c.if-c-eq-HEADER_SECTION_DUE.false)) (λ x. omega (arith, x, m, c.if-c-eq-TRAILERS_DUE.false)) _ f (none_goes _ c.in-Nothing.is)

pub kept-requires-in-Content : goal.kept-requires-in-Content
kept-requires-in-Content c = let g = c.args in let o = some_cells _ c.in-Some.ensures in let e = o.1 in let m = ap (λ x. x.mode) e in let f : Fed (cells_in g.r) g.piece.now g.allow _ = rw e at c.feed-a.ensures in feed-fit g.r o.0 g.piece.now g.allow (λ x. omega (arith, x, m, c.if-c-eq-HEADER_SECTION_DUE.false)) (λ x. omega (arith, x, m, c.if-c-eq-TRAILERS_DUE.false)) _ f (part_goes _ c.in-Content.is)

pub returns-in-Nothing : goal.returns-in-Nothing
returns-in-Nothing c = let g = c.args in let o = some_cells _ c.in-Some.ensures in let e = o.1 in let m = ap (λ x. x.mode) e in let f : Fed (cells_in g.r) g.piece.now g.allow _ = rw e at c.feed-a.ensures in let q = c.told-in-Nothing.ensures in rw q (feed-quiet g.r o.0 g.piece.now g.allow (λ x. omega (arith, x, m, c.if-c-eq-HEADER_SECTION_DUE.false)) (λ x. omega (arith, x, m, c.if-c-eq-TRAILERS_DUE.false)) _ f (none_goes _ c.in-Nothing.is) _ c.kept.ensures c.in-Nothing.is)

pub returns-in-Content : goal.returns-in-Content
returns-in-Content c = let g = c.args in let o = some_cells _ c.in-Some.ensures in let e = o.1 in let m = ap (λ x. x.mode) e in let f : Fed (cells_in g.r) g.piece.now g.allow _ = rw e at c.feed-a.ensures in let q = c.number-in-Content.ensures in rw q (feed-part g.r o.0 g.piece.now g.allow (λ x. omega (arith, x, m, c.if-c-eq-HEADER_SECTION_DUE.false)) (λ x. omega (arith, x, m, c.if-c-eq-TRAILERS_DUE.false)) _ f (part_goes _ c.in-Content.is) _ c.kept-in-Content.ensures c.in-Content.is)
