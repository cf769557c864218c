-- `section::walk_lines` meets its contract. Assumes nothing.
use Rattle.fields.specs.Lines.{placed}
use native.Mathlib.Omega.{arith}
use mathlib.Core.Path.{◌≡◌, sym, ap, ◌∙◌}
use Rattle.std.specs.Prelude.{Ok, Err, None}
use Rattle.section.specs.declared.Fault.TheVariants as fault
use Rattle.section.specs.Facts.{no_facts}
use Rattle.section.specs.Walking.{starts, ended, flawed, fits, goes}
use Rattle.section.proofs.walk_lines.Goals as goal

pub loop-line-init : goal.loop-line-init
loop-line-init c =
    let none : c.default-facts.result ≡ no_facts = grind arith in
    starts _ _ none

pub returns-in_err-line : goal.returns-in_err-line
returns-in_err-line c =
    let passed : c.from_residual.result ≡ Err fault.Unreadable = grind arith in
    passed ∙ flawed _ _ _ c.loop-line.invariant (sym c.line_at.ensures ∙ c.in_err-line.was)

pub slice_bounds-name-count : goal.slice_bounds-name-count
slice_bounds-name-count c = let p = placed _ _ _ (sym c.line_at.ensures ∙ c.in_ok-line.was ∙ ap Ok c.in-Some.is) in omega arith

pub slice_bounds-name-start : goal.slice_bounds-name-start
slice_bounds-name-start c = let p = placed _ _ _ (sym c.line_at.ensures ∙ c.in_ok-line.was ∙ ap Ok c.in-Some.is) in omega arith

pub slice_bounds-name-end : goal.slice_bounds-name-end
slice_bounds-name-end c = let p = placed _ _ _ (sym c.line_at.ensures ∙ c.in_ok-line.was ∙ ap Ok c.in-Some.is) in omega arith

pub slice_bounds-value-count : goal.slice_bounds-value-count
slice_bounds-value-count c = let p = placed _ _ _ (sym c.line_at.ensures ∙ c.in_ok-line.was ∙ ap Ok c.in-Some.is) in omega arith

pub slice_bounds-value-start : goal.slice_bounds-value-start
slice_bounds-value-start c = let p = placed _ _ _ (sym c.line_at.ensures ∙ c.in_ok-line.was ∙ ap Ok c.in-Some.is) in omega arith

pub slice_bounds-value-end : goal.slice_bounds-value-end
slice_bounds-value-end c = let p = placed _ _ _ (sym c.line_at.ensures ∙ c.in_ok-line.was ∙ ap Ok c.in-Some.is) in omega arith

pub with_line-facts-requires : goal.with_line-facts-requires
with_line-facts-requires c = fits _ _ _ c.loop-line.invariant _ (sym c.line_at.ensures ∙ c.in_ok-line.was ∙ ap Ok c.in-Some.is) (let g = c.well_formed.0.1 in omega arith)

pub loop-line-smaller : goal.loop-line-smaller
loop-line-smaller c = let p = placed _ _ _ (sym c.line_at.ensures ∙ c.in_ok-line.was ∙ ap Ok c.in-Some.is) in omega arith

pub loop-line-preserved : goal.loop-line-preserved
loop-line-preserved c = goes _ _ _ c.loop-line.invariant _ (sym c.line_at.ensures ∙ c.in_ok-line.was ∙ ap Ok c.in-Some.is) _ c.with_line-facts.ensures

pub returns : goal.returns
returns c =
    let none : c.line_at.result ≡ Ok None = grind arith in
    ended _ _ _ c.loop-line.invariant (sym c.line_at.ensures ∙ none)
