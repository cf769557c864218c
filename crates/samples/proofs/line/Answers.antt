-- `line`: a record lies within the block. Assumes nothing.
use Rattle.std.proofs.Common.{sym, ap, ◌∙◌, arith, Ok}
use Rattle.fields.specs.Lines.{placed}
use Rattle.samples.proofs.line.Goals as goal

pub slice_bounds-write_all-count : goal.slice_bounds-write_all-count
slice_bounds-write_all-count g c = let p = placed _ _ _ (sym c.line_at.ensures ∙ c.in-Ok-Some.is ∙ ap Ok c.in-Ok-Some.field-0-is) in omega arith

pub slice_bounds-write_all-start : goal.slice_bounds-write_all-start
slice_bounds-write_all-start g c = let p = placed _ _ _ (sym c.line_at.ensures ∙ c.in-Ok-Some.is ∙ ap Ok c.in-Ok-Some.field-0-is) in omega arith

pub slice_bounds-write_all-end : goal.slice_bounds-write_all-end
slice_bounds-write_all-end g c = let p = placed _ _ _ (sym c.line_at.ensures ∙ c.in-Ok-Some.is ∙ ap Ok c.in-Ok-Some.field-0-is) in omega arith

pub slice_bounds-write_all-count-in-Ok-Some : goal.slice_bounds-write_all-count-in-Ok-Some
slice_bounds-write_all-count-in-Ok-Some g c = let p = placed _ _ _ (sym c.line_at.ensures ∙ c.in-Ok-Some.is ∙ ap Ok c.in-Ok-Some.field-0-is) in omega arith

pub slice_bounds-write_all-start-in-Ok-Some : goal.slice_bounds-write_all-start-in-Ok-Some
slice_bounds-write_all-start-in-Ok-Some g c = let p = placed _ _ _ (sym c.line_at.ensures ∙ c.in-Ok-Some.is ∙ ap Ok c.in-Ok-Some.field-0-is) in omega arith

pub slice_bounds-write_all-end-in-Ok-Some : goal.slice_bounds-write_all-end-in-Ok-Some
slice_bounds-write_all-end-in-Ok-Some g c = let p = placed _ _ _ (sym c.line_at.ensures ∙ c.in-Ok-Some.is ∙ ap Ok c.in-Ok-Some.field-0-is) in omega arith
