-- `listing::next` meets its contract: one law of specs, At, for each way that the input can go on. Assumes nothing.
use Rattle.std.proofs.Common.{◌≡◌, ◌<◌, ◌∙◌, arith, Option, None}
use Rattle.varint.specs.Whole.{ended_whole}
use Rattle.listing.specs.declared.Phase.{Phase}
use Rattle.listing.specs.Lines.{phase_number}
use Rattle.listing.specs.At.{line_too_long, line_heading, line-end, line-cut-type, line-cut-length, line-header}
use Rattle.listing.proofs.Phases.{listed}
use Rattle.listing.proofs.next.Goals as goal

due : {at : Option Phase} → at ≡ None → 2 < phase_number at
due e = rw e (omega arith)

pub returns-then-total-gt-LIMIT : goal.returns-then-total-gt-LIMIT
returns-then-total-gt-LIMIT c = let a = c.args in line_too_long a.s.now a.p c.if-total-gt-LIMIT.true

pub returns-in_default : goal.returns-in_default
returns-in_default c = let a = c.args in line_heading a.s.now a.p (omega (arith, c.if-total-gt-LIMIT.false)) (due c.in_default.is)

pub returns-then-at-total : goal.returns-then-at-total
returns-then-at-total c = let a = c.args in c.end_line.ensures ∙ line-end a.s.now a.p (omega (arith, c.if-total-gt-LIMIT.false)) (listed _ c.in-Some.is) (omega (arith, c.if-at-total.true))

pub returns-in_default-ends : goal.returns-in_default-ends
returns-in_default-ends c = let a = c.args in line-cut-type a.s.now a.p (omega (arith, c.if-total-gt-LIMIT.false)) (listed _ c.in-Some.is) (λ e. omega (arith, c.if-at-total.false)) c.in_default-ends.ensures

pub value-ftype-requires : goal.value-ftype-requires
value-ftype-requires c = ended_whole c.args.s.now _ c.in-Some-ends.ensures

pub returns-in_default-ends-2 : goal.returns-in_default-ends-2
returns-in_default-ends-2 c = let a = c.args in line-cut-length a.s.now a.p (omega (arith, c.if-total-gt-LIMIT.false)) (listed _ c.in-Some.is) _ _ c.in-Some-ends.ensures c.value-ftype.ensures c.in_default-ends-2.ensures

pub value-requires : goal.value-requires
value-requires c = ended_whole c.args.s.now _ c.in-Some-ends-2.ensures

pub returns : goal.returns
returns c = let a = c.args in line-header a.s.now a.p (omega (arith, c.if-total-gt-LIMIT.false)) (listed _ c.in-Some.is) _ _ c.in-Some-ends.ensures c.value-ftype.ensures _ _ c.in-Some-ends-2.ensures c.value.ensures c.ruled_line.ensures
