-- `script::number_at` meets its contract. Assumes nothing.
use mathlib.Core.Path.{◌≡◌, sym, ◌∙◌}
use Prim.Native.Nat.{◌+◌}
use Rattle.std.proofs.Common.{length}
use Rattle.std.proofs.lemmas.List.{get_or_default}
use native.Mathlib.Omega.{arith}
use Rattle.script.specs.Laws.{first_digit, next_digit, rest_length, rest_byte}
use Rattle.script.proofs.number_at.Goals as goal

pub returns-then-first-eq0 : goal.returns-then-first-eq0
returns-then-first-eq0 c =
    let g = c.in_ok-get.ensures.lookup in
    let d = c.in_ok-first.ensures in
    let v = c.from-value.ensures in
    record { on = omega arith; within = omega arith; word = rw v (first_digit c.args.s.now c.args.at c.in_ok-first.first (omega arith) d.0 (get_or_default c.args.s.now c.args.at 0 c.in_ok-get.field-0.now (omega arith) ∙ sym g.1 ∙ d.1)) }

pub loop-i-init : goal.loop-i-init
loop-i-init c =
    let g = c.in_ok-get.ensures.lookup in
    let d = c.in_ok-first.ensures in
    let v = c.from-value.ensures in
    let e : c.args.at + 1 + 0 ≡ c.args.at + 1 = omega arith in
    (omega arith, rw (e, v) (first_digit c.args.s.now c.args.at c.in_ok-first.first (omega arith) d.0 (get_or_default c.args.s.now c.args.at 0 c.in_ok-get.field-0.now (omega arith) ∙ sym g.1 ∙ d.1)))

pub loop-i-preserved : goal.loop-i-preserved
loop-i-preserved c =
    let s = c.args.s.now in
    let at = c.args.at in
    let l = c.loop-i in
    let d = c.in-Some.ensures in
    let m = c.in_ok-checked_mul.ensures.1 in
    let v = c.in_ok-value.ensures.1 in
    let w = c.from.ensures in
    let n = rest_length s (at + 1) in
    let b = rest_byte s (at + 1) l.i in
    let e : at + 1 + (l.i + 1) ≡ at + 1 + l.i + 1 = omega arith in
    (omega arith, rw (e, v, m, w) (next_digit s at (at + 1 + l.i) l.value c.in-Some.more (omega arith) (omega arith) (omega arith) d.0 (sym b ∙ d.1) l.invariant.1))

pub returns-in_default : goal.returns-in_default
returns-in_default c = let n = rest_length c.args.s.now (c.args.at + 1) in record { on = omega arith; within = omega arith; word = c.loop-i.invariant.1 }

pub returns : goal.returns
returns c =
    let s = c.args.s.now in
    let n = rest_length s (c.args.at + 1) in
    let g = c.in_ok-get.ensures.lookup in
    let e : c.args.at + 1 + c.loop-i.i ≡ length s = omega arith in
    record { on = omega arith; within = omega arith; word = rw e at c.loop-i.invariant.1 }
