-- `script::bytes_at` meets its contract: the invariant is that the digits so far spell the bytes stored. Assumes nothing.
use lib.ListN.{take, length-set}
use lib.Seq.{length-take-le}
use mathlib.Core.Path.{refl, sym, ◌∙◌}
use Prim.Native.Nat.{◌+◌, ◌*◌}
use native.Mathlib.Omega.{arith}
use Rattle.std.proofs.lemmas.List.{get_or_default}
use Rattle.script.specs.Laws.{next_byte, some_bytes, no_bytes, dash}
use Rattle.script.proofs.bytes_at.Goals as goal

pub returns-then-branch-eq45 : goal.returns-then-branch-eq45
returns-then-branch-eq45 c =
    let a = c.args in
    let g = c.in_ok-get.ensures.lookup in
    record { same = refl; is = record { on = omega arith; within = omega arith; fits = omega arith; word = dash a.s.now a.at (omega arith) (get_or_default c.args.s.now c.args.at 0 c.in_ok-get.field-0.now (omega arith) ∙ sym g.1 ∙ c.if-branch-eq45.true) } }

pub loop-next-init : goal.loop-next-init
loop-next-init c = let a = c.args in let g = c.in_ok-get.ensures.lookup in (omega arith, omega arith, omega arith, refl, omega arith, no_bytes a.s.now a.at)

pub loop-next-preserved : goal.loop-next-preserved
loop-next-preserved c =
    let a = c.args in
    let l = c.loop-next in
    let h = c.in-Some.ensures in
    let g = c.in_ok-get-2.ensures.lookup in
    let k = c.in_ok-low.ensures in
    let z = length-set l.room l.count (16 * c.in-Some.high + c.in_ok-low.low) in (
      omega arith,
      omega arith,
      omega arith,
      omega arith,
      omega arith,
      next_byte a.s.now a.at l.next l.count c.in-Some.high c.in_ok-low.low l.room (omega arith) (omega arith) k.0 (omega arith) h.1
          (get_or_default a.s.now (l.next + 1) 0 c.in_ok-get-2.field-0.now (omega arith) ∙ sym g.1 ∙ k.1) l.invariant.5,
    )

pub returns : goal.returns
returns c =
    let a = c.args in
    let l = c.loop-next in
    let z = length-take-le l.count l.room (omega arith) in
    record { same = omega arith; is = record { on = omega arith; within = omega arith; fits = omega arith; word = some_bytes (take l.count l.room) _ (omega arith) l.invariant.5 } }
