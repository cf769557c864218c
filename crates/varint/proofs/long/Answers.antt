-- The invariant: the integer is what is read so far with the bytes to come. Assumes nothing.
use mathlib.Core.Path.{◌∙◌}
use native.Mathlib.Omega.{arith}
use Rattle.std.specs.Prelude.{◌≡◌, ◌<◌, ◌+◌, ◌-◌, ◌*◌, ◌%◌, get_or}
use Rattle.std.proofs.Common.{subst}
use Rattle.varint.specs.Whole.{OnWay, inside, way_start, way_step, way_end, way_fits, behind_length, behind_byte}
use Rattle.varint.proofs.long.Goals as goal

pub bounds-s-at : goal.bounds-s-at
bounds-s-at c = inside c.args.s.now c.args.at c.requires

pub overflow_add-from : goal.overflow_add-from
overflow_add-from c = omega (arith, inside c.args.s.now c.args.at c.requires)

pub overflow_add-b-items : goal.overflow_add-b-items
overflow_add-b-items c = let s = c.args.s.now in let at = c.args.at in let d = c.follow-due.result in let w = way_start s at _ _ c.from-x.ensures c.follow-due.ensures (omega (arith, c.from-x.ensures, (c.type_inv.s at).fits)) c.requires in omega (arith, w.within)

pub slice_bounds-b-items-end : goal.slice_bounds-b-items-end
slice_bounds-b-items-end c = let s = c.args.s.now in let at = c.args.at in let d = c.follow-due.result in let w = way_start s at _ _ c.from-x.ensures c.follow-due.ensures (omega (arith, c.from-x.ensures, (c.type_inv.s at).fits)) c.requires in omega (arith, w.within)

pub loop-b-init : goal.loop-b-init
loop-b-init c =
    let s = c.args.s.now in let at = c.args.at in let d = c.follow-due.result in let w = way_start s at _ _ c.from-x.ensures c.follow-due.ensures (omega (arith, c.from-x.ensures, (c.type_inv.s at).fits)) c.requires in
    let p : d ≡ d - 0 = omega arith in
    let q : at + 1 ≡ at + 1 + 0 = omega arith in
    subst (λ x. OnWay s at x (c.from-x.result % 64) (at + 1 + 0)) p (subst (OnWay s at d (c.from-x.result % 64)) q w)

pub overflow_mul-acc : goal.overflow_mul-acc
overflow_mul-acc c = let s = c.args.s.now in let at = c.args.at in let d = c.follow-due.result in let w = way_start s at _ _ c.from-x.ensures c.follow-due.ensures (omega (arith, c.from-x.ensures, (c.type_inv.s at).fits)) c.requires in let n = behind_length s at d (omega (arith, w.within)) in let i = c.loop-b.b-index in omega (arith, way_fits c.loop-b.invariant 0 (omega arith) (omega (arith, n, c.loop-b-test.true)))

pub overflow_add-acc : goal.overflow_add-acc
overflow_add-acc c = let s = c.args.s.now in let at = c.args.at in let d = c.follow-due.result in let w = way_start s at _ _ c.from-x.ensures c.follow-due.ensures (omega (arith, c.from-x.ensures, (c.type_inv.s at).fits)) c.requires in let n = behind_length s at d (omega (arith, w.within)) in let i = c.loop-b.b-index in let here : i < d = omega (arith, n, c.loop-b-test.true) in let b : c.from.result ≡ get_or s (at + 1 + i) 0 = c.from.ensures ∙ behind_byte s at d i here in let small : c.from.result < 256 = omega (arith, b, (c.type_inv.s (at + 1 + i)).fits) in omega (arith, way_fits c.loop-b.invariant c.from.result small (omega (arith, here)))

pub loop-b-preserved : goal.loop-b-preserved
loop-b-preserved c =
    let s = c.args.s.now in let at = c.args.at in let d = c.follow-due.result in let w = way_start s at _ _ c.from-x.ensures c.follow-due.ensures (omega (arith, c.from-x.ensures, (c.type_inv.s at).fits)) c.requires in let n = behind_length s at d (omega (arith, w.within)) in let i = c.loop-b.b-index in let here : i < d = omega (arith, n, c.loop-b-test.true) in let b : c.from.result ≡ get_or s (at + 1 + i) 0 = c.from.ensures ∙ behind_byte s at d i here in let small : c.from.result < 256 = omega (arith, b, (c.type_inv.s (at + 1 + i)).fits) in
    let step = way_step s at (d - i) c.loop-b.acc (at + 1 + i) c.from.result (omega (arith, here)) b small c.loop-b.invariant in
    let p : d - i - 1 ≡ d - (i + 1) = omega arith in
    let q : at + 1 + i + 1 ≡ at + 1 + (i + 1) = omega arith in
    subst (λ x. OnWay s at x (c.loop-b.acc * 256 + c.from.result) (at + 1 + (i + 1))) p (subst (OnWay s at (d - i - 1) (c.loop-b.acc * 256 + c.from.result)) q step)

pub returns : goal.returns
returns c = let s = c.args.s.now in let at = c.args.at in let d = c.follow-due.result in let w = way_start s at _ _ c.from-x.ensures c.follow-due.ensures (omega (arith, c.from-x.ensures, (c.type_inv.s at).fits)) c.requires in let n = behind_length s at d (omega (arith, w.within)) in let i = c.loop-b.b-index in way_end s at (d - i) c.loop-b.acc (at + 1 + i) (omega (arith, n, c.loop-b-test.false)) c.loop-b.invariant
