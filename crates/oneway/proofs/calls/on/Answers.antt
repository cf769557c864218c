use native.Mathlib.Omega.{arith}
use mathlib.Core.Path.{ap, refl, sym, subst, ◌∙◌, ◌≡◌}
use Prim.Native.Nat.{◌-◌, ◌+◌, min}
use mathlib.Core.List.{[]}
use lib.ListN.{take, drop, length-take}
use Rattle.frames.specs.declared.Event.TheVariants as event
use Rattle.oneway.specs.declared.Event.TheVariants as one
use Rattle.oneway.specs.declared.calls.Heard.{Heard}
use Rattle.oneway.specs.Stands.{OneSoundAt}
use Rattle.oneway.specs.Heard.{heard, said, Stays}
use Rattle.oneway.specs.Leaves.{heeds_sound}
use Rattle.oneway.specs.Feeds.{heeds_asks, on_fit, on_fault, fault_stays, on_judged, plain_part, on_qpack, on_part, on_part_stays, on_other, on_stays}
use Rattle.oneway.proofs.calls.on.Goals as goal

pub feed-a-requires : goal.feed-a-requires
feed-a-requires c = let k = c.from.ensures in rw k (subst (OneSoundAt c.args.r.kind) (sym c.requires.1) (heeds_sound c.args.r c.requires.0))

pub returns-in-Fault : goal.returns-in-Fault
returns-in-Fault c = let a = c.args in let x = c.feed-a.result in let k = c.from.ensures in let w = c.seen.ensures in let f = rw (k, w) at c.feed-a.ensures in let e : x.event ≡ one.Frames (event.Fault c.in-Fault.code) = c.in-Frames.is ∙ ap one.Frames c.in-Fault.is in
    (on_fault a.r c.requires.0 a.d c.requires.1 c.requires.2 a.piece.now a.allow x f c.in-Fault.code e c.number.ensures c.told.ensures, fault_stays a.r c.requires.0 a.d c.requires.1 c.requires.2 a.piece.now a.allow x f c.in-Fault.code e c.told.result.row c.told.result.side)

pub returns-in-Kept : goal.returns-in-Kept
returns-in-Kept c = let a = c.args in let x = c.feed-a.result in let k = c.from.ensures in let w = c.seen.ensures in let f = rw (k, w) at c.feed-a.ensures in let q : x.event ≡ one.Frames (event.Kept c.in-Kept.which) = c.in-Frames.is ∙ ap one.Frames c.in-Kept.is in
    let e = on_judged a.r c.requires.0 a.d c.requires.1 c.requires.2 a.piece.now a.allow x f c.in-Kept.which q {phase = a.c.phase} refl {all = take (x.used - x.start) (drop x.start a.piece.now)} refl in (c.judged.ensures.0 ∙ ap (said a.r a.d) e, subst (Stays c.judged.result.row c.judged.result.side) e c.judged.ensures.1)

pub left_open-requires : goal.left_open-requires
left_open-requires c = let a = c.args in let x = c.feed-a.result in let k = c.from.ensures in let w = c.seen.ensures in let f = rw (k, w) at c.feed-a.ensures in (on_fit a.r c.requires.0 a.d c.requires.1 c.requires.2 a.piece.now a.allow x f, (heeds_asks a.r c.requires.0 c.requires.1).0, omega (arith, length-take ((x.start + c.min-n.result) - x.start) (drop x.start a.piece.now), c.min-n.ensures))

pub left_open-requires-in-Nothing : goal.left_open-requires-in-Nothing
left_open-requires-in-Nothing c = let a = c.args in let x = c.feed-a.result in let k = c.from.ensures in let w = c.seen.ensures in let f = rw (k, w) at c.feed-a.ensures in (on_fit a.r c.requires.0 a.d c.requires.1 c.requires.2 a.piece.now a.allow x f, (heeds_asks a.r c.requires.0 c.requires.1).0, omega arith)

pub left_open-requires-in-Qpack : goal.left_open-requires-in-Qpack
left_open-requires-in-Qpack c = let a = c.args in let x = c.feed-a.result in let k = c.from.ensures in let w = c.seen.ensures in let f = rw (k, w) at c.feed-a.ensures in (on_fit a.r c.requires.0 a.d c.requires.1 c.requires.2 a.piece.now a.allow x f, (heeds_asks a.r c.requires.0 c.requires.1).0, omega arith)

pub returns-in-KeptPart : goal.returns-in-KeptPart
returns-in-KeptPart c = let a = c.args in let x = c.feed-a.result in let k = c.from.ensures in let w = c.seen.ensures in let f = rw (k, w) at c.feed-a.ensures in let e : x.event ≡ one.Frames event.KeptPart = c.in-Frames.is ∙ ap one.Frames c.in-KeptPart.is in
    let few : (x.start + c.min-n.result) - x.start ≡ min x.len 256 = omega (arith, c.min-n.ensures) in
    let z = ap (λ n. take n (drop x.start a.piece.now)) few in
    let word = take ((x.start + c.min-n.result) - x.start) (drop x.start a.piece.now) in
    let h = c.left_open.result in let o = c.left_open.ensures in let b = ap (λ (y : Heard). y.side) o.1 in
    (o.1 ∙ ap (heard 0 0 0 0 x.used x.heads 0 h.row) (sym b) ∙ on_part a.r c.requires.0 a.d c.requires.1 c.requires.2 a.piece.now a.allow x f (rw e tt) o.0 word b e z, on_part_stays a.r c.requires.0 a.d c.requires.1 c.requires.2 a.piece.now a.allow x f (rw e tt) o.0 word b e z)

pub returns-in-Nothing : goal.returns-in-Nothing
returns-in-Nothing c = let a = c.args in let x = c.feed-a.result in let k = c.from.ensures in let w = c.seen.ensures in let f = rw (k, w) at c.feed-a.ensures in let p = plain_part c.in-Frames.is c.in-Nothing.is in
    let h = c.left_open-in-Nothing.result in let o = c.left_open-in-Nothing.ensures in let b = ap (λ (y : Heard). y.side) o.1 in
    (o.1 ∙ ap (heard 0 0 0 0 x.used x.heads 0 h.row) (sym b) ∙ on_other a.r c.requires.0 a.d c.requires.1 c.requires.2 a.piece.now a.allow x f p.0 o.0 [] b refl p.1 p.2, on_stays a.r c.requires.0 a.d c.requires.1 c.requires.2 a.piece.now a.allow x f p.0 o.0 [] b refl p.1)

pub returns-in-Qpack : goal.returns-in-Qpack
returns-in-Qpack c = let a = c.args in let x = c.feed-a.result in let k = c.from.ensures in let w = c.seen.ensures in let f = rw (k, w) at c.feed-a.ensures in let e = c.in-Qpack.is in
    let h = c.left_open-in-Qpack.result in let o = c.left_open-in-Qpack.ensures in let b = ap (λ (y : Heard). y.side) o.1 in
    (ap (λ (y : Heard). heard y.number 7 x.start x.len y.used y.heads c.qpack_type.result h.row y.side) o.1 ∙ ap (heard 0 7 x.start x.len x.used x.heads c.qpack_type.result h.row) (sym b) ∙ on_qpack a.r c.requires.0 a.d c.requires.1 c.requires.2 a.piece.now a.allow x f (rw e tt) o.0 [] b refl e c.qpack_type.ensures, on_stays a.r c.requires.0 a.d c.requires.1 c.requires.2 a.piece.now a.allow x f (rw e tt) o.0 [] b refl (λ z. cc))
