use native.Mathlib.Omega.{arith}
use mathlib.Core.Path.{ap, refl, subst, ◌∙◌}
use Prim.Native.Nat.{◌+◌, ◌<◌}
use lib.ListN.{length, take}
use Rattle.control.specs.Rules.{control_of}
use Rattle.oneway.specs.Mirror.{kept_numbers}
use Rattle.oneway.specs.Feeds.{kept_complete, less_is, kept-part, part_stays}
use Rattle.oneway.specs.Heard.{said, Stays}
use Rattle.oneway.proofs.calls.on_kept.Goals as goal

pub returns-then-c-came : goal.returns-then-c-came
returns-then-c-came c =
    let a = c.args in
    let e = kept_complete a.r c.requires.0 a.d c.requires.1 c.requires.2 a.piece.now a.allow {k = a.c.acc} {payload = take (c.held-n.result + a.c.acc) c.joined-all.result} (omega (arith, c.well_formed)) c.held-n.ensures refl (omega (arith, c.if-c-came.true)) c.joined-all.ensures refl in
    (c.judged.ensures.0 ∙ ap (said a.r a.d) e, subst (Stays c.judged.result.row c.judged.result.side) e c.judged.ensures.1)

pub returns-else-c-came : goal.returns-else-c-came
returns-else-c-came c =
    let a = c.args in
    let short : length a.piece.now < a.c.acc = omega (arith, c.if-c-came.false) in
    let tidy = c.tidy_kept-kept.ensures ∙ ap (λ x. kept_numbers (control_of x)) c.kept_in.ensures in
    let le = less_is a.r c.requires.0 a.d c.requires.1 c.requires.2 a.piece.now a.allow short in
    let q = c.told.ensures in
    rw q (kept-part a.r c.requires.0 a.d c.requires.1 c.requires.2 a.piece.now a.allow short (omega (arith, c.well_formed)) c.held-n.ensures c.joined-all-else-c-came.ensures tidy c.control_side.ensures le c.row_of.ensures, part_stays a.r c.requires.0 a.d c.requires.1 c.requires.2 a.piece.now a.allow short (omega (arith, c.well_formed)) c.held-n.ensures c.joined-all-else-c-came.ensures tidy c.control_side.ensures le c.row_of.ensures)
