-- `control::settings::walk`, which calls itself, meets its contract. The measure is what is left of the payload: a pair takes bytes.
-- Each answer is a law of the walk. Assumes nothing.
use mathlib.Core.Path.{◌≡◌, refl, sym, ◌∙◌}
use native.Mathlib.Omega.{arith}
use Rattle.std.proofs.Common.{rules}
use Rattle.std.specs.Prelude.{Result, Err}
use Rattle.rules.specs.declared.codes.Code.{Code}
use Rattle.rules.specs.declared.codes.Code.TheVariants.{FrameError}
use Rattle.control.specs.Walk.{kept_by}
use Rattle.control.specs.WalkLaws.{pair_shortens, walk_end, walk_cut, walk_reserved, walk_seen, walk_on}
use Rattle.control.proofs.settings.+walk.Goals as goal

pub returns-then-payload-at : goal.returns-then-payload-at
returns-then-payload-at t c = walk_end _ _ _ c.args.kept.now c.if-payload-at.true refl

pub returns-in_err-pair : goal.returns-in_err-pair
returns-in_err-pair t c =
    let r : ◌≡◌ {A = Result (Unit {0}) Code} c.from_residual.result (Err FrameError) = search rules in
    rw r (walk_cut _ _ _ c.if-payload-at.false (rw c.in_err-pair.ensures.ok_part at c.pair_at.ensures))

pub returns-then-reserved : goal.returns-then-reserved
returns-then-reserved t c =
    let p = rw c.in_ok-pair.ensures.ok_part at c.pair_at.ensures in
    elim c.then-reserved.branch [
      | goal.then-reserved-via-then-reserved w ↦ walk_reserved _ _ _ p (sym c.reserved.ensures ∙ w.if-reserved.true)
      | goal.then-reserved-via-else-reserved+then-seen w ↦ walk_seen _ _ _ p (sym c.reserved.ensures ∙ w.if-reserved.false) (rw w.if-seen.true at w.seen.ensures)
    ]

pub walk-requires : goal.walk-requires
walk-requires t c = let p = rw c.in_ok-pair.ensures.ok_part at c.pair_at.ensures in let q = pair_shortens _ p in (omega (arith, c.decreases), tt)

pub returns : goal.returns
returns t c =
    let p = rw c.in_ok-pair.ensures.ok_part at c.pair_at.ensures in
    walk_on _ _ _ (kept_by c.walk.result c.walk.new.kept) _ p (sym c.reserved.ensures ∙ c.if-reserved.false) (rw c.if-seen.false at c.seen.ensures) c.set.ensures c.walk.ensures
