use native.Mathlib.Omega.{arith}
use Prim.Native.Nat.{ℕ, ◌+◌, ◌-◌, ◌*◌, ◌<◌, ◌≤◌}
use mathlib.Core.Path.{◌≡◌, sym, subst, ◌∙◌}
use Rattle.std.proofs.lemmas.Grind.{common_steps}
use Rattle.frames.specs.Wants.{use_none, refusal_passes, refusal_none}
use Rattle.frames.specs.Stops.{unready_none, ruling_lawful, stop_header, stop_here, header_stop, passed_fits, pass_stop}
use Rattle.frames.proofs.+header_payload.Goals as goal
use Rattle.frames.proofs.+header_payload.Goals.{header-else-allow-ne0-via-else-allow-ne0, header-else-allow-ne0-via-then-allow-ne0+in-None-1}

further : (n at m a t : ℕ) → (n - at) + 2 * a ≡ t → at ≤ m → 0 < a → (n - m) + 2 * (a - 1) + 1 < t
further n at m a t e h l = subst (λ x. (n - m) + 2 * (a - 1) + 1 < x) e falls-so
  where
    falls-so : (n - m) + 2 * (a - 1) + 1 < (n - at) + 2 * a
    falls-so = omega arith

pub header-payload-requires : goal.header-payload-requires
header-payload-requires t c = let w = c.in-Some.ensures in
    (further _ _ _ _ _ c.decreases w.past (omega (arith, c.if-allow-ne0.true)), (w.within, c.requires.1, w.small, ruling_lawful _ _ _ _ _ _ _ c.requires.1 c.in-Ok.ensures))

pub header-returns-in-Ok : goal.header-returns-in-Ok
header-returns-in-Ok t c = let w = c.in-Some.ensures in header_stop _ _ _ _ _ _ _ _ _ _ _ _ w.typed w.sized c.if-allow-ne0.true c.in-Ok.ensures (use_none _) w.past c.payload.ensures

pub header-returns-in-Err : goal.header-returns-in-Err
header-returns-in-Err t c =
    let w = c.in-Some.ensures in
    let n9 = refusal_none c.in-Err.code in
    rw c.stop.ensures (header_stop _ _ _ _ _ _ _ _ _ _ _ _ w.typed w.sized c.if-allow-ne0.true c.in-Err.ensures n9 w.past
    (stop_here _ _ _ _ _ _ _ _ _ w.within (refusal_passes _ _ _) n9 w.small (ruling_lawful _ _ _ _ _ _ _ c.requires.1 c.in-Err.ensures)))

pub header-returns-else-allow-ne0 : goal.header-returns-else-allow-ne0
header-returns-else-allow-ne0 t c =
    rw c.stop-else-allow-ne0.ensures (stop_header _ _ _ _ _ _ _ c.requires.0
    (λ lo. elim c.else-allow-ne0.branch [
      | header-else-allow-ne0-via-else-allow-ne0 w ↦ absurd (omega arith)
      | header-else-allow-ne0-via-then-allow-ne0+in-None-1 w ↦ unready_none _ _ (grind (arith, common_steps)) w.whole_header.ensures
    ]))

pub payload-overflow_add-at : goal.payload-overflow_add-at
payload-overflow_add-at t c = omega (arith, passed_fits _ _ _ (sym c.passes.ensures ∙ c.if-passes.true))

pub payload-header-requires : goal.payload-header-requires
payload-header-requires t c = (omega arith, (omega (arith, passed_fits _ _ _ (sym c.passes.ensures ∙ c.if-passes.true)), c.requires.1))

pub payload-returns-then-passes : goal.payload-returns-then-passes
payload-returns-then-passes t c = pass_stop _ _ _ _ _ _ _ _ _ (sym c.passes.ensures ∙ c.if-passes.true) c.header.ensures

pub payload-returns-else-passes : goal.payload-returns-else-passes
payload-returns-else-passes t c = rw c.stop.ensures (stop_here _ _ _ _ _ _ _ _ _ c.requires.0 (sym c.passes.ensures ∙ c.if-passes.false) (use_none _) c.requires.2 c.requires.3)
