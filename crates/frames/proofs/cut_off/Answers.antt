use native.Mathlib.Omega.{arith}
use Rattle.frames.specs.End.{cut_control, cut_request}
use Rattle.frames.proofs.cut_off.Goals as goal

pub returns-then-phase-gt-TRAILED : goal.returns-then-phase-gt-TRAILED
returns-then-phase-gt-TRAILED c = cut_control c.args.phase c.if-phase-gt-TRAILED.true

pub returns-else-phase-gt-TRAILED : goal.returns-else-phase-gt-TRAILED
returns-else-phase-gt-TRAILED c = cut_request c.args.phase (λ x. absurd (omega (arith, x, c.if-phase-gt-TRAILED.false)))
