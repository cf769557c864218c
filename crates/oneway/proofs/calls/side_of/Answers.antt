use mathlib.Core.Path.{ap, refl, ◌∙◌}
use Rattle.oneway.specs.Mirror.{kept_numbers}
use Rattle.control.specs.Rules.{control_of}
use Rattle.oneway.specs.Numbers.{side_control, side_bare}
use Rattle.oneway.proofs.calls.side_of.Goals as goal

pub returns-then-kind-eq-CONTROL : goal.returns-then-kind-eq-CONTROL
returns-then-kind-eq-CONTROL c = let a = c.args in side_control a.d a.kind a.phase a.word.now c.if-kind-eq-CONTROL.true (c.tidy_kept-kept.ensures ∙ ap (λ x. kept_numbers (control_of x)) c.kept_in.ensures) refl c.joined.ensures c.control_side.ensures

pub returns-else-kind-eq-CONTROL : goal.returns-else-kind-eq-CONTROL
returns-else-kind-eq-CONTROL c = let a = c.args in side_bare a.d a.kind a.phase a.word.now c.if-kind-eq-CONTROL.false c.bare_side.ensures
