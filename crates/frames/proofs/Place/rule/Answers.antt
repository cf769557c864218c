use mathlib.Core.Path.{◌∙◌}
use Rattle.frames.specs.Ruled.{control_place}
use Rattle.frames.proofs.Place.rule.Goals as goal

pub returns-else-self-lt-UNSET : goal.returns-else-self-lt-UNSET
returns-else-self-lt-UNSET c = c.control_rule.ensures ∙ control_place _ _ _ _ _ _ c.if-self-lt-UNSET.false
