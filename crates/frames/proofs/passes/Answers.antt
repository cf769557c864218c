use native.Mathlib.Omega.{arith}
use mathlib.Core.Path.{ap}
use Rattle.std.proofs.lemmas.Grind.{common_steps}
use Rattle.frames.specs.Uses.{passes_skip, passes_data, passes_other}
use Rattle.frames.specs.Wants.{use_in}
use Rattle.frames.proofs.passes.Goals as goal

pub returns-in-Skipped : goal.returns-in-Skipped
returns-in-Skipped c = passes_skip _ _ _ (ap use_in c.in-Skipped.is)

pub returns-in-Content : goal.returns-in-Content
returns-in-Content c = passes_data _ _ _ (ap use_in c.in-Content.is)

pub returns-in_default : goal.returns-in_default
returns-in_default c = passes_other _ _ _ (λ e. grind (arith, common_steps)) (λ e. grind (arith, common_steps))
