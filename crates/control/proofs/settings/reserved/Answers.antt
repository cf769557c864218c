-- `control::settings::reserved` meets its contract: the range is the list. Assumes nothing.
use native.Mathlib.Omega.{arith}
use Rattle.control.specs.WalkLaws.{is_reserved, not_reserved}
use Rattle.control.proofs.settings.reserved.Goals as goal

pub returns-in-2-to-5 : goal.returns-in-2-to-5
returns-in-2-to-5 c = is_reserved _ (omega arith) (omega arith)

pub returns-in_default : goal.returns-in_default
returns-in_default c = not_reserved _ (λ k lo hi e. omega arith)

pub returns-in_default-2 : goal.returns-in_default-2
returns-in_default-2 c = not_reserved _ (λ k lo hi e. omega arith)
