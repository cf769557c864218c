use native.Mathlib.Omega.{arith}
use Rattle.frames.specs.Ruled.{one_empty, one_long, one_fits}
use Rattle.frames.proofs.one_integer.Goals as goal

pub returns-in-1-to-8 : goal.returns-in-1-to-8
returns-in-1-to-8 c = one_fits _ _ (λ e. omega arith) (omega arith)

pub returns-in_default : goal.returns-in_default
returns-in_default c = one_empty _ _ (omega arith)

pub returns-in_default-2 : goal.returns-in_default-2
returns-in_default-2 c = one_long _ _ (λ e. omega arith) (omega arith)
