use native.Mathlib.Omega.{arith}
use Rattle.requests.specs.Severity.{freed_between, left_alone}
use Rattle.requests.proofs.left.Goals as goal

pub returns-in-267 : goal.returns-in-267
returns-in-267 c = freed_between c.args.r _ (omega arith) (omega arith) c.free.ensures

pub returns-in_default : goal.returns-in_default
returns-in_default c = left_alone _ _ ((λ e. omega arith), (λ e. omega arith), (λ e. omega arith), (λ e. omega arith))

pub returns-in_default-2 : goal.returns-in_default-2
returns-in_default-2 c = left_alone _ _ ((λ e. omega arith), (λ e. omega arith), (λ e. omega arith), (λ e. omega arith))
