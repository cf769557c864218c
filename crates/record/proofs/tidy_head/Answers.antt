use native.Mathlib.Omega.{arith}
use Rattle.record.specs.Tidy.{tidy_type, tidy_length, tidy_waiting, tidy_payload}
use Rattle.record.proofs.tidy_head.Goals as goal
use Rattle.record.proofs.tidy_head.Goals.{in_default-via-then-c-lt6, in_default-via-else-c-lt6+else-c-lt8}

pub returns-in-0 : goal.returns-in-0
returns-in-0 c = tidy_type _ c.in-0.is c.value_so_far.ensures c.headed.ensures

pub returns-in-1 : goal.returns-in-1
returns-in-1 c = tidy_length _ c.in-1.is c.value_so_far-in-1.ensures c.headed-in-1.ensures

pub returns-in-6 : goal.returns-in-6
returns-in-6 c = tidy_waiting _ (omega arith) (omega arith) c.headed-in-6.ensures

pub returns-in_default : goal.returns-in_default
returns-in_default c = elim c.in_default.branch [ in_default-via-then-c-lt6 w ↦ tidy_payload _ c.requires (omega arith) (λ e. omega arith) (λ e. omega arith) c.headed-in_default.ensures | in_default-via-else-c-lt6+else-c-lt8 w ↦ tidy_payload _ c.requires (omega arith) (λ e. omega arith) (λ e. omega arith) c.headed-in_default.ensures ]
