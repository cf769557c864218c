use native.Mathlib.Omega.{arith}
use Rattle.frames.specs.Fed.{fed_payload, fed_due}
use Rattle.frames.proofs.feed.Goals as goal

pub returns-in-3-to-5 : goal.returns-in-3-to-5
returns-in-3-to-5 c = let a = c.args in fed_payload a.c a.s.now a.allow c.requires (omega arith) (λ e. omega arith) (λ e. omega arith) c.handed.ensures.0

pub returns-in-6 : goal.returns-in-6
returns-in-6 c = let a = c.args in rw c.quiet.ensures (fed_due a.c a.s.now a.allow c.requires (omega arith) (omega arith))

pub returns-in_default : goal.returns-in_default
returns-in_default c = let a = c.args in fed_payload a.c a.s.now a.allow c.requires (omega arith) (λ e. omega arith) (λ e. omega arith) c.handed-in_default.ensures.0
