use native.Mathlib.Omega.{arith}
use Rattle.requests.specs.Taken.{trailer_fault, trailer_taken, trailer_late}
use Rattle.requests.proofs.given.give_trailers.Goals as goal

pub returns-in-Err : goal.returns-in-Err
returns-in-Err c = let a = c.args in trailer_fault a.c a.block.now _ c.trailers.ensures c.in-Err.is c.number.ensures

pub returns-then-c-eq-BODY : goal.returns-then-c-eq-BODY
returns-then-c-eq-BODY c = let a = c.args in trailer_taken a.c a.block.now _ c.trailers.ensures c.in-Ok.is (omega (arith, c.if-c-eq-BODY.true)) c.cells_at.ensures

pub returns-else-c-eq-BODY : goal.returns-else-c-eq-BODY
returns-else-c-eq-BODY c = let a = c.args in trailer_late a.c a.block.now _ c.trailers.ensures c.in-Ok.is (λ e. omega (arith, c.if-c-eq-BODY.false))
