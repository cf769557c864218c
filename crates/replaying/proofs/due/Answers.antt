-- `replaying::due` meets its contract: a sign where a section is due. Assumes nothing.
use native.Mathlib.Omega.{arith}
use Rattle.replaying.specs.Puts.{puts_word, puts_as, more, puts_none, due_is, due_none}
use Rattle.replaying.proofs.due.Goals as goal

pub returns-then-r-lt6 : goal.returns-then-r-lt6
returns-then-r-lt6 c = puts_as (due_none c.args.r (λ k m. omega arith) (λ k m. omega arith)) (more (puts_none _ _ (omega arith)) (omega arith))

pub returns-in-6 : goal.returns-in-6
returns-in-6 c = puts_as (due_is c.args.r c.if-r-eq-REQUEST_KIND.true (omega arith) (omega arith)) (puts_word c.put.ensures)

pub returns-else-r-lt8 : goal.returns-else-r-lt8
returns-else-r-lt8 c = puts_as (due_none c.args.r (λ k m. omega arith) (λ k m. omega arith)) (more (puts_none _ _ (omega arith)) (omega arith))

pub returns-else-r-eq-REQUEST_KIND : goal.returns-else-r-eq-REQUEST_KIND
returns-else-r-eq-REQUEST_KIND c = puts_as (due_none c.args.r (λ k m. omega arith) (λ k m. omega arith)) (more (puts_none _ _ (omega arith)) (omega arith))
