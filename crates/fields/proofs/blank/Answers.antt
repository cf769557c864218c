-- `fields::blank` meets its contract. Assumes nothing.
use Rattle.rules.specs.Classes.{is_blank}
use borrow.Author.Tests.{eq-eqb, ne_eqb}
use Rattle.fields.proofs.blank.Goals as goal

pub returns-then-b-eq32 : goal.returns-then-b-eq32
unfolding is_blank
returns-then-b-eq32 c = simp (eq-eqb _ _ c.if-b-eq32.true)

pub returns-else-b-eq32 : goal.returns-else-b-eq32
unfolding is_blank
returns-else-b-eq32 c = simp (ne_eqb _ _ c.if-b-eq32.false)
