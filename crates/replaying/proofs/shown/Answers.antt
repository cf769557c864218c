-- `replaying::shown` meets its contract: its parts, one behind the other, within the room. Assumes nothing.
use native.Mathlib.Omega.{arith}
use Rattle.rules.specs.Text.{ascii}
use Rattle.replaying.specs.Puts.{puts_word, more, then_puts, puts_none}
use borrow.Author.Tests.{eq-eqb, ne_eqb}
use Rattle.replaying.specs.Lines.{record_text, pick}
use Rattle.replaying.proofs.shown.Goals as goal

pub returns-then-r-eq-FREE_KIND : goal.returns-then-r-eq-FREE_KIND
unfolding record_text pick
returns-then-r-eq-FREE_KIND c = simp (eq-eqb _ _ c.if-r-eq-FREE_KIND.true) (more (puts_none _ _ (omega arith)) (omega arith))

pub returns : goal.returns
unfolding record_text pick ascii
returns c = simp (ne_eqb _ _ c.if-r-eq-FREE_KIND.false) (then_puts (then_puts (then_puts (then_puts (then_puts c.spaced.ensures (puts_word c.put.ensures)) (c.number.ensures)) (puts_word c.put-2.ensures)) (c.kind.ensures)) (c.due.ensures))
