-- `replaying::maybe` meets its contract: a number, or a sign for none. Assumes nothing.
use native.Mathlib.Omega.{arith}
use Rattle.rules.specs.Text.{ascii}
use Rattle.replaying.specs.Puts.{puts_word, more}
use Rattle.replaying.specs.Lines.{maybe_text}
use Rattle.replaying.proofs.maybe.Goals as goal

pub returns-in-Some : goal.returns-in-Some
unfolding maybe_text
returns-in-Some c = rw c.in-Some.is c.spaced.ensures

pub returns-in-None : goal.returns-in-None
unfolding maybe_text ascii
returns-in-None c = rw c.in-None.is (more (puts_word c.put.ensures) (omega arith))
