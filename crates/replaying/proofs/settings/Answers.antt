-- `replaying::settings` meets its contract: settings that came, or those before any. Assumes nothing.
use native.Mathlib.Omega.{arith}
use Rattle.rules.specs.Text.{ascii}
use Rattle.replaying.specs.Puts.{puts_word, puts_as, more, then_puts, maybe_is}
use borrow.Author.Tests.{eq-eqb, ne_eqb}
use Rattle.replaying.specs.Lines.{settings_text, pick}
use Rattle.replaying.proofs.settings.Goals as goal

pub returns-then-kept-eq0 : goal.returns-then-kept-eq0
unfolding settings_text pick ascii
returns-then-kept-eq0 c = simp (eq-eqb _ _ c.if-kept-eq0.true) (more (puts_word c.put.ensures) (omega arith))

pub returns : goal.returns
unfolding settings_text pick
returns c = simp (ne_eqb _ _ c.if-kept-eq0.false) (then_puts (then_puts (puts_as (maybe_is _ _ c.given.ensures) c.maybe.ensures) c.spaced.ensures) c.spaced-2.ensures)
