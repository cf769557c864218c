-- `replaying::kind` meets its contract: a word for each kind. Assumes nothing.
use native.Mathlib.Omega.{arith}
use Rattle.rules.specs.Text.{ascii}
use Rattle.replaying.specs.Puts.{puts_word}
use borrow.Author.Tests.{ne_eqb}
use Rattle.replaying.specs.Lines.{kind_text, pick}
use Rattle.replaying.proofs.kind.Goals as goal

pub returns-in-1 : goal.returns-in-1
unfolding kind_text pick ascii
returns-in-1 c = rw (← c.from.ensures, c.in-1.is) (puts_word c.put.ensures)

pub returns-in-2 : goal.returns-in-2
unfolding kind_text pick ascii
returns-in-2 c = rw (← c.from.ensures, c.in-2.is) (puts_word c.put-in-2.ensures)

pub returns-in-3 : goal.returns-in-3
unfolding kind_text pick ascii
returns-in-3 c = rw (← c.from.ensures, c.in-3.is) (puts_word c.put-in-3.ensures)

pub returns-in-4 : goal.returns-in-4
unfolding kind_text pick ascii
returns-in-4 c = rw (← c.from.ensures, c.in-4.is) (puts_word c.put-in-4.ensures)

pub returns-in-5 : goal.returns-in-5
unfolding kind_text pick ascii
returns-in-5 c = rw (← c.from.ensures, c.in-5.is) (puts_word c.put-in-5.ensures)

pub returns-in_default : goal.returns-in_default
unfolding kind_text pick ascii
returns-in_default c = let k = c.args.kind in simp (ne_eqb k 1 (λ e. omega arith), ne_eqb k 2 (λ e. omega arith), ne_eqb k 3 (λ e. omega arith), ne_eqb k 4 (λ e. omega arith), ne_eqb k 5 (λ e. omega arith)) (puts_word c.put-in_default.ensures)
