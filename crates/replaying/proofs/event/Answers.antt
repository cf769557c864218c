-- `replaying::event` meets its contract: a text for each event. Assumes nothing.
use native.Mathlib.Omega.{arith}
use Rattle.rules.specs.Text.{ascii}
use Rattle.replaying.specs.Puts.{puts_word, more, then_puts}
use borrow.Author.Tests.{ne_eqb}
use Rattle.replaying.specs.Lines.{event_text, pick}
use Rattle.replaying.proofs.event.Goals as goal

pub returns-in-1 : goal.returns-in-1
unfolding event_text pick ascii
returns-in-1 c = rw c.in-1.is (more c.part.ensures (omega arith))

pub returns-in-2 : goal.returns-in-2
unfolding event_text pick ascii
returns-in-2 c = rw c.in-2.is (more (then_puts c.part-in-2.ensures (puts_word c.put.ensures)) (omega arith))

pub returns-in-3 : goal.returns-in-3
unfolding event_text pick ascii
returns-in-3 c = rw c.in-3.is (more (then_puts c.part-in-3.ensures (puts_word c.put-in-3.ensures)) (omega arith))

pub returns-in-7 : goal.returns-in-7
unfolding event_text pick ascii
returns-in-7 c = rw c.in-7.is (more (then_puts c.part-in-7.ensures c.spaced.ensures) (omega arith))

pub returns-in-8 : goal.returns-in-8
unfolding event_text pick ascii
returns-in-8 c = rw c.in-8.is (more (then_puts (puts_word c.put-in-8.ensures) c.settings.ensures) (omega arith))

pub returns-in-9 : goal.returns-in-9
unfolding event_text pick ascii
returns-in-9 c = rw c.in-9.is (more (then_puts (puts_word c.put-in-9.ensures) c.spaced-in-9.ensures) (omega arith))

pub returns-in-10 : goal.returns-in-10
unfolding event_text pick ascii
returns-in-10 c = rw c.in-10.is (more (then_puts (puts_word c.put-in-10.ensures) c.spaced-in-10.ensures) (omega arith))

pub returns-in-11 : goal.returns-in-11
unfolding event_text pick ascii
returns-in-11 c = rw c.in-11.is (more (puts_word c.put-in-11.ensures) (omega arith))

pub returns-in-12 : goal.returns-in-12
unfolding event_text pick ascii
returns-in-12 c = rw c.in-12.is (more (puts_word c.put-in-12.ensures) (omega arith))

pub returns-in_default : goal.returns-in_default
unfolding event_text pick ascii
returns-in_default c = let r = c.args.r in simp (ne_eqb r.event 1 (λ e. omega arith), ne_eqb r.event 2 (λ e. omega arith), ne_eqb r.event 3 (λ e. omega arith), ne_eqb r.event 7 (λ e. omega arith), ne_eqb r.event 8 (λ e. omega arith), ne_eqb r.event 9 (λ e. omega arith), ne_eqb r.event 10 (λ e. omega arith), ne_eqb r.event 11 (λ e. omega arith), ne_eqb r.event 12 (λ e. omega arith)) (more (puts_word c.put-in_default.ensures) (omega arith))
