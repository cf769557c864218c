-- `replaying::value_line` meets its contract: its parts, one behind the other, within the room. Assumes nothing.
use Rattle.rules.specs.Text.{ascii}
use Rattle.replaying.specs.Puts.{puts_word, then_puts}
use Rattle.replaying.specs.Lines.{value_line}
use Rattle.replaying.proofs.value_line.Goals as goal

pub returns : goal.returns
unfolding value_line ascii
returns c = then_puts (then_puts (then_puts ((puts_word c.put.ensures)) (c.spaced.ensures)) (c.spaced-2.ensures)) (puts_word c.put-2.ensures)
