-- `replaying::written_line` meets its contract: its parts, one behind the other, within the room. Assumes nothing.
use Rattle.rules.specs.Text.{ascii}
use Rattle.replaying.specs.Puts.{puts_word, then_puts}
use Rattle.replaying.specs.Lines.{written_line}
use Rattle.replaying.proofs.written_line.Goals as goal

pub returns : goal.returns
unfolding written_line ascii
returns c = then_puts (then_puts (then_puts (then_puts (then_puts c.head.ensures (puts_word c.put.ensures)) (c.spaced.ensures)) (puts_word c.put-2.ensures)) (c.spelt.ensures)) (puts_word c.put-3.ensures)
