-- `replaying::report_line` meets its contract: its parts, one behind the other, within the room. Assumes nothing.
use Rattle.rules.specs.Text.{ascii}
use Rattle.replaying.specs.Puts.{puts_word, then_puts}
use Rattle.replaying.specs.Lines.{report_line}
use Rattle.replaying.proofs.report_line.Goals as goal

pub returns : goal.returns
unfolding report_line ascii
returns c = then_puts (then_puts c.head.ensures (c.event.ensures)) (puts_word c.put.ensures)
