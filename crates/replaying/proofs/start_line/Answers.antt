-- `replaying::start_line` meets its contract: its parts, one behind the other, within the room. Assumes nothing.
use Rattle.rules.specs.Text.{ascii}
use Rattle.replaying.specs.Puts.{puts_word, then_puts}
use Rattle.replaying.specs.Lines.{start_line}
use Rattle.replaying.proofs.start_line.Goals as goal

pub returns : goal.returns
unfolding start_line ascii
returns c = then_puts c.head.ensures (puts_word c.put.ensures)
