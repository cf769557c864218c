-- `replaying::state_line` meets its contract: its parts, one behind the other, within the room. Assumes nothing.
use Rattle.rules.specs.Text.{ascii}
use Rattle.replaying.specs.Puts.{puts_word, then_puts}
use Rattle.replaying.specs.Lines.{state_line}
use Rattle.replaying.proofs.state_line.Goals as goal

pub returns : goal.returns
unfolding state_line ascii
returns c = then_puts (then_puts c.conn_text.ensures (c.records.ensures)) (puts_word c.put.ensures)
