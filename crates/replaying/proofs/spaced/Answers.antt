-- `replaying::spaced` meets its contract: its parts, one behind the other, within the room. Assumes nothing.
use Rattle.rules.specs.Text.{ascii}
use Rattle.replaying.specs.Puts.{puts_word, then_puts}
use Rattle.replaying.specs.Lines.{blank}
use Rattle.replaying.proofs.spaced.Goals as goal

pub returns : goal.returns
unfolding blank ascii
returns c = then_puts ((puts_word c.put.ensures)) (c.number.ensures)
