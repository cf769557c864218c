-- `replaying::head` meets its contract: its parts, one behind the other, within the room. Assumes nothing.
use Rattle.rules.specs.Text.{ascii}
use Rattle.replaying.specs.Puts.{puts_word, then_puts}
use Rattle.replaying.specs.Lines.{head_text}
use Rattle.replaying.proofs.head.Goals as goal

pub returns : goal.returns
unfolding head_text ascii
returns c = then_puts (then_puts (then_puts c.number.ensures (c.spaced.ensures)) (c.spaced-2.ensures)) (puts_word c.put.ensures)
