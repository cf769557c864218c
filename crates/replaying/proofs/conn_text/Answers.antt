-- `replaying::conn_text` meets its contract: its parts, one behind the other, within the room. Assumes nothing.
use Rattle.rules.specs.Text.{ascii}
use Rattle.replaying.specs.Puts.{puts_word, puts_as, then_puts, maybe_is}
use Rattle.replaying.specs.Lines.{conn_text}
use Rattle.replaying.proofs.conn_text.Goals as goal

pub returns : goal.returns
unfolding conn_text ascii
returns c = then_puts (then_puts (then_puts (then_puts (then_puts (then_puts (then_puts ((puts_word c.put.ensures)) (c.spaced.ensures)) (c.spaced-2.ensures)) (c.spaced-3.ensures)) (puts_as (maybe_is _ _ c.given.ensures) c.maybe.ensures)) (puts_as (maybe_is _ _ c.given-2.ensures) c.maybe-2.ensures)) (puts_as (maybe_is _ _ c.given-3.ensures) c.maybe-3.ensures)) (c.settings.ensures)
