-- `replaying::part` meets its contract: its parts, one behind the other, within the room. Assumes nothing.
use native.Mathlib.Omega.{arith}
use Rattle.replaying.specs.Puts.{puts_word, more, then_puts}
use Rattle.replaying.proofs.part.Goals as goal

pub returns : goal.returns
returns c = more (then_puts (then_puts (puts_word c.put.ensures) c.spaced.ensures) c.spaced-2.ensures) (omega (arith, c.requires.0))
