-- `replaying::value` meets its contract: a line for each answer. Assumes nothing.
use native.Mathlib.Omega.{arith}
use Rattle.rules.specs.Text.{ascii}
use Rattle.replaying.specs.Calls.{read_cut, read_value}
use Rattle.replaying.specs.Puts.{puts_as, more, puts_word}
use Rattle.replaying.proofs.value.Goals as goal

pub returns-in-None : goal.returns-in-None
unfolding ascii
returns-in-None c = let a = c.args in puts_as (read_cut a.bytes.now c.read.ensures c.in-None.is) (more (puts_word c.put.ensures) (omega arith))

pub returns-in-Some : goal.returns-in-Some
returns-in-Some c = let a = c.args in puts_as (read_value a.bytes.now c.read.ensures c.in-Some.is) c.value_line.ensures
