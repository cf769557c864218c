-- `replaying::number` meets its contract: a number of 64 bits has 20 digits at most. Assumes nothing.
use borrow.Author.Rules.{rules}
use native.Mathlib.Omega.{arith}
use Rattle.replaying.specs.Puts.{puts_decimal}
use Rattle.listing.specs.Put.{short}
use Rattle.replaying.proofs.number.Goals as goal

pub put_decimal-requires : goal.put_decimal-requires
put_decimal-requires c = omega (arith, short c.args.n (search rules))

pub returns : goal.returns
returns c = puts_decimal c.args.n (search rules) c.put_decimal.ensures
