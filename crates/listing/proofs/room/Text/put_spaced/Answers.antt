-- `Text::put_spaced` meets its contract: a number, then a blank. Assumes nothing.
use native.Mathlib.Omega.{arith}
use Rattle.rules.specs.Text.{ascii}
use Rattle.listing.specs.Put.{short, put_spaced}
use borrow.Author.Rules.{rules}
use Rattle.listing.proofs.room.Text.put_spaced.Goals as goal

pub put_decimal-requires : goal.put_decimal-requires
put_decimal-requires c = let a = c.args in omega (arith, short a.n (search rules))

pub put-requires : goal.put-requires
put-requires c = let a = c.args in omega (arith, short a.n (search rules), c.put_decimal.ensures.next)

pub returns : goal.returns
unfolding ascii
returns c = put_spaced c.args.n c.put_decimal.ensures c.put.ensures
