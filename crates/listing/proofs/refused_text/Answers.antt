-- `listing::refused_text` meets its contract: its parts, one behind the other, within the room. Assumes nothing.
use native.Mathlib.Omega.{arith}
use Rattle.rules.specs.Text.{ascii}
use Rattle.listing.specs.Put.{short, spaced_short, put_refused}
use borrow.Author.Rules.{rules}
use Rattle.listing.proofs.refused_text.Goals as goal

pub put_decimal-requires : goal.put_decimal-requires
put_decimal-requires c = let a = c.args in omega (arith, spaced_short a.bytes (search rules), short a.code (search rules))

pub put-requires-2 : goal.put-requires-2
put-requires-2 c = let a = c.args in omega (arith, spaced_short a.bytes (search rules), short a.code (search rules))

pub returns : goal.returns
unfolding ascii
returns c = let a = c.args in put_refused a.bytes a.code c.put.ensures c.put_spaced.ensures c.put_decimal.ensures c.put-2.ensures
