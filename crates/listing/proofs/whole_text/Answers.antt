-- `listing::whole_text` meets its contract: its parts, one behind the other, within the room. Assumes nothing.
use native.Mathlib.Omega.{arith}
use Rattle.rules.specs.Text.{ascii}
use Rattle.listing.specs.Put.{spaced_short, put_whole}
use borrow.Author.Rules.{rules}
use Rattle.listing.proofs.whole_text.Goals as goal

pub put-requires-2 : goal.put-requires-2
put-requires-2 c = omega (arith, spaced_short c.args.total (search rules))

pub returns : goal.returns
unfolding ascii
returns c = put_whole c.args.total c.put.ensures c.put_spaced.ensures c.put-2.ensures
