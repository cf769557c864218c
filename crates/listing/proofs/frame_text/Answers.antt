-- `listing::frame_text` meets its contract: its parts, one behind the other, within the room. Assumes nothing.
use native.Mathlib.Omega.{arith}
use Rattle.listing.specs.Put.{spaced_short, word_short, put_frame}
use borrow.Author.Rules.{rules}
use Rattle.listing.proofs.frame_text.Goals as goal

pub put_spaced-requires-2 : goal.put_spaced-requires-2
put_spaced-requires-2 c = let a = c.args in omega (arith, spaced_short a.at (search rules))

pub put_spaced-requires-3 : goal.put_spaced-requires-3
put_spaced-requires-3 c = let a = c.args in omega (arith, spaced_short a.at (search rules), spaced_short a.ftype (search rules))

pub put_usage-requires : goal.put_usage-requires
put_usage-requires c = let a = c.args in omega (arith, spaced_short a.at (search rules), spaced_short a.ftype (search rules), spaced_short a.len (search rules))

pub put-requires : goal.put-requires
put-requires c = let a = c.args in omega (arith, spaced_short a.at (search rules), spaced_short a.ftype (search rules), spaced_short a.len (search rules), word_short a.usage)

pub returns : goal.returns
returns c = let a = c.args in put_frame a.at a.ftype a.len _ c.put_spaced.ensures c.put_spaced-2.ensures c.put_spaced-3.ensures c.put_usage.ensures c.put.ensures
