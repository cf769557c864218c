-- The shift of a byte by its top two bits is the rule for how many bytes follow. Assumes nothing.
use Rattle.varint.specs.ByByte.{follow_least, follow_is}
use Rattle.varint.proofs.follow.Goals as goal

pub overflow_sub-result : goal.overflow_sub-result
overflow_sub-result c = follow_least c.args.x c.requires

pub returns : goal.returns
returns c = follow_is c.args.x c.requires
