use Rattle.oneway.specs.Numbers.{joined_is}
use Rattle.oneway.proofs.calls.joined.Goals as goal

pub returns : goal.returns
returns c = joined_is c.args.was.now c.args.word.now _ _ c.requires c.copy_from_slice.ensures.after c.copy_from_slice-2.ensures.after
