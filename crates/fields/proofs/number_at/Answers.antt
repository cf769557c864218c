-- `fields::number_at` meets its contract. Assumes nothing.
use native.Mathlib.Omega.{arith}
use Rattle.rules.specs.Block.{little}
use Rattle.fields.proofs.number_at.Goals as goal

pub returns : goal.returns
unfolding little
returns c = let e = c.from_le_bytes.ensures in omega arith
