use native.Mathlib.Omega.{arith}
use mathlib.Core.Path.{ap}
use Rattle.record.specs.Tidy.{tidy_both}
use Rattle.record.proofs.tidy.Goals as goal

pub tidy_head-requires : goal.tidy_head-requires
tidy_head-requires c = c.requires.0

pub tidy_place-requires : goal.tidy_place-requires
tidy_place-requires c = omega (arith, ap (λ x. x.phase) c.tidy_head.ensures)

pub returns : goal.returns
returns c = tidy_both _ c.requires.0 c.requires.1 c.tidy_head.ensures c.tidy_place.ensures
