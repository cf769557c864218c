-- `section::Facts::places_fault` meets its contract. Assumes nothing.
use mathlib.Core.Path.{◌≡◌}
use Rattle.std.specs.Prelude.{not, is_some}
use Rattle.std.proofs.lemmas.Grind.{common_steps}
use native.Mathlib.Omega.{arith}
use Rattle.rules.specs.Section.{size_limit, length_limit}
use Rattle.section.specs.Laws.{flipped}
use Rattle.section.specs.Judging.{by_places}
use Rattle.section.proofs.Facts.places_fault.Goals as goal

pub returns : goal.returns
unfolding by_places size_limit length_limit
returns c =
    let none : c.is_none.result ≡ not (is_some c.args.self.method) = flipped _ _ c.is_none.ensures in
    grind (arith, common_steps)
