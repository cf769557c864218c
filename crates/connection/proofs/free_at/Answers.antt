use Rattle.std.specs.Prelude.{◌≡◌, Bool, true, false, ltb}
use Rattle.std.proofs.Common.{refl, ◌∙◌}
use Rattle.std.specs.Int.{from_bool}
use Rattle.connection.specs.Turned.{free_at}
use Rattle.connection.proofs.free_at.Goals as goal

one_if : (b : Bool) → from_bool b ≡ elim b [ true ↦ 1 | false ↦ 0 ]
one_if true = refl
one_if false = refl

pub returns : goal.returns
unfolding free_at
returns c = c.from.ensures ∙ one_if (ltb c.args.at 24)
