-- `wire::ids::is_request` meets its contract, by computing. Assumes nothing.
use mathlib.Core.Path.{refl}
use Rattle.wire.proofs.ids.is_request.Goals as goal

pub returns : goal.returns
returns c = refl
