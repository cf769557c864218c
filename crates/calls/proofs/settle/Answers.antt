-- What the doors decide, beside the side as it is. Assumes nothing.
use Rattle.std.specs.Prelude.{refl}
use Rattle.connection.specs.Nearly.{turned_near}
use Rattle.calls.proofs.settle.Goals as goal

pub returns-in-Some : goal.returns-in-Some
returns-in-Some c = turned_near c.in-Some.ensures refl
