use native.Mathlib.Omega.{arith}
use Rattle.record.specs.Tests.{refuses}
use Rattle.tried_c.specs.OneWayNumbers.{no_sound}
use Rattle.tried_c.proofs.feeds.is_sound.Goals as goal

pub returns-in-0 : goal.returns-in-0
returns-in-0 c = refuses (no_sound _ _ (omega arith))
