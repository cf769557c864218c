-- The measure is what is left of the payload: a pair takes bytes. Assumes nothing.
use Rattle.std.proofs.Common.{◌-◌, length}
use Rattle.control.proofs.settings.+walk.Given as goal

abbrev pub decreases-walk : goal.decreases-walk
decreases-walk l = length l.payload.now - l.at
