-- `replaying::spelt` meets its contract: the invariant is the text of the bytes so far, in the digits' own array. Assumes nothing.
use Rattle.std.proofs.Common.{◌*◌, take, replicate}
use Rattle.script.specs.Words.{hexes}
use Rattle.replaying.specs.Puts.{Puts}
use Rattle.replaying.proofs.spelt.Given as goal

abbrev pub invariant-loop-i : goal.invariant-loop-i
invariant-loop-i l = Puts (replicate 128 0) 0 (hexes (take l.i l.bytes)) (2 * l.i) l.digits (2 * l.i)
