-- `replaying::records` meets its contract: the invariant is the text of the records so far. Assumes nothing.
use Prim.Native.Nat.{◌*◌}
use lib.ListN.{length, take}
use mathlib.Core.Path.{◌≡◌}
use Rattle.replaying.specs.Lines.{rows_text}
use Rattle.replaying.specs.Puts.{Adds}
use Rattle.replaying.proofs.records.Given as goal

abbrev pub invariant-loop-i : goal.invariant-loop-i
invariant-loop-i l = Adds l.initial.text (rows_text 0 (take l.i l.r-items)) (51 * l.i) l.text × (length l.r-items ≡ 24)
