-- `script::bytes_at` meets its contract: the invariant is that the digits so far spell the bytes stored. Assumes nothing.
use lib.ListN.{length, take}
use Prim.Native.Nat.{◌+◌, ◌≤◌, ◌-◌}
use mathlib.Core.Path.{◌≡◌}
use Rattle.script.specs.Words.{between, hexes}
use Rattle.script.proofs.bytes_at.Given as goal

abbrev pub invariant-loop-next : goal.invariant-loop-next
invariant-loop-next l =
    (l.at ≤ l.next) × (l.next ≤ length l.s) × (l.count ≤ length l.room) × (length l.room ≡ length l.initial.room) × (l.next ≡ l.at + (l.count + l.count)) × (between l.s l.at l.next ≡ hexes (take l.count l.room))

abbrev pub decreases-loop-next : goal.decreases-loop-next
decreases-loop-next l = length l.s - l.next
