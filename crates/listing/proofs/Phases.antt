-- A place's phase by its number. Assumes nothing.
use Rattle.std.proofs.Common.{◌≡◌, ◌≤◌, arith, Option, Some}
use Rattle.listing.specs.declared.Phase.{Phase}
use Rattle.listing.specs.declared.Phase.TheVariants.{Opening, Body, Trailed}
use Rattle.listing.specs.Lines.{phase_number}
use Rattle.frames.specs.Modes.{TRAILED}

some_phase : (phase : Phase) → phase_number (Some phase) ≤ TRAILED
some_phase Opening = omega arith
some_phase Body = omega arith
some_phase Trailed = omega arith

pub listed : {at : Option Phase} (phase : Phase) → at ≡ Some phase → phase_number at ≤ TRAILED
listed phase e = rw e (some_phase phase)
