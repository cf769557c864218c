-- A CONNECTION IS TWO HALVES: the doors, which every call looks at, and the side, which only one-way streams' calls do. Assumes nothing.
use Rattle.std.specs.Prelude.{ℕ}
use Rattle.wire.specs.declared.ids.StreamId.{StreamId}
use Rattle.connection.specs.declared.doors.Doors.{Doors}
use Rattle.oneway.specs.declared.calls.Side.{Side}
use Rattle.connection.specs.declared.Connection.{Connection}

abbrev pub stream_id : ℕ → StreamId
stream_id n = record { 0 = n }

abbrev pub both : Doors → Side → Connection
both d s = record { doors = d; side = s }

-- ---- as before, but for one half

abbrev pub doors_in : Connection → Doors
doors_in c = c.doors

abbrev pub with_doors : Connection → Doors → Connection
with_doors c d = both d c.side

abbrev pub side_in : Connection → Side
side_in c = c.side

abbrev pub with_side : Connection → Side → Connection
with_side c s = both c.doors s
