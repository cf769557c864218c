-- A write other than our GOAWAY, from what `wire` promises (Promises, WroteInto). Assumes nothing.
use Rattle.std.specs.Prelude.{◌≡◌, ℕ, List}
use Rattle.std.proofs.Common.{ap, ◌∙◌}
use Rattle.rules.specs.Writer.{Write}
use Rattle.std.specs.Prelude.{Result}
use Rattle.rules.specs.declared.codes.House.{House}
use Rattle.varint.specs.Write.{Meets, answer_of}
use Rattle.connection.specs.declared.Written.{Written}
pub use Rattle.calls.specs.Promises.{written_of, WroteInto}

pub wrote_into : {w : Write} {room room' : List ℕ} {a : Result ℕ House} {r : Written} → Meets w room a room' → r ≡ written_of (answer_of a) → WroteInto w room r room'
wrote_into m e = record { answered = e ∙ ap written_of m.answers; room_left = m.leaves }
