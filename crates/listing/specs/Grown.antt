-- A text in its room, and what is put behind it. Assumes nothing.
use Rattle.std.specs.Prelude.{ℕ, List}
use Rattle.listing.specs.Put.{Put}
use Rattle.listing.specs.declared.room.Text.{Text}

abbrev pub Extends : Text → List ℕ → Text → Type 0
Extends before word after = Put before.room before.length word after.room after.length
