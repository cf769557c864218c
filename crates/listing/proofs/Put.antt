-- What is printed, line by line. Assumes nothing.
use Rattle.std.specs.Prelude.{ℕ, ◌+◌, ◌<◌, ◌≡◌, List, length}
use Rattle.std.proofs.Common.{ap}
use Rattle.listing.specs.Text.{texts_of, printed}
use Rattle.listing.specs.Lines.{first, lines_from}
use Rattle.listing.proofs.Lists.{lists}

-- THE TEXTS OF THE LINES READ ONE BY ONE ARE WHAT IS PRINTED
pub prints : (s : List ℕ) (most : ℕ) → length s + 1 < most → texts_of (lines_from most s first) ≡ printed s
unfolding printed
prints s most h = ap texts_of (lists s most h)
