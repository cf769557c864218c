-- Every listing has a last line. Assumes nothing.
use Rattle.std.specs.Prelude.{ℕ, zero, suc, ◌+◌, ◌<◌, ◌≡◌, refl, List, length}
use Rattle.std.proofs.Common.{arith}
use Rattle.listing.specs.Listing.{listing}
use Rattle.listing.specs.Lines.{first, entry_of, behind, with_rest, lines_from, line_at}
use Rattle.listing.specs.Falls.{rank, headed, falls_heading, falls_frame, HasLast, last_whole, last_refused, last_too_long, behind_one}
use Rattle.listing.proofs.Lists.{lists}
use Rattle.listing.specs.declared.Place.{Place}
use Rattle.listing.specs.declared.Line.{Line}
use Rattle.listing.specs.declared.Line.TheVariants.{Heading, Frame, Whole, Refused, TooLong}

lines_end : (s : List ℕ) (most : ℕ) (p : Place) → rank s p < most → HasLast (lines_from most s p)
unfolding lines_from entry_of behind
lines_end s zero p h = absurd (omega arith)
lines_end s (suc k) p h = go (lines_end s k) (line_at s p) refl
  where
    go : ((n : Place) → rank s n < k → HasLast (lines_from k s n)) → (l : Line) → line_at s p ≡ l → HasLast (with_rest (lines_from k s) l)
    go ih (Heading n) e = let f = falls_heading s p n e in behind_one (ih n (omega arith))
    go ih (Frame at type len u n) e = let f = falls_frame s p at type len u n e in behind_one (ih n (omega arith))
    go ih (Whole total) e = last_whole
    go ih (Refused bytes code) e = last_refused
    go ih TooLong e = last_too_long

-- EVERY LISTING HAS A LAST LINE: no reading waits for a third section
pub listing_ends : (s : List ℕ) → HasLast (listing s)
listing_ends s =
    let r = headed s first (omega arith) in
    rw (lists s (length s + 3) (omega arith)) at (lines_end s (length s + 3) first (omega arith))
