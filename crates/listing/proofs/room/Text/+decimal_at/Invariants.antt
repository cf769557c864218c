-- The number falls. Assumes nothing.
use Rattle.listing.proofs.room.Text.+decimal_at.Given as goal

abbrev pub decreases-decimal_at : goal.decreases-decimal_at
decreases-decimal_at l = l.n
