-- `list` ends: each line that leads on leaves less to come. Assumes nothing.
use Rattle.listing.specs.Falls.{to_come}
use Rattle.lister.proofs.list.Given as goal

abbrev pub decreases-loop-next : goal.decreases-loop-next
decreases-loop-next g l = to_come l.input l.next
