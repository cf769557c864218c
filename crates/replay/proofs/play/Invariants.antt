-- `play` ends: each line that leads on leaves less of the script. Assumes nothing.
use Rattle.replaying.specs.Runs.{to_come}
use Rattle.replay.proofs.play.Given as goal

abbrev pub decreases-loop-next : goal.decreases-loop-next
decreases-loop-next g l = to_come l.script l.next
