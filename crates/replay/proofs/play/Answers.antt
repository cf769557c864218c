-- `play`: a line that leads on leaves less of the script. Assumes nothing.
use Rattle.replaying.specs.Runs.{falls}
use Rattle.replay.proofs.play.Goals as goal

pub loop-next-smaller : goal.loop-next-smaller
loop-next-smaller g c = rw c.in-Some.is (falls c.next-next.result c.next-next.ensures)
