-- `list`: a line that leads on leaves less to come. Assumes nothing.
use Rattle.listing.specs.Falls.{falls_next}
use Rattle.lister.proofs.list.Goals as goal

pub loop-next-smaller : goal.loop-next-smaller
loop-next-smaller g c = rw (c.next-next.ensures, c.in-Some.is) (falls_next c.args.input.now c.in-Some.place c.next-line.result c.next-line.ensures)
