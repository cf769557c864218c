use Rattle.frames.specs.Wants.{refusal_none, refusal_passes}
use Rattle.frames.specs.Stops.{stop_here}
use Rattle.frames.specs.Stopped.{stop_placed}
use Rattle.frames.proofs.up_to_stop.Goals as goal

pub returns-in-Ok : goal.returns-in-Ok
returns-in-Ok c = let p = c.place.ensures in rw c.in-Ok.is (stop_placed _ c.args.c p.phase p.stated p.sum c.payload.ensures)

pub returns-in-Err : goal.returns-in-Err
returns-in-Err c = let r = c.requires in rw c.in-Err.is (stop_here _ _ _ _ _ _ _ _ _ r.0 (refusal_passes _ _ _) (refusal_none _) r.2 (rw c.in-Err.is at r.3))
