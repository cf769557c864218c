use native.Mathlib.Omega.{arith}
use Rattle.frames.specs.Handed.{none_here, handed_over, handed_on, content_on, content_past}
use Rattle.frames.proofs.handed.Goals as goal

pub returns-then-left-room : goal.returns-then-left-room
returns-then-left-room c = let a = c in rw c.quiet.ensures (handed_over a.args.c a.args.s.now a.args.at a.args.heads a.requires.0 a.requires.2 0 a.args.left a.args.mode _ c.told-t.ensures a.requires.4 c.if-left-room.true c.in_mode.ensures, content_past a.args.c c.told-t.ensures c.in_mode.ensures)

pub returns-then-room-eq0 : goal.returns-then-room-eq0
returns-then-room-eq0 c = let a = c in rw c.quiet-then-room-eq0.ensures (none_here a.args.c a.args.s.now a.args.at a.args.heads a.requires.0 a.requires.2 0 a.args.left a.args.mode (omega (arith, c.if-left-room.false)) a.requires.1 a.requires.3 c.if-room-eq0.true c.in_mode-then-room-eq0.ensures, content_on a.args.c c.in_mode-then-room-eq0.ensures)

pub returns-else-room-eq0 : goal.returns-else-room-eq0
returns-else-room-eq0 c = let a = c in rw c.quiet-else-room-eq0.ensures (handed_on a.args.c a.args.s.now a.args.at a.args.heads a.requires.0 a.requires.2 0 a.args.left c.if-left-room.false c.if-room-eq0.false a.args.mode _ a.requires.1 a.requires.3 c.told-t.ensures c.in_mode-else-room-eq0.ensures, content_on a.args.c c.in_mode-else-room-eq0.ensures)
