-- Too short, or the twelve bytes at its start. Assumes nothing.
use mathlib.Core.Path.{sym, ap, ◌∙◌}
use Rattle.std.proofs.lemmas.List.Edits.{sets-eq}
use Rattle.std.specs.Prelude.{◌++◌, drop}
use Rattle.wire.specs.Opening.{ours, opening_short, opening_done}
use Rattle.wire.proofs.write_opening.Goals as goal

pub returns-then-room-n : goal.returns-then-room-n
returns-then-room-n c = opening_short c.args.room.now c.if-room-n.true

pub returns : goal.returns
returns c = opening_done c.args.room.now _ c.if-room-n.false (ap (λ x. x ++ drop 12 c.args.room.now) c.copy_from_slice.ensures.after ∙ sym (sets-eq ours c.args.room.now 0 c.if-room-n.false))
