-- A bad ID, or an integer frame of type 7. Assumes nothing.
use mathlib.Core.Path.{sym, ◌∙◌}
use Rattle.wire.specs.Goaway.{sent_of, goaway_bad, goaway_frame}
use Rattle.wire.proofs.write_goaway.Goals as goal

pub returns-then-bad_goaway : goal.returns-then-bad_goaway
returns-then-bad_goaway c = let s = c.args in goaway_bad s.room.now (sent_of s.sent) s.id.0 (sym c.if-bad_goaway.true ∙ c.bad_goaway.ensures)

pub returns : goal.returns
returns c = let s = c.args in goaway_frame s.room.now (sent_of s.sent) s.id.0 (sym c.if-bad_goaway.false ∙ c.bad_goaway.ensures) c.write_integer_frame.ensures
