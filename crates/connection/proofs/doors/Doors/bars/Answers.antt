use Rattle.std.proofs.Common.{rules}
use Rattle.connection.specs.Openings.{barred_by}
use Rattle.connection.proofs.doors.Doors.bars.Goals as goal

pub returns : goal.returns
returns c = barred_by c.sent.result _ _ _ c.sent.ensures (search rules)
