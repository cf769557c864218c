use Rattle.connection.specs.Ways.{opened_so}
use Rattle.connection.proofs.open_stream.Goals as goal

pub returns : goal.returns
returns c = let a = c.args in opened_so a.d a.f a.id.0 c.free_at.ensures c.open-opening.ensures c.taken_by.ensures c.numbered_report.ensures
