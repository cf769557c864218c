use Rattle.std.proofs.Common.{refl}
use Rattle.connection.specs.Openings.{one_way_other, one_way_admitted}
use Rattle.connection.proofs.doors.open_one_way.Goals as goal

pub returns-then-id-d : goal.returns-then-id-d
returns-then-id-d c = let a = c.args in one_way_other a.d a.id.0 a.free c.if-id-d.true c.refused.ensures

pub returns : goal.returns
returns c = let a = c.args in one_way_admitted a.d a.id.0 a.free c.if-id-d.false refl c.admitted.ensures
