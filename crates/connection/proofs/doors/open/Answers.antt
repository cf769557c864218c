use Rattle.std.proofs.Common.{arith}
use Rattle.connection.specs.Openings.{open_dead, open_above, open-request, open-one-way, open_none}
use Rattle.connection.proofs.doors.open.Goals as goal

pub returns-then-d-ne0 : goal.returns-then-d-ne0
returns-then-d-ne0 c = let a = c.args in open_dead a.d a.id.0 a.free c.if-d-ne0.true c.refused.ensures

pub returns-then-id-ge-IDS : goal.returns-then-id-ge-IDS
returns-then-id-ge-IDS c = let a = c.args in open_above a.d a.id.0 a.free c.if-d-ne0.false c.if-id-ge-IDS.true c.refused-then-id-ge-IDS.ensures

pub returns-in-0 : goal.returns-in-0
returns-in-0 c = let a = c.args in open-request a.d a.id.0 a.free c.if-d-ne0.false c.if-id-ge-IDS.false c.in-0.is c.open_request.ensures

pub returns-in-2 : goal.returns-in-2
returns-in-2 c = let a = c.args in open-one-way a.d a.id.0 a.free c.if-d-ne0.false c.if-id-ge-IDS.false c.in-2.is c.open_one_way.ensures

pub returns-in_default : goal.returns-in_default
returns-in_default c = let a = c.args in open_none a.d a.id.0 a.free c.if-d-ne0.false c.if-id-ge-IDS.false (λ e. omega arith) (λ e. omega arith) c.refused-in_default.ensures
