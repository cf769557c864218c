use Rattle.connection.proofs.Ways.{started_fresh, started_other}
use Rattle.connection.proofs.begin.Goals as goal

pub returns-then-len-eq-ROW : goal.returns-then-len-eq-ROW
returns-then-len-eq-ROW c = started_fresh _ c.if-len-eq-ROW.true c.fresh.ensures

pub returns-else-len-eq-ROW : goal.returns-else-len-eq-ROW
returns-else-len-eq-ROW c = started_other _ c.if-len-eq-ROW.false
