use mathlib.Core.Path.{refl}
use Rattle.connection.proofs.Ways.{swept_free, swept_other}
use Rattle.connection.proofs.swept.Goals as goal

pub returns-then-len-eq-ROW : goal.returns-then-len-eq-ROW
returns-then-len-eq-ROW c = swept_free _ _ c.if-len-eq-ROW.true c.free.ensures

pub returns-else-len-eq-ROW : goal.returns-else-len-eq-ROW
returns-else-len-eq-ROW c = swept_other _ _ c.if-len-eq-ROW.false refl
