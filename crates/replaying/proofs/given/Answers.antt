-- `replaying::given` meets its contract: the value where its flag is set. Assumes nothing.
use Rattle.std.proofs.Common.{refl}
use Rattle.replaying.specs.Lines.{flagged}
use Rattle.replaying.specs.Puts.{flag_set}
use Rattle.replaying.proofs.given.Goals as goal

pub returns-then-there-eq0 : goal.returns-then-there-eq0
unfolding flagged
returns-then-there-eq0 c = rw c.if-there-eq0.true refl

pub returns-else-there-eq0 : goal.returns-else-there-eq0
returns-else-there-eq0 c = flag_set _ _ c.if-there-eq0.false
