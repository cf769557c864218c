use Rattle.connection.specs.Briefly.{briefly_so}
use Rattle.connection.proofs.brisk.Goals as goal

pub returns-then-f-eq-REQUEST_KIND : goal.returns-then-f-eq-REQUEST_KIND
returns-then-f-eq-REQUEST_KIND c = briefly_so c.if-f-eq-ROW.true c.if-code-eq0.true c.if-f-lt-ROW.true c.if-f-eq-REQUEST_KIND.true c.in_ok-a.ensures c.from.ensures
