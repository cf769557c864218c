use Rattle.connection.specs.Goaway.{sent_none, sent_up}
use Rattle.connection.proofs.doors.Doors.sent.Goals as goal

pub returns-then-self-eq0 : goal.returns-then-self-eq0
returns-then-self-eq0 c = sent_none c.args.self.now c.if-self-eq0.true

pub returns-else-self-eq0 : goal.returns-else-self-eq0
returns-else-self-eq0 c = sent_up c.args.self.now c.if-self-eq0.false
