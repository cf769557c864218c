use Rattle.oneway.specs.Frames.{rest_fed, control_is}
use Rattle.oneway.proofs.control.Goals as goal

pub returns : goal.returns
returns c = let a = c.args in let e = c.behind.ensures in rw e (control_is a.s.now a.at a.w a.c a.allow c.feed-a.result c.requires.0 c.requires.1 c.requires.2 c.requires.3 (rest_fed a.s.now a.at a.c a.allow c.feed-a.result c.feed-a.ensures))
