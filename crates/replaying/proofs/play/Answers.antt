-- `replaying::play` meets its contract: a call for each verb. Assumes nothing.
use Rattle.replaying.specs.Plays.{starts, opens, feeds, gives, ends, resets, writes, told}
use Rattle.replaying.proofs.play.Goals as goal

pub returns-in-Start : goal.returns-in-Start
returns-in-Start c = told (λ t s. starts c.in-Start.is s) (rw c.unwrap_or-row.ensures at c.started.ensures)

pub returns-in-Open : goal.returns-in-Open
returns-in-Open c = told (λ t s. opens c.in-Open.is s) (rw c.unwrap_or-row.ensures at c.streamed.ensures)

pub returns-in-Feed : goal.returns-in-Feed
returns-in-Feed c = told (λ t s. feeds c.in-Feed.is s) (rw c.unwrap_or-row.ensures at c.streamed-in-Feed.ensures)

pub returns-in-Give : goal.returns-in-Give
returns-in-Give c = told (λ t s. gives c.in-Give.is s) (rw c.unwrap_or-row.ensures at c.streamed-in-Give.ensures)

pub returns-in-End : goal.returns-in-End
returns-in-End c = told (λ t s. ends c.in-End.is s) (rw c.unwrap_or-row.ensures at c.streamed-in-End.ensures)

pub returns-in-Reset : goal.returns-in-Reset
returns-in-Reset c = told (λ t s. resets c.in-Reset.is s) (rw c.unwrap_or-row.ensures at c.streamed-in-Reset.ensures)

pub returns-in-Goaway : goal.returns-in-Goaway
returns-in-Goaway c = told (λ t s. writes s) c.goaway.ensures

pub returns-in-Write : goal.returns-in-Write
returns-in-Write c = told (λ t s. writes s) c.buffered.ensures
