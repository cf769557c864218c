use Rattle.connection.specs.Ways.{asks_feed, asks_give, asks_end, asks_reset}
use Rattle.connection.proofs.answer_request.Goals as goal

pub returns-in-Feed : goal.returns-in-Feed
returns-in-Feed c = asks_feed _ _ _ c.in-Feed.is c.feed.ensures

pub returns-in-Give : goal.returns-in-Give
returns-in-Give c = asks_give _ _ _ c.in-Give.is c.give.ensures

pub returns-in-End : goal.returns-in-End
returns-in-End c = asks_end _ _ _ c.in-End.is c.end.ensures

pub returns-in-Reset : goal.returns-in-Reset
returns-in-Reset c = asks_reset _ _ _ c.in-Reset.is c.reset.ensures
