use Rattle.connection.specs.Ways.{hears_feed, hears_give, hears_close}
use Rattle.connection.proofs.answer_one_way.Goals as goal

pub returns-in-Feed : goal.returns-in-Feed
returns-in-Feed c = hears_feed _ _ _ _ c.in-Feed.is c.feed.ensures

pub returns-in-Give : goal.returns-in-Give
returns-in-Give c = hears_give _ _ _ _ c.in-Give.is c.give.ensures

pub returns-in-End : goal.returns-in-End
returns-in-End c = hears_close _ _ _ _ c.in-End.is c.close.ensures
