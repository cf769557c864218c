-- WHAT THE EXPORTED FUNCTIONS ANSWER: what specs/ExportedAnswers says holds of every call. Assumes nothing.
use Rattle.std.proofs.Common.{ap, ◌∙◌}
use Rattle.demands.specs.Runs.{seen_of, feeds, gives, ends, resets}
use Rattle.demands.specs.Others as others
use Rattle.demands.specs.Others.{NotHouse, verdict_in, Answers, is_dead, is_shut, feed_waits, feed_reads, section_undue, section_unread, section_read, end_judged, reset_done, Answers₁}
use Rattle.demands.specs.Host.{answers}
use Rattle.demands.specs.Exports.{World, Every, OfFeed, of_feed, OfGive, of_give, OfEnd, of_end, OfReset, of_reset}
use Rattle.demands.specs.ExportedAnswers.{AsTraced, DeadSays, FeedAnswered, so, GiveAnswered, EndAnswered, ResetAnswered}
use Rattle.demands.proofs.Every.{every}

pub as_traced : (w : World) → Every w AsTraced
as_traced w = every w AsTraced (λ c rows k x c' rows' m ks xs r. answers r m)

pub dead_says : (w : World) → Every w DeadSays
dead_says w = every w DeadSays (λ c rows k x c' rows' m ks xs r f d l. answers r m ∙ ap (λ y. seen_of k y.answer) (others.dead_stays ks k f l d))

pub feed_reports : (w : World) → OfFeed w FeedAnswered
feed_reports w = of_feed w FeedAnswered (λ c rows id piece allow r c' rows' m ks xs s. so s (feeds m))

pub give_reports : (w : World) → OfGive w GiveAnswered
give_reports w = of_give w GiveAnswered (λ c rows id block r c' rows' m ks xs s. so s (gives m))

pub end_reports : (w : World) → OfEnd w EndAnswered
end_reports w = of_end w EndAnswered (λ c rows id r c' rows' m ks xs s. so s (ends m))

pub reset_reports : (w : World) → OfReset w ResetAnswered
reset_reports w = of_reset w ResetAnswered (λ c rows id r c' rows' m ks xs s. so s (resets m))
