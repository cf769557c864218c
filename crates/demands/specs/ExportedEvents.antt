-- EVENTS, OF THE EXPORTED FUNCTION: what a host's feed reports, behind any run of calls (Events, Allowed; Exported says what `OfFeed` is,
-- FeedReports what `ReportsFed` is). Assumes nothing.
use Rattle.std.specs.Prelude.{◌≡◌, ℕ, ◌≤◌, List, ◌++◌, take}
use Rattle.std.proofs.Math.Option.{some}
use Rattle.rules.specs.Calls.{feed, request, one_way, kind_of, on, Answer, call, run, fresh, trace}
use Rattle.rules.specs.Shown.{running}
use Rattle.demands.specs.Demands.{Calls}
use Rattle.demands.specs.Means.{report_of}
use Rattle.demands.specs.Runs.{Seen, feeds}
use Rattle.demands.specs.Host.{Run, shows, reports}
use Rattle.demands.specs.FeedReports.{ReportsFed, reports_fed}
use Rattle.demands.specs.Exports.{FeedSays, World, OfFeed, of_feed}
use Rattle.demands.specs.Faults.{Moves₁, one_way_progress}
use Rattle.demands.specs.SecondOfType.{AtItsType, IsSecondOf, second_at_its_type}
use Rattle.demands.specs.Events.{RequestEvent, OneWayEvent, shown_by, request_events, one_way_events}
use Rattle.demands.specs.Allowed.{NoFurther, no_further_header}
use Rattle.demands.specs.OneWayAllowed.{NoFurther₁, no_further_header₁}

-- a request stream that runs: the event of an accepted feed is one that a request may have, and no header byte was read once the allowance was reached
abbrev pub RequestReports : FeedSays
RequestReports c rows id piece allow r c' rows' = (ks : Calls) (xs : List Seen) → Run ks xs c rows → kind_of id ≡ some request → (shows id ks).fate ≡ running → r.number ≡ 0
    → let s = (shows id ks).shown in ReportsFed r (λ used heads e. RequestEvent s used piece e × (heads ≡ allow → 1 ≤ used → NoFurther (s.bytes ++ take used piece) s.sections))

pub demand_2_events : (w : World) → OfFeed w RequestReports
demand_2_events w = of_feed w RequestReports (λ c rows id piece allow r c' rows' m ks xs s q n. reports_fed s m (λ u h e z.
    (request_events id q ks allow u h piece e n z, no_further_header id q ks allow u h piece e n z)))

-- and a one-way stream that runs
abbrev pub OneWayReports : FeedSays
OneWayReports c rows id piece allow r c' rows' = (ks : Calls) (xs : List Seen) → Run ks xs c rows → kind_of id ≡ some one_way → (shows id ks).fate ≡ running → r.number ≡ 0
    → ReportsFed r (λ used heads e. let bytes = (shows id ks).shown.bytes ++ take used piece in OneWayEvent (shown_by bytes) piece e × (heads ≡ allow → 1 ≤ used → NoFurther₁ bytes))

pub demand_2_one_way_events : (w : World) → OfFeed w OneWayReports
demand_2_one_way_events w = of_feed w OneWayReports (λ c rows id piece allow r c' rows' m ks xs s q n. reports_fed s m (λ u h e z.
    (one_way_events id q ks allow u h piece e n z, no_further_header₁ id q ks allow u h piece e n z)))

-- A FEED OF A ONE-WAY STREAM that runs: a code only for a fault that the bytes brought, or as the second of its type; else it gets on
abbrev pub OneWayFeeds : FeedSays
OneWayFeeds c rows id piece allow r c' rows' = (ks : Calls) (xs : List Seen) → Run ks xs c rows → kind_of id ≡ some one_way → (shows id ks).fate ≡ running
    → (a : Answer) × (r ≡ report_of a) × Moves₁ (trace fresh ks) (shows id ks).shown allow piece a

pub demand_2_one_way_feed : (w : World) → OfFeed w OneWayFeeds
demand_2_one_way_feed w = of_feed w OneWayFeeds (λ c rows id piece allow r c' rows' m ks xs s q n. (let k = on id (feed allow piece) in (
  (call k (run fresh ks)).answer,
  reports s k (feeds m),
  one_way_progress id q ks allow piece n,
)))

-- A SECOND OF ITS TYPE is refused at its type, whatever follows in the piece
abbrev pub SecondRefused : FeedSays
SecondRefused c rows id piece allow r c' rows' = (ks : Calls) (xs : List Seen) → Run ks xs c rows → kind_of id ≡ some one_way → (shows id ks).fate ≡ running → let bytes = (shows id ks).shown.bytes in
    (ends : ℕ) → IsSecondOf (trace fresh ks) bytes piece ends → (a : Answer) × (r ≡ report_of a) × AtItsType bytes ends a

pub demand_2_second_of_type : (w : World) → OfFeed w SecondRefused
demand_2_second_of_type w = of_feed w SecondRefused (λ c rows id piece allow r c' rows' m ks xs s q n ends y. (let k = on id (feed allow piece) in (
  (call k (run fresh ks)).answer,
  reports s k (feeds m),
  second_at_its_type id q ks allow ends piece n y,
)))
