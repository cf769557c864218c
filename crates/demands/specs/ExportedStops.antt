-- WHERE A FEED STOPS, OF THE EXPORTED FUNCTION: behind any run of calls, what a host's feed reports (Stops, Parts; Exported says what `OfFeed` is, FeedReports what
-- `ReportsFed` is). Assumes nothing.
use Rattle.std.specs.Prelude.{◌≡◌, ◌<◌, List, ◌++◌, length, take}
use Rattle.std.proofs.Math.Option.{some}
use Rattle.rules.specs.Calls.{quiet, fed, request, one_way, kind_of, gave}
use Rattle.rules.specs.Shown.{running}
use Rattle.demands.specs.Demands.{Calls}
use Rattle.demands.specs.Parts.{EndsAt, Bounded, KeepsTo, Stopped, Exactly, parts, feeds_exactly, one_way_stops}
use Rattle.demands.specs.Runs.{Seen}
use Rattle.demands.specs.Host.{Run, shows}
use Rattle.demands.specs.FeedReports.{ReportsFed, reports_fed, reports_bounded}
use Rattle.demands.specs.Exports.{FeedSays, World, OfFeed, of_feed}
use Rattle.demands.specs.Stops.{ComesInTime, AtAllowance, AtAllowance₁, OnePayload, notices_in_time, held_by_allowance, held_by_allowance₁, within_one_payload}

-- any stream: no more bytes than the piece has and no more headers than allowed, refused or not; and a part ends where the feed stopped
abbrev pub KeepsWithin : FeedSays
KeepsWithin c rows id piece allow r c' rows' = (ks : Calls) (xs : List Seen) → Run ks xs c rows
    → Bounded allow piece r.used r.heads × (r.number ≡ 0 → ReportsFed r (λ used heads e. EndsAt used e))

pub demand_2_within : (w : World) → OfFeed w KeepsWithin
demand_2_within w = of_feed w KeepsWithin (λ c rows id piece allow r c' rows' m ks xs s. (reports_bounded s m, reports_fed s m (λ u h e z. let k : KeepsTo allow piece (gave (fed u h e)) = rw z at (parts ks id allow piece) in k.1)))

-- a request stream that runs: why it stopped, and the mark where a section is due (Parts); a part lies within one payload; and a feed that reports nothing and
-- leaves bytes of its piece stopped at its allowance
abbrev pub RequestStops : FeedSays
RequestStops c rows id piece allow r c' rows' = (ks : Calls) (xs : List Seen) → Run ks xs c rows → kind_of id ≡ some request → (shows id ks).fate ≡ running → r.number ≡ 0
    → let s = (shows id ks).shown in ReportsFed r (λ used heads e. Exactly allow piece used heads e s × OnePayload s used piece e
    × (e ≡ quiet → used < length piece → AtAllowance allow heads (s.bytes ++ take used piece) s.sections))

pub demand_2_stops : (w : World) → OfFeed w RequestStops
demand_2_stops w = of_feed w RequestStops (λ c rows id piece allow r c' rows' m ks xs s q n. reports_fed s m (λ u h e z. (
  feeds_exactly id q ks allow u h piece e n z,
  within_one_payload id q ks allow u h piece e n z,
  λ i l. held_by_allowance id q ks allow u h piece n (rw i at z) l,
)))

-- and a one-way stream that runs: a notice comes with its last byte
abbrev pub OneWayStops : FeedSays
OneWayStops c rows id piece allow r c' rows' = (ks : Calls) (xs : List Seen) → Run ks xs c rows → kind_of id ≡ some one_way → (shows id ks).fate ≡ running → r.number ≡ 0
    → let s = (shows id ks).shown in ReportsFed r (λ used heads e. Stopped allow piece used heads e × ComesInTime s used piece e
    × (e ≡ quiet → used < length piece → AtAllowance₁ allow heads (s.bytes ++ take used piece)))

pub demand_2_one_way_stops : (w : World) → OfFeed w OneWayStops
demand_2_one_way_stops w = of_feed w OneWayStops (λ c rows id piece allow r c' rows' m ks xs s q n. reports_fed s m (λ u h e z. (
  one_way_stops id q ks allow u h piece e n z,
  notices_in_time id q ks allow u h piece e n z,
  λ i l. held_by_allowance₁ id q ks allow u h piece n (rw i at z) l,
)))
