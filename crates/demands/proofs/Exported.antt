-- THE DEMANDS OF THE EXPORTED FUNCTIONS: what specs/Exported says holds of every call, by the function's own theorem. Assumes nothing.
use Rattle.std.specs.Prelude.{[], ◌∷◌, ◌++◌, length}
use Rattle.std.proofs.Common.{sym, ap, subst, ◌∙◌}
use Rattle.rules.specs.Calls.{end, find, open', on, goaway, call, run, fresh}
use Rattle.demands.specs.Demands as over-traces
use Rattle.demands.specs.Demands.{Calls}
use Rattle.demands.specs.Means.{report_of}
use Rattle.demands.specs.Only.{whole_only}
use Rattle.demands.specs.Others as others
use Rattle.demands.specs.Others.{verdict_in, Opens, Sends}
use Rattle.demands.specs.Runs.{starts, opens_one, feeds, ends, does_nothing, goaway_refused, settings_kept_lem}
use Rattle.demands.specs.Writes as writes
use Rattle.demands.specs.Writes.{BeginsFrame, Ends, EitherAbove, twelve, OpensControl}
use Rattle.demands.specs.Host.{begun, then_called, shows, meant, leaves, answers, reports, sends, refused_so, SaysWhole, whole_seen, seen_whole, whole_at}
use Rattle.demands.specs.Exports.{World, OfStart, of_start, OfOpen, of_open, OfFeed, of_feed, OfGive, of_give, OfEnd, of_end, OfGoaway, of_goaway, Every, OfHeader, of_header, OfIntegerFrame, of_integer_frame, OfOpening, of_opening}
use Rattle.demands.specs.Exported.{Begins, CarriesOn, RefusesSo, AltersNothing, RoomStays, OthersStay, Reads, WholeIfLegal, EndsByVerdict, FeedsByBytes, fed_so, GivesBySection, given_so, FeedsAlike, fed_alike, GivesAlike, given_alike, HoldsSettings, NotHalf, not_half, AddsNothing, adds_nothing, OpensBy, SendsBy, HeaderRead, HeaderShortest, HeaderEnds, IntegerFrameRead, IntegerFrameShortest, IntegerFrameEnds, OpeningRead, OpeningEnds, GoawayRead, GoawayShortest}
use Rattle.demands.proofs.Every.{every}

pub begins : (w : World) → OfStart w Begins
begins w = of_start w Begins (λ c rows n c' rows' m long. begun long (starts m))

pub carries_on : (w : World) → Every w CarriesOn
carries_on w = every w CarriesOn (λ c rows k x c' rows' m ks xs r. then_called r m)

pub demand_1 : (w : World) → Every w RefusesSo
demand_1 w = every w RefusesSo (λ c rows k x c' rows' m ks xs r. refused_so r m)

pub demand_1_bytes : (w : World) → Every w AltersNothing
demand_1_bytes w = every w AltersNothing (λ c rows k x c' rows' m z. let u = does_nothing m z in (u.0, u.1))

pub demand_1_room : (w : World) → OfGoaway w RoomStays
demand_1_room w = of_goaway w RoomStays (λ c id room r c' room' m. goaway_refused m)

pub demand_1_others : (w : World) → Every w OthersStay
demand_1_others w = every w OthersStay (λ c rows k x c' rows' m ks xs r id n. ap (λ p. find id p.row) (leaves r m) ∙ others.others_untouched ks k id n ∙ sym (ap (λ p. find id p.row) (meant r).holds))

pub demand_2 : (w : World) → Every w Reads
demand_2 w = every w Reads (λ c rows k x c' rows' m ks xs r. ((meant (then_called r m)).saw, λ id q. over-traces.demand_2 id q (ks ++ (k ∷ [])), λ id q. over-traces.one_way_reads id q (ks ++ (k ∷ []))))

pub demand_2_whole : (w : World) → Every w WholeIfLegal
demand_2_whole w = every w WholeIfLegal (λ c rows k x c' rows' m ks xs r. (
  λ e. (whole_only ks k).0 (whole_seen k (call k (run fresh ks)).answer (subst SaysWhole (answers r m) e)),
  λ e. subst SaysWhole (sym (answers r m)) (seen_whole ks k e),
))

pub demand_2_end : (w : World) → OfEnd w EndsByVerdict
demand_2_end w = of_end w EndsByVerdict (λ c rows id r c' rows' m ks xs s q e. reports s (on id end) (ends m) ∙ ap report_of (over-traces.end_exactly id q ks e))

pub demand_2_feed : (w : World) → OfFeed w FeedsByBytes
demand_2_feed w = of_feed w FeedsByBytes fed_so

pub demand_2_give : (w : World) → OfGive w GivesBySection
demand_2_give w = of_give w GivesBySection given_so

pub demand_2_cutting : (w : World) → OfFeed w FeedsAlike
demand_2_cutting w = of_feed w FeedsAlike (λ c rows id piece allow r c' rows' m ks xs s q e. let u = fed_so c rows id piece allow r c' rows' m ks xs s q e in fed_alike (shows id ks) piece allow r u.0 u.1 u.2)

pub demand_2_cutting_given : (w : World) → OfGive w GivesAlike
demand_2_cutting_given w = of_give w GivesAlike (λ c rows id block r c' rows' m ks xs s q e. let u = given_so c rows id block r c' rows' m ks xs s q e in given_alike (shows id ks) block r u.0 u.1 u.2)

pub demand_2_settings : (w : World) → OfFeed w HoldsSettings
demand_2_settings w = of_feed w HoldsSettings (λ c rows id piece allow r c' rows' m ks xs s e. settings_kept_lem (meant s).stands (feeds m) e)

pub demand_3_half : (w : World) → OfEnd w NotHalf
demand_3_half w = of_end w NotHalf (λ c rows id r c' rows' m ks xs s e. not_half (whole_at s (ends m) e))

pub demand_3 : (w : World) → OfEnd w AddsNothing
demand_3 w = of_end w AddsNothing (λ c rows i r c' rows' m ks xs s e ls ys d row t j p d' row' o f. adds_nothing (whole_at s (ends m) e) (whole_at t (ends o) f))

pub opens_exactly : (w : World) → OfOpen w OpensBy
opens_exactly w = of_open w OpensBy (λ c rows id r c' rows' m ks xs s. ((call (open' id) (run fresh ks)).answer, reports s (open' id) (opens_one m), others.opens_exactly ks id))

pub sends_exactly : (w : World) → OfGoaway w SendsBy
sends_exactly w = of_goaway w SendsBy (λ c id room r c' room' m ks xs rows s. ((call (goaway id (length room)) (run fresh ks)).answer, sends s m, others.sends_exactly ks id (length room)))

pub header_read : (w : World) → OfHeader w HeaderRead
header_read w = of_header w HeaderRead (λ type len room r room' m. writes.lent_header_read type len m)

pub header_shortest : (w : World) → OfHeader w HeaderShortest
header_shortest w = of_header w HeaderShortest (λ type len room r room' m z bs from payload. writes.lent_header_shortest type len m z)

pub header_ends : (w : World) → OfHeader w HeaderEnds
header_ends w = of_header w HeaderEnds (λ type len room r room' m. writes.lent_header_ends type len m)

pub integer_frame_read : (w : World) → OfIntegerFrame w IntegerFrameRead
integer_frame_read w = of_integer_frame w IntegerFrameRead (λ type value room r room' m. writes.lent_integer_frame_read type value m)

pub integer_frame_shortest : (w : World) → OfIntegerFrame w IntegerFrameShortest
integer_frame_shortest w = of_integer_frame w IntegerFrameShortest (λ type value room r room' m z bs from len payload b e next rest. writes.lent_integer_frame_shortest type value m z b e)

pub integer_frame_ends : (w : World) → OfIntegerFrame w IntegerFrameEnds
integer_frame_ends w = of_integer_frame w IntegerFrameEnds (λ type value room r room' m. writes.lent_integer_frame_ends type value m)

pub opening_read : (w : World) → OfOpening w OpeningRead
opening_read w = of_opening w OpeningRead (λ room r room' m. writes.lent_opening_read m)

pub opening_ends : (w : World) → OfOpening w OpeningEnds
opening_ends w = of_opening w OpeningEnds (λ room r room' m. writes.lent_opening_ends m)

pub goaway_read : (w : World) → OfGoaway w GoawayRead
goaway_read w = of_goaway w GoawayRead (λ c id room r c' room' m. writes.goaway_read m)

pub goaway_shortest : (w : World) → OfGoaway w GoawayShortest
goaway_shortest w = of_goaway w GoawayShortest (λ c id room r c' room' m z bs from len payload b e next rest. writes.goaway_shortest m z b e)
