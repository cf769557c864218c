-- What is kept of a payload, and what is to come of it, are together 256 bytes at most, whatever is fed. Assumes nothing.
use Rattle.std.specs.Prelude.{◌≡◌, ℕ, suc, ◌+◌, ◌≤◌, length}
use Rattle.std.proofs.Common.{subst, arith, length-append}
use mathlib.Core.List.{List, [], ◌∷◌, ◌++◌}
use Rattle.rules.specs.Numbers.{Code}
use Rattle.rules.specs.Reading.{Kept, Use, content, skipped, section, kept, Ruling, refuse, accept, Next, stop, go}
use Rattle.rules.specs.Control.{Control, unset, control, judged, rule}
use Rattle.rules.specs.OneWay.{Qpack, Kind, a_control, a_qpack, Typed, is, type_rule}
use Rattle.rules.specs.OneWay as type
use Rattle.meaning.specs.Machine.{Prog, Fed, going, value, fed, State, Outcome, between}
use Rattle.meaning.specs.Feed as F
use Rattle.meaning.specs.FeedUses.{Uses, NotKept, RulesWithin, JudgesWithin, StateWithin, OutcomeWithin, FeedWithin, feed_within}
use Rattle.meaning.specs.ControlLaws.{KeptWithin, control_limit, settings_limit_is}
use Rattle.meaning.specs.OneWayFeed.{OneState, in_stream_type, in_control, in_qpack, in_skipped, OneOutcome, lives, dies, OneFeeding, controlled, of_control, halt, also, qpack_feed, kind_feed, typed_feed, type_feed, feed}

abbrev pub Fits : Uses
Fits content k l = Unit {0}
Fits skipped k l = Unit {0}
Fits (section t) k l = Unit {0}
Fits (kept f) k l = length k + l ≤ 256

clear : (u : Use) → NotKept u → (k : List ℕ) (l : ℕ) → Fits u k l → (n : ℕ) → Fits u [] n
clear content i k l h n = tt
clear skipped i k l h n = tt
clear (section t) i k l h n = tt
clear (kept f) i k l h n = absurd i

more : (f : Kept) (k : List ℕ) (b l : ℕ) → Fits (kept f) k (suc l) → Fits (kept f) (k ++ (b ∷ [])) l
more f k b l h = let e = length-append k (b ∷ []) in omega arith

abbrev Any : Code → Type 0
Any code = Unit {0}

limited : (most len : ℕ) (r : Ruling Control) → most ≡ 256 → KeptWithin most len r → RulesWithin Fits Any len r
limited most len (refuse code) e h = tt
limited most len (accept content c) e h = tt
limited most len (accept skipped c) e h = tt
limited most len (accept (section t) c) e h = tt
limited most len (accept (kept k) c) e h = omega arith

any_next : (n : Next Control) → JudgesWithin Any n
any_next (stop code) = tt
any_next (go p) = tt

control_fits : (n : ℕ) (s : State Control) → StateWithin Fits s → (bs : List ℕ) → FeedWithin Fits Any (F.feed control n s bs)
control_fits n s h bs = feed_within control Fits Any clear more (λ c t len. limited _ len (rule c t len) settings_limit_is (control_limit c t len)) (λ k c payload. any_next (judged k c payload)) n s h bs

-- ---- a one-way stream

abbrev pub OneFits : OneState → Type 0
OneFits (in_stream_type g) = Unit {0}
OneFits (in_control s) = StateWithin Fits s
OneFits (in_qpack q) = Unit {0}
OneFits in_skipped = Unit {0}

abbrev AfterFits : OneOutcome → Type 0
AfterFits (lives s) = OneFits s
AfterFits (dies code) = Unit {0}

outcome_fits : (o : Outcome Control) → OutcomeWithin Fits Any o → AfterFits (controlled o)
unfolding controlled
outcome_fits (Outcome.lives s) h = h
outcome_fits (Outcome.dies code) h = tt

frames_fit : (f : F.Feeding Control) → FeedWithin Fits Any f → AfterFits (of_control f).after
unfolding of_control
frames_fit f w = outcome_fits f.after w.after

qpack_fits : (q : Qpack) (bs : List ℕ) → AfterFits (qpack_feed q bs).after
unfolding qpack_feed halt
qpack_fits q [] = tt
qpack_fits q (b ∷ bs) = tt

typed_fits : (allow : ℕ) (t : Typed) (bs : List ℕ) → AfterFits (typed_feed allow t bs).after
unfolding typed_feed kind_feed halt
typed_fits allow (type.refuse code) bs = tt
typed_fits allow (is a_control) bs = frames_fit (F.feed control allow (between unset) bs) (control_fits allow (between unset) tt bs)
typed_fits allow (is (a_qpack q)) bs = qpack_fits q bs
typed_fits allow (is type.skipped) bs = tt

module _ (seen : List ℕ) (allow : ℕ) where
  also_fits : (f : OneFeeding) → AfterFits f.after → AfterFits (also f).after
  unfolding also
  also_fits f h = h

  type_fits : (g : Prog) (bs : List ℕ) → AfterFits (type_feed seen allow g bs).after
  unfolding type_feed halt
  type_fits g [] = tt
  type_fits g (b ∷ bs) = by (fed g b) (λ g'. type_fits g' bs)
    where
      by : (x : Fed) → ((g' : Prog) → AfterFits (type_feed seen allow g' bs).after)
          → AfterFits (also (elim x as (λ y. OneFeeding) [ going g' ↦ type_feed seen allow g' bs | value t ↦ typed_feed allow (type_rule seen t) bs ])).after
      by (going g') ih = also_fits (type_feed seen allow g' bs) (ih g')
      by (value t) ih = also_fits (typed_feed allow (type_rule seen t) bs) (typed_fits allow (type_rule seen t) bs)

  feed_fits : (s : OneState) → OneFits s → (bs : List ℕ) → AfterFits (feed seen allow s bs).after
  unfolding feed kind_feed
  feed_fits (in_stream_type g) h bs = type_fits g bs
  feed_fits (in_control s) h bs = frames_fit (F.feed control allow s bs) (control_fits allow s h bs)
  feed_fits (in_qpack q) h bs = qpack_fits q bs
  feed_fits in_skipped h bs = tt

  -- WHAT A FEED LEAVES OF A PAYLOAD FITS, IF IT DID BEFORE
  pub stays_fit : (s t : OneState) → OneFits s → (bs : List ℕ) → (feed seen allow s bs).after ≡ lives t → OneFits t
  stays_fit s t h bs e = subst AfterFits e (feed_fits s h bs)
