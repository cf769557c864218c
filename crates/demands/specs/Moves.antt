-- What traces ask of one stream's steps, for the streams of document 01: a request's feed gets on; a one-way stream is a machine of its own bytes,
-- to which the connection adds one thing only, that a second stream of a type is refused; and what is kept is what the control stream reported.
-- Assumes nothing.
use Rattle.std.specs.Prelude.{◌≡◌, ℕ, zero, suc, ◌≤◌, Bool, true, false}
use Rattle.std.proofs.Math.Path.{refl}
use Rattle.std.proofs.Common.{sym, ap, ◌∙◌, subst, arith, true≢false}
use mathlib.Core.List.{List, [], ◌∷◌}
use Rattle.std.proofs.Math.Option.{Option, none, some}
use Rattle.rules.specs.Numbers.{of_connection, stream_creation_error}
use Rattle.rules.specs.Text.{lookup, is_one_of}
use Rattle.rules.specs.Message.{Message}
use Rattle.rules.specs.Request.{document, request}
use Rattle.rules.specs.Control.{Control, control}
use Rattle.rules.specs.OneWay.{Qpack, encoder, decoder, Kind, a_control, a_qpack, skipped, Typed, refuse, is, once, type_rule}
use Rattle.meaning.specs.Machine as M
use Rattle.meaning.specs.Feed as F
use Rattle.meaning.specs.EveryFeed.{ReadsOn}
use Rattle.meaning.proofs.EveryFeed.{feed_moves}
use Rattle.meaning.specs.OneWayFeed as O
use Rattle.meaning.specs.TextLaws.{lookup_absent}
use Rattle.rules.specs.Calls.{Event, Fed, goes, faults}
use Rattle.traces.specs.Oneways.{Both, Like, goes_alike, faults_alike, second, ByItself}
use Rattle.traces.specs.Kept.{Steps, tells_nothing, becomes, tells_on}
use Rattle.demands.specs.Becomes.{as_control, is_for, type_number, Unseen, type_unseen}
use Rattle.demands.specs.Streams.{conn_code, is_due, Keeps, came, types_in, place_in, kept_by, one_event, heard_by, streams}
use Rattle.demands.specs.Reads.{fed_goes}

-- ---- a request gets on

reads_on : (s : M.State Message) → is_due s ≡ false → ReadsOn s
unfolding is_due
reads_on (M.in_type g p) e = tt
reads_on (M.in_length t g p) e = tt
reads_on (M.in_payload u k left p) e = tt
reads_on (M.due t p) e = let z : ◌≡◌ {A = ℕ} 0 1 = cc in absurd (omega arith)

moved : (r r' : M.State Message) (n u h b : ℕ) (bs : List ℕ) (e : Event) → is_due r ≡ false → streams.feed r (suc n) (b ∷ bs) ≡ goes u h e r' → 1 ≤ u
moved r r' n u h b bs e d q =
    let f = F.feed (request document) (suc n) r (b ∷ bs) in
    rw (← (fed_goes f.used f.heads f.event f.after q).1) (feed_moves (request document) n b r bs (reads_on r d))

-- PROGRESS OF ONE REQUEST STREAM BY ITSELF
pub feed_gets_on : (r r' : M.State Message) (allow u h b : ℕ) (bs : List ℕ) (e : Event) → is_due r ≡ false → 1 ≤ allow → streams.feed r allow (b ∷ bs) ≡ goes u h e r' → 1 ≤ u
feed_gets_on r r' zero u h b bs e d l q = absurd (omega arith)
feed_gets_on r r' (suc n) u h b bs e d l q = moved r r' n u h b bs e d q

-- ---- a one-way stream by itself

unfoldable pub alone_by : (used heads : ℕ) → O.OneEvent → O.OneOutcome → Fed O.OneState
alone_by u h e (O.lives s) = goes u h (one_event u e) s
alone_by u h e (O.dies code) = faults code u h

-- as where no other stream has come
abbrev pub alone_of : O.OneState → (allow : ℕ) → (piece : List ℕ) → Fed O.OneState
alone_of w allow piece = let f = O.feed [] allow w piece in alone_by f.used f.heads f.event f.after

-- a ruling on a type that has come whole: the same, or the type has come before
data Ruled : (alone here : Typed) → Type 0 where
  the_same : {x : Typed} → Ruled x x
  came_before : {x : Typed} → Ruled x (refuse (of_connection stream_creation_error))

once_ruled : (seen : List ℕ) (t : ℕ) (k : Kind) → Ruled (is k) (once seen t k)
unfolding once
once_ruled seen t k = go (is_one_of seen t)
  where
    go : (x : Bool) → Ruled (is k) (elim x [ true ↦ refuse (of_connection stream_creation_error) | false ↦ is k ])
    go true = came_before
    go false = the_same

type_ruled : (seen : List ℕ) (t : ℕ) → Ruled (type_rule [] t) (type_rule seen t)
unfolding type_rule lookup once is_one_of
type_ruled seen zero = unfold once in once_ruled seen 0 a_control
type_ruled seen (suc zero) = the_same
type_ruled seen (suc (suc zero)) = unfold once in once_ruled seen 2 (a_qpack encoder)
type_ruled seen (suc (suc (suc zero))) = unfold once in once_ruled seen 3 (a_qpack decoder)
type_ruled seen (suc (suc (suc (suc n)))) =
    let t = suc (suc (suc (suc n))) in
    let none_of : (t ≡ 0 → ⊥) × ((t ≡ 1 → ⊥) × ((t ≡ 2 → ⊥) × ((t ≡ 3 → ⊥) × Unit {0}))) = ((λ e. omega arith), ((λ e. omega arith), ((λ e. omega arith), ((λ e. omega arith), tt)))) in
    let a = lookup_absent t ((0, once [] 0 a_control) ∷ (1, refuse (of_connection stream_creation_error)) ∷ (2, once [] 2 (a_qpack encoder)) ∷ (3, once [] 3 (a_qpack decoder)) ∷ []) (is skipped) none_of in
    let b = lookup_absent t ((0, once seen 0 a_control) ∷ (1, refuse (of_connection stream_creation_error)) ∷ (2, once seen 2 (a_qpack encoder)) ∷ (3, once seen 3 (a_qpack decoder)) ∷ []) (is skipped) none_of in
    subst (λ x. Ruled x (type_rule seen t)) (sym a) (subst (λ y. Ruled (is skipped) y) (sym b) the_same)

-- a feed: the same, or refused as the second of its type
data Alike (f x : O.OneFeeding) : Type 0 where
  same_feed : f ≡ x → Alike f x
  second_of_type : x.after ≡ O.dies (of_connection stream_creation_error) → Alike f x

also_alike : (f x : O.OneFeeding) → Alike f x → Alike (O.also f) (O.also x)
also_alike f x (same_feed e) = same_feed (ap O.also e)
also_alike f x (second_of_type e) = second_of_type (unfold O.also in e)

typed_alike : (allow : ℕ) (piece : List ℕ) {a b : Typed} → Ruled a b → Alike (O.typed_feed allow a piece) (O.typed_feed allow b piece)
typed_alike allow piece the_same = same_feed refl
typed_alike allow piece came_before = second_of_type (unfold O.typed_feed O.halt in refl)

module _ (seen : List ℕ) (allow : ℕ) where
  byte_alike : (bs : List ℕ) → ((g : M.Prog) → Alike (O.type_feed [] allow g bs) (O.type_feed seen allow g bs)) → (x : M.Fed)
      → Alike (elim x [ M.going g ↦ O.type_feed [] allow g bs | M.value t ↦ O.typed_feed allow (type_rule [] t) bs ])
      (elim x [ M.going g ↦ O.type_feed seen allow g bs | M.value t ↦ O.typed_feed allow (type_rule seen t) bs ])
  byte_alike bs ih (M.going g) = ih g
  byte_alike bs ih (M.value t) = typed_alike allow bs (type_ruled seen t)

  type_alike : (piece : List ℕ) (g : M.Prog) → Alike (O.type_feed [] allow g piece) (O.type_feed seen allow g piece)
  unfolding O.type_feed
  type_alike [] g = same_feed refl
  type_alike (b ∷ bs) g = also_alike _ _ (byte_alike bs (type_alike bs) (M.fed g b))

  feed_alike : (w : O.OneState) (piece : List ℕ) → Alike (O.feed [] allow w piece) (O.feed seen allow w piece)
  unfolding O.feed
  feed_alike (O.in_stream_type g) piece = type_alike piece g
  feed_alike (O.in_control s) piece = same_feed refl
  feed_alike (O.in_qpack q) piece = same_feed refl
  feed_alike O.in_skipped piece = same_feed refl

heard_alike : (k : Keeps) (u h : ℕ) (e : O.OneEvent) (o : O.OneOutcome) → Like streams (alone_by u h e o) (heard_by k u h e o)
unfolding alone_by heard_by
heard_alike k u h e (O.lives s) = goes_alike
heard_alike k u h e (O.dies code) = faults_alike

second_heard : (k : Keeps) (u h : ℕ) (e : O.OneEvent) (x : Fed O.OneState) → Like streams x (heard_by k u h e (O.dies (of_connection stream_creation_error)))
unfolding heard_by conn_code
second_heard k u h e x = second

like_of : (k : Keeps) (f x : O.OneFeeding) → Alike f x → Like streams (alone_by f.used f.heads f.event f.after) (heard_by k x.used x.heads x.event x.after)
like_of k f x (same_feed e) = rw e (heard_alike k x.used x.heads x.event x.after)
like_of k f x (second_of_type e) = rw e (second_heard k x.used x.heads x.event (alone_by f.used f.heads f.event f.after))

pub like : (k : Keeps) (w : O.OneState) (allow : ℕ) (piece : List ℕ) → Like streams (alone_of w allow piece) (streams.feed₁ k w allow piece)
like k w allow piece = like_of k (O.feed [] allow w piece) (O.feed (types_in k) allow w piece) (feed_alike (types_in k) allow w piece)

-- A ONE-WAY STREAM BY ITSELF
abbrev pub alone : ByItself streams
alone = record { alone₁ = alone_of; like = like }

-- ---- what the control stream reported is kept

unfoldable pub told_by : O.OneState → Option Control
told_by (O.in_stream_type g) = none
told_by (O.in_control s) = some (place_in s)
told_by (O.in_qpack q) = none
told_by O.in_skipped = none

abbrev StepsOn : (k : Keeps) (w : O.OneState) (k' : Keeps) (w' : O.OneState) → Type 0
StepsOn k w k' w' = Steps streams Control (λ k. k.said) (λ k. k.control) told_by k w k' w'

-- an outcome that is no control stream; one that is nothing else
abbrev NoControl : O.OneOutcome → Type 0
NoControl (O.lives (O.in_stream_type g)) = Unit {0}
NoControl (O.lives (O.in_control s)) = ⊥
NoControl (O.lives (O.in_qpack q)) = Unit {0}
NoControl (O.lives O.in_skipped) = Unit {0}
NoControl (O.dies code) = Unit {0}

abbrev OnlyControl : O.OneOutcome → Type 0
OnlyControl (O.lives (O.in_stream_type g)) = ⊥
OnlyControl (O.lives (O.in_control s)) = Unit {0}
OnlyControl (O.lives (O.in_qpack q)) = ⊥
OnlyControl (O.lives O.in_skipped) = ⊥
OnlyControl (O.dies code) = Unit {0}

controlled_only : (o : M.Outcome Control) → OnlyControl (O.controlled o)
unfolding O.controlled
controlled_only (M.lives s) = tt
controlled_only (M.dies code) = tt

control_only : (seen : List ℕ) (allow : ℕ) (s : M.State Control) (piece : List ℕ) → OnlyControl (O.feed seen allow (O.in_control s) piece).after
unfolding O.feed O.of_control
control_only seen allow s piece = controlled_only (F.feed control allow s piece).after

qpack_none : (q : Qpack) (piece : List ℕ) → NoControl (O.qpack_feed q piece).after
unfolding O.qpack_feed O.halt
qpack_none q [] = tt
qpack_none q (b ∷ bs) = tt

-- where a control stream has come, no other is one
no_control : (seen : List ℕ) → is_one_of seen 0 ≡ true → (o : O.OneOutcome) → Unseen seen o → NoControl o
unfolding is_for type_number
no_control seen h (O.lives (O.in_stream_type g)) u = tt
no_control seen h (O.lives (O.in_control s)) u = true≢false (sym h ∙ (unfold is_for type_number in (u as_control refl)))
no_control seen h (O.lives (O.in_qpack q)) u = tt
no_control seen h (O.lives O.in_skipped) u = tt
no_control seen h (O.dies code) u = tt

control_seen : (k : Keeps) → k.control ≡ true → is_one_of (types_in k) 0 ≡ true
unfolding types_in came is_one_of
control_seen k e = rw e refl

still_none : (k : Keeps) (w s : O.OneState) → told_by w ≡ none → NoControl (O.lives s) → StepsOn k w (kept_by k s) s
unfolding told_by kept_by
still_none k w (O.in_stream_type g) t c = tells_nothing t (unfold told_by in refl) refl refl
still_none k w (O.in_control s) t c = absurd c
still_none k w (O.in_qpack encoder) t c = tells_nothing t (unfold told_by in refl) refl refl
still_none k w (O.in_qpack decoder) t c = tells_nothing t (unfold told_by in refl) refl refl
still_none k w O.in_skipped t c = tells_nothing t (unfold told_by in refl) refl refl

tells_more : (k : Keeps) (s₀ : M.State Control) (s : O.OneState) → OnlyControl (O.lives s) → StepsOn k (O.in_control s₀) (kept_by k s) s
unfolding told_by kept_by
tells_more k s₀ (O.in_stream_type g) c = absurd c
tells_more k s₀ (O.in_control s) c = tells_on (place_in s₀) (unfold told_by in refl) refl (unfold told_by in refl)
tells_more k s₀ (O.in_qpack q) c = absurd c
tells_more k s₀ O.in_skipped c = absurd c

-- a stream whose type has come now
typed_steps : (k : Keeps) (g : M.Prog) (x : Bool) → k.control ≡ x → (s : O.OneState) → (k.control ≡ true → NoControl (O.lives s)) → StepsOn k (O.in_stream_type g) (kept_by k s) s
unfolding told_by kept_by
typed_steps k g true e s c = still_none k (O.in_stream_type g) s (unfold told_by in refl) (c e)
typed_steps k g false e (O.in_stream_type g') c = unfold kept_by in still_none k (O.in_stream_type g) (O.in_stream_type g') (unfold told_by in refl) tt
typed_steps k g false e (O.in_control s) c = becomes e refl (unfold told_by in refl)
typed_steps k g false e (O.in_qpack q) c = unfold kept_by in still_none k (O.in_stream_type g) (O.in_qpack q) (unfold told_by in refl) tt
typed_steps k g false e O.in_skipped c = unfold kept_by in still_none k (O.in_stream_type g) O.in_skipped (unfold told_by in refl) tt

steps_by : (k : Keeps) (w : O.OneState) (allow : ℕ) (piece : List ℕ) (s : O.OneState) → (O.feed (types_in k) allow w piece).after ≡ O.lives s → StepsOn k w (kept_by k s) s
unfolding O.feed
steps_by k (O.in_stream_type g) allow piece s e =
    typed_steps k g k.control refl s (λ c. subst NoControl e (unfold O.feed in no_control (types_in k) (control_seen k c) (O.type_feed (types_in k) allow g piece).after (type_unseen (types_in k) allow piece g)))
steps_by k (O.in_control s₀) allow piece s e = tells_more k s₀ s (subst OnlyControl e (unfold O.feed in control_only (types_in k) allow s₀ piece))
steps_by k (O.in_qpack q) allow piece s e = still_none k (O.in_qpack q) s (unfold told_by in refl) (subst NoControl e (unfold O.feed in qpack_none q piece))
steps_by k O.in_skipped allow piece s e = still_none k O.in_skipped s (unfold told_by in refl) (subst NoControl e (unfold O.feed O.kind_feed in tt))

heard_goes : (k : Keeps) (u₀ h₀ : ℕ) (e₀ : O.OneEvent) (o : O.OneOutcome) {u h : ℕ} {e : Event} {y : Both streams} → heard_by k u₀ h₀ e₀ o ≡ goes u h e y
    → (s : O.OneState) × (o ≡ O.lives s) × (record { state = s; kept = kept_by k s } ≡ y)
unfolding heard_by
heard_goes k u₀ h₀ e₀ (O.lives s) q = (s, refl, cc)
heard_goes k u₀ h₀ e₀ (O.dies code) q = let z : ◌≡◌ {A = ℕ} 0 1 = cc in absurd (omega arith)

pub steps : (k : Keeps) (w : O.OneState) (allow : ℕ) (piece : List ℕ) (u h : ℕ) (e : Event) (y : Both streams) → streams.feed₁ k w allow piece ≡ goes u h e y → StepsOn k w y.kept y.state
steps k w allow piece u h e y q =
    let f = O.feed (types_in k) allow w piece in
    let g = heard_goes k f.used f.heads f.event f.after q in
    subst (λ y. StepsOn k w y.kept y.state) g.2 (steps_by k w allow piece g.0 g.1)

pub untold : told_by streams.untyped ≡ none
unfolding told_by
untold = refl
