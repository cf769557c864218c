-- TYPES THAT COME ONCE: of two one-way streams of a trace that run no two have shown the same; and one is refused as the second of its type, before it
-- has shown it, only where another that runs has. Assumes nothing.
use Rattle.std.specs.Prelude.{◌≡◌, ℕ, List, [], ◌∷◌, ◌++◌, Bool, true, false, ◌↔◌, ◌⊎◌, take}
use Rattle.std.proofs.Math.Path.{refl}
use Rattle.std.proofs.Common.{sym, ap, ◌∙◌, subst, arith, true≢false, inl, inr}
use Rattle.std.proofs.Math.Decide.{ℕ_discrete}
use Rattle.std.proofs.Math.Option.{Option, none, some, none-ne-some, some-injective}
use Rattle.rules.specs.Numbers.{ConnectionFault, stream_creation_error, of_stream, of_connection, Code}
use Rattle.rules.specs.Text.{is_one_of}
use Rattle.rules.specs.Control.{Control, control}
use Rattle.rules.specs.OneWay as W
use Rattle.rules.specs.OneWay.{encoder, decoder}
use Rattle.meaning.specs.Machine as M
use Rattle.meaning.specs.Feed as F
use Rattle.meaning.specs.OneWayFeed as O
use Rattle.meaning.specs.OneWayFirst.{Struck}
use Rattle.rules.specs.Calls.{Fed, goes, faults, Own, feed, section, end, reset, Out, refuse, step, leave, fault, of_fed, of_closed, map_out, act, act₁, Kind, request, one_way, kind_of, Stream, asking, telling, free, held, Pair, Held, Call, start, open', on, goaway, Answer, code, Entry, spend, keeping, killed, limited, find, put, same, with, faulted, settle, act_on, fresh, first, call, run, trace}
use Rattle.rules.specs.Shown.{running, View, view}
use Rattle.traces.specs.Row.{find_put_same, find_put_other, find_free_other, find_free_same, find_seat_same, find_seat_other, find_empty}
use Rattle.traces.specs.Went.{Alive, pair, Went, restarted, still_dead, by_house, barring, faulting, dying, opening, stepping, leaving, sending, went}
use Rattle.traces.specs.Sound.{Sound, next_absent, sound_call, sound_run, sound_fresh}
use Rattle.traces.specs.Alone.{call_on, dead_stays}
use Rattle.traces.specs.Story.{Asks, asks, Story, story}
use Rattle.traces.specs.Follow.{Agrees, open_still, over, agrees, not_running}
use Rattle.traces.specs.Oneways.{Both, Says, says, Story₁, story₁, follows₁}
use Rattle.meaning.specs.NumberLaws.{OfConnection}
use Rattle.demands.specs.Codes.{one_way_listed}
use Rattle.demands.specs.Streams.{Keeps, kept_by, came, types_in, heard_by, close_of, streams}
use Rattle.demands.specs.Becomes.{Once, as_control, as_encoder, as_decoder, is_for, type_number, Unseen, type_unseen}
use Rattle.demands.specs.Moves.{alone}
use Rattle.demands.specs.OneWayReads.{type_shown, type_shown_lem, creation_by}
use Rattle.demands.specs.Only.{not_held, held_is_running}

-- ---- what is kept, and what a stream is

unfoldable pub has : Once → Keeps → Bool
has as_control k = k.control
has as_encoder k = k.encoder
has as_decoder k = k.decoder

unfoldable stream_is : Stream streams → Option Once
stream_is (asking r) = none
stream_is (telling w) = is_for w

-- a stream in the row that is for this type
record Holds (p : Pair streams) (c : Once) : Type 0 where
  id : ℕ
  stream : Stream streams
  found : find id p.row ≡ some stream
  is : stream_is stream ≡ some c

record Typed (p : Pair streams) : Type 0 where
  has_first : (c : Once) → has c p.conn.kept ≡ true → Holds p c
  counts : (c : Once) → Holds p c → has c p.conn.kept ≡ true
  once : (c : Once) (v w : Holds p c) → v.id ≡ w.id

-- the types that are kept, as numbers
abbrev ThreeAgree : (k : Keeps) → Type 0
ThreeAgree k = (is_one_of (types_in k) 0 ≡ k.control) × ((is_one_of (types_in k) 2 ≡ k.encoder) × (is_one_of (types_in k) 3 ≡ k.decoder))

three_agree : (a b d : Bool) (said : Control) → ThreeAgree (record { control = a; encoder = b; decoder = d; said = said })
unfolding is_one_of types_in came
three_agree true true true s = (refl, (refl, refl))
three_agree true true false s = (refl, (refl, refl))
three_agree true false true s = (refl, (refl, refl))
three_agree true false false s = (refl, (refl, refl))
three_agree false true true s = (refl, (refl, refl))
three_agree false true false s = (refl, (refl, refl))
three_agree false false true s = (refl, (refl, refl))
three_agree false false false s = (refl, (refl, refl))

one_of : (k : Keeps) (c : Once) → is_one_of (types_in k) (type_number c) ≡ has c k
unfolding type_number has
one_of k as_control = (three_agree k.control k.encoder k.decoder k.said).0
one_of k as_encoder = (three_agree k.control k.encoder k.decoder k.said).1.0
one_of k as_decoder = (three_agree k.control k.encoder k.decoder k.said).1.1

unseen_has : (k : Keeps) (c : Once) (X : Type 0) → X ⊎ (is_one_of (types_in k) (type_number c) ≡ false) → X ⊎ (has c k ≡ false)
unseen_has k c X (inl x) = inl x
unseen_has k c X (inr e) = inr (sym (one_of k c) ∙ e)

-- ---- one stream's step

record Follows (k : Keeps) (s : Stream streams) (y : Held streams) : Type 0 where
  new : (c : Once) → has c y.kept ≡ true → (stream_is y.stream ≡ some c) ⊎ (has c k ≡ true)
  keeps : (c : Once) → stream_is s ≡ some c → stream_is y.stream ≡ some c
  grows : (c : Once) → has c k ≡ true → has c y.kept ≡ true
  becomes : (c : Once) → stream_is y.stream ≡ some c → has c y.kept ≡ true
  only : (c : Once) → stream_is y.stream ≡ some c → (stream_is s ≡ some c) ⊎ (has c k ≡ false)

abbrev Next : (k : Keeps) (s : Stream streams) → Out (Held streams) → Type 0
Next k s (refuse h) = Unit {0}
Next k s (step g y) = Follows k s y
Next k s (leave l) = stream_is s ≡ none
Next k s (fault (of_stream c) u h) = stream_is s ≡ none
Next k s (fault (of_connection c) u h) = Unit {0}

asks_next : (k : Keeps) (r : streams.Request) (x : Out streams.Request) → Next k (asking r) (map_out (λ x. record { stream = asking x; kept = k }) x)
unfolding map_out stream_is
asks_next k r (refuse h) = tt
asks_next k r (step g r') = record { new = λ c h. inr h; keeps = λ c e. absurd (none-ne-some c e); grows = λ c h. h; becomes = λ c e. absurd (none-ne-some c e); only = λ c e. absurd (none-ne-some c e) }
asks_next k r (leave l) = refl
asks_next k r (fault (of_stream c) u h) = refl
asks_next k r (fault (of_connection c) u h) = tt

kept_new : (k : Keeps) (s : O.OneState) (c : Once) → has c (kept_by k s) ≡ true → (is_for s ≡ some c) ⊎ (has c k ≡ true)
unfolding has kept_by is_for
kept_new k (O.in_stream_type g) c h = inr h
kept_new k (O.in_control s) as_control h = inl refl
kept_new k (O.in_control s) as_encoder h = inr h
kept_new k (O.in_control s) as_decoder h = inr h
kept_new k (O.in_qpack encoder) as_control h = inr h
kept_new k (O.in_qpack encoder) as_encoder h = inl refl
kept_new k (O.in_qpack encoder) as_decoder h = inr h
kept_new k (O.in_qpack decoder) as_control h = inr h
kept_new k (O.in_qpack decoder) as_encoder h = inr h
kept_new k (O.in_qpack decoder) as_decoder h = inl refl
kept_new k O.in_skipped c h = inr h

kept_grows : (k : Keeps) (s : O.OneState) (c : Once) → has c k ≡ true → has c (kept_by k s) ≡ true
unfolding has kept_by
kept_grows k (O.in_stream_type g) c h = h
kept_grows k (O.in_control s) as_control h = refl
kept_grows k (O.in_control s) as_encoder h = h
kept_grows k (O.in_control s) as_decoder h = h
kept_grows k (O.in_qpack encoder) as_control h = h
kept_grows k (O.in_qpack encoder) as_encoder h = refl
kept_grows k (O.in_qpack encoder) as_decoder h = h
kept_grows k (O.in_qpack decoder) as_control h = h
kept_grows k (O.in_qpack decoder) as_encoder h = h
kept_grows k (O.in_qpack decoder) as_decoder h = refl
kept_grows k O.in_skipped c h = h

-- what a stream is for is what is kept of it
kept_so : (k : Keeps) (s : O.OneState) (c d : Once) → is_for s ≡ some d → d ≡ c → has c (kept_by k s) ≡ true
unfolding has kept_by is_for
kept_so k (O.in_stream_type g) c d e q = absurd (none-ne-some d e)
kept_so k (O.in_control s) c d e q = rw (← q, ← (some-injective as_control d e)) refl
kept_so k (O.in_qpack encoder) c d e q = rw (← q, ← (some-injective as_encoder d e)) refl
kept_so k (O.in_qpack decoder) c d e q = rw (← q, ← (some-injective as_decoder d e)) refl
kept_so k O.in_skipped c d e q = absurd (none-ne-some d e)

-- what it is it stays
controlled_stays : (s : O.OneState) (o : M.Outcome Control) → O.controlled o ≡ O.lives s → is_for s ≡ some as_control
unfolding O.controlled is_for
controlled_stays s (M.lives x) e = let z : O.in_control x ≡ s = cc in rw (← z) refl
controlled_stays s (M.dies n) e = let z : ◌≡◌ {A = ℕ} 0 1 = cc in absurd (omega arith)

qpack_stays : (q : W.Qpack) (piece : List ℕ) (s : O.OneState) → (O.qpack_feed q piece).after ≡ O.lives s → O.in_qpack q ≡ s
unfolding O.qpack_feed O.halt
qpack_stays q [] s e = cc
qpack_stays q (b ∷ bs) s e = cc

stays : (seen : List ℕ) (allow : ℕ) (w s : O.OneState) (piece : List ℕ) → (O.feed seen allow w piece).after ≡ O.lives s → (c : Once) → is_for w ≡ some c → is_for s ≡ some c
unfolding O.feed O.of_control is_for
stays seen allow (O.in_stream_type g) s piece e c q = absurd (none-ne-some c q)
stays seen allow (O.in_control x) s piece e c q = controlled_stays s (F.feed control allow x piece).after e ∙ q
stays seen allow (O.in_qpack x) s piece e c q = ap is_for (sym (qpack_stays x piece s e)) ∙ q
stays seen allow O.in_skipped s piece e c q = absurd (none-ne-some c q)

-- what it becomes it was, or none came for it before
turns : (seen : List ℕ) (allow : ℕ) (w s : O.OneState) (piece : List ℕ) → (O.feed seen allow w piece).after ≡ O.lives s → (c : Once) → is_for s ≡ some c → (is_for w ≡ some c) ⊎ (is_one_of seen (type_number c) ≡ false)
unfolding O.feed O.of_control O.kind_feed O.halt is_for
turns seen allow (O.in_stream_type g) s piece e c q = inr (subst (Unseen seen) e (unfold O.feed in type_unseen seen allow piece g) c (unfold is_for in q))
turns seen allow (O.in_control x) s piece e c q = inl (sym (controlled_stays s (F.feed control allow x piece).after e) ∙ q)
turns seen allow (O.in_qpack x) s piece e c q = inl (ap is_for (qpack_stays x piece s e) ∙ q)
turns seen allow O.in_skipped s piece e c q = let z : O.in_skipped ≡ s = cc in absurd (none-ne-some c (ap is_for z ∙ q))

module _ (k : Keeps) (w : O.OneState) where
  fed_next : (u h : ℕ) (e : O.OneEvent) (o : O.OneOutcome) → ((s : O.OneState) → o ≡ O.lives s → (c : Once) → is_for w ≡ some c → is_for s ≡ some c)
      → ((s : O.OneState) → o ≡ O.lives s → (c : Once) → is_for s ≡ some c → (is_for w ≡ some c) ⊎ (has c k ≡ false))
      → ((n : Code) → o ≡ O.dies n → OfConnection n) → Next k (telling w) (map_out (λ (x : Both streams). record { stream = telling x.state; kept = x.kept }) (of_fed (heard_by k u h e o)))
  unfolding heard_by map_out of_fed stream_is
  fed_next u h e (O.lives s) l m d = record { new = λ c z. kept_new k s c z; keeps = λ c z. l s refl c z; grows = λ c z. kept_grows k s c z; becomes = λ c z. kept_so k s c c z refl; only = λ c z. m s refl c z }
  fed_next u h e (O.dies (of_stream n)) l m d = absurd (d (of_stream n) refl)
  fed_next u h e (O.dies (of_connection n)) l m d = tt

close_next : (k : Keeps) (w : O.OneState) → Next k (telling w) (map_out (λ (x : Both streams). record { stream = telling x.state; kept = x.kept }) (of_closed (close_of w)))
unfolding map_out of_closed close_of stream_is is_for
close_next k (O.in_stream_type g) = refl
close_next k (O.in_control s) = tt
close_next k (O.in_qpack q) = tt
close_next k O.in_skipped = refl

nexts : (k : Keeps) (s : Stream streams) (o : Own streams) → Next k s (act_on k s o)
unfolding act_on act₁ map_out
nexts k (asking r) o = asks_next k r (act streams r o)
nexts k (telling w) (feed allow piece) = let f = O.feed (types_in k) allow w piece in fed_next k w f.used f.heads f.event f.after (λ s e. stays (types_in k) allow w s piece e) (λ s e c z. unseen_has k c (is_for w ≡ some c) (turns (types_in k) allow w s piece e c z)) (λ n e. one_way_listed (types_in k) allow w piece n e)
nexts k (telling w) (section b) = tt
nexts k (telling w) end = close_next k w
nexts k (telling w) reset = close_next k w

-- ---- every call

spent_kept : (k : Kind) (p : Pair streams) → (spend k p.conn).kept ≡ p.conn.kept
unfolding spend
spent_kept request p = refl
spent_kept one_way p = refl

first_bare : (k : Kind) (c : Once) → stream_is (first k) ≡ some c → ⊥
unfolding stream_is first is_for
first_bare request c e = none-ne-some c e
first_bare one_way c e = none-ne-some c e

-- the same row, and the same kept
alike : (p p' : Pair streams) → p'.conn.kept ≡ p.conn.kept → ((j : ℕ) (x : Stream streams) (c : Once) → stream_is x ≡ some c → (find j p'.row ≡ some x) ↔ (find j p.row ≡ some x)) → Typed p → Typed p'
alike p p' k f i = record {
  has_first = λ c h. let w = i.has_first c (rw k at h) in record { id = w.id; stream = w.stream; found = (f w.id w.stream c w.is).1 w.found; is = w.is };
  counts = λ c w. rw k (i.counts c (before c w));
  once = λ c v w. i.once c (before c v) (before c w);
}
  where
    before : (c : Once) → Holds p' c → Holds p c
    before c w = record { id = w.id; stream = w.stream; found = (f w.id w.stream c w.is).0 w.found; is = w.is }

as_it_was : (p p' : Pair streams) → p'.conn.kept ≡ p.conn.kept → p'.row ≡ p.row → Typed p → Typed p'
as_it_was p p' k r i = alike p p' k (λ j x c e. rw r (λ z. z, λ z. z)) i

freeing : (p : Pair streams) (id : ℕ) (s : Stream streams) → Sound p → find id p.row ≡ some s → stream_is s ≡ none → Typed p → Typed (pair p.conn (put id free p.row))
freeing p id s d f b i = alike p (pair p.conn (put id free p.row)) refl (λ j x c e. go j x c e (ℕ_discrete id j)) i
  where
    go : (j : ℕ) (x : Stream streams) (c : Once) → stream_is x ≡ some c → Dec (id ≡ j) → (find j (put id free p.row) ≡ some x) ↔ (find j p.row ≡ some x)
    go j x c e (yes q) = (
      λ z. absurd (none-ne-some x (sym (find_free_same id d.distinct) ∙ (rw (← q) at z))),
      λ z. let y : s ≡ x = some-injective s x (sym f ∙ (rw (← q) at z)) in absurd (none-ne-some c (sym b ∙ ap stream_is y ∙ e)),
    )
    go j x c e (no n) = rw (find_free_other id j n p.row) (λ z. z, λ z. z)

module _ (p : Pair streams) (id : ℕ) (s : Stream streams) (y : Held streams) (f : find id p.row ≡ some s) (t : Follows p.conn.kept s y) (i : Typed p) where
  abbrev stepped : Pair streams
  stepped = record { conn = keeping y.kept p.conn; row = put id (held id y.stream) p.row }

  itself : (c : Once) → stream_is y.stream ≡ some c → Holds stepped c
  itself c e = record { id = id; stream = y.stream; found = find_put_same id y.stream s p.row f; is = e }

  old : (c : Once) (w : Holds p c) → Dec (id ≡ w.id) → Holds stepped c
  old c w (yes q) = let z : s ≡ w.stream = some-injective s w.stream (sym f ∙ (rw (← q) at w.found)) in itself c (t.keeps c (ap stream_is z ∙ w.is))
  old c w (no n) = record { id = w.id; stream = w.stream; found = find_put_other id w.id y.stream n p.row ∙ w.found; is = w.is }

  firsts : (c : Once) → (stream_is y.stream ≡ some c) ⊎ (has c p.conn.kept ≡ true) → Holds stepped c
  firsts c (inl e) = itself c e
  firsts c (inr h) = let w = i.has_first c h in old c w (ℕ_discrete id w.id)

  abbrev was : (c : Once) (w : Holds stepped c) → ¬ (id ≡ w.id) → Holds p c
  was c w n = record { id = w.id; stream = w.stream; found = sym (find_put_other id w.id y.stream n p.row) ∙ w.found; is = w.is }

  now : (c : Once) (w : Holds stepped c) → id ≡ w.id → stream_is y.stream ≡ some c
  now c w q =
      let z : y.stream ≡ w.stream = some-injective y.stream w.stream (sym (find_put_same id y.stream s p.row f) ∙ (rw (← q) at w.found)) in
      ap stream_is z ∙ w.is

  counted : (c : Once) (w : Holds stepped c) → Dec (id ≡ w.id) → has c y.kept ≡ true
  counted c w (yes q) = t.becomes c (now c w q)
  counted c w (no n) = t.grows c (i.counts c (was c w n))

  -- beside it there is no other
  no_other : (c : Once) → stream_is y.stream ≡ some c → (w : Holds stepped c) → ¬ (id ≡ w.id) → ⊥
  no_other c e w n = go (t.only c e)
    where
      go : (stream_is s ≡ some c) ⊎ (has c p.conn.kept ≡ false) → ⊥
      go (inl q) = n (i.once c (record { id = id; stream = s; found = f; is = q }) (was c w n))
      go (inr q) = true≢false (sym (i.counts c (was c w n)) ∙ q)

  alone_so : (c : Once) (v w : Holds stepped c) → Dec (id ≡ v.id) → Dec (id ≡ w.id) → v.id ≡ w.id
  alone_so c v w (yes q) (yes r) = sym q ∙ r
  alone_so c v w (yes q) (no n) = absurd (no_other c (now c v q) w n)
  alone_so c v w (no n) (yes r) = absurd (no_other c (now c w r) v n)
  alone_so c v w (no n) (no m) = i.once c (was c v n) (was c w m)

  putting : Typed stepped
  unfolding keeping
  putting = record { has_first = λ c h. firsts c (t.new c (unfold keeping in h)); counts = λ c w. counted c w (ℕ_discrete id w.id); once = λ c v w. alone_so c v w (ℕ_discrete id v.id) (ℕ_discrete id w.id) }

settling : (p : Pair streams) (id : ℕ) (s : Stream streams) → Sound p → find id p.row ≡ some s → Typed p → (x : Out (Held streams)) → Next p.conn.kept s x → Typed (settle id p x).after
unfolding settle same with faulted
settling p id s d f i (refuse h) n = i
settling p id s d f i (step g y) n = putting p id s y f n i
settling p id s d f i (leave l) n = freeing p id s d f n i
settling p id s d f i (fault (of_stream c) u h) n = freeing p id s d f n i
settling p id s d f i (fault (of_connection c) u h) n = as_it_was p (pair (killed c p.conn) p.row) (unfold killed in refl) refl i

nothing_has : (c : Once) → has c (fresh {M = streams}).conn.kept ≡ true → ⊥
unfolding has fresh
nothing_has as_control e = true≢false (sym e)
nothing_has as_encoder e = true≢false (sym e)
nothing_has as_decoder e = true≢false (sym e)

typed_fresh : Typed fresh
unfolding fresh
typed_fresh = record { has_first = λ c h. absurd (nothing_has c (unfold fresh in h)); counts = λ c w. absurd (none-ne-some w.stream (sym (find_empty 24 w.id) ∙ w.found)); once = λ c v w. absurd (none-ne-some w.stream (sym (find_empty 24 w.id) ∙ w.found)) }

seating : (p p' : Pair streams) (c : Call streams) (a : Answer) → ((id : ℕ) (o : Own streams) → c ≡ on id o → ⊥) → Sound p → Went p c a p' → Typed p → Typed p'
seating p p' c a n d restarted i = typed_fresh
seating p p' c a n d (still_dead e) i = i
seating p p' c a n d (by_house e) i = i
seating p p' c a n d (barring {k = k} e k' m l b) i = as_it_was p p' (spent_kept k p) refl i
seating p p' c a n d (faulting {id = id} {o = o} e f) i = absurd (n id o refl)
seating p p' c a n d (dying {id = id} {o = o} e f) i = absurd (n id o refl)
seating p p' c a n d (opening {id = id} {k = k} e k' m l b q) i = alike p p' (spent_kept k p) (λ j x t z. go j x t z (ℕ_discrete id j)) i
  where
    gone : find id p.row ≡ none
    gone = next_absent p d id k k' m

    go : (j : ℕ) (x : Stream streams) (t : Once) → stream_is x ≡ some t → Dec (id ≡ j) → (find j p'.row ≡ some x) ↔ (find j p.row ≡ some x)
    go j x t z (yes r) = (
      λ y. let v : first k ≡ x = some-injective (first k) x (sym (find_seat_same q gone) ∙ (rw (← r) at y)) in absurd (first_bare k t (ap stream_is v ∙ z)),
      λ y. absurd (none-ne-some x (sym gone ∙ (rw (← r) at y))),
    )
    go j x t z (no u) = rw (find_seat_other q j u) (λ z. z, λ z. z)
seating p p' c a n d (stepping {id = id} {o = o} x e f w) i = absurd (n id o refl)
seating p p' c a n d (leaving {id = id} {o = o} e f) i = absurd (n id o refl)
seating p p' c a n d (sending {id = id} e q l) i = as_it_was p p' (unfold limited in refl) refl i

typed_call : (c : Call streams) (p : Pair streams) → Sound p → Typed p → Typed (call c p).after
typed_call start p d i = seating p (call start p).after start (call start p).answer (λ id o e. let z : ◌≡◌ {A = ℕ} 0 1 = cc in omega arith) d (went start p) i
typed_call (open' j) p d i = seating p (call (open' j) p).after (open' j) (call (open' j) p).answer (λ id o e. let z : ◌≡◌ {A = ℕ} 0 1 = cc in omega arith) d (went (open' j) p) i
typed_call (goaway j r) p d i = seating p (call (goaway j r) p).after (goaway j r) (call (goaway j r) p).answer (λ id o e. let z : ◌≡◌ {A = ℕ} 0 1 = cc in omega arith) d (went (goaway j r) p) i
typed_call (on id o) p d i = go p.conn.dead refl
  where
    by : (f : Option (Stream streams)) → p.conn.dead ≡ none → find id p.row ≡ f → Typed (call (on id o) p).after
    by none a e = rw (not_held p id o a e) i
    by (some s) a e = rw (call_on p id s o a e) (settling p id s d e i (act_on p.conn.kept s o) (nexts p.conn.kept s o))

    go : (x : Option ConnectionFault) → p.conn.dead ≡ x → Typed (call (on id o) p).after
    go none a = by (find id p.row) a refl
    go (some k) a = rw (dead_stays (on id o) p k tt a) i

typed_from : (cs : List (Call streams)) (p : Pair streams) → Sound p → Typed p → Typed (run p cs)
unfolding run
typed_from [] p d i = i
typed_from (c ∷ cs) p d i = typed_from cs (call c p).after (sound_call c p d) (typed_call c p d i)

-- ---- a stream in the row, and what a trace shows of it

-- no request is for a type
asked_none : (id : ℕ) (p : Pair streams) (v : View streams) (x : Stream streams) (c : Once) → Alive p → find id p.row ≡ some x → stream_is x ≡ some c → Agrees Asks Story id p v → ⊥
unfolding stream_is
asked_none id p v x c a f e (open_still b (asks {r = r} t) g) = let z : asking r ≡ x = some-injective (asking r) x (sym g ∙ f) in none-ne-some c (unfold stream_is in (ap stream_is z ∙ e))
asked_none id p v x c a f e (over t n) = none-ne-some x (sym (n a) ∙ f)

told_type : (id : ℕ) (p : Pair streams) (v : View streams) (x : Stream streams) → Alive p → find id p.row ≡ some x → Agrees (Says alone) (Story₁ alone) id p v → type_shown (W.one_way_read [] v.shown.bytes) ≡ stream_is x
unfolding stream_is
told_type id p v x a f (open_still b (says {w = w} t) g) = let z : telling w ≡ x = some-injective (telling w) x (sym g ∙ f) in type_shown_lem t ∙ ap stream_is z
told_type id p v x a f (over t n) = absurd (none-ne-some x (sym (n a) ∙ f))

held_by : (id : ℕ) (p : Pair streams) (v : View streams) (c : Once) → v.fate ≡ running → type_shown (W.one_way_read [] v.shown.bytes) ≡ some c → Agrees (Says alone) (Story₁ alone) id p v
    → (x : Stream streams) × ((find id p.row ≡ some x) × (stream_is x ≡ some c))
unfolding stream_is
held_by id p v c e q (open_still b (says {w = w} t) g) = (telling w, (g, sym (type_shown_lem t) ∙ q))
held_by id p v c e q (over {f = f} t n) = absurd (not_running f ((story₁ alone).shut t) e)

-- ---- over traces

abbrev Calls : Type 0
Calls = List (Call streams)

-- a one-way stream of the trace that runs, and whose bytes show this type
pub record First (t : List (Entry streams)) (c : Once) : Type 0 where
  pub id : ℕ
  pub is_one_way : kind_of id ≡ some one_way
  pub runs : (view id t).fate ≡ running
  pub shows : type_shown (W.one_way_read [] (view id t).shown.bytes) ≡ some c

held_first : (cs : Calls) (c : Once) → Alive (run fresh cs) → Holds (run fresh cs) c → First (trace fresh cs) c
held_first cs c a w = let s = (sound_run cs fresh sound_fresh).below w.id w.stream w.found in by s.kind s.is
  where
    by : (k : Kind) → kind_of w.id ≡ some k → First (trace fresh cs) c
    by request q = absurd (asked_none w.id (run fresh cs) (view w.id (trace fresh cs)) w.stream c a w.found w.is (agrees story w.id cs q))
    by one_way q = record { id = w.id; is_one_way = q; runs = held_is_running cs w.id w.stream a w.found; shows = told_type w.id (run fresh cs) (view w.id (trace fresh cs)) w.stream a w.found (follows₁ alone w.id q cs) ∙ w.is }

abbrev first_held : (cs : Calls) (c : Once) → First (trace fresh cs) c → Holds (run fresh cs) c
first_held cs c f =
    let h = held_by f.id (run fresh cs) (view f.id (trace fresh cs)) c f.runs f.shows (follows₁ alone f.id f.is_one_way cs) in
    record { id = f.id; stream = h.0; found = h.1.0; is = h.1.1 }

-- TYPES SEEN: those of the streams that run, and no others
abbrev pub Seen : List (Entry streams) → List ℕ → Type 0
Seen t seen = (c : Once) → (is_one_of seen (type_number c) ≡ true) ↔ First t c

pub kept_seen : (cs : Calls) → Alive (run fresh cs) → Seen (trace fresh cs) (types_in (run fresh cs).conn.kept)
kept_seen cs a c =
    let k = (run fresh cs).conn.kept in
    let i = typed_from cs fresh sound_fresh typed_fresh in
    let o : is_one_of (types_in k) (type_number c) ≡ has c k = one_of k c in
    (λ e. held_first cs c a (i.has_first c (sym o ∙ e)), λ f. o ∙ i.counts c (first_held cs c f))

fed_fault : (id : ℕ) (p : Pair streams) (x : Fed (Both streams)) (u h : ℕ)
    → (settle id p (map_out (λ (x : Both streams). record { stream = telling x.state; kept = x.kept }) (of_fed x))).answer ≡ code (of_connection stream_creation_error) u h → x ≡ faults (of_connection stream_creation_error) u h
unfolding settle map_out of_fed same with faulted
fed_fault id p (goes u' h' e y) u h q = let z : ◌≡◌ {A = ℕ} 0 1 = cc in absurd (omega arith)
fed_fault id p (faults (of_stream k) u' h') u h q = let z : ◌≡◌ {A = ℕ} 0 1 = cc in absurd (omega arith)
fed_fault id p (faults (of_connection k) u' h') u h q = cc

-- its type not yet shown by the bytes before, it is refused as they are where these types came
abbrev pub Second : List (Entry streams) → (before bytes : List ℕ) → Type 0
Second t a b = (type_shown (W.one_way_read [] a) ≡ none) × ((seen : List ℕ) × (Seen t seen × Struck seen (of_connection stream_creation_error) b))

-- for its own bytes' sake, or as a second
abbrev pub IsSecond : List (Entry streams) → (before bytes : List ℕ) → Type 0
IsSecond t a b = Struck [] (of_connection stream_creation_error) b ⊎ Second t a b

second_out : (t : List (Entry streams)) (a b seen : List ℕ) (x : Option Once) → type_shown (W.one_way_read [] a) ≡ x → Seen t seen
    → Struck [] (of_connection stream_creation_error) b ⊎ ((x ≡ none) × Struck seen (of_connection stream_creation_error) b) → IsSecond t a b
second_out t a b seen x z k (inl e) = inl e
second_out t a b seen x z k (inr e) = inr (z ∙ e.0, (seen, (k, e.1)))

second_by : (id : ℕ) (r : List (Entry streams)) (allow u h : ℕ) (piece : List ℕ) (p : Pair streams) (v : View streams) → v.fate ≡ running → (call (on id (feed allow piece)) p).answer ≡ code (of_connection stream_creation_error) u h
    → (Alive p → Seen r (types_in p.conn.kept)) → Agrees (Says alone) (Story₁ alone) id p v → IsSecond r v.shown.bytes (v.shown.bytes ++ take u piece)
unfolding act_on act₁
second_by id r allow u h piece p v e a k (over {f = f} t n) = absurd (not_running f ((story₁ alone).shut t) e)
second_by id r allow u h piece p v e a k (open_still {s = s} l (says {w = w} t) g) =
    let x = streams.feed₁ p.conn.kept w allow piece in
    let z = ap (λ r. r.answer) (call_on p id (telling w) (feed allow piece) l g) in
    second_out r s.bytes (s.bytes ++ take u piece) (types_in p.conn.kept) (is_for w) (type_shown_lem t) (k l) (creation_by s w p.conn.kept allow u h piece t (fed_fault id p x u h (sym z ∙ a)))

-- THE SECOND OF ITS TYPE: a feed of a one-way stream is refused with 0x0103 for its own bytes' sake, or, its type not yet shown, as they are where
-- these types came before: exactly those that streams of the trace which run, others than this, have shown; the last byte consumed brings it
pub second_of_its_type : (id : ℕ) → kind_of id ≡ some one_way → (cs : Calls) (allow u h : ℕ) (piece : List ℕ) → let v = view id (trace fresh cs) in
    v.fate ≡ running → (call (on id (feed allow piece)) (run fresh cs)).answer ≡ code (of_connection stream_creation_error) u h → IsSecond (trace fresh cs) v.shown.bytes (v.shown.bytes ++ take u piece)
second_of_its_type id q cs allow u h piece e a = second_by id (trace fresh cs) allow u h piece (run fresh cs) (view id (trace fresh cs)) e a (λ l. kept_seen cs l) (follows₁ alone id q cs)

-- ONE OF A TYPE: two streams of a trace that run and show the same type of these are one
pub one_of_a_type : (cs : Calls) (c : Once) (f g : First (trace fresh cs) c) → f.id ≡ g.id
one_of_a_type cs c f g = (typed_from cs fresh sound_fresh typed_fresh).once c (first_held cs c f) (first_held cs c g)
