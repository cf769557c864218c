-- FAULTS OF THE BYTES over traces: a one-way stream is refused by a feed only for a fault that the last byte consumed brings, whatever follows, or as
-- the second of its type; otherwise a feed gets on; one that runs has no fault among its bytes; and a fault of the bytes is kept apart from one of closing,
-- for requests too. Calls and answers alone are in the statements. Assumes nothing.
use Rattle.std.specs.Prelude.{◌≡◌, ℕ, zero, suc, ◌≤◌, List, [], ◌∷◌, ◌++◌, ◌⊎◌, length, take}
use Rattle.std.proofs.Math.Path.{refl}
use Rattle.std.proofs.Common.{sym, ap, ◌∙◌, subst, arith, append-nil, inl, inr}
use Rattle.std.proofs.Math.Option.{Option, none, some}
use Rattle.rules.specs.Numbers.{ConnectionFault, stream_creation_error, Code, of_stream, of_connection}
use Rattle.rules.specs.OneWay.{one_way_read}
use Rattle.meaning.specs.OneWayFeed as O
use Rattle.meaning.proofs.OneWays.{one_moves}
use Rattle.meaning.specs.OneWayFirst.{FaultAt, Struck, NoFault}
use Rattle.meaning.proofs.OneWayFirst.{goes_on, one_fault, same_alone}
use Rattle.rules.specs.Calls.{Event, Fed, goes, feed, of_fed, map_out, fed, act₁, request, one_way, kind_of, telling, Pair, Call, on, Answer, gave, code, Entry, with, faulted, settle, act_on, fresh, call, run, trace}
use Rattle.rules.specs.Shown.{Shown, Fate, unopened, spent, running, ended, dropped, refused, lost, View, plus_feed, plus_bytes, mine, view}
use Rattle.traces.specs.Alone.{call_on}
use Rattle.traces.specs.Follow.{Agrees, open_still, over, not_running}
use Rattle.traces.specs.Oneways.{Both, Like, goes_alike, faults_alike, second, Reached₁, at_first, by_feed, Story₁, not_yet, never, cut_off, closed, closed_critical, bad_feed, second_of_type, Says, says, story₁, follows₁}
use Rattle.traces.specs.Progress.{then}
use Rattle.traces.specs.Why as Y
use Rattle.demands.specs.Streams.{Keeps, types_in, streams}
use Rattle.demands.specs.Reading.{reading}
use Rattle.demands.specs.Reads.{reads}
use Rattle.demands.specs.Becomes.{Once}
use Rattle.demands.specs.Moves.{alone_by, alone_of, alone}
use Rattle.demands.specs.OneWayReads.{fault_by, code_for, closes_reached, reads_on, struck_by, unhurt_by, creation_by}
use Rattle.demands.specs.Types.{Second, IsSecond, second_of_its_type}

abbrev Calls : Type 0
Calls = List (Call streams)

-- ---- DEFINITION

-- why a feed refuses a one-way stream that had consumed `before` and now these bytes: the last of them brings the fault, whatever follows; or, its type
-- not shown before, it is the second of a type that may come once
pub data Brought (t : List (Entry streams)) (before : List ℕ) (bytes : List ℕ) : Code → Type 0 where
  of_its_bytes : {k : Code} → Struck [] k bytes → Brought t before bytes k
  as_second : Second t before bytes → Brought t before bytes (of_connection stream_creation_error)

-- WHAT A FEED OF A ONE-WAY STREAM IS ANSWERED: a code only if the bytes consumed brought it; else there is none among them, and with an allowance of at
-- least 1 and a byte they are one or more
pub data Moves₁ (t : List (Entry streams)) (s : Shown streams) (allow : ℕ) (piece : List ℕ) : Answer → Type 0 where
  faulty : {k : Code} {u h : ℕ} → Brought t s.bytes (s.bytes ++ take u piece) k → Moves₁ t s allow piece (code k u h)
  moved : {u h : ℕ} {e : Event} → NoFault [] (s.bytes ++ take u piece) → (1 ≤ allow → 1 ≤ length piece → 1 ≤ u) → Moves₁ t s allow piece (gave (fed u h e))

-- why it was refused: as above, or it was closed, and its bytes have no fault
pub data Why₁ (bytes : List ℕ) : Code → Type 0 where
  by_its_bytes : {k : Code} → Struck [] k bytes → Why₁ bytes k
  after_another : (seen : List ℕ) → Struck seen (of_connection stream_creation_error) bytes → Why₁ bytes (of_connection stream_creation_error)
  by_closing : {k : Code} → NoFault [] bytes → fault_by (one_way_read [] bytes) ≡ some k → Why₁ bytes k

-- a refused stream has its reason; in the bytes of any other, one that runs among them, is no fault
abbrev pub Fares₁ : Fate → List ℕ → Type 0
Fares₁ unopened bytes = NoFault [] bytes
Fares₁ spent bytes = NoFault [] bytes
Fares₁ running bytes = NoFault [] bytes
Fares₁ ended bytes = NoFault [] bytes
Fares₁ dropped bytes = NoFault [] bytes
Fares₁ (refused k) bytes = Why₁ bytes k
Fares₁ lost bytes = NoFault [] bytes

-- ---- a feed

-- by the stream alone: all but who came before
data Stands (s : Shown streams) (allow : ℕ) (piece : List ℕ) : Answer → Type 0 where
  struck : {k : Code} {u h : ℕ} → Struck [] k (s.bytes ++ take u piece) → Stands s allow piece (code k u h)
  not_alone : {u h : ℕ} → Stands s allow piece (code (of_connection stream_creation_error) u h)
  goes_by : {u h : ℕ} {e : Event} → NoFault [] (s.bytes ++ take u piece) → (1 ≤ allow → 1 ≤ length piece → 1 ≤ u) → Stands s allow piece (gave (fed u h e))

alone_uses : (u₀ h₀ : ℕ) (e₀ : O.OneEvent) (o : O.OneOutcome) {u h : ℕ} {e : Event} {w : O.OneState} → alone_by u₀ h₀ e₀ o ≡ goes u h e w → u₀ ≡ u
unfolding alone_by
alone_uses u₀ h₀ e₀ (O.lives s) q = cc
alone_uses u₀ h₀ e₀ (O.dies c) q = let z : ◌≡◌ {A = ℕ} 0 1 = cc in absurd (omega arith)

gets_on : {s : Shown streams} {w : O.OneState} → Reached₁ alone s w → (allow u h : ℕ) (piece : List ℕ) (e : Event) (w' : O.OneState) → alone_of w allow piece ≡ goes u h e w' → 1 ≤ allow → 1 ≤ length piece → 1 ≤ u
gets_on t allow u h [] e w' q l m = absurd (omega arith)
gets_on t zero u h (b ∷ bs) e w' q l m = absurd (omega arith)
gets_on {w = w} t (suc n) u h (b ∷ bs) e w' q l m =
    let f = O.feed [] (suc n) w (b ∷ bs) in
    let z = alone_uses f.used f.heads f.event f.after q in
    let y = one_moves [] n b w bs (reads_on t) in
    omega arith

fed_stands : (id : ℕ) (p : Pair streams) (s : Shown streams) (w : O.OneState) (allow : ℕ) (piece : List ℕ) → Reached₁ alone s w → (x : Fed O.OneState) → alone_of w allow piece ≡ x → (y : Fed (Both streams)) → Like streams x y
    → Stands s allow piece (settle id p (map_out (λ x. record { stream = telling x.state; kept = x.kept }) (of_fed y))).answer
unfolding settle map_out of_fed with faulted plus_feed
fed_stands id p s w allow piece t x q y (goes_alike {u = u} {h = h} {e = e} {w = w'}) = goes_by (unhurt_by (by_feed t q)) (gets_on t allow u h piece e w' q)
fed_stands id p s w allow piece t x q y (faults_alike {u = u} {h = h} {c = of_stream c}) = struck (struck_by s w allow u h piece (of_stream c) t q)
fed_stands id p s w allow piece t x q y (faults_alike {u = u} {h = h} {c = of_connection c}) = struck (struck_by s w allow u h piece (of_connection c) t q)
fed_stands id p s w allow piece t x q y second = not_alone

stands : (id : ℕ) (p : Pair streams) (v : View streams) (allow : ℕ) (piece : List ℕ) → v.fate ≡ running → Agrees (Says alone) (Story₁ alone) id p v → Stands v.shown allow piece (call (on id (feed allow piece)) p).answer
unfolding act_on act₁
stands id p v allow piece e (over {f = f} t n) = absurd (not_running f ((story₁ alone).shut t) e)
stands id p v allow piece e (open_still {s = s} a (says {w = w} t) f) =
    rw (call_on p id (telling w) (feed allow piece) a f) (fed_stands id p s w allow piece t (alone_of w allow piece) refl (streams.feed₁ p.conn.kept w allow piece) (alone.like p.conn.kept w allow piece))

with_others : (t : List (Entry streams)) (s : Shown streams) (allow : ℕ) (piece : List ℕ) (a : Answer) → Stands s allow piece a
    → ((u h : ℕ) → a ≡ code (of_connection stream_creation_error) u h → IsSecond t s.bytes (s.bytes ++ take u piece)) → Moves₁ t s allow piece a
with_others t s allow piece a (struck x) f = faulty (of_its_bytes x)
with_others t s allow piece a (not_alone {u = u} {h = h}) f = by (f u h refl)
  where
    by : IsSecond t s.bytes (s.bytes ++ take u piece) → Moves₁ t s allow piece (code (of_connection stream_creation_error) u h)
    by (inl x) = faulty (of_its_bytes x)
    by (inr x) = faulty (as_second x)
with_others t s allow piece a (goes_by n l) f = moved n l

-- A FEED OF A ONE-WAY STREAM THAT RUNS is answered by a code only if the bytes consumed brought that fault, or as the second of its type; else there is
-- no fault among them; and PROGRESS: with an allowance of at least 1 and a byte, it consumed one or more
pub one_way_progress : (id : ℕ) → kind_of id ≡ some one_way → (cs : Calls) (allow : ℕ) (piece : List ℕ) → let v = view id (trace fresh cs) in
    v.fate ≡ running → Moves₁ (trace fresh cs) v.shown allow piece (call (on id (feed allow piece)) (run fresh cs)).answer
one_way_progress id q cs allow piece e =
    with_others (trace fresh cs) (view id (trace fresh cs)).shown allow piece _ (stands id (run fresh cs) (view id (trace fresh cs)) allow piece e (follows₁ alone id q cs)) (λ u h a. second_of_its_type id q cs allow u h piece e a)

-- ---- a refusal

not_both : {X : Type 0} (k : Code) → running ≡ refused k → X
not_both k e = let z : ◌≡◌ {A = ℕ} 0 1 = cc in absurd (omega arith)

same_code : (j k : Code) → refused j ≡ refused k → j ≡ k
same_code j k e = cc

moved_struck : (t : List (Entry streams)) (s : Shown streams) (allow : ℕ) (piece : List ℕ) (a : Answer) (k : Code) → Moves₁ t s allow piece a → let x = mine (feed allow piece) a s in x.fate ≡ refused k → Brought t s.bytes x.shown.bytes k
unfolding mine plus_bytes
moved_struck t s allow piece a k (faulty {k = j} {u = u} x) e = subst (Brought t s.bytes (s.bytes ++ take u piece)) (same_code j k e) x
moved_struck t s allow piece a k (moved n l) e = not_both k e

-- A REFUSAL OF A ONE-WAY STREAM'S FEED is for a fault of its bytes, which the last one consumed brings, whatever would follow it, or it is the second of
-- its type
pub one_way_of_the_bytes : (id : ℕ) → kind_of id ≡ some one_way → (cs : Calls) → (view id (trace fresh cs)).fate ≡ running → (allow : ℕ) (piece : List ℕ) (k : Code) → let x = then id cs (feed allow piece) in
    x.fate ≡ refused k → Brought (trace fresh cs) (view id (trace fresh cs)).shown.bytes x.shown.bytes k
one_way_of_the_bytes id q cs e allow piece k f = moved_struck (trace fresh cs) (view id (trace fresh cs)).shown allow piece _ k (one_way_progress id q cs allow piece e) f

-- ---- every moment

closed_why : {s : Shown streams} {w : O.OneState} {k : ConnectionFault} → Reached₁ alone s w → streams.close w ≡ some k → fault_by (one_way_read [] s.bytes) ≡ some (of_connection k)
closed_why {k = k} t e = closes_reached t ∙ ap code_for e ∙ unfold code_for in refl

second_why : (k : Keeps) (x : Option Once) (bytes : List ℕ) → Struck [] (of_connection stream_creation_error) bytes ⊎ ((x ≡ none) × Struck (types_in k) (of_connection stream_creation_error) bytes) → Why₁ bytes (of_connection stream_creation_error)
second_why k x bytes (inl y) = by_its_bytes y
second_why k x bytes (inr y) = after_another (types_in k) y.1

fares_story : {f : Fate} {s : Shown streams} → Story₁ alone f s → Fares₁ f s.bytes
unfolding plus_bytes
fares_story not_yet = unhurt_by at_first
fares_story never = unhurt_by at_first
fares_story (cut_off t) = unhurt_by t
fares_story (closed t e) = unhurt_by t
fares_story (closed_critical t e) = by_closing (unhurt_by t) (closed_why t e)
fares_story (bad_feed {s = s} {w = w} {allow = allow} {u = u} {h = h} {piece = piece} {k = k} t e) = by_its_bytes (struck_by s w allow u h piece k t e)
fares_story (second_of_type {s = s} {w = w} {k = k} {allow = allow} {u = u} {h = h} {piece = piece} t e) = second_why k _ (s.bytes ++ take u piece) (creation_by s w k allow u h piece t e)

fares_agrees : {id : ℕ} {p : Pair streams} {v : View streams} → Agrees (Says alone) (Story₁ alone) id p v → Fares₁ v.fate v.shown.bytes
fares_agrees (open_still a (says t) f) = unhurt_by t
fares_agrees (over t n) = fares_story t

-- AT EVERY MOMENT of every trace: a one-way stream that was not refused, one that runs among them, has no fault in its bytes; one that was, was so for a
-- fault that the last byte consumed brings, as the second of its type, or, with no fault in its bytes, for being closed
pub one_way_fares : (id : ℕ) → kind_of id ≡ some one_way → (cs : Calls) → let v = view id (trace fresh cs) in Fares₁ v.fate v.shown.bytes
one_way_fares id q cs = fares_agrees (follows₁ alone id q cs)

-- and so of a request stream: a fault of its bytes is kept apart from one of its end
pub request_fares : (id : ℕ) → kind_of id ≡ some request → (cs : Calls) → let v = view id (trace fresh cs) in Y.Fares reading v.fate v.shown
request_fares id q cs = Y.fares reading reads id q cs

-- ---- any cutting

module _ (k : Code) (x more : List ℕ) (brings : Struck [] k x) where
  abbrev Ends : Fate → Type 0
  Ends f = (f ≡ refused k) × (more ≡ [])

  why_ends : {l : Code} → Why₁ (x ++ more) l → Ends (refused l)
  why_ends {l} (by_its_bytes y) = let z = one_fault [] k l x more brings y in (ap refused (sym z.0), z.1)
  why_ends (after_another seen y) =
      let z = same_alone seen (x ++ more) (of_connection stream_creation_error) k (length x) y (goes_on [] k (length x) x more brings) in
      (ap refused z.0, (one_fault [] k k x more brings (subst (λ n. FaultAt [] k n (x ++ more)) z.1 (goes_on [] k (length x) x more brings))).1)
  why_ends (by_closing n e) = absurd (n k (length x) (goes_on [] k (length x) x more brings))

  fares_ends : (f : Fate) → Fares₁ f (x ++ more) → Ends f
  fares_ends unopened n = absurd (n k (length x) (goes_on [] k (length x) x more brings))
  fares_ends spent n = absurd (n k (length x) (goes_on [] k (length x) x more brings))
  fares_ends running n = absurd (n k (length x) (goes_on [] k (length x) x more brings))
  fares_ends ended n = absurd (n k (length x) (goes_on [] k (length x) x more brings))
  fares_ends dropped n = absurd (n k (length x) (goes_on [] k (length x) x more brings))
  fares_ends (refused l) w = why_ends w
  fares_ends lost n = absurd (n k (length x) (goes_on [] k (length x) x more brings))

-- ANY CUTTING: where bytes bring a fault, every one-way stream, in whatever trace, pieces and allowances, that consumed those bytes or more is refused
-- with that code at that byte
pub one_way_any_cutting : (k : Code) (x more : List ℕ) → Struck [] k x → (id : ℕ) → kind_of id ≡ some one_way → (cs : Calls) → let v = view id (trace fresh cs) in
    v.shown.bytes ≡ x ++ more → (v.fate ≡ refused k) × (v.shown.bytes ≡ x)
one_way_any_cutting k x more b id q cs e =
    let v = view id (trace fresh cs) in
    let z = fares_ends k x more b v.fate (subst (Fares₁ v.fate) e (one_way_fares id q cs)) in
    (z.0, e ∙ ap (λ l. x ++ l) z.1 ∙ append-nil x)

brought_before : (t : List (Entry streams)) (before bytes more : List ℕ) (k : Code) → Struck [] k (bytes ++ more) → {j : Code} → Brought t before bytes j → ((j ≡ k) × (more ≡ [])) ⊎ Second t before bytes
brought_before t before bytes more k b {j} (of_its_bytes y) = inl (one_fault [] j k bytes more y b)
brought_before t before bytes more k b (as_second y) = inr y

-- and none that consumed fewer is refused by a feed, but as the second of its type: if it were, nothing would be lacking
pub one_way_not_before : (k l : Code) (x more : List ℕ) → Struck [] k x → (id : ℕ) → kind_of id ≡ some one_way → (cs : Calls) → (view id (trace fresh cs)).fate ≡ running → (allow : ℕ) (piece : List ℕ) → let w = then id cs (feed allow piece) in
    x ≡ w.shown.bytes ++ more → w.fate ≡ refused l → ((l ≡ k) × (more ≡ [])) ⊎ Second (trace fresh cs) (view id (trace fresh cs)).shown.bytes w.shown.bytes
one_way_not_before k l x more b id q cs e allow piece g f =
    let w = then id cs (feed allow piece) in
    brought_before (trace fresh cs) (view id (trace fresh cs)).shown.bytes w.shown.bytes more k (subst (Struck [] k) g b) (one_way_of_the_bytes id q cs e allow piece l f)
