-- The next ID of a kind is the lowest one that no opening of the trace spent: `next` of the five conditions, read from the views.
-- Assumes nothing.
use Rattle.std.specs.Prelude.{◌≡◌, refl, ℕ, ◌+◌, ◌*◌, ◌%◌, ◌<◌, ◌≤◌, ◌↔◌}
use Rattle.std.proofs.Common.{sym, ap, ◌∙◌}
use Rattle.std.proofs.Math.Decide.{ℕ_discrete, dec_lt}
use native.Mathlib.Omega.{arith}
use mathlib.Core.List.{List, [], ◌∷◌}
use Rattle.std.proofs.Math.Option.{none, some, none-ne-some, some-injective}
use Rattle.rules.specs.Numbers.{of_stream, of_connection}
use Rattle.rules.specs.Calls.{whole, freed, Own, feed, section, end, reset, Machine, pick, Kind, request, one_way, kind_of, Conn, Pair, Call, start, open', on, goaway, Answer, gave, left, house, code, next_of, spend, fresh, same, call, run, Entry, trace}
use Rattle.rules.specs.Shown.{Shown, Fate, unopened, spent, running, ended, dropped, refused, lost, View, struck, elsewhere, mine, if_running, opened, unseen, restarted as anew, seen, view_from, view, Ledger, ledger, next_in}
use Rattle.traces.specs.Row.{pick_yes, pick_no}
use Rattle.traces.specs.Went.{Went, restarted, still_dead, by_house, barring, faulting, dying, opening, stepping, leaving, sending, went}
use Rattle.traces.specs.Sound.{next_grows, next_spent, next_keeping, next_limited, next_killed}
use Rattle.traces.specs.Opening.{next_told}

-- an opening was accepted, or refused as barred
abbrev pub Used : Fate → Type 0
Used unopened = ⊥
Used spent = Unit {0}
Used running = Unit {0}
Used ended = Unit {0}
Used dropped = Unit {0}
Used (refused k) = Unit {0}
Used lost = Unit {0}

mod_of : Kind → ℕ
mod_of request = 0
mod_of one_way = 2

apart : request ≡ one_way → ⊥
unfolding mod_of
apart e = let z : ◌≡◌ {A = ℕ} 0 2 = ap mod_of e in omega arith

kind_mod : (k : Kind) (id : ℕ) → kind_of id ≡ some k → id % 4 ≡ mod_of k
unfolding kind_of pick mod_of
kind_mod k id = go (ℕ_discrete (id % 4) 0) (ℕ_discrete (id % 4) 2) k
  where
    go : (d : Dec (id % 4 ≡ 0)) (e : Dec (id % 4 ≡ 2)) (k : Kind) → pick d (some request) (pick e (some one_way) none) ≡ some k → id % 4 ≡ mod_of k
    go (yes p) e request q = p
    go (yes p) e one_way q = absurd (apart (some-injective request one_way q))
    go (no n) (yes p) request q = absurd (apart (sym (some-injective one_way request q)))
    go (no n) (yes p) one_way q = p
    go (no n) (no m) k q = absurd (none-ne-some k q)

four_apart : (k : Kind) (i id : ℕ) → kind_of i ≡ some k → kind_of id ≡ some k → ¬ (i ≡ id) → i ≤ id → i + 4 ≤ id
unfolding mod_of
four_apart request i id p q n l = let a = kind_mod request i p in let b = kind_mod request id q in omega arith
four_apart one_way i id p q n l = let a = kind_mod one_way i p in let b = kind_mod one_way id q in omega arith

data Marked {M : Machine} (k : Kind) (id : ℕ) (c : Conn M) : Fate → Type 0 where
  not_yet : next_of k c ≤ id → Marked k id c unopened
  already : {f : Fate} → Used f → id < next_of k c → Marked k id c f

used_struck : (f : Fate) → Used f → Used (struck f)
unfolding struck
used_struck unopened u = u
used_struck spent u = tt
used_struck running u = tt
used_struck ended u = tt
used_struck dropped u = tt
used_struck (refused k) u = tt
used_struck lost u = tt

abbrev NoOpening : {M : Machine} → Call M → Type 0
NoOpening start = ⊥
NoOpening (open' i) = ⊥
NoOpening (on i o) = Unit {0}
NoOpening (goaway i room) = Unit {0}

module _ {M : Machine} where
  used_mine : (o : Own M) (a : Answer) (s : Shown M) → Used (mine o a s).fate
  unfolding mine
  used_mine (feed allow piece) (gave g) s = tt
  used_mine (feed allow piece) (left l) s = tt
  used_mine (feed allow piece) (house h) s = tt
  used_mine (feed allow piece) (code k u h) s = tt
  used_mine (section b) (gave g) s = tt
  used_mine (section b) (left l) s = tt
  used_mine (section b) (house h) s = tt
  used_mine (section b) (code k u h) s = tt
  used_mine end (gave g) s = tt
  used_mine end (left whole) s = tt
  used_mine end (left freed) s = tt
  used_mine end (house h) s = tt
  used_mine end (code k u h) s = tt
  used_mine reset (gave g) s = tt
  used_mine reset (left l) s = tt
  used_mine reset (house h) s = tt
  used_mine reset (code k u h) s = tt

  used_if : (f : Fate) (s : Shown M) (w : View M) → Used f → Used w.fate → Used (if_running f s w).fate
  unfolding if_running
  used_if unopened s w u v = u
  used_if spent s w u v = tt
  used_if running s w u v = v
  used_if ended s w u v = tt
  used_if dropped s w u v = tt
  used_if (refused k) s w u v = tt
  used_if lost s w u v = tt

  module _ (k : Kind) (id : ℕ) (q : kind_of id ≡ some k) where
    same_next : (c d : Conn M) (f : Fate) → next_of k d ≡ next_of k c → Marked k id c f → Marked k id d f
    same_next c d f e (not_yet l) = not_yet (rw e l)
    same_next c d f e (already u l) = already u (rw e l)

    -- the next IDs grow only by an opening
    steady : (p p' : Pair M) (c : Call M) (a : Answer) → NoOpening c → Went p c a p' → next_of k p'.conn ≡ next_of k p.conn
    steady p p' c a n restarted = absurd n
    steady p p' c a n (still_dead e) = refl
    steady p p' c a n (by_house e) = refl
    steady p p' c a n (barring {id = i} e k' m l b) = absurd n
    steady p p' c a n (faulting e f) = refl
    steady p p' c a n (dying {k = j} e f) = next_killed k j p.conn
    steady p p' c a n (opening {id = i} e k' m l b t) = absurd n
    steady p p' c a n (stepping x e f w) = next_keeping k x.kept p.conn
    steady p p' c a n (leaving e f) = refl
    steady p p' c a n (sending {id = i} e g l) = next_limited k i p.conn

    marked_elsewhere : (c : Conn M) (a : Answer) (v : View M) → Marked k id c v.fate → Marked k id c (elsewhere a v).fate
    unfolding elsewhere
    marked_elsewhere c (gave g) v m = m
    marked_elsewhere c (left l) v m = m
    marked_elsewhere c (house h) v m = m
    marked_elsewhere c (code (of_stream j) u h) v m = m
    marked_elsewhere c (code (of_connection j) u h) v m = go v.fate m
      where
        go : (f : Fate) → Marked k id c f → Marked k id c (struck f)
        go f (not_yet l) = unfold struck in not_yet l
        go f (already u l) = already (used_struck f u) l

    marked_on : (c : Conn M) (o : Own M) (a : Answer) (f : Fate) (s : Shown M) → Marked k id c f → Marked k id c (if_running f s (mine o a s)).fate
    marked_on c o a f s (not_yet l) = unfold if_running in not_yet l
    marked_on c o a f s (already u l) = already (used_if f s (mine o a s) u (used_mine o a s)) l

    -- an opening of another ID
    grown : (j : Kind) (i : ℕ) (c : Conn M) (f : Fate) → kind_of i ≡ some j → i ≡ next_of j c → ¬ (i ≡ id) → Marked k id c f → Marked k id (spend j c) f
    unfolding next_of spend
    grown j i c f e n m (already u l) = already u (omega (arith, next_grows j k c))
    grown j i c f e n m (not_yet l) = not_yet (go j k e n q l)
      where
        go : (j k : Kind) → kind_of i ≡ some j → i ≡ next_of j c → kind_of id ≡ some k → next_of k c ≤ id → next_of k (spend j c) ≤ id
        go request request e n q l = omega (arith, four_apart request i id e q m (omega arith))
        go request one_way e n q l = l
        go one_way request e n q l = l
        go one_way one_way e n q l = omega (arith, four_apart one_way i id e q m (omega arith))

    reached : (j : Kind) (c : Conn M) (f : Fate) → kind_of id ≡ some j → id ≡ next_of j c → Used f → Marked k id (spend j c) f
    reached j c f e n u =
        let z : j ≡ k = some-injective j k (sym e ∙ q) in
        already u (rw (← z) (omega (arith, next_spent j c)))

    marked_opened : (p p' : Pair M) (a : Answer) (v : View M) → Went p (open' id) a p' → Marked k id p.conn v.fate → Marked k id p'.conn (opened a v).fate
    unfolding opened
    marked_opened p p' a v (still_dead e) m = m
    marked_opened p p' a v (by_house e) m = m
    marked_opened p p' a v (barring {k = j} e k' n l b) m = reached j p.conn spent k' n tt
    marked_opened p p' a v (opening {k = j} e k' n l b t) m = reached j p.conn running k' n tt

    marked_other : (p p' : Pair M) (i : ℕ) (a : Answer) (f : Fate) → ¬ (i ≡ id) → Went p (open' i) a p' → Marked k id p.conn f → Marked k id p'.conn f
    marked_other p p' i a f n (still_dead e) m = m
    marked_other p p' i a f n (by_house e) m = m
    marked_other p p' i a f n (barring {k = j} e k' x l b) m = grown j i p.conn f k' x n m
    marked_other p p' i a f n (opening {k = j} e k' x l b t) m = grown j i p.conn f k' x n m

    marked_fresh : Marked k id (fresh {M = M}).conn unopened
    unfolding next_of fresh mod_of
    marked_fresh = not_yet (go k q)
      where
        go : (k : Kind) → kind_of id ≡ some k → next_of k (fresh {M = M}).conn ≤ id
        go request e = omega arith
        go one_way e = let a = kind_mod one_way id e in omega arith

    marked_call : (c : Call M) (p : Pair M) (v : View M) → Marked k id p.conn v.fate → Marked k id (call c p).after.conn (seen id c (call c p).answer v).fate
    unfolding seen pick
    marked_call start p v m = unfold call same anew unseen in marked_fresh
    marked_call (open' i) p v m = go (ℕ_discrete i id)
      where
        go : (d : Dec (i ≡ id)) → Marked k id (call (open' i) p).after.conn (pick d (opened (call (open' i) p).answer v) (elsewhere (call (open' i) p).answer v)).fate
        go (yes e) = rw e (marked_opened p (call (open' id) p).after (call (open' id) p).answer v (went (open' id) p) m)
        go (no n) = marked_elsewhere (call (open' i) p).after.conn (call (open' i) p).answer v (marked_other p (call (open' i) p).after i (call (open' i) p).answer v.fate n (went (open' i) p) m)
    marked_call (on i o) p v m = go (ℕ_discrete i id) (same_next p.conn (call (on i o) p).after.conn v.fate (steady p (call (on i o) p).after (on i o) (call (on i o) p).answer tt (went (on i o) p)) m)
      where
        go : (d : Dec (i ≡ id)) → Marked k id (call (on i o) p).after.conn v.fate
            → Marked k id (call (on i o) p).after.conn (pick d (if_running v.fate v.shown (mine o (call (on i o) p).answer v.shown)) (elsewhere (call (on i o) p).answer v)).fate
        go (yes e) m = marked_on (call (on i o) p).after.conn o (call (on i o) p).answer v.fate v.shown m
        go (no n) m = marked_elsewhere (call (on i o) p).after.conn (call (on i o) p).answer v m
    marked_call (goaway i room) p v m = marked_elsewhere (call (goaway i room) p).after.conn (call (goaway i room) p).answer v
        (same_next p.conn (call (goaway i room) p).after.conn v.fate (steady p (call (goaway i room) p).after (goaway i room) (call (goaway i room) p).answer tt (went (goaway i room) p)) m)

    marked_from : (cs : List (Call M)) (p : Pair M) (v : View M) → Marked k id p.conn v.fate → Marked k id (run p cs).conn (view_from id v (trace p cs)).fate
    unfolding run trace view_from
    marked_from [] p v m = m
    marked_from (c ∷ cs) p v m = marked_from cs (call c p).after (seen id c (call c p).answer v) (marked_call c p v m)

    -- an ID of a kind was used by the trace exactly if it lies below the next of its kind
    pub used_exactly : (cs : List (Call M)) → Used (view id (trace fresh cs)).fate ↔ (id < next_in k (ledger (trace fresh cs)))
    unfolding view unseen
    used_exactly cs = go (view id (trace fresh cs)).fate (marked_from cs fresh unseen marked_fresh)
      where
        go : (f : Fate) → Marked k id (run fresh cs).conn f → Used f ↔ (id < next_in k (ledger (trace fresh cs)))
        go f (not_yet l) = ((λ u. absurd u), (λ h. absurd (omega (arith, next_told k cs))))
        go f (already u l) = ((λ x. rw (← next_told k cs) l), (λ h. u))

-- ---- "the lowest client ID of its kind not yet opened", word for word

pub record Lowest {M : Machine} (k : Kind) (t : List (Entry M)) (id : ℕ) : Type 0 where
  pub is : kind_of id ≡ some k
  pub not_yet : ¬ Used (view id t).fate
  pub lower : (j : ℕ) → kind_of j ≡ some k → j < id → Used (view j t).fate

next_kind : (k : Kind) (l : Ledger) → kind_of (next_in k l) ≡ some k
unfolding kind_of next_in
next_kind request l = let e : (l.requests * 4) % 4 ≡ 0 = omega arith in pick_yes (ℕ_discrete ((l.requests * 4) % 4) 0) _ _ e
next_kind one_way l =
    let e : (l.oneways * 4 + 2) % 4 ≡ 2 = omega arith in
    pick_no (ℕ_discrete ((l.oneways * 4 + 2) % 4) 0) _ _ (λ z. omega arith) ∙ pick_yes (ℕ_discrete ((l.oneways * 4 + 2) % 4) 2) _ _ e

module _ {M : Machine} where
  pub lowest_exactly : (k : Kind) (id : ℕ) (cs : List (Call M)) → ((kind_of id ≡ some k) × (id ≡ next_in k (ledger (trace fresh cs)))) ↔ Lowest k (trace fresh cs) id
  lowest_exactly k id cs = (to, from)
    where
      n : ℕ
      n = next_in k (ledger (trace fresh cs))

      to : (kind_of id ≡ some k) × (id ≡ n) → Lowest k (trace fresh cs) id
      to h = record {
        is = h.0;
        not_yet = λ u. let l : id < n = (used_exactly k id h.0 cs).0 u in omega (arith, h.1);
        lower = λ j e l. (used_exactly k j e cs).1 (omega (arith, h.1));
      }

      from : Lowest k (trace fresh cs) id → (kind_of id ≡ some k) × (id ≡ n)
      from w = (w.is, go (dec_lt id n) (dec_lt n id))
        where
          go : Dec (id < n) → Dec (n < id) → id ≡ n
          go (yes l) d = absurd (w.not_yet ((used_exactly k id w.is cs).1 l))
          go (no m) (yes l) = absurd (let z : n < n = (used_exactly k n (next_kind k (ledger (trace fresh cs))) cs).0 (w.lower n (next_kind k (ledger (trace fresh cs))) l) in omega arith)
          go (no m) (no o) = omega arith
