-- The invariant of the pair, and that every call keeps it. Assumes nothing.
use Rattle.std.specs.Prelude.{◌≡◌, ℕ, ◌+◌, ◌<◌, ◌≤◌, length}
use Rattle.std.proofs.Math.Path.{refl}
use Rattle.std.proofs.Common.{sym, ◌∙◌}
use Rattle.std.proofs.Math.Decide.{ℕ_discrete}
use native.Mathlib.Omega.{arith}
use mathlib.Core.List.{List, [], ◌∷◌}
use Rattle.std.proofs.Math.Option.{Option, none, some, none-ne-some, some-injective}
use Rattle.rules.specs.Calls.{Machine, Kind, request, one_way, kind_of, Stream, free, held, Row, Conn, Pair, Call, Answer, next_of, spend, killed, keeping, limited, find, put, fresh, first, call, run}
use Rattle.traces.specs.Row.{Distinct, Seated, find_put_other, find_free_other, find_free_same, distinct_held, distinct_free, length_put, find_seat_other, distinct_seat, length_seat, find_empty, distinct_empty}
use Rattle.traces.specs.Went.{pair, Went, restarted, still_dead, by_house, barring, faulting, dying, opening, stepping, leaving, sending, went}

-- the ID was opened, or its opening barred: it is below the next of its kind
pub record Spent {M : Machine} (c : Conn M) (id : ℕ) : Type 0 where
  pub kind : Kind
  pub is : kind_of id ≡ some kind
  pub low : id < next_of kind c

pub record Sound {M : Machine} (p : Pair M) : Type 0 where
  pub size : length p.row ≡ 24
  pub distinct : Distinct p.row
  pub below : (id : ℕ) (s : Stream M) → find id p.row ≡ some s → Spent p.conn id

module _ {M : Machine} where
  pub next_grows : (k j : Kind) (c : Conn M) → next_of j c ≤ next_of j (spend k c)
  unfolding next_of spend
  next_grows request request c = omega arith
  next_grows request one_way c = omega arith
  next_grows one_way request c = omega arith
  next_grows one_way one_way c = omega arith

  pub next_spent : (k : Kind) (c : Conn M) → next_of k (spend k c) ≡ next_of k c + 4
  unfolding next_of spend
  next_spent request c = refl
  next_spent one_way c = refl

  pub spent_spend : (k : Kind) (c : Conn M) (id : ℕ) → Spent c id → Spent (spend k c) id
  spent_spend k c id s = record { kind = s.kind; is = s.is; low = omega (arith, next_grows k s.kind c, s.low) }

  -- the other ways to alter a connection record leave the next IDs
  pub next_keeping : (j : Kind) (k : M.Kept) (c : Conn M) → next_of j (keeping k c) ≡ next_of j c
  unfolding next_of keeping
  next_keeping request k c = refl
  next_keeping one_way k c = refl

  pub next_limited : (j : Kind) (l : ℕ) (c : Conn M) → next_of j (limited l c) ≡ next_of j c
  unfolding next_of limited
  next_limited request l c = refl
  next_limited one_way l c = refl

  pub next_killed : (j : Kind) (k : _) (c : Conn M) → next_of j (killed k c) ≡ next_of j c
  unfolding next_of killed
  next_killed request k c = refl
  next_killed one_way k c = refl

  pub spent_as : (c d : Conn M) → ((j : Kind) → next_of j d ≡ next_of j c) → (id : ℕ) → Spent c id → Spent d id
  spent_as c d e id s = record { kind = s.kind; is = s.is; low = rw (e s.kind) s.low }

  -- the next ID of a kind is not in the row
  pub next_absent : (p : Pair M) → Sound p → (id : ℕ) (k : Kind) → kind_of id ≡ some k → id ≡ next_of k p.conn → find id p.row ≡ none
  next_absent p i id k e n = go (find id p.row) refl
    where
      clash : (s : Stream M) → Spent p.conn id → ⊥
      clash s t =
          let q : k ≡ t.kind = some-injective k t.kind (sym e ∙ t.is) in
          let l : id < next_of k p.conn = rw q t.low in
          omega arith

      go : (o : Option (Stream M)) → find id p.row ≡ o → find id p.row ≡ none
      go none q = q
      go (some s) q = absurd (clash s (i.below id s q))

  pub sound_fresh : Sound (fresh {M = M})
  unfolding fresh
  sound_fresh = record { size = refl; distinct = distinct_empty 24; below = λ id s h. absurd (none-ne-some s (sym (find_empty 24 id) ∙ h)) }

  sound_free : (p : Pair M) (id : ℕ) → Sound p → Sound (pair p.conn (put id free p.row))
  sound_free p id i = record {
    size = length_put id free p.row ∙ i.size;
    distinct = distinct_free id i.distinct;
    below = λ j t h. go j t h (ℕ_discrete id j);
  }
    where
      go : (j : ℕ) (t : Stream M) → find j (put id free p.row) ≡ some t → Dec (id ≡ j) → Spent p.conn j
      go j t h (yes e) = absurd (none-ne-some t (sym (find_free_same id i.distinct) ∙ (rw (← e) at h)))
      go j t h (no n) = i.below j t (sym (find_free_other id j n p.row) ∙ h)

  sound_put : (p : Pair M) (id : ℕ) (s t : Stream M) (k : M.Kept) → find id p.row ≡ some s → Sound p → Sound (pair (keeping k p.conn) (put id (held id t) p.row))
  sound_put p id s t k f i = record {
    size = length_put id (held id t) p.row ∙ i.size;
    distinct = distinct_held id t i.distinct;
    below = λ j x h. spent_as p.conn (keeping k p.conn) (λ m. next_keeping m k p.conn) j (go j x h (ℕ_discrete id j));
  }
    where
      go : (j : ℕ) (x : Stream M) → find j (put id (held id t) p.row) ≡ some x → Dec (id ≡ j) → Spent p.conn j
      go j x h (yes e) = i.below j s (rw (← e) f)
      go j x h (no n) = i.below j x (sym (find_put_other id j t n p.row) ∙ h)

  sound_seat : (p : Pair M) (id : ℕ) (k : Kind) (row : Row M) → kind_of id ≡ some k → id ≡ next_of k p.conn → Seated (held id (first k)) p.row row
      → Sound p → Sound (pair (spend k p.conn) row)
  sound_seat p id k row e n q i = record {
    size = length_seat q ∙ i.size;
    distinct = distinct_seat q (next_absent p i id k e n) i.distinct;
    below = λ j x h. go j x h (ℕ_discrete id j);
  }
    where
      go : (j : ℕ) (x : Stream M) → find j row ≡ some x → Dec (id ≡ j) → Spent (spend k p.conn) j
      go j x h (yes d) = record { kind = k; is = rw (← d) e; low = omega (arith, next_spent k p.conn) }
      go j x h (no m) = spent_spend k p.conn j (i.below j x (sym (find_seat_other q j m) ∙ h))

  sound_conn : (p : Pair M) (c : Conn M) → ((j : Kind) → next_of j c ≡ next_of j p.conn) → Sound p → Sound (pair c p.row)
  sound_conn p c e i = record { size = i.size; distinct = i.distinct; below = λ j x h. spent_as p.conn c e j (i.below j x h) }

  sound_went : (p p' : Pair M) (c : Call M) (a : Answer) → Sound p → Went p c a p' → Sound p'
  sound_went p p' c a i restarted = sound_fresh
  sound_went p p' c a i (still_dead e) = i
  sound_went p p' c a i (by_house e) = i
  sound_went p p' c a i (barring {k = k} e k' n l b) = record { size = i.size; distinct = i.distinct; below = λ j x h. spent_spend k p.conn j (i.below j x h) }
  sound_went p p' c a i (faulting {id = id} e f) = sound_free p id i
  sound_went p p' c a i (dying {k = k} e f) = sound_conn p (killed k p.conn) (λ j. next_killed j k p.conn) i
  sound_went p p' c a i (opening {id = id} {k = k} {row = row} e k' n l b q) = sound_seat p id k row k' n q i
  sound_went p p' c a i (stepping {id = id} {s = s} x e f w) = sound_put p id s x.stream x.kept f i
  sound_went p p' c a i (leaving {id = id} e f) = sound_free p id i
  sound_went p p' c a i (sending {id = id} e g l) = sound_conn p (limited id p.conn) (λ j. next_limited j id p.conn) i

  pub sound_call : (c : Call M) (p : Pair M) → Sound p → Sound (call c p).after
  sound_call c p i = sound_went p (call c p).after c (call c p).answer i (went c p)

  pub sound_run : (cs : List (Call M)) (p : Pair M) → Sound p → Sound (run p cs)
  unfolding run
  sound_run [] p i = i
  sound_run (c ∷ cs) p i = sound_run cs (call c p).after (sound_call c p i)
