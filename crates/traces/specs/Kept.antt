-- What the connection keeps is what the one control stream has reported, and there is at most one: requests and other one-way streams leave it
-- alone. Over what is known of a one-way stream's step. Assumes nothing.
use Rattle.std.proofs.Math.Path.{◌≡◌, refl, sym}
use Rattle.std.proofs.Common.{◌∙◌, arith, true≢false}
use Rattle.std.specs.Prelude.{ℕ, Bool, true, false}
use Rattle.std.proofs.Math.Decide.{ℕ_discrete}
use mathlib.Core.List.{List, [], ◌∷◌}
use Rattle.std.proofs.Math.Option.{Option, none, some, none-ne-some, some-injective}
use Rattle.rules.specs.Numbers.{ConnectionFault}
use Rattle.rules.specs.Calls.{Event, Fed, goes, faults, Own, feed, section, end, reset, Gave, Out, refuse, step, leave, fault, of_fed, of_closed, map_out, Machine, act, act₁, Kind, request, one_way, Stream, asking, telling, free, held, Conn, Pair, Held, Call, Answer, spend, killed, keeping, limited, find, put, fresh, first, act_on, call, run}
use Rattle.traces.specs.Row.{find_put_same, find_put_other, find_free_other, find_free_same, find_seat_same, find_seat_other, find_empty}
use Rattle.traces.specs.Went.{pair, Went, restarted, still_dead, by_house, barring, faulting, dying, opening, stepping, leaving, sending, went}
use Rattle.traces.specs.Sound.{Sound, next_absent, sound_call, sound_fresh}
use Rattle.traces.specs.Oneways.{Both}

module _ (M : Machine) (Mirror : Type 0) (mirror : M.Kept → Mirror) (claimed : M.Kept → Bool) (told : M.Oneway → Option Mirror) where
  -- a step of a one-way stream: it reports nothing, or becomes the control stream where none was, or goes on as the control stream
  pub data Steps (k : M.Kept) (w : M.Oneway) (k' : M.Kept) (w' : M.Oneway) : Type 0 where
    tells_nothing : told w ≡ none → told w' ≡ none → mirror k' ≡ mirror k → claimed k' ≡ claimed k → Steps k w k' w'
    becomes : claimed k ≡ false → claimed k' ≡ true → told w' ≡ some (mirror k') → Steps k w k' w'
    tells_on : (m : Mirror) → told w ≡ some m → claimed k' ≡ true → told w' ≡ some (mirror k') → Steps k w k' w'

  -- every control stream in the row has reported what is kept, and there is at most one
  pub record Mirrored (p : Pair M) : Type 0 where
    pub tells : (id : ℕ) (w : M.Oneway) (m : Mirror) → find id p.row ≡ some (telling w) → told w ≡ some m → (m ≡ mirror p.conn.kept) × (claimed p.conn.kept ≡ true)
    pub once : (i j : ℕ) (w v : M.Oneway) (m n : Mirror) → find i p.row ≡ some (telling w) → find j p.row ≡ some (telling v) → told w ≡ some m → told v ≡ some n → i ≡ j

  -- what an accepted call changes of a stream and of what is kept
  data Change (k : M.Kept) : Stream M → Held M → Type 0 where
    of_request : {r r' : M.Request} → Change k (asking r) (record { stream = asking r'; kept = k })
    of_oneway : {w : M.Oneway} {allow u h : ℕ} {piece : List ℕ} {e : Event} {y : Both M} → M.feed₁ k w allow piece ≡ goes u h e y
        → Change k (telling w) (record { stream = telling y.state; kept = y.kept })

  asks_change : (k : M.Kept) (r : M.Request) (g : Gave) (x : Held M) (y : Out M.Request) → map_out (λ x. record { stream = asking x; kept = k }) y ≡ step g x → Change k (asking r) x
  unfolding map_out
  asks_change k r g x (refuse h) e = let z : ◌≡◌ {A = ℕ} 0 1 = cc in absurd (omega arith)
  asks_change k r g x (step g' r') e = let z : record { stream = asking r'; kept = k } ≡ x = cc in rw (← z) of_request
  asks_change k r g x (leave l) e = let z : ◌≡◌ {A = ℕ} 0 1 = cc in absurd (omega arith)
  asks_change k r g x (fault c u h) e = let z : ◌≡◌ {A = ℕ} 0 1 = cc in absurd (omega arith)

  fed_change : (k : M.Kept) (w : M.Oneway) (allow : ℕ) (piece : List ℕ) (g : Gave) (x : Held M) (y : Fed (Both M)) → M.feed₁ k w allow piece ≡ y
      → map_out (λ x. record { stream = telling x.state; kept = x.kept }) (of_fed y) ≡ step g x → Change k (telling w) x
  unfolding map_out of_fed
  fed_change k w allow piece g x (goes u h e y) q z = let c : record { stream = telling y.state; kept = y.kept } ≡ x = cc in rw (← c) (of_oneway q)
  fed_change k w allow piece g x (faults c u h) q z = let o : ◌≡◌ {A = ℕ} 0 1 = cc in absurd (omega arith)

  closes : (k : M.Kept) (w : M.Oneway) (g : Gave) (x : Held M) (y : Option ConnectionFault) → map_out (λ (x : Both M). record { stream = telling x.state; kept = x.kept }) (of_closed y) ≡ step g x → Change k (telling w) x
  unfolding map_out of_closed
  closes k w g x none z = let o : ◌≡◌ {A = ℕ} 0 1 = cc in absurd (omega arith)
  closes k w g x (some c) z = let o : ◌≡◌ {A = ℕ} 0 1 = cc in absurd (omega arith)

  changes : (k : M.Kept) (s : Stream M) (o : Own M) (g : Gave) (x : Held M) → act_on k s o ≡ step g x → Change k s x
  unfolding act_on act₁ map_out
  changes k (asking r) o g x e = asks_change k r g x (act M r o) e
  changes k (telling w) (feed allow piece) g x e = fed_change k w allow piece g x (M.feed₁ k w allow piece) refl e
  changes k (telling w) (section b) g x e = let o : ◌≡◌ {A = ℕ} 0 1 = cc in absurd (omega arith)
  changes k (telling w) end g x e = closes k w g x (M.close w) e
  changes k (telling w) reset g x e = closes k w g x (M.close w) e

  telling_inj : (w v : M.Oneway) → Path (Stream M) (telling w) (telling v) → w ≡ v
  telling_inj w v e = cc

  asks_tells : {X : Type 0} (r : M.Request) (v : M.Oneway) → Path (Stream M) (asking r) (telling v) → X
  asks_tells r v e = let z : ◌≡◌ {A = ℕ} 0 1 = cc in absurd (omega arith)

  -- the row after a record was put back: that record, or one that was there
  data Was (p : Pair M) (id : ℕ) (x : Stream M) (j : ℕ) (s : Stream M) : Type 0 where
    that : id ≡ j → x ≡ s → Was p id x j s
    other : ¬ (id ≡ j) → find j p.row ≡ some s → Was p id x j s

  was_put : (p : Pair M) (id : ℕ) (y x s : Stream M) (j : ℕ) → find id p.row ≡ some y → find j (put id (held id x) p.row) ≡ some s → Was p id x j s
  was_put p id y x s j f e = go (ℕ_discrete id j)
    where
      go : Dec (id ≡ j) → Was p id x j s
      go (yes q) = that q (some-injective x s (sym (find_put_same id x y p.row f) ∙ (rw (← q) at e)))
      go (no n) = other n (sym (find_put_other id j x n p.row) ∙ e)

  module _ (untold : told M.untyped ≡ none)
      (law : (k : M.Kept) (w : M.Oneway) (allow : ℕ) (piece : List ℕ) (u h : ℕ) (e : Event) (y : Both M) → M.feed₁ k w allow piece ≡ goes u h e y → Steps k w y.kept y.state) where
    -- no other control stream beside one that reports
    no_other : (p : Pair M) (id j : ℕ) (w v w' : M.Oneway) (k' : M.Kept) (m n : Mirror) → Mirrored p → find id p.row ≡ some (telling w) → Steps p.conn.kept w k' w'
        → told w' ≡ some m → ¬ (id ≡ j) → find j p.row ≡ some (telling v) → told v ≡ some n → ⊥
    no_other p id j w v w' k' m n i f (tells_nothing a b c d) t ne g q = none-ne-some m (sym b ∙ t)
    no_other p id j w v w' k' m n i f (becomes a b c) t ne g q = true≢false (sym (i.tells j v n g q).1 ∙ a)
    no_other p id j w v w' k' m n i f (tells_on m' a b c) t ne g q = ne (i.once id j w v m' n f g a q)

    tells_put : (p : Pair M) (id : ℕ) (w w' : M.Oneway) (k' : M.Kept) → Mirrored p → find id p.row ≡ some (telling w) → Steps p.conn.kept w k' w'
        → (j : ℕ) (v : M.Oneway) (m : Mirror) → Was p id (telling w') j (telling v) → told v ≡ some m → (m ≡ mirror k') × (claimed k' ≡ true)
    tells_put p id w w' k' i f (tells_nothing a b c d) j v m (that e q) t =
        absurd (none-ne-some m (sym b ∙ (rw (← (telling_inj w' v q)) at t)))
    tells_put p id w w' k' i f (becomes a b c) j v m (that e q) t =
        (some-injective m (mirror k') (sym t ∙ (rw (telling_inj w' v q) at c)), b)
    tells_put p id w w' k' i f (tells_on m' a b c) j v m (that e q) t =
        (some-injective m (mirror k') (sym t ∙ (rw (telling_inj w' v q) at c)), b)
    tells_put p id w w' k' i f (tells_nothing a b c d) j v m (other n g) t = let o = i.tells j v m g t in (o.0 ∙ sym c, d ∙ o.1)
    tells_put p id w w' k' i f (becomes a b c) j v m (other n g) t = absurd (no_other p id j w v w' k' (mirror k') m i f (becomes a b c) c n g t)
    tells_put p id w w' k' i f (tells_on m' a b c) j v m (other n g) t = absurd (no_other p id j w v w' k' (mirror k') m i f (tells_on m' a b c) c n g t)

    once_put : (p : Pair M) (id : ℕ) (w w' : M.Oneway) (k' : M.Kept) → Mirrored p → find id p.row ≡ some (telling w) → Steps p.conn.kept w k' w'
        → (j l : ℕ) (v u : M.Oneway) (m n : Mirror) → Was p id (telling w') j (telling v) → Was p id (telling w') l (telling u) → told v ≡ some m → told u ≡ some n → j ≡ l
    once_put p id w w' k' i f s j l v u m n (that e q) (that d r) a b = sym e ∙ d
    once_put p id w w' k' i f s j l v u m n (that e q) (other d r) a b =
        absurd (no_other p id l w u w' k' m n i f s (rw (← (telling_inj w' v q)) at a) d r b)
    once_put p id w w' k' i f s j l v u m n (other e q) (that d r) a b =
        absurd (no_other p id j w v w' k' n m i f s (rw (← (telling_inj w' u r)) at b) e q a)
    once_put p id w w' k' i f s j l v u m n (other e q) (other d r) a b = i.once j l v u m n q r a b

    old_request : {X : Type 0} (p : Pair M) (id j : ℕ) (r : M.Request) (v : M.Oneway) → (find j p.row ≡ some (telling v) → X) → Was p id (asking r) j (telling v) → X
    old_request p id j r v go (that e q) = asks_tells r v q
    old_request p id j r v go (other n g) = go g

    mirrored_put : (p : Pair M) (id : ℕ) (s : Stream M) (x : Held M) → Mirrored p → find id p.row ≡ some s → Change p.conn.kept s x
        → Mirrored (pair (keeping x.kept p.conn) (put id (held id x.stream) p.row))
    unfolding keeping
    mirrored_put p id s x i f (of_request {r = r} {r' = r'}) = record {
      tells = λ j v m g t. old_request p id j r' v (λ g'. i.tells j v m g' t) (was_put p id (asking r) (asking r') (telling v) j f g);
      once = λ j l v u m n a b c d. old_request p id j r' v (λ a'. old_request p id l r' u (λ b'. i.once j l v u m n a' b' c d) (was_put p id (asking r) (asking r') (telling u) l f b)) (was_put p id (asking r) (asking r') (telling v) j f a);
    }
    mirrored_put p id s x i f (of_oneway {w = w} {allow = allow} {u = u} {h = h} {piece = piece} {e = e} {y = y} q) =
        let st = law p.conn.kept w allow piece u h e y q in
        record {
          tells = λ j v m g t. tells_put p id w y.state y.kept i f st j v m (was_put p id (telling w) (telling y.state) (telling v) j f g) t;
          once = λ j l v u m n a b c d. once_put p id w y.state y.kept i f st j l v u m n
              (was_put p id (telling w) (telling y.state) (telling v) j f a) (was_put p id (telling w) (telling y.state) (telling u) l f b) c d;
        }

    -- a row in which nothing new is found
    mirrored_less : (p p' : Pair M) → p'.conn.kept ≡ p.conn.kept → ((j : ℕ) (v : M.Oneway) (m : Mirror) → told v ≡ some m → find j p'.row ≡ some (telling v) → find j p.row ≡ some (telling v)) → Mirrored p → Mirrored p'
    mirrored_less p p' k back i = record {
      tells = λ j v m g t. rw k (i.tells j v m (back j v m t g) t);
      once = λ j l v u m n a b c d. i.once j l v u m n (back j v m c a) (back l u n d b) c d;
    }

    back_free : (p : Pair M) (id : ℕ) → Sound p → (j : ℕ) (v : M.Oneway) (m : Mirror) → told v ≡ some m → find j (put id free p.row) ≡ some (telling v) → find j p.row ≡ some (telling v)
    back_free p id i j v m t g = go (ℕ_discrete id j)
      where
        go : Dec (id ≡ j) → find j p.row ≡ some (telling v)
        go (yes e) = absurd (none-ne-some (telling v) (sym (find_free_same id i.distinct) ∙ (rw (← e) at g)))
        go (no n) = sym (find_free_other id j n p.row) ∙ g

    first_tells : (k : Kind) (v : M.Oneway) (m : Mirror) → told v ≡ some m → Path (Stream M) (first k) (telling v) → ⊥
    unfolding first
    first_tells request v m t e = asks_tells M.new v e
    first_tells one_way v m t e = none-ne-some m (sym untold ∙ (rw (← (telling_inj M.untyped v e)) at t))

    kept_spend : (k : Kind) (c : Conn M) → (spend k c).kept ≡ c.kept
    unfolding spend
    kept_spend request c = refl
    kept_spend one_way c = refl

    mirrored_fresh : Mirrored fresh
    unfolding fresh
    mirrored_fresh = record {
      tells = λ j v m g t. absurd (none-ne-some (telling v) (sym (find_empty 24 j) ∙ g));
      once = λ j l v u m n a b c d. absurd (none-ne-some (telling v) (sym (find_empty 24 j) ∙ a));
    }

    mirrored_went : (p p' : Pair M) (c : Call M) (a : Answer) → Sound p → Mirrored p → Went p c a p' → Mirrored p'
    unfolding killed limited
    mirrored_went p p' c a i m restarted = mirrored_fresh
    mirrored_went p p' c a i m (still_dead e) = m
    mirrored_went p p' c a i m (by_house e) = m
    mirrored_went p p' c a i m (barring {k = k} e k' n l b) = mirrored_less p p' (kept_spend k p.conn) (λ j v x t g. g) m
    mirrored_went p p' c a i m (faulting {id = id} e f) = mirrored_less p p' refl (back_free p id i) m
    mirrored_went p p' c a i m (dying e f) = mirrored_less p p' refl (λ j v x t g. g) m
    mirrored_went p p' c a i m (opening {id = id} {k = k} {row = row} e k' n l b q) = mirrored_less p p' (kept_spend k p.conn) (λ j v x t g. go j v x t g (ℕ_discrete id j)) m
      where
        go : (j : ℕ) (v : M.Oneway) (x : Mirror) → told v ≡ some x → find j row ≡ some (telling v) → Dec (id ≡ j) → find j p.row ≡ some (telling v)
        go j v x t g (yes d) = absurd (first_tells k v x t (some-injective (first k) (telling v) (sym (find_seat_same q (next_absent p i id k k' n)) ∙ (rw (← d) at g))))
        go j v x t g (no d) = sym (find_seat_other q j d) ∙ g
    mirrored_went p p' c a i m (stepping {id = id} {o = o} {s = s} {g = g} x e f w) = mirrored_put p id s x m f (changes p.conn.kept s o g x w)
    mirrored_went p p' c a i m (leaving {id = id} e f) = mirrored_less p p' refl (back_free p id i) m
    mirrored_went p p' c a i m (sending e g l) = mirrored_less p p' refl (λ j v x t q. q) m

    -- after every schedule
    mirrored_from : (cs : List (Call M)) (p : Pair M) → Sound p → Mirrored p → Mirrored (run p cs)
    unfolding run
    mirrored_from [] p i m = m
    mirrored_from (c ∷ cs) p i m = mirrored_from cs (call c p).after (sound_call c p i) (mirrored_went p (call c p).after c (call c p).answer i m (went c p))

    pub mirrored : (cs : List (Call M)) → Mirrored (run fresh cs)
    mirrored cs = mirrored_from cs fresh sound_fresh mirrored_fresh
