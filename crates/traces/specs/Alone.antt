-- INDEPENDENCE: a call on one stream touches no other record, and a request stream is what its own calls made of it. Assumes nothing.
use Rattle.std.specs.Prelude.{◌≡◌, ℕ, ◌<◌}
use Rattle.std.proofs.Math.Path.{refl, ap}
use Rattle.std.proofs.Common.{sym, ◌∙◌, subst, arith}
use Rattle.std.proofs.Math.Decide.{ℕ_discrete}
use mathlib.Core.List.{List, [], ◌∷◌, ◌++◌}
use Rattle.std.proofs.Math.Option.{Option, none, some, none-ne-some, some-ne-none, some-injective}
use Rattle.rules.specs.Numbers.{ConnectionFault, Code, of_stream, of_connection}
use Rattle.rules.specs.Calls.{Gave, done, Own, Out, refuse, step, leave, fault, Machine, act, map_out, pick, Kind, request, one_way, kind_of, Stream, asking, held, Conn, Pair, Call, start, open', on, goaway, Answer, gave, left, house, code, next_of, spend, killed, keeping, limited, find, same, with, alive, faulted, act_on, settle, acting, fresh, first, call, run}
use Rattle.traces.specs.Row.{Seated, find_seat_same, find_put_same, find_put_other, find_free_other, find_free_same, find_seat_other}
use Rattle.traces.specs.Went.{Alive, Went, restarted, still_dead, by_house, barring, faulting, dying, opening, stepping, leaving, sending, went}
use Rattle.traces.specs.Sound.{Sound, Spent, next_absent, next_spent, spent_spend, spent_as, next_keeping, next_limited, next_killed, sound_call, sound_run, sound_fresh}

-- ---- the statements' words

abbrev pub Gives : Answer → Type 0
Gives (gave g) = Unit {0}
Gives (left l) = ⊥
Gives (house h) = ⊥
Gives (code k u h) = ⊥

pub no_code : {g : Gave} {k : Code} {u h : ℕ} → code k u h ≡ gave g → ⊥
no_code e = subst Gives (sym e) tt

pub no_house : {g : Gave} {h : _} → house h ≡ gave g → ⊥
no_house e = subst Gives (sym e) tt

-- what a call leaves of a stream by itself
unfoldable pub left_by : {X : Type 0} → X → Out X → Option X
left_by r (refuse h) = some r
left_by r (step g x) = some x
left_by r (leave l) = none
left_by r (fault k u h) = none

module _ {M : Machine} where
  -- a call that is no start and does not name the stream
  abbrev pub Aside : ℕ → Call M → Type 0
  Aside id start = ⊥
  Aside id (open' i) = ¬ (i ≡ id)
  Aside id (on i o) = ¬ (i ≡ id)
  Aside id (goaway i room) = Unit {0}

  abbrev pub NoStart : List (Call M) → Type 0
  NoStart [] = Unit {0}
  NoStart (start ∷ cs) = ⊥
  NoStart (open' i ∷ cs) = NoStart cs
  NoStart (on i o ∷ cs) = NoStart cs
  NoStart (goaway i room ∷ cs) = NoStart cs

  -- the calls of a schedule that are the stream's own
  unfoldable pub own : ℕ → List (Call M) → List (Own M)
  own id [] = []
  own id (start ∷ cs) = own id cs
  own id (open' i ∷ cs) = own id cs
  own id (on i o ∷ cs) = pick (ℕ_discrete i id) (o ∷ own id cs) (own id cs)
  own id (goaway i room ∷ cs) = own id cs

  -- a request stream by itself: no connection, no row
  unfoldable pub alone : Option M.Request → List (Own M) → Option M.Request
  alone x [] = x
  alone none (o ∷ os) = none
  alone (some r) (o ∷ os) = alone (left_by r (act M r o)) os

  unfoldable pub asked : Option M.Request → Option (Stream M)
  asked none = none
  asked (some r) = some (asking r)

  -- ---- what a call on an open request comes to

  pub call_on : (p : Pair M) (id : ℕ) (s : Stream M) (o : Own M) → Alive p → find id p.row ≡ some s → call (on id o) p ≡ settle id p (act_on p.conn.kept s o)
  unfolding call alive acting
  call_on p id s o a f = rw (a, f)

  pub call_on_asking : (p : Pair M) (id : ℕ) (r : M.Request) (o : Own M) → Alive p → find id p.row ≡ some (asking r)
      → call (on id o) p ≡ settle id p (map_out (λ x. record { stream = asking x; kept = p.conn.kept }) (act M r o))
  unfolding act_on
  call_on_asking p id r o a f = call_on p id (asking r) o a f

  pub dead_spend : (k : Kind) (c : Conn M) → (spend k c).dead ≡ c.dead
  unfolding spend
  dead_spend request c = refl
  dead_spend one_way c = refl

  -- ---- no other record is touched

  pub untouched : (p p' : Pair M) (c : Call M) (a : Answer) (id : ℕ) → Aside id c → Went p c a p' → find id p'.row ≡ find id p.row
  untouched p p' c a id n restarted = absurd n
  untouched p p' c a id n (still_dead e) = refl
  untouched p p' c a id n (by_house e) = refl
  untouched p p' c a id n (barring e k' m l b) = refl
  untouched p p' c a id n (faulting {id = i} e f) = find_free_other i id n p.row
  untouched p p' c a id n (dying e f) = refl
  untouched p p' c a id n (opening {id = i} e k' m l b q) = find_seat_other q id n
  untouched p p' c a id n (stepping {id = i} x e f w) = find_put_other i id x.stream n p.row
  untouched p p' c a id n (leaving {id = i} e f) = find_free_other i id n p.row
  untouched p p' c a id n (sending e g l) = refl

  pub others_untouched : (p : Pair M) (c : Call M) (id : ℕ) → Aside id c → find id (call c p).after.row ≡ find id p.row
  others_untouched p c id n = untouched p (call c p).after c (call c p).answer id n (went c p)

  -- ---- dead stays dead

  abbrev pub Later : Call M → Type 0
  Later start = ⊥
  Later (open' i) = Unit {0}
  Later (on i o) = Unit {0}
  Later (goaway i room) = Unit {0}

  -- once dead, every call but start gives the code and leaves all as it was
  pub dead_stays : (c : Call M) (p : Pair M) (k : ConnectionFault) → Later c → p.conn.dead ≡ some k → call c p ≡ record { answer = code (of_connection k) 0 0; after = p }
  unfolding call alive same
  dead_stays start p k n e = absurd n
  dead_stays (open' i) p k n e = rw e
  dead_stays (on i o) p k n e = rw e
  dead_stays (goaway i room) p k n e = rw e

  alive_back : (p p' : Pair M) (c : Call M) (a : Answer) → Later c → Went p c a p' → Alive p' → Alive p
  alive_back p p' c a n restarted b = absurd n
  alive_back p p' c a n (still_dead e) b = b
  alive_back p p' c a n (by_house e) b = e
  alive_back p p' c a n (barring e k' m l q) b = e
  alive_back p p' c a n (faulting e f) b = e
  alive_back p p' c a n (dying e f) b = e
  alive_back p p' c a n (opening e k' m l q t) b = e
  alive_back p p' c a n (stepping x e f w) b = e
  alive_back p p' c a n (leaving e f) b = e
  alive_back p p' c a n (sending e g l) b = e

  was_alive : (cs : List (Call M)) (p : Pair M) → NoStart cs → Alive (run p cs) → Alive p
  unfolding run
  was_alive [] p n a = a
  was_alive (start ∷ cs) p n a = absurd n
  was_alive (open' i ∷ cs) p n a = alive_back p (call (open' i) p).after (open' i) (call (open' i) p).answer tt (went (open' i) p) (was_alive cs (call (open' i) p).after n a)
  was_alive (on i o ∷ cs) p n a = alive_back p (call (on i o) p).after (on i o) (call (on i o) p).answer tt (went (on i o) p) (was_alive cs (call (on i o) p).after n a)
  was_alive (goaway i room ∷ cs) p n a = alive_back p (call (goaway i room) p).after (goaway i room) (call (goaway i room) p).answer tt (went (goaway i room) p) (was_alive cs (call (goaway i room) p).after n a)

  -- ---- an ID is opened once

  spent_went : (p p' : Pair M) (c : Call M) (a : Answer) (id : ℕ) → Later c → Went p c a p' → Spent p.conn id → Spent p'.conn id
  spent_went p p' c a id n restarted t = absurd n
  spent_went p p' c a id n (still_dead e) t = t
  spent_went p p' c a id n (by_house e) t = t
  spent_went p p' c a id n (barring {k = k} e k' m l q) t = spent_spend k p.conn id t
  spent_went p p' c a id n (faulting e f) t = t
  spent_went p p' c a id n (dying {k = k} e f) t = spent_as p.conn (killed k p.conn) (λ j. next_killed j k p.conn) id t
  spent_went p p' c a id n (opening {k = k} e k' m l q r) t = spent_spend k p.conn id t
  spent_went p p' c a id n (stepping x e f w) t = spent_as p.conn (keeping x.kept p.conn) (λ j. next_keeping j x.kept p.conn) id t
  spent_went p p' c a id n (leaving e f) t = t
  spent_went p p' c a id n (sending {id = i} e g l) t = spent_as p.conn (limited i p.conn) (λ j. next_limited j i p.conn) id t

  pub spent_call : (c : Call M) (p : Pair M) (id : ℕ) → Later c → Spent p.conn id → Spent (call c p).after.conn id
  spent_call c p id n t = spent_went p (call c p).after c (call c p).answer id n (went c p) t

  not_next : (c : Conn M) (id : ℕ) (k : Kind) → Spent c id → kind_of id ≡ some k → id ≡ next_of k c → ⊥
  not_next c id k t e n =
      let q : k ≡ t.kind = some-injective k t.kind (sym e ∙ t.is) in
      let l : id < next_of k c = rw q t.low in
      omega arith

  unopened_row : (p p' : Pair M) (a : Answer) (id : ℕ) → Spent p.conn id → Went p (open' id) a p' → find id p'.row ≡ find id p.row
  unopened_row p p' a id t (still_dead e) = refl
  unopened_row p p' a id t (by_house e) = refl
  unopened_row p p' a id t (barring e k' m l q) = refl
  unopened_row p p' a id t (opening {k = k} e k' m l q r) = absurd (not_next p.conn id k t k' m)

  -- ---- independence

  -- a call on the stream leaves in the row what it leaves of the stream by itself, if the connection lives
  by_itself : (p : Pair M) (id : ℕ) (r : M.Request) → Sound p → Alive p → find id p.row ≡ some (asking r) → (x : Out M.Request)
      → Alive (settle id p (map_out (λ x. record { stream = asking x; kept = p.conn.kept }) x)).after
      → find id (settle id p (map_out (λ x. record { stream = asking x; kept = p.conn.kept }) x)).after.row ≡ asked (left_by r x)
  unfolding settle map_out same with faulted killed left_by asked
  by_itself p id r i a f (refuse h) b = f
  by_itself p id r i a f (step g x) b = find_put_same id (asking x) (asking r) p.row f
  by_itself p id r i a f (leave l) b = find_free_same id i.distinct
  by_itself p id r i a f (fault (of_stream k) u h) b = find_free_same id i.distinct
  by_itself p id r i a f (fault (of_connection k) u h) b = absurd (some-ne-none k b)

  alone_none : (os : List (Own M)) → alone none os ≡ none
  unfolding alone
  alone_none [] = refl
  alone_none (o ∷ os) = refl

  -- with nothing in the row, a call on the stream alters nothing
  none_left : (p : Pair M) (id : ℕ) (p' : Pair M) (a : Answer) (o : Own M) → find id p.row ≡ none → Went p (on id o) a p' → find id p'.row ≡ none
  none_left p id p' a o n (still_dead e) = n
  none_left p id p' a o n (by_house e) = n
  none_left p id p' a o n (faulting {s = s} e f) = absurd (none-ne-some s (sym n ∙ f))
  none_left p id p' a o n (dying e f) = n
  none_left p id p' a o n (stepping {s = s} x e f w) = absurd (none-ne-some s (sym n ∙ f))
  none_left p id p' a o n (leaving {s = s} e f) = absurd (none-ne-some s (sym n ∙ f))

  pub independent : (id : ℕ) (cs : List (Call M)) (p : Pair M) (x : Option M.Request) → Sound p → Spent p.conn id → NoStart cs → Alive (run p cs)
      → find id p.row ≡ asked x → find id (run p cs).row ≡ asked (alone x (own id cs))
  unfolding run own
  independent id [] p x i t n a f = unfold alone in f
  independent id (start ∷ cs) p x i t n a f = absurd n
  independent id (open' j ∷ cs) p x i t n a f =
      independent id cs (call (open' j) p).after x (sound_call (open' j) p i) (spent_call (open' j) p id tt t) n a (go (ℕ_discrete j id) ∙ f)
    where
      go : Dec (j ≡ id) → find id (call (open' j) p).after.row ≡ find id p.row
      go (yes e) = rw e (unopened_row p (call (open' id) p).after (call (open' id) p).answer id t (went (open' id) p))
      go (no m) = others_untouched p (open' j) id m
  independent id (on j o ∷ cs) p x i t n a f =
      go (ℕ_discrete j id) x f (λ y. independent id cs (call (on j o) p).after y (sound_call (on j o) p i) (spent_call (on j o) p id tt t) n a)
    where
      b : Alive (call (on j o) p).after
      b = was_alive cs (call (on j o) p).after n a

      c : Alive p
      c = alive_back p (call (on j o) p).after (on j o) (call (on j o) p).answer tt (went (on j o) p) b

      mine : j ≡ id → (r : M.Request) → find id p.row ≡ some (asking r) → find id (call (on j o) p).after.row ≡ asked (left_by r (act M r o))
      mine e r f =
          let b' : Alive (call (on id o) p).after = rw e at b in
          let q = call_on_asking p id r o c f in
          rw (e, q) (by_itself p id r i c f (act M r o) (rw q at b'))

      go : (d : Dec (j ≡ id)) (x : Option M.Request) → find id p.row ≡ asked x
          → ((y : Option M.Request) → find id (call (on j o) p).after.row ≡ asked y → find id (run (call (on j o) p).after cs).row ≡ asked (alone y (own id cs)))
          → find id (run (call (on j o) p).after cs).row ≡ asked (alone x (pick d (o ∷ own id cs) (own id cs)))
      go (yes e) none f ih = unfold pick alone asked in
          ih none (rw e (none_left p id (call (on id o) p).after (call (on id o) p).answer o f (went (on id o) p))) ∙ ap asked (alone_none (own id cs))
      go (yes e) (some r) f ih = unfold pick alone in ih (left_by r (act M r o)) (mine e r (unfold asked in f))
      go (no m) x f ih = unfold pick in ih x (others_untouched p (on j o) id m ∙ f)
  independent id (goaway j room ∷ cs) p x i t n a f =
      independent id cs (call (goaway j room) p).after x (sound_call (goaway j room) p i) (spent_call (goaway j room) p id tt t) n a (others_untouched p (goaway j room) id tt ∙ f)

  -- INDEPENDENCE, from an accepted opening on: whatever calls on other streams came between
  run_append : (cs ds : List (Call M)) (p : Pair M) → run p (cs ++ ds) ≡ run (run p cs) ds
  unfolding run
  run_append [] ds p = refl
  run_append (c ∷ cs) ds p = run_append cs ds (call c p).after

  first_in : (id : ℕ) (p p' : Pair M) (a : Answer) → kind_of id ≡ some request → Sound p → a ≡ gave done → Went p (open' id) a p' → (find id p'.row ≡ some (asking M.new)) × Spent p'.conn id
  unfolding first
  first_in id p p' a q i e (still_dead d) = absurd (no_code e)
  first_in id p p' a q i e (by_house d) = absurd (no_house e)
  first_in id p p' a q i e (barring d k' m l b) = absurd (no_code e)
  first_in id p p' a q i e (opening {k = k} {row = row} d k' m l b t) =
      let z : k ≡ request = some-injective k request (sym k' ∙ q) in
      let t' : Seated (held id (first request)) p.row row = rw z at t in
      (find_seat_same t' (next_absent p i id k k' m), record { kind = k; is = k'; low = omega (arith, next_spent k p.conn) })

  pub independence : (id : ℕ) (before cs : List (Call M)) → kind_of id ≡ some request → (call (open' id) (run fresh before)).answer ≡ gave done
      → NoStart cs → Alive (run fresh (before ++ (open' id ∷ cs)))
      → find id (run fresh (before ++ (open' id ∷ cs))).row ≡ asked (alone (some M.new) (own id cs))
  independence id before cs q e n a =
      let p = run fresh before in
      let p' = (call (open' id) p).after in
      let i = sound_run before fresh sound_fresh in
      let w = first_in id p p' (call (open' id) p).answer q i e (went (open' id) p) in
      let r : run fresh (before ++ (open' id ∷ cs)) ≡ run p' cs = run_append before (open' id ∷ cs) fresh ∙ (unfold run in refl) in
      rw r (independent id cs p' (some M.new) (sound_call (open' id) p i) w.1 n (rw r at a) (unfold asked in w.0))
