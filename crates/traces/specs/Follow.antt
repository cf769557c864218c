-- FOLLOWING A STREAM: the view of a trace and the pair that it left say the same of a stream. Proved once for any kind of stream, over what
-- is known of it by itself (a `Tale`). Assumes nothing.
use Rattle.std.specs.Prelude.{◌≡◌, ℕ}
use Rattle.std.proofs.Math.Path.{refl}
use Rattle.std.proofs.Common.{sym, ◌∙◌, subst}
use Rattle.std.proofs.Math.Decide.{ℕ_discrete}
use mathlib.Core.List.{List, [], ◌∷◌}
use Rattle.std.proofs.Math.Option.{none, some, none-ne-some, some-ne-none, some-injective}
use Rattle.rules.specs.Numbers.{House, ConnectionFault, of_stream, of_connection}
use Rattle.rules.specs.Calls.{Own, feed, section, end, reset, Out, refuse, step, leave, fault, Machine, pick, Kind, kind_of, Stream, held, Pair, Held, Call, start, open', on, goaway, Answer, gave, left, house, code, killed, keeping, limited, find, same, with, fresh, first, faulted, act_on, settle, call, run, trace}
use Rattle.rules.specs.Shown.{Shown, Fate, unopened, spent, running, ended, dropped, refused, lost, View, nothing, struck, elsewhere, mine, if_running, opened, unseen, restarted as anew, seen, view_from, view}
use Rattle.traces.specs.Row.{Seated, find_put_same, find_free_same, find_seat_same, find_empty}
use Rattle.traces.specs.Went.{Alive, pair, Went, restarted, still_dead, by_house, barring, faulting, dying, opening, stepping, leaving, sending, went}
use Rattle.traces.specs.Sound.{Sound, next_absent, sound_call, sound_fresh}
use Rattle.traces.specs.Alone.{Aside, untouched, call_on, dead_spend}

abbrev pub Shut : Fate → Type 0
Shut unopened = Unit {0}
Shut spent = Unit {0}
Shut running = ⊥
Shut ended = Unit {0}
Shut dropped = Unit {0}
Shut (refused k) = Unit {0}
Shut lost = Unit {0}

-- what has to be known of a stream by itself.
-- `Open s x`: accepted calls led a new stream to x, showing s. `Over f s`: how it came to the fate f, showing s.
pub data GoesOn {M : Machine} (Open : Shown M → Stream M → Type 0) : View M → Stream M → Type 0 where
  goes_on : {s : Shown M} {x : Stream M} → Open s x → GoesOn Open (record { fate = running; shown = s }) x

abbrev pub Next : {M : Machine} → (Shown M → Stream M → Type 0) → (Fate → Shown M → Type 0) → Own M → Shown M → Out (Held M) → Type 0
Next Open Over o s (refuse h) = Unit {0}
Next Open Over o s (step g y) = GoesOn Open (mine o (gave g) s) y.stream
Next Open Over o s (leave l) = Over (mine o (left l) s).fate (mine o (left l) s).shown
Next Open Over o s (fault k u h) = Over (mine o (code k u h) s).fate (mine o (code k u h) s).shown

pub record Tale (M : Machine) (k : Kind) (Open : Shown M → Stream M → Type 0) (Over : Fate → Shown M → Type 0) : Type 0 where
  pub begins : Open nothing (first k)
  pub not_yet : Over unopened nothing
  pub never : Over spent nothing
  pub cut_off : {s : Shown M} {x : Stream M} → Open s x → Over lost s
  pub shut : {f : Fate} {s : Shown M} → Over f s → Shut f
  pub own : {s : Shown M} {x : Stream M} (kept : M.Kept) (o : Own M) → Open s x → Next Open Over o s (act_on kept x o)

-- the view and the pair say the same
pub data Agrees {M : Machine} (Open : Shown M → Stream M → Type 0) (Over : Fate → Shown M → Type 0) (id : ℕ) (p : Pair M) : View M → Type 0 where
  open_still : {s : Shown M} {x : Stream M} → Alive p → Open s x → find id p.row ≡ some x → Agrees Open Over id p (record { fate = running; shown = s })
  over : {f : Fate} {s : Shown M} → Over f s → (Alive p → find id p.row ≡ none) → Agrees Open Over id p (record { fate = f; shown = s })

struck_shut : (f : Fate) → Shut f → struck f ≡ f
unfolding struck
struck_shut unopened t = refl
struck_shut spent t = refl
struck_shut running t = absurd t
struck_shut ended t = refl
struck_shut dropped t = refl
struck_shut (refused k) t = refl
struck_shut lost t = refl

pub not_running : (f : Fate) → Shut f → f ≡ running → ⊥
not_running f t e = subst Shut e t

settled : {M : Machine} (f : Fate) (s : Shown M) → Shut f → (w : View M) → if_running f s w ≡ record { fate = f; shown = s }
unfolding if_running
settled unopened s t w = refl
settled spent s t w = refl
settled running s t w = absurd t
settled ended s t w = refl
settled dropped s t w = refl
settled (refused k) s t w = refl
settled lost s t w = refl

-- a house number leaves the view as it was
mine_house : {M : Machine} (o : Own M) (h : House) (s : Shown M) → mine o (house h) s ≡ record { fate = running; shown = s }
unfolding mine
mine_house (feed allow piece) h s = refl
mine_house (section b) h s = refl
mine_house end h s = refl
mine_house reset h s = refl

module _ {M : Machine} {k : Kind} {Open : Shown M → Stream M → Type 0} {Over : Fate → Shown M → Type 0} (T : Tale M k Open Over) where
  moved : (id : ℕ) (p p' : Pair M) (v : View M) → p'.conn.dead ≡ p.conn.dead → find id p'.row ≡ find id p.row → Agrees Open Over id p v → Agrees Open Over id p' v
  moved id p p' v d e (open_still a r f) = open_still (d ∙ a) r (e ∙ f)
  moved id p p' v d e (over t n) = over t (λ a. e ∙ n (sym d ∙ a))

  -- a connection that died, or is dead
  in_the_end : (id : ℕ) (p p' : Pair M) (k : ConnectionFault) (v : View M) → p'.conn.dead ≡ some k → Agrees Open Over id p v → Agrees Open Over id p' (record { fate = struck v.fate; shown = v.shown })
  unfolding struck
  in_the_end id p p' k v d (open_still a r f) = over (T.cut_off r) (λ b. absurd (none-ne-some k (sym b ∙ d)))
  in_the_end id p p' k v d (over t n) = rw (struck_shut _ (T.shut t)) (over t (λ b. absurd (none-ne-some k (sym b ∙ d))))

  -- ---- a call elsewhere

  aside : (id : ℕ) (p p' : Pair M) (c : Call M) (a : Answer) (v : View M) → Aside id c → Went p c a p' → Agrees Open Over id p v → Agrees Open Over id p' (elsewhere a v)
  unfolding elsewhere killed keeping limited
  aside id p p' c a v n restarted g = absurd n
  aside id p p' c a v n (still_dead {k = k} e) g = in_the_end id p p k v e g
  aside id p p' c a v n (by_house e) g = g
  aside id p p' c a v n (barring {k = k} e k' m l b) g = moved id p p' v (dead_spend k p.conn) refl g
  aside id p p' c a v n (faulting e f) g = moved id p p' v refl (untouched p p' c a id n (faulting e f)) g
  aside id p p' c a v n (dying {k = k} e f) g = in_the_end id p p' k v refl g
  aside id p p' c a v n (opening {k = k} e k' m l b q) g = moved id p p' v (dead_spend k p.conn) (untouched p p' c a id n (opening e k' m l b q)) g
  aside id p p' c a v n (stepping x e f w) g = moved id p p' v refl (untouched p p' c a id n (stepping x e f w)) g
  aside id p p' c a v n (leaving e f) g = moved id p p' v refl (untouched p p' c a id n (leaving e f)) g
  aside id p p' c a v n (sending e q l) g = moved id p p' v refl refl g

  -- ---- its opening

  at_opening : (id : ℕ) (p p' : Pair M) (a : Answer) (v : View M) → kind_of id ≡ some k → Sound p → Went p (open' id) a p' → Agrees Open Over id p v → Agrees Open Over id p' (opened a v)
  unfolding opened
  at_opening id p p' a v q i (still_dead e) g = g
  at_opening id p p' a v q i (by_house e) g = g
  at_opening id p p' a v q i (barring {k = j} e k' m l b) g = over T.never (λ z. next_absent p i id j k' m)
  at_opening id p p' a v q i (opening {k = j} {row = row} e k' m l b t) g =
      let z : j ≡ k = some-injective j k (sym k' ∙ q) in
      let t' : Seated (held id (first k)) p.row row = rw z at t in
      open_still (dead_spend j p.conn ∙ e) T.begins (find_seat_same t' (next_absent p i id j k' m))

  -- ---- a call on it

  -- after its fate it is not in the row
  gone : (id : ℕ) (p p' : Pair M) (o : Own M) (a : Answer) → Went p (on id o) a p' → (Alive p → find id p.row ≡ none) → Alive p' → find id p'.row ≡ none
  gone id p p' o a (still_dead e) n b = n b
  gone id p p' o a (by_house e) n b = n b
  gone id p p' o a (faulting {s = s} e f) n b = absurd (none-ne-some s (sym (n e) ∙ f))
  gone id p p' o a (dying {s = s} e f) n b = absurd (none-ne-some s (sym (n e) ∙ f))
  gone id p p' o a (stepping {s = s} x e f w) n b = absurd (none-ne-some s (sym (n e) ∙ f))
  gone id p p' o a (leaving {s = s} e f) n b = absurd (none-ne-some s (sym (n e) ∙ f))

  on_running : (id : ℕ) (p : Pair M) (v : View M) (x : Stream M) → GoesOn Open v x → Alive p → find id p.row ≡ some x → Agrees Open Over id p v
  on_running id p v x (goes_on t) a f = open_still a t f

  at_own : (id : ℕ) (p : Pair M) (s : Shown M) (x : Stream M) (o : Own M) → Sound p → Alive p → find id p.row ≡ some x → Open s x → (y : Out (Held M)) → Next Open Over o s y
      → Agrees Open Over id (settle id p y).after (mine o (settle id p y).answer s)
  unfolding settle same with faulted keeping killed
  at_own id p s x o i a f t (refuse h) n = rw (mine_house o h s) (open_still a t f)
  at_own id p s x o i a f t (step g y) n =
      on_running id (pair (keeping y.kept p.conn) _) (mine o (gave g) s) y.stream n a (find_put_same id y.stream x p.row f)
  at_own id p s x o i a f t (leave l) n = over n (λ b. find_free_same id i.distinct)
  at_own id p s x o i a f t (fault (of_stream j) u h) n = over n (λ b. find_free_same id i.distinct)
  at_own id p s x o i a f t (fault (of_connection j) u h) n = over n (λ b. absurd (some-ne-none j b))

  by_own : (id : ℕ) (p : Pair M) (o : Own M) (v : View M) → Sound p → Agrees Open Over id p v
      → Agrees Open Over id (call (on id o) p).after (if_running v.fate v.shown (mine o (call (on id o) p).answer v.shown))
  unfolding if_running
  by_own id p o v i (open_still {s = s} {x = x} a t f) = rw (call_on p id x o a f) (at_own id p s x o i a f t (act_on p.conn.kept x o) (T.own p.conn.kept o t))
  by_own id p o v i (over {f = f} {s = s} t n) =
      rw (settled f s (T.shut t) (mine o (call (on id o) p).answer s)) (over t (gone id p (call (on id o) p).after o (call (on id o) p).answer (went (on id o) p) n))

  -- ---- every call

  pub agrees_call : (id : ℕ) (c : Call M) (p : Pair M) (v : View M) → kind_of id ≡ some k → Sound p → Agrees Open Over id p v
      → Agrees Open Over id (call c p).after (seen id c (call c p).answer v)
  unfolding seen pick
  agrees_call id start p v q i g = unfold call same fresh anew unseen in over T.not_yet (λ b. find_empty 24 id)
  agrees_call id (open' j) p v q i g = go (ℕ_discrete j id)
    where
      go : (d : Dec (j ≡ id)) → Agrees Open Over id (call (open' j) p).after (pick d (opened (call (open' j) p).answer v) (elsewhere (call (open' j) p).answer v))
      go (yes e) = rw e (at_opening id p (call (open' id) p).after (call (open' id) p).answer v q i (went (open' id) p) g)
      go (no n) = aside id p (call (open' j) p).after (open' j) (call (open' j) p).answer v n (went (open' j) p) g
  agrees_call id (on j o) p v q i g = go (ℕ_discrete j id)
    where
      go : (d : Dec (j ≡ id)) → Agrees Open Over id (call (on j o) p).after
          (pick d (if_running v.fate v.shown (mine o (call (on j o) p).answer v.shown)) (elsewhere (call (on j o) p).answer v))
      go (yes e) = rw e (by_own id p o v i g)
      go (no n) = aside id p (call (on j o) p).after (on j o) (call (on j o) p).answer v n (went (on j o) p) g
  agrees_call id (goaway j room) p v q i g = aside id p (call (goaway j room) p).after (goaway j room) (call (goaway j room) p).answer v tt (went (goaway j room) p) g

  -- ---- every schedule

  agrees_from : (id : ℕ) (cs : List (Call M)) (p : Pair M) (v : View M) → kind_of id ≡ some k → Sound p → Agrees Open Over id p v → Agrees Open Over id (run p cs) (view_from id v (trace p cs))
  unfolding run trace view_from
  agrees_from id [] p v q i g = g
  agrees_from id (c ∷ cs) p v q i g = agrees_from id cs (call c p).after (seen id c (call c p).answer v) q (sound_call c p i) (agrees_call id c p v q i g)

  pub agrees : (id : ℕ) (cs : List (Call M)) → kind_of id ≡ some k → Agrees Open Over id (run fresh cs) (view id (trace fresh cs))
  unfolding view unseen fresh
  agrees id cs q = agrees_from id cs fresh unseen q sound_fresh (over T.not_yet (λ b. find_empty 24 id))

-- a start anywhere begins a trace anew: what was before it, in the pair or in the trace, is not seen
pub view_of_start : {M : Machine} (id : ℕ) (p : Pair M) (cs : List (Call M)) → view id (trace p (start ∷ cs)) ≡ view id (trace fresh cs)
unfolding view view_from seen anew trace call same
view_of_start id p cs = refl
