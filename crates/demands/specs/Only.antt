-- ONLY AN END SAYS WHOLE, and what does not run is shut: whole is the answer of an end of a legal request stream that runs, and of no other call;
-- and on a live connection every call on an ID that does not run is answered 1. So once a stream is settled no content, no section bytes and no
-- whole come from it any more. Assumes nothing.
use Rattle.std.specs.Prelude.{◌≡◌, ℕ, List, Bool, ◌↔◌}
use Rattle.std.proofs.Math.Path.{refl}
use Rattle.std.proofs.Common.{sym, ap, ◌∙◌, subst, arith}
use Rattle.std.proofs.Math.Bool.{true, false}
use Rattle.std.proofs.Math.Option.{Option, none, some, none-ne-some}
use Rattle.rules.specs.Numbers.{House, not_open, section_due, no_section, unreadable, ConnectionFault, of_stream, of_connection}
use Rattle.rules.specs.Frames.{frames_from}
use Rattle.rules.specs.Request.{document}
use Rattle.rules.specs.Legal.{Legal}
use Rattle.rules.specs.Calls.{Fed, goes, faults, Given, sound, unsound, Ended, is_whole, broken, whole, freed, Own, feed, section, end, reset, Out, refuse, of_fed, of_given, of_ended, of_closed, map_out, Machine, act, act₁, either, Kind, request, one_way, kind_of, Stream, asking, telling, Pair, Held, Call, on, Answer, gave, left, house, code, same, with, alive, faulted, act_on, settle, acting, find, fresh, call, run, trace}
use Rattle.rules.specs.Shown.{Shown, Fate, running, View, view, ledger}
use Rattle.traces.specs.Went.{Alive, Went, restarted, still_dead, by_house, barring, faulting, dying, opening, stepping, leaving, sending, went}
use Rattle.traces.specs.Sound.{sound_run, sound_fresh}
use Rattle.traces.specs.Alone.{call_on}
use Rattle.traces.specs.Follow.{Tale, Agrees, open_still, over, agrees, not_running}
use Rattle.traces.specs.Story.{story}
use Rattle.traces.specs.Oneways.{ByItself, Says, says, Story₁, story₁}
use Rattle.traces.specs.Opening.{tallies}
use Rattle.traces.specs.Demands.{Verdict, is_legal, bad, waits, end_answer}
use Rattle.demands.specs.Streams.{streams}
use Rattle.demands.specs.Reading.{sections_of, reading}
use Rattle.demands.specs.Moves.{alone}
use Rattle.demands.specs.Demands.{end_exactly, legal_exactly}

-- ---- answers that are not whole, or not 1

abbrev NotWhole : Answer → Type 0
NotWhole (gave g) = Unit {0}
NotWhole (left whole) = ⊥
NotWhole (left freed) = Unit {0}
NotWhole (house h) = Unit {0}
NotWhole (code k u h) = Unit {0}

abbrev NotShut : Answer → Type 0
NotShut (gave g) = Unit {0}
NotShut (left l) = Unit {0}
NotShut (house House.not_open) = ⊥
NotShut (house House.not_next) = Unit {0}
NotShut (house House.no_record) = Unit {0}
NotShut (house House.section_due) = Unit {0}
NotShut (house House.no_section) = Unit {0}
NotShut (house House.unreadable) = Unit {0}
NotShut (house House.room_short) = Unit {0}
NotShut (house House.bad_value) = Unit {0}
NotShut (house House.other_row) = Unit {0}
NotShut (code k u h) = Unit {0}

not_whole : (a : Answer) → NotWhole a → a ≡ left whole → ⊥
not_whole a n e = subst NotWhole e n

not_shut : (a : Answer) → NotShut a → a ≡ house not_open → ⊥
not_shut a n e = subst NotShut e n

-- an answer that is neither whole nor 1
abbrev Other : Answer → Type 0
Other a = NotWhole a × NotShut a

-- ---- the row and the view

module _ {M : Machine} where
  -- what the row of a live connection holds runs
  held_runs : {Open : Shown M → Stream M → Type 0} {Over : Fate → Shown M → Type 0} (id : ℕ) (p : Pair M) (v : View M) (x : Stream M)
      → Alive p → find id p.row ≡ some x → Agrees Open Over id p v → v.fate ≡ running
  held_runs id p v x a f (open_still b t g) = refl
  held_runs id p v x a f (over t n) = absurd (none-ne-some x (sym (n a) ∙ f))

  -- what runs is held, and the connection lives
  runs_held : {k : Kind} {Open : Shown M → Stream M → Type 0} {Over : Fate → Shown M → Type 0} (T : Tale M k Open Over) (id : ℕ) (p : Pair M) (v : View M)
      → v.fate ≡ running → Agrees Open Over id p v → Alive p × ((x : Stream M) × (find id p.row ≡ some x))
  runs_held T id p v e (open_still {x = x} a t f) = (a, (x, f))
  runs_held T id p v e (over {f = f} t n) = absurd (not_running f (T.shut t) e)

  -- of a one-way ID no request is held
  no_asking : (B : ByItself M) (id : ℕ) (p : Pair M) (v : View M) (r : M.Request) → Alive p → find id p.row ≡ some (asking r) → Agrees (Says B) (Story₁ B) id p v → ⊥
  no_asking B id p v r a f (open_still b (says {w = w} t) g) = clash w r (sym g ∙ f)
    where
      clash : (w : M.Oneway) (r : M.Request) → ◌≡◌ {A = Option (Stream M)} (some (telling w)) (some (asking r)) → ⊥
      clash w r e = let z : ◌≡◌ {A = ℕ} 0 1 = cc in omega arith
  no_asking B id p v r a f (over t n) = none-ne-some (asking r) (sym (n a) ∙ f)

  -- ---- by its own calls

  module _ {X : Type 0} (id : ℕ) (p : Pair M) (f : X → Held M) where
    abbrev Comes : (Answer → Type 0) → Out X → Type 0
    Comes Q x = Q (settle id p (map_out f x)).answer

    of_fed_lem : (x : Fed X) → Comes Other (of_fed x)
    unfolding settle map_out of_fed same with faulted
    of_fed_lem (goes u h e y) = (tt, tt)
    of_fed_lem (faults (of_stream k) u h) = (tt, tt)
    of_fed_lem (faults (of_connection k) u h) = (tt, tt)

    of_given_lem : (x : Given X) → Comes Other (of_given x)
    unfolding settle map_out of_given same with faulted
    of_given_lem (sound y) = (tt, tt)
    of_given_lem (unsound k) = (tt, tt)

    of_ended_lem : (x : Ended) → Comes NotShut (of_ended x)
    unfolding settle map_out of_ended same with faulted
    of_ended_lem is_whole = tt
    of_ended_lem (broken (of_stream k)) = tt
    of_ended_lem (broken (of_connection k)) = tt

    of_closed_lem : (x : Option ConnectionFault) → Comes Other (of_closed x)
    unfolding settle map_out of_closed same with faulted
    of_closed_lem none = (tt, tt)
    of_closed_lem (some k) = (tt, tt)

  module _ (id : ℕ) (p : Pair M) (kept : M.Kept) where
    abbrev Answered : (Answer → Type 0) → Stream M → Own M → Type 0
    Answered Q x o = Q (settle id p (act_on kept x o)).answer

    -- a one-way stream never says whole, nor 1
    telling_other : (w : M.Oneway) (o : Own M) → Answered Other (telling w) o
    unfolding act_on act₁
    telling_other w (feed allow piece) = of_fed_lem id p _ (M.feed₁ kept w allow piece)
    telling_other w (section b) = unfold settle map_out same in (tt, tt)
    telling_other w end = of_closed_lem id p _ (M.close w)
    telling_other w reset = of_closed_lem id p _ (M.close w)

    due_feed : (r : M.Request) (d : Bool) (x : Fed M.Request) → Comes id p (λ y. record { stream = asking y; kept = kept }) Other (either d (refuse section_due) (of_fed x))
    unfolding either
    due_feed r true x = unfold settle map_out same in (tt, tt)
    due_feed r false x = of_fed_lem id p _ x

    due_section : (r : M.Request) (d c : Bool) (x : Given M.Request)
        → Comes id p (λ y. record { stream = asking y; kept = kept }) Other (either d (either c (of_given x) (refuse unreadable)) (refuse no_section))
    unfolding either
    due_section r true true x = of_given_lem id p _ x
    due_section r true false x = unfold settle map_out same in (tt, tt)
    due_section r false c x = unfold settle map_out same in (tt, tt)

    due_end : (d : Bool) (x : Ended) → Comes {X = M.Request} id p (λ y. record { stream = asking y; kept = kept }) NotShut (either d (refuse section_due) (of_ended x))
    unfolding either
    due_end true x = unfold settle map_out same in tt
    due_end false x = of_ended_lem id p _ x

    asking_reset : (r : M.Request) → Answered Other (asking r) reset
    unfolding act_on act settle map_out with
    asking_reset r = (tt, tt)

    -- of a request stream's calls only an end says whole
    asking_whole : (r : M.Request) (o : Own M) → (settle id p (act_on kept (asking r) o)).answer ≡ left whole → o ≡ end
    unfolding act_on act
    asking_whole r (feed allow piece) e = absurd (not_whole _ (due_feed r (M.due r) (M.feed r allow piece)).0 e)
    asking_whole r (section b) e = absurd (not_whole _ (due_section r (M.due r) (M.readable b) (M.give r b)).0 e)
    asking_whole r end e = refl
    asking_whole r reset e = absurd (not_whole _ (asking_reset r).0 e)

    -- what runs is not answered 1
    not_one : (x : Stream M) (o : Own M) → Answered NotShut x o
    unfolding act_on act
    not_one (telling w) o = (telling_other w o).1
    not_one (asking r) (feed allow piece) = (due_feed r (M.due r) (M.feed r allow piece)).1
    not_one (asking r) (section b) = (due_section r (M.due r) (M.readable b) (M.give r b)).1
    not_one (asking r) end = due_end (M.due r) (M.finish r)
    not_one (asking r) reset = (asking_reset r).1

  -- only a call on a stream says whole, and then the connection lived and the stream was held
  pub whole_on : (p p' : Pair M) (c : Call M) (a : Answer) → Went p c a p' → a ≡ left whole
      → (id : ℕ) × ((o : Own M) × ((x : Stream M) × ((c ≡ on id o) × (Alive p × (find id p.row ≡ some x)))))
  whole_on p p' c a restarted e = absurd (not_whole _ tt e)
  whole_on p p' c a (still_dead d) e = absurd (not_whole _ tt e)
  whole_on p p' c a (by_house d) e = absurd (not_whole _ tt e)
  whole_on p p' c a (barring d k' m l b) e = absurd (not_whole _ tt e)
  whole_on p p' c a (faulting d f) e = absurd (not_whole _ tt e)
  whole_on p p' c a (dying d f) e = absurd (not_whole _ tt e)
  whole_on p p' c a (opening d k' m l b q) e = absurd (not_whole _ tt e)
  whole_on p p' c a (stepping x d f w) e = absurd (not_whole _ tt e)
  whole_on p p' c a (leaving {id = id} {o = o} {s = s} d f) e = (id, (o, (s, (refl, (d, f)))))
  whole_on p p' c a (sending d g l) e = absurd (not_whole _ tt e)

  pub not_held : (p : Pair M) (id : ℕ) (o : Own M) → Alive p → find id p.row ≡ none → call (on id o) p ≡ record { answer = house not_open; after = p }
  unfolding call alive acting same
  not_held p id o a f = rw (a, f)

-- ---- for the streams of document 01

abbrev Calls : Type 0
Calls = List (Call streams)

kind_held : (cs : Calls) (id : ℕ) (x : Stream streams) → Alive (run fresh cs) → find id (run fresh cs).row ≡ some x → (k : Kind) → kind_of id ≡ some k → (view id (trace fresh cs)).fate ≡ running
kind_held cs id x a f request q = held_runs id (run fresh cs) (view id (trace fresh cs)) x a f (agrees story id cs q)
kind_held cs id x a f one_way q = held_runs id (run fresh cs) (view id (trace fresh cs)) x a f (agrees (story₁ alone) id cs q)

pub held_is_running : (cs : Calls) (id : ℕ) (x : Stream streams) → Alive (run fresh cs) → find id (run fresh cs).row ≡ some x → (view id (trace fresh cs)).fate ≡ running
held_is_running cs id x a f = let s = (sound_run cs fresh sound_fresh).below id x f in kind_held cs id x a f s.kind s.is

pub running_is_held : (cs : Calls) (id : ℕ) (k : Kind) → kind_of id ≡ some k → (view id (trace fresh cs)).fate ≡ running
    → Alive (run fresh cs) × ((x : Stream streams) × (find id (run fresh cs).row ≡ some x))
running_is_held cs id request q e = runs_held story id (run fresh cs) (view id (trace fresh cs)) e (agrees story id cs q)
running_is_held cs id one_way q e = runs_held (story₁ alone) id (run fresh cs) (view id (trace fresh cs)) e (agrees (story₁ alone) id cs q)

asking_kind : (cs : Calls) (id : ℕ) (r : streams.Request) → Alive (run fresh cs) → find id (run fresh cs).row ≡ some (asking r) → (k : Kind) → kind_of id ≡ some k → kind_of id ≡ some request
asking_kind cs id r a f request q = q
asking_kind cs id r a f one_way q = absurd (no_asking alone id (run fresh cs) (view id (trace fresh cs)) r a f (agrees (story₁ alone) id cs q))

-- the call is an end of a request stream that runs, and its bytes and sections are legal
pub record EndsWhole (cs : Calls) (c : Call streams) : Type 0 where
  pub id : ℕ
  pub ends : c ≡ on id end
  pub asks : kind_of id ≡ some request
  pub runs : (view id (trace fresh cs)).fate ≡ running
  pub legal : let s = (view id (trace fresh cs)).shown in Legal document (sections_of s.sections) (frames_from 0 s.bytes)

legal_answer : (v : Verdict) → end_answer v ≡ left whole → v ≡ is_legal
unfolding end_answer
legal_answer is_legal e = refl
legal_answer (bad k) e = absurd (not_whole _ tt e)
legal_answer waits e = absurd (not_whole _ tt e)

ends_whole : (cs : Calls) (id : ℕ) (o : Own streams) (x : Stream streams) → Alive (run fresh cs) → find id (run fresh cs).row ≡ some x
    → (call (on id o) (run fresh cs)).answer ≡ left whole → EndsWhole cs (on id o)
ends_whole cs id o (telling w) a f e =
    let p = run fresh cs in
    absurd (not_whole _ (telling_other id p p.conn.kept w o).0 (sym (ap (λ r. r.answer) (call_on p id (telling w) o a f)) ∙ e))
ends_whole cs id o (asking r) a f e =
    let p = run fresh cs in
    let v = view id (trace fresh cs) in
    let i : o ≡ end = asking_whole id p p.conn.kept r o (sym (ap (λ r. r.answer) (call_on p id (asking r) o a f)) ∙ e) in
    let s = (sound_run cs fresh sound_fresh).below id (asking r) f in
    let q : kind_of id ≡ some request = asking_kind cs id r a f s.kind s.is in
    let n : v.fate ≡ running = held_is_running cs id (asking r) a f in
    let w : (call (on id end) p).answer ≡ left whole = rw i at e in
    record {
      id = id;
      ends = ap (on id) i;
      asks = q;
      runs = n;
      legal = (legal_exactly v.shown.bytes v.shown.sections).0 (legal_answer (reading.verdict v.shown.bytes v.shown.sections) (sym (end_exactly id q cs n) ∙ w));
    }

-- ONLY AN END SAYS WHOLE: whatever the trace and whatever the call, whole is said exactly if the call is an end of a request stream that runs and
-- its bytes and sections are legal
pub whole_only : (cs : Calls) (c : Call streams) → ((call c (run fresh cs)).answer ≡ left whole) ↔ EndsWhole cs c
unfolding end_answer
whole_only cs c = (λ e. go e (whole_on (run fresh cs) (call c (run fresh cs)).after c (call c (run fresh cs)).answer (went c (run fresh cs)) e), back)
  where
    go : (call c (run fresh cs)).answer ≡ left whole → (id : ℕ) × ((o : Own streams) × ((x : Stream streams) × ((c ≡ on id o) × (Alive (run fresh cs) × (find id (run fresh cs).row ≡ some x)))))
        → EndsWhole cs c
    go e (id, (o, (x, (i, (a, f))))) = subst (EndsWhole cs) (sym i) (ends_whole cs id o x a f (subst (λ d. (call d (run fresh cs)).answer ≡ left whole) i e))

    back : EndsWhole cs c → (call c (run fresh cs)).answer ≡ left whole
    back w =
        let s = (view w.id (trace fresh cs)).shown in
        ap (λ d. (call d (run fresh cs)).answer) w.ends ∙ end_exactly w.id w.asks cs w.runs ∙ ap end_answer ((legal_exactly s.bytes s.sections).1 w.legal)

-- SHUT: on a live connection a call on an ID that does not run is answered 1 and alters nothing
pub shut : (cs : Calls) (id : ℕ) (o : Own streams) → (ledger (trace fresh cs)).dead ≡ none → ¬ ((view id (trace fresh cs)).fate ≡ running)
    → call (on id o) (run fresh cs) ≡ record { answer = house not_open; after = run fresh cs }
shut cs id o d n = go (find id (run fresh cs).row) refl
  where
    a : Alive (run fresh cs)
    a = sym (tallies cs).dead ∙ d

    go : (f : Option (Stream streams)) → find id (run fresh cs).row ≡ f → call (on id o) (run fresh cs) ≡ record { answer = house not_open; after = run fresh cs }
    go none f = not_held (run fresh cs) id o a f
    go (some x) f = absurd (n (held_is_running cs id x a f))

-- and exactly then
pub shut_exactly : (cs : Calls) (id : ℕ) (k : Kind) (o : Own streams) → kind_of id ≡ some k → (ledger (trace fresh cs)).dead ≡ none
    → ((call (on id o) (run fresh cs)).answer ≡ house not_open) ↔ ((view id (trace fresh cs)).fate ≡ running → ⊥)
shut_exactly cs id k o q d = (λ e r. only e (running_is_held cs id k q r), λ n. ap (λ r. r.answer) (shut cs id o d n))
  where
    only : (call (on id o) (run fresh cs)).answer ≡ house not_open → Alive (run fresh cs) × ((x : Stream streams) × (find id (run fresh cs).row ≡ some x)) → ⊥
    only e (a, (x, f)) =
        let p = run fresh cs in
        not_shut _ (not_one id p p.conn.kept x o) (sym (ap (λ r. r.answer) (call_on p id x o a f)) ∙ e)
