-- One-way streams. By itself such a stream is a machine of its own bytes; the connection adds one thing only: a second stream of a type that
-- may come once is refused. Then what a trace shows of it follows from its own bytes as for requests. Assumes nothing.
use Rattle.std.specs.Prelude.{◌≡◌, ℕ, List}
use Rattle.std.proofs.Math.Path.{refl}
use Rattle.std.proofs.Math.Option.{Option, none, some}
use Rattle.rules.specs.Numbers.{ConnectionFault, stream_creation_error, Code, of_connection}
use Rattle.rules.specs.Calls.{Event, Fed, goes, faults, Own, feed, section, end, reset, Out, of_fed, of_closed, map_out, Machine, act₁, one_way, kind_of, Stream, telling, first, act_on, Call, fresh, run, trace}
use Rattle.rules.specs.Shown.{Shown, Fate, unopened, spent, dropped, refused, lost, nothing, plus_feed, plus_bytes, fedly, mine, view}
use Rattle.traces.specs.Follow.{Shut, goes_on, Next, Tale, Agrees, agrees}

abbrev pub Both : Machine → Type 0
Both M = record { state : M.Oneway; kept : M.Kept }

-- what the stream does by itself, and what it does on a connection
pub data Like (M : Machine) : Fed M.Oneway → Fed (Both M) → Type 0 where
  goes_alike : {u h : ℕ} {e : Event} {w : M.Oneway} {k : M.Kept} → Like M (goes u h e w) (goes u h e (record { state = w; kept = k }))
  faults_alike : {u h : ℕ} {c : Code} → Like M (faults c u h) (faults c u h)
  second : {x : Fed M.Oneway} {u h : ℕ} → Like M x (faults (of_connection stream_creation_error) u h)

pub record ByItself (M : Machine) : Type 0 where
  pub alone₁ : M.Oneway → (allow : ℕ) → (piece : List ℕ) → Fed M.Oneway
  pub like : (k : M.Kept) (w : M.Oneway) (allow : ℕ) (piece : List ℕ) → Like M (alone₁ w allow piece) (M.feed₁ k w allow piece)

-- accepted feeds lead a new one-way stream to w, showing s
pub data Reached₁ {M : Machine} (B : ByItself M) : Shown M → M.Oneway → Type 0 where
  at_first : Reached₁ B nothing M.untyped
  by_feed : {s : Shown M} {w w' : M.Oneway} {allow u h : ℕ} {piece : List ℕ} {e : Event}
      → Reached₁ B s w → B.alone₁ w allow piece ≡ goes u h e w' → Reached₁ B (plus_feed u h e piece s) w'

pub data Story₁ {M : Machine} (B : ByItself M) : Fate → Shown M → Type 0 where
  not_yet : Story₁ B unopened nothing
  never : Story₁ B spent nothing
  cut_off : {s : Shown M} {w : M.Oneway} → Reached₁ B s w → Story₁ B lost s
  closed : {s : Shown M} {w : M.Oneway} → Reached₁ B s w → M.close w ≡ none → Story₁ B dropped s
  closed_critical : {s : Shown M} {w : M.Oneway} {k : ConnectionFault} → Reached₁ B s w → M.close w ≡ some k → Story₁ B (refused (of_connection k)) s
  bad_feed : {s : Shown M} {w : M.Oneway} {allow u h : ℕ} {piece : List ℕ} {k : Code}
      → Reached₁ B s w → B.alone₁ w allow piece ≡ faults k u h → Story₁ B (refused k) (plus_bytes u h piece s)
  second_of_type : {s : Shown M} {w : M.Oneway} {k : M.Kept} {allow u h : ℕ} {piece : List ℕ}
      → Reached₁ B s w → M.feed₁ k w allow piece ≡ faults (of_connection stream_creation_error) u h → Story₁ B (refused (of_connection stream_creation_error)) (plus_bytes u h piece s)

pub data Says {M : Machine} (B : ByItself M) : Shown M → Stream M → Type 0 where
  says : {s : Shown M} {w : M.Oneway} → Reached₁ B s w → Says B s (telling w)

module _ {M : Machine} (B : ByItself M) where
  shut : {f : Fate} {s : Shown M} → Story₁ B f s → Shut f
  shut not_yet = tt
  shut never = tt
  shut (cut_off t) = tt
  shut (closed t e) = tt
  shut (closed_critical t e) = tt
  shut (bad_feed t e) = tt
  shut (second_of_type t e) = tt

  cut : {s : Shown M} {x : Stream M} → Says B s x → Story₁ B lost s
  cut (says t) = cut_off t

  module _ (s : Shown M) (w : M.Oneway) (t : Reached₁ B s w) where
    abbrev Then : Own M → Out (Both M) → Type 0
    Then o x = Next (Says B) (Story₁ B) o s (map_out (λ x. record { stream = telling x.state; kept = x.kept }) x)

    at_feed : (k : M.Kept) (allow : ℕ) (piece : List ℕ) (x : Fed M.Oneway) → B.alone₁ w allow piece ≡ x → (y : Fed (Both M)) → M.feed₁ k w allow piece ≡ y → Like M x y
        → Then (feed allow piece) (of_fed y)
    unfolding map_out of_fed mine fedly
    at_feed k allow piece x e y q goes_alike = goes_on (says (by_feed t e))
    at_feed k allow piece x e y q faults_alike = bad_feed t e
    at_feed k allow piece x e y q second = second_of_type t q

    at_close : (o : Option ConnectionFault) → M.close w ≡ o → Then end (of_closed o) × Then reset (of_closed o)
    unfolding map_out of_closed mine
    at_close none e = (closed t e, closed t e)
    at_close (some k) e = (closed_critical t e, closed_critical t e)

    at_own : (k : M.Kept) (o : Own M) → Then o (act₁ M k w o)
    unfolding act₁ map_out
    at_own k (feed allow piece) = at_feed k allow piece (B.alone₁ w allow piece) refl (M.feed₁ k w allow piece) refl (B.like k w allow piece)
    at_own k (section b) = tt
    at_own k end = (at_close (M.close w) refl).0
    at_own k reset = (at_close (M.close w) refl).1

  by_itself : {s : Shown M} {x : Stream M} (kept : M.Kept) (o : Own M) → Says B s x → Next (Says B) (Story₁ B) o s (act_on kept x o)
  unfolding act_on
  by_itself {s} kept o (says {w = w} t) = at_own s w t kept o

  pub story₁ : Tale M one_way (Says B) (Story₁ B)
  story₁ = record {
    begins = unfold first in says at_first;
    not_yet = not_yet;
    never = never;
    cut_off = λ {s} {x} t. cut t;
    shut = λ {f} {s} t. shut t;
    own = λ {s} {x} kept o t. by_itself kept o t;
  }

  -- every trace: a one-way stream came where its own bytes lead
  pub follows₁ : (id : ℕ) → kind_of id ≡ some one_way → (cs : List (Call M)) → Agrees (Says B) (Story₁ B) id (run fresh cs) (view id (trace fresh cs))
  follows₁ id q cs = agrees story₁ id cs q
