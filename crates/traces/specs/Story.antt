-- What the view of a request stream says of its machine: the accepted feeds and sections that led to where it is, and how it came to its
-- fate. Assumes nothing.
use Rattle.std.specs.Prelude.{◌≡◌, ℕ, List, Bool}
use Rattle.std.proofs.Math.Path.{refl}
use Rattle.std.proofs.Math.Bool.{true, false}
use Rattle.rules.specs.Numbers.{StreamFault, Code, of_stream, section_due, no_section, unreadable}
use Rattle.rules.specs.Calls.{Event, Fed, goes, faults, Given, sound, unsound, Ended, is_whole, broken, Own, feed, section, end, reset, Out, refuse, of_fed, of_given, of_ended, map_out, Machine, act, either, request, Stream, asking, first, act_on}
use Rattle.rules.specs.Shown.{Shown, Fate, unopened, spent, ended, dropped, refused, lost, nothing, plus_feed, plus_bytes, plus_section, fedly, mine}
use Rattle.traces.specs.Follow.{Shut, goes_on, Next, Tale}

-- accepted feeds and sections lead a fresh request stream to r, showing s
pub data Reached {M : Machine} : Shown M → M.Request → Type 0 where
  at_first : Reached nothing M.new
  by_feed : {s : Shown M} {r r' : M.Request} {allow u h : ℕ} {piece : List ℕ} {e : Event}
      → Reached s r → M.due r ≡ false → M.feed r allow piece ≡ goes u h e r' → Reached (plus_feed u h e piece s) r'
  by_section : {s : Shown M} {r r' : M.Request} {b : M.Block}
      → Reached s r → M.due r ≡ true → M.readable b ≡ true → M.give r b ≡ sound r' → Reached (plus_section b s) r'

-- how a request stream that runs no more came to its fate
pub data Story {M : Machine} : Fate → Shown M → Type 0 where
  not_yet : Story unopened nothing
  never : Story spent nothing
  to_the_end : {s : Shown M} {r : M.Request} → Reached s r → M.due r ≡ false → M.finish r ≡ is_whole → Story ended s
  given_up : {s : Shown M} {r : M.Request} → Reached s r → Story dropped s
  cut_off : {s : Shown M} {r : M.Request} → Reached s r → Story lost s
  bad_feed : {s : Shown M} {r : M.Request} {allow u h : ℕ} {piece : List ℕ} {k : Code}
      → Reached s r → M.due r ≡ false → M.feed r allow piece ≡ faults k u h → Story (refused k) (plus_bytes u h piece s)
  bad_section : {s : Shown M} {r : M.Request} {b : M.Block} {k : StreamFault}
      → Reached s r → M.due r ≡ true → M.readable b ≡ true → M.give r b ≡ unsound k → Story (refused (of_stream k)) (plus_section b s)
  bad_end : {s : Shown M} {r : M.Request} {k : Code} → Reached s r → M.due r ≡ false → M.finish r ≡ broken k → Story (refused k) s

-- the stream that is in the row
pub data Asks {M : Machine} : Shown M → Stream M → Type 0 where
  asks : {s : Shown M} {r : M.Request} → Reached s r → Asks s (asking r)

module _ {M : Machine} where
  pub shut : {f : Fate} {s : Shown M} → Story f s → Shut f
  shut not_yet = tt
  shut never = tt
  shut (to_the_end r d e) = tt
  shut (given_up r) = tt
  shut (cut_off r) = tt
  shut (bad_feed r d e) = tt
  shut (bad_section r d b e) = tt
  shut (bad_end r d e) = tt

  cut : {s : Shown M} {x : Stream M} → Asks s x → Story lost s
  cut (asks t) = cut_off t

  module _ (kept : M.Kept) (s : Shown M) (r : M.Request) (t : Reached s r) where
    abbrev Then : Own M → Out M.Request → Type 0
    Then o x = Next Asks Story o s (map_out (λ x. record { stream = asking x; kept = kept }) x)

    at_feed : (allow : ℕ) (piece : List ℕ) (d : Bool) → M.due r ≡ d → (x : Fed M.Request) → M.feed r allow piece ≡ x → Then (feed allow piece) (either d (refuse section_due) (of_fed x))
    unfolding map_out mine either of_fed fedly
    at_feed allow piece true e x q = tt
    at_feed allow piece false e (goes u h ev r') q = goes_on (asks (by_feed t e q))
    at_feed allow piece false e (faults k u h) q = bad_feed t e q

    at_section : (b : M.Block) (d : Bool) → M.due r ≡ d → (c : Bool) → M.readable b ≡ c → (x : Given M.Request) → M.give r b ≡ x
        → Then (section b) (either d (either c (of_given x) (refuse unreadable)) (refuse no_section))
    unfolding map_out mine either of_given
    at_section b true e true w (sound r') q = goes_on (asks (by_section t e w q))
    at_section b true e true w (unsound k) q = bad_section t e w q
    at_section b true e false w x q = tt
    at_section b false e c w x q = tt

    at_end : (d : Bool) → M.due r ≡ d → (x : Ended) → M.finish r ≡ x → Then end (either d (refuse section_due) (of_ended x))
    unfolding map_out mine either of_ended
    at_end true e x q = tt
    at_end false e is_whole q = to_the_end t e q
    at_end false e (broken k) q = bad_end t e q

    at_own : (o : Own M) → Then o (act M r o)
    unfolding act map_out mine
    at_own (feed allow piece) = at_feed allow piece (M.due r) refl (M.feed r allow piece) refl
    at_own (section b) = at_section b (M.due r) refl (M.readable b) refl (M.give r b) refl
    at_own end = at_end (M.due r) refl (M.finish r) refl
    at_own reset = given_up t

  by_itself : {s : Shown M} {x : Stream M} (kept : M.Kept) (o : Own M) → Asks s x → Next Asks Story o s (act_on kept x o)
  unfolding act_on
  by_itself {s} kept o (asks {r = r} t) = at_own kept s r t o

  pub story : Tale M request Asks Story
  story = record {
    begins = unfold first in asks at_first;
    not_yet = not_yet;
    never = never;
    cut_off = λ {s} {x} t. cut t;
    shut = λ {f} {s} t. shut t;
    own = λ {s} {x} kept o t. by_itself kept o t;
  }
