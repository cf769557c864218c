-- WHY A REQUEST STREAM WAS REFUSED: a fault of its bytes is kept apart from one of its end by the bytes themselves. From the same of one stream by itself.
-- Assumes nothing.
use Rattle.std.specs.Prelude.{◌≡◌, ℕ, List}
use Rattle.std.proofs.Common.{◌∙◌}
use Rattle.std.proofs.Math.Option.{some}
use Rattle.rules.specs.Numbers.{Code}
use Rattle.rules.specs.Calls.{Machine, request, kind_of, Pair, Call, fresh, trace}
use Rattle.rules.specs.Shown.{Shown, Fate, unopened, spent, running, ended, dropped, refused, lost, View, plus_bytes, plus_section, view}
use Rattle.traces.specs.Story.{at_first, Story, not_yet, never, to_the_end, given_up, cut_off, bad_feed, bad_section, bad_end, Asks, asks, story}
use Rattle.traces.specs.Follow.{Agrees, open_still, over, agrees}
use Rattle.traces.specs.Demands.{bad, Meaning, Struck, NoFault, verdict_of, Reads}

-- the last byte or section brought the fault, whatever follows; or the bytes have none, and it is the end's
pub data Why {M : Machine} (R : Meaning M) (k : Code) (s : Shown M) : Type 0 where
  of_the_bytes : Struck R k s.bytes s.sections → Why R k s
  of_the_end : NoFault R s.bytes s.sections → R.verdict s.bytes s.sections ≡ bad k → Why R k s

-- a refused stream has its reason; in the bytes of any other is no fault
abbrev pub Fares : {M : Machine} (R : Meaning M) → Fate → Shown M → Type 0
Fares R unopened s = NoFault R s.bytes s.sections
Fares R spent s = NoFault R s.bytes s.sections
Fares R running s = NoFault R s.bytes s.sections
Fares R ended s = NoFault R s.bytes s.sections
Fares R dropped s = NoFault R s.bytes s.sections
Fares R (refused k) s = Why R k s
Fares R lost s = NoFault R s.bytes s.sections

module _ {M : Machine} (R : Meaning M) (L : Reads R) where
  fares_story : {f : Fate} {s : Shown M} → Story f s → Fares R f s
  unfolding plus_bytes plus_section verdict_of
  fares_story not_yet = L.unhurt at_first
  fares_story never = L.unhurt at_first
  fares_story (to_the_end t d e) = L.unhurt t
  fares_story (given_up t) = L.unhurt t
  fares_story (cut_off t) = L.unhurt t
  fares_story (bad_feed {allow = allow} {u = u} {h = h} {piece = piece} {k = k} t d e) = of_the_bytes (L.in_feed allow u h piece k t d e).1
  fares_story (bad_section {b = b} {k = k} t d y e) = of_the_bytes (L.at_section b k t d y e).1
  fares_story (bad_end t d e) = of_the_end (L.unhurt t) (L.at_end t d ∙ (rw e))

  fares_agrees : {id : ℕ} {p : Pair M} {v : View M} → Agrees Asks Story id p v → Fares R v.fate v.shown
  fares_agrees (open_still a (asks t) f) = L.unhurt t
  fares_agrees (over t n) = fares_story t

  -- at every moment of every trace
  pub fares : (id : ℕ) → kind_of id ≡ some request → (cs : List (Call M)) → Fares R (view id (trace fresh cs)).fate (view id (trace fresh cs)).shown
  fares id q cs = fares_agrees (agrees story id cs q)
