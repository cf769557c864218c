-- In every pair that calls lead to, what each stream is reading fits the place where it is. Assumes nothing.
use Rattle.std.specs.Prelude.{◌≡◌, ℕ, zero, suc, [], ◌∷◌, Bool, replicate}
use Rattle.std.proofs.Common.{subst, arith}
use Rattle.std.proofs.Math.Decide.{ℕ_discrete}
use Rattle.std.proofs.Math.Bool.{true, false}
use Rattle.std.proofs.Math.Option.{Option, none, some}
use Rattle.rules.specs.Numbers.{ConnectionFault, section_due, unreadable}
use Rattle.rules.specs.Block.{lines}
use Rattle.rules.specs.Reading.{Verdict, whole, fault, waits, Next, stop, go}
use Rattle.rules.specs.Message.{Message}
use Rattle.rules.specs.Request.{document, request}
use Rattle.meaning.specs.Machine as M
use Rattle.meaning.specs.Machine.{State, Outcome}
use Rattle.meaning.specs.Feed as F
use Rattle.meaning.specs.OneWayFeed as O
use Rattle.rules.specs.Calls as trace
use Rattle.rules.specs.Calls.{Own, feed, section, end, reset, Out, refuse, step, leave, of_fed, of_given, of_ended, of_closed, map_out, either, act, act₁, pick, Kind, one_way, Stream, asking, telling, Slot, free, held, Row, Pair, Held, Call, Answer, find, put, fresh, first, act_on, call}
use Rattle.traces.specs.Row.{Seated, lowest, behind_one}
use Rattle.traces.specs.Went.{Went, restarted, still_dead, by_house, barring, faulting, dying, opening, stepping, leaving, sending, went}
use Rattle.demands.specs.Streams.{Keeps, types_in, is_due, fed_by, is_readable, section_of, given_by, ended_by, heard_by, close_of, streams}
use Rattle.demands.specs.Suits.{RequestFits, OutcomeSuits, RequestSuits, request_suits}
use Rattle.demands.specs.Overheard.{OneSuits, OneAfter, one_suits}

-- ---- the streams of a row

abbrev pub StreamSuits : Stream streams → Type 0
StreamSuits (asking s) = RequestSuits s
StreamSuits (telling w) = OneSuits w

abbrev pub SlotSuits : Slot streams → Type 0
SlotSuits free = Unit {0}
SlotSuits (held id s) = StreamSuits s

abbrev pub RowSuits : Row streams → Type 0
RowSuits [] = Unit {0}
RowSuits (x ∷ row) = SlotSuits x × RowSuits row

pub found_suits : (id : ℕ) (s : Stream streams) (row : Row streams) → RowSuits row → find id row ≡ some s → StreamSuits s
unfolding find pick
found_suits id s [] h e = let z : ◌≡◌ {A = ℕ} 0 1 = cc in absurd (omega arith)
found_suits id s (free ∷ row) h e = found_suits id s row h.1 e
found_suits id s (held j t ∷ row) h e = by (ℕ_discrete j id) (found_suits id s row h.1) e
  where
    by : (d : Dec (j ≡ id)) → (find id row ≡ some s → StreamSuits s) → pick d (some t) (find id row) ≡ some s → StreamSuits s
    by (yes q) on e = let z : t ≡ s = cc in subst StreamSuits z h.0
    by (no n) on e = on e

put_suits : (id : ℕ) (x : Slot streams) → SlotSuits x → (row : Row streams) → RowSuits row → RowSuits (put id x row)
unfolding put pick
put_suits id x f [] h = tt
put_suits id x f (free ∷ row) h = (tt, put_suits id x f row h.1)
put_suits id x f (held j t ∷ row) h = by (ℕ_discrete j id) (put_suits id x f row h.1)
  where
    by : (d : Dec (j ≡ id)) → RowSuits (put id x row) → RowSuits (pick d (x ∷ row) (held j t ∷ put id x row))
    by (yes q) r = (f, h.1)
    by (no n) r = (h.0, r)

seat_suits : (x : Slot streams) → SlotSuits x → {row row' : Row streams} → Seated x row row' → RowSuits row → RowSuits row'
seat_suits x f lowest h = (f, h.1)
seat_suits x f (behind_one q) h = (h.0, seat_suits x f q h.1)

-- ---- a step

abbrev OutSuits : Out (Held streams) → Type 0
OutSuits (refuse h) = Unit {0}
OutSuits (step g x) = StreamSuits x.stream
OutSuits (leave l) = Unit {0}
OutSuits (trace.fault k u h) = Unit {0}

module _ (k : Keeps) where
  abbrev asks : State Message → Held streams
  asks x = record { stream = asking x; kept = k }

  abbrev AskSuits : Out (State Message) → Type 0
  AskSuits o = OutSuits (map_out asks o)

  either_suits : (b : Bool) (x y : Out (State Message)) → AskSuits x → AskSuits y → AskSuits (either b x y)
  unfolding either
  either_suits true x y f g = f
  either_suits false x y f g = g

  fed_suits : (u h : ℕ) (e : F.Event) (o : Outcome Message) → OutcomeSuits (request document) RequestFits o → AskSuits (of_fed (fed_by u h e o))
  unfolding of_fed fed_by map_out
  fed_suits u h e (M.lives s) f = f
  fed_suits u h e (M.dies n) f = tt

  given_suits : (n : Next Message) → AskSuits (of_given (given_by (M.answered n)))
  unfolding of_given given_by M.answered map_out
  given_suits (stop code) = tt
  given_suits (go m) = tt

  ended_suits : (v : Verdict) → AskSuits (of_ended (ended_by v))
  unfolding of_ended ended_by map_out
  ended_suits whole = tt
  ended_suits (fault code place) = tt
  ended_suits (waits place) = tt

  ask_suits : (s : State Message) → RequestSuits s → (o : Own streams) → OutSuits (act_on k (asking s) o)
  unfolding act_on act map_out is_due either M.given
  ask_suits s f (feed allow piece) =
      let g = F.feed (request document) allow s piece in either_suits (is_due s) (refuse section_due) (of_fed (fed_by g.used g.heads g.event g.after)) tt (fed_suits g.used g.heads g.event g.after (request_suits allow s f piece).after)
  ask_suits (M.in_type g m) f (section b) = tt
  ask_suits (M.in_length t g m) f (section b) = tt
  ask_suits (M.in_payload u l left m) f (section b) = tt
  ask_suits (M.due t m) f (section b) = either_suits (is_readable (lines b)) (of_given (given_by (M.given (request document) (section_of (lines b)) (M.due t m)))) (refuse unreadable) (given_suits ((request document).given t m (section_of (lines b)))) tt
  ask_suits s f end = either_suits (is_due s) (refuse section_due) (of_ended (ended_by (M.finish (request document) 0 s))) tt (ended_suits (M.finish (request document) 0 s))
  ask_suits s f reset = tt

  abbrev Both : Type 0
  Both = record { state : O.OneState; kept : Keeps }

  abbrev TellSuits : Out Both → Type 0
  TellSuits o = OutSuits (map_out (λ x. record { stream = telling x.state; kept = x.kept }) o)

  heard_suits : (u h : ℕ) (e : O.OneEvent) (o : O.OneOutcome) → OneAfter o → TellSuits (of_fed (heard_by k u h e o))
  unfolding of_fed heard_by map_out
  heard_suits u h e (O.lives s) f = f
  heard_suits u h e (O.dies n) f = tt

  closed_suits : (c : Option ConnectionFault) → TellSuits (of_closed c)
  unfolding of_closed map_out
  closed_suits none = tt
  closed_suits (some c) = tt

  tell_suits : (w : O.OneState) → OneSuits w → (o : Own streams) → OutSuits (act_on k (telling w) o)
  unfolding act_on act₁ map_out
  tell_suits w f (feed allow piece) = let g = O.feed (types_in k) allow w piece in heard_suits g.used g.heads g.event g.after (one_suits (types_in k) allow w f piece).after
  tell_suits w f (section b) = tt
  tell_suits w f end = closed_suits (close_of w)
  tell_suits w f reset = closed_suits (close_of w)

act_suits : (k : Keeps) (s : Stream streams) → StreamSuits s → (o : Own streams) → OutSuits (act_on k s o)
act_suits k (asking s) f o = ask_suits k s f o
act_suits k (telling w) f o = tell_suits k w f o

-- ---- EVERY CALL KEEPS IT

first_suits : (k : Kind) → StreamSuits (first k)
unfolding first
first_suits trace.request = tt
first_suits one_way = tt

empty_suits : (n : ℕ) → RowSuits (replicate n free)
empty_suits zero = tt
empty_suits (suc n) = (tt, empty_suits n)

pub suits_fresh : RowSuits (fresh {M = streams}).row
unfolding fresh
suits_fresh = empty_suits 24

suits_went : (p p' : Pair streams) (c : Call streams) (a : Answer) → RowSuits p.row → Went p c a p' → RowSuits p'.row
suits_went p p' c a h restarted = suits_fresh
suits_went p p' c a h (still_dead e) = h
suits_went p p' c a h (by_house e) = h
suits_went p p' c a h (barring e k n l b) = h
suits_went p p' c a h (faulting {id = id} e f) = put_suits id free tt p.row h
suits_went p p' c a h (dying e f) = h
suits_went p p' c a h (opening {id = id} {k = k} e k' n l b q) = seat_suits (held id (first k)) (first_suits k) q h
suits_went p p' c a h (stepping {id = id} {o = o} {s = s} x e f w) = put_suits id (held id x.stream) (subst OutSuits w (act_suits p.conn.kept s (found_suits id s p.row h f) o)) p.row h
suits_went p p' c a h (leaving {id = id} e f) = put_suits id free tt p.row h
suits_went p p' c a h (sending e g l) = h

pub suits_call : (c : Call streams) (p : Pair streams) → RowSuits p.row → RowSuits (call c p).after.row
suits_call c p h = suits_went p (call c p).after c (call c p).answer h (went c p)
