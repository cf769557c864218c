-- The end of a stream of either kind, in numbers. Assumes nothing.
use Rattle.std.specs.Prelude.{◌≡◌, List}
use Rattle.std.proofs.Math.Path.{refl}
use Rattle.std.proofs.Common.{sym, ap, ◌∙◌, arith, eq-eqb, ne_eqb}
use Prim.Native.Nat.{ℕ, zero, suc, ◌<◌, ◌≤◌}
use Rattle.rules.specs.Numbers.{CLOSED-CRITICAL-STREAM, FRAME-ERROR, REQUEST-INCOMPLETE, MESSAGE-ERROR, ACCEPTED, SECTION-DUE, of_connection, closed_critical_stream, code_number}
use Rattle.rules.specs.Reading.{End, complete, lacking, Verdict, whole, fault, waits, ended}
use Rattle.rules.specs.Message.{Message, unequal, all_come, lacks, ends, tally}
use Rattle.rules.specs.Request.{Rules, request, end_of_ended, code_of}
use Rattle.rules.specs.Control.{Control, control}
use Rattle.meaning.specs.Machine.{fresh, need, State, in_type, in_length, in_payload, due, finish}
use Rattle.meaning.specs.Hom.{map_state}
use Rattle.varint.specs.ByByte.{prog}
use Rattle.frames.specs.Modes.{IN-TYPE, HEADER-SECTION-DUE, TRAILERS-DUE, IN-SETTINGS, OPENING, TRAILED, mode_of, at_waiting, at_payload}
use Rattle.frames.specs.declared.Cells.{Cells}
use Rattle.frames.specs.Both.{Place, of_request, of_control}
use Rattle.frames.specs.Uses.{stated_of, place_of, Stands, a_place, any_set}
use Rattle.frames.specs.Heads.{head_state}
use Rattle.frames.specs.Answers.{mode_state, state_at, state_of, StandsIn}

-- ---- what an end says

-- accepted if it is whole, a section is due, or the code
unfoldable pub verdict_number : Verdict → ℕ
verdict_number whole = ACCEPTED
verdict_number (fault code place) = code_number code
verdict_number (waits place) = SECTION-DUE

unfoldable pub end_number : End → ℕ
end_number complete = ACCEPTED
end_number (lacking code) = code_number code

-- between two frames, and inside one
unfoldable pub end_at : Place → End
end_at (of_request m) = end_of_ended (ends m)
end_at (of_control c) = lacking (of_connection closed_critical_stream)

unfoldable pub cut_at : Place → ℕ
cut_at (of_request m) = FRAME-ERROR
cut_at (of_control c) = CLOSED-CRITICAL-STREAM

unfoldable pub end_of : State Place → ℕ
end_of (in_type fresh p) = end_number (end_at p)
end_of (in_type (need k v) p) = cut_at p
end_of (in_length t g p) = cut_at p
end_of (in_payload u k left p) = cut_at p
end_of (due t p) = SECTION-DUE

-- THE END of these cells
abbrev pub Ends : Cells → ℕ → Type 0
Ends c r = (p : Place) (k : List ℕ) → StandsIn c p → r ≡ end_of (state_of c p k)

-- ---- it is the rules' own

ended_number : (e : End) (place : ℕ) → end_number e ≡ verdict_number (ended e place)
unfolding end_number verdict_number ended
ended_number complete place = refl
ended_number (lacking code) place = refl

-- A REQUEST STREAM'S END, and A CONTROL STREAM'S
pub request_end : (R : Rules) (place : ℕ) (s : State Message) → end_of (map_state of_request s) ≡ verdict_number (finish (request R) place s)
unfolding end_of map_state finish end_at cut_at verdict_number
request_end R place (in_type fresh m) = ended_number (end_of_ended (ends m)) place
request_end R place (in_type (need k v) m) = refl
request_end R place (in_length t g m) = refl
request_end R place (in_payload u k left m) = refl
request_end R place (due t m) = refl

pub control_end : (place : ℕ) (s : State Control) → end_of (map_state of_control s) ≡ verdict_number (finish control place s)
unfolding end_of map_state finish end_at cut_at verdict_number end_number ended
control_end place (in_type fresh c) = refl
control_end place (in_type (need k v) c) = refl
control_end place (in_length t g c) = refl
control_end place (in_payload u k left c) = refl
control_end place (due t c) = refl

-- ---- laws: between two frames

abbrev pub tally_of : (phase has stated sum : ℕ) → ℕ
tally_of phase has stated sum = end_number (end_at (place_of phase has stated sum))

module _ (h n m : ℕ) where
  pub tally_control : (phase : ℕ) → TRAILED < phase → CLOSED-CRITICAL-STREAM ≡ tally_of phase h n m
  unfolding end_number end_at place_of
  tally_control zero l = absurd (omega arith)
  tally_control (suc zero) l = absurd (omega arith)
  tally_control (suc (suc zero)) l = absurd (omega arith)
  tally_control (suc (suc (suc zero))) l = refl
  tally_control (suc (suc (suc (suc k)))) l = refl

  pub tally_opening : (phase : ℕ) → phase ≡ OPENING → REQUEST-INCOMPLETE ≡ tally_of phase h n m
  unfolding end_number end_at place_of end_of_ended ends code_of
  tally_opening phase e = rw e refl

  -- behind a header section it is the tally's
  tally_behind : (phase : ℕ) → (TRAILED < phase → ⊥) → (phase ≡ OPENING → ⊥) → end_number (end_of_ended (tally (stated_of h n) m)) ≡ tally_of phase h n m
  unfolding end_at place_of ends
  tally_behind zero l z = absurd (z refl)
  tally_behind (suc zero) l z = refl
  tally_behind (suc (suc zero)) l z = refl
  tally_behind (suc (suc (suc k))) l z = absurd (l (omega arith))

  abbrev Behind : ℕ → Type 0
  Behind phase = (TRAILED < phase → ⊥) × (phase ≡ OPENING → ⊥)

  free : h ≡ 0 → ACCEPTED ≡ end_number (end_of_ended (tally (stated_of h n) m))
  unfolding end_number end_of_ended tally stated_of
  free e = rw e refl

  pub tally_free : (phase : ℕ) → Behind phase → h ≡ 0 → ACCEPTED ≡ tally_of phase h n m
  tally_free phase b e = free e ∙ tally_behind phase b.0 b.1

stated_some : (h n m : ℕ) → (h ≡ 0 → ⊥) → end_number (end_of_ended (tally (stated_of (suc 0) n) m)) ≡ end_number (end_of_ended (tally (stated_of h n) m))
unfolding stated_of
stated_some zero n m z = absurd (z refl)
stated_some (suc h) n m z = refl

equal_all : (n m : ℕ) → m ≡ n → tally (stated_of 1 n) m ≡ all_come
unfolding tally stated_of
equal_all n m e = let x = eq-eqb m n e in rw (x, tally) refl

unequal_lacks : (n m : ℕ) → (m ≡ n → ⊥) → tally (stated_of 1 n) m ≡ lacks unequal
unfolding tally stated_of
unequal_lacks n m e = let x = ne_eqb m n e in rw (x, tally) refl

equal_tally : (n m : ℕ) → m ≡ n → ACCEPTED ≡ end_number (end_of_ended (tally (stated_of 1 n) m))
unfolding end_number end_of_ended
equal_tally n m e = sym (ap (λ t. end_number (end_of_ended t)) (equal_all n m e))

unequal_tally : (n m : ℕ) → (m ≡ n → ⊥) → MESSAGE-ERROR ≡ end_number (end_of_ended (tally (stated_of 1 n) m))
unfolding end_number end_of_ended code_of
unequal_tally n m e = sym (ap (λ t. end_number (end_of_ended t)) (unequal_lacks n m e))

module _ (h n m : ℕ) (z : h ≡ 0 → ⊥) (phase : ℕ) (b : Behind h n m phase) where
  pub tally_equal : m ≡ n → ACCEPTED ≡ tally_of phase h n m
  tally_equal e = equal_tally n m e ∙ stated_some h n m z ∙ tally_behind h n m phase b.0 b.1

  pub tally_unequal : (m ≡ n → ⊥) → MESSAGE-ERROR ≡ tally_of phase h n m
  tally_unequal e = unequal_tally n m e ∙ stated_some h n m z ∙ tally_behind h n m phase b.0 b.1

-- ---- laws: the cells

-- all places that the numbers mean end alike
ends_alike : {h n m phase : ℕ} {p : Place} → Stands h n m phase p → end_number (end_at (place_of phase h n m)) ≡ end_number (end_at p)
unfolding place_of end_at
ends_alike a_place = refl
ends_alike {p = of_control c} (any_set k s) = refl
ends_alike {p = of_request m} (any_set k s) = absurd s

abbrev pub cut_of : (phase : ℕ) → ℕ
cut_of phase = cut_at (place_of phase 0 0 0)

same_cut : (h n m phase : ℕ) → cut_of phase ≡ cut_at (place_of phase h n m)
unfolding place_of cut_at
same_cut h n m zero = refl
same_cut h n m (suc zero) = refl
same_cut h n m (suc (suc zero)) = refl
same_cut h n m (suc (suc (suc zero))) = refl
same_cut h n m (suc (suc (suc (suc k)))) = refl

cuts_alike : {h n m phase : ℕ} {p : Place} → Stands h n m phase p → cut_of phase ≡ cut_at p
unfolding place_of cut_at
cuts_alike {h} {n} {m} {phase} a_place = same_cut h n m phase
cuts_alike {p = of_control c} (any_set k s) = refl
cuts_alike {p = of_request m} (any_set k s) = absurd s

pub end_due : (c : Cells) → HEADER-SECTION-DUE ≤ c.mode → c.mode < IN-SETTINGS → Ends c SECTION-DUE
unfolding mode_state end_of
end_due c h l p k st = at_waiting (λ m. SECTION-DUE ≡ end_of (mode_state m c.acc c.due c.ftype p k)) (λ x. refl) c.mode h l

fresh_end : (mode a d t : ℕ) (p : Place) (k : List ℕ) → mode ≡ IN-TYPE → d ≡ 0 → end_number (end_at p) ≡ end_of (state_at mode a d t p k)
unfolding mode_state mode_of head_state prog end_of
fresh_end mode a d t p k e f = rw (e, f) refl

pub end_between : (c : Cells) {r : ℕ} → c.mode ≡ IN-TYPE → c.due ≡ 0 → r ≡ tally_of c.phase c.has c.stated c.sum → Ends c r
end_between c e f g p k st = g ∙ ends_alike st ∙ fresh_end c.mode c.acc c.due c.ftype p k e f

-- inside a frame
cut_end : (mode a d t : ℕ) (p : Place) (k : List ℕ) → (mode ≡ IN-TYPE → d ≡ 0 → ⊥) → (mode ≡ HEADER-SECTION-DUE → ⊥) → (mode ≡ TRAILERS-DUE → ⊥) → cut_at p ≡ end_of (state_at mode a d t p k)
unfolding mode_state mode_of head_state prog end_of
cut_end zero a zero t p k z s v = absurd (z refl refl)
cut_end zero a (suc d) t p k z s v = refl
cut_end (suc zero) a d t p k z s v = refl
cut_end (suc (suc m)) a d t p k z s v = at_payload (λ x. cut_at p ≡ end_of (mode_state x a d t p k)) (λ u. refl) (suc (suc m)) (omega arith) s v

pub cut_control : (phase : ℕ) → TRAILED < phase → CLOSED-CRITICAL-STREAM ≡ cut_of phase
unfolding cut_at place_of
cut_control zero l = absurd (omega arith)
cut_control (suc zero) l = absurd (omega arith)
cut_control (suc (suc zero)) l = absurd (omega arith)
cut_control (suc (suc (suc zero))) l = refl
cut_control (suc (suc (suc (suc k)))) l = refl

pub cut_request : (phase : ℕ) → (TRAILED < phase → ⊥) → FRAME-ERROR ≡ cut_of phase
unfolding cut_at place_of
cut_request zero l = refl
cut_request (suc zero) l = refl
cut_request (suc (suc zero)) l = refl
cut_request (suc (suc (suc k))) l = absurd (l (omega arith))

pub end_inside : (c : Cells) {r : ℕ} → (c.mode ≡ IN-TYPE → c.due ≡ 0 → ⊥) → (c.mode ≡ HEADER-SECTION-DUE → ⊥) → (c.mode ≡ TRAILERS-DUE → ⊥) → r ≡ cut_of c.phase → Ends c r
end_inside c z six seven e p k st = e ∙ cuts_alike st ∙ cut_end c.mode c.acc c.due c.ftype p k z six seven
