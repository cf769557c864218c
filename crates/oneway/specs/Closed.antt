-- A one-way stream ended or reset, in numbers; and where a control stream goes on behind a judged payload. Assumes nothing.
use Rattle.std.specs.Prelude.{◌≡◌, List, [], Bool, true, false, length, Result, Ok, Err}
use Rattle.std.proofs.Math.Path.{refl, sym, ap}
use Rattle.std.proofs.Common.{◌∙◌, arith}
use Prim.Native.Nat.{ℕ, zero, suc, ◌≤◌}
use Rattle.std.proofs.Math.Option.{Option, none, some}
use Rattle.rules.specs.Numbers.{CLOSED-CRITICAL-STREAM, Code, of_connection, closed_critical_stream, id_error, code_number}
use Rattle.rules.specs.declared.codes.Code as declared-code
use Rattle.rules.specs.Named.{code_of}
use Rattle.rules.specs.Reading.{Kept, settings, goaway, max_push_id, cancel_push, Next, stop, go, fault, ended}
use Rattle.rules.specs.Control.{Settings, settings_of, Control, unset, set, control, only, above, below, after_settings, after_integer, after_goaway, after_max_push, judged}
use Rattle.rules.specs.Integers.{integer}
use Rattle.rules.specs.OneWay.{OneWay, one_way_read, fault_in, closed}
use Rattle.meaning.specs.Machine.{fresh, need, State, in_type, in_length, in_payload, due, Outcome, finish, finished, settled, supplied, between}
use Rattle.meaning.specs.OneWayFeed.{OneState, in_stream_type, in_control, in_qpack, in_skipped, lives, controlled, Call, nothing_done, calls, Done}
use Rattle.meaning.specs.EveryFeed.{ReadsOn}
use Rattle.meaning.specs.OneWays.{Came, still_untyped, type_refused, a_control_stream, a_qpack_stream, a_skipped_stream, ReadsOnOne}
use Rattle.meaning.proofs.OneWays.{calls_read, always_reads}
use Rattle.varint.specs.ByByte.{prog}
use Rattle.frames.specs.Modes.{mode_of}
use Rattle.frames.specs.Uses.{any_set}
use Rattle.frames.specs.Heads.{head_state}
use Rattle.frames.specs.Answers.{mode_state}
use Rattle.frames.specs.declared.Cells.{Cells}
use Rattle.oneway.specs.declared.OneWay as numbers
use Rattle.oneway.specs.Stands.{one_state_at, one_state, OneStands}
use Rattle.oneway.specs.Frames.{frame_cells}
use Rattle.record.specs.Kinds.{CONTROL, DECODER}

-- ---- ended or reset

-- 0: freed without fault, else the code
unfoldable pub closes : OneState → ℕ
closes (in_stream_type g) = 0
closes (in_control s) = CLOSED-CRITICAL-STREAM
closes (in_qpack q) = CLOSED-CRITICAL-STREAM
closes in_skipped = 0

-- the number of a result
unfoldable pub number_in : Result Unit declared-code.Code → ℕ
number_in (Ok u) = 0
number_in (Err c) = code_number (code_of c)

abbrev pub Closes : numbers.OneWay → Result Unit declared-code.Code → Type 0
Closes w r = (p : Control) (k : List ℕ) → number_in r ≡ closes (one_state w p k)

-- a kind of no one-way stream, or one that is not known yet, is freed
pub closes_none : (kind : ℕ) (c : Cells) (p : Control) (k : List ℕ) → (CONTROL ≤ kind → kind ≤ DECODER → ⊥) → 0 ≡ closes (one_state_at kind c p k)
unfolding closes one_state_at
closes_none zero c p k h = refl
closes_none (suc zero) c p k h = refl
closes_none (suc (suc zero)) c p k h = refl
closes_none (suc (suc (suc zero))) c p k h = absurd (h (omega arith) (omega arith))
closes_none (suc (suc (suc (suc zero)))) c p k h = absurd (h (omega arith) (omega arith))
closes_none (suc (suc (suc (suc (suc zero))))) c p k h = absurd (h (omega arith) (omega arith))
closes_none (suc (suc (suc (suc (suc (suc n)))))) c p k h = refl

-- ---- it is the rules' own

unfoldable pub close_number : Option Code → ℕ
close_number none = 0
close_number (some code) = code_number code

control_ends : (n : ℕ) (s : State Control) → ReadsOn s → finished control n (settled control n [] (Outcome.lives s)) ≡ fault (of_connection closed_critical_stream) n
unfolding finished settled supplied finish ended
control_ends n (in_type fresh p) r = refl
control_ends n (in_type (need k v) p) r = refl
control_ends n (in_length t g p) r = refl
control_ends n (in_payload u k left p) r = refl
control_ends n (due t p) r = absurd r

closed_at : (seen : List ℕ) (d : Done) (s : OneState) (w : OneWay) → Came seen d w → d.after ≡ lives s → ReadsOnOne s → close_number (closed w) ≡ closes s
unfolding close_number closed closes fault_in
closed_at seen d s w (still_untyped {g = g} a f q n) e r = let x : s ≡ in_stream_type g = cc in rw x refl
closed_at seen d s w (type_refused {code = code} a f q n) e r = let z : ◌≡◌ {A = ℕ} 0 1 = cc in absurd (omega arith)
closed_at seen d s w (a_control_stream (Outcome.lives t) a f q h v) e r =
    let x : s ≡ in_control t = unfold controlled in cc in
    let y = v ∙ control_ends (length d.bytes) t (rw x at r) in
    ap (λ u. close_number (fault_in u)) y ∙ sym (ap closes x)
closed_at seen d s w (a_control_stream (Outcome.dies code) a f q h v) e r = let z : ◌≡◌ {A = ℕ} 0 1 = unfold controlled in cc in absurd (omega arith)
closed_at seen d s w (a_qpack_stream {q = q} a f n) e r = let x : s ≡ in_qpack q = cc in rw x refl
closed_at seen d s w (a_skipped_stream a f q n) e r = let x : s ≡ in_skipped = cc in rw x refl

-- A ONE-WAY STREAM'S END: whatever the feeds were, closing it answers what the bytes consumed mean
pub closed_is : (seen : List ℕ) (cs : List Call) (s : OneState) → let d = calls seen nothing_done cs in d.after ≡ lives s → close_number (closed (one_way_read seen d.bytes)) ≡ closes s
closed_is seen cs s e = let d = calls seen nothing_done cs in closed_at seen d s (one_way_read seen d.bytes) (calls_read seen cs) e (always_reads seen cs s e)

-- ---- behind a judged payload

-- a place that a judgement leaves has its SETTINGS
data IsSet : Next Control → Type 0 where
  stopped : {code : Code} → IsSet (stop code)
  goes : {s : Settings} {g m : Option ℕ} → IsSet (go (set s g m))

set_unless : (bad : Bool) (code : Code) (s : Settings) (g m : Option ℕ) → IsSet (elim bad [ true ↦ stop code | false ↦ go (set s g m) ])
set_unless true code s g m = stopped
set_unless false code s g m = goes

set_settings : (n : Next Settings) → IsSet (after_settings n)
unfolding after_settings
set_settings (stop code) = stopped
set_settings (go s) = goes

set_integer : (f : Kept) (s : Settings) (g m o : Option ℕ) → IsSet (after_integer f s g m o)
unfolding after_integer after_goaway after_max_push
set_integer f s g m none = stopped
set_integer settings s g m (some id) = stopped
set_integer goaway s g m (some id) = set_unless (above id g) (of_connection id_error) s (some id) m
set_integer max_push_id s g m (some id) = set_unless (below id m) (of_connection id_error) s g (some id)
set_integer cancel_push s g m (some id) = stopped

judged_set : (f : Kept) (p : Control) (all : List ℕ) → IsSet (judged f p all)
unfolding judged
judged_set f unset all = set_settings (settings_of all)
judged_set f (set s g m) all = set_integer f s g m (only (integer 0 all))

stands_set : {n : Next Control} → IsSet n → (q : Control) → n ≡ go q → OneStands 3 (frame_cells 4) q []
unfolding OneStands
stands_set stopped q e = let z : ◌≡◌ {A = ℕ} 0 1 = cc in absurd (omega arith)
stands_set (goes {s = s} {g = g} {m = m}) q e = let x : set s g m ≡ q = cc in rw (sym x) (any_set 0 tt, refl)

-- THE STREAM THAT EVENT 5 LEAVES is, once the payload is judged good, between two frames at the place that the judgement gives
pub behind_judged : (f : Kept) (p q : Control) (all : List ℕ) → judged f p all ≡ go q → OneStands 3 (frame_cells 4) q []
behind_judged f p q all e = stands_set (judged_set f p all) q e

pub behind_between : (q : Control) → one_state_at CONTROL (frame_cells 4) q [] ≡ in_control (between q)
unfolding one_state_at mode_state mode_of head_state prog
behind_between q = refl
