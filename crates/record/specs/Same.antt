-- One record for each state, and one state for each record. Assumes nothing.
use Rattle.std.specs.Prelude.{◌≡◌, ℕ, zero, suc, ◌≤◌, ◌<◌}
use Rattle.std.proofs.Math.Path.{refl, ap}
use Rattle.std.proofs.Common.{sym, ◌∙◌, arith}
use mathlib.Core.List.{List, []}
use Rattle.std.proofs.Math.Option.{none, some}
use Rattle.rules.specs.Reading.{Part, Use}
use Rattle.rules.specs.Message.{opening, body, trailed}
use Rattle.rules.specs.Control.{unset, set}
use Rattle.rules.specs.OneWay.{encoder, decoder}
use Rattle.meaning.specs.Machine.{State, between, in_type, in_length}
use Rattle.meaning.specs.OneWayFeed.{in_stream_type, in_qpack, in_skipped}
use Rattle.varint.specs.ByByte.{prog, part_of}
use Rattle.frames.specs.Modes.{IN-TYPE, IN-LENGTH, IN-SKIPPED, HEADER-SECTION-DUE, TRAILERS-DUE, OPENING, UNSET, typing, sizing, paying, waiting, mode_number, mode_of, IsMode, is_mode, mode_view, mode_back, paying_late}
use Rattle.frames.specs.declared.Cells.{Cells}
use Rattle.frames.specs.Both.{Place, of_request, of_control}
use Rattle.frames.specs.Uses.{stated_of, place_of, Stands, a_place, any_set}
use Rattle.frames.specs.Heads.{head_state}
use Rattle.frames.specs.Answers.{mode_state, state_at, state_of, StandsIn, Sane}
use Rattle.record.specs.Kinds.{FREE, REQUEST, UNTYPED, CONTROL, ENCODER, DECODER, SKIPPED}
use Rattle.record.specs.declared.Record.{Record}
use Rattle.record.specs.declared.Stream.{Stream}
use Rattle.record.specs.declared.Reading.{Reading}
use Rattle.record.specs.declared.Reading.TheVariants as reading
use Rattle.record.specs.Row.{phase_of, stated_in, is_stated, length_of, sum_in, Numbers, numbers_of, place_in, record_at, cells_for, record_from, one_way_record, free_record}
use Rattle.record.specs.Sound.{Fit, cells_in, own_place, tidied, Sound, stream, Read, is_free, is_open, is_unsound, Written, is_record, is_none}
use Rattle.record.specs.Tidy.{in_type_numbers, in_length_numbers, due_numbers, payload_numbers, place_back, one_state, Tidier, tidy_less}

-- ---- the cells of a state mean that state

value_again : (d a : ℕ) → prog d (part_of (prog d a)).acc ≡ prog d a
unfolding prog part_of
value_again zero a = refl
value_again (suc d) a = refl

abbrev state_by : {P : Type 0} → Numbers → P → List ℕ → State P
state_by n p k = state_at n.mode n.acc n.due n.ftype p k

module _ {P : Type 0} (a d t : ℕ) (p : P) (k : List ℕ) where
  due_free : (x : Part) → state_at (mode_number (waiting x)) 0 0 0 p k ≡ state_at (mode_number (waiting x)) a d t p k
  unfolding mode_state
  due_free x = let w = mode_back (waiting x) in rw w refl

  payload_free : (u : Use) → state_at (mode_number (paying u)) a 0 0 p k ≡ state_at (mode_number (paying u)) a d t p k
  unfolding mode_state
  payload_free u = let w = mode_back (paying u) in rw w refl

  again : (q : Place) {mode : ℕ} → IsMode mode → (IN-SKIPPED ≤ mode → (mode ≡ HEADER-SECTION-DUE → ⊥) → (mode ≡ TRAILERS-DUE → ⊥) → 0 < a)
      → state_by (numbers_of (state_at mode a d t q [])) p k ≡ state_at mode a d t p k
  unfolding mode_state mode_of head_state
  again q (is_mode typing) s = ap (λ n. state_by n p k) (in_type_numbers a d t q [] IN-TYPE refl) ∙ ap (λ g. in_type g p) (value_again d a)
  again q (is_mode sizing) s = ap (λ n. state_by n p k) (in_length_numbers a d t q [] IN-LENGTH refl) ∙ ap (λ g. in_length t g p) (value_again d a)
  again q (is_mode (waiting x)) s = ap (λ n. state_by n p k) (due_numbers a d t q [] x (mode_number (waiting x)) refl) ∙ due_free x
  again q (is_mode (paying u)) s =
      let l = paying_late u in
      ap (λ n. state_by n p k) (payload_numbers a d t q [] (s l.0 l.1 l.2) u (mode_number (paying u)) refl) ∙ payload_free u

stands_back : (p : Place) → Stands (is_stated (stated_in p)) (length_of (stated_in p)) (sum_in p) (phase_of p) p
unfolding is_stated stated_in length_of sum_in phase_of place_of stated_of
stands_back (of_request opening) = a_place
stands_back (of_request (body none sum)) = a_place
stands_back (of_request (body (some n) sum)) = a_place
stands_back (of_request (trailed none sum)) = a_place
stands_back (of_request (trailed (some n) sum)) = a_place
stands_back (of_control unset) = a_place
stands_back (of_control (set s g m)) = any_set 0 tt

stands_as : {h n s phase : ℕ} {p : Place} → Stands h n s phase p
    → Stands (is_stated (stated_in (place_of phase h n s))) (length_of (stated_in (place_of phase h n s))) (sum_in (place_of phase h n s)) (phase_of (place_of phase h n s)) p
unfolding phase_of place_of
stands_as {h} {n} {s} {phase} a_place = stands_back (place_of phase h n s)
stands_as (any_set k i) = any_set 0 i

module _ (c : Cells) where
  own_back : place_in (state_of c (own_place c) []) ≡ own_place c
  own_back = place_back c.acc c.due c.ftype (own_place c) [] c.mode

  pub stands_again : (p : Place) → StandsIn c p → StandsIn (tidied c) p
  stands_again p st = let e = own_back in rw e (stands_as st)

  module _ (sane : Sane c) where
    pub state_again : {P : Type 0} (p : P) (k : List ℕ) → state_of (tidied c) p k ≡ state_of c p k
    state_again p k = again c.acc c.due c.ftype p k (own_place c) (mode_view c.mode sane.modes) sane.some

    pub tidied_twice : tidied (tidied c) ≡ tidied c
    tidied_twice = sym (one_state (tidied c) (own_place c) [] (stands_again (own_place c) a_place)) ∙ ap cells_for (state_again (own_place c) [])

-- ---- numbers that fit go on to fit

fit_again : (kind id : ℕ) (c : Cells) → Fit kind id c → Fit kind id (tidied c)
fit_again kind id c f =
    let s = f.sane in
    let h = f.shaped in
    let l : Tidier c (tidied c) = tidy_less c s h.phases refl in
    record {
      sane = record {
        modes = omega (arith, l.mode_same, s.modes);
        header = λ m. record {
          few = l.due_few;
          small = let e = l.due_same (omega (arith, m, l.mode_same)) in let g = (s.header (omega (arith, m, l.mode_same))).small in rw e (omega (arith, l.acc_less, g));
        };
        small = omega (arith, l.acc_less, s.small);
        type = omega (arith, l.type_less, s.type);
        some = λ a b d.
            (let e = l.mode_same in
            let a' : IN-SKIPPED ≤ c.mode = omega (arith, e, a) in
            let b' : (c.mode ≡ HEADER-SECTION-DUE → ⊥) = λ x. b (e ∙ x) in
            let d' : (c.mode ≡ TRAILERS-DUE → ⊥) = λ x. d (e ∙ x) in
            omega (arith, l.acc_same a' b' d', s.some a' b' d'));
        sums = omega (arith, l.sum_less, s.sums);
        stateds = omega (arith, l.stated_less, s.stateds);
      };
      shaped = record {
        opened = h.opened;
        known = h.known;
        ids = h.ids;
        request_id = h.request_id;
        one_way_id = h.one_way_id;
        phases = omega (arith, l.phase_same, h.phases);
        request_phase = λ e. omega (arith, l.phase_same, h.request_phase e);
        request_mode = λ e. omega (arith, l.mode_same, h.request_mode e);
        control_phase = λ e. omega (arith, l.phase_same, h.control_phase e);
        control_mode = λ e m. omega (arith, l.mode_same, h.control_mode e (omega (arith, m, l.mode_same)));
        bare_phase = λ e n. omega (arith, l.phase_same, h.bare_phase e n);
        bare_mode = λ e n. omega (arith, l.mode_same, h.bare_mode e n);
        bare = λ e. omega (arith, l.due_less, h.bare e);
      };
    }

-- ---- one answer

pub written_as : (s : Stream) (r : Record) → Written s r → Fit s.kind s.id s.cells
    → (p : Place) (k : List ℕ) → StandsIn s.cells p → r ≡ record_from s.kind s.id (state_of s.cells p k)
written_as s r (is_record f w) fit p k st = w p k st
written_as s r (is_none n e) fit p k st = absurd (n fit)

-- WHAT IS WRITTEN IS ONE RECORD, and WHAT IS READ IS ONE STREAM
pub one_written : (s : Stream) (r q : Record) → Written s r → Written s q → r ≡ q
one_written s r q (is_record f w) (is_record g v) = w (own_place s.cells) [] a_place ∙ sym (v (own_place s.cells) [] a_place)
one_written s r q (is_record f w) (is_none n e) = absurd (n f)
one_written s r q (is_none n e) (is_record f w) = absurd (n f)
one_written s r q (is_none n e) (is_none m d) = e ∙ sym d

pub free_unsound : (r : Record) → r ≡ free_record → Sound r → ⊥
free_unsound r e s = let k : r.kind ≡ FREE = ap (λ x. x.kind) e in omega (arith, s.fit.shaped.opened)

pub one_read : (r : Record) (s t : Reading) → Read r s → Read r t → s ≡ t
one_read r s t (is_free e p) (is_free f q) = p ∙ sym q
one_read r s t (is_free e p) (is_open f q) = absurd (free_unsound r e f)
one_read r s t (is_free e p) (is_unsound n u q) = absurd (n e)
one_read r s t (is_open e p) (is_free f q) = absurd (free_unsound r f e)
one_read r s t (is_open e p) (is_open f q) = p ∙ sym q
one_read r s t (is_open e p) (is_unsound n u q) = absurd (u e)
one_read r s t (is_unsound n u p) (is_free f q) = absurd (n f)
one_read r s t (is_unsound n u p) (is_open f q) = absurd (u f)
one_read r s t (is_unsound n u p) (is_unsound m v q) = p ∙ sym q

-- ---- one record for each state, and one state for each record

-- A SOUND RECORD IS THE RECORD OF EACH STATE THAT ITS NUMBERS STAND FOR
pub sound_is : (r : Record) → Sound r → (p : Place) (k : List ℕ) → StandsIn (cells_in r) p → r ≡ record_from r.kind r.id (state_of (cells_in r) p k)
sound_is r s p k st = s.own ∙ ap (record_at r.kind r.id) (sym (one_state (cells_in r) p k st))

pub written_own : (r : Record) → Sound r → Written (stream r.kind r.id (cells_in r)) r
written_own r s = is_record s.fit (sound_is r s)

-- TWO RECORDS OF ONE STATE ARE EQUAL
pub one_record : (r q : Record) → Sound r → Sound q → r.kind ≡ q.kind → r.id ≡ q.id
    → (p p' : Place) (k k' : List ℕ) → StandsIn (cells_in r) p → StandsIn (cells_in q) p' → state_of (cells_in r) p k ≡ state_of (cells_in q) p' k' → r ≡ q
one_record r q s t a b p p' k k' st su e =
    sound_is r s p k st ∙ ap (λ x. record_from x r.id (state_of (cells_in r) p k)) a ∙ ap (λ x. record_from q.kind x (state_of (cells_in r) p k)) b
    ∙ ap (record_from q.kind q.id) e ∙ sym (sound_is q t p' k' su)

-- what is read of a sound record are its own numbers
pub sound_read : (r : Record) (s : Reading) → Sound r → Read r s → s ≡ reading.Open (stream r.kind r.id (cells_in r))
sound_read r s sound (is_free e q) = absurd (free_unsound r e sound)
sound_read r s sound (is_open t q) = q
sound_read r s sound (is_unsound n u q) = absurd (u sound)

-- WHAT IS SOUND IS WRITTEN BACK AS IT WAS READ
pub read_written : (r q : Record) (s : Stream) → Sound r → Read r (reading.Open s) → Written s q → q ≡ r
read_written r q s sound read written =
    let o : reading.Open s ≡ reading.Open (stream r.kind r.id (cells_in r)) = sound_read r _ sound read in
    let e : s ≡ stream r.kind r.id (cells_in r) = cc in
    let w : Written (stream r.kind r.id (cells_in r)) q = rw e at written in
    written_as _ q w sound.fit (own_place (cells_in r)) [] a_place ∙ sym sound.own

module _ (s : Stream) (r : Record) (fit : Fit s.kind s.id s.cells) (written : Written s r) where
  written_is : r ≡ record_at s.kind s.id (tidied s.cells)
  written_is = written_as s r written fit (own_place s.cells) [] a_place

  -- WHAT IS WRITTEN IS SOUND
  pub written_sound : Sound r
  written_sound =
      let e = written_is in
      rw e (record {
        fit = fit_again s.kind s.id s.cells fit;
        own = ap (record_at s.kind s.id) (sym (tidied_twice s.cells fit.sane));
      })

  -- AND IS READ BACK AS THE SAME STREAM, IN THE SAME STATE
  pub written_read : (t : Reading) → Read r t → t ≡ reading.Open (stream s.kind s.id (tidied s.cells))
  written_read t read = sound_read r t written_sound read ∙ ap (λ x. reading.Open (stream x.kind x.id (cells_in x))) written_is

  pub same_state : (t : Stream) → Read r (reading.Open t) → (p : Place) (k : List ℕ) → StandsIn s.cells p → StandsIn t.cells p × (state_of t.cells p k ≡ state_of s.cells p k)
  same_state t read p k st =
      let o : reading.Open t ≡ reading.Open (stream s.kind s.id (tidied s.cells)) = written_read _ read in
      let e : t ≡ stream s.kind s.id (tidied s.cells) = cc in
      let e : t.cells ≡ tidied s.cells = ap (λ x. x.cells) e in
      rw e (stands_again s.cells p st, state_again s.cells fit.sane p k)

place_only : {h n s phase : ℕ} {p : Place} → Stands h n s phase p → phase ≤ UNSET → p ≡ place_of phase h n s
place_only a_place l = refl
place_only (any_set k i) l = absurd (omega arith)

-- A REQUEST'S NUMBERS STAND FOR ONE PLACE
pub one_place : (r : Record) → Sound r → r.kind ≡ REQUEST → (p : Place) → StandsIn (cells_in r) p → p ≡ own_place (cells_in r)
one_place r s e p st = place_only st (omega (arith, s.fit.shaped.request_phase e))

-- A ONE-WAY STREAM WITHOUT FRAMES
at_opening : (m a d t ph h n su : ℕ) → m ≡ 0 → ph ≡ OPENING → state_at m a d t (place_of ph h n su) [] ≡ in_type (prog d a) (of_request opening)
unfolding mode_state mode_of head_state place_of
at_opening m a d t ph h n su e f = rw (e, f) refl

module _ (r : Record) (s : Sound r) where
  bare_is : UNTYPED ≤ r.kind → (r.kind ≡ CONTROL → ⊥) → r ≡ record_from r.kind r.id (in_type (prog r.due r.acc) (of_request opening))
  bare_is a b =
      let h = s.fit.shaped in
      s.own ∙ ap (record_from r.kind r.id) (at_opening r.mode r.acc r.due r.ftype r.phase r.has r.stated r.sum (h.bare_mode a b) (h.bare_phase a b))

  pub type_record : r.kind ≡ UNTYPED → r ≡ one_way_record r.id (in_stream_type (prog r.due r.acc))
  unfolding one_way_record
  type_record e = bare_is (omega arith) (λ x. omega arith) ∙ ap (λ x. record_from x r.id (in_type (prog r.due r.acc) (of_request opening))) e

  only_id : ENCODER ≤ r.kind → r ≡ record_from r.kind r.id (between (of_request opening))
  unfolding prog
  only_id l = bare_is (omega arith) (λ x. omega arith) ∙ ap (λ d. record_from r.kind r.id (in_type (prog d r.acc) (of_request opening))) (s.fit.shaped.bare l)

  pub encoder_record : r.kind ≡ ENCODER → r ≡ one_way_record r.id (in_qpack encoder)
  unfolding one_way_record
  encoder_record e = only_id (omega arith) ∙ ap (λ x. record_from x r.id (between (of_request opening))) e

  pub decoder_record : r.kind ≡ DECODER → r ≡ one_way_record r.id (in_qpack decoder)
  unfolding one_way_record
  decoder_record e = only_id (omega arith) ∙ ap (λ x. record_from x r.id (between (of_request opening))) e

  pub skipped_record : r.kind ≡ SKIPPED → r ≡ one_way_record r.id in_skipped
  unfolding one_way_record
  skipped_record e = only_id (omega arith) ∙ ap (λ x. record_from x r.id (between (of_request opening))) e
