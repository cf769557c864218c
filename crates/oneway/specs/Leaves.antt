-- An open one-way stream's numbers, and the record and the side that a state leaves. Assumes nothing.
use Rattle.std.specs.Prelude.{◌≡◌, List, [], Bool, true, false, length, take, ltb}
use Rattle.std.proofs.Math.Path.{refl, sym, ap}
use Rattle.std.proofs.Common.{◌∙◌, arith, length-take, take_all, take-take, ltb→lt, nltb→le}
use Prim.Native.Nat.{ℕ, zero, suc, ◌-◌, ◌≤◌, ◌<◌, min}
use borrow.Author.Tests.{lt-ltb, ne_eqb}
use Rattle.rules.specs.Reading.{content, skipped, section, kept}
use Rattle.rules.specs.Message.{opening}
use Rattle.rules.specs.Control.{Control, unset}
use Rattle.meaning.specs.Machine.{in_type}
use Rattle.meaning.specs.OneWayFeed.{in_stream_type, in_control}
use Rattle.varint.specs.ByByte.{prog, part_of}
use Rattle.frames.specs.Modes.{IN-TYPE, IN-SETTINGS, OPENING, UNSET, SET, Mode, typing, sizing, paying, waiting, mode_of, at_kept}
use Rattle.frames.specs.declared.Cells.{Cells}
use Rattle.frames.specs.Both.{of_request, of_control}
use Rattle.frames.specs.Uses.{place_of, Stands, a_place, any_set}
use Rattle.frames.specs.Heads.{head_state}
use Rattle.frames.specs.Answers.{mode_state, state_at, state_of, StandsIn, Held}
use Rattle.frames.specs.Apart.{state_carried}
use Rattle.record.specs.Kinds.{UNTYPED, CONTROL, ENCODER, DECODER, SKIPPED}
use Rattle.record.specs.declared.Record.{Record}
use Rattle.record.specs.Row.{phase_of, stated_in, is_stated, length_of, sum_in, numbers_of, place_in, record_from, one_way_record}
use Rattle.record.specs.Sound.{Fit, cells_in, own_place, stream, Written}
use Rattle.record.specs.Tidy.{place_back}
use Rattle.record.specs.Same.{written_as, type_record, encoder_record, decoder_record, skipped_record}
use Rattle.oneway.specs.Stands.{one_state_at, OneStands, OneSoundAt, OneShapeAt, StandsAt, cells_of}
use Rattle.control.specs.declared.Kept.{Kept}
use Rattle.control.specs.Rules.{control_at, control_of}
use Rattle.oneway.specs.declared.calls.Side.{Side}
use Rattle.oneway.specs.Mirror.{kept_numbers, kept_in, sofar_in, bytes_of, held_in, side_of, side_after, bare_side, side_by}
use Rattle.oneway.specs.Heard.{Heeds, place_here, sofar_here}

-- ---- its numbers are those that only the calls leave

module _ (r : Record) (o : Heeds r) where
  abbrev c : Cells
  c = cells_in r

  own_bare : (x : Cells) → x ≡ cells_of x.acc x.due 0 → c ≡ x → c ≡ cells_of c.acc c.due 0
  own_bare x f e = e ∙ f ∙ ap (λ y. cells_of y.acc y.due 0) (sym e)

  at_kind : (kind : ℕ) → r.kind ≡ kind → OneSoundAt kind c × OneShapeAt kind c
  unfolding OneSoundAt OneShapeAt one_way_record phase_of stated_in is_stated length_of sum_in numbers_of place_in part_of
  at_kind zero e = absurd (omega (arith, o.kind))
  at_kind (suc zero) e = absurd (omega (arith, o.kind))
  at_kind (suc (suc zero)) e =
      let s = o.sound in
      let m : c.mode ≡ IN-TYPE = s.fit.shaped.bare_mode o.kind (λ x. omega arith) in
      (s.fit.sane.header (omega arith), own_bare (cells_in (one_way_record r.id (in_stream_type (prog r.due r.acc)))) refl (ap cells_in (type_record r s e)))
  at_kind (suc (suc (suc zero))) e = let s = o.sound.fit in ((s.sane, s.shaped.control_phase e), (s.shaped.phases, s.shaped.control_mode e))
  at_kind (suc (suc (suc (suc zero)))) e = (tt, (ap cells_in (encoder_record r o.sound e), omega arith))
  at_kind (suc (suc (suc (suc (suc zero))))) e = (tt, (ap cells_in (decoder_record r o.sound e), omega arith))
  at_kind (suc (suc (suc (suc (suc (suc zero)))))) e = (tt, (ap cells_in (skipped_record r o.sound e), omega arith))
  at_kind (suc (suc (suc (suc (suc (suc (suc n))))))) e = absurd (omega (arith, o.sound.fit.shaped.known))

  pub heeds_sound : OneSoundAt r.kind c
  heeds_sound = (at_kind r.kind refl).0

  pub heeds_shape : OneShapeAt r.kind c
  heeds_shape = (at_kind r.kind refl).1

-- ---- where it is

phase_stands : (h n u phase : ℕ) (k : Kept) → UNSET ≤ phase → phase ≤ SET → Stands h n u phase (of_control (control_at (phase - 3) k))
unfolding control_at place_of
phase_stands h n u zero k a b = absurd (omega arith)
phase_stands h n u (suc zero) k a b = absurd (omega arith)
phase_stands h n u (suc (suc zero)) k a b = absurd (omega arith)
phase_stands h n u (suc (suc (suc zero))) k a b = a_place
phase_stands h n u (suc (suc (suc (suc zero)))) k a b = any_set 0 tt
phase_stands h n u (suc (suc (suc (suc (suc m))))) k a b = absurd (omega arith)

unset_low : (phase : ℕ) (k : Kept) → phase ≡ OPENING → control_at (phase - 3) k ≡ unset
unfolding control_at
unset_low phase k e = rw e refl

held_none : (mode : ℕ) → Held (IN-SETTINGS - mode) []
held_none mode = by (IN-SETTINGS - mode)
  where
    by : (n : ℕ) → Held n []
    by zero = tt
    by (suc n) = refl

module _ (r : Record) (o : Heeds r) (d : Side) where
  pub control_stands : r.kind ≡ CONTROL → StandsIn (cells_in r) (of_control (place_here r d))
  control_stands e = let h = o.sound.fit.shaped in phase_stands r.has r.stated r.sum r.phase (kept_in r.phase d.kept) (h.control_phase e) h.phases

  here_stands : (kind : ℕ) → r.kind ≡ kind → OneStands kind (cells_in r) (place_here r d) []
  unfolding OneStands
  here_stands zero e = tt
  here_stands (suc zero) e = tt
  here_stands (suc (suc zero)) e = (unset_low r.phase (kept_in r.phase d.kept) (o.sound.fit.shaped.bare_phase o.kind (λ x. omega arith)), refl)
  here_stands (suc (suc (suc zero))) e = (control_stands e, held_none r.mode)
  here_stands (suc (suc (suc (suc n)))) e = tt

  pub stands_here : OneStands r.kind (cells_in r) (place_here r d) []
  stands_here = here_stands r.kind refl

  -- outside a kept payload nothing is held
  pub none_held : r.mode < IN-SETTINGS → sofar_here r d ≡ []
  unfolding held_in
  none_held l = let x = lt-ltb r.mode IN-SETTINGS l in rw (x, held_in) refl

-- ---- the record that it leaves

opening_state : (m a e t ph h n u : ℕ) (k : List ℕ) → m ≡ 0 → ph ≡ OPENING → state_at m a e t (place_of ph h n u) k ≡ in_type (prog e a) (of_request opening)
unfolding mode_state mode_of head_state place_of
opening_state m a e t ph h n u k x y = rw (x, y) refl

module _ (id : ℕ) (c : Cells) {q : Record} (p : Control) (k : List ℕ) where
  bare_row : (kind a e : ℕ) → c ≡ cells_of a e 0 → Fit kind id c → Written (stream kind id c) q → q ≡ record_from kind id (in_type (prog e a) (of_request opening))
  bare_row kind a e x fit w =
      written_as (stream kind id c) q w fit (own_place c) [] a_place
      ∙ ap (record_from kind id) (opening_state c.mode c.acc c.due c.ftype c.phase c.has c.stated c.sum [] (ap (λ y. y.mode) x) (ap (λ y. y.phase) x)
      ∙ ap (λ y. in_type (prog y.due y.acc) (of_request opening)) x)

  pub control_row : StandsIn c (of_control p) → Fit CONTROL id c → Written (stream CONTROL id c) q → q ≡ one_way_record id (in_control (state_of c p k))
  unfolding one_way_record
  control_row st fit w = written_as (stream CONTROL id c) q w fit (of_control p) k st ∙ ap (record_from CONTROL id) (sym (state_carried of_control c.mode c.acc c.due c.ftype p k))

  -- THE RECORD OF THE STATE that the numbers mean
  pub row_of_state : (kind : ℕ) → StandsAt kind c p → OneShapeAt kind c → Fit kind id c → Written (stream kind id c) q → q ≡ one_way_record id (one_state_at kind c p k)
  unfolding StandsAt OneShapeAt one_state_at one_way_record prog
  row_of_state zero st sh fit w = absurd sh
  row_of_state (suc zero) st sh fit w = absurd sh
  row_of_state (suc (suc zero)) st sh fit w = bare_row UNTYPED c.acc c.due sh fit w
  row_of_state (suc (suc (suc zero))) st sh fit w = control_row st fit w
  row_of_state (suc (suc (suc (suc zero)))) st sh fit w = bare_row ENCODER 0 0 sh.0 fit w
  row_of_state (suc (suc (suc (suc (suc zero))))) st sh fit w = bare_row DECODER 0 0 sh.0 fit w
  row_of_state (suc (suc (suc (suc (suc (suc zero)))))) st sh fit w = bare_row SKIPPED 0 0 sh.0 fit w
  row_of_state (suc (suc (suc (suc (suc (suc (suc n))))))) st sh fit w = absurd (omega (arith, sh.1))

-- ---- the side that it leaves

sofar_mode : {P : Type 0} (m : Mode) (a e t : ℕ) (p : P) → sofar_in (mode_state m a e t p []) ≡ []
unfolding sofar_in mode_state head_state
sofar_mode typing a e t p = refl
sofar_mode sizing a e t p = refl
sofar_mode (paying content) a e t p = refl
sofar_mode (paying skipped) a e t p = refl
sofar_mode (paying (section x)) a e t p = refl
sofar_mode (paying (kept f)) a e t p = refl
sofar_mode (waiting x) a e t p = refl

pub sofar_none : {P : Type 0} (mode a e t : ℕ) (p : P) → sofar_in (state_at mode a e t p []) ≡ []
sofar_none mode a e t p = sofar_mode (mode_of mode) a e t p

pub sofar_kept : {P : Type 0} (mode a e t : ℕ) (p : P) (k : List ℕ) → IN-SETTINGS ≤ mode → sofar_in (state_at mode a e t p k) ≡ k
unfolding sofar_in mode_state
sofar_kept mode a e t p k = at_kept (λ m. sofar_in (mode_state m a e t p k) ≡ k) (λ f. refl) mode

module _ (d : Side) (phase : ℕ) (c : Cells) (k : List ℕ) where
  abbrev p : Control
  p = control_of (kept_in phase d.kept)

  pub control_side : {sofar : List ℕ} → sofar_in (state_of c p k) ≡ sofar
      → side_of 1 d.encoder d.decoder (kept_numbers p) (length (take 256 sofar)) (bytes_of (take 256 sofar)) ≡ side_after d (in_control (state_of c p k))
  unfolding side_after
  control_side {sofar} e =
      let b = place_back c.acc c.due c.ftype p k c.mode in
      let f = sym e in
      rw (b, f) refl

  -- THE SIDE OF THE STATE that the numbers mean
  pub side_of_state : (kind : ℕ) {sofar : List ℕ} → sofar_in (state_of c p k) ≡ sofar → side_by kind phase d (take 256 sofar) ≡ side_after d (one_state_at kind c p k)
  unfolding side_by bare_side side_after one_state_at
  side_of_state zero e = refl
  side_of_state (suc zero) e = refl
  side_of_state (suc (suc zero)) e = refl
  side_of_state (suc (suc (suc zero))) e = control_side e
  side_of_state (suc (suc (suc (suc zero)))) e = refl
  side_of_state (suc (suc (suc (suc (suc zero))))) e = refl
  side_of_state (suc (suc (suc (suc (suc (suc n)))))) e = let x = ne_eqb (suc (suc (suc (suc (suc (suc n)))))) 3 (λ y. omega arith) in rw (x, side_by) refl

-- as much of a part as is kept
pub take_least : (n : ℕ) (l : List ℕ) → take (min n 256) l ≡ take 256 (take n l)
take_least n l = by (ltb n 256) refl
  where
    by : (b : Bool) → ltb n 256 ≡ b → take (min n 256) l ≡ take 256 (take n l)
    by true e = let h = ltb→lt n 256 (rw e tt) in let m : min n 256 ≡ n = omega arith in let t = length-take n l in rw m (sym (take_all 256 (take n l) (omega arith)))
    by false e = let h = nltb→le n 256 (rw e tt) in let m : min n 256 ≡ 256 = omega arith in rw m (sym (take-take 256 n l h))
