-- What an accepted call leaves is read back as the state after it. Assumes nothing.
use Rattle.std.specs.Prelude.{◌≡◌, List, [], Bool, length}
use Rattle.std.proofs.Math.Path.{refl, ap}
use Rattle.std.proofs.Common.{sym, ◌∙◌, subst, take_all}
use Prim.Native.Nat.{ℕ, zero, suc, ◌+◌, ◌-◌, ◌≤◌, ◌<◌, min}
use native.Mathlib.Omega.{arith}
use Rattle.std.proofs.Math.Bool.{true, false}
use Rattle.std.proofs.Math.Option.{Option, none, some}
use Rattle.std.proofs.Math.Dec.{ltb}
use Rattle.std.proofs.Math.ListN.{take, length-take}
use borrow.Author.Tests.{ltb-true, ltb-false, le-ltb}
use Rattle.rules.specs.Control.{Settings, Control, unset, set}
use Rattle.meaning.specs.Machine.{in_type}
use Rattle.meaning.specs.FeedUses.{StateWithin}
use Rattle.meaning.specs.OneWayFeed.{in_stream_type, in_control}
use Rattle.varint.specs.ByByte.{prog}
use Rattle.frames.specs.Modes.{IN-TYPE, IN-SETTINGS, UNSET, SET, mode_of, at_kept, at_unkept, at_any}
use Rattle.frames.specs.declared.Cells.{Cells}
use Rattle.frames.specs.Both.{Place, of_control}
use Rattle.frames.specs.Uses.{place_of, Stands, a_place, any_set}
use Rattle.frames.specs.Heads.{head_state}
use Rattle.frames.specs.Answers.{mode_state, state_at, state_of, StandsIn}
use Rattle.record.specs.Kinds.{UNTYPED, CONTROL}
use Rattle.record.specs.declared.Record.{Record}
use Rattle.record.specs.Row.{is_stated, length_of, place_in, record_at}
use Rattle.record.specs.Sound.{Fit, cells_in, own_place, tidied, stream, Written}
use Rattle.record.specs.Tidy.{Tidier, tidy_less, place_back}
use Rattle.record.specs.Same.{written_as, written_sound, state_again}
use Rattle.oneway.specs.Stands.{one_state_at, OneShapeAt, StandsAt}
use Rattle.control.specs.Rules.{some_if, control_at, control_of}
use Rattle.oneway.specs.declared.calls.Side.{Side}
use Rattle.oneway.specs.Mirror.{kept_numbers, kept_in, sofar_in, bytes_of, held_in, side_after}
use Rattle.oneway.specs.Heard.{Heeds, place_here, sofar_here, state_here}
use Rattle.oneway.specs.Leaves.{sofar_kept}
use Rattle.oneway.specs.Numbers.{bytes_back}
use Rattle.oneway.specs.Room.{Fits, OneFits}

-- ---- what a control stream has said, back from its numbers

some_back : (o : Option ℕ) → some_if (is_stated o) (length_of o) ≡ o
unfolding some_if is_stated length_of
some_back none = refl
some_back (some n) = refl

pub set_back : (s : Settings) (g m : Option ℕ) → control_of (kept_in 4 (kept_numbers (set s g m))) ≡ set s g m
unfolding control_at kept_numbers
set_back s g m = let a = some_back s.section_size in let b = some_back g in let c = some_back m in rw (a, b, c) refl

said_back : {h n u phase : ℕ} {q : Place} (p : Control) → Stands h n u phase q → q ≡ of_control p → UNSET ≤ phase → phase ≤ SET → control_of (kept_in phase (kept_numbers p)) ≡ p
unfolding place_of control_at kept_numbers
said_back p (a_place {phase = zero}) e l h = absurd (omega arith)
said_back p (a_place {phase = suc zero}) e l h = absurd (omega arith)
said_back p (a_place {phase = suc (suc zero)}) e l h = absurd (omega arith)
said_back unset (a_place {phase = suc (suc (suc zero))}) e l h = refl
said_back (set s g m) (a_place {phase = suc (suc (suc zero))}) e l h = let z : ◌≡◌ {A = ℕ} 0 1 = cc in absurd (omega arith)
said_back unset (a_place {phase = suc (suc (suc (suc zero)))}) e l h = let z : ◌≡◌ {A = ℕ} 0 1 = cc in absurd (omega arith)
said_back (set s g m) (a_place {phase = suc (suc (suc (suc zero)))}) e l h = set_back s g m
said_back p (a_place {phase = suc (suc (suc (suc (suc k))))}) e l h = absurd (omega arith)
said_back unset (any_set {p = of_control (set s g m)} k i) e l h = let z : ◌≡◌ {A = ℕ} 0 1 = cc in absurd (omega arith)
said_back unset (any_set {p = of_control unset} k i) e l h = absurd i
said_back unset (any_set {p = Place.of_request x} k i) e l h = absurd i
said_back (set s g m) (any_set zero i) e l h = set_back s g m
said_back (set s g m) (any_set (suc k) i) e l h = absurd (omega arith)

-- ---- what was kept of a payload, back from its bytes

-- outside a kept payload a state looks at none
blind : {P : Type 0} (mode a e t : ℕ) (p : P) (k l : List ℕ) → mode < IN-SETTINGS → state_at mode a e t p k ≡ state_at mode a e t p l
unfolding mode_state
blind mode a e t p k l = at_unkept (λ m. mode_state m a e t p k ≡ mode_state m a e t p l) refl refl refl refl (λ x. refl) (λ x. refl) mode

fits_mode : {P : Type 0} (mode a e t : ℕ) (p : P) (k : List ℕ) → StateWithin Fits (state_at mode a e t p k) → IN-SETTINGS ≤ mode → length k + suc (a - 1) ≤ 256
unfolding mode_state
fits_mode mode a e t p k w h = at_kept (λ m. StateWithin Fits (mode_state m a e t p k) → length k + suc (a - 1) ≤ 256) (λ f v. v) mode h w

mode_fits : {P : Type 0} (mode a e t : ℕ) (p : P) (k : List ℕ) → (IN-SETTINGS ≤ mode → length k + suc (a - 1) ≤ 256) → StateWithin Fits (state_at mode a e t p k)
unfolding mode_state head_state
mode_fits mode a e t p k h = at_any (λ m. StateWithin Fits (mode_state m a e t p k)) tt tt tt tt (λ x. tt) (λ x. tt) mode (λ l f. h l)

held_all : (mode acc held : ℕ) → IN-SETTINGS ≤ mode → held + acc ≤ 256 → held_in mode acc held ≡ held
unfolding held_in
held_all mode acc held h l = let x = le-ltb mode IN-SETTINGS h in let n : min held (256 - acc) ≡ held = omega arith in rw (x, held_in) n

held_back : (mode acc : ℕ) (k : List ℕ) → IN-SETTINGS ≤ mode → length k + acc ≤ 256 → take (held_in mode acc (length (take 256 k))) (bytes_of (take 256 k)) ≡ k
held_back mode acc k h l =
    ap (λ x. take (held_in mode acc (length x)) (bytes_of x)) (take_all 256 k (omega arith)) ∙ ap (λ x. take x (bytes_of k)) (held_all mode acc (length k) h l) ∙ bytes_back k (length k) refl (omega arith)

-- ---- an open one-way stream's payload fits

held_few : (mode acc held : ℕ) → IN-SETTINGS ≤ mode → held_in mode acc held ≤ 256 - acc
unfolding held_in
held_few mode acc held h = let x = le-ltb mode IN-SETTINGS h in rw (x, held_in) (omega arith)

module _ (r : Record) (o : Heeds r) (d : Side) where
  fits_at : (kind : ℕ) → r.kind ≡ kind → OneFits (one_state_at kind (cells_in r) (place_here r d) (sofar_here r d))
  unfolding one_state_at
  fits_at zero e = tt
  fits_at (suc zero) e = tt
  fits_at (suc (suc zero)) e = tt
  fits_at (suc (suc (suc zero))) e = mode_fits r.mode r.acc r.due r.ftype (place_here r d) (sofar_here r d) (λ h. (
      let room = o.room h in
      let some = o.sound.fit.sane.some (omega arith) (λ x. omega arith) (λ x. omega arith) in
      let few = held_few r.mode r.acc d.held h in
      let n = length-take (held_in r.mode r.acc d.held) d.bytes in
      omega arith))
  fits_at (suc (suc (suc (suc zero)))) e = tt
  fits_at (suc (suc (suc (suc (suc zero))))) e = tt
  fits_at (suc (suc (suc (suc (suc (suc n)))))) e = tt

  pub here_fits : OneFits (state_here r d)
  here_fits = fits_at r.kind refl

shape_kind : (c : Cells) (kind : ℕ) → OneShapeAt kind c → UNTYPED ≤ kind
unfolding OneShapeAt
shape_kind c zero sh = absurd sh
shape_kind c (suc zero) sh = absurd sh
shape_kind c (suc (suc n)) sh = omega arith

-- ---- WHAT IS LEFT IS READ BACK: the record and the side of a state say that state again

module _ (id : ℕ) (c : Cells) (p : Control) (k : List ℕ) {q : Record} where
  module _ (kind : ℕ) (fit : Fit kind id c) (written : Written (stream kind id c) q) where
    is_tidied : q ≡ record_at kind id (tidied c)
    is_tidied = written_as (stream kind id c) q written fit (own_place c) [] a_place

    own_cells : cells_in q ≡ tidied c
    own_cells = ap cells_in is_tidied

    tidier : Tidier c (cells_in q)
    tidier = tidy_less c fit.sane fit.shaped.phases own_cells

  module _ (fit : Fit CONTROL id c) (written : Written (stream CONTROL id c) q) (stands : StandsIn c (of_control p)) (fits : StateWithin Fits (state_of c p k)) where
    same_cells : state_of (cells_in q) p k ≡ state_of c p k
    same_cells = ap (λ x. state_of x p k) (own_cells 3 fit written) ∙ state_again c fit.sane p k

    own_fits : StateWithin Fits (state_of (cells_in q) p k)
    own_fits = subst (StateWithin Fits) (sym same_cells) fits

    own_some : IN-SETTINGS ≤ q.mode → 0 < q.acc
    own_some h =
        let t = tidier 3 fit written in
        let m = t.mode_same in
        let s = fit.sane.some (omega arith) (λ x. omega arith) (λ x. omega arith) in
        let a = t.acc_same (omega arith) (λ x. omega arith) (λ x. omega arith) in
        omega arith

    own_room : IN-SETTINGS ≤ q.mode → length k + q.acc ≤ 256
    own_room h = let f = fits_mode q.mode q.acc q.due q.ftype p k own_fits h in let s = own_some h in omega arith

    control_back : (d : Side) → in_control (state_of (cells_in q) (place_here q (side_after d (in_control (state_of c p k)))) (sofar_here q (side_after d (in_control (state_of c p k))))) ≡ in_control (state_of c p k)
    unfolding side_after
    control_back d =
        let back = place_back c.acc c.due c.ftype p k c.mode in
        let here = said_back p stands refl (fit.shaped.control_phase refl) fit.shaped.phases in
        let ph : q.phase ≡ c.phase = (tidier 3 fit written).phase_same in
        let place : control_of (kept_in q.phase (kept_numbers (place_in (state_of c p k)))) ≡ p = ap (λ x. control_of (kept_in q.phase (kept_numbers x))) back ∙ ap (λ x. control_of (kept_in x (kept_numbers p))) ph ∙ here in
        ap in_control (ap (λ x. state_of (cells_in q) x (take (held_in q.mode q.acc (length (take 256 (sofar_in (state_of c p k))))) (bytes_of (take 256 (sofar_in (state_of c p k)))))) place
        ∙ by (ltb q.mode 8) refl ∙ same_cells)
      where
        by : (b : Bool) → ltb q.mode 8 ≡ b
            → state_of (cells_in q) p (take (held_in q.mode q.acc (length (take 256 (sofar_in (state_of c p k))))) (bytes_of (take 256 (sofar_in (state_of c p k))))) ≡ state_of (cells_in q) p k
        by true e = blind q.mode q.acc q.due q.ftype p _ k (ltb-true q.mode IN-SETTINGS e)
        by false e =
            let h = ltb-false q.mode IN-SETTINGS e in
            let m = (tidier 3 fit written).mode_same in
            let sofar = sofar_kept c.mode c.acc c.due c.ftype p k (omega arith) in
            ap (state_of (cells_in q) p) (ap (λ x. take (held_in q.mode q.acc (length (take 256 x))) (bytes_of (take 256 x))) sofar ∙ held_back q.mode q.acc k h (own_room h))

  type_again : Fit UNTYPED id c → Written (stream UNTYPED id c) q → c.mode ≡ IN-TYPE → prog q.due q.acc ≡ prog c.due c.acc
  unfolding mode_state mode_of head_state
  type_again fit written m =
      let t = tidier 2 fit written in
      let e = ap (λ x. state_of x p k) (own_cells 2 fit written) ∙ state_again c fit.sane p k in
      same-type q.mode c.mode (t.mode_same ∙ m) m e
    where
      same-type : (x y : ℕ) → x ≡ 0 → y ≡ 0 → state_at x q.acc q.due q.ftype p k ≡ state_at y c.acc c.due c.ftype p k → prog q.due q.acc ≡ prog c.due c.acc
      same-type x y a b e = let f : in_type (prog q.due q.acc) p ≡ in_type (prog c.due c.acc) p = unfold mode_state mode_of head_state in (rw (a, b) at e) in cc

  state_at_lem : (kind : ℕ) → StandsAt kind c p → OneShapeAt kind c → Fit kind id c → Written (stream kind id c) q → OneFits (one_state_at kind c p k) → (d : Side)
      → let after = side_after d (one_state_at kind c p k) in one_state_at kind (cells_in q) (place_here q after) (sofar_here q after) ≡ one_state_at kind c p k
  unfolding StandsAt OneShapeAt one_state_at
  state_at_lem zero st sh fit w f d = absurd sh
  state_at_lem (suc zero) st sh fit w f d = absurd sh
  state_at_lem (suc (suc zero)) st sh fit w f d = ap in_stream_type (type_again fit w (ap (λ x. x.mode) sh))
  state_at_lem (suc (suc (suc zero))) st sh fit w f d = control_back fit w st f d
  state_at_lem (suc (suc (suc (suc zero)))) st sh fit w f d = refl
  state_at_lem (suc (suc (suc (suc (suc zero))))) st sh fit w f d = refl
  state_at_lem (suc (suc (suc (suc (suc (suc n)))))) st sh fit w f d = refl

  room_at : (kind : ℕ) → OneShapeAt kind c → Fit kind id c → Written (stream kind id c) q → StandsAt kind c p → OneFits (one_state_at kind c p k) → IN-SETTINGS ≤ q.mode → q.acc ≤ 256
  unfolding OneShapeAt StandsAt one_state_at
  room_at zero sh fit w st f h = absurd sh
  room_at (suc zero) sh fit w st f h = absurd sh
  room_at (suc (suc zero)) sh fit w st f h = let m = (tidier 2 fit w).mode_same in let z : c.mode ≡ IN-TYPE = ap (λ x. x.mode) sh in absurd (omega arith)
  room_at (suc (suc (suc zero))) sh fit w st f h = let l = own_room fit w st f h in omega arith
  room_at (suc (suc (suc (suc n)))) sh fit w st f h = let m = (tidier (suc (suc (suc (suc n)))) fit w).mode_same in let z : c.mode ≡ IN-TYPE = ap (λ x. x.mode) sh.0 in absurd (omega arith)

  pub left_back : (kind : ℕ) → StandsAt kind c p → OneShapeAt kind c → Fit kind id c → Written (stream kind id c) q → OneFits (one_state_at kind c p k) → (d side : Side) → side ≡ side_after d (one_state_at kind c p k)
      → Heeds q × (state_here q side ≡ one_state_at kind c p k)
  left_back kind st sh fit w f d side e =
      let kq : q.kind ≡ kind = ap (λ x. x.kind) (is_tidied kind fit w) in
      let l = shape_kind c kind sh in (
        record { sound = written_sound (stream kind id c) q fit w; kind = omega arith; room = room_at kind sh fit w st f },
        rw (e, kq) (state_at_lem kind st sh fit w f d),
      )
