-- Laws of a section given. Assumes nothing.
use Rattle.std.specs.Prelude.{◌≡◌, ℕ, zero, suc, ◌≤◌, ◌<◌, Bool, true, false, eqb, Result, Ok, Err}
use Rattle.std.proofs.Math.Path.{refl, ap, subst}
use Rattle.std.proofs.Common.{sym, ◌∙◌, arith, eqb-true}
use mathlib.Core.List.{List, []}
use Rattle.std.proofs.lemmas.Bool.{eqb-false}
use Rattle.rules.specs.Numbers.{ACCEPTED, NO-SECTION, UNREADABLE, code_number}
use Rattle.rules.specs.Block.{Lines, unreadable, readable, lines}
use Rattle.rules.specs.Reading.{header_section, trailers, Next, stop, go}
use Rattle.rules.specs.Message.{Message}
use Rattle.rules.specs.Request.{document, given as next-given}
use Rattle.meaning.specs.NumberLaws.{code_high}
use Rattle.meaning.specs.Machine.{due, between, answered, given}
use Rattle.meaning.specs.Hom.{map_state}
use Rattle.frames.specs.Modes.{HEADER-SECTION-DUE, TRAILERS-DUE, TRAILED, mode_of, not_kept}
use Rattle.frames.specs.declared.Cells.{Cells}
use Rattle.frames.specs.Both.{Place, of_request}
use Rattle.frames.specs.Uses.{place_of, Stands, a_place, any_set}
use Rattle.frames.specs.Answers.{mode_state, state_at, state_of, StandsIn, Sane}
use Rattle.frames.specs.Apart.{message}
use Rattle.section.specs.Request.{header_of, trailer_of}
use Rattle.requests.specs.Taken.{headed_as, trailed_as, given_of, given_header, given_trailers, given_undue, Says, header_says, trailer_says}
use Rattle.record.specs.Kinds.{REQUEST}
use Rattle.record.specs.declared.Record.{Record}
use Rattle.record.specs.Row.{record_from, request_record}
use Rattle.record.specs.Sound.{Fit, cells_in, own_place, stream, Written}
use Rattle.record.specs.Tests.{request_shape}
use Rattle.record.specs.Same.{written_as, written_sound}
use Rattle.requests.specs.declared.Reply.{Reply}
use Rattle.requests.specs.Reply.{Open, state_in, refused, left_by, unless_due, taken_as, read_as, given_as, Keeps, opened}
use Rattle.requests.specs.Severity.{left_alone}
use Rattle.requests.specs.Answered.{own_stands}
use Rattle.requests.specs.Told.{phase_low}
use Rattle.requests.specs.Feeds.{due_not}

-- ---- what an answer in numbers says

data Meant (r : Record) (g : Result Cells ℕ) (x : Reply) : Type 0 where
  turned : (n : ℕ) → (n ≡ ACCEPTED → ⊥) → g ≡ Err n → refused n (left_by n r) ≡ x → Meant r g x
  took : (m : Message) (d : Cells) → g ≡ Ok d → StandsIn d (of_request m) → ((p : Place) (k : List ℕ) → state_of d p k ≡ between p) → Sane d
      → refused ACCEPTED (request_record r.id (between m)) ≡ x → Meant r g x

module _ (r : Record) where
  by_next : (g : Result Cells ℕ) (n : Next Message) → Says g n → Meant r g (taken_as r (answered n))
  unfolding Says taken_as answered
  by_next g (stop code) s = turned (code_number code) (λ z. (let h = code_high code in omega arith)) s refl
  by_next g (go m) s = took m s.0 s.1 s.2 s.3 s.4 refl

  plain_number : (n : ℕ) → (n ≡ ACCEPTED → ⊥) → n < 10 → Meant r (Err n) (refused n r)
  plain_number n z h =
      turned n z refl (ap (refused n) (sym (left_alone r n ((λ e. omega arith), (λ e. omega arith), (λ e. omega arith), (λ e. omega arith)))))

  module _ (c : Cells) (m : Message) (st : StandsIn c (of_request m)) where
    header_lines : (l : Lines) → Meant r (headed_as c (header_of l)) (read_as r (due header_section m) l)
    unfolding headed_as header_of read_as given
    header_lines (unreadable f) = plain_number UNREADABLE (λ e. omega arith) (omega arith)
    header_lines (readable s) = by_next _ (next-given document header_section m s) (header_says c m st s)

    trailer_lines : Sane c → (l : Lines) → Meant r (trailed_as c (trailer_of l)) (read_as r (due trailers m) l)
    unfolding trailed_as trailer_of read_as given
    trailer_lines sane (unreadable f) = plain_number UNREADABLE (λ e. omega arith) (omega arith)
    trailer_lines sane (readable s) = by_next _ (next-given document trailers m s) (trailer_says c m st sane s)

data DueView (mode : ℕ) : Type 0 where
  of_header : mode ≡ HEADER-SECTION-DUE → DueView mode
  of_trailers : mode ≡ TRAILERS-DUE → DueView mode
  not_due : (mode ≡ HEADER-SECTION-DUE → ⊥) → (mode ≡ TRAILERS-DUE → ⊥) → DueView mode

due_view : (mode : ℕ) → DueView mode
due_view mode = by (eqb mode HEADER-SECTION-DUE) refl (eqb mode TRAILERS-DUE) refl
  where
    by : (x : Bool) → eqb mode HEADER-SECTION-DUE ≡ x → (y : Bool) → eqb mode TRAILERS-DUE ≡ y → DueView mode
    by true e y f = of_header (eqb-true mode HEADER-SECTION-DUE e)
    by false e true f = of_trailers (eqb-true mode TRAILERS-DUE f)
    by false e false f = not_due (eqb-false mode HEADER-SECTION-DUE e) (eqb-false mode TRAILERS-DUE f)

header_due : (mode a d t : ℕ) (m : Message) → mode ≡ HEADER-SECTION-DUE → due header_section m ≡ state_at mode a d t m []
unfolding mode_state mode_of
header_due mode a d t m e = rw e refl

trailer_due : (mode a d t : ℕ) (m : Message) → mode ≡ TRAILERS-DUE → due trailers m ≡ state_at mode a d t m []
unfolding mode_state mode_of
trailer_due mode a d t m e = rw e refl

module _ (r : Record) (o : Open r) (block : List ℕ) where
  given_by : DueView (cells_in r).mode → Meant r (given_of (cells_in r) block) (given_as r block (state_in r))
  unfolding unless_due
  given_by (of_header e) =
      let c = cells_in r in
      let m = message (own_place c) in
      let st = own_stands c (phase_low r o) in
      subst (λ s. Meant r (given_of c block) (given_as r block s)) (header_due c.mode c.acc c.due c.ftype m e)
      (subst (λ g. Meant r g (read_as r (due header_section m) (lines block))) (given_header c block (phase_low r o) e refl) (header_lines r c m st (lines block)))
  given_by (of_trailers e) =
      let c = cells_in r in
      let m = message (own_place c) in
      let st = own_stands c (phase_low r o) in
      subst (λ s. Meant r (given_of c block) (given_as r block s)) (trailer_due c.mode c.acc c.due c.ftype m e)
      (subst (λ g. Meant r g (read_as r (due trailers m) (lines block))) (given_trailers c block (phase_low r o) e refl) (trailer_lines r c m st o.sound.fit.sane (lines block)))
  given_by (not_due e f) =
      let c = cells_in r in
      subst (λ x. Meant r (given_of c block) x) (due_not c.acc c.due c.ftype (message (own_place c)) [] _ (refused NO-SECTION r) c.mode e f)
      (subst (λ g. Meant r g (refused NO-SECTION r)) (given_undue c block (phase_low r o) e f) (plain_number r NO-SECTION (λ e. omega arith) (omega arith)))

-- ---- the two ways

stands_low : {h n s phase : ℕ} {p : Place} (m : Message) → Stands h n s phase p → p ≡ of_request m → phase ≤ TRAILED
unfolding place_of
stands_low m (a_place {phase = zero}) e = omega arith
stands_low m (a_place {phase = suc zero}) e = omega arith
stands_low m (a_place {phase = suc (suc zero)}) e = omega arith
stands_low m (a_place {phase = suc (suc (suc zero))}) e = let z : ◌≡◌ {A = ℕ} 0 1 = cc in absurd (omega arith)
stands_low m (a_place {phase = suc (suc (suc (suc k)))}) e = let z : ◌≡◌ {A = ℕ} 0 1 = cc in absurd (omega arith)
stands_low m (any_set {p = of_request x} k i) e = absurd i
stands_low m (any_set {p = Place.of_control x} k i) e = let z : ◌≡◌ {A = ℕ} 0 1 = cc in absurd (omega arith)

between_mode : (mode a d t : ℕ) (p : Place) (k : List ℕ) → state_at mode a d t p k ≡ between p → mode ≤ TRAILERS-DUE
unfolding mode_state
between_mode mode a d t p k = not_kept (λ z. mode_state z a d t p k ≡ between p) (λ f e. (let z : ◌≡◌ {A = ℕ} 0 1 = cc in omega arith)) mode

module _ (r : Record) (o : Open r) {x : Reply} where
  taken_fit : (d : Cells) → Meant r (Ok d) x → Fit REQUEST r.id d
  taken_fit d (turned n z e f) = cc
  taken_fit d (took m q e st state sane f) =
      let same : q ≡ d = cc in
      let h = o.sound.fit.shaped in
      subst (Fit REQUEST r.id) same (record {
        sane = sane;
        shaped = request_shape r.id q h.ids (h.request_id o.kind) (stands_low m st refl) (between_mode q.mode q.acc q.due q.ftype (of_request m) [] (state (of_request m) []));
      })

  by_taken : (d : Cells) → Meant r (Ok d) x → (w : Record) → Written (stream REQUEST r.id d) w → (refused ACCEPTED w ≡ x) × Open w
  unfolding map_state
  by_taken d (turned n z e f) w written = cc
  by_taken d (took m q e st state sane f) w written =
      let same : q ≡ d = cc in
      let fit = taken_fit d (took m q e st state sane f) in
      let st' = subst (λ y. StandsIn y (of_request m)) same st in
      let state' = subst (λ y. state_of y (of_request m) [] ≡ between (of_request m)) same (state (of_request m) []) in
      let e : w ≡ request_record r.id (between m) = written_as (stream REQUEST r.id d) w written fit (of_request m) [] st' ∙ ap (record_from REQUEST r.id) state' in
      (ap (refused ACCEPTED) e ∙ f, record { sound = written_sound (stream REQUEST r.id d) w fit written; kind = ap (λ y. y.kind) e })

  by_turned : (n : ℕ) → Meant r (Err n) x → (n ≡ ACCEPTED → ⊥) × (refused n (left_by n r) ≡ x)
  by_turned n (turned q z e f) = let same : q ≡ n = cc in subst (λ y. (y ≡ ACCEPTED → ⊥) × (refused y (left_by y r) ≡ x)) same (z, f)
  by_turned n (took m q e st state sane f) = cc

module _ (r : Record) (o : Open r) (block : List ℕ) where
  meant : {g : Result Cells ℕ} → g ≡ given_of (cells_in r) block → Meant r g (given_as r block (state_in r))
  meant is = rw is (given_by r o block (due_view (cells_in r).mode))

  module _ (d : Cells) (is : Ok d ≡ given_of (cells_in r) block) where
    pub give_fit : Fit REQUEST r.id d
    give_fit = taken_fit r o d (meant is)

    pub give_taken : {a : Reply} (w : Record) → Written (stream REQUEST r.id d) w → a ≡ refused ACCEPTED w → Keeps r (given_as r block) a
    give_taken w written q = let t = by_taken r o d (meant is) w written in
        record { answers = opened o (q ∙ t.0); stays = λ z. subst Open (sym (ap (λ x. x.row) q)) t.1 }

  pub give_turned : (n : ℕ) {a : Reply} → Err n ≡ given_of (cells_in r) block → a ≡ refused n (left_by n r) → Keeps r (given_as r block) a
  give_turned n is q = let t = by_turned r o n (meant is) in
      record { answers = opened o (q ∙ t.1); stays = λ z. absurd (t.0 (sym (ap (λ x. x.number) q) ∙ z)) }
