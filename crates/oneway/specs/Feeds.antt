-- Laws of the calls on one one-way stream: a law for each way out. Assumes nothing.
use Rattle.std.specs.Prelude.{◌≡◌, ◌⊎◌, drop, replicate, eqb, Bool, true, false, Result, Ok, Err}
use Rattle.std.proofs.Math.Path.{refl, sym, ap}
use Rattle.std.proofs.Common.{◌∙◌, subst, take_all}
use Prim.Native.Nat.{ℕ, zero, suc, ◌+◌, ◌-◌, ◌%◌, ◌≤◌, ◌<◌, ◌^◌, min}
use Rattle.std.proofs.Math.Nat.{add-zero}
use Rattle.std.proofs.Math.Logic.{inl, inr}
use native.Mathlib.Omega.{arith}
use mathlib.Core.List.{List, [], ◌++◌}
use Rattle.std.proofs.Math.ListN.{length, take, length-append}
use Rattle.std.proofs.Math.Seq.{take-nil, length-take-le}
use borrow.Author.Tests.{le-ltb, eqb-true, eqb-false}
use Rattle.rules.specs.Numbers.{ACCEPTED, Code, code_number}
use Rattle.rules.specs.declared.codes.Code as declared-code
use Rattle.rules.specs.Named.{code_of}
use Rattle.rules.specs.Reading.{Next, stop, go, kept}
use Rattle.rules.specs.Control.{Control, control, judged, Told}
use Rattle.meaning.specs.Machine.{in_payload, between, answered}
use Rattle.meaning.specs.Feed.{Feeding, halt, judged_event}
use Rattle.meaning.specs.Feed as F
use Rattle.meaning.specs.FeedLaws.{past}
use Rattle.meaning.proofs.FeedLaws.{kept_short}
use Rattle.meaning.specs.OneWayFeed.{OneState, OneFeeding, lives, dies, of_frames, in_control, controlled, of_control, feed}
use Rattle.frames.specs.Modes.{IN-SETTINGS, SET}
use Rattle.frames.specs.declared.Cells.{Cells}
use Rattle.frames.specs.Parts.{judged_as, kept_judged}
use Rattle.frames.specs.Answers.{kept_state, kept_at, state_of, Sane}
use Rattle.record.specs.Kinds.{CONTROL}
use Rattle.record.specs.declared.Record.{Record}
use Rattle.record.specs.Row.{place_in, one_way_record, free_record}
use Rattle.record.specs.Sound.{Fit, cells_in, stream, Written}
use Rattle.frames.specs.declared.Event as frames-event
use Rattle.frames.specs.declared.Event.TheVariants as event
use Rattle.oneway.specs.declared.Event as declared-event
use Rattle.oneway.specs.declared.Event.TheVariants as one
use Rattle.oneway.specs.declared.OneWay.{OneWay}
use Rattle.oneway.specs.declared.OneAnswer.{OneAnswer}
use Rattle.oneway.specs.Types.{types_of}
use Rattle.oneway.specs.Stands.{one_state_at, one_state, OneStands, qpack_of, one_answer_at, NoneHanded, Goes, OneSoundAt, OneShapeAt, StandsAt, cells_of, OneFed}
use Rattle.oneway.specs.Frames.{frame_cells, frame_sane}
use Rattle.oneway.specs.Row.{one_fit}
use Rattle.oneway.specs.Closed.{closes, number_in, Closes, behind_judged, behind_between}
use Rattle.control.specs.declared.Kept.{Kept}
use Rattle.control.specs.declared.Verdict.{Verdict}
use Rattle.control.specs.Judged.{judged_of}
use Rattle.control.specs.Rules.{control_of, Says, judged_says}
use Rattle.meaning.specs.NumberLaws.{code_high}
use Rattle.oneway.specs.declared.calls.Side.{Side}
use Rattle.oneway.specs.declared.calls.Heard.{Heard}
use Rattle.oneway.specs.Mirror.{kept_numbers, kept_in, sofar_in, bytes_of, held_in, side_of, side_after, side_by}
use Rattle.oneway.specs.Numbers.{bytes_back}
use Rattle.oneway.specs.Room.{OneFits, stays_fit}
use Rattle.oneway.specs.Back.{here_fits, left_back}
use Rattle.oneway.specs.Heard.{Heeds, place_here, sofar_here, state_here, heard, taken_number, value_in, frame_event, frame_value, type_number, said_by, said, judging, judged_here, feeding, fed_here, Stays, closed_by, closed_here, HeardAs, shut, opened}
use Rattle.oneway.specs.Leaves.{heeds_shape, control_stands, stands_here, none_held, control_row, row_of_state, sofar_none, sofar_kept, control_side, side_of_state, take_least}

pub lives_one : {s t : OneState} → lives s ≡ lives t → s ≡ t
lives_one e = cc

dies_not : {code : Code} {t : OneState} → dies code ≡ lives t → ⊥
dies_not e = let z : ◌≡◌ {A = ℕ} 0 1 = cc in omega arith

-- ---- a complete payload

pub behind_sound : OneSoundAt 3 (cells_of 0 0 4) × OneShapeAt 3 (cells_of 0 0 4)
unfolding OneSoundAt OneShapeAt
behind_sound = (frame_sane 4 (omega arith), (omega arith, λ l. absurd (omega arith)))

pub behind_fit : (id : ℕ) → id < 2 ^ 62 → id % 4 ≡ 2 → Fit CONTROL id (cells_of 0 0 4)
behind_fit id i m = one_fit id i m (record { kind = 3; cells = cells_of 0 0 4 }) behind_sound.0 behind_sound.1

behind_row : (id : ℕ) (p : Control) {q : Record} → OneStands 3 (frame_cells 4) p [] → id < 2 ^ 62 → id % 4 ≡ 2 → Written (stream CONTROL id (cells_of 0 0 4)) q → q ≡ one_way_record id (in_control (between p))
unfolding OneStands
behind_row id p st i m w = control_row id (cells_of 0 0 4) p [] st.0 (behind_fit id i m) w ∙ ap (one_way_record id) (unfold one_state_at in behind_between p)

module _ (which phase : ℕ) (payload : List ℕ) (used heads : ℕ) (r : Record) (d : Side) where
  abbrev was : Kept
  was = kept_in phase d.kept

  abbrev judgement : Next Control
  judgement = judged (kept_at which) (control_of was) payload

  abbrev wants : Next Control → Heard
  wants n = said r d (of_control (past used heads (halt (judged_event (kept_at which) payload n) (answered n))))

  wants_is : wants judgement ≡ judged_here which phase payload used heads r d
  unfolding judged_as
  wants_is = refl

  refused_as : (n : Next Control) (told : Told) (v : Verdict) → Says was told v n → (v.number ≡ ACCEPTED → ⊥) → heard v.number 0 0 0 used heads 0 r d ≡ wants n
  unfolding Says said_by of_control past halt judged_event answered controlled
  refused_as (stop code) told v s z =
      let u = add-zero used in
      let h = add-zero heads in
      rw (s, u, h) refl
  refused_as (go q) told v s z = absurd (z s.0)

  good_as : (n : Next Control) (told : Told) (v : Verdict) → n ≡ judgement → Says was told v n → v.number ≡ ACCEPTED → {q : Record} {tidy : Kept} {side : Side} {event value : ℕ}
      → r.id < 2 ^ 62 → r.id % 4 ≡ 2 → tidy ≡ kept_numbers (control_of v.kept) → event ≡ taken_number (kept_at which) → value ≡ value_in (kept_at which) tidy
      → Written (stream CONTROL r.id (cells_of 0 0 4)) q → side ≡ side_of 1 d.encoder d.decoder tidy 0 (replicate 256 0) → heard 0 event 0 0 used heads value q side ≡ wants n
  unfolding Says said_by of_control past halt judged_event answered controlled frame_event frame_value side_after sofar_in place_in
  good_as (stop code) told v j s z i m t e f w g = let x : v.number ≡ code_number code = ap (λ y. y.number) s in let h = code_high code in absurd (omega arith)
  good_as (go p) told v j s z {q} i m t e f w g =
      let u = add-zero used in
      let h = add-zero heads in
      let st = behind_judged (kept_at which) (control_of was) p payload (sym j) in
      let row : q ≡ one_way_record r.id (in_control (between p)) = behind_row r.id p st i m w in
      let n = s.1 in
      let nil = take-nil {A = ℕ} 256 in
      rw (u, h, row, g, e, f, t, n, nil) refl

  abbrev wants_fed : Next Control → OneFeeding
  wants_fed n = of_control (past used heads (halt (judged_event (kept_at which) payload n) (answered n)))

  fed_is : wants_fed judgement ≡ judging which phase payload used heads d
  unfolding judged_as
  fed_is = refl

  refused_stays : (n : Next Control) (told : Told) (v : Verdict) → Says was told v n → (v.number ≡ ACCEPTED → ⊥) → (row : Record) (side : Side) → Stays row side (wants_fed n)
  unfolding Says of_control past halt answered controlled
  refused_stays (stop code) told v s z row side t e = absurd (dies_not e)
  refused_stays (go q) told v s z row side t e = absurd (z s.0)

  good_stays : (n : Next Control) (told : Told) (v : Verdict) → n ≡ judgement → Says was told v n → v.number ≡ ACCEPTED → {q : Record} {tidy : Kept} {side : Side}
      → r.id < 2 ^ 62 → r.id % 4 ≡ 2 → tidy ≡ kept_numbers (control_of v.kept)
      → Written (stream CONTROL r.id (cells_of 0 0 4)) q → side ≡ side_of 1 d.encoder d.decoder tidy 0 (replicate 256 0) → Stays q side (wants_fed n)
  unfolding Says of_control past halt judged_event answered controlled side_after sofar_in place_in OneStands StandsAt
  good_stays (stop code) told v j s z i m t w g x e = absurd (dies_not e)
  good_stays (go p) told v j s z {q} {tidy} {side} i m t w g x e =
      let st = behind_judged (kept_at which) (control_of was) p payload (sym j) in
      let at : one_state_at CONTROL (cells_of 0 0 4) p [] ≡ in_control (between p) = behind_between p in
      let nil = take-nil {A = ℕ} 256 in
      let here : side ≡ side_after d (in_control (between p)) = (let n = s.1 in g ∙ rw (t, n, nil) refl) in
      let is : in_control (between p) ≡ x = lives_one e in
      let b = left_back r.id (cells_of 0 0 4) p [] 3 st.0 behind_sound.1 (behind_fit r.id i m) w (subst OneFits (sym at) tt) d side (here ∙ ap (side_after d) (sym at)) in
      (b.0, b.1 ∙ at ∙ is)

  pub judged_refused_stays : (v : Verdict) → v ≡ judged_of which was payload → (v.number ≡ ACCEPTED → ⊥) → (row : Record) (side : Side) → Stays row side (judging which phase payload used heads d)
  judged_refused_stays v e z row side =
      let x = judged_says was payload which in
      subst (Stays row side) fed_is (refused_stays judgement x.0 v (subst (λ y. Says was x.0 y judgement) (sym e) x.1) z row side)

  pub judged_good_stays : (v : Verdict) → v ≡ judged_of which was payload → v.number ≡ ACCEPTED → {q : Record} {tidy : Kept} {side : Side}
      → r.id < 2 ^ 62 → r.id % 4 ≡ 2 → tidy ≡ kept_numbers (control_of v.kept)
      → Written (stream CONTROL r.id (cells_of 0 0 4)) q → side ≡ side_of 1 d.encoder d.decoder tidy 0 (replicate 256 0) → Stays q side (judging which phase payload used heads d)
  judged_good_stays v e z {q} {tidy} {side} i m t w g =
      let x = judged_says was payload which in
      subst (Stays q side) fed_is
      (good_stays judgement x.0 v refl (subst (λ y. Says was x.0 y judgement) (sym e) x.1) z i m t w g)

  pub judged_refused : (v : Verdict) → v ≡ judged_of which was payload → (v.number ≡ ACCEPTED → ⊥) → heard v.number 0 0 0 used heads 0 r d ≡ judged_here which phase payload used heads r d
  judged_refused v e z =
      let x = judged_says was payload which in
      refused_as judgement x.0 v (subst (λ y. Says was x.0 y judgement) (sym e) x.1) z ∙ wants_is

  pub judged_good : (v : Verdict) → v ≡ judged_of which was payload → v.number ≡ ACCEPTED → {q : Record} {tidy : Kept} {side : Side} {event value : ℕ}
      → r.id < 2 ^ 62 → r.id % 4 ≡ 2 → tidy ≡ kept_numbers (control_of v.kept) → event ≡ taken_number (kept_at which) → value ≡ value_in (kept_at which) tidy
      → Written (stream CONTROL r.id (cells_of 0 0 4)) q → side ≡ side_of 1 d.encoder d.decoder tidy 0 (replicate 256 0) → heard 0 event 0 0 used heads value q side ≡ judged_here which phase payload used heads r d
  judged_good v e z i m t f g w h =
      let x = judged_says was payload which in
      good_as judgement x.0 v refl (subst (λ y. Says was x.0 y judgement) (sym e) x.1) z i m t f g w h ∙ wants_is

-- ---- what an answer says

module _ (r : Record) (d : Side) (start len used heads : ℕ) (w : OneWay) (p : Control) (s : List ℕ) where
  abbrev says : declared-event.Event → Heard
  says e = said r d (one_answer_at e start len used heads w p [] s)

  abbrev leaves : (event value start' len' : ℕ) → List ℕ → Heard
  leaves event value start' len' k = heard 0 event start' len' used heads value (one_way_record r.id (one_state w p k)) (side_after d (one_state w p k))

  said_fault : (e : declared-event.Event) (code : declared-code.Code) → e ≡ one.Frames (event.Fault code) → heard (code_number (code_of code)) 0 0 0 used heads 0 r d ≡ says e
  unfolding one_answer_at said_by
  said_fault e code q = rw q refl

  said_part : (e : declared-event.Event) → e ≡ one.Frames event.KeptPart → leaves 0 0 0 0 (take len (drop start s)) ≡ says e
  unfolding one_answer_at said_by frame_event frame_value
  said_part e q = rw q refl

  said_qpack : (e : declared-event.Event) → e ≡ one.Qpack → leaves 7 (type_number (qpack_of w.kind)) (used - len) len [] ≡ says e
  unfolding one_answer_at said_by
  said_qpack e q = rw q refl

  said_quiet : (e : declared-event.Event) → e ≡ one.Frames event.Nothing → leaves 0 0 0 0 [] ≡ says e
  unfolding one_answer_at said_by frame_event frame_value
  said_quiet e q = rw q refl

-- ---- on with a type, with frames, or with what has none

-- of frames, what is neither a fault nor kept
pub plain_part : {e : declared-event.Event} {f : frames-event.Event} → e ≡ one.Frames f → f ≡ event.Nothing ⊎ (f ≡ event.Content ⊎ (f ≡ event.Section ⊎ f ≡ event.SectionEnd))
    → Goes e × (e ≡ one.Frames event.KeptPart → ⊥) × (e ≡ one.Qpack → ⊥)
plain_part q (inl h) = rw (q, h) (tt, (λ x. cc), λ x. cc)
plain_part q (inr (inl h)) = rw (q, h) (tt, (λ x. cc), λ x. cc)
plain_part q (inr (inr (inl h))) = rw (q, h) (tt, (λ x. cc), λ x. cc)
plain_part q (inr (inr (inr h))) = rw (q, h) (tt, (λ x. cc), λ x. cc)

-- nothing else comes
nothing_else : (e : declared-event.Event) → Goes e → NoneHanded e → (e ≡ one.Frames event.KeptPart → ⊥) → (e ≡ one.Qpack → ⊥) → e ≡ one.Frames event.Nothing
nothing_else (one.Frames event.Nothing) g n x y = refl
nothing_else (one.Frames event.Content) g n x y = absurd n
nothing_else (one.Frames event.Section) g n x y = absurd n
nothing_else (one.Frames event.SectionEnd) g n x y = absurd n
nothing_else (one.Frames (event.Fault code)) g n x y = absurd g
nothing_else (one.Frames (event.Kept which)) g n x y = absurd g
nothing_else (one.Frames event.KeptPart) g n x y = absurd (x refl)
nothing_else one.Qpack g n x y = absurd (y refl)

module _ (r : Record) (o : Heeds r) (d : Side) {c : Cells} (ec : c ≡ cells_in r) (m : c.mode < IN-SETTINGS) (s : List ℕ) (allow : ℕ) (a : OneAnswer)
    (fed : OneFed (record { kind = r.kind; cells = c }) (record { control = d.control; encoder = d.encoder; decoder = d.decoder }) s allow a) where
  abbrev want : Heard
  want = fed_here r d allow s (state_here r d)

  abbrev p : Control
  p = place_here r d

  pub own_fed : OneFed (record { kind = r.kind; cells = cells_in r }) (record { control = d.control; encoder = d.encoder; decoder = d.decoder }) s allow a
  own_fed = rw ec at fed

  low : r.mode < IN-SETTINGS
  low = rw ec at m

  wanted : said r d (one_answer_at a.event a.start a.len a.used a.heads a.stream p [] s) ≡ want
  wanted =
      sym (ap (said r d) (own_fed.is p [] (stands_here r o d)))
      ∙ sym (ap (λ k. said r d (feed (types_of d.control d.encoder d.decoder) allow (one_state_at r.kind (cells_in r) p k) s)) (none_held r o d low))

  abbrev after : OneWay
  after = a.stream

  pub shape_after : OneShapeAt after.kind after.cells
  shape_after = own_fed.shaped (heeds_shape r o)

  pub on_fit : Fit after.kind r.id after.cells
  on_fit = let h = o.sound.fit.shaped in one_fit r.id h.ids (h.one_way_id o.kind) after own_fed.sound shape_after

  pub on_fault : (code : declared-code.Code) → a.event ≡ one.Frames (event.Fault code) → {n : ℕ} {x : Heard} → n ≡ code_number (code_of code) → x ≡ heard n 0 0 0 a.used a.heads 0 r d → x ≡ want
  on_fault code e z q = q ∙ ap (λ y. heard y 0 0 0 a.used a.heads 0 r d) z ∙ said_fault r d a.start a.len a.used a.heads after p s a.event code e ∙ wanted

  is_fed : feeding d allow s (state_here r d) ≡ one_answer_at a.event a.start a.len a.used a.heads after p [] s
  is_fed = ap (λ k. feeding d allow s (one_state_at r.kind (cells_in r) p k)) (none_held r o d low) ∙ own_fed.is p [] (stands_here r o d)

  fault_after : (e : declared-event.Event) (start len used heads : ℕ) (k : List ℕ) (code : declared-code.Code) → e ≡ one.Frames (event.Fault code) → (one_answer_at e start len used heads after p k s).after ≡ dies (code_of code)
  unfolding one_answer_at
  fault_after e start len used heads k code q = rw q refl

  pub fault_stays : (code : declared-code.Code) → a.event ≡ one.Frames (event.Fault code) → (row : Record) (side : Side) → Stays row side (feeding d allow s (state_here r d))
  fault_stays code e row side t f = absurd (dies_not (sym (ap (λ y. y.after) is_fed ∙ fault_after a.event a.start a.len a.used a.heads [] code e) ∙ f))

  part_is : a.start + a.len ≡ a.used
  part_is = own_fed.part

  pub part_in : a.start + a.len ≤ length s
  part_in = let e = part_is in omega (arith, own_fed.within)

  judged_answer : (e : declared-event.Event) (start len used heads which : ℕ) → e ≡ one.Frames (event.Kept which)
      → of_control (past used heads (judged_as control 0 p (kept_at which) (take len (drop start s)))) ≡ one_answer_at e start len used heads after p [] s
  unfolding one_answer_at
  judged_answer e start len used heads which q = rw q refl

  pub on_judged : (which : ℕ) → a.event ≡ one.Frames (event.Kept which) → {phase : ℕ} → phase ≡ c.phase → {all : List ℕ} → all ≡ take (a.used - a.start) (drop a.start s)
      → judging which phase all a.used a.heads d ≡ feeding d allow s (state_here r d)
  on_judged which e f g =
      let l : a.used - a.start ≡ a.len = (let z = part_is in omega arith) in
      let ph : c.phase ≡ r.phase = ap (λ y. y.phase) ec in
      rw (g, l, f, ph) (judged_answer a.event a.start a.len a.used a.heads which e ∙ sym is_fed)

  module _ (goes : Goes a.event) {row : Record} (written : Written (stream after.kind r.id after.cells) row)
      {side : Side} (word : List ℕ) (beside : side ≡ side_by after.kind c.phase d word) where
    pub row_is : (k : List ℕ) → row ≡ one_way_record r.id (one_state after p k)
    row_is k = row_of_state r.id after.cells p k after.kind (own_fed.leaves goes p [] (stands_here r o d)) shape_after on_fit written

    pub side_is : (k : List ℕ) → word ≡ take 256 k → sofar_in (state_of after.cells p k) ≡ k → side ≡ side_after d (one_state after p k)
    side_is k e f =
        let ph : c.phase ≡ r.phase = ap (λ y. y.phase) ec in
        beside ∙ rw (e, ph) (side_of_state d r.phase after.cells k after.kind f)

    pub none_kept : sofar_in (state_of after.cells p []) ≡ []
    none_kept = sofar_none after.cells.mode after.cells.acc after.cells.due after.cells.ftype p

    pub on_qpack : word ≡ [] → a.event ≡ one.Qpack → {value : ℕ} → value ≡ type_number (qpack_of after.kind) → heard 0 7 a.start a.len a.used a.heads value row side ≡ want
    on_qpack z e v =
        let l : a.start ≡ a.used - a.len = (let z = part_is in omega arith) in
        let x = row_is [] in
        let y = side_is [] (z ∙ sym (take-nil 256)) none_kept in
        rw (l, v, x, y) (said_qpack r d a.start a.len a.used a.heads after p s a.event e ∙ wanted)

    stays_at : (k : List ℕ) → (one_answer_at a.event a.start a.len a.used a.heads after p [] s).after ≡ lives (one_state after p k)
        → side ≡ side_after d (one_state after p k) → (x : OneState) → (feeding d allow s (state_here r d)).after ≡ lives x → Heeds row × (state_here row side ≡ x)
    stays_at k f g x e =
        let fit = stays_fit (types_of d.control d.encoder d.decoder) allow (state_here r d) x (here_fits r o d) s e in
        let is : one_state after p k ≡ x = lives_one (sym f ∙ sym (ap (λ y. y.after) is_fed) ∙ e) in
        let b = left_back r.id after.cells p k after.kind (own_fed.leaves goes p [] (stands_here r o d)) shape_after on_fit written (rw (sym is) at fit) d side g in
        (b.0, b.1 ∙ is)

    part_after : (e : declared-event.Event) (start len used heads : ℕ) → e ≡ one.Frames event.KeptPart → (one_answer_at e start len used heads after p [] s).after ≡ lives (one_state after p (take len (drop start s)))
    unfolding one_answer_at
    part_after e start len used heads q = rw q refl

    plain_after : (e : declared-event.Event) (start len used heads : ℕ) → Goes e → (e ≡ one.Frames event.KeptPart → ⊥) → (one_answer_at e start len used heads after p [] s).after ≡ lives (one_state after p [])
    unfolding one_answer_at
    plain_after (one.Frames event.Nothing) start len used heads g x = refl
    plain_after (one.Frames event.Content) start len used heads g x = refl
    plain_after (one.Frames event.Section) start len used heads g x = refl
    plain_after (one.Frames event.SectionEnd) start len used heads g x = refl
    plain_after (one.Frames (event.Fault code)) start len used heads g x = absurd g
    plain_after (one.Frames (event.Kept which)) start len used heads g x = absurd g
    plain_after (one.Frames event.KeptPart) start len used heads g x = absurd (x refl)
    plain_after one.Qpack start len used heads g x = refl

    part_beside : a.event ≡ one.Frames event.KeptPart → word ≡ take (min a.len 256) (drop a.start s) → side ≡ side_after d (one_state after p (take a.len (drop a.start s)))
    part_beside e z =
        let k = take a.len (drop a.start s) in
        let h = own_fed.held e in
        side_is k (z ∙ take_least a.len (drop a.start s)) (sofar_kept after.cells.mode after.cells.acc after.cells.due after.cells.ftype p k h.1)

    pub on_part : a.event ≡ one.Frames event.KeptPart → word ≡ take (min a.len 256) (drop a.start s) → heard 0 0 0 0 a.used a.heads 0 row side ≡ want
    on_part e z =
        let k = take a.len (drop a.start s) in
        let x = row_is k in
        let y = part_beside e z in
        rw (x, y) (said_part r d a.start a.len a.used a.heads after p s a.event e ∙ wanted)

    pub on_quiet : word ≡ [] → a.event ≡ one.Frames event.Nothing → heard 0 0 0 0 a.used a.heads 0 row side ≡ want
    on_quiet z e =
        let x = row_is [] in
        let y = side_is [] (z ∙ sym (take-nil 256)) none_kept in
        rw (x, y) (said_quiet r d a.start a.len a.used a.heads after p s a.event e ∙ wanted)

    -- what is left is an open stream, in the state after
    pub on_part_stays : a.event ≡ one.Frames event.KeptPart → word ≡ take (min a.len 256) (drop a.start s) → Stays row side (feeding d allow s (state_here r d))
    on_part_stays e z = stays_at (take a.len (drop a.start s)) (part_after a.event a.start a.len a.used a.heads e) (part_beside e z)

    pub on_stays : word ≡ [] → (a.event ≡ one.Frames event.KeptPart → ⊥) → Stays row side (feeding d allow s (state_here r d))
    on_stays z n = stays_at [] (plain_after a.event a.start a.len a.used a.heads goes n) (side_is [] (z ∙ sym (take-nil 256)) none_kept)

    -- nothing else comes
    pub on_other : word ≡ [] → (a.event ≡ one.Frames event.KeptPart → ⊥) → (a.event ≡ one.Qpack → ⊥) → heard 0 0 0 0 a.used a.heads 0 row side ≡ want
    on_other z x y = on_quiet z (nothing_else a.event goes (own_fed.plain (heeds_shape r o)) x y)

-- what a judgement asks
pub heeds_asks : (r : Record) → Heeds r → {c : Cells} → c ≡ cells_in r → (c.phase ≤ SET) × (r.id < 2 ^ 62) × (r.id % 4 ≡ 2)
heeds_asks r o {c} ec = let h = o.sound.fit.shaped in let e : c.phase ≡ r.phase = ap (λ x. x.phase) ec in (omega (arith, h.phases), h.ids, h.one_way_id o.kind)

-- ---- on with a payload that an earlier piece began

module _ (r : Record) (o : Heeds r) (d : Side) {c : Cells} (ec : c ≡ cells_in r) (m : IN-SETTINGS ≤ c.mode) (s : List ℕ) (allow : ℕ) where
  kept_mode : IN-SETTINGS ≤ r.mode
  kept_mode = rw ec at m

  -- it is a control stream
  pub kept_kind : r.kind ≡ CONTROL
  kept_kind = by (eqb r.kind CONTROL) refl
    where
      by : (b : Bool) → eqb r.kind CONTROL ≡ b → r.kind ≡ CONTROL
      by true e = eqb-true r.kind 3 e
      by false e = let z = o.sound.fit.shaped.bare_mode o.kind (eqb-false r.kind 3 e) in absurd (omega (arith, kept_mode))

  pub kept_few : c.acc ≤ 256
  kept_few = let e : c.acc ≡ r.acc = ap (λ x. x.acc) ec in omega (arith, o.room kept_mode)

  kept_some : 0 < r.acc
  kept_some = o.sound.fit.sane.some (omega (arith, kept_mode)) (λ e. omega (arith, kept_mode)) (λ e. omega (arith, kept_mode))

  held_is : {n : ℕ} → n ≡ min d.held (256 - c.acc) → n ≡ held_in r.mode r.acc d.held
  unfolding held_in
  held_is q = let x = le-ltb r.mode IN-SETTINGS kept_mode in let e : c.acc ≡ r.acc = ap (λ y. y.acc) ec in q ∙ rw (x, held_in, e) refl

  abbrev sofar : List ℕ
  sofar = sofar_here r d

  pub frames_want : (kind : ℕ) → kind ≡ CONTROL → feed (types_of d.control d.encoder d.decoder) allow (one_state_at kind (cells_in r) (place_here r d) sofar) s
      ≡ of_control (F.feed control allow (in_payload (kept (kept_at r.mode)) sofar (r.acc - 1) (place_here r d)) s)
  unfolding one_state_at feed
  frames_want kind e = rw e (ap (λ x. of_control (F.feed control allow x s)) (kept_state r.mode r.acc r.due r.ftype (place_here r d) sofar kept_mode))

  kept_fed : feeding d allow s (state_here r d) ≡ of_control (F.feed control allow (in_payload (kept (kept_at r.mode)) sofar (r.acc - 1) (place_here r d)) s)
  kept_fed = frames_want r.kind kept_kind

  pub kept_complete : {n k : ℕ} {all payload : List ℕ} → length d.bytes ≡ 256 → n ≡ min d.held (256 - c.acc) → k ≡ c.acc → k ≤ length s
      → all ≡ bytes_of (take n d.bytes ++ take k s) → payload ≡ take (n + k) all → judging c.mode c.phase payload k 0 d ≡ feeding d allow s (state_here r d)
  unfolding judged_as
  kept_complete {n} {k} {all} {payload} lb hn ek hk ha hp =
      let ac : c.acc ≡ r.acc = ap (λ y. y.acc) ec in
      let mo : c.mode ≡ r.mode = ap (λ y. y.mode) ec in
      let ph : c.phase ≡ r.phase = ap (λ y. y.phase) ec in
      let one : suc (r.acc - 1) ≡ r.acc = (let z = kept_some in omega arith) in
      let kr : k ≡ r.acc = omega arith in
      let hs : n ≡ held_in r.mode r.acc d.held = held_is hn in
      let body = take n d.bytes ++ take k s in
      let few = kept_few in
      let ln : length (take n d.bytes) ≡ n = length-take-le n d.bytes (omega arith) in
      let lk : length (take k s) ≡ k = length-take-le k s hk in
      let lb2 = length-append (take n d.bytes) (take k s) in
      let back : take (n + k) (bytes_of body) ≡ body = bytes_back body (n + k) (omega arith) (omega arith) in
      let is_body : payload ≡ body = hp ∙ ap (take (n + k)) ha ∙ back in
      let kj = kept_judged control allow (place_here r d) (kept_at r.mode) (r.acc - 1) sofar s (omega arith) in
      rw (is_body, mo, ph, kr, hs) (ap of_control (sym (rw one at kj)) ∙ sym kept_fed)

  -- fewer to come
  abbrev less : Cells
  less = record { mode = r.mode; acc = r.acc - length s; due = r.due; ftype = r.ftype; phase = r.phase; has = r.has; stated = r.stated; sum = r.sum }

  module _ (short : length s < c.acc) where
    pub less_is : ◌≡◌ {A = Cells} (record { mode = c.mode; acc = c.acc - length s; due = c.due; ftype = c.ftype; phase = c.phase; has = c.has; stated = c.stated; sum = c.sum }) less
    less_is = ap (λ x. record { mode = x.mode; acc = x.acc - length s; due = x.due; ftype = x.ftype; phase = x.phase; has = x.has; stated = x.stated; sum = x.sum }) ec

    less_acc : length s < r.acc
    less_acc = let e : c.acc ≡ r.acc = ap (λ x. x.acc) ec in omega arith

    less_sane : Sane less
    less_sane = let g = o.sound.fit.sane in record {
      modes = g.modes;
      header = λ l. absurd (omega (arith, kept_mode));
      small = omega (arith, g.small);
      type = g.type;
      some = λ x y z. omega (arith, less_acc);
      sums = g.sums;
      stateds = g.stateds;
    }

    less_sound : OneSoundAt 3 less × OneShapeAt 3 less
    unfolding OneSoundAt OneShapeAt
    less_sound = let h = o.sound.fit.shaped in ((less_sane, h.control_phase kept_kind), (h.phases, h.control_mode kept_kind))

    pub kept_fit : {e : Cells} → e ≡ less → Fit CONTROL r.id e
    kept_fit q = let h = o.sound.fit.shaped in rw q (one_fit r.id h.ids (h.one_way_id o.kind) (record { kind = 3; cells = less }) less_sound.0 less_sound.1)

    part_fed : feeding d allow s (state_here r d) ≡ record { used = length s; heads = 0; event = of_frames F.quiet; after = lives (in_control (state_of less (place_here r d) (sofar ++ s))) }
    unfolding of_control controlled
    part_fed =
        let left : (r.acc - 1) - length s ≡ (r.acc - length s) - 1 = omega arith in
        let here = place_here r d in
        let k = sofar ++ s in
        let st : state_of less here k ≡ in_payload (kept (kept_at r.mode)) k ((r.acc - 1) - length s) here = kept_state r.mode (r.acc - length s) r.due r.ftype here k kept_mode ∙ ap (λ x. in_payload (kept (kept_at r.mode)) k x here) (sym left) in
        let ks = kept_short control allow here (kept_at r.mode) (r.acc - 1) sofar s (omega (arith, less_acc)) in
        kept_fed ∙ ap of_control ks ∙ rw st refl

    module _ {n : ℕ} {all : List ℕ} {tidy : Kept} {side : Side} (lb : length d.bytes ≡ 256) (hn : n ≡ min d.held (256 - c.acc)) (ha : all ≡ bytes_of (take n d.bytes ++ s))
        (ht : tidy ≡ kept_numbers (control_of (kept_in c.phase d.kept))) (hd : side ≡ side_of 1 d.encoder d.decoder tidy (n + length s) all) where
      part-side : side ≡ side_after d (in_control (state_of less (place_here r d) (sofar ++ s)))
      part-side =
          let ac : c.acc ≡ r.acc = ap (λ y. y.acc) ec in
          let ph : c.phase ≡ r.phase = ap (λ y. y.phase) ec in
          let hs : n ≡ held_in r.mode r.acc d.held = held_is hn in
          let few = kept_few in
          let k = sofar ++ s in
          let ln : length (take n d.bytes) ≡ n = length-take-le n d.bytes (omega arith) in
          let body : take n d.bytes ++ s ≡ k = ap (λ x. take x d.bytes ++ s) hs in
          let lk0 = length-append (take n d.bytes) s in
          let lk : n + length s ≡ length k = sym (ap length (sym body) ∙ lk0 ∙ ap (λ x. x + length s) ln) in
          let all-is : all ≡ bytes_of k = ha ∙ ap bytes_of body in
          let tk : take 256 k ≡ k = take_all 256 k (omega arith) in
          let sd = control_side d r.phase less k (sofar_kept r.mode (r.acc - length s) r.due r.ftype (place_here r d) k kept_mode) in
          hd ∙ rw (ht, ph, lk, all-is) (rw tk at sd)

      module _ {e : Cells} {row : Record} (he : e ≡ less) (w : Written (stream CONTROL r.id e) row) where
        less-written : Written (stream CONTROL r.id less) row
        less-written = rw he at w

        pub kept-part : heard 0 0 0 0 (length s) 0 0 row side ≡ fed_here r d allow s (state_here r d)
        unfolding said_by frame_event frame_value
        kept-part =
            let here = place_here r d in
            let k = sofar ++ s in
            let row_is : row ≡ one_way_record r.id (in_control (state_of less here k)) = control_row r.id less here k (control_stands r o d kept_kind) (kept_fit refl) less-written in
            let side_is = part-side in
            rw (row_is, side_is) (ap (said r d) (sym part_fed))

        pub part_stays : Stays row side (feeding d allow s (state_here r d))
        unfolding OneSoundAt OneShapeAt StandsAt one_state_at
        part_stays t e =
            let here = place_here r d in
            let k = sofar ++ s in
            let fit = stays_fit (types_of d.control d.encoder d.decoder) allow (state_here r d) t (here_fits r o d) s e in
            let is : in_control (state_of less here k) ≡ t = lives_one (sym (ap (λ x. x.after) part_fed) ∙ e) in
            let b = left_back r.id less here k 3 (control_stands r o d kept_kind) less_sound.1 (kept_fit refl) less-written (rw (sym is) at fit) d side part-side in
            (b.0, b.1 ∙ is)

-- ---- the calls

number_is : (r : Record) (d : Side) {c : Cells} {kind : ℕ} → kind ≡ r.kind → c ≡ cells_in r → (n : Result Unit declared-code.Code) → Closes (record { kind = kind; cells = c }) n → number_in n ≡ closes (state_here r d)
number_is r d ek ec n closed = let x = closed (place_here r d) (sofar_here r d) in rw (ek, ec) at x

module _ (r : Record) (o : Heeds r) (d : Side) {c : Cells} {kind : ℕ} (ek : kind ≡ r.kind) (ec : c ≡ cells_in r) {n : Result Unit declared-code.Code} (closed : Closes (record { kind = kind; cells = c }) n) where
  pub close_freed : {row : Record} → n ≡ Ok tt → row ≡ free_record → HeardAs r d (closed_here r d) (heard 0 12 0 0 0 0 0 row d)
  unfolding number_in
  close_freed z f = opened o (rw f (freed-at (closes (state_here r d)) (sym (number_is r d ek ec n closed) ∙ ap number_in z)))
    where
      freed-at : (m : ℕ) → m ≡ 0 → heard 0 12 0 0 0 0 0 free_record d ≡ closed_by r d m
      freed-at m e = unfold closed_by in rw e refl

  pub close_held : {code : declared-code.Code} {m : ℕ} {a : Heard} → n ≡ Err code → m ≡ code_number (code_of code) → a ≡ heard m 0 0 0 0 0 0 r d → HeardAs r d (closed_here r d) a
  unfolding number_in
  close_held {code} {m} z e q =
      let x : m ≡ closes (state_here r d) = e ∙ sym (ap number_in z) ∙ number_is r d ek ec n closed in
      opened o (q ∙ held_at m (λ y. (let h = code_high (code_of code) in omega arith)) ∙ ap (closed_by r d) x)
    where
      held_at : (m : ℕ) → (m ≡ 0 → ⊥) → heard m 0 0 0 0 0 0 r d ≡ closed_by r d m
      held_at zero x = absurd (x refl)
      held_at (suc m) x = unfold closed_by in refl

-- A CALL HAS ONE ANSWER
pub one_heard : (r : Record) (d : Side) (said : OneState → Heard) (a b : Heard) → HeardAs r d said a → HeardAs r d said b → a ≡ b
one_heard r d said a b (shut n p) (shut m q) = p ∙ sym q
one_heard r d said a b (shut n p) (opened o q) = absurd (n o)
one_heard r d said a b (opened o p) (shut n q) = absurd (n o)
one_heard r d said a b (opened o p) (opened x q) = p ∙ sym q
