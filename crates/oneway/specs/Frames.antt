-- The frames of a control stream behind its type, from a place of the piece on. Assumes nothing.
use Rattle.std.specs.Prelude.{◌≡◌, length, drop}
use Rattle.std.proofs.Math.Path.{refl, ap, subst}
use Rattle.std.proofs.Common.{sym, ◌∙◌, length-drop, drop-drop, take_all}
use Prim.Native.Nat.{ℕ, zero, suc, ◌+◌, ◌-◌, ◌≤◌}
use native.Mathlib.Omega.{arith}
use mathlib.Core.List.{List, [], ◌++◌}
use Rattle.std.proofs.Math.ListN.{take}
use Rattle.std.proofs.Math.Option.{none}
use Rattle.rules.specs.Numbers.{Code}
use Rattle.rules.specs.Reading.{Kept, Use, content, skipped, section, kept, Ruling, Next, stop, go}
use Rattle.rules.specs.Control.{Control, unset, set, no_settings, control, judged}
use Rattle.meaning.specs.Machine.{State, answered}
use Rattle.meaning.specs.ControlLaws.{ControlView, v_refused, v_skipped, v_kept, control_view}
use Rattle.meaning.specs.FeedUses.{Uses, NotKept, RulesWithin, JudgesWithin, StateWithin, FeedWithin, feed_within}
use Rattle.meaning.specs.Feed.{judged_event, Feeding, halt}
use Rattle.meaning.specs.Feed as F
use Rattle.meaning.specs.FeedLaws.{past}
use Rattle.meaning.specs.Hom.{map_next, map_outcome, map_feeding, map_state}
use Rattle.meaning.specs.OneWayFeed.{OneFeeding, controlled, of_control}
use Rattle.varint.specs.ByByte.{fresh_good}
use Rattle.frames.specs.Modes.{IN-CONTENT, IN-SETTINGS, UNSET, SET, mode_of, at_kept}
use Rattle.frames.specs.declared.Cells.{Cells}
use Rattle.frames.specs.declared.Answer.{Answer}
use Rattle.frames.specs.Both.{Place, both}
use Rattle.frames.specs.Both as place
use Rattle.frames.specs.Uses.{place_of, Stands, a_place, any_set}
use Rattle.frames.specs.Heads.{head_state}
use Rattle.frames.specs.Parts.{judged_as}
use Rattle.frames.specs.Answers.{mode_state, kept_at, state_at, state_of, place_at, place_in, StandsIn, answer_at, Sane, Held}
use Rattle.frames.specs.Fed.{Fed}
use Rattle.frames.specs.Apart.{controls, state_carried, control_fed}
use Rattle.frames.specs.declared.Event as frames-event
use Rattle.frames.specs.declared.Event.TheVariants as event
use Rattle.oneway.specs.declared.Event.TheVariants as one
use Rattle.oneway.specs.declared.OneWay.{OneWay}
use Rattle.oneway.specs.declared.OneAnswer.{OneAnswer}
use Rattle.oneway.specs.Stands.{one_state_at, one_answer_at, NoneHanded, Goes, stream_behind, OneSoundAt, OneSound, cells_of, OneShapeAt, OneShape, StandsAt, Says}
use Rattle.oneway.specs.Typed.{one_past}
use Rattle.record.specs.Kinds.{CONTROL}

abbrev pub control_at : Cells → OneWay
control_at c = record { kind = 3; cells = c }

abbrev pub frame_cells : (phase : ℕ) → Cells
frame_cells phase = cells_of 0 0 phase

-- what such cells may mean, and the definition's feed of the frames from `at` on
abbrev pub frames_stand : Cells → Control → List ℕ → Type 0
frames_stand c p k = StandsIn c (place.of_control p) × Held (IN-SETTINGS - c.mode) k

abbrev pub frames_from : (s : List ℕ) (at : ℕ) (c : Cells) (allow : ℕ) → Control → List ℕ → OneFeeding
frames_from s at c allow p k = one_past at (of_control (F.feed control allow (state_of c p k) (drop at s)))

abbrev pub Controlled : (s : List ℕ) (at : ℕ) (before : OneWay) (c : Cells) (allow : ℕ) → OneAnswer → Type 0
Controlled s at before c allow r = Says s before (OneShapeAt CONTROL c × OneShape before) (frames_stand c) (frames_from s at c allow) r

pub frame_sane : (phase : ℕ) → UNSET ≤ phase → Sane (frame_cells phase) × (UNSET ≤ phase)
frame_sane phase h = (
  record {
    modes = omega arith;
    header = λ l. fresh_good;
    small = omega arith;
    type = omega arith;
    some = λ x y z. absurd (omega arith);
    sums = omega arith;
    stateds = omega arith;
  },
  h,
)

-- ---- a control stream's place is not among the cells' numbers

set_place : (h n m ph : ℕ) (p : Control) → place_of ph h n m ≡ place.of_control p → (h' n' m' : ℕ) → place_at ph h' n' m' (place.of_control p) ≡ place.of_control p
unfolding place_of place_at
set_place h n m zero p e h' n' m' = let z : ◌≡◌ {A = ℕ} 0 1 = cc in absurd (omega arith)
set_place h n m (suc zero) p e h' n' m' = let z : ◌≡◌ {A = ℕ} 0 1 = cc in absurd (omega arith)
set_place h n m (suc (suc zero)) p e h' n' m' = let z : ◌≡◌ {A = ℕ} 0 1 = cc in absurd (omega arith)
set_place h n m (suc (suc (suc zero))) p e h' n' m' = e
set_place h n m (suc (suc (suc (suc k)))) p e h' n' m' = refl

stands_place : (h n m : ℕ) {ph : ℕ} {q : Place} → Stands h n m ph q → (p : Control) → q ≡ place.of_control p → (h' n' m' : ℕ) → place_at ph h' n' m' (place.of_control p) ≡ place.of_control p
unfolding place_at
stands_place h n m (a_place {phase = ph}) p e h' n' m' = set_place h n m ph p e h' n' m'
stands_place h n m (any_set k i) p e h' n' m' = refl

place_again : (h n m ph : ℕ) (p : Control) → place_of ph h n m ≡ place.of_control p → (h' n' m' : ℕ) → Stands h' n' m' ph (place.of_control p)
unfolding place_of
place_again h n m zero p e h' n' m' = let z : ◌≡◌ {A = ℕ} 0 1 = cc in absurd (omega arith)
place_again h n m (suc zero) p e h' n' m' = let z : ◌≡◌ {A = ℕ} 0 1 = cc in absurd (omega arith)
place_again h n m (suc (suc zero)) p e h' n' m' = let z : ◌≡◌ {A = ℕ} 0 1 = cc in absurd (omega arith)
place_again h n m (suc (suc (suc zero))) p e h' n' m' = let x : unset ≡ p = cc in rw (sym x) a_place
place_again h n m (suc (suc (suc (suc k)))) p e h' n' m' = let x : set no_settings none none ≡ p = cc in rw (sym x) (any_set k tt)

stands_again : (h n m : ℕ) {ph : ℕ} {q : Place} → Stands h n m ph q → (p : Control) → q ≡ place.of_control p → (h' n' m' : ℕ) → Stands h' n' m' ph (place.of_control p)
stands_again h n m (a_place {phase = ph}) p e h' n' m' = place_again h n m ph p e h' n' m'
stands_again h n m (any_set {p = q} k i) p e h' n' m' = let s : Stands h' n' m' (suc (suc (suc (suc k)))) q = any_set k i in subst (Stands h' n' m' (suc (suc (suc (suc k))))) e s

-- ---- what an answer says, a control stream's and from its place in the piece

judged_carried : (k : Kept) (all : List ℕ) (n : Next Control)
    → map_feeding controls (halt (judged_event k all (map_next place.of_control n)) (answered (map_next place.of_control n))) ≡ halt (judged_event k all n) (answered n)
unfolding map_feeding halt judged_event answered map_next map_outcome map_state controls
judged_carried k all (stop code) = refl
judged_carried k all (go p) = refl

judged_control : (p : Control) (k : Kept) (all : List ℕ) → map_feeding controls (judged_as both 0 (place.of_control p) k all) ≡ judged_as control 0 p k all
unfolding judged_as place.judged
judged_control p k all = judged_carried k all (judged k p all)

past_carried : (u h : ℕ) (f : Feeding Place) → map_feeding controls (past u h f) ≡ past u h (map_feeding controls f)
unfolding map_feeding past
past_carried u h f = refl

past_from : (at u h : ℕ) (f : Feeding Control) → one_past at (of_control (past u h f)) ≡ of_control (past (at + u) h f)
unfolding one_past of_control past
past_from at u h f = let a : at + (u + f.used) ≡ (at + u) + f.used = omega arith in rw a

module _ (at : ℕ) (s : List ℕ) (p : Control) (k : List ℕ) (start len used heads : ℕ) (c : Cells) where
  -- what `frames` says of the rest of the piece
  abbrev rest_says : frames-event.Event → OneFeeding
  rest_says e = one_past at (of_control (map_feeding controls (answer_at e start len used heads c (place.of_control p) k (drop at s))))

  the_part : take len (drop start (drop at s)) ≡ take len (drop (at + start) s)
  the_part = ap (take len) (drop-drop start at s)

  carried : (j : List ℕ) → map_state controls (state_of c (place.of_control p) j) ≡ state_of c p j
  unfolding controls
  carried j = state_carried controls c.mode c.acc c.due c.ftype (place.of_control p) j

  event_complete : (which : ℕ) (w : OneWay) → rest_says (event.Kept which) ≡ one_answer_at (one.Frames (event.Kept which)) (at + start) len (at + used) heads w p k s
  unfolding answer_at one_answer_at
  event_complete which w =
      ap (λ x. one_past at (of_control x)) (past_carried used heads _ ∙ ap (past used heads) (judged_control p (kept_at which) _)) ∙ past_from at used heads _
      ∙ ap (λ x. of_control (past (at + used) heads (judged_as control 0 p (kept_at which) (k ++ x)))) the_part

  event_is : (e : frames-event.Event) (w : OneWay) → rest_says e ≡ one_answer_at (one.Frames e) (at + start) len (at + used) heads (stream_behind e w c) p k s
  unfolding one_past of_control map_feeding map_outcome controlled answer_at one_answer_at one_state_at
  event_is event.Nothing w = let x = carried k in rw x refl
  event_is event.Content w = let x = carried k in rw x refl
  event_is event.Section w = let x = carried k in rw x refl
  event_is event.SectionEnd w = let x = carried k in rw x refl
  event_is (event.Fault code) w = refl
  event_is (event.Kept which) w = event_complete which (record { kind = CONTROL; cells = frame_cells 4 })
  event_is event.KeptPart w = let y = the_part in rw y (let x = carried (k ++ take len (drop (at + start) s)) in rw x refl)

-- ---- nothing is handed over on a control stream, and no section is ever due

abbrev Unseen : Uses
Unseen content k l = ⊥
Unseen skipped k l = Unit {0}
Unseen (section t) k l = ⊥
Unseen (kept f) k l = Unit {0}

clear : (u : Use) → NotKept u → (k : List ℕ) (l : ℕ) → Unseen u k l → (n : ℕ) → Unseen u [] n
clear content i k l h n = h
clear skipped i k l h n = h
clear (section t) i k l h n = h
clear (kept f) i k l h n = absurd i

abbrev Any : Code → Type 0
Any code = Unit {0}

viewed : (len : ℕ) {c : Control} {r : Ruling Control} → ControlView c r → RulesWithin Unseen Any len r
viewed len v_refused = tt
viewed len v_skipped = tt
viewed len v_kept = tt

any_next : (n : Next Control) → JudgesWithin Any n
any_next (stop code) = tt
any_next (go p) = tt

control_within : (n : ℕ) (s : State Control) → StateWithin Unseen s → (bs : List ℕ) → FeedWithin Unseen Any (F.feed control n s bs)
control_within n s h bs = feed_within control Unseen Any clear (λ f k b l h. h) (λ c t len. viewed len (control_view c t len)) (λ k c payload. any_next (judged k c payload)) n s h bs

mode_within : (mode a d t : ℕ) (p : Control) (k : List ℕ) → (IN-CONTENT ≤ mode → IN-SETTINGS ≤ mode) → StateWithin Unseen (state_at mode a d t p k)
unfolding mode_state mode_of head_state
mode_within zero a d t p k h = tt
mode_within (suc zero) a d t p k h = tt
mode_within (suc (suc zero)) a d t p k h = tt
mode_within (suc (suc (suc n))) a d t p k h = at_kept (λ m. StateWithin Unseen (mode_state m a d t p k)) (λ f. tt) (suc (suc (suc n))) (h (omega arith))

within_mode : (mode a d t : ℕ) (p : Control) (k : List ℕ) → StateWithin Unseen (state_at mode a d t p k) → IN-CONTENT ≤ mode → IN-SETTINGS ≤ mode
unfolding mode_state mode_of head_state
within_mode zero a d t p k w h = absurd (omega arith)
within_mode (suc zero) a d t p k w h = absurd (omega arith)
within_mode (suc (suc zero)) a d t p k w h = absurd (omega arith)
within_mode (suc (suc (suc zero))) a d t p k w h = absurd w
within_mode (suc (suc (suc (suc zero)))) a d t p k w h = absurd w
within_mode (suc (suc (suc (suc (suc zero))))) a d t p k w h = absurd w
within_mode (suc (suc (suc (suc (suc (suc zero)))))) a d t p k w h = absurd w
within_mode (suc (suc (suc (suc (suc (suc (suc zero))))))) a d t p k w h = absurd w
within_mode (suc (suc (suc (suc (suc (suc (suc (suc m)))))))) a d t p k w h = omega arith

module _ (s : List ℕ) (p : Control) (k : List ℕ) (start len used heads : ℕ) (c : Cells) where
  abbrev says_so : frames-event.Event → Type 0
  says_so e = FeedWithin Unseen Any (map_feeding controls (answer_at e start len used heads c (place.of_control p) k s))

  -- no event of a handed part
  event_plain : (e : frames-event.Event) → says_so e → NoneHanded (one.Frames e)
  unfolding map_feeding answer_at
  event_plain event.Nothing w = tt
  event_plain event.Content w = absurd w.event
  event_plain event.Section w = absurd w.event.1
  event_plain event.SectionEnd w = absurd w.event.1
  event_plain (event.Fault code) w = tt
  event_plain (event.Kept which) w = tt
  event_plain event.KeptPart w = tt

  -- the mode that is left
  left_mode : (e : frames-event.Event) → says_so e → Goes (one.Frames e) → IN-CONTENT ≤ c.mode → IN-SETTINGS ≤ c.mode
  unfolding map_feeding map_outcome answer_at
  left_mode event.Nothing w g = let x = carried 0 s p k start len used heads c k in within_mode c.mode c.acc c.due c.ftype p k (subst (StateWithin Unseen) x w.after)
  left_mode event.Content w g = absurd w.event
  left_mode event.Section w g = absurd w.event.1
  left_mode event.SectionEnd w g = absurd w.event.1
  left_mode (event.Fault code) w g = absurd g
  left_mode (event.Kept which) w g = absurd g
  left_mode event.KeptPart w g =
      let j = k ++ take len (drop start s) in
      let x = carried 0 s p k start len used heads c j in
      within_mode c.mode c.acc c.due c.ftype p j (subst (StateWithin Unseen) x w.after)

-- a place that such cells mean
some_place : (h n m ph : ℕ) → 3 ≤ ph → ph ≤ SET → (p : Control) × Stands h n m ph (place.of_control p)
some_place h n m zero l u = absurd (omega arith)
some_place h n m (suc zero) l u = absurd (omega arith)
some_place h n m (suc (suc zero)) l u = absurd (omega arith)
some_place h n m (suc (suc (suc zero))) l u = (unset, unfold place_of in a_place)
some_place h n m (suc (suc (suc (suc zero)))) l u = (set no_settings none none, any_set 0 tt)
some_place h n m (suc (suc (suc (suc (suc k))))) l u = absurd (omega arith)

none_held : (n : ℕ) → Held n []
none_held zero = tt
none_held (suc n) = refl

-- ---- the ways of a feed

-- the rest of the piece, as the code lends it
pub rest_fed : (s : List ℕ) (at : ℕ) (c : Cells) (allow : ℕ) (a : Answer) → Fed c (take (length s - at) (drop at s)) allow a → Fed c (drop at s) allow a
rest_fed s at c allow a f = let e : take (length s - at) (drop at s) ≡ drop at s = take_all (length s - at) (drop at s) (let l = length-drop at s in omega arith) in rw e at f

module _ (s : List ℕ) (at : ℕ) (before : OneWay) (c : Cells) (allow : ℕ) (a : Answer) (w : at ≤ length s) (sane : Sane c) (phase : UNSET ≤ c.phase) (sound : OneSound before) (fed : Fed c (drop at s) allow a) where
  abbrev Controls : OneAnswer → Type 0
  Controls r = Controlled s at before c allow r

  left_stands : (p : Control) (k : List ℕ) → frames_stand c p k → StandsAt CONTROL a.cells p
  unfolding StandsAt
  left_stands p k st =
      subst (λ ph. Stands a.cells.has a.cells.stated a.cells.sum ph (place.of_control p)) (sym fed.phase)
      (stands_again c.has c.stated c.sum st.0 p refl a.cells.has a.cells.stated a.cells.sum)

  frames_are : (p : Control) (k : List ℕ) → frames_stand c p k
      → F.feed control allow (state_of c p k) (drop at s) ≡ map_feeding controls (answer_at a.event a.start a.len a.used a.heads a.cells (place.of_control p) k (drop at s))
  frames_are p k st =
      let q = stands_place c.has c.stated c.sum st.0 p refl a.cells.has a.cells.stated a.cells.sum in
      let e : place_in a.cells (place.of_control p) ≡ place.of_control p = ap (λ ph. place_at ph a.cells.has a.cells.stated a.cells.sum (place.of_control p)) fed.phase ∙ q in
      control_fed c (drop at s) allow a fed k st.1 p st.0
      ∙ ap (λ x. map_feeding controls (answer_at a.event a.start a.len a.used a.heads a.cells x k (drop at s))) e

  is_control : (p : Control) (k : List ℕ) → frames_stand c p k → frames_from s at c allow p k ≡ rest_says at s p k a.start a.len a.used a.heads a.cells a.event
  is_control p k st = ap (λ x. one_past at (of_control x)) (frames_are p k st)

  -- what the shape before says of the answer, at some place
  unseen : OneShapeAt CONTROL c → (p : Control) × says_so (drop at s) p [] a.start a.len a.used a.heads a.cells a.event
  unfolding OneShapeAt
  unseen sh =
      let q = some_place c.has c.stated c.sum c.phase phase sh.0 in
      let st : frames_stand c q.0 [] = (q.1, none_held (IN-SETTINGS - c.mode)) in
      (q.0, subst (FeedWithin Unseen Any) (frames_are q.0 [] st) (control_within allow (state_of c q.0 []) (mode_within c.mode c.acc c.due c.ftype q.0 [] sh.1) (drop at s)))

  left_shape : OneShapeAt CONTROL c → Goes (one.Frames a.event) → OneShapeAt CONTROL a.cells
  unfolding OneShapeAt
  left_shape sh g =
      let u = unseen sh in
      let e = fed.phase in
      let f = sh.0 in
      (omega arith, left_mode (drop at s) u.0 [] a.start a.len a.used a.heads a.cells a.event u.1 g)

  left_sane : ((which : ℕ) → a.event ≡ event.Kept which → ⊥) → OneSoundAt CONTROL a.cells
  unfolding OneSoundAt
  left_sane n = (fed.sane n, (let e = fed.phase in omega arith))

  -- the stream behind, by the event
  sound_is : (e : frames-event.Event) → a.event ≡ e → OneSound (stream_behind e before a.cells)
  sound_is event.Nothing q = left_sane (λ which x. cc)
  sound_is event.Content q = left_sane (λ which x. cc)
  sound_is event.Section q = left_sane (λ which x. cc)
  sound_is event.SectionEnd q = left_sane (λ which x. cc)
  sound_is (event.Fault code) q = sound
  sound_is (event.Kept which) q = unfold OneSoundAt in frame_sane 4 (omega arith)
  sound_is event.KeptPart q = left_sane (λ which x. cc)

  shape_is : (e : frames-event.Event) → a.event ≡ e → OneShapeAt CONTROL c × OneShape before → OneShape (stream_behind e before a.cells)
  shape_is event.Nothing q sh = left_shape sh.0 (rw q tt)
  shape_is event.Content q sh = left_shape sh.0 (rw q tt)
  shape_is event.Section q sh = left_shape sh.0 (rw q tt)
  shape_is event.SectionEnd q sh = left_shape sh.0 (rw q tt)
  shape_is (event.Fault code) q sh = sh.1
  shape_is (event.Kept which) q sh = unfold OneShapeAt in (omega arith, λ h. absurd (omega arith))
  shape_is event.KeptPart q sh = left_shape sh.0 (rw q tt)

  stands_is : (e : frames-event.Event) → Goes (one.Frames e) → (p : Control) (k : List ℕ) → frames_stand c p k → let w = stream_behind e before a.cells in StandsAt w.kind w.cells p
  stands_is event.Nothing g p k st = left_stands p k st
  stands_is event.Content g p k st = left_stands p k st
  stands_is event.Section g p k st = left_stands p k st
  stands_is event.SectionEnd g p k st = left_stands p k st
  stands_is (event.Fault code) g p k st = absurd g
  stands_is (event.Kept which) g p k st = absurd g
  stands_is event.KeptPart g p k st = left_stands p k st

  pub used_fits : at + a.used ≤ length s
  used_fits = let l = length-drop at s in let u = fed.within in omega arith

  pub start_fits : at + a.start ≤ length s
  start_fits = let x = fed.part in let y = used_fits in omega arith

  pub control_is : Controls (record { event = one.Frames a.event; start = at + a.start; len = a.len; used = at + a.used; heads = a.heads; stream = stream_behind a.event before a.cells })
  control_is = record {
    is = λ p k st. is_control p k st ∙ event_is at s p k a.start a.len a.used a.heads a.cells a.event before;
    within = used_fits;
    part = let x = fed.part in omega arith;
    sound = sound_is a.event refl;
    shaped = shape_is a.event refl;
    plain = λ sh. (let u = unseen sh.0 in event_plain (drop at s) u.0 [] a.start a.len a.used a.heads a.cells a.event u.1);
    stays = λ code x. (let y : a.event ≡ event.Fault code = cc in rw y refl);
    behind = λ which x. (let y : a.event ≡ event.Kept which = cc in rw y refl);
    held = λ x. (let y : a.event ≡ event.KeptPart = cc in let h = fed.held y in rw y (refl, h));
    leaves = stands_is a.event;
  }
