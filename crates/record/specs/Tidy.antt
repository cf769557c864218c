-- Laws of the cells of a state. Assumes nothing.
use Rattle.std.specs.Prelude.{◌≡◌, ℕ, zero, suc, ◌+◌, ◌-◌, ◌≤◌, ◌<◌, List, []}
use Rattle.std.proofs.Math.Path.{refl, ap}
use Rattle.std.proofs.Common.{sym, ◌∙◌, arith}
use Rattle.std.proofs.Math.Option.{Option, none, some}
use Rattle.rules.specs.Reading.{Part, header_section, trailers, Use}
use Rattle.rules.specs.Control.{unset, set}
use Rattle.varint.specs.ByByte.{prog, part_of}
use Rattle.frames.specs.Modes.{IN-TYPE, IN-LENGTH, IN-SKIPPED, HEADER-SECTION-DUE, TRAILERS-DUE, BODY, TRAILED, SET, Mode, typing, sizing, paying, waiting, mode_number, mode_of, IsMode, is_mode, mode_view, of_mode, paying_late, at_payload}
use Rattle.frames.specs.declared.Cells.{Cells}
use Rattle.frames.specs.Both.{Place, of_request, of_control}
use Rattle.frames.specs.Uses.{stated_of, place_of, Stands, a_place, any_set}
use Rattle.frames.specs.Heads.{head_state}
use Rattle.frames.specs.Answers.{mode_state, state_at, state_of, StandsIn, Sane}
use Rattle.record.specs.Row.{phase_of, stated_in, is_stated, length_of, sum_in, Numbers, numbers, numbers_of, place_in, cells_by, cells_for}
use Rattle.record.specs.Sound.{own_place, tidied}

-- ---- the cells, one half at a time

abbrev pub head_as : Cells → (acc due ftype : ℕ) → Cells
head_as c acc due ftype = record { mode = c.mode; acc = acc; due = due; ftype = ftype; phase = c.phase; has = c.has; stated = c.stated; sum = c.sum }

abbrev pub place_as : Cells → (has stated sum : ℕ) → Cells
place_as c has stated sum = record { mode = c.mode; acc = c.acc; due = c.due; ftype = c.ftype; phase = c.phase; has = has; stated = stated; sum = sum }

abbrev by_numbers : Cells → Numbers → Cells
by_numbers c n = head_as c n.acc n.due n.ftype

abbrev pub own_numbers : Cells → Numbers
own_numbers c = numbers_of (state_of c (own_place c) [])

abbrev pub head_tidied : Cells → Cells
head_tidied c = head_as c (own_numbers c).acc (own_numbers c).due (own_numbers c).ftype

abbrev pub place_tidied : Cells → Cells
place_tidied c = place_as c (is_stated (stated_in (own_place c))) (length_of (stated_in (own_place c))) (sum_in (own_place c))

-- ---- the numbers of a state, by its mode

part_due : (d a : ℕ) → (part_of (prog d a)).due ≡ d
unfolding part_of prog
part_due zero a = refl
part_due (suc d) a = refl

module _ (a d t : ℕ) (p : Place) (k : List ℕ) where
  pub in_type_numbers : (mode : ℕ) → mode ≡ IN-TYPE → numbers_of (state_at mode a d t p k) ≡ numbers IN-TYPE (part_of (prog d a)).acc d 0
  unfolding mode_state head_state numbers_of
  in_type_numbers mode e = let w = of_mode typing e in rw w (ap (λ x. numbers IN-TYPE (part_of (prog d a)).acc x 0) (part_due d a))

  pub in_length_numbers : (mode : ℕ) → mode ≡ IN-LENGTH → numbers_of (state_at mode a d t p k) ≡ numbers IN-LENGTH (part_of (prog d a)).acc d t
  unfolding mode_state head_state numbers_of
  in_length_numbers mode e = let w = of_mode sizing e in rw w (ap (λ x. numbers IN-LENGTH (part_of (prog d a)).acc x t) (part_due d a))

  pub due_numbers : (x : Part) (mode : ℕ) → mode ≡ mode_number (waiting x) → numbers_of (state_at mode a d t p k) ≡ numbers (mode_number (waiting x)) 0 0 0
  unfolding mode_state numbers_of
  due_numbers x mode e = let w = of_mode (waiting x) e in rw w refl

  module _ (some : 0 < a) where
    left : (n : ℕ) → numbers n (suc (a - 1)) 0 0 ≡ numbers n a 0 0
    left n = let e : suc (a - 1) ≡ a = omega arith in ap (λ x. numbers n x 0 0) e

    pub payload_numbers : (u : Use) (mode : ℕ) → mode ≡ mode_number (paying u) → numbers_of (state_at mode a d t p k) ≡ numbers (mode_number (paying u)) a 0 0
    unfolding mode_state numbers_of
    payload_numbers u mode e = let w = of_mode (paying u) e in rw w (left (mode_number (paying u)))

    -- but for the mode, which its number says
    pub payload_cells : (c : Cells) (mode : ℕ) → IN-SKIPPED ≤ mode → (mode ≡ HEADER-SECTION-DUE → ⊥) → (mode ≡ TRAILERS-DUE → ⊥) → by_numbers c (numbers_of (state_at mode a d t p k)) ≡ head_as c a 0 0
    unfolding mode_state numbers_of
    payload_cells c mode = at_payload (λ m. by_numbers c (numbers_of (mode_state m a d t p k)) ≡ head_as c a 0 0) (λ u. ap (by_numbers c) (left (mode_number (paying u)))) mode

-- the place of a state is the one it was made with
place_in_lem : {P : Type 0} (a d t : ℕ) (p : P) (k : List ℕ) (m : Mode) → place_in (mode_state m a d t p k) ≡ p
unfolding mode_state head_state place_in
place_in_lem a d t p k typing = refl
place_in_lem a d t p k sizing = refl
place_in_lem a d t p k (paying u) = refl
place_in_lem a d t p k (waiting x) = refl

pub place_back : {P : Type 0} (a d t : ℕ) (p : P) (k : List ℕ) (mode : ℕ) → place_in (state_at mode a d t p k) ≡ p
place_back a d t p k mode = place_in_lem a d t p k (mode_of mode)

-- the numbers look neither at the place nor at what was kept
numbers_in : (m : Mode) (a d t : ℕ) (p q : Place) (k l : List ℕ) → numbers_of (mode_state m a d t p k) ≡ numbers_of (mode_state m a d t q l)
unfolding mode_state head_state numbers_of
numbers_in typing a d t p q k l = refl
numbers_in sizing a d t p q k l = refl
numbers_in (paying u) a d t p q k l = refl
numbers_in (waiting x) a d t p q k l = refl

pub numbers_alike : (mode a d t : ℕ) (p q : Place) (k l : List ℕ) → numbers_of (state_at mode a d t p k) ≡ numbers_of (state_at mode a d t q l)
numbers_alike mode a d t p q k l = numbers_in (mode_of mode) a d t p q k l

-- ---- the numbers of a place

-- all the places that four numbers mean have the same
places_alike : (n : Numbers) {h st s phase : ℕ} {p : Place} → Stands h st s phase p → cells_by n p ≡ cells_by n (place_of phase h st s)
unfolding place_of phase_of stated_in sum_in
places_alike n a_place = refl
places_alike n (any_set {p = of_request m} k i) = absurd i
places_alike n (any_set {p = of_control unset} k i) = absurd i
places_alike n (any_set {p = of_control (set s g m)} k i) = refl

pub phase_back : (phase h st s : ℕ) → phase ≤ SET → phase_of (place_of phase h st s) ≡ phase
unfolding place_of phase_of
phase_back zero h st s l = refl
phase_back (suc zero) h st s l = refl
phase_back (suc (suc zero)) h st s l = refl
phase_back (suc (suc (suc zero))) h st s l = refl
phase_back (suc (suc (suc (suc zero)))) h st s l = refl
phase_back (suc (suc (suc (suc (suc k))))) h st s l = absurd (omega arith)

-- ONE RECORD, whatever state the cells mean
pub one_state : (c : Cells) (p : Place) (k : List ℕ) → StandsIn c p → cells_for (state_of c p k) ≡ tidied c
one_state c p k st =
    let a = place_back c.acc c.due c.ftype p k c.mode in
    let b = place_back c.acc c.due c.ftype (own_place c) [] c.mode in
    ap (cells_by (numbers_of (state_of c p k))) a ∙ places_alike (numbers_of (state_of c p k)) st
    ∙ ap (λ n. cells_by n (own_place c)) (numbers_alike c.mode c.acc c.due c.ftype p (own_place c) k [])
    ∙ ap (cells_by (own_numbers c)) (sym b)

-- ---- how far the numbers of a state go

pub record Less (mode a d t : ℕ) (n : Numbers) : Type 0 where
  pub mode_same : n.mode ≡ mode
  pub acc_less : n.acc ≤ a
  pub acc_same : IN-SKIPPED ≤ mode → (mode ≡ HEADER-SECTION-DUE → ⊥) → (mode ≡ TRAILERS-DUE → ⊥) → n.acc ≡ a
  pub due_less : n.due ≤ d
  pub due_none : IN-SKIPPED ≤ mode → n.due ≡ 0
  pub due_same : mode < IN-SKIPPED → n.due ≡ d
  pub type_less : n.ftype ≤ t

part_acc : (d a : ℕ) → (part_of (prog d a)).acc ≤ a
unfolding part_of prog
part_acc zero a = omega arith
part_acc (suc d) a = omega arith

less_by : (a d t : ℕ) (p : Place) (k : List ℕ) {mode : ℕ} → IsMode mode → (IN-SKIPPED ≤ mode → (mode ≡ HEADER-SECTION-DUE → ⊥) → (mode ≡ TRAILERS-DUE → ⊥) → 0 < a) → Less mode a d t (numbers_of (state_at mode a d t p k))
less_by a d t p k (is_mode typing) s = let e = in_type_numbers a d t p k IN-TYPE refl in let h = part_acc d a in
    rw e (record { mode_same = refl; acc_less = h; acc_same = λ x y z. omega arith; due_less = omega arith; due_none = λ x. omega arith; due_same = λ x. refl; type_less = omega arith })
less_by a d t p k (is_mode sizing) s = let e = in_length_numbers a d t p k IN-LENGTH refl in let h = part_acc d a in
    rw e (record { mode_same = refl; acc_less = h; acc_same = λ x y z. omega arith; due_less = omega arith; due_none = λ x. omega arith; due_same = λ x. refl; type_less = omega arith })
less_by a d t p k (is_mode (waiting header_section)) s = let e = due_numbers a d t p k header_section HEADER-SECTION-DUE refl in
    rw e (record { mode_same = refl; acc_less = omega arith; acc_same = λ x y z. absurd (y refl); due_less = omega arith; due_none = λ x. refl; due_same = λ x. omega arith; type_less = omega arith })
less_by a d t p k (is_mode (waiting trailers)) s = let e = due_numbers a d t p k trailers TRAILERS-DUE refl in
    rw e (record { mode_same = refl; acc_less = omega arith; acc_same = λ x y z. absurd (z refl); due_less = omega arith; due_none = λ x. refl; due_same = λ x. omega arith; type_less = omega arith })
less_by a d t p k (is_mode (paying u)) s = let q = paying_late u in let e = payload_numbers a d t p k (s q.0 q.1 q.2) u (mode_number (paying u)) refl in
    rw e (record { mode_same = refl; acc_less = omega arith; acc_same = λ x y z. refl; due_less = omega arith; due_none = λ x. refl; due_same = λ x. absurd (omega (arith, x, q.0)); type_less = omega arith })

pub less : (c : Cells) → Sane c → Less c.mode c.acc c.due c.ftype (own_numbers c)
less c s = less_by c.acc c.due c.ftype (own_place c) [] (mode_view c.mode s.modes) s.some

-- ---- how far the numbers of a place go

stated_few : (o : Option ℕ) → is_stated o ≤ 1
unfolding is_stated
stated_few none = omega arith
stated_few (some n) = omega arith

stated_less : (h n : ℕ) → length_of (stated_of h n) ≤ n
unfolding length_of stated_of
stated_less zero n = omega arith
stated_less (suc h) n = omega arith

place_stated : (phase h n s : ℕ) → length_of (stated_in (place_of phase h n s)) ≤ n
unfolding length_of stated_in place_of
place_stated zero h n s = omega arith
place_stated (suc zero) h n s = stated_less h n
place_stated (suc (suc zero)) h n s = stated_less h n
place_stated (suc (suc (suc zero))) h n s = omega arith
place_stated (suc (suc (suc (suc k)))) h n s = omega arith

place_sum : (phase h n s : ℕ) → sum_in (place_of phase h n s) ≤ s
unfolding sum_in place_of
place_sum zero h n s = omega arith
place_sum (suc zero) h n s = omega arith
place_sum (suc (suc zero)) h n s = omega arith
place_sum (suc (suc (suc zero))) h n s = omega arith
place_sum (suc (suc (suc (suc k)))) h n s = omega arith

-- ---- laws of the code: in a header or payload

pub value_none : (d a : ℕ) → d ≡ 0 → 0 ≡ (part_of (prog d a)).acc
unfolding part_of prog
value_none zero a e = refl
value_none (suc d) a e = absurd (omega arith)

pub value_some : (d a : ℕ) → (d ≡ 0 → ⊥) → a ≡ (part_of (prog d a)).acc
unfolding part_of prog
value_some zero a e = absurd (e refl)
value_some (suc d) a e = refl

module _ (c : Cells) {r : Cells} where
  pub tidy_type : {v : ℕ} → c.mode ≡ IN-TYPE → v ≡ (part_of (prog c.due c.acc)).acc → r ≡ head_as c v c.due 0 → r ≡ head_tidied c
  tidy_type m e q = q ∙ ap (λ x. head_as c x c.due 0) e ∙ ap (by_numbers c) (sym (in_type_numbers c.acc c.due c.ftype (own_place c) [] c.mode m))

  pub tidy_length : {v : ℕ} → c.mode ≡ IN-LENGTH → v ≡ (part_of (prog c.due c.acc)).acc → r ≡ head_as c v c.due c.ftype → r ≡ head_tidied c
  tidy_length m e q = q ∙ ap (λ x. head_as c x c.due c.ftype) e ∙ ap (by_numbers c) (sym (in_length_numbers c.acc c.due c.ftype (own_place c) [] c.mode m))

  pub tidy_due : (x : Part) → c.mode ≡ mode_number (waiting x) → r ≡ head_as c 0 0 0 → r ≡ head_tidied c
  tidy_due x e q = q ∙ ap (by_numbers c) (sym (due_numbers c.acc c.due c.ftype (own_place c) [] x c.mode e))

  pub tidy_waiting : HEADER-SECTION-DUE ≤ c.mode → c.mode ≤ TRAILERS-DUE → r ≡ head_as c 0 0 0 → r ≡ head_tidied c
  tidy_waiting l h q = by (c.mode - HEADER-SECTION-DUE) (omega arith) where
    by : (n : ℕ) → c.mode ≡ HEADER-SECTION-DUE + n → r ≡ head_tidied c
    by zero e = tidy_due header_section (omega arith) q
    by (suc zero) e = tidy_due trailers (omega arith) q
    by (suc (suc n)) e = absurd (omega arith)

  pub tidy_payload : Sane c → IN-SKIPPED ≤ c.mode → (c.mode ≡ HEADER-SECTION-DUE → ⊥) → (c.mode ≡ TRAILERS-DUE → ⊥) → r ≡ head_as c c.acc 0 0 → r ≡ head_tidied c
  tidy_payload s l x y q = q ∙ sym (payload_cells c.acc c.due c.ftype (own_place c) [] (s.some l x y) c c.mode l x y)

-- ---- laws of the code: between two frames

abbrev three : Place → ℕ × ℕ × ℕ
three p = (is_stated (stated_in p), length_of (stated_in p), sum_in p)

no_three : (phase h n s : ℕ) → (phase ≡ BODY → ⊥) → (phase ≡ TRAILED → ⊥) → three (place_of phase h n s) ≡ (0, 0, 0)
unfolding place_of stated_in is_stated length_of sum_in
no_three zero h n s x y = refl
no_three (suc zero) h n s x y = absurd (x refl)
no_three (suc (suc zero)) h n s x y = absurd (y refl)
no_three (suc (suc (suc zero))) h n s x y = refl
no_three (suc (suc (suc (suc k)))) h n s x y = refl

behind_three : (phase h n s : ℕ) → BODY ≤ phase → phase ≤ TRAILED → three (place_of phase h n s) ≡ (is_stated (stated_of h n), length_of (stated_of h n), s)
unfolding place_of stated_in sum_in
behind_three zero h n s l u = absurd (omega arith)
behind_three (suc zero) h n s l u = refl
behind_three (suc (suc zero)) h n s l u = refl
behind_three (suc (suc (suc k))) h n s l u = absurd (omega arith)

none_two : (h n s : ℕ) → h ≡ 0 → ◌≡◌ {A = ℕ × ℕ × ℕ} (is_stated (stated_of h n), length_of (stated_of h n), s) (0, 0, s)
unfolding stated_of is_stated length_of
none_two zero n s e = refl
none_two (suc h) n s e = absurd (omega arith)

some_two : (h n s : ℕ) → (h ≡ 0 → ⊥) → ◌≡◌ {A = ℕ × ℕ × ℕ} (is_stated (stated_of h n), length_of (stated_of h n), s) (1, n, s)
unfolding stated_of is_stated length_of
some_two zero n s e = absurd (e refl)
some_two (suc h) n s e = refl

abbrev by_three : Cells → ℕ × ℕ × ℕ → Cells
by_three c x = place_as c x.0 x.1 x.2

module _ (c : Cells) {r : Cells} where
  pub tidy_nowhere : (c.phase ≡ BODY → ⊥) → (c.phase ≡ TRAILED → ⊥) → r ≡ place_as c 0 0 0 → r ≡ place_tidied c
  tidy_nowhere x y q = q ∙ ap (by_three c) (sym (no_three c.phase c.has c.stated c.sum x y))

  module _ (l : BODY ≤ c.phase) (u : c.phase ≤ TRAILED) where
    pub tidy_unstated : c.has ≡ 0 → r ≡ place_as c 0 0 c.sum → r ≡ place_tidied c
    tidy_unstated e q = q ∙ ap (by_three c) (sym (behind_three c.phase c.has c.stated c.sum l u ∙ none_two c.has c.stated c.sum e))

    pub tidy_stated : (c.has ≡ 0 → ⊥) → r ≡ place_as c 1 c.stated c.sum → r ≡ place_tidied c
    tidy_stated e q = q ∙ ap (by_three c) (sym (behind_three c.phase c.has c.stated c.sum l u ∙ some_two c.has c.stated c.sum e))

-- ---- laws of the code: both

pub record Tidier (c t : Cells) : Type 0 where
  pub mode_same : t.mode ≡ c.mode
  pub acc_less : t.acc ≤ c.acc
  pub acc_same : IN-SKIPPED ≤ c.mode → (c.mode ≡ HEADER-SECTION-DUE → ⊥) → (c.mode ≡ TRAILERS-DUE → ⊥) → t.acc ≡ c.acc
  pub due_less : t.due ≤ c.due
  pub due_same : c.mode < IN-SKIPPED → t.due ≡ c.due
  pub due_few : t.due ≤ 7
  pub type_less : t.ftype ≤ c.ftype
  pub phase_same : t.phase ≡ c.phase
  pub has_few : t.has ≤ 1
  pub stated_less : t.stated ≤ c.stated
  pub sum_less : t.sum ≤ c.sum

due_few : {mode a d t : ℕ} {n : Numbers} → IsMode mode → Less mode a d t n → (mode < IN-SKIPPED → d ≤ 7) → n.due ≤ 7
due_few (is_mode typing) l h = omega (arith, l.due_less, h (omega arith))
due_few (is_mode sizing) l h = omega (arith, l.due_less, h (omega arith))
due_few (is_mode (waiting header_section)) l h = omega (arith, l.due_none (omega arith))
due_few (is_mode (waiting trailers)) l h = omega (arith, l.due_none (omega arith))
due_few (is_mode (paying u)) l h = omega (arith, l.due_none (paying_late u).0)

module _ (c : Cells) (sane : Sane c) (ph : c.phase ≤ SET) where
  own_phase : phase_of (own_place c) ≡ c.phase
  own_phase = phase_back c.phase c.has c.stated c.sum ph

  own_back : place_in (state_of c (own_place c) []) ≡ own_place c
  own_back = place_back c.acc c.due c.ftype (own_place c) [] c.mode

  abbrev halves : (mode phase : ℕ) → Cells
  halves mode phase = record {
    mode = mode;
    acc = (own_numbers c).acc;
    due = (own_numbers c).due;
    ftype = (own_numbers c).ftype;
    phase = phase;
    has = is_stated (stated_in (own_place c));
    stated = length_of (stated_in (own_place c));
    sum = sum_in (own_place c);
  }

  pub tidy_both : {h r : Cells} → h ≡ head_tidied c → r ≡ place_tidied h → r ≡ tidied c
  tidy_both e q =
      q ∙ ap place_tidied e ∙ ap (λ m. halves m c.phase) (sym (less c sane).mode_same) ∙ ap (λ x. halves (own_numbers c).mode x) (sym own_phase)
      ∙ ap (cells_by (own_numbers c)) (sym own_back)

  -- how far they go
  pub tidy_less : {t : Cells} → t ≡ tidied c → Tidier c t
  tidy_less e = let l = less c sane in
      rw e (record {
        mode_same = l.mode_same;
        acc_less = l.acc_less;
        acc_same = l.acc_same;
        due_less = l.due_less;
        due_same = l.due_same;
        due_few = due_few (mode_view c.mode sane.modes) l (λ m. (sane.header m).few);
        type_less = l.type_less;
        phase_same = ap phase_of own_back ∙ own_phase;
        has_few = stated_few (stated_in (place_in (state_of c (own_place c) [])));
        stated_less = rw own_back (place_stated c.phase c.has c.stated c.sum);
        sum_less = rw own_back (place_sum c.phase c.has c.stated c.sum);
      })
