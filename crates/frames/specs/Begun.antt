-- Where a feed begins: a payload, or a header from the bytes read of it; and a header that the piece ends in. Assumes nothing.
use Rattle.std.specs.Prelude.{◌≡◌, List, [], length, take, drop, Option, Some, None, Result, Ok}
use Rattle.std.proofs.Math.Path.{refl, sym, ap}
use Rattle.std.proofs.Common.{◌∙◌, add-zero, inl, inr, length-drop, take_all}
use Prim.Native.Nat.{ℕ, zero, suc, ◌+◌, ◌-◌, ◌≤◌, ◌<◌, ◌^◌, zero-le}
use Rattle.std.proofs.Math.Nat.{sub-zero}
use native.Mathlib.Omega.{arith}
use Rattle.rules.specs.Integers.{Int, cut, got, integer}
use Rattle.rules.specs.Reading.{skipped}
use Rattle.meaning.specs.Machine.{in_payload, lives, between, over, with_left}
use Rattle.meaning.specs.Feed.{quiet, Feeding, halt, onward, left_event, over_event, behind_header, feed}
use Rattle.meaning.specs.FeedLaws.{past, past_none}
use Rattle.meaning.proofs.FeedLaws.{feed_nothing, feed_held, feed_held_length, unfinished_type, unfinished_length}
use Rattle.varint.specs.ByByte.{part, fresh_part, prog, Good, small}
use Rattle.frames.specs.Modes.{IN-TYPE, IN-LENGTH, IN-SKIPPED, USE-SKIPPED, NO-USE, OPENING, mode_of}
use Rattle.frames.specs.declared.Cells.{Cells}
use Rattle.frames.specs.declared.Head.{Head}
use Rattle.frames.specs.declared.Head.TheVariants.{InType, InLength}
use Rattle.frames.specs.declared.FrameHeader.{FrameHeader}
use Rattle.frames.specs.declared.Answer.{Answer}
use Rattle.frames.specs.declared.Event.TheVariants as event
use Rattle.frames.specs.declared.Start.{Start}
use Rattle.frames.specs.declared.Use.{Use}
use Rattle.frames.specs.declared.Use.TheVariants.{Skipped}
use Rattle.rules.specs.declared.codes.Code.{Code}
use Rattle.frames.specs.Both.{Place, rule, both}
use Rattle.frames.specs.Uses.{place_of, number_of, ruling_at, ruling_back, number_stands}
use Rattle.frames.specs.Wants.{ruled_in, wanted_in, ruled_not_none}
use Rattle.frames.specs.Heads.{head_state, state_in, head_goes, head_at, head_in, GoodHead, WholeRead, CutRead}
use Rattle.frames.specs.Stops.{header_of, payload_of, stop_of, not_header, Unready, Lawful, nothing_lawful, ruling_lawful}
use Rattle.frames.specs.Answers.{mode_state, state_at, state_of, place_in, StandsIn, answer_at, Sane, Numbers, Answers, place_same, answer}
use Rattle.frames.specs.Handed.{behind}
use Rattle.frames.specs.Stopped.{more_sum, from_stop}

-- ---- a header that the piece ends in

-- the cells of a header that goes on, at the place of others
abbrev pub head_cells : Head → Cells → Cells
head_cells (InType q) c = record { mode = IN-TYPE; acc = q.acc; due = q.due; ftype = c.ftype; phase = c.phase; has = c.has; stated = c.stated; sum = c.sum }
head_cells (InLength t q) c = record { mode = IN-LENGTH; acc = q.acc; due = q.due; ftype = t; phase = c.phase; has = c.has; stated = c.stated; sum = c.sum }

head_sane : (h : Head) (c : Cells) → GoodHead h → c.ftype < 2 ^ 62 → Numbers c → Sane (head_cells h c)
head_sane (InType q) c g f n = record { modes = omega arith; header = λ l. g; small = small g; type = f; some = λ a b e. absurd (omega arith); sums = n.0; stateds = n.1 }
head_sane (InLength t q) c g f n = record { modes = omega arith; header = λ l. g.0; small = small g.0; type = g.1; some = λ a b e. absurd (omega arith); sums = n.0; stateds = n.1 }

-- the state of such cells
cells_state : (h : Head) (c : Cells) (p : Place) (k : List ℕ) → state_of (head_cells h c) p k ≡ state_in h p
unfolding mode_state mode_of head_state
cells_state (InType q) c p k = refl
cells_state (InLength t q) c p k = refl

cells_phase : (h : Head) (c : Cells) → (head_cells h c).phase ≡ c.phase
cells_phase (InType q) c = refl
cells_phase (InLength t q) c = refl

cells_place : (h : Head) (c : Cells) (p : Place) → place_in (head_cells h c) p ≡ place_in c p
cells_place (InType q) c p = refl
cells_place (InLength t q) c p = refl

-- a header that goes on behind these bytes
read_out : (bs : List ℕ) (n : ℕ) (h r : Head) (p : Place) → CutRead bs h r → head_goes n h p bs ≡ record { used = length bs; heads = 0; event = quiet; after = lives (state_in r p) }
unfolding halt past
read_out bs n h r p q = q.is n p ∙ ap (past (length bs) 0) (feed_nothing both (suc n) (state_in r p)) ∙ (let u = add-zero (length bs) in rw u refl)

unfinished : (s : List ℕ) (at n : ℕ) (p : Place) → Unready s at → (feed both (suc n) (between p) (drop at s)).heads ≡ 0
unfolding Unready
unfinished s at n p u = first (integer at (drop at s)) refl
  where
    second : (t here : ℕ) (rest : List ℕ) → integer at (drop at s) ≡ got t here rest → (i : Int) → integer here rest ≡ i → (feed both (suc n) (between p) (drop at s)).heads ≡ 0
    second t here rest e cut f = unfinished_length both n p at (drop at s) e f
    second t here rest e (got len from pay) f = absurd (u t here len from rest pay e f)

    first : (i : Int) → integer at (drop at s) ≡ i → (feed both (suc n) (between p) (drop at s)).heads ≡ 0
    first cut e = unfinished_type both n p at (drop at s) e
    first (got t here rest) e = second t here rest e (integer here rest) refl

-- all bytes from a place on
pub rest_all : (s : List ℕ) (at : ℕ) → take (length s - at) (drop at s) ≡ drop at s
rest_all s at = let d = length-drop at s in take_all (length s - at) (drop at s) (omega arith)

abbrev pub no_head : Head
no_head = InType fresh_part

fresh_goes : (n : ℕ) (p : Place) (bs : List ℕ) → head_goes n no_head p bs ≡ feed both (suc n) (between p) bs
unfolding prog
fresh_goes n p bs = refl

-- a header that is not whole is never found whole
pub never_whole : (s : List ℕ) (at : ℕ) (w : FrameHeader) → Unready s at → WholeRead (drop at s) no_head w → ⊥
unfolding past
never_whole s at w u q =
    let p = place_of OPENING 0 0 0 in
    let z = unfinished s at 0 p u in
    let e = ap (λ x. x.heads) (sym (fresh_goes 0 p (drop at s)) ∙ q.is 0 p) in
    omega arith

-- from such a header on
abbrev pub from_cut : (s : List ℕ) (to heads : ℕ) → (n : ℕ) → Place → (sofar : List ℕ) → Feeding Place
from_cut s to heads n p k = past to heads (feed both (suc n) (between p) (drop to s))

-- the cells with no type before a length
abbrev pub untyped : Cells → Cells
untyped c = record { mode = c.mode; acc = c.acc; due = c.due; ftype = 0; phase = c.phase; has = c.has; stated = c.stated; sum = c.sum }

pub cut_answer : (c : Cells) (s : List ℕ) (to heads : ℕ) (r : Head) (d : Cells) → to ≤ length s → Numbers c → CutRead (drop to s) no_head r → d ≡ head_cells r (untyped c)
    → Answers c s 1 (from_cut s to heads) (answer event.Nothing (length s) 0 (length s) heads d)
unfolding answer_at
cut_answer c s to heads r d w g h q =
    let l = length-drop to s in
    let f : to + (length s - to) ≡ length s = omega arith in
    rw q (record {
      is = λ n p k hk st. (let x = cells_place r (untyped c) p ∙ place_same c p st in let y = cells_state r (untyped c) p k in
          ap (past to heads) (sym (fresh_goes n p (drop to s)) ∙ read_out (drop to s) n no_head r p h) ∙ behind to heads (length (drop to s)) _ _ ∙ rw (x, y, l, f) refl);
      within = omega arith;
      part = omega arith;
      sane = λ x. head_sane r (untyped c) h.good (omega arith) g;
      phase = cells_phase r (untyped c);
      held = λ e. cc;
      named = λ which e. cc;
    })

pub stop_cut : (c : Cells) (s : List ℕ) (to heads number len rest : ℕ) {r : Answer} → number ≡ NO-USE → (rest ≡ 0 → ⊥) → Answers c s 1 (from_cut s to heads) r → Answers c s 1 (from_stop s to heads number len rest) r
unfolding stop_of header_of
stop_cut c s to heads number len rest e n0 a =
    let z : rest ≡ suc (rest - 1) = omega arith in
    record {
      is = λ n p k hk st. ap (λ x. past to heads (stop_of s x len rest to p)) e ∙ ap (λ x. past to heads (feed both x (between p) (drop to s))) z ∙ a.is (rest - 1) p k hk st;
      within = a.within;
      part = a.part;
      sane = a.sane;
      phase = a.phase;
      held = a.held;
      named = a.named;
    }

pub numbers_more : (c d : Cells) (len : ℕ) → d ≡ more_sum c len → c.sum + len ≤ 2 ^ 62 → c.stated ≤ 2 ^ 62 → Numbers d
numbers_more c d len e h k = rw e (h, k)

-- ---- where a feed begins

-- at a payload (wanted, left) that is `at` bytes and `heads` headers on, or, with nothing wanted, nowhere: the cells are what is left
pub record Started (c : Cells) (s : List ℕ) (allow : ℕ) (r : Start) : Type 0 where
  pub goes : (wanted_in r.wanted ≡ NO-USE → ⊥) → (p : Place) (k : List ℕ) → StandsIn c p
      → feed both allow (state_of c p k) s ≡ past r.at r.heads (stop_of s (wanted_in r.wanted) r.left (allow - r.heads) r.at p)
  pub stays : wanted_in r.wanted ≡ NO-USE → (p : Place) (k : List ℕ) → StandsIn c p
      → feed both allow (state_of c p k) s ≡ record { used = r.at; heads = 0; event = quiet; after = lives (state_of r.cells p k) }
  pub within : r.at ≤ length s
  pub small : r.left < 2 ^ 62
  pub counted : r.heads ≤ allow
  pub sane : Sane r.cells
  pub place : (p : Place) → place_in r.cells p ≡ place_in c p
  pub phase : r.cells.phase ≡ c.phase
  pub lawful : Lawful (wanted_in r.wanted) c.phase c.sum r.left

abbrev pub start : (at left : ℕ) → Option (Result Use Code) → (heads : ℕ) → Cells → Start
start at left wanted heads c = record { at = at; left = left; wanted = wanted; heads = heads; cells = c }

module _ (c : Cells) (s : List ℕ) (allow : ℕ) (sane : Sane c) where
  -- a skipped payload, of some bytes or of none
  skip_from : (l : ℕ) (p : Place) → payload_of s USE-SKIPPED (suc l) allow 0 p ≡ feed both allow (in_payload skipped [] l p) s
  unfolding payload_of ruling_at behind_header left_event with_left onward
  skip_from l p = refl

  none_from : (p : Place) → payload_of s USE-SKIPPED 0 allow 0 p ≡ feed both allow (between p) s
  unfolding payload_of ruling_at behind_header left_event over_event with_left over onward
  none_from p = refl

  from_here : (left : ℕ) (p : Place) → payload_of s USE-SKIPPED left allow 0 p ≡ past 0 0 (stop_of s USE-SKIPPED left (allow - 0) 0 p)
  from_here left p =
      let z = sub-zero allow in
      rw z (sym (past_none (stop_of s USE-SKIPPED left allow 0 p) ∙ not_header s USE-SKIPPED left allow 0 p (λ e. omega arith)))

  pub begin_skip : c.mode ≡ IN-SKIPPED → Started c s allow (start 0 c.acc (Some (Ok Skipped)) 0 c)
  unfolding mode_state mode_of
  begin_skip m =
      let lo = sane.some (omega arith) (λ e. omega arith) (λ e. omega arith) in
      let z : c.acc ≡ suc (c.acc - 1) = omega arith in
      record {
        goes = λ n p k st. rw m (sym (skip_from (c.acc - 1) p) ∙ ap (λ x. payload_of s USE-SKIPPED x allow 0 p) (sym z) ∙ from_here c.acc p);
        stays = λ e. absurd (omega arith);
        within = zero-le;
        small = sane.small;
        counted = zero-le;
        sane = sane;
        place = λ p. refl;
        phase = refl;
        lawful = nothing_lawful c.phase c.sum c.acc (inl refl);
      }

  pub begin_fresh : c.mode ≡ IN-TYPE → c.due ≡ 0 → Started c s allow (start 0 0 (Some (Ok Skipped)) 0 c)
  unfolding mode_state mode_of head_state prog
  begin_fresh m d = record {
    goes = λ n p k st. rw (m, d) (sym (none_from p) ∙ from_here 0 p);
    stays = λ e. absurd (omega arith);
    within = zero-le;
    small = omega arith;
    counted = zero-le;
    sane = sane;
    place = λ p. refl;
    phase = refl;
    lawful = nothing_lawful c.phase c.sum 0 (inl refl);
  }

  head_held : (mode a d t : ℕ) (p : Place) → mode < IN-SKIPPED → feed both 0 (head_state mode a d t p) s ≡ halt quiet (lives (head_state mode a d t p))
  unfolding head_state
  head_held zero a d t p h = feed_held both (prog d a) p s
  head_held (suc m) a d t p h = feed_held_length both t (prog d a) p s

  held_state : (mode a d t : ℕ) (p : Place) (k : List ℕ) → mode < IN-SKIPPED → state_at mode a d t p k ≡ head_state mode a d t p
  unfolding mode_state mode_of head_state
  held_state zero a d t p k h = refl
  held_state (suc zero) a d t p k h = refl
  held_state (suc (suc m)) a d t p k h = absurd (omega arith)

  pub begin_held : c.mode < IN-SKIPPED → allow ≡ 0 → Started c s allow (start 0 0 None 0 c)
  unfolding halt
  begin_held m z = record {
    goes = λ n. absurd (n refl);
    stays = λ e p k st. (let x = held_state c.mode c.acc c.due c.ftype p k m in rw (z, x) (head_held c.mode c.acc c.due c.ftype p m));
    within = zero-le;
    small = omega arith;
    counted = zero-le;
    sane = sane;
    place = λ p. refl;
    phase = refl;
    lawful = nothing_lawful c.phase c.sum 0 (inr refl);
  }

  -- a header that was begun, as the numbers have it
  pub head_good : c.mode < IN-SKIPPED → GoodHead (head_in c)
  head_good m = by c.mode (sane.header m)
    where
      by : (mode : ℕ) → Good (part c.acc c.due) → GoodHead (head_at mode c.acc c.due c.ftype)
      by zero g = g
      by (suc k) g = (g, sane.type)

  begun_goes : (mode a d t n : ℕ) (p : Place) (k : List ℕ) → mode < IN-SKIPPED → feed both (suc n) (state_at mode a d t p k) s ≡ head_goes n (head_at mode a d t) p s
  unfolding mode_state mode_of head_state
  begun_goes zero a d t n p k h = refl
  begun_goes (suc zero) a d t n p k h = refl
  begun_goes (suc (suc m)) a d t n p k h = absurd (omega arith)

  begun_feed : (n : ℕ) (p : Place) (k : List ℕ) → c.mode < IN-SKIPPED → allow ≡ suc n → feed both allow (state_of c p k) s ≡ head_goes n (head_in c) p s
  begun_feed n p k m e = rw e (begun_goes c.mode c.acc c.due c.ftype n p k m)

  pub begin_cut : (r : Head) (d : Cells) → c.mode < IN-SKIPPED → (allow ≡ 0 → ⊥) → CutRead s (head_in c) r → d ≡ head_cells r c → Started c s allow (start (length s) 0 None 0 d)
  begin_cut r d m n0 h e =
      let z : allow ≡ suc (allow - 1) = omega arith in
      rw e (record {
        goes = λ n. absurd (n refl);
        stays = λ x p k st. (let y = cells_state r c p k in rw y (begun_feed (allow - 1) p k m z ∙ read_out s (allow - 1) (head_in c) r p h));
        within = omega arith;
        small = omega arith;
        counted = zero-le;
        sane = head_sane r c h.good sane.type (sane.sums, sane.stateds);
        place = λ p. cells_place r c p;
        phase = cells_phase r c;
        lawful = nothing_lawful c.phase c.sum 0 (inr refl);
      })

  pub begin_whole : (w : FrameHeader) (ruled : Result Use Code) → c.mode < IN-SKIPPED → (allow ≡ 0 → ⊥) → WholeRead s (head_in c) w
      → ruled_in ruled ≡ number_of (rule (place_of c.phase c.has c.stated c.sum) w.ftype w.len)
      → Started c s allow (start w.next w.len (Some ruled) 1 c)
  unfolding payload_of
  begin_whole w ruled m n0 h known =
      let number = ruled_in ruled in
      let n9 = ruled_not_none ruled in
      let z : allow ≡ suc (allow - 1) = omega arith in
      record {
        goes = λ x p k st. (let t = w.ftype in let l = w.len in
            let ru : rule p t l ≡ ruling_at p number l = ruling_back p t l ∙ ap (λ y. ruling_at p y l) (number_stands t l st ∙ sym known) in
            begun_feed (allow - 1) p k m z ∙ h.is (allow - 1) p
            ∙ ap (λ y. past w.next 1 (behind_header both l y (λ b. feed both (allow - 1) b (drop w.next s)))) ru
            ∙ ap (past w.next 1) (sym (not_header s number l (allow - 1) w.next p n9)));
        stays = λ e. absurd (n9 e);
        within = h.within;
        small = h.small;
        counted = omega arith;
        sane = sane;
        place = λ p. refl;
        phase = refl;
        lawful = ruling_lawful number c.phase c.has c.stated c.sum w.ftype w.len sane.stateds known;
      }
