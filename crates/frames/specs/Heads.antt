-- A header read a byte at a time, where a piece cuts it. Assumes nothing.
use Rattle.std.specs.Prelude.{◌≡◌, refl, ℕ, zero, suc, ◌+◌, ◌≤◌, ◌<◌, ◌^◌, List, [], ◌∷◌, length, drop, get_or, Result, Ok, Err}
use Rattle.std.proofs.Common.{sym, ap, ◌∙◌, add-one, drop-cons}
use Rattle.std.proofs.Math.ListN.{drop_of_length-le}
use native.Mathlib.Omega.{arith}
use Rattle.meaning.specs.Machine.{going, value, fed, State, in_type, in_length, typed}
use Rattle.meaning.specs.Feed.{Feeding, behind_header, feed}
use Rattle.meaning.specs.FeedLaws.{past, past_none, past_past}
use Rattle.meaning.proofs.FeedLaws.{type_byte, length_byte, last_byte}
use Rattle.varint.specs.declared.Part.{Part}
use Rattle.std.specs.declared.ops.ControlFlow.{ControlFlow}
use Rattle.std.specs.declared.ops.ControlFlow.TheVariants.{Continue, Break}
use Rattle.varint.specs.ByByte.{part, fresh_part, prog, read_as, step_reads, Good, fresh_good, Stepped}
use Rattle.frames.specs.declared.Head.{Head}
use Rattle.frames.specs.declared.Head.TheVariants.{InType, InLength}
use Rattle.frames.specs.declared.FrameHeader.{FrameHeader}
use Rattle.frames.specs.declared.Cells.{Cells}
use Rattle.frames.specs.Both.{Place, rule, both}

-- the state that a header's numbers mean
unfoldable pub head_state : {P : Type 0} → (mode acc due ftype : ℕ) → P → State P
head_state zero a d t p = in_type (prog d a) p
head_state (suc k) a d t p = in_length t (prog d a) p

-- the same of a header, and how a feed goes on behind the bytes read
abbrev pub state_in : Head → Place → State Place
state_in (InType q) p = in_type (prog q.due q.acc) p
state_in (InLength t q) p = in_length t (prog q.due q.acc) p

abbrev pub head_goes : ℕ → Head → Place → List ℕ → Feeding Place
head_goes n h p bs = feed both (suc n) (state_in h p) bs

-- the header that numbers mean
abbrev pub head_at : (mode acc due ftype : ℕ) → Head
head_at zero a d t = InType (part a d)
head_at (suc k) a d t = InLength t (part a d)

abbrev pub head_in : Cells → Head
head_in c = head_at c.mode c.acc c.due c.ftype

-- how it goes on behind a whole one
abbrev pub behind_whole : ℕ → FrameHeader → Place → List ℕ → Feeding Place
behind_whole n w p bs = behind_header both w.len (rule p w.ftype w.len) (λ s. feed both n s bs)

-- what the code can go on with
abbrev pub GoodHead : Head → Type 0
GoodHead (InType q) = Good q
GoodHead (InLength t q) = Good q × (t < 2 ^ 62)

-- one byte leaves a header that goes on, or a whole one
pub record StepsOn (h : Head) (b : ℕ) (r : Head) : Type 0 where
  pub is : (n : ℕ) (p : Place) (bs : List ℕ) → head_goes n h p (b ∷ bs) ≡ past 1 0 (head_goes n r p bs)
  pub good : GoodHead r

pub record StepsOut (h : Head) (b next : ℕ) (w : FrameHeader) : Type 0 where
  pub is : (n : ℕ) (p : Place) (bs : List ℕ) → head_goes n h p (b ∷ bs) ≡ past 1 1 (behind_whole n w p bs)
  pub small : w.len < 2 ^ 62
  pub ends : w.next ≡ next

abbrev pub HeadStepped : Head → (b next : ℕ) → ControlFlow FrameHeader Head → Type 0
HeadStepped h b next (Continue r) = StepsOn h b r
HeadStepped h b next (Break w) = StepsOut h b next w

-- bytes that make it whole, and bytes that it goes on behind
pub record WholeRead (bs : List ℕ) (h : Head) (w : FrameHeader) : Type 0 where
  pub is : (n : ℕ) (p : Place) → head_goes n h p bs ≡ past w.next 1 (behind_whole n w p (drop w.next bs))
  pub within : w.next ≤ length bs
  pub small : w.len < 2 ^ 62

pub record CutRead (bs : List ℕ) (h r : Head) : Type 0 where
  pub is : (n : ℕ) (p : Place) → head_goes n h p bs ≡ past (length bs) 0 (head_goes n r p [])
  pub good : GoodHead r

abbrev pub HeadRead : List ℕ → Head → Result FrameHeader Head → Type 0
HeadRead bs h (Ok w) = WholeRead bs h w
HeadRead bs h (Err r) = CutRead bs h r

-- ---- one byte

-- the integer goes on
more_fed : (a d b : ℕ) (q : Part) → Stepped (part a d) b (Continue q) → fed (prog d a) b ≡ going (prog q.due q.acc)
unfolding read_as
more_fed a d b q s = sym (step_reads (part a d) b) ∙ ap read_as (sym s.is)

done_fed : (a d b v : ℕ) → Stepped (part a d) b (Break v) → fed (prog d a) b ≡ value v
unfolding read_as
done_fed a d b v s = sym (step_reads (part a d) b) ∙ ap read_as (sym s.is)

pub type_more : (a : Part) (b : ℕ) (q : Part) → Stepped a b (Continue q) → StepsOn (InType a) b (InType q)
unfolding typed
type_more a b q s = record { is = λ n p bs. (let e = more_fed a.acc a.due b q s in type_byte both n (prog a.due a.acc) p b bs ∙ rw (e, typed) refl); good = s.good }

pub type_done : (a : Part) (b v : ℕ) → Stepped a b (Break v) → StepsOn (InType a) b (InLength v fresh_part)
unfolding typed
type_done a b v s = record { is = λ n p bs. (let f = done_fed a.acc a.due b v s in type_byte both n (prog a.due a.acc) p b bs ∙ rw (f, typed) (unfold prog in refl)); good = (fresh_good, s.good) }

pub length_more : (t : ℕ) (a : Part) (b : ℕ) (q : Part) → t < 2 ^ 62 → Stepped a b (Continue q) → StepsOn (InLength t a) b (InLength t q)
length_more t a b q h s = record { is = λ n p bs. length_byte both n t (prog a.due a.acc) p b bs (more_fed a.acc a.due b q s); good = (s.good, h) }

pub length_done : (t : ℕ) (a : Part) (b v next : ℕ) → Stepped a b (Break v) → StepsOut (InLength t a) b next (record { ftype = t; len = v; next = next })
length_done t a b v next s = record { is = λ n p bs. last_byte both n t (prog a.due a.acc) p b bs (done_fed a.acc a.due b v s); small = s.good; ends = refl }

-- ---- byte by byte

-- so far: the header behind the bytes up to i
pub record OnWay (bs : List ℕ) (h : Head) (i : ℕ) (q : Head) : Type 0 where
  pub is : (n : ℕ) (p : Place) → head_goes n h p bs ≡ past i 0 (head_goes n q p (drop i bs))
  pub good : GoodHead q

pub way_begins : (bs : List ℕ) (h : Head) → GoodHead h → OnWay bs h 0 h
way_begins bs h g = record { is = λ n p. sym (past_none (head_goes n h p bs)); good = g }

pub way_on : (bs : List ℕ) (h : Head) (i : ℕ) (q r : Head) → OnWay bs h i q → i < length bs → StepsOn q (get_or bs i 0) r → OnWay bs h (i + 1) r
way_on bs h i q r w l st = record {
  is = λ n p. (let d = drop-cons bs i 0 l in
      let a = add-one i in
      w.is n p ∙ ap (past i 0) (ap (λ x. head_goes n q p x) d ∙ st.is n p (drop (suc i) bs) ∙ ap (λ x. past 1 0 (head_goes n r p (drop x bs))) (sym a)) ∙ past_past i 0 1 0 _);
  good = st.good;
}

pub way_whole : (bs : List ℕ) (h : Head) (i : ℕ) (q : Head) (w : FrameHeader) → OnWay bs h i q → i < length bs → StepsOut q (get_or bs i 0) (i + 1) w → WholeRead bs h w
way_whole bs h i q w o l st = record {
  is = λ n p. (let d = drop-cons bs i 0 l in
      let a = add-one i in
      o.is n p ∙ ap (past i 0) (ap (λ x. head_goes n q p x) d ∙ st.is n p (drop (suc i) bs) ∙ ap (λ x. past 1 1 (behind_whole n w p (drop x bs))) (sym a)) ∙ past_past i 0 1 1 _
      ∙ ap (λ x. past x 1 (behind_whole n w p (drop x bs))) (sym st.ends));
  within = omega (arith, st.ends);
  small = st.small;
}

pub way_ends : (bs : List ℕ) (h q : Head) (i : ℕ) → i ≡ length bs → OnWay bs h i q → CutRead bs h q
way_ends bs h q i e w = record {
  is = λ n p. (let d : drop (length bs) bs ≡ [] = drop_of_length-le bs {i = length bs} (omega arith) in rw e at (w.is n p) ∙ ap (λ x. past (length bs) 0 (head_goes n q p x)) d);
  good = w.good;
}
