-- Laws of the walk over a SETTINGS payload: the rule goes by one pair, looking again finds what was seen, and each answer of the walk
-- follows from the answer on the shorter payload. Assumes nothing.
use Rattle.std.specs.Prelude.{◌≡◌, ℕ, zero, suc, ◌+◌, ◌*◌, ◌%◌, ◌≤◌, ◌<◌, Bool, true, false, ◌||◌, eqb, length, drop, Result, Ok, Err}
use Rattle.std.proofs.Math.Path.{refl, sym}
use Rattle.std.proofs.Common.{ap, ◌∙◌, arith, lit≤, length-drop, drop_of_length-le, eq-eqb, ne_eqb}
use mathlib.Core.List.{List, [], ◌∷◌}
use Rattle.rules.specs.Numbers.{of_connection, frame_error, settings_error}
use Rattle.rules.specs.Text.{is_one_of}
use Rattle.rules.specs.Integers.{Int, cut, got, more, extra, integer}
use Rattle.rules.specs.Reading.{Next, stop}
use Rattle.std.proofs.Math.Option.{some}
use Rattle.rules.specs.Control.{Settings, set_to, reserved_identifiers, pairs, no_settings, settings_of}
use Rattle.meaning.specs.IntegerLaws.{integer_length}
use Rattle.meaning.specs.ControlLaws.{pairs_enough}
use Rattle.control.specs.declared.settings.Settings as kept
use Rattle.rules.specs.declared.codes.Code.{Code}
use Rattle.rules.specs.declared.codes.Code.TheVariants.{FrameError, SettingsError}
use Rattle.control.specs.Answers.{judged_is, settings_is}
use Rattle.meaning.specs.NumberLaws.{numbered}
use Rattle.control.specs.Walk.{IsPair, IsCut, identifier_cut, value_cut, Passed, nothing, pair, Looked, rest, Walked}

-- ---- an integer read further on is the same, its place further on

placed : ℕ → Int → Int
placed k cut = cut
placed k (got v n bs) = got v (k + n) bs

more_placed : (j v k at : ℕ) (bs : List ℕ) → more j v (k + at) bs ≡ placed k (more j v at bs)
unfolding more placed
more_placed zero v k at bs = refl
more_placed (suc j) v k at [] = refl
more_placed (suc j) v k at (b ∷ bs) = let e : suc (k + at) ≡ k + suc at = omega arith in rw e (more_placed j (v * 256 + b) k (suc at) bs)

integer_placed : (k : ℕ) (bs : List ℕ) → integer k bs ≡ placed k (integer 0 bs)
unfolding integer placed
integer_placed k [] = refl
integer_placed k (b ∷ bs) = let e : suc k ≡ k + 1 = omega arith in rw e (more_placed (extra b) (b % 64) k 1 bs)

-- what it is at the beginning
cut_first : (k : ℕ) (x : Int) → placed k x ≡ cut → x ≡ cut
unfolding placed
cut_first k cut e = refl
cut_first k (got v n bs) e = cc

-- (the place alone differs)
record Got (x : Int) (v : ℕ) (bs : List ℕ) : Type 0 where
  place : ℕ
  is : x ≡ got v place bs

got_first : (k n : ℕ) {v : ℕ} {bs : List ℕ} (x : Int) → placed k x ≡ got v n bs → Got x v bs
unfolding placed
got_first k n cut e = let z : ◌≡◌ {A = ℕ} 0 1 = cc in absurd (omega arith)
got_first k n (got w m cs) e = record { place = m; is = cc }

-- ---- one pair

-- a pair takes bytes, and is in the payload
pub pair_shortens : (l : List ℕ) {at i v to : ℕ} → IsPair l at i v to → (at < to) × (to ≤ length l)
pair_shortens l {at} {i} {v} {to} p =
    let a = integer_length at (drop at l) p.identifies in
    let b = integer_length p.middle (drop p.middle l) p.holds in
    omega (arith, length-drop at l, length-drop p.middle l, length-drop to l)

-- what is at a place is one thing
one_pair : (l : List ℕ) {at i j v w to past : ℕ} → IsPair l at i v to → IsPair l at j w past → (i ≡ j) × (to ≡ past)
one_pair l {at} {i} {j} {v} {w} {to} {past} p q =
    let g : got i p.middle (drop p.middle l) ≡ got j q.middle (drop q.middle l) = sym p.identifies ∙ q.identifies in
    let m : p.middle ≡ q.middle = cc in
    let h : got v to (drop to l) ≡ got w past (drop past l) = sym p.holds ∙ rw m q.holds in
    (cc, cc)

not_both : (l : List ℕ) {at i v to : ℕ} → IsPair l at i v to → IsCut l at → ⊥
not_both l {i = i} p (identifier_cut e) =
    let g : got i p.middle (drop p.middle l) ≡ cut = sym p.identifies ∙ e in
    let z : ◌≡◌ {A = ℕ} 0 1 = cc in
    omega arith
not_both l {i = i} {v = v} {to = to} p (value_cut {identifier = j} {middle = m} e f) =
    let g : got i p.middle (drop p.middle l) ≡ got j m (drop m l) = sym p.identifies ∙ e in
    let n : p.middle ≡ m = cc in
    let h : got v to (drop to l) ≡ cut = sym p.holds ∙ rw n f in
    let z : ◌≡◌ {A = ℕ} 0 1 = cc in
    omega arith

-- the rule goes by one pair
pairs_cut : (l : List ℕ) (at : ℕ) (seen : List ℕ) (s : Settings) (bs : List ℕ) → drop at l ≡ bs → at < length l → IsCut l at → rest seen s bs ≡ stop (of_connection frame_error)
unfolding pairs
pairs_cut l at seen s [] d h c = let n = length-drop at l in let z : length (drop at l) ≡ 0 = ap length d in absurd (omega arith)
pairs_cut l at seen s (b ∷ bs) d h (identifier_cut e) =
    let x = cut_first at (integer 0 (b ∷ bs)) (sym (integer_placed at (b ∷ bs)) ∙ rw d at e) in
    rw (x, pairs)
pairs_cut l at seen s (b ∷ bs) d h (value_cut {middle = m} e f) =
    let x = got_first at m (integer 0 (b ∷ bs)) (sym (integer_placed at (b ∷ bs)) ∙ rw d at e) in
    let y = cut_first m (integer 0 (drop m l)) (sym (integer_placed m (drop m l)) ∙ f) in
    rw (x.is, pairs) (rw y)

pairs_pair : (l : List ℕ) (at : ℕ) (seen : List ℕ) (s : Settings) {i v to : ℕ} (bs : List ℕ) → drop at l ≡ bs → IsPair l at i v to
    → rest seen s bs ≡ elim (is_one_of reserved_identifiers i || is_one_of seen i) [ true ↦ stop (of_connection settings_error) | false ↦ rest (i ∷ seen) (set_to i v s) (drop to l) ]
unfolding pairs
pairs_pair l at seen s {i} {v} {to} [] d p =
    let n = pair_shortens l p in let m = length-drop at l in let z : length (drop at l) ≡ 0 = ap length d in absurd (omega arith)
pairs_pair l at seen s {i} {v} {to} (b ∷ bs) d p =
    let x = got_first at p.middle (integer 0 (b ∷ bs)) (sym (integer_placed at (b ∷ bs)) ∙ rw d at p.identifies) in
    let y = got_first p.middle to (integer 0 (drop p.middle l)) (sym (integer_placed p.middle (drop p.middle l)) ∙ p.holds) in
    let n = integer_length at (drop at l) p.identifies in
    let m = integer_length p.middle (drop p.middle l) p.holds in
    let k : length (drop at l) ≡ suc (length bs) = ap length d in
    rw (x.is, pairs) (rw y.is (ap (λ (r : Next Settings). elim (is_one_of reserved_identifiers i || is_one_of seen i) [ true ↦ stop (of_connection settings_error) | false ↦ r ])
    (pairs_enough (length bs) (length (drop to l)) (i ∷ seen) (set_to i v s) (drop to l) (omega arith) (omega arith))))

-- ---- looking again

or_true : (x : Bool) → (x || true) ≡ true
or_true true = refl
or_true false = refl

passed_forward : (l : List ℕ) {from until : ℕ} {before after : List ℕ} → Passed l from until before after → from ≤ until
passed_forward l nothing = omega arith
passed_forward l (pair p q) = let a = pair_shortens l p in let b = passed_forward l q in omega arith

here_seen : (i j : ℕ) (before : List ℕ) → i ≡ j → is_one_of (j ∷ before) i ≡ true
unfolding is_one_of
here_seen i j before e = rw (eq-eqb i j e)

more_seen : (i j : ℕ) (before : List ℕ) → is_one_of before i ≡ true → is_one_of (j ∷ before) i ≡ true
unfolding is_one_of
more_seen i j before e = rw e (or_true (eqb i j))

other_seen : (i j : ℕ) (before : List ℕ) → (i ≡ j → ⊥) → is_one_of (j ∷ before) i ≡ is_one_of before i
unfolding is_one_of
other_seen i j before n = rw (ne_eqb i j n)

-- an identifier seen before is seen after
passed_keeps : (l : List ℕ) (i : ℕ) {from until : ℕ} {before after : List ℕ} → Passed l from until before after → is_one_of before i ≡ true → is_one_of after i ≡ true
passed_keeps l i nothing e = e
passed_keeps l i (pair {i = j} {before = before} p q) e = passed_keeps l i q (more_seen i j before e)

-- one pair more
passed_more : (l : List ℕ) {from at to i v : ℕ} {before seen : List ℕ} → Passed l from at before seen → IsPair l at i v to → Passed l from to before (i ∷ seen)
passed_more l nothing p = pair p nothing
passed_more l (pair q r) p = pair q (passed_more l r p)

module _ (l : List ℕ) where
  pub look_none : (from until i : ℕ) → until ≤ from → Looked l from until i false
  look_none from until i h before after nothing = refl
  look_none from until i h before after (pair p q) = let a = pair_shortens l p in let b = passed_forward l q in absurd (omega arith)

  pub look_cut : (from until i : ℕ) → from < until → IsCut l from → Looked l from until i false
  look_cut from until i h c before after nothing = absurd (omega arith)
  look_cut from until i h c before after (pair p q) = absurd (not_both l p c)

  pub look_here : (from until i : ℕ) {j v to : ℕ} → from < until → IsPair l from j v to → j ≡ i → Looked l from until i true
  look_here from until i h p e before after nothing = absurd (omega arith)
  look_here from until i h p e before after (pair {i = k} r q) = let s = one_pair l p r in passed_keeps l i q (here_seen i k before (sym e ∙ s.0))

  pub look_on : (from until i : ℕ) {j v to : ℕ} (r : Bool) → from < until → IsPair l from j v to → (j ≡ i → ⊥) → Looked l to until i r → Looked l from until i r
  look_on from until i r h p n k before after nothing = absurd (omega arith)
  look_on from until i r h p n k before after (pair {i = m} s q) =
      let o = one_pair l p s in
      k (m ∷ before) after (rw o.1 q) ∙ rw (other_seen i m before (λ e. n (o.0 ∙ sym e)))

-- ---- the walk

module _ (l : List ℕ) (at : ℕ) (s : Settings) where
  pub walk_end : (k : kept.Settings) → length l ≤ at → settings_is k ≡ s → Walked l at s (Ok k)
  unfolding pairs numbered
  walk_end k h e seen q = rw (drop_of_length-le l h, e)

  pub walk_cut : at < length l → IsCut l at → Walked l at s (Err FrameError)
  unfolding numbered
  walk_cut h c seen q = sym (ap numbered (pairs_cut l at seen s (drop at l) refl h c))

  pub walk_reserved : {i v to : ℕ} → IsPair l at i v to → is_one_of reserved_identifiers i ≡ true → Walked l at s (Err SettingsError)
  unfolding numbered
  walk_reserved p e seen q = sym (ap numbered (pairs_pair l at seen s (drop at l) refl p) ∙ rw e refl)

  pub walk_seen : {i v to : ℕ} → IsPair l at i v to → is_one_of reserved_identifiers i ≡ false → Looked l 0 at i true → Walked l at s (Err SettingsError)
  unfolding is_one_of numbered
  walk_seen p e k seen q = let f = k [] seen q in sym (ap numbered (pairs_pair l at seen s (drop at l) refl p) ∙ rw (e, f) refl)

  pub walk_on : {i v to : ℕ} (r : Result kept.Settings Code) (u : Settings) → IsPair l at i v to → is_one_of reserved_identifiers i ≡ false → Looked l 0 at i false → u ≡ set_to i v s → Walked l to u r → Walked l at s r
  unfolding is_one_of
  walk_on {i = i} r u p e k a w seen q = let f = k [] seen q in w (i ∷ seen) (passed_more l q p) ∙ sym (ap numbered (pairs_pair l at seen s (drop at l) refl p) ∙ rw (e, f, a) refl)

-- identifiers 2 to 5
pub is_reserved : (i : ℕ) → 2 ≤ i → i ≤ 5 → true ≡ is_one_of reserved_identifiers i
unfolding reserved_identifiers is_one_of
is_reserved zero lo hi = absurd (omega arith)
is_reserved (suc zero) lo hi = absurd (omega arith)
is_reserved (suc (suc zero)) lo hi = refl
is_reserved (suc (suc (suc zero))) lo hi = refl
is_reserved (suc (suc (suc (suc zero)))) lo hi = refl
is_reserved (suc (suc (suc (suc (suc zero))))) lo hi = refl
is_reserved (suc (suc (suc (suc (suc (suc i)))))) lo hi = absurd (omega arith)

pub not_reserved : (i : ℕ) → ((k : ℕ) → 2 ≤ k → k ≤ 5 → i ≡ k → ⊥) → false ≡ is_one_of reserved_identifiers i
unfolding reserved_identifiers is_one_of
not_reserved i n =
    simp (ne_eqb i 2 (n 2 (lit≤ tt) (lit≤ tt)), ne_eqb i 3 (n 3 (lit≤ tt) (lit≤ tt)), ne_eqb i 4 (n 4 (lit≤ tt) (lit≤ tt)), ne_eqb i 5 (n 5 (lit≤ tt) (lit≤ tt)))

-- what a pair sets
pub set_six : (i v : ℕ) (s : Settings) → i ≡ 6 → record { section_size = some v; table_capacity = s.table_capacity; blocked_streams = s.blocked_streams } ≡ set_to i v s
unfolding set_to
set_six i v s e = rw e

pub set_one : (i v : ℕ) (s : Settings) → i ≡ 1 → record { section_size = s.section_size; table_capacity = v; blocked_streams = s.blocked_streams } ≡ set_to i v s
unfolding set_to
set_one i v s e = rw e

pub set_seven : (i v : ℕ) (s : Settings) → i ≡ 7 → record { section_size = s.section_size; table_capacity = s.table_capacity; blocked_streams = v } ≡ set_to i v s
unfolding set_to
set_seven i v s e = rw e

pub set_other : (i v : ℕ) (s : Settings) → (i ≡ 6 → ⊥) → (i ≡ 1 → ⊥) → (i ≡ 7 → ⊥) → s ≡ set_to i v s
unfolding set_to
set_other i v s a b c = rw (ne_eqb i 6 a, set_to) (rw (ne_eqb i 1 b, ne_eqb i 7 c))

-- from the beginning, with nothing kept
pub judge_is : (l : List ℕ) (r : Result kept.Settings Code) → Walked l 0 no_settings r → judged_is r ≡ numbered (settings_of l)
unfolding settings_of no_settings
judge_is l r w = w [] nothing
