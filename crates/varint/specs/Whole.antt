-- An integer that is whole in a slice: where it ends, and its value. Assumes nothing.
use Rattle.std.specs.Prelude.{ℕ, zero, suc, ◌+◌, ◌-◌, ◌*◌, ◌%◌, ◌^◌, ◌<◌, ◌≤◌, ◌/◌, ◌≡◌, length, get_or, Option, Some, None, IsSome, IfSome}
use Rattle.std.proofs.Math.Path.{refl, sym}
use Rattle.std.proofs.Common.{ap, ◌∙◌, add-one, length-drop, drop-cons, drop-drop}
use mathlib.Core.List.{List, [], ◌∷◌}
use native.Mathlib.Omega.{arith}
use Rattle.std.proofs.Math.ListN.{take, drop, drop_of_length-le}
use Rattle.std.proofs.lemmas.List.{length-take-le}
use Rattle.std.proofs.lemmas.Grind.{common_steps}
use Rattle.rules.specs.Integers.{Int, cut, got, more, extra, integer}
use Rattle.varint.specs.ByByte.{Good, part, small, next_good, next_fits, first_good, extra_none}
use Rattle.varint.specs.declared.Whole.{Whole}

abbrev whole : (value next : ℕ) → Whole
whole v n = record { value = v; next = n }

-- the integer that begins at an offset
abbrev pub whole_at : List ℕ → ℕ → Int
whole_at s at = integer at (drop at s)

-- where an integer ends, none if it is cut; and its value
unfoldable pub end_of : Int → Option ℕ
end_of cut = None
end_of (got v next rest) = Some next

unfoldable pub value_of : Int → ℕ
value_of cut = 0
value_of (got v next rest) = v

-- the integer at an offset is whole
abbrev pub IsWhole : List ℕ → ℕ → Type 0
IsWhole s at = IsSome (end_of (whole_at s at))

-- an answer, as the rules have it
unfoldable pub whole_is : List ℕ → Option Whole → Int
whole_is s (Some w) = got w.value w.next (drop w.next s)
whole_is s None = cut

pub record Ended (s : List ℕ) (at : ℕ) (r : Option ℕ) : Type 0 where
  pub is : r ≡ end_of (whole_at s at)
  pub within : IfSome r (λ n. n ≤ length s)
  pub past : IfSome r (λ n. at < n)

pub record Valued (s : List ℕ) (at r : ℕ) : Type 0 where
  pub is : r ≡ value_of (whole_at s at)
  pub small : r < 2 ^ 62

-- two answers that read as the same integer are the same answer
pub whole_one : (s : List ℕ) (a b : Option Whole) → whole_is s a ≡ whole_is s b → a ≡ b
unfolding whole_is
whole_one s (Some x) (Some y) e = let p : x.value ≡ y.value = cc in let q : x.next ≡ y.next = cc in ap (λ v. Some (whole v x.next)) p ∙ ap (λ n. Some (whole y.value n)) q
whole_one s (Some x) None e = let z : ◌≡◌ {A = ℕ} 0 1 = cc in absurd (omega arith)
whole_one s None (Some y) e = let z : ◌≡◌ {A = ℕ} 0 1 = cc in absurd (omega arith)
whole_one s None None e = refl

-- ---- where it ends

more_cut : (k v at : ℕ) (bs : List ℕ) → length bs < k → more k v at bs ≡ cut
unfolding more
more_cut zero v at bs h = absurd (omega arith)
more_cut (suc k) v at [] h = refl
more_cut (suc k) v at (b ∷ bs) h = more_cut k (v * 256 + b) (suc at) bs (omega arith)

more_got : (k v at : ℕ) (bs : List ℕ) → k ≤ length bs → more k v at bs ≡ got (value_of (more k v at bs)) (at + k) (drop k bs)
unfolding more value_of
more_got zero v at bs h = let e : at + 0 ≡ at = omega arith in rw e
more_got (suc k) v at [] h = absurd (omega arith)
more_got (suc k) v at (b ∷ bs) h = let e : at + suc k ≡ suc at + k = omega arith in rw e (more_got k (v * 256 + b) (suc at) bs (omega arith))

more_enough : (k v at : ℕ) (bs : List ℕ) → IsSome (end_of (more k v at bs)) → k ≤ length bs
unfolding more end_of
more_enough zero v at bs h = omega arith
more_enough (suc k) v at [] h = let z : ◌≡◌ {A = ℕ} 0 1 = cc in absurd (omega arith)
more_enough (suc k) v at (b ∷ bs) h = let i = more_enough k (v * 256 + b) (suc at) bs h in omega arith

some_byte : (at : ℕ) (bs : List ℕ) → IsSome (end_of (integer at bs)) → 0 < length bs
unfolding integer end_of
some_byte at [] h = let z : ◌≡◌ {A = ℕ} 0 1 = cc in absurd (omega arith)
some_byte at (b ∷ bs) h = omega arith

module _ (s : List ℕ) (at : ℕ) where
  ends_not : None ≡ end_of (whole_at s at) → Ended s at None
  ends_not e = record { is = e; within = tt; past = tt }

  pub ends_none : length s ≤ at → Ended s at None
  unfolding integer end_of
  ends_none h = let d : drop at s ≡ [] = drop_of_length-le s h in ends_not (rw d)

  -- behind the first byte
  first : at < length s → whole_at s at ≡ more (extra (get_or s at 0)) (get_or s at 0 % 64) (suc at) (drop (suc at) s)
  unfolding integer
  first h = rw (drop-cons s at 0 h)

  pub inside : IsWhole s at → at < length s
  inside h = let n = some_byte at (drop at s) h in let l = length-drop at s in omega arith

  module _ (x m : ℕ) (e : x ≡ get_or s at 0) (f : m ≡ extra x) (h : at < length s) where
    after_first : whole_at s at ≡ more m (x % 64) (suc at) (drop (suc at) s)
    after_first = rw (f, e) (first h)

    left : length (drop (suc at) s) ≡ length s - suc at
    left = length-drop (suc at) s

    pub ends_short : length s - at ≤ m → Ended s at None
    unfolding end_of
    ends_short w = let l = left in ends_not (sym (ap end_of (after_first ∙ more_cut m (x % 64) (suc at) (drop (suc at) s) (omega arith))))

    whole_there : m < length s - at → whole_at s at ≡ got (value_of (whole_at s at)) (at + 1 + m) (drop (at + 1 + m) s)
    whole_there w =
        let l = left in
        let g = more_got m (x % 64) (suc at) (drop (suc at) s) (omega arith) in
        let n : suc at + m ≡ at + 1 + m = omega arith in
        rw (after_first, ← n, ← drop-drop m (suc at) s) g

    pub ends_whole : m < length s - at → Ended s at (Some (at + 1 + m))
    unfolding end_of
    ends_whole w = record { is = sym (ap end_of (whole_there w)); within = omega arith; past = omega arith }

    pub enough : IsWhole s at → m < length s - at
    enough w =
        let l = left in
        let k : m ≤ length (drop (suc at) s) = more_enough m (x % 64) (suc at) (drop (suc at) s) (rw after_first at w) in
        omega arith

  pub ends_one : (x : ℕ) → x ≡ get_or s at 0 → x < 64 → at < length s → Ended s at (Some (at + 1))
  ends_one x e lo h = let z : at + 1 + 0 ≡ at + 1 = omega arith in rw z at (ends_whole x 0 e (sym (extra_none x lo)) h (omega arith))

-- ---- its value

-- on the way through an integer: what is behind i, with `due` bytes to come
pub record OnWay (s : List ℕ) (at due acc i : ℕ) : Type 0 where
  pub reads : whole_at s at ≡ more due acc i (drop i s)
  pub good : Good (part acc due)
  pub within : i + due ≤ length s

pub way_start : (s : List ℕ) (at x m : ℕ) → x ≡ get_or s at 0 → m ≡ extra x → x < 256 → IsWhole s at → OnWay s at m (x % 64) (at + 1)
way_start s at x m e f h w =
    let i = inside s at w in
    let n = enough s at x m e f i w in
    record {
      reads = rw (add-one at) (after_first s at x m e f i);
      good = rw f (first_good x h);
      within = omega arith;
    }

more_step : (s : List ℕ) (due acc i : ℕ) → 0 < due → i < length s → more due acc i (drop i s) ≡ more (due - 1) (acc * 256 + get_or s i 0) (i + 1) (drop (i + 1) s)
unfolding more
more_step s zero acc i lo h = absurd (omega arith)
more_step s (suc k) acc i lo h = let e : suc k - 1 ≡ k = omega arith in rw (e, add-one i, drop-cons s i 0 h)

pub way_step : (s : List ℕ) (at due acc i b : ℕ) → 0 < due → b ≡ get_or s i 0 → b < 256 → OnWay s at due acc i → OnWay s at (due - 1) (acc * 256 + b) (i + 1)
way_step s at due acc i b lo e h w = record {
  reads = w.reads ∙ rw e (more_step s due acc i lo (omega (arith, w.within)));
  good = next_good b h lo w.good;
  within = omega (arith, w.within);
}

pub way_fits : {s : List ℕ} {at due acc i : ℕ} → OnWay s at due acc i → (b : ℕ) → b < 256 → 0 < due → acc * 256 + b < 2 ^ 62
way_fits {due = due} {acc = acc} w b h lo = next_fits (part acc due) b h lo w.good

more_end : (due acc i : ℕ) (bs : List ℕ) → due ≤ 0 → value_of (more due acc i bs) ≡ acc
unfolding more value_of
more_end zero acc i bs h = refl
more_end (suc k) acc i bs h = absurd (omega arith)

pub way_end : (s : List ℕ) (at due acc i : ℕ) → due ≤ 0 → OnWay s at due acc i → Valued s at acc
way_end s at due acc i h w = record { is = sym (ap value_of w.reads ∙ more_end due acc i (drop i s) h); small = small w.good }

-- the bytes behind the first
pub behind_length : (s : List ℕ) (at m : ℕ) → at + 1 + m ≤ length s → length (take (at + 1 + m - (at + 1)) (drop (at + 1) s)) ≡ m
behind_length s at m h = let d = length-drop (at + 1) s in length-take-le (at + 1 + m - (at + 1)) (drop (at + 1) s) (omega arith) ∙ (let e : at + 1 + m - (at + 1) ≡ m = omega arith in e)

pub behind_byte : (s : List ℕ) (at m i : ℕ) → i < m → get_or (take (at + 1 + m - (at + 1)) (drop (at + 1) s)) i 0 ≡ get_or s (at + 1 + i) 0
behind_byte s at m i h = grind (arith, common_steps)

-- one byte is all
pub value_one : (s : List ℕ) (at x : ℕ) → x ≡ get_or s at 0 → x < 64 → IsWhole s at → Valued s at x
value_one s at x e h w =
    let m : x % 64 ≡ x = omega arith in
    rw m at (way_end s at 0 (x % 64) (at + 1) (omega arith) (way_start s at x 0 e (sym (extra_none x h)) (omega arith) w))

-- two bytes are
module _ (s : List ℕ) (at x : ℕ) (e : x ≡ get_or s at 0) (lo : 64 ≤ x) (hi : x < 128) (w : IsWhole s at) where
  two_way : OnWay s at 1 (x % 64) (at + 1)
  unfolding extra
  two_way = way_start s at x 1 e (let q : x / 64 ≡ 1 = omega arith in rw q refl) (omega arith) w

  pub two_within : at + 1 < length s
  two_within = let l = two_way.within in omega arith

  pub value_two : (b : ℕ) → b ≡ get_or s (at + 1) 0 → b < 256 → Valued s at ((x - 64) * 256 + b)
  value_two b f h =
      let m : x % 64 ≡ x - 64 = omega arith in
      rw m at (way_end s at 0 (x % 64 * 256 + b) (at + 1 + 1) (omega arith) (way_step s at 1 (x % 64) (at + 1) b (omega arith) f h two_way))

-- ---- both answers are the integer

module _ (s : List ℕ) (at : ℕ) where
  pub ended_whole : {next : ℕ} → Ended s at (Some next) → IsWhole s at
  ended_whole h = rw (← h.is)

  none_there : (i : Int) → None ≡ end_of i → i ≡ cut
  unfolding end_of
  none_there cut e = refl
  none_there (got v here rest) e = let z : ◌≡◌ {A = ℕ} 0 1 = cc in absurd (omega arith)

  pub ended_cut : Ended s at None → whole_at s at ≡ cut
  ended_cut h = none_there (whole_at s at) h.is

  pub ended_got : (next v : ℕ) → Ended s at (Some next) → Valued s at v → whole_at s at ≡ got v next (drop next s)
  ended_got next v h w =
      let p = ended_whole h in
      let i = inside s at p in
      let x = get_or s at 0 in
      let m = enough s at x (extra x) refl refl i p in
      let f = h.is ∙ sym (ends_whole s at x (extra x) refl refl i m).is in
      let g : next ≡ at + 1 + extra x = cc in
      rw (g, w.is) (whole_there s at x (extra x) refl refl i m)

  pub read_short : Ended s at None → whole_is s None ≡ whole_at s at
  unfolding whole_is
  read_short h = sym (ended_cut h)

  pub read_value : (next v : ℕ) → Ended s at (Some next) → Valued s at v → whole_is s (Some (whole v next)) ≡ whole_at s at
  unfolding whole_is
  read_value next v h w = sym (ended_got next v h w)
