-- The shortest form of a value (rules, Integers): its row of RFC 9000's table, and its bytes stored one by one. Assumes nothing.
use Prim.Native.Nat.{ℕ, zero, suc, ◌+◌, ◌-◌, ◌*◌, ◌/◌, ◌%◌, ◌^◌, ◌<◌, ◌≤◌}
use Rattle.std.specs.Prelude.{◌≡◌, refl, List, [], ◌∷◌, Bool, true, false, ◌&&◌, ◌||◌, leb, eqb, length, take, drop, set, ◌++◌, Option as Maybe, Some, None, IsSome, option_map}
use Rattle.std.proofs.Common.{ap, sym, subst, mul_assoc, ◌∙◌, div-lt_iff_lt-mul, zero-lt-suc, mod-eq_of_lt, pow-suc, arith, pow-add, leb-true, eqb-true, le-leb, ne_eqb}
use Rattle.std.proofs.Math.Option.{Option, none, some}
use Rattle.std.proofs.Math.Nat.{one-le-pow, pow-le-pow_right, mul-le-mul_right, add-mul-div_right, add-mul-mod_self_right}
use Rattle.std.specs.Int.{byte_at, bytes_high_first}
use Rattle.std.proofs.Math.Seq.{sets, take-length}
use Rattle.std.proofs.lemmas.List.{take-append-drop}
use Rattle.std.proofs.lemmas.List.Edits.{sets-eq}
use Rattle.std.proofs.lemmas.Slice.{take-put_mid, drop-put_mid}
use borrow.Rule.Slice.PartMut.{put_mid}
use Rattle.rules.specs.Text.{all}
use Rattle.rules.specs.Integers.{Row, rows, low, in_row, in_first, written}
use Rattle.meaning.specs.IntegerLaws.{length_row}
use Rattle.varint.specs.declared.Form.{Form}

abbrev pub form : (mark size : ℕ) → Form
form mark size = record { mark = mark; size = size }

-- the first row that v fits
unfoldable pub first_form : List Row → ℕ → Maybe Form
first_form [] v = None
first_form (r ∷ rs) v = elim (leb v r.top) [ true ↦ Some (form r.mark r.size) | false ↦ first_form rs v ]

abbrev pub form_of : ℕ → Maybe Form
form_of v = first_form rows v

-- what is written of something that cannot be written is nothing
unfoldable pub bytes_of : Option (List ℕ) → List ℕ
bytes_of none = []
bytes_of (some bs) = bs

-- how many bytes v takes; 0: v is above 2^62-1
abbrev pub size_of : ℕ → ℕ
size_of v = length (bytes_of (written v))

-- the same as an answer: none above 2^62-1
unfoldable pub length_in : Option (List ℕ) → Maybe ℕ
length_in none = None
length_in (some bs) = Some (length bs)

abbrev pub sized : ℕ → Maybe ℕ
sized v = length_in (written v)

-- what a store of v at a place needs: v can be written, and the room reaches
pub record Room (v at : ℕ) (l : List ℕ) : Type 0 where
  pub holds : 0 < size_of v
  pub fits : at + size_of v ≤ length l

-- ---- the table

-- the sizes that a form may have
is_size : ℕ → Bool
is_size n = eqb n 1 || eqb n 2 || eqb n 4 || eqb n 8

-- what the bytes of a row need, by one test of every row
record Sound (r : Row) : Type 0 where
  some : 1 ≤ r.size
  few : r.size ≤ 8
  mark : r.mark ≤ 3
  top : suc r.top ≡ 64 * 256 ^ (r.size - 1)
  four : is_size r.size ≡ true

is_sound : Row → Bool
is_sound r = leb 1 r.size && leb r.size 8 && leb r.mark 3 && eqb (suc r.top) (64 * 256 ^ (r.size - 1)) && is_size r.size

both_true : (a b : Bool) → (a && b) ≡ true → (a ≡ true) × (b ≡ true)
both_true true b e = (refl, e)
both_true false b e = let z : ◌≡◌ {A = ℕ} 0 1 = cc in absurd (omega arith)

sound : (r : Row) → is_sound r ≡ true → Sound r
unfolding is_sound
sound r e =
    let f = both_true _ _ e in
    let g = both_true _ _ f.0 in
    let h = both_true _ _ g.0 in
    let i = both_true _ _ h.0 in
    record { some = leb-true _ _ i.0; few = leb-true _ _ i.1; mark = leb-true _ _ h.1; top = eqb-true _ _ g.1; four = f.1 }

rows_sound : all is_sound rows ≡ true
unfolding rows all is_sound is_size
rows_sound = refl

-- what the table gives: a row that v fits, or none
data Found (v : ℕ) : Option (List ℕ) → Maybe Form → Type 0 where
  fits : {r : Row} → Sound r → v ≤ r.top → Found v (some (in_row r v)) (Some (form r.mark r.size))
  above : Found v none None

find_row : (r : Row) (v : ℕ) {o : Option (List ℕ)} {f : Maybe Form} → Sound r → Found v o f → (x : Bool) → leb v r.top ≡ x
    → Found v (elim x [ true ↦ some (in_row r v) | false ↦ o ]) (elim x [ true ↦ Some (form r.mark r.size) | false ↦ f ])
find_row r v s behind true e = fits s (leb-true v r.top e)
find_row r v s behind false e = behind

find : (rs : List Row) (v : ℕ) → all is_sound rs ≡ true → Found v (in_first rs v) (first_form rs v)
unfolding in_first first_form all
find [] v a = above
find (r ∷ rs) v a = let s = both_true _ _ a in find_row r v (sound r s.0) (find rs v s.1) (leb v r.top) refl

found : (v : ℕ) → Found v (written v) (form_of v)
unfolding written
found v = find rows v rows_sound

-- ---- its size

found_size : {v : ℕ} {o : Option (List ℕ)} {f : Maybe Form} → Found v o f → option_map (λ x. x.size) f ≡ length_in o
unfolding length_in
found_size {v} (fits {r = r} s h) = let l = length_row r v in ap Some (omega (arith, s.some))
found_size above = refl

pub form_size : (v : ℕ) → option_map (λ (f : Form). f.size) (form_of v) ≡ sized v
form_size v = found_size (found v)

found_few : {v : ℕ} {o : Option (List ℕ)} {f : Maybe Form} → Found v o f → length (bytes_of o) ≤ 8
unfolding bytes_of
found_few {v} (fits {r = r} s h) = let l = length_row r v in let f = s.few in omega (arith, s.some)
found_few above = omega arith

pub size_few : (v : ℕ) → size_of v ≤ 8
size_few v = found_few (found v)

some_bytes : (o : Option (List ℕ)) → 0 < length (bytes_of o) → o ≡ some (bytes_of o)
unfolding bytes_of
some_bytes none h = absurd (omega arith)
some_bytes (some bs) h = refl

pub size_some : (v : ℕ) → 0 < size_of v → written v ≡ some (bytes_of (written v))
size_some v h = some_bytes (written v) h

-- the same from the answer
pub sized_none : (v : ℕ) → None ≡ sized v → written v ≡ none
unfolding length_in
sized_none v e = by (written v) e
  where
    by : (o : Option (List ℕ)) → None ≡ length_in o → o ≡ none
    by none e = refl
    by (some bs) e = let z : ◌≡◌ {A = ℕ} 0 1 = cc in absurd (omega arith)

found_there : {v n : ℕ} {o : Option (List ℕ)} {f : Maybe Form} → Found v o f → Some n ≡ length_in o → (n ≡ length (bytes_of o)) × (0 < n)
unfolding bytes_of length_in
found_there {v} {n} (fits {r = r} s h) e = let l = length_row r v in let q : n ≡ length (in_row r v) = cc in (q, omega arith)
found_there above e = let z : ◌≡◌ {A = ℕ} 0 1 = cc in absurd (omega arith)

pub sized_some : (v : ℕ) {n : ℕ} → Some n ≡ sized v → (n ≡ size_of v) × (0 < n)
sized_some v e = found_there (found v) e

-- a value of the first row is its own byte
pub size_one : (v : ℕ) → v ≤ 63 → size_of v ≡ 1
unfolding written rows in_first bytes_of in_row low
size_one v h = let t = le-leb v 63 h in rw (in_first, t)

bytes_one : (v : ℕ) → v ≤ 63 → bytes_of (written v) ≡ v ∷ []
unfolding written rows in_first bytes_of in_row low
bytes_one v h = let t = le-leb v 63 h in let e : 0 * 64 + v / 256 ^ 0 ≡ v = omega arith in rw (in_first, t) (ap (λ x. x ∷ []) e)

-- ---- its bytes: the eight of v with its mark on top, from the first that counts

-- a form that holds v
pub record Holds (v : ℕ) (f : Form) : Type 0 where
  pub bytes : bytes_of (written v) ≡ (f.mark * 64 + v / 256 ^ (f.size - 1)) ∷ low (f.size - 1) v
  pub size : f.size ≡ size_of v
  pub some : 0 < f.size
  pub few : f.size ≤ 8
  pub mark : f.mark ≤ 3
  pub high : v / 256 ^ (f.size - 1) < 64

found_holds : {v : ℕ} {o : Option (List ℕ)} {m : Maybe Form} {f : Form} → Found v o m → written v ≡ o → Some f ≡ m → Holds v f
unfolding bytes_of in_row
found_holds {v} {f = f} (fits {r = r} s h) e p =
    let t = s.top in
    let l = length_row r v in
    let q : f ≡ form r.mark r.size = cc in
    rw q (record {
      bytes = ap bytes_of e;
      size = rw e (omega (arith, s.some));
      some = s.some;
      few = s.few;
      mark = s.mark;
      high = (div-lt_iff_lt-mul (one-le-pow (r.size - 1) 256 (zero-lt-suc 255))).1 (omega arith);
    })
found_holds above e p = let z : ◌≡◌ {A = ℕ} 0 1 = cc in absurd (omega arith)

pub holds : (v : ℕ) {f : Form} → Some f ≡ form_of v → Holds v f
holds v p = found_holds (found v) refl p

found_form : {v : ℕ} {o : Option (List ℕ)} {m : Maybe Form} → Found v o m → 0 < length (bytes_of o) → IsSome m
unfolding bytes_of
found_form (fits s h) p = refl
found_form above p = absurd (omega arith)

pub form_there : (v : ℕ) → 0 < size_of v → IsSome (form_of v)
form_there v p = found_form (found v) p

found_size_is : {v : ℕ} {o : Option (List ℕ)} {m : Maybe Form} {f : Form} → Found v o m → Some f ≡ m → is_size f.size ≡ true
found_size_is {f = f} (fits {r = r} s h) p = let q : f ≡ form r.mark r.size = cc in rw q s.four
found_size_is above p = let z : ◌≡◌ {A = ℕ} 0 1 = cc in absurd (omega arith)

-- a form of one byte holds no more
pub one_below : (v : ℕ) {f : Form} → Holds v f → f.size ≡ 1 → v ≤ 63
one_below v h e = let t : v / 256 ^ (1 - 1) < 64 = subst (λ n. v / 256 ^ (n - 1) < 64) e h.high in omega arith

-- no form has another size
pub no_other_size : (v : ℕ) {f : Form} → Some f ≡ form_of v → (f.size ≡ 1 → ⊥) → (f.size ≡ 2 → ⊥) → (f.size ≡ 4 → ⊥) → (f.size ≡ 8 → ⊥) → ⊥
unfolding is_size
no_other_size v {f} p a b c d =
    let t = found_size_is (found v) p in
    let e = ne_eqb f.size 1 a in
    let g = ne_eqb f.size 2 b in
    let i = ne_eqb f.size 4 c in
    let j = ne_eqb f.size 8 d in
    let z : ◌≡◌ {A = ℕ} 0 1 = cc in absurd (omega arith)

-- what stands above the k low bytes of v is not seen there
byte_is : (k n : ℕ) → byte_at k n ≡ n / 256 ^ k % 256
byte_is zero n = let e : n / 1 ≡ n = omega arith in rw e
byte_is (suc k) n = refl

over : (v c k d : ℕ) → (v + c * 256 ^ (d + k)) / 256 ^ k ≡ v / 256 ^ k + c * 256 ^ d
over v c k d = rw (pow-add 256 d k, ← mul_assoc c (256 ^ d) (256 ^ k)) (add-mul-div_right v (c * 256 ^ d) (one-le-pow k 256 (zero-lt-suc 255)))

over_self : (v c k : ℕ) → (v + c * 256 ^ k) / 256 ^ k ≡ v / 256 ^ k + c
over_self v c k = add-mul-div_right v c (one-le-pow k 256 (zero-lt-suc 255))

unseen : (v c j k : ℕ) → k < j → (v + c * 256 ^ j) / 256 ^ k % 256 ≡ v / 256 ^ k % 256
unseen v c j k h =
    let e : j ≡ suc (j - suc k) + k = omega arith in
    let d = over v c k (suc (j - suc k)) in
    rw (e, d, pow-suc 256 (j - suc k), ← mul_assoc c (256 ^ (j - suc k)) 256) (add-mul-mod_self_right (v / 256 ^ k) (c * 256 ^ (j - suc k)) 256)

low_seen : (k v c j : ℕ) → k ≤ j → bytes_high_first k (v + c * 256 ^ j) ≡ low k v
unfolding low
low_seen zero v c j h = refl
low_seen (suc k) v c j h = ap (λ b. b ∷ bytes_high_first k (v + c * 256 ^ j)) (byte_is k (v + c * 256 ^ j) ∙ unseen v c j k (omega arith)) ∙ ap (λ bs. (v / 256 ^ k % 256) ∷ bs) (low_seen k v c j (omega arith))

drop_high : (d m k n : ℕ) → m ≡ d + k → drop d (bytes_high_first m n) ≡ bytes_high_first k n
drop_high zero m k n e = let q : m ≡ k = omega arith in rw q
drop_high (suc d) zero k n e = absurd (omega arith)
drop_high (suc d) (suc m) k n e = drop_high d m k n (omega arith)

shift_bytes : (k : ℕ) → 2 ^ (8 * k) ≡ 256 ^ k
shift_bytes zero = refl
shift_bytes (suc k) = let e : 8 * suc k ≡ 8 * k + 8 = omega arith in rw (e, pow-add 2 (8 * k) 8, pow-suc 256 k) (ap (λ n. n * 256) (shift_bytes k))

shift_mark : (m k : ℕ) → m * 2 ^ (8 * suc k - 2) ≡ (m * 64) * 256 ^ k
shift_mark m k = let e : 8 * suc k - 2 ≡ 6 + 8 * k = omega arith in rw (e, pow-add 2 6 (8 * k), shift_bytes k) (sym (mul_assoc m 64 (256 ^ k)))

module _ (v : ℕ) (f : Form) (h : Holds v f) where
  mark_is : f.mark * 2 ^ (8 * f.size - 2) ≡ (f.mark * 64) * 256 ^ (f.size - 1)
  mark_is = let e : f.size ≡ suc (f.size - 1) = omega (arith, h.some) in subst (λ n. f.mark * 2 ^ (8 * n - 2) ≡ (f.mark * 64) * 256 ^ (f.size - 1)) (sym e) (shift_mark f.mark (f.size - 1))

  -- the mark fits on top, and v below it
  bounds : (v + f.mark * 2 ^ (8 * f.size - 2)) < 256 ^ 8
  bounds =
      let k = f.size - 1 in
      let low : v < 64 * 256 ^ k = (div-lt_iff_lt-mul (one-le-pow k 256 (zero-lt-suc 255))).0 h.high in
      let top : (f.mark * 64) * 256 ^ k ≤ 192 * 256 ^ k = mul-le-mul_right (256 ^ k) (omega (arith, h.mark)) in
      let all : 256 ^ k ≤ 256 ^ 7 = pow-le-pow_right (zero-lt-suc 255) {i = k} {j = 7} (omega (arith, h.few)) in
      let m = mark_is in
      omega arith

  pub put_fits : v + f.mark * 2 ^ (8 * f.size - 2) < 2 ^ 64
  put_fits = bounds

  pub mark_whole : f.mark * 2 ^ (8 * f.size - 2) % 2 ^ 64 ≡ f.mark * 2 ^ (8 * f.size - 2)
  mark_whole = mod-eq_of_lt (let b = bounds in omega arith)

  pub put_bytes : drop (8 - f.size) (bytes_high_first 8 (v + f.mark * 2 ^ (8 * f.size - 2))) ≡ bytes_of (written v)
  put_bytes =
      let k = f.size - 1 in
      let c = f.mark * 64 in
      let hi = h.high in
      let m = h.mark in
      let d : drop (8 - f.size) (bytes_high_first 8 (v + c * 256 ^ k)) ≡ bytes_high_first (suc k) (v + c * 256 ^ k) = drop_high (8 - f.size) 8 (suc k) (v + c * 256 ^ k) (omega (arith, h.few, h.some)) in
      let small : v / 256 ^ k + c < 256 = omega arith in
      let swapped : v / 256 ^ k + c ≡ c + v / 256 ^ k = omega arith in
      let top : byte_at k (v + c * 256 ^ k) ≡ c + v / 256 ^ k =
      byte_is k (v + c * 256 ^ k) ∙ ap (λ x. x % 256) (over_self v c k) ∙ mod-eq_of_lt small ∙ swapped in
      ap (λ x. drop (8 - f.size) (bytes_high_first 8 (v + x))) mark_is ∙ d ∙ ap (λ b. b ∷ bytes_high_first k (v + c * 256 ^ k)) top
      ∙ ap (λ bs. (c + v / 256 ^ k) ∷ bs) (low_seen k v c k (omega arith)) ∙ sym h.bytes

-- the room with v itself
pub put_one : (v at : ℕ) (l : List ℕ) → v ≤ 63 → set l at v ≡ sets l at (bytes_of (written v))
put_one v at l h = rw (bytes_one v h) refl

-- the room with the last n of them
pub put_all : (v at n : ℕ) (l eight bytes : List ℕ) (f : Form) → Holds v f → f.size ≡ n → at + n ≤ length l → eight ≡ bytes_high_first 8 (v + f.mark * 2 ^ (8 * f.size - 2) % 2 ^ 64)
    → bytes ≡ take (8 - (8 - n)) (drop (8 - n) eight) → put_mid at (at + n - at) l bytes ≡ sets l at (bytes_of (written v))
put_all v at n l eight bytes f h s w e g =
    let bs = bytes_of (written v) in
    let m = h.size in
    let few = h.few in
    let k : at + n - at ≡ length bs = omega arith in
    let all : 8 - (8 - n) ≡ length bs = omega arith in
    let q : eight ≡ bytes_high_first 8 (v + f.mark * 2 ^ (8 * f.size - 2)) = e ∙ ap (λ x. bytes_high_first 8 (v + x)) (mark_whole v f h) in
    let last : drop (8 - n) (bytes_high_first 8 (v + f.mark * 2 ^ (8 * f.size - 2))) ≡ bs = subst (λ x. drop (8 - x) (bytes_high_first 8 (v + f.mark * 2 ^ (8 * f.size - 2))) ≡ bs) s (put_bytes v f h) in
    let b : bytes ≡ bs = g ∙ ap (λ x. take (8 - (8 - n)) (drop (8 - n) x)) q ∙ ap (take (8 - (8 - n))) last ∙ ap (λ x. take x bs) all ∙ take-length bs in
    rw (b, k) (
    sym (take-append-drop (at + length bs) (put_mid at (length bs) l bs))
    ∙ ap (λ x. x ++ drop (at + length bs) (put_mid at (length bs) l bs)) (take-put_mid at (length bs) l bs (at + length bs) refl (omega arith))
    ∙ ap (λ x. (take at l ++ bs) ++ x) (drop-put_mid at (length bs) l bs (at + length bs) (omega arith) (omega arith) refl)
    ∙ sym (sets-eq bs l at (omega arith)))
