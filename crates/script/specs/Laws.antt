-- Words read digit by digit. Assumes nothing.
use Rattle.std.specs.Prelude.{ℕ, suc, ◌+◌, ◌*◌, ◌-◌, ◌≤◌, ◌<◌, ◌/◌, ◌%◌, ◌≡◌, refl, List, [], ◌∷◌, ◌++◌, length, take, drop, get_or, set}
use Rattle.std.proofs.Common.{ap, sym, ◌∙◌, add-one, arith, length-drop, take-suc, take-suc-set, get_or-drop, lt-ltb, le-ltb}
use Rattle.std.proofs.Math.Seq.{take-length}
use Rattle.listing.specs.Text.{decimal}
use Rattle.listing.specs.Put.{one_digit, last_digit}
use Rattle.script.specs.Words.{hex_digit, hexes, hex_word, between}

-- ---- digits

pub low_half : (x : ℕ) → x < 58 → 48 ≤ x → x ≡ hex_digit (x - 48)
unfolding hex_digit
low_half x h g = let e = lt-ltb (x - 48) 10 (omega arith) in rw (e, hex_digit) (omega arith)

pub high_half : (x : ℕ) → 97 ≤ x → x ≡ hex_digit (x - 87)
unfolding hex_digit
high_half x h = let e = le-ltb (x - 87) 10 (omega arith) in rw (e, hex_digit) (omega arith)

-- ---- a word, one byte longer

pub one_more : (s : List ℕ) (at i : ℕ) → at ≤ i → i < length s → between s at (i + 1) ≡ between s at i ++ (get_or s i 0 ∷ [])
one_more s at i h g =
    let l = length-drop at s in
    let e : i + 1 - at ≡ suc (i - at) = omega arith in
    let f : at + (i - at) ≡ i = omega arith in
    rw e (take-suc (drop at s) (i - at) 0 (omega arith) ∙ ap (λ x. take (i - at) (drop at s) ++ (x ∷ [])) (get_or-drop at s (i - at) 0 ∙ ap (λ j. get_or s j 0) f))

-- the bytes from a place on, as a slice of them has them
pub rest : (s : List ℕ) (n : ℕ) → take (length s - n) (drop n s) ≡ drop n s
rest s n = ap (λ k. take k (drop n s)) (sym (length-drop n s)) ∙ take-length (drop n s)

pub rest_length : (s : List ℕ) (n : ℕ) → length (take (length s - n) (drop n s)) ≡ length s - n
rest_length s n = ap length (rest s n) ∙ length-drop n s

pub rest_byte : (s : List ℕ) (n i : ℕ) → get_or (take (length s - n) (drop n s)) i 0 ≡ get_or s (n + i) 0
rest_byte s n i = ap (λ (l : List ℕ). get_or l i 0) (rest s n) ∙ get_or-drop n s i 0

-- ---- numbers

decimal_more : (v d : ℕ) → 0 < v → d < 10 → decimal (v * 10 + d) ≡ decimal v ++ ((48 + d) ∷ [])
decimal_more v d h g =
    let q : (v * 10 + d) / 10 ≡ v = omega arith in
    let r : (v * 10 + d) % 10 ≡ d = omega arith in
    let e = last_digit (v * 10 + d) (omega arith) in
    rw (q, r) at e

pub first_digit : (s : List ℕ) (at d : ℕ) → at < length s → d < 10 → get_or s at 0 ≡ 48 + d → between s at (at + 1) ≡ decimal d
first_digit s at d h g e =
    let z : at - at ≡ 0 = omega arith in
    one_more s at at (omega arith) h ∙ rw (z, e) (sym (one_digit d g))

pub next_digit : (s : List ℕ) (at i v d : ℕ) → at ≤ i → i < length s → 0 < v → d < 10 → get_or s i 0 ≡ 48 + d → between s at i ≡ decimal v → between s at (i + 1) ≡ decimal (v * 10 + d)
next_digit s at i v d h g p q e w = one_more s at i h g ∙ rw (e, w) (sym (decimal_more v d p q))

-- ---- bytes

hexes_more : (xs : List ℕ) (h l : ℕ) → l < 16 → hexes (xs ++ ((16 * h + l) ∷ [])) ≡ (hexes xs ++ (hex_digit h ∷ [])) ++ (hex_digit l ∷ [])
unfolding hexes
hexes_more [] h l p =
    let q : (16 * h + l) / 16 ≡ h = omega arith in
    let r : (16 * h + l) % 16 ≡ l = omega arith in
    rw (q, r) refl
hexes_more (x ∷ xs) h l p = ap (λ ys. hex_digit (x / 16) ∷ hex_digit (x % 16) ∷ ys) (hexes_more xs h l p)

pub next_byte : (s : List ℕ) (at i n h l : ℕ) (room : List ℕ) → at ≤ i → i + 1 < length s → l < 16 → n < length room → get_or s i 0 ≡ hex_digit h → get_or s (i + 1) 0 ≡ hex_digit l
    → between s at i ≡ hexes (take n room) → between s at (i + 2) ≡ hexes (take (n + 1) (set room n (16 * h + l)))
next_byte s at i n h l room a b p f e g w =
    let two : i + 2 ≡ (i + 1) + 1 = omega arith in
    rw (two, one_more s at (i + 1) (omega arith) b, one_more s at i a (omega arith), e, g, w, add-one n, take-suc-set room n (16 * h + l) f) (sym (hexes_more (take n room) h l p))

-- at least one byte
pub some_bytes : (xs : List ℕ) (w : List ℕ) → 0 < length xs → w ≡ hexes xs → w ≡ hex_word xs
unfolding hex_word
some_bytes [] w h e = absurd (omega arith)
some_bytes (x ∷ xs) w h e = e

pub no_bytes : (s : List ℕ) (at : ℕ) → between s at at ≡ hexes []
unfolding hexes
no_bytes s at = let z : at - at ≡ 0 = omega arith in rw z refl

pub dash : (s : List ℕ) (at : ℕ) → at < length s → get_or s at 0 ≡ 45 → between s at (at + 1) ≡ hex_word []
unfolding hex_word
dash s at h e = let z : at - at ≡ 0 = omega arith in one_more s at at (omega arith) h ∙ rw (z, e) refl
