-- A number held below 2^62: the code's numbers are of 64 bits, and a row of digits has any length, and so have the lines of a section. Assumes nothing.
use Rattle.std.specs.Prelude.{ℕ, min, ◌+◌, ◌-◌, ◌*◌, ◌≤◌, ◌<◌, ◌^◌, ◌≡◌, refl, Bool, true, false, cond, List, [], ◌∷◌, ltb}
use Rattle.std.proofs.Common.{sym, ap, ◌∙◌, arith, lt-ltb, le-ltb, ltb-true, ltb-false}
use Rattle.std.specs.List.{fold}
use Rattle.rules.specs.Section.{decimal_from}

-- 2^62 means every number above 2^62-1
unfoldable pub capped : ℕ → ℕ
capped n = cond (ltb n (2 ^ 62)) n (2 ^ 62)

pub capped_below : (n : ℕ) → n < 2 ^ 62 → capped n ≡ n
unfolding capped
capped_below n h = simp (lt-ltb n (2 ^ 62) h)

pub capped_above : (n : ℕ) → 2 ^ 62 ≤ n → capped n ≡ 2 ^ 62
unfolding capped
capped_above n h = simp (le-ltb n (2 ^ 62) h)

-- what is capped once stays as it is
pub capped_self : (n : ℕ) → n ≤ 2 ^ 62 → capped n ≡ n
capped_self n h = go (ltb n (2 ^ 62)) refl
  where
    go : (t : Bool) → ltb n (2 ^ 62) ≡ t → capped n ≡ n
    go true e = capped_below n (ltb-true n (2 ^ 62) e)
    go false e = let f = ltb-false n (2 ^ 62) e in capped_above n f ∙ omega arith

pub capped_le : (n : ℕ) → capped n ≤ 2 ^ 62
capped_le n = go (ltb n (2 ^ 62)) refl
  where
    go : (t : Bool) → ltb n (2 ^ 62) ≡ t → capped n ≤ 2 ^ 62
    go true e = omega (arith, capped_below n (ltb-true n (2 ^ 62) e), ltb-true n (2 ^ 62) e)
    go false e = omega (arith, capped_above n (ltb-false n (2 ^ 62) e))

-- and so in a sum
pub capped_plus : (a b : ℕ) → capped (capped a + b) ≡ capped (a + b)
capped_plus a b = go (ltb a (2 ^ 62)) refl
  where
    go : (t : Bool) → ltb a (2 ^ 62) ≡ t → capped (capped a + b) ≡ capped (a + b)
    go true e = ap (λ (m : ℕ). capped (m + b)) (capped_below a (ltb-true a (2 ^ 62) e))
    go false e =
        let f = ltb-false a (2 ^ 62) e in
        capped_above _ (omega (arith, capped_above a f)) ∙ sym (capped_above _ (omega arith))

grows : (n : ℕ) (v : List ℕ) → n ≤ decimal_from n v
unfolding decimal_from
grows n [] = omega arith
grows n (d ∷ v) = omega (arith, grows (n * 10 + (d - 0x30)) v)

-- capping on the way changes nothing in the end
pub capped_on : (n : ℕ) (v : List ℕ) → capped (decimal_from (capped n) v) ≡ capped (decimal_from n v)
capped_on n v = go (ltb n (2 ^ 62)) refl
  where
    go : (t : Bool) → ltb n (2 ^ 62) ≡ t → capped (decimal_from (capped n) v) ≡ capped (decimal_from n v)
    go true e = ap (λ (m : ℕ). capped (decimal_from m v)) (capped_below n (ltb-true n (2 ^ 62) e))
    go false e =
        let f = ltb-false n (2 ^ 62) e in
        capped_above _ (omega (arith, grows (capped n) v, capped_above n f)) ∙ sym (capped_above _ (omega (arith, grows n v)))

-- by a fold, capped at each digit
pub capped_fold : (n : ℕ) (v : List ℕ) → n ≤ 2 ^ 62 → fold (λ total b. capped (total * 10 + (b - 0x30))) n v ≡ capped (decimal_from n v)
unfolding decimal_from
capped_fold n [] h = sym (capped_self n h)
capped_fold n (b ∷ v) h = capped_fold (capped (n * 10 + (b - 0x30))) v (capped_le _) ∙ capped_on (n * 10 + (b - 0x30)) v

pub capped_min : (n : ℕ) → min n (2 ^ 62) ≡ capped n
capped_min n = go (ltb n (2 ^ 62)) refl
  where
    go : (t : Bool) → ltb n (2 ^ 62) ≡ t → min n (2 ^ 62) ≡ capped n
    go true e = omega (arith, capped_below n (ltb-true n (2 ^ 62) e), ltb-true n (2 ^ 62) e)
    go false e = omega (arith, capped_above n (ltb-false n (2 ^ 62) e), ltb-false n (2 ^ 62) e)

-- a limit below 2^62 is passed by the one where it is passed by the other
pub past : (limit n : ℕ) → limit < 2 ^ 62 → ltb limit (capped n) ≡ ltb limit n
past limit n h = go (ltb n (2 ^ 62)) refl
  where
    go : (t : Bool) → ltb n (2 ^ 62) ≡ t → ltb limit (capped n) ≡ ltb limit n
    go true e = ap (ltb limit) (capped_below n (ltb-true n (2 ^ 62) e))
    go false e =
        let f = ltb-false n (2 ^ 62) e in
        lt-ltb limit (capped n) (omega (arith, capped_above n f)) ∙ sym (lt-ltb limit n (omega arith))
