-- A rule proved at all entries of a list by one test that is computed; and so that of the table of byte classes. Assumes nothing.
use Prim.Native.Nat.{ℕ, zero, suc, ◌+◌, ◌≤◌, ◌<◌}
use Rattle.std.specs.Prelude.{◌≡◌, refl, Bool, true, false, not, ◌&&◌, eqb, length, get_or}
use Rattle.std.proofs.Common.{◌∙◌, add-zero, zero-add, add-suc, arith, eqb→eq}
use Rattle.std.proofs.Math.Path.{subst, sym}
use Rattle.std.specs.Bool.{beq}
use mathlib.Core.List.{List, [], ◌∷◌}
use Rattle.std.proofs.Math.Nat.{suc-add}
use Rattle.std.proofs.Math.Dec.{T}
use Rattle.std.specs.Int.Bits.{bit_and}
use Rattle.fields.specs.declared.Class.{Class}
use Rattle.fields.specs.declared.Class.TheVariants.{Name, Token, Value, Digit}
use Rattle.fields.specs.Bytes.{is_in, mask_of}

and_left : (a b : Bool) → T (a && b) → T a
and_left true b t = tt
and_left false b t = t

and_right : (a b : Bool) → T (a && b) → T b
and_right true b t = t
and_right false b t = absurd t

same_bool : (a b : Bool) → T (beq a b) → a ≡ b
same_bool true true t = refl
same_bool true false t = absurd t
same_bool false true t = absurd t
same_bool false false t = refl

-- what an entry says of a class
abbrev pub marked : (entry : ℕ) → Class → Bool
marked x c = not (eqb (bit_and x (mask_of c)) 0)

abbrev agrees : (byte entry : ℕ) → Class → Bool
agrees k x c = beq (marked x c) (is_in c k)

-- the entry of a byte is right in every class
unfoldable pub right : (byte entry : ℕ) → Bool
right k x = agrees k x Name && (agrees k x Token && (agrees k x Value && agrees k x Digit))

pub right_in : (k x : ℕ) → T (right k x) → (c : Class) → marked x c ≡ is_in c k
unfolding right
right_in k x t Name = same_bool _ _ (and_left (agrees k x Name) _ t)
right_in k x t Token = same_bool _ _ (and_left (agrees k x Token) _ (and_right (agrees k x Name) _ t))
right_in k x t Value = same_bool _ _ (and_left (agrees k x Value) _ (and_right (agrees k x Token) _ (and_right (agrees k x Name) _ t)))
right_in k x t Digit = same_bool _ _ (and_right (agrees k x Value) _ (and_right (agrees k x Token) _ (and_right (agrees k x Name) _ t)))

-- a test passes at each place of a list, counted from k
unfoldable pub each_from : {A : Type 0} → (ℕ → A → Bool) → ℕ → List A → Bool
each_from test k [] = true
each_from test k (x ∷ xs) = test k x && each_from test (suc k) xs

-- the one test of the table: 256 entries, each right
unfoldable pub all_right : List ℕ → Bool
all_right xs = eqb (length xs) 256 && each_from right 0 xs

module _ {A : Type 0} (test : ℕ → A → Bool) (d : A) where
  from : (xs : List A) (k : ℕ) → T (each_from test k xs) → (i : ℕ) → (length xs ≤ i → T (test (k + i) d)) → T (test (k + i) (get_or xs i d))
  unfolding each_from
  from [] k t i h = h (omega arith)
  from (x ∷ xs) k t zero h = subst (λ (m : ℕ). T (test m x)) (sym (add-zero k)) (and_left (test k x) _ t)
  from (x ∷ xs) k t (suc i) h =
      let e : suc k + i ≡ k + suc i = suc-add k i ∙ sym (add-suc k i) in
      subst (λ (m : ℕ). T (test m (get_or xs i d))) e
      (from xs (suc k) (and_right (test k x) _ t) i (λ past. subst (λ (m : ℕ). T (test m d)) (sym e) (h (omega arith))))

  -- then it passes at each number, if past the list it passes the default
  pub each_at : (xs : List A) → T (each_from test 0 xs) → (i : ℕ) → (length xs ≤ i → T (test i d)) → T (test i (get_or xs i d))
  each_at xs t i h = subst (λ (m : ℕ). T (test m (get_or xs i d))) (zero-add i) (from xs 0 t i (λ past. subst (λ (m : ℕ). T (test m d)) (sym (zero-add i)) (h past)))

-- a table that passes the test is right at each byte
pub right_at : (xs : List ℕ) → T (all_right xs) → (b : ℕ) → b < 256 → T (right b (get_or xs b 0))
unfolding all_right
right_at xs t b h =
    let long : length xs ≡ 256 = eqb→eq (length xs) 256 (and_left (eqb (length xs) 256) _ t) in
    each_at right 0 xs (and_right (eqb (length xs) 256) _ t) b (λ past. absurd (omega arith))
