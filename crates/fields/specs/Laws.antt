-- Laws of the rules' words on lists of bytes, and what they are in std's words. Assumes nothing.
use Rattle.std.specs.Prelude.{ℕ, suc, ◌+◌, ◌-◌, ◌≤◌, ◌<◌, ◌≡◌, Bool, ◌||◌, ◌&&◌, eqb, length, drop, get_or}
use Rattle.std.proofs.Math.Path.{refl, ap}
use Rattle.std.proofs.Common.{sym, ◌∙◌, add-one, arith, drop-cons}
use Rattle.std.proofs.Math.Bool.{true, false, not}
use mathlib.Core.List.{List, [], ◌∷◌}
use Rattle.std.proofs.Math.Numerals.{sub-one}
use Rattle.std.proofs.Math.Dec.{eqb-suc-zero}
use Rattle.std.specs.Prelude as std
use Rattle.std.specs.List.{list_all, list_any, zip}
use Rattle.std.specs.Option.{option_eq, option_copied}
use denote.Ref.{Bor}
use Rattle.std.proofs.lemmas.Option.{none-some}
use borrow.Author.Tests.{eqb-true, eqb-false, eq-eqb, ne_eqb}
use Rattle.rules.specs.Text.{any, all, same}
use Rattle.rules.specs.Section.{is_empty, begins, ends}

-- the bytes from a place on are the byte there and those behind it
pub from_here : (v : List ℕ) (i : ℕ) → i < length v → drop i v ≡ get_or v i 0 ∷ drop (i + 1) v
from_here v i h = rw (add-one) (drop-cons v i 0 h)

module _ (test : ℕ → Bool) where
  pub all_by_any : (v : List ℕ) → all test v ≡ not (any (λ b. not (test b)) v)
  unfolding all any
  all_by_any [] = refl
  all_by_any (b ∷ v) = go (test b) (all_by_any v)
    where
      go : (t : Bool) → all test v ≡ not (any (λ b. not (test b)) v) → (t && all test v) ≡ not (not t || any (λ b. not (test b)) v)
      go true e = e
      go false e = refl

  pub begins_first : (v : List ℕ) → (length v ≡ 0 → ⊥) → begins test v ≡ test (get_or v 0 0)
  unfolding begins
  begins_first [] h = absurd (h refl)
  begins_first (b ∷ v) h = refl

  pub begins_none : (v : List ℕ) → length v ≡ 0 → begins test v ≡ false
  unfolding begins
  begins_none [] e = refl
  begins_none (b ∷ v) e = absurd (omega arith)

  pub ends_last : (v : List ℕ) → (length v ≡ 0 → ⊥) → ends test v ≡ test (get_or v (length v - 1) 0)
  unfolding ends
  ends_last [] h = absurd (h refl)
  ends_last (b ∷ []) h = refl
  ends_last (b ∷ d ∷ v) h = rw sub-one (ends_last (d ∷ v) (λ e. omega arith) ∙ rw sub-one refl)

  pub ends_none : (v : List ℕ) → length v ≡ 0 → ends test v ≡ false
  unfolding ends
  ends_none [] e = refl
  ends_none (b ∷ v) e = absurd (omega arith)

pub empty_is : (v : List ℕ) → is_empty v ≡ eqb (length v) 0
unfolding is_empty
empty_is [] = refl
empty_is (b ∷ v) = sym (eqb-suc-zero (length v))

-- ---- std's words

swapped : (a b : ℕ) → eqb a b ≡ eqb b a
swapped a b = go (eqb a b) refl
  where
    go : (t : Bool) → eqb a b ≡ t → eqb a b ≡ eqb b a
    go true e = e ∙ sym (eq-eqb b a (sym (eqb-true a b e)))
    go false e = e ∙ sym (ne_eqb b a (λ q. eqb-false a b e (sym q)))

pub any_is : (b : ℕ) (v : List ℕ) → list_any (λ y. eqb y b) v ≡ any (eqb b) v
unfolding any
any_is b [] = refl
any_is b (y ∷ v) = simp (swapped y b, any_is b v)

-- of lists of one length, pair by pair
pub same_is : (a b : List ℕ) → length a ≡ length b → list_all (λ p. eqb p.0 p.1) (zip a b) ≡ same a b
unfolding same
same_is [] [] e = refl
same_is [] (y ∷ b) e = absurd (omega arith)
same_is (x ∷ a) [] e = absurd (omega arith)
same_is (x ∷ a) (y ∷ b) e = ap (λ t. eqb x y && t) (same_is a b (omega arith))

pub unlike : (a b : List ℕ) → (length a ≡ length b → ⊥) → same a b ≡ false
unfolding same
unlike [] [] h = absurd (h refl)
unlike [] (y ∷ b) h = refl
unlike (x ∷ a) [] h = refl
unlike (x ∷ a) (y ∷ b) h = ap (λ t. eqb x y && t) (unlike a b (λ e. h (omega arith))) ∙ go (eqb x y)
  where
    go : (t : Bool) → (t && false) ≡ false
    go true = refl
    go false = refl

pub begins_is : (b : ℕ) (k : Bor ℕ) (v : List ℕ) (o : std.Option (Bor ℕ)) → k.now ≡ b → option_copied o ≡ std.slice_get v 0
    → option_eq (λ x y. eqb x.now y.now) o (std.Some k) ≡ begins (eqb b) v
unfolding begins
begins_is b k [] std.None p e = refl
begins_is b k [] (std.Some x) p e = absurd (none-some _ (sym e))
begins_is b k (y ∷ v) std.None p e = absurd (none-some _ e)
begins_is b k (y ∷ v) (std.Some x) p e = let q : x.now ≡ y = cc in simp (p, q) (swapped y b)
