-- The checks of document 01 in its order, the reason of each, and the lowest that is broken. Assumes nothing.
use Rattle.std.specs.Prelude.{ℕ, zero, suc, ◌<◌, ◌≤◌, ◌≡◌, refl, List, [], ◌∷◌, Bool, true, false, cond, ◌||◌, ◌&&◌, ltb, eqb, length, get_or}
use Rattle.std.proofs.Common.{sym, ap, ◌∙◌, arith, eqb→eq, lt-ltb}
use Rattle.std.proofs.Math.Option.{Option, none, some}
use Rattle.std.proofs.Math.Dec.{leb-suc-zero, leb-suc-suc}
use Rattle.std.specs.Prelude.{Option as Maybe, Some, None}
use Rattle.std.proofs.Common.{ltb-false, ltb-true}
use Rattle.std.proofs.Math.Dec.{lit<}
use Rattle.fields.specs.Table.{each_from, each_at}
use Rattle.rules.specs.Named.{reason_of, reason_named, reason_back}
use Rattle.rules.specs.declared.reasons.Reason.{Reason as NamedReason}
use Rattle.rules.specs.declared.reasons.Reason.TheVariants as reason
use Rattle.rules.specs.Section.{Reason, reason_number, Check, size_check, bytes_check, unknown_check, repeated_check, late_check, in_trailers_check, connection_check, te_check, method_check, no_method_check, repeated_length_check, length_in_trailers_check, digits_check, length_above_check, repeated_host_check, connect_check, present_check, scheme_check, path_check, authority_check, empty_check, differ_check, at_check, length_check, upload_check}

-- of header sections and of trailers, in one list
unfoldable pub checks : List Check
checks =
    size_check
    ∷ bytes_check
    ∷ unknown_check ∷ repeated_check ∷ late_check ∷ in_trailers_check
    ∷ connection_check ∷ te_check
    ∷ method_check ∷ no_method_check
    ∷ repeated_length_check ∷ length_in_trailers_check ∷ digits_check ∷ length_above_check
    ∷ repeated_host_check
    ∷ connect_check
    ∷ present_check
    ∷ scheme_check
    ∷ path_check
    ∷ authority_check ∷ empty_check ∷ differ_check ∷ at_check
    ∷ length_check
    ∷ upload_check
    ∷ []

-- no check is broken: past the last
abbrev pub unbroken : ℕ
unbroken = 25

-- the reason that a number names; of a number past the last, the first
unfoldable pub reason_at : ℕ → Reason
reason_at n = (get_or checks n size_check).reason

-- ---- the lowest of a row of tests

unfoldable pub lowest : List Bool → ℕ
lowest [] = 0
lowest (t ∷ ts) = cond t 0 (suc (lowest ts))

-- with one more
abbrev lower_number : (first check : ℕ) (broken : Bool) → ℕ
lower_number n i t = cond (t && ltb i n) i n

unfoldable pub put : ℕ → Bool → List Bool → List Bool
put i t [] = []
put zero t (b ∷ bs) = (t || b) ∷ bs
put (suc i) t (b ∷ bs) = b ∷ put i t bs

put_is : (i : ℕ) (t : Bool) (bs : List Bool) → i < length bs → lower_number (lowest bs) i t ≡ lowest (put i t bs)
unfolding lowest put
put_is i t [] h = absurd (omega arith)
put_is zero true (true ∷ bs) h = refl
put_is zero true (false ∷ bs) h = ap (λ u. cond u 0 (suc (lowest bs))) (lt-ltb 0 (suc (lowest bs)) (omega arith))
put_is zero false (b ∷ bs) h = refl
put_is (suc i) t (true ∷ bs) h = go t
  where
    go : (t : Bool) → lower_number 0 (suc i) t ≡ 0
    go true = ap (λ u. cond u (suc i) 0) (leb-suc-zero (suc i))
    go false = refl
put_is (suc i) t (false ∷ bs) h = go t (lowest bs) ∙ ap suc (put_is i t bs (omega arith))
  where
    go : (t : Bool) (m : ℕ) → lower_number (suc m) (suc i) t ≡ suc (lower_number m i t)
    go false m = refl
    go true m = ap (λ u. cond u (suc i) (suc m)) (leb-suc-suc (suc i) m) ∙ by (ltb i m)
      where
        by : (u : Bool) → cond u (suc i) (suc m) ≡ suc (cond u i m)
        by true = refl
        by false = refl

-- a test in the place of one that said no
unfoldable pub fill : ℕ → Bool → List Bool → List Bool
fill i t [] = []
fill zero t (b ∷ bs) = t ∷ bs
fill (suc i) t (b ∷ bs) = b ∷ fill i t bs

fill_is : (i : ℕ) (t : Bool) (bs : List Bool) → get_or bs i true ≡ false → put i t bs ≡ fill i t bs
unfolding put fill
fill_is i t [] e = refl
fill_is zero t (b ∷ bs) e = ap (λ u. u ∷ bs) (ap (λ u. t || u) e ∙ go t)
  where
    go : (t : Bool) → (t || false) ≡ t
    go true = refl
    go false = refl
fill_is (suc i) t (b ∷ bs) e = ap (λ u. b ∷ u) (fill_is i t bs e)

-- ---- what a number says

unfoldable pub told : List Check → ℕ → Option Reason
told [] n = none
told (c ∷ cs) zero = some c.reason
told (c ∷ cs) (suc n) = told cs n

-- the first that is broken, by a row of what each says
unfoldable pub first_in : List Check → List Bool → Option Reason
first_in [] bs = none
first_in (c ∷ cs) [] = none
first_in (c ∷ cs) (b ∷ bs) = elim b [ true ↦ some c.reason | false ↦ first_in cs bs ]

pub first_told : (cs : List Check) (bs : List Bool) → length cs ≡ length bs → first_in cs bs ≡ told cs (lowest bs)
unfolding first_in told lowest
first_told [] bs e = refl
first_told (c ∷ cs) [] e = absurd (omega arith)
first_told (c ∷ cs) (true ∷ bs) e = refl
first_told (c ∷ cs) (false ∷ bs) e = first_told cs bs (omega arith)

told_in : (cs : List Check) (n : ℕ) (d : Check) → n < length cs → told cs n ≡ some (get_or cs n d).reason
unfolding told
told_in [] n d h = absurd (omega arith)
told_in (c ∷ cs) zero d h = refl
told_in (c ∷ cs) (suc n) d h = told_in cs n d (omega arith)

told_out : (cs : List Check) (n : ℕ) → length cs ≤ n → told cs n ≡ none
unfolding told
told_out [] n h = refl
told_out (c ∷ cs) zero h = absurd (omega arith)
told_out (c ∷ cs) (suc n) h = told_out cs n (omega arith)

in_told : (cs : List Check) (n : ℕ) (d : Check) (r : Reason) → told cs n ≡ some r → (n < length cs) × ((get_or cs n d).reason ≡ r)
unfolding told
in_told [] n d r e = let z : ◌≡◌ {A = ℕ} 0 1 = cc in absurd (omega arith)
in_told (c ∷ cs) zero d r e = (omega arith, cc)
in_told (c ∷ cs) (suc n) d r e = let h = in_told cs n d r e in (omega (arith, h.0), h.1)

pub told_reason : (n : ℕ) → n < unbroken → told checks n ≡ some (reason_at n)
unfolding reason_at checks
told_reason n h = told_in checks n size_check h

pub told_none : (n : ℕ) → unbroken ≤ n → told checks n ≡ none
unfolding checks
told_none n h = told_out checks n h

-- each check is in its reason's place, by one test of them all
pub number_at : (n : ℕ) → n < unbroken → reason_number (reason_at n) ≡ n
unfolding each_from reason_at checks size_check bytes_check unknown_check repeated_check late_check in_trailers_check connection_check te_check method_check no_method_check repeated_length_check length_in_trailers_check digits_check length_above_check repeated_host_check connect_check present_check scheme_check path_check authority_check empty_check differ_check at_check length_check upload_check
number_at n h = eqb→eq _ n (each_at (λ k c. eqb (reason_number c.reason) k) size_check checks tt n (λ past. absurd (omega arith)))

-- so the number of a reason that is told names it
pub told_back : (n : ℕ) (r : Reason) → told checks n ≡ some r → reason_at (reason_number r) ≡ r
unfolding reason_at checks
told_back n r e =
    let h = in_told checks n size_check r e in
    ap (λ x. reason_at (reason_number x)) (sym h.1) ∙ ap reason_at (number_at n h.0) ∙ h.1

-- ---- the lowest broken check, as the code has it: the reason's name, or none

abbrev pub number_of : NamedReason → ℕ
number_of r = reason_number (reason_of r)

abbrev name_found : Option Reason → Maybe NamedReason
name_found none = None
name_found (some r) = Some (reason_named r)

unfoldable pub found : ℕ → Maybe NamedReason
found n = name_found (told checks n)

abbrev sooner : NamedReason → Maybe NamedReason → Bool
sooner i None = true
sooner i (Some r) = ltb (number_of i) (number_of r)

-- with one more
abbrev pub lower_of : (first : Maybe NamedReason) (check : NamedReason) (broken : Bool) → Maybe NamedReason
lower_of n i t = cond (t && sooner i n) (Some i) n

small : (r : NamedReason) → number_of r < unbroken
small reason.TooLarge = lit< tt
small reason.BadBytes = lit< tt
small reason.UnknownPseudo = lit< tt
small reason.RepeatedPseudo = lit< tt
small reason.LatePseudo = lit< tt
small reason.PseudoInTrailers = lit< tt
small reason.ConnectionField = lit< tt
small reason.OtherTe = lit< tt
small reason.BadMethod = lit< tt
small reason.NoMethod = lit< tt
small reason.RepeatedLength = lit< tt
small reason.LengthInTrailers = lit< tt
small reason.NoDigits = lit< tt
small reason.LengthAbove = lit< tt
small reason.RepeatedHost = lit< tt
small reason.Connect = lit< tt
small reason.NoSchemeOrPath = lit< tt
small reason.OtherScheme = lit< tt
small reason.BadPath = lit< tt
small reason.NoAuthority = lit< tt
small reason.EmptyAuthority = lit< tt
small reason.AuthoritiesDiffer = lit< tt
small reason.AtInAuthority = lit< tt
small reason.LengthPastLimit = lit< tt
small reason.NoLength = lit< tt

found_own : (r : NamedReason) → found (number_of r) ≡ Some r
unfolding found told checks size_check bytes_check unknown_check repeated_check late_check in_trailers_check connection_check te_check method_check no_method_check repeated_length_check length_in_trailers_check digits_check length_above_check repeated_host_check connect_check present_check scheme_check path_check authority_check empty_check differ_check at_check length_check upload_check
found_own reason.TooLarge = refl
found_own reason.BadBytes = refl
found_own reason.UnknownPseudo = refl
found_own reason.RepeatedPseudo = refl
found_own reason.LatePseudo = refl
found_own reason.PseudoInTrailers = refl
found_own reason.ConnectionField = refl
found_own reason.OtherTe = refl
found_own reason.BadMethod = refl
found_own reason.NoMethod = refl
found_own reason.RepeatedLength = refl
found_own reason.LengthInTrailers = refl
found_own reason.NoDigits = refl
found_own reason.LengthAbove = refl
found_own reason.RepeatedHost = refl
found_own reason.Connect = refl
found_own reason.NoSchemeOrPath = refl
found_own reason.OtherScheme = refl
found_own reason.BadPath = refl
found_own reason.NoAuthority = refl
found_own reason.EmptyAuthority = refl
found_own reason.AuthoritiesDiffer = refl
found_own reason.AtInAuthority = refl
found_own reason.LengthPastLimit = refl
found_own reason.NoLength = refl

found_in : (n : ℕ) → n < unbroken → found n ≡ Some (reason_named (reason_at n))
unfolding found
found_in n h = ap name_found (told_reason n h)

found_out : (n : ℕ) → unbroken ≤ n → found n ≡ None
unfolding found
found_out n h = ap name_found (told_none n h)

sooner_is : (i : NamedReason) (n : ℕ) → sooner i (found n) ≡ ltb (number_of i) n
sooner_is i n = go (ltb n unbroken) refl
  where
    go : (t : Bool) → ltb n unbroken ≡ t → sooner i (found n) ≡ ltb (number_of i) n
    go true e =
        let h = ltb-true n unbroken e in
        ap (sooner i) (found_in n h) ∙ ap (λ r. ltb (number_of i) (reason_number r)) (reason_back (reason_at n)) ∙ ap (ltb (number_of i)) (number_at n h)
    go false e =
        let h = ltb-false n unbroken e in
        let l = small i in
        ap (sooner i) (found_out n h) ∙ sym (lt-ltb (number_of i) n (omega arith))

found_lower : (n : ℕ) (i : NamedReason) (t : Bool) → lower_of (found n) i t ≡ found (lower_number n (number_of i) t)
found_lower n i false = refl
found_lower n i true = ap (λ t. cond t (Some i) (found n)) (sooner_is i n) ∙ go (ltb (number_of i) n)
  where
    go : (t : Bool) → cond t (Some i) (found n) ≡ found (cond t (number_of i) n)
    go true = sym (found_own i)
    go false = refl

pub push : {n : Maybe NamedReason} (bs : List Bool) (i : NamedReason) (u : Bool) {t : Bool} → n ≡ found (lowest bs) → number_of i < length bs → t ≡ u
    → lower_of n i t ≡ found (lowest (put (number_of i) u bs))
push bs i u {t} e h f =
    ap (λ m. lower_of m i t) e ∙ ap (λ v. lower_of (found (lowest bs)) i v) f ∙ found_lower (lowest bs) i u ∙ ap found (put_is (number_of i) u bs h)

-- one check more, whose place was free
pub and_then : {n : Maybe NamedReason} (bs : List Bool) (i : NamedReason) (u : Bool) {t : Bool} → n ≡ found (lowest bs) → number_of i < length bs
    → get_or bs (number_of i) true ≡ false → t ≡ u → lower_of n i t ≡ found (lowest (fill (number_of i) u bs))
and_then bs i u e h free f = push bs i u e h f ∙ ap (λ x. found (lowest x)) (fill_is (number_of i) u bs free)

-- what is found is what is told
pub found_some : (n : ℕ) (r : NamedReason) → Some r ≡ found n → (told checks n ≡ some (reason_of r)) × (reason_named (reason_of r) ≡ r)
unfolding found
found_some n r = go (told checks n)
  where
    go : (o : Option Reason) → Some r ≡ name_found o → (o ≡ some (reason_of r)) × (reason_named (reason_of r) ≡ r)
    go none e = let z : ◌≡◌ {A = ℕ} 0 1 = cc in absurd (omega arith)
    go (some x) e =
        let a : r ≡ reason_named x = cc in
        let b : x ≡ reason_of r = sym (ap reason_of a ∙ reason_back x) in
        (ap some b, ap reason_named (sym b) ∙ sym a)

pub found_none : (n : ℕ) → None ≡ found n → told checks n ≡ none
unfolding found
found_none n = go (told checks n)
  where
    go : (o : Option Reason) → None ≡ name_found o → o ≡ none
    go none e = refl
    go (some x) e = let z : ◌≡◌ {A = ℕ} 0 1 = cc in absurd (omega arith)
