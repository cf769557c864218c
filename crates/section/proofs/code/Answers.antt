-- `section::code` meets its contract: four of the numbers have the one code, and any other the other. Assumes nothing.
use Prim.Native.Nat.{ℕ, ◌≤◌}
use mathlib.Core.Path.{◌≡◌, refl, sym, ◌∙◌}
use mathlib.Core.List.{[], ◌∷◌}
use mathlib.Core.Bool.{Bool, true, false, cond}
use mathlib.Core.Logic.{⊎_elim, inl, inr}
use native.Mathlib.Omega.{arith}
use lib.Dec.{eqb, eqb→eq}
use borrow.Author.Tests.{ne_eqb, eqb-true, eqb-false}
use Rattle.rules.specs.Text.{is_one_of}
use Rattle.rules.specs.Numbers.{REQUEST-REJECTED, MESSAGE-ERROR, code_number}
use Rattle.rules.specs.Section.{reason_number, connect, other_scheme, length_past_limit, no_length, fate_of, code_of, size_check, bytes_check, unknown_check, repeated_check, late_check, in_trailers_check, connection_check, te_check, method_check, no_method_check, repeated_length_check, length_in_trailers_check, digits_check, length_above_check, repeated_host_check, connect_check, present_check, scheme_check, path_check, authority_check, empty_check, differ_check, at_check, length_check, upload_check}
use Rattle.fields.specs.Table.{each_from, each_at}
use Rattle.section.specs.Checks.{checks, reason_at}
use Rattle.section.proofs.code.Goals as goal

byNumber : ℕ → ℕ
byNumber n = cond (is_one_of (reason_number connect ∷ reason_number other_scheme ∷ reason_number length_past_limit ∷ reason_number no_length ∷ []) n) REQUEST-REJECTED MESSAGE-ERROR

none_of_four : (n : ℕ) → (n ≡ reason_number connect → ⊥) → (n ≡ reason_number other_scheme → ⊥) → (n ≡ reason_number length_past_limit → ⊥) → (n ≡ reason_number no_length → ⊥) → MESSAGE-ERROR ≡ byNumber n
unfolding byNumber is_one_of
none_of_four n a b c d = rw (ne_eqb n _ a, ne_eqb n _ b, ne_eqb n _ c, ne_eqb n _ d)

one_of_two : (n : ℕ) → reason_number length_past_limit ≤ n → n ≤ reason_number no_length → REQUEST-REJECTED ≡ byNumber n
unfolding byNumber is_one_of
one_of_two n h l = go (eqb n (reason_number length_past_limit)) refl
  where
    go : (t : Bool) → eqb n (reason_number length_past_limit) ≡ t → REQUEST-REJECTED ≡ byNumber n
    go true e = rw (eqb-true n _ e) refl
    go false e = let d = eqb-false n _ e in let f : n ≡ reason_number no_length = omega arith in rw f refl

code_is : (n : ℕ) → byNumber n ≡ code_number (code_of (reason_at n))
unfolding byNumber is_one_of each_from reason_at checks fate_of code_of size_check bytes_check unknown_check repeated_check late_check in_trailers_check connection_check te_check method_check no_method_check repeated_length_check length_in_trailers_check digits_check length_above_check repeated_host_check connect_check present_check scheme_check path_check authority_check empty_check differ_check at_check length_check upload_check
code_is n =
    eqb→eq (byNumber n) _
    (each_at (λ k c. eqb (byNumber k) (code_number (code_of c.reason))) size_check checks tt n
    (λ past. rw (sym (none_of_four n (λ e. omega arith) (λ e. omega arith) (λ e. omega arith) (λ e. omega arith))) tt))

pub returns-in_default : goal.returns-in_default
returns-in_default c = none_of_four _ (λ e. c.in_default.in_default-own.rest.1 (inl e)) (λ e. c.in_default.in_default-own.rest.1 (inr e)) (λ e. omega (arith, e, c.in_default.if-reason-lt23-own.true)) (λ e. omega (arith, e, c.in_default.if-reason-lt23-own.true)) ∙ code_is _

pub returns-in_default-2 : goal.returns-in_default-2
returns-in_default-2 c = none_of_four _ (λ e. omega (arith, e, c.in_default.if-reason-lt25-own.false)) (λ e. omega (arith, e, c.in_default.if-reason-lt25-own.false)) (λ e. omega (arith, e, c.in_default.if-reason-lt25-own.false)) (λ e. omega (arith, e, c.in_default.if-reason-lt25-own.false)) ∙ code_is _

pub returns-in-15 : goal.returns-in-15
unfolding byNumber is_one_of
returns-in-15 c = ⊎_elim (λ e. rw e refl) (λ e. rw e refl) c.in-15.is ∙ code_is _

pub returns-in-15-2 : goal.returns-in-15-2
returns-in-15-2 c = one_of_two _ c.in-15.if-reason-lt23-own.false (omega (arith, c.in-15.if-reason-lt25-own.true)) ∙ code_is _
