-- Every way an opening can go: what it answers, and the IDs that it spends. Assumes nothing.
use Rattle.std.specs.Prelude.{◌≡◌, Bool, true, false, eqb, leb}
use Rattle.std.proofs.Math.Path.{refl}
use Prim.Native.Nat.{ℕ, zero, suc, ◌%◌, ◌^◌, ◌<◌}
use Rattle.std.proofs.Common.{arith, leb-false, eqb-true}
use Rattle.rules.specs.Numbers.{REQUEST-REJECTED}
use Rattle.connection.specs.declared.doors.Doors.{Doors}
use Rattle.connection.specs.declared.doors.Opening.{Opening}
use Rattle.connection.specs.Openings.{refusal, barred_at, next_request, next_one_way, admitted_as, request_of, one_way_of, kind_of, alive_of, opened_of}

pub data Went (d : Doors) (id free : ℕ) : Opening → Type 0 where
  refused : (number : ℕ) → (number ≡ 0 → ⊥) → Went d id free (refusal number d)
  barred : id % 4 ≡ 0 → id ≡ d.requests → Went d id free (refusal REQUEST-REJECTED (next_request d))
  a_request : id % 4 ≡ 0 → id ≡ d.requests → id < 2 ^ 62 → 0 < free → Went d id free (refusal 0 (next_request d))
  a_one_way : id % 4 ≡ 2 → id ≡ d.oneways → id < 2 ^ 62 → 0 < free → Went d id free (refusal 0 (next_one_way d))

module _ (d : Doors) (id free : ℕ) where
  by_room : (next : Doors) → (0 < free → Went d id free (refusal 0 next)) → (n : ℕ) → free ≡ n → Went d id free (admitted_as n next d)
  unfolding admitted_as
  by_room next w zero e = refused 3 (λ x. omega arith)
  by_room next w (suc n) e = w (omega arith)

  module _ (below : id < 2 ^ 62) where
    by_bar : id % 4 ≡ 0 → id ≡ d.requests → (b : Bool) → Went d id free (elim b [ true ↦ refusal REQUEST-REJECTED (next_request d) | false ↦ admitted_as free (next_request d) d ])
    by_bar k e true = barred k e
    by_bar k e false = by_room (next_request d) (a_request k e below) free refl

    by_request : id % 4 ≡ 0 → (b : Bool) → eqb id d.requests ≡ b → Went d id free (elim b [
      | false ↦ refusal 2 d
      | true ↦ elim (barred_at d.goaways d.goaway.0 id) [ true ↦ refusal REQUEST-REJECTED (next_request d) | false ↦ admitted_as free (next_request d) d ]
    ])
    by_request k false e = refused 2 (λ x. omega arith)
    by_request k true e = by_bar k (eqb-true id d.requests e) (barred_at d.goaways d.goaway.0 id)

    by_one_way : id % 4 ≡ 2 → (b : Bool) → eqb id d.oneways ≡ b → Went d id free (elim b [ false ↦ refusal 2 d | true ↦ admitted_as free (next_one_way d) d ])
    by_one_way k false e = refused 2 (λ x. omega arith)
    by_one_way k true e = by_room (next_one_way d) (a_one_way k (eqb-true id d.oneways e) below) free refl

    by_kind : (k : ℕ) → id % 4 ≡ k → Went d id free (kind_of k d id free)
    unfolding kind_of request_of one_way_of
    by_kind zero e = by_request e (eqb id d.requests) refl
    by_kind (suc zero) e = refused 2 (λ x. omega arith)
    by_kind (suc (suc zero)) e = by_one_way e (eqb id d.oneways) refl
    by_kind (suc (suc (suc k))) e = refused 2 (λ x. omega arith)

  by_size : (b : Bool) → leb (2 ^ 62) id ≡ b → Went d id free (elim b [ true ↦ refusal 2 d | false ↦ kind_of (id % 4) d id free ])
  by_size true e = refused 2 (λ x. omega arith)
  by_size false e = by_kind (leb-false (2 ^ 62) id e) (id % 4) refl

  by_code : (c : ℕ) → Went d id free (alive_of c d id free)
  unfolding alive_of
  by_code zero = by_size (leb (2 ^ 62) id) refl
  by_code (suc c) = refused (suc c) (λ x. omega arith)

  -- EVERY OPENING goes one of these ways
  pub went : Went d id free (opened_of d id free)
  went = by_code d.code
