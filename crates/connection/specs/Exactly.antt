-- Opening exactly (document 01): accepted exactly if five conditions hold. Assumes nothing.
use Rattle.std.specs.Prelude.{◌≡◌, Bool, true, false, ◌⊎◌, eqb, leb}
use Rattle.std.proofs.Math.Path.{refl}
use Rattle.std.proofs.Common.{sym, ap, inl, inr, leb-false, eqb-true}
use Prim.Native.Nat.{ℕ, zero, suc, ◌%◌, ◌^◌, ◌<◌}
use native.Mathlib.Omega.{arith}
use Rattle.rules.specs.Numbers.{REQUEST-REJECTED}
use Rattle.connection.specs.declared.doors.Doors.{Doors}
use Rattle.connection.specs.declared.doors.Opening.{Opening}
use Rattle.connection.specs.Openings.{refusal, barred_at, next_request, next_one_way, admitted_as, request_of, one_way_of, kind_of, alive_of, opened_of, some_free, request_admitted, one_way_admitted, open-request, open-one-way}

-- THE FIVE CONDITIONS: the connection is alive, the ID is the lowest of its kind not yet opened and below 2^62, no GOAWAY of ours bars it, and a
-- record is free
pub record Opens (d : Doors) (id free : ℕ) : Type 0 where
  pub alive : d.code ≡ 0
  pub below : id < 2 ^ 62
  pub lowest : ((id % 4 ≡ 0) × (id ≡ d.requests)) ⊎ ((id % 4 ≡ 2) × (id ≡ d.oneways))
  pub unbarred : id % 4 ≡ 0 → barred_at d.goaways d.goaway.0 id ≡ false
  pub room : 0 < free

module _ (d : Doors) (id free : ℕ) where
  -- ---- they suffice

  by_kind : Opens d id free → ((id % 4 ≡ 0) × (id ≡ d.requests)) ⊎ ((id % 4 ≡ 2) × (id ≡ d.oneways)) → (opened_of d id free).number ≡ 0
  by_kind o (inl k) =
      let q = request_admitted d id free k.1 refl refl (o.unbarred k.0) (some_free free (next_request d) d (λ e. (let h = o.room in omega arith))) in
      sym (ap (λ x. x.number) (open-request d id free o.alive o.below k.0 q))
  by_kind o (inr k) =
      let q = one_way_admitted d id free k.1 refl (some_free free (next_one_way d) d (λ e. (let h = o.room in omega arith))) in
      sym (ap (λ x. x.number) (open-one-way d id free o.alive o.below k.0 q))

  -- AN OPENING IS ACCEPTED IF they hold
  pub accepted : Opens d id free → (opened_of d id free).number ≡ 0
  accepted o = by_kind o o.lowest

  -- ---- and they must hold

  some_room : (next before : Doors) (f : ℕ) → (admitted_as f next before).number ≡ 0 → 0 < f
  unfolding admitted_as
  some_room next before zero e = absurd (omega arith)
  some_room next before (suc n) e = omega arith

  abbrev Requested : Type 0
  Requested = (id ≡ d.requests) × (barred_at d.goaways d.goaway.0 id ≡ false) × (0 < free)

  not_barred : (b : Bool) → barred_at d.goaways d.goaway.0 id ≡ b
      → ◌≡◌ {A = ℕ} (Opening.number (elim b [ true ↦ refusal REQUEST-REJECTED (next_request d) | false ↦ admitted_as free (next_request d) d ])) 0 → (barred_at d.goaways d.goaway.0 id ≡ false) × (0 < free)
  not_barred true e n = absurd (omega arith)
  not_barred false e n = (e, some_room (next_request d) d free n)

  as_request : (b : Bool) → eqb id d.requests ≡ b → ◌≡◌ {A = ℕ} (Opening.number (elim b [
    | false ↦ refusal 2 d
    | true ↦ elim (barred_at d.goaways d.goaway.0 id) [ true ↦ refusal REQUEST-REJECTED (next_request d) | false ↦ admitted_as free (next_request d) d ]
  ])) 0 → Requested
  as_request false e n = absurd (omega arith)
  as_request true e n = let q = not_barred (barred_at d.goaways d.goaway.0 id) refl n in (eqb-true id d.requests e, q.0, q.1)

  requested : (request_of d id free).number ≡ 0 → Requested
  unfolding request_of
  requested n = as_request (eqb id d.requests) refl n

  as_one_way : (b : Bool) → eqb id d.oneways ≡ b → ◌≡◌ {A = ℕ} (Opening.number (elim b [ false ↦ refusal 2 d | true ↦ admitted_as free (next_one_way d) d ])) 0 → (id ≡ d.oneways) × (0 < free)
  as_one_way false e n = absurd (omega arith)
  as_one_way true e n = (eqb-true id d.oneways e, some_room (next_one_way d) d free n)

  one_way : (one_way_of d id free).number ≡ 0 → (id ≡ d.oneways) × (0 < free)
  unfolding one_way_of
  one_way n = as_one_way (eqb id d.oneways) refl n

  abbrev Let : Type 0
  Let = (((id % 4 ≡ 0) × (id ≡ d.requests)) ⊎ ((id % 4 ≡ 2) × (id ≡ d.oneways))) × (id % 4 ≡ 0 → barred_at d.goaways d.goaway.0 id ≡ false) × (0 < free)

  of_kind : (k : ℕ) → id % 4 ≡ k → (kind_of k d id free).number ≡ 0 → Let
  unfolding kind_of
  of_kind zero e n = let q = requested n in (inl (e, q.0), (λ z. q.1), q.2)
  of_kind (suc zero) e n = absurd (omega arith)
  of_kind (suc (suc zero)) e n = let q = one_way n in (inr (e, q.0), (λ z. absurd (omega arith)), q.1)
  of_kind (suc (suc (suc k))) e n = absurd (omega arith)

  in_range : (b : Bool) → leb (2 ^ 62) id ≡ b → ◌≡◌ {A = ℕ} (Opening.number (elim b [ true ↦ refusal 2 d | false ↦ kind_of (id % 4) d id free ])) 0 → (id < 2 ^ 62) × Let
  in_range true e n = absurd (omega arith)
  in_range false e n = (leb-false (2 ^ 62) id e, of_kind (id % 4) refl n)

  while_alive : (c : ℕ) → d.code ≡ c → (alive_of c d id free).number ≡ 0 → Opens d id free
  unfolding alive_of
  while_alive zero e n = let q = in_range (leb (2 ^ 62) id) refl n in let l = q.1 in record { alive = e; below = q.0; lowest = l.0; unbarred = l.1; room = l.2 }
  while_alive (suc c) e n = absurd (omega arith)

  -- AND ONLY IF they hold
  pub only : (opened_of d id free).number ≡ 0 → Opens d id free
  only n = while_alive d.code refl n
