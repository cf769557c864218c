-- Opening a stream (document 01, "Calls and the host's memory"): the answer, and the IDs that are spent. Assumes nothing.
use Rattle.std.specs.Prelude.{◌≡◌, ℕ, zero, suc, ◌+◌, ◌%◌, ◌^◌, ◌≤◌, ◌<◌, Bool, true, false, eqb, leb, Option as Maybe, Some, None, MatchOption}
use Rattle.std.proofs.Math.Path.{refl, sym, ap}
use Rattle.std.proofs.Common.{◌∙◌}
use Rattle.std.proofs.Math.Option.{none-ne-some, some-injective}
use borrow.Author.Tests.{eq-eqb, ne_eqb, le-leb, lt-leb}
use Rattle.rules.specs.Numbers.{REQUEST-REJECTED}
use Rattle.wire.specs.declared.ids.StreamId.{StreamId}
use Rattle.wire.specs.Goaway.{sent_of}
use Rattle.connection.specs.Goaway.{sent_as}
use Rattle.connection.specs.declared.doors.Doors.{Doors}
use Rattle.connection.specs.declared.doors.Opening.{Opening}

-- no stream was opened yet
abbrev pub fresh_doors : Doors
fresh_doors = record { code = 0; requests = 0; oneways = 2; goaways = 0; goaway = record { 0 = 0 } }

abbrev pub refusal : (number : ℕ) → Doors → Opening
refusal n d = record { number = n; doors = d }

-- requests from our GOAWAY's ID upward
unfoldable pub barred_at : (goaways goaway id : ℕ) → Bool
barred_at zero g id = false
barred_at (suc n) g id = leb g id

-- ---- an ID is spent

abbrev pub next_request : Doors → Doors
next_request d = record { code = d.code; requests = d.requests + 4; oneways = d.oneways; goaways = d.goaways; goaway = d.goaway }

abbrev pub next_one_way : Doors → Doors
next_one_way d = record { code = d.code; requests = d.requests; oneways = d.oneways + 4; goaways = d.goaways; goaway = d.goaway }

-- ---- the answer

-- 3, the ID unspent, unless a record is free
unfoldable pub admitted_as : (free : ℕ) (next before : Doors) → Opening
admitted_as zero next d = refusal 3 d
admitted_as (suc n) next d = refusal 0 next

-- 2 unless it is the next request; barred before 3, and then the ID is spent
unfoldable pub request_of : Doors → (id free : ℕ) → Opening
request_of d id free = elim (eqb id d.requests) [
  | false ↦ refusal 2 d
  | true ↦ elim (barred_at d.goaways d.goaway.0 id) [ true ↦ refusal REQUEST-REJECTED (next_request d) | false ↦ admitted_as free (next_request d) d ]
]

unfoldable pub one_way_of : Doors → (id free : ℕ) → Opening
one_way_of d id free = elim (eqb id d.oneways) [ false ↦ refusal 2 d | true ↦ admitted_as free (next_one_way d) d ]

-- a client's requests are 0, 4, 8.., its one-way streams 2, 6, 10..
unfoldable pub kind_of : (rest : ℕ) → Doors → (id free : ℕ) → Opening
kind_of zero d id free = request_of d id free
kind_of (suc zero) d id free = refusal 2 d
kind_of (suc (suc zero)) d id free = one_way_of d id free
kind_of (suc (suc (suc n))) d id free = refusal 2 d

unfoldable pub alive_of : (code : ℕ) → Doors → (id free : ℕ) → Opening
alive_of zero d id free = elim (leb (2 ^ 62) id) [ true ↦ refusal 2 d | false ↦ kind_of (id % 4) d id free ]
alive_of (suc c) d id free = refusal (suc c) d

-- THE ANSWER to an opening: dead connection; 2; barred; 3
abbrev pub opened_of : Doors → (id free : ℕ) → Opening
opened_of d id free = alive_of d.code d id free

-- ---- laws: a law for each way out

pub barred_none : (n g id : ℕ) → n ≡ 0 → false ≡ barred_at n g id
unfolding barred_at
barred_none n g id e = rw e refl

pub barred_some : (n g id : ℕ) → (n ≡ 0 → ⊥) → leb g id ≡ barred_at n g id
unfolding barred_at
barred_some zero g id z = absurd (z refl)
barred_some (suc n) g id z = refl

-- asked by the ID of our GOAWAY, if there is one
pub barred_by : (s : Maybe StreamId) (n g id : ℕ) {b : Bool} → sent_of s ≡ sent_as n g → MatchOption s (b ≡ false) (λ x. b ≡ leb x.0 id) → b ≡ barred_at n g id
unfolding barred_at sent_of sent_as
barred_by None zero g id e m = m
barred_by None (suc n) g id e m = absurd (none-ne-some _ e)
barred_by (Some x) zero g id e m = absurd (none-ne-some _ (sym e))
barred_by (Some x) (suc n) g id e m = m ∙ ap (λ y. leb y id) (some-injective _ _ e)

module _ (free : ℕ) (next d : Doors) {r : Opening} where
  pub none_free : free ≡ 0 → r ≡ refusal 3 d → r ≡ admitted_as free next d
  unfolding admitted_as
  none_free e q = q ∙ rw e refl

pub some_free : (free : ℕ) (next d : Doors) → (free ≡ 0 → ⊥) → refusal 0 next ≡ admitted_as free next d
unfolding admitted_as
some_free zero next d n = absurd (n refl)
some_free (suc k) next d n = refl

module _ (d : Doors) (id free : ℕ) where
  pub request_other : {r : Opening} → (id ≡ d.requests → ⊥) → r ≡ refusal 2 d → r ≡ request_of d id free
  unfolding request_of
  request_other n q = let x = ne_eqb id d.requests n in q ∙ rw (x, request_of) refl

  module _ (e : id ≡ d.requests) {b : Bool} (is : b ≡ barred_at d.goaways d.goaway.0 id) {next : Doors} (spent : next ≡ next_request d) where
    pub request_barred : b ≡ true → refusal REQUEST-REJECTED next ≡ request_of d id free
    unfolding request_of
    request_barred t = let x = eq-eqb id d.requests e in let y = sym is ∙ t in ap (refusal REQUEST-REJECTED) spent ∙ rw (x, y, request_of) refl

    pub request_admitted : {r : Opening} → b ≡ false → r ≡ admitted_as free next d → r ≡ request_of d id free
    unfolding request_of
    request_admitted f q = let x = eq-eqb id d.requests e in let y = sym is ∙ f in q ∙ ap (λ n. admitted_as free n d) spent ∙ rw (x, y, request_of) refl

  pub one_way_other : {r : Opening} → (id ≡ d.oneways → ⊥) → r ≡ refusal 2 d → r ≡ one_way_of d id free
  unfolding one_way_of
  one_way_other n q = let x = ne_eqb id d.oneways n in q ∙ rw (x, one_way_of) refl

  pub one_way_admitted : {r : Opening} {next : Doors} → id ≡ d.oneways → next ≡ next_one_way d → r ≡ admitted_as free next d → r ≡ one_way_of d id free
  unfolding one_way_of
  one_way_admitted e spent q = let x = eq-eqb id d.oneways e in q ∙ ap (λ n. admitted_as free n d) spent ∙ rw (x, one_way_of) refl

  pub open_dead : {r : Opening} → (d.code ≡ 0 → ⊥) → r ≡ refusal d.code d → r ≡ opened_of d id free
  open_dead n q = q ∙ by d.code n
    where
      by : (c : ℕ) → (c ≡ 0 → ⊥) → refusal c d ≡ alive_of c d id free
      by zero z = absurd (z refl)
      by (suc c) z = unfold alive_of in refl

  module _ (alive : d.code ≡ 0) where
    alive_is : alive_of 0 d id free ≡ opened_of d id free
    alive_is = ap (λ c. alive_of c d id free) (sym alive)

    pub open_above : {r : Opening} → 2 ^ 62 ≤ id → r ≡ refusal 2 d → r ≡ opened_of d id free
    unfolding alive_of
    open_above h q = let x = le-leb (2 ^ 62) id h in q ∙ rw (x, alive_of) refl ∙ alive_is

    module _ (below : id < 2 ^ 62) where
      below-is : kind_of (id % 4) d id free ≡ opened_of d id free
      unfolding alive_of
      below-is = let x = lt-leb (2 ^ 62) id below in rw (x, alive_of) refl ∙ alive_is

      pub open-request : {r : Opening} → id % 4 ≡ 0 → r ≡ request_of d id free → r ≡ opened_of d id free
      unfolding kind_of
      open-request e q = q ∙ sym (ap (λ k. kind_of k d id free) e) ∙ below-is

      pub open-one-way : {r : Opening} → id % 4 ≡ 2 → r ≡ one_way_of d id free → r ≡ opened_of d id free
      unfolding kind_of
      open-one-way e q = q ∙ sym (ap (λ k. kind_of k d id free) e) ∙ below-is

      pub open_none : {r : Opening} → (id % 4 ≡ 0 → ⊥) → (id % 4 ≡ 2 → ⊥) → r ≡ refusal 2 d → r ≡ opened_of d id free
      open_none n m q = q ∙ by (id % 4) n m ∙ below-is
        where
          by : (k : ℕ) → (k ≡ 0 → ⊥) → (k ≡ 2 → ⊥) → refusal 2 d ≡ kind_of k d id free
          by zero a b = absurd (a refl)
          by (suc zero) a b = unfold kind_of in refl
          by (suc (suc zero)) a b = absurd (b refl)
          by (suc (suc (suc k))) a b = unfold kind_of in refl
