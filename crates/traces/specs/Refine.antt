-- How a lent row of any records refines the row: a record's reading is a slot, and an index found by a loop means find, put and seat.
-- Assumes nothing.
use Rattle.std.specs.Prelude.{◌≡◌, length, get_or, set}
use Rattle.std.proofs.Math.Path.{refl, ap}
use Rattle.std.proofs.Common.{sym, ◌∙◌, arith}
use Prim.Native.Nat.{ℕ, zero, suc, ◌<◌}
use mathlib.Core.List.{List, [], ◌∷◌, map}
use Rattle.std.proofs.Math.Option.{none, some}
use Rattle.rules.specs.Calls.{Machine, Stream, Slot, free, held, Row, find, put, behind, seat}
use Rattle.traces.specs.Row.{find_here, find_there, put_here, put_there}

module _ {M : Machine} where
  -- whose record it is
  abbrev pub Whose : ℕ → Slot M → Type 0
  Whose id free = ⊥
  Whose id (held j s) = j ≡ id

  abbrev pub IsFree : Slot M → Type 0
  IsFree free = Unit {0}
  IsFree (held j s) = ⊥

  past_find : (id : ℕ) (x : Slot M) (row : Row M) → ¬ Whose id x → find id (x ∷ row) ≡ find id row
  past_find id free row n = unfold find in refl
  past_find id (held j s) row n = find_there id j s row n

  past_put : (id : ℕ) (y x : Slot M) (row : Row M) → ¬ Whose id x → put id y (x ∷ row) ≡ x ∷ put id y row
  past_put id y free row n = unfold put in refl
  past_put id y (held j s) row n = put_there id y j s row n

  past_seat : (y x : Slot M) (row : Row M) → ¬ IsFree x → seat y (x ∷ row) ≡ behind x (seat y row)
  past_seat y free row n = absurd (n tt)
  past_seat y (held j s) row n = unfold seat in refl

-- C is the record that is lent, `means` reads it, d is any record (the default of `get_or`)
module _ {M : Machine} (C : Type 0) (means : C → Slot M) (d : C) where
  -- the lowest index of an ID's record
  pub record FoundAt (cs : List C) (id i : ℕ) (s : Stream M) : Type 0 where
    pub within : i < length cs
    pub that : means (get_or cs i d) ≡ held id s
    pub before : (j : ℕ) → j < i → ¬ Whose id (means (get_or cs j d))

  pub record FreeAt (cs : List C) (i : ℕ) : Type 0 where
    pub within : i < length cs
    pub that : means (get_or cs i d) ≡ free
    pub before : (j : ℕ) → j < i → ¬ IsFree (means (get_or cs j d))

  next_found : (c : C) (cs : List C) (id i : ℕ) (s : Stream M) → FoundAt (c ∷ cs) id (suc i) s → FoundAt cs id i s
  next_found c cs id i s f = record { within = omega (arith, f.within); that = f.that; before = λ j l. f.before (suc j) (omega arith) }

  next_free : (c : C) (cs : List C) (i : ℕ) → FreeAt (c ∷ cs) (suc i) → FreeAt cs i
  next_free c cs i f = record { within = omega (arith, f.within); that = f.that; before = λ j l. f.before (suc j) (omega arith) }

  pub found_find : (cs : List C) (id i : ℕ) (s : Stream M) → FoundAt cs id i s → find id (map means cs) ≡ some s
  found_find [] id i s f = absurd (omega (arith, f.within))
  found_find (c ∷ cs) id zero s f = rw f.that (find_here id id s (map means cs) refl)
  found_find (c ∷ cs) id (suc i) s f = past_find id (means c) (map means cs) (f.before zero (omega arith)) ∙ found_find cs id i s (next_found c cs id i s f)

  -- storing back at that index, where what is read of the others stays as it was
  pub found_put_as : (now : C → Slot M) (cs : List C) (id i : ℕ) (s : Stream M) (c' : C) → FoundAt cs id i s
      → ((j : ℕ) → ¬ (j ≡ i) → now (get_or cs j d) ≡ means (get_or cs j d)) → map now (set cs i c') ≡ put id (now c') (map means cs)
  found_put_as now [] id i s c' f e = absurd (omega (arith, f.within))
  found_put_as now (c ∷ cs) id zero s c' f e = rw f.that (ap (λ r. now c' ∷ r) (same cs (λ j. e (suc j) (λ q. omega arith))) ∙ sym (put_here id (now c') id s (map means cs) refl))
    where
      same : (cs : List C) → ((j : ℕ) → now (get_or cs j d) ≡ means (get_or cs j d)) → map now cs ≡ map means cs
      same [] e = refl
      same (c ∷ cs) e = let q = e zero in rw q (ap (λ r. means c ∷ r) (same cs (λ j. e (suc j))))
  found_put_as now (c ∷ cs) id (suc i) s c' f e =
      let q = e zero (λ z. omega arith) in
      rw q (ap (λ r. means c ∷ r) (found_put_as now cs id i s c' (next_found c cs id i s f) (λ j n. e (suc j) (λ z. n (omega arith)))) ∙ sym (past_put id (now c') (means c) (map means cs) (f.before zero (omega arith))))

  pub found_put : (cs : List C) (id i : ℕ) (s : Stream M) (c' : C) → FoundAt cs id i s → map means (set cs i c') ≡ put id (means c') (map means cs)
  found_put cs id i s c' f = found_put_as means cs id i s c' f (λ j n. refl)

  pub absent_find : (cs : List C) (id : ℕ) → ((j : ℕ) → j < length cs → ¬ Whose id (means (get_or cs j d))) → find id (map means cs) ≡ none
  absent_find [] id n = unfold find in refl
  absent_find (c ∷ cs) id n = past_find id (means c) (map means cs) (n zero (omega arith)) ∙ absent_find cs id (λ j l. n (suc j) (omega arith))

  pub free_seat : (cs : List C) (i : ℕ) (c' : C) → FreeAt cs i → seat (means c') (map means cs) ≡ some (map means (set cs i c'))
  unfolding seat behind
  free_seat [] i c' f = absurd (omega (arith, f.within))
  free_seat (c ∷ cs) zero c' f = rw f.that
  free_seat (c ∷ cs) (suc i) c' f =
      past_seat (means c') (means c) (map means cs) (f.before zero (omega arith)) ∙ ap (behind (means c)) (free_seat cs i c' (next_free c cs i f))

  pub full_seat : (cs : List C) (x : Slot M) → ((j : ℕ) → j < length cs → ¬ IsFree (means (get_or cs j d))) → seat x (map means cs) ≡ none
  unfolding seat behind
  full_seat [] x n = refl
  full_seat (c ∷ cs) x n = past_seat x (means c) (map means cs) (n zero (omega arith)) ∙ ap (behind (means c)) (full_seat cs x (λ j l. n (suc j) (omega arith)))
