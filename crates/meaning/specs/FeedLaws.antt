-- How a feed goes (Feed) by whole headers and whole payloads, as an engine reads them. For every grammar. Assumes nothing.
use Rattle.std.proofs.Math.Path.{◌≡◌}
use Rattle.std.proofs.Common.{zero-add}
use Prim.Native.Nat.{ℕ, suc, ◌+◌}
use native.Mathlib.Omega.{arith}
use Rattle.meaning.specs.Feed.{Feeding, also}

-- so many bytes and headers more, before what follows
unfoldable pub past : {P : Type 0} → (bytes headers : ℕ) → Feeding P → Feeding P
past k h f = record { used = k + f.used; heads = h + f.heads; event = f.event; after = f.after }

pub past_none : {P : Type 0} (f : Feeding P) → past 0 0 f ≡ f
unfolding past
past_none f = let a = zero-add f.used in let b = zero-add f.heads in rw (a, b)

pub past_past : {P : Type 0} (k h j i : ℕ) (f : Feeding P) → past k h (past j i f) ≡ past (k + j) (h + i) f
unfolding past
past_past k h j i f =
    let a : k + (j + f.used) ≡ (k + j) + f.used = omega arith in
    let b : h + (i + f.heads) ≡ (h + i) + f.heads = omega arith in
    rw (a, b)

pub also_past : {P : Type 0} (k h i : ℕ) (f : Feeding P) → also h (past k i f) ≡ past (suc k) (h + i) f
unfolding also past
also_past k h i f =
    let a : suc (k + f.used) ≡ suc k + f.used = omega arith in
    let b : h + (i + f.heads) ≡ (h + i) + f.heads = omega arith in
    rw (a, b)

pub also_is : {P : Type 0} (h : ℕ) (f : Feeding P) → also h f ≡ past 1 h f
unfolding also past
also_is h f = let a : suc f.used ≡ 1 + f.used = omega arith in rw a
