-- HOW LONG A BLOCK IS: no longer than its section's size, for a record has six bytes beside its name and value, and a line counts 32. So a section within the
-- limit needs no more than 16,384 bytes of room (document 02, Q-2). Assumes nothing.
use Rattle.std.specs.Prelude.{◌≡◌, refl, ℕ, zero, suc, ◌+◌, ◌≤◌, List, [], ◌∷◌, Bool, true, false, ltb, eqb, length, take, drop}
use Rattle.std.proofs.Common.{ap, arith, length-drop, length-take-le, ltb-false}
use Rattle.rules.specs.Block.{Line, Section, Lines, unreadable, readable, cut_record, short_length, long_name, other_kind, little, Record, flawed, line, fields, record_of, before, lines_from, lines}
use Rattle.rules.specs.Section.{line_size, size, size_limit}

fields_long : (n : ℕ) (bytes name value : List ℕ) → fields n bytes ≡ line name value → length bytes ≡ length name + length value
unfolding fields
fields_long n bytes name value e = go (ltb (length bytes) n) refl e
  where
    go : (t : Bool) → ltb (length bytes) n ≡ t → elim t [ true ↦ flawed long_name | false ↦ line (take n bytes) (drop n bytes) ] ≡ line name value
        → length bytes ≡ length name + length value
    go true q e = let z : ◌≡◌ {A = ℕ} 0 1 = cc in absurd (omega arith)
    go false q e =
        let a : take n bytes ≡ name = cc in
        let b : drop n bytes ≡ value = cc in
        let h = ltb-false (length bytes) n q in
        omega (arith, h, length-take-le n bytes h, length-drop n bytes, ap length a, ap length b)

record_long : (r name value : List ℕ) → record_of r ≡ line name value → length r ≡ 4 + (length name + length value)
unfolding record_of
record_long [] name value e = let z : ◌≡◌ {A = ℕ} 0 1 = cc in absurd (omega arith)
record_long (k ∷ []) name value e = let z : ◌≡◌ {A = ℕ} 0 1 = cc in absurd (omega arith)
record_long (k ∷ k' ∷ []) name value e = let z : ◌≡◌ {A = ℕ} 0 1 = cc in absurd (omega arith)
record_long (k ∷ k' ∷ n ∷ []) name value e = let z : ◌≡◌ {A = ℕ} 0 1 = cc in absurd (omega arith)
record_long (k ∷ k' ∷ n ∷ n' ∷ bytes) name value e = go (eqb (little k k') 1) e
  where
    go : (t : Bool) → elim t [ true ↦ fields (little n n') bytes | false ↦ flawed other_kind ] ≡ line name value → length (k ∷ k' ∷ n ∷ n' ∷ bytes) ≡ 4 + (length name + length value)
    go true e = omega (arith, fields_long (little n n') bytes name value e)
    go false e = let z : ◌≡◌ {A = ℕ} 0 1 = cc in absurd (omega arith)

-- what a line before others makes of them
behind : (l : Line) (rest : Lines) (s : Section) → before l rest ≡ readable s → (t : Section) × ((rest ≡ readable t) × (s ≡ l ∷ t))
unfolding before
behind l (unreadable f) s e = let z : ◌≡◌ {A = ℕ} 0 1 = cc in absurd (omega arith)
behind l (readable t) s e = (t, (refl, cc))

fits_from : (fuel number at : ℕ) (bytes : List ℕ) (s : Section) → length bytes ≤ fuel → lines_from fuel number at bytes ≡ readable s → length bytes ≤ size s
unfolding lines_from size line_size
fits_from zero number at bytes s h e = omega arith
fits_from (suc fuel) number at [] s h e = omega arith
fits_from (suc fuel) number at (a ∷ []) s h e = let z : ◌≡◌ {A = ℕ} 0 1 = cc in absurd (omega arith)
fits_from (suc fuel) number at (a ∷ b ∷ rest) s h e = short (fits_from fuel (suc number) (at + 2 + little a b) (drop (little a b) rest)) (ltb len 4) e
  where
    len : ℕ
    len = little a b

    by : Record → Lines
    by (flawed f) = unreadable f
    by (line name value) = before (record { number = number; at = at; name = name; value = value }) (lines_from fuel (suc number) (at + 2 + len) (drop len rest))

    Rest : Type 0
    Rest = (t : Section) → length (drop len rest) ≤ fuel → lines_from fuel (suc number) (at + 2 + len) (drop len rest) ≡ readable t → length (drop len rest) ≤ size t

    found : Rest → (r : Record) → record_of (take len rest) ≡ r → len ≤ length rest → by r ≡ readable s → length (a ∷ b ∷ rest) ≤ size s
    found ih (flawed f) q l e = let z : ◌≡◌ {A = ℕ} 0 1 = cc in absurd (omega arith)
    found ih (line name value) q l e =
        let x = behind _ (lines_from fuel (suc number) (at + 2 + len) (drop len rest)) s e in
        let d = length-drop len rest in
        let i = ih x.0 (omega (arith, d)) x.1.0 in
        let z : size s ≡ line_size (record { number = number; at = at; name = name; value = value }) + size x.0 = ap size x.1.1 in
        omega (arith, d, i, z, l, length-take-le len rest l, record_long (take len rest) name value q)

    cut : Rest → (t : Bool) → ltb (length rest) len ≡ t → elim t [ true ↦ unreadable cut_record | false ↦ by (record_of (take len rest)) ] ≡ readable s → length (a ∷ b ∷ rest) ≤ size s
    cut ih true q e = let z : ◌≡◌ {A = ℕ} 0 1 = cc in absurd (omega arith)
    cut ih false q e = found ih (record_of (take len rest)) refl (ltb-false (length rest) len q) e

    short : Rest → (t : Bool) → elim t [ true ↦ unreadable short_length | false ↦ elim (ltb (length rest) len) [ true ↦ unreadable cut_record | false ↦ by (record_of (take len rest)) ] ] ≡ readable s
        → length (a ∷ b ∷ rest) ≤ size s
    short ih true e = let z : ◌≡◌ {A = ℕ} 0 1 = cc in absurd (omega arith)
    short ih false e = cut ih (ltb (length rest) len) refl e

pub no_longer : (block : List ℕ) (s : Section) → lines block ≡ readable s → length block ≤ size s
unfolding lines
no_longer block s e = fits_from (length block) 0 0 block s (omega arith) e

-- THE ROOM OF A BLOCK: that of a section within the limit is 16,384 bytes or less
pub block_fits : (block : List ℕ) (s : Section) → lines block ≡ readable s → size s ≤ size_limit → length block ≤ 16_384
unfolding size_limit
block_fits block s e h = omega (arith, no_longer block s e)
