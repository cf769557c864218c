-- Any cutting of a stream into pieces reads as the whole does. For every grammar.
-- Assumes nothing.
use Rattle.std.specs.Prelude.{◌≡◌, ℕ, suc, ◌+◌}
use Rattle.std.proofs.Math.Path.{refl, sym, ap}
use Rattle.std.proofs.Common.{◌∙◌}
use native.Mathlib.Omega.{arith}
use mathlib.Core.List.{List, [], ◌∷◌, ◌++◌, append_assoc}
use Rattle.std.proofs.Math.ListN.{length}
use Rattle.rules.specs.Block.{Section}
use Rattle.rules.specs.Reading.{Grammar, put, read_from, read}
use Rattle.meaning.specs.Machine.{Run, next, tells, finished, begins, run, began, lists, reading, pieces, fresh_run, joined}
use Rattle.meaning.proofs.Bridge.{put_put, by_bytes_from, by_bytes}

module _ (G : Grammar) where
  -- THE CUTTING LAW: a piece, then the rest from where it leaves the machine
  pub reading_append : (o at to : ℕ) (r : Run G.P) (x y : List ℕ) → at + length x ≡ to
      → reading G o at r (x ++ y) ≡ put (lists G o at r x) (reading G (began G o at r x) to (run G at r x) y)
  unfolding reading lists began run put
  reading_append o at to r [] y e = let n : at ≡ to = omega arith in rw n
  reading_append o at to r (b ∷ x) y e =
      let q = next G (suc at) r b in
      ap (put (tells G o (suc at) r b)) (reading_append (begins G o (suc at) q) (suc at) to q x y (omega arith)) ∙ put_put (tells G o (suc at) r b) _ _

  pub run_append : (at to : ℕ) (r : Run G.P) (x y : List ℕ) → at + length x ≡ to → run G at r (x ++ y) ≡ run G to (run G at r x) y
  unfolding run
  run_append at to r [] y e = let n : at ≡ to = omega arith in rw n
  run_append at to r (b ∷ x) y e = run_append (suc at) to (next G (suc at) r b) x y (omega arith)

  pub lists_append : (o at to : ℕ) (r : Run G.P) (x y : List ℕ) → at + length x ≡ to
      → lists G o at r (x ++ y) ≡ lists G o at r x ++ lists G (began G o at r x) to (run G at r x) y
  unfolding lists began run
  lists_append o at to r [] y e = let n : at ≡ to = omega arith in rw n
  lists_append o at to r (b ∷ x) y e =
      let q = next G (suc at) r b in
      ap (λ l. tells G o (suc at) r b ++ l) (lists_append (begins G o (suc at) q) (suc at) to q x y (omega arith)) ∙ sym (append_assoc (tells G o (suc at) r b) _ _)

  -- a reading by its parts
  pub reading_is : (o at to : ℕ) (r : Run G.P) (bs : List ℕ) → at + length bs ≡ to
      → reading G o at r bs ≡ record { said = lists G o at r bs; verdict = finished G to (run G at r bs) }
  unfolding reading lists run put
  reading_is o at to r [] e = let n : at ≡ to = omega arith in rw n
  reading_is o at to r (b ∷ bs) e =
      let q = next G (suc at) r b in
      ap (put (tells G o (suc at) r b)) (reading_is (begins G o (suc at) q) (suc at) to q bs (omega arith))

  pub read_from_is : (at total : ℕ) (bl : List Section) (bs : List ℕ) → at + length bs ≡ total
      → read_from G at total bl bs ≡ record { said = lists G at at (fresh_run G bl) bs; verdict = finished G total (run G at (fresh_run G bl) bs) }
  read_from_is at total bl bs e = sym (by_bytes_from G at total bl bs e) ∙ reading_is at at total (fresh_run G bl) bs e

  pub read_is : (bl : List Section) (bs : List ℕ)
      → read G bl bs ≡ record { said = lists G 0 0 (fresh_run G bl) bs; verdict = finished G (length bs) (run G 0 (fresh_run G bl) bs) }
  read_is bl bs = sym (by_bytes G bl bs) ∙ reading_is 0 0 (length bs) (fresh_run G bl) bs (omega arith)

  pieces_reads : (o at : ℕ) (r : Run G.P) (xs : List (List ℕ)) → pieces G o at r xs ≡ reading G o at r (joined xs)
  unfolding pieces joined reading
  pieces_reads o at r [] = refl
  pieces_reads o at r (x ∷ xs) =
      ap (put (lists G o at r x)) (pieces_reads (began G o at r x) (at + length x) (run G at r x) xs)
      ∙ sym (reading_append o at (at + length x) r x (joined xs) refl)

  -- DEMAND 2: under any cutting, what is said and the verdict of the whole reading
  pub any_cutting : (bl : List Section) (xs : List (List ℕ)) → pieces G 0 0 (fresh_run G bl) xs ≡ read G bl (joined xs)
  any_cutting bl xs = pieces_reads 0 0 (fresh_run G bl) xs ∙ by_bytes G bl (joined xs)
