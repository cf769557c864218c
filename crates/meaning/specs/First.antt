-- The first fault is the last word: what follows it does not matter, nothing shorter has one, and sections behind those due by it do not alter it.
-- For every grammar. Assumes nothing.
use Rattle.std.proofs.Math.Path.{◌≡◌}
use Prim.Native.Nat.{ℕ, ◌+◌, ◌≤◌, ◌<◌}
use mathlib.Core.List.{List, ◌++◌}
use Rattle.std.specs.Prelude.{take}
use Rattle.std.proofs.Math.ListN.{length}
use Rattle.rules.specs.Numbers.{Code}
use Rattle.rules.specs.Block.{Section}
use Rattle.rules.specs.Reading.{Grammar, Verdict, whole, fault, waits, read}
use Rattle.meaning.specs.Machine.{State, Run, reads, stuck, run, fresh_run}

module _ (G : Grammar) where
  -- The bytes settle the verdict inside the stream, before any end.
  unfoldable pub Inside : List Section → List ℕ → Verdict → Type 0
  Inside blocks bytes v = run G 0 (fresh_run G blocks) bytes ≡ stuck v

unfoldable pub place_of : Verdict → ℕ
place_of whole = 0
place_of (fault code place) = place
place_of (waits place) = place

abbrev pub ReadsOn : {P : Type 0} → Run P → Type 0
ReadsOn (reads bl s) = Unit {0}
ReadsOn (stuck v) = ⊥

module _ (G : Grammar) where
  -- where a run struck: at a byte of the piece, and not before
  pub record Struck (at : ℕ) (r : Run G.P) (bs : List ℕ) (v : Verdict) : Type 0 where
    pub k : ℕ
    pub fits : k ≤ length bs
    pub place : place_of v ≡ at + k
    pub then : run G at r (take k bs) ≡ stuck v
    pub before : (q : ℕ) → q < k → ReadsOn (run G at r (take q bs))

  -- THE FIRST FAULT, at place p: it is there after p bytes, it is the verdict whatever follows them, and no shorter beginning settles anything.
  pub record FirstFault (bl : List Section) (bytes : List ℕ) (code : Code) (p : ℕ) : Type 0 where
    pub within : p ≤ length bytes
    pub there : Inside G bl (take p bytes) (fault code p)
    pub same : (t : List ℕ) → (read G bl (take p bytes ++ t)).verdict ≡ fault code p
    pub first : (q : ℕ) (v : Verdict) → q < p → Inside G bl (take q bytes) v → ⊥

-- ---- and it depends on the sections due by then, and on no others

module _ (G : Grammar) where
  -- of some sections, those taken by a run that comes to a fault: whatever others follow them, it comes to the same
  pub record Due (at : ℕ) (r : List Section → Run G.P) (bs : List ℕ) (code : Code) (place : ℕ) (sections : List Section) : Type 0 where
    pub taken : List Section
    pub left : List Section
    pub are : sections ≡ taken ++ left
    pub same : (others : List Section) → run G at (r (taken ++ others)) bs ≡ stuck (fault code place)

  abbrev pub Finds : (at : ℕ) (bs : List ℕ) (code : Code) (place : ℕ) → Type 0
  Finds at bs code place = (s : State G.P) (sections : List Section) → run G at (reads sections s) bs ≡ stuck (fault code place) → Due at (λ l. reads l s) bs code place sections
