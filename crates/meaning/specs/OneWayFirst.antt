-- A FAULT OF A ONE-WAY STREAM'S BYTES is the last word: what follows does not matter; and where the stream was not refused there is none among its
-- bytes. Assumes nothing.
use Rattle.std.proofs.Math.Path.{◌≡◌}
use Prim.Native.Nat.{ℕ}
use mathlib.Core.List.{List, [], ◌++◌}
use Rattle.std.proofs.Math.ListN.{length}
use Rattle.rules.specs.Numbers.{Code}
use Rattle.rules.specs.Reading.{Verdict, whole, fault}
use Rattle.rules.specs.OneWay.{Typed, refuse, is, type_rule, OneWay, untyped, refused, of_control, of_qpack, passed_over, one_way_read}

-- ---- DEFINITION

-- the verdict on the bytes of a one-way stream (a QPACK stream's, and those that are passed over, are not judged)
unfoldable pub verdict_on : OneWay → Verdict
verdict_on untyped = whole
verdict_on (refused code place) = fault code place
verdict_on (of_control r) = r.verdict
verdict_on (of_qpack q bytes) = whole
verdict_on passed_over = whole

module _ (seen : List ℕ) where
  -- A FAULT OF THE BYTES: the verdict is this code at this place, whatever bytes follow (that of a control stream's end is none: its place moves)
  abbrev pub FaultAt : Code → (place : ℕ) → List ℕ → Type 0
  FaultAt code place bytes = (more : List ℕ) → verdict_on (one_way_read seen (bytes ++ more)) ≡ fault code place

  -- the last of the bytes brings it
  abbrev pub Struck : Code → List ℕ → Type 0
  Struck code bytes = FaultAt code (length bytes) bytes

  -- there is none among the bytes
  abbrev pub NoFault : List ℕ → Type 0
  NoFault bytes = (code : Code) (place : ℕ) → FaultAt code place bytes → ⊥

-- ---- the types that came before matter for the type alone

-- a type that is refused by itself is refused wherever it comes
abbrev pub RefusedToo : (seen : List ℕ) (type : ℕ) → Typed → Type 0
RefusedToo seen t (refuse code) = type_rule seen t ≡ refuse code
RefusedToo seen t (is k) = Unit {0}

-- and one that is not refused is what it is by itself
abbrev pub SameToo : (type : ℕ) → Typed → Type 0
SameToo t (refuse code) = Unit {0}
SameToo t (is k) = type_rule [] t ≡ is k

module _ (seen w : List ℕ) (j k : Code) (place : ℕ) (struck-there : Struck seen j w) (fault-alone : FaultAt [] k place w) where
  abbrev pub Alike : Type 0
  Alike = (j ≡ k) × (place ≡ length w)
