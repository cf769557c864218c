-- The reading a byte at a time is the reading of the whole: the two definitions agree on every stream, for every grammar. Assumes nothing.
use Rattle.std.specs.Prelude.{◌≡◌}
use Prim.Native.Nat.{ℕ, ◌+◌, ◌≤◌}
use mathlib.Core.List.{List}
use Rattle.std.proofs.Math.ListN.{length}
use Rattle.rules.specs.Integers.{Int, cut, got}
use Rattle.rules.specs.Frames.{frames_up_to}
use Rattle.rules.specs.Block.{Section}
use Rattle.rules.specs.Reading.{Grammar, fault, waits, Reading, ending, put, Onward, stops, waiting, on, judge}
use Rattle.meaning.specs.Machine.{fresh, in_length, between, ruled, rule_says, Run, reads, settled, begins, reading}

module _ (G : Grammar) where
  -- reading on from where a byte led to; o is the offset of the frame
  abbrev pub resume : (o at : ℕ) → Run G.P → List ℕ → Reading
  resume o at r bs = reading G (begins G o at r) at r bs

  module _ (total : ℕ) where
    unfoldable pub after_type : (o : ℕ) → G.P → List Section → Int → Reading
    after_type o p bl cut = ending (fault G.cut total)
    after_type o p bl (got t here rest) = reading G o here (reads bl (in_length t fresh p)) rest

    unfoldable pub after_length : (o t : ℕ) → G.P → List Section → Int → Reading
    after_length o t p bl cut = ending (fault G.cut total)
    after_length o t p bl (got len from pay) =
        put (rule_says G o from t len (G.rule p t len)) (resume o from (settled G from bl (ruled G len (G.rule p t len))) pay)

    -- a payload that is all there
    unfoldable pub carried_on : (to : ℕ) (bs : List ℕ) → Onward G.P → Reading
    carried_on to bs (stops code) = ending (fault code to)
    carried_on to bs waiting = ending (waits to)
    carried_on to bs (on r bl xs) = put xs (reading G to to (reads bl (between r)) bs)

    -- the rest of the stream agrees, with so much fuel
    abbrev pub Agree : ℕ → Type 0
    Agree f = (at : ℕ) (bs : List ℕ) (p : G.P) (bl : List Section) → length bs ≤ f → at + length bs ≡ total
        → reading G at at (reads bl (between p)) bs ≡ judge G total p bl (frames_up_to f at bs)
