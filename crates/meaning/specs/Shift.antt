-- What is read further on in a stream is the same, with every place further on. For every grammar. Assumes nothing.
use Prim.Native.Nat.{ℕ, ◌+◌}
use mathlib.Core.List.{map}
use Rattle.rules.specs.Reading.{Grammar, Verdict, whole, fault, waits, Saying, header, refused, section_byte, content_byte, frame_kept, Reading}
use Rattle.meaning.specs.Machine.{Run, reads, stuck}

-- a saying, k bytes further on
module _ (k : ℕ) where
  unfoldable pub later : Saying → Saying
  later (header h u) = header (record { at = k + h.at; from = k + h.from; type = h.type; len = h.len }) u
  later (refused h) = refused (record { at = k + h.at; from = k + h.from; type = h.type; len = h.len })
  later (section_byte b) = section_byte b
  later (content_byte b) = content_byte b
  later (frame_kept t p) = frame_kept t p

unfoldable pub later_verdict : ℕ → Verdict → Verdict
later_verdict k whole = whole
later_verdict k (fault code place) = fault code (k + place)
later_verdict k (waits place) = waits (k + place)

-- a reading, k bytes further on
unfoldable pub shift : ℕ → Reading → Reading
shift k r = record { said = map (later k) r.said; verdict = later_verdict k r.verdict }

module _ (G : Grammar) (k : ℕ) where
  unfoldable pub later_run : Run G.P → Run G.P
  later_run (reads bl s) = reads bl s
  later_run (stuck v) = stuck (later_verdict k v)
