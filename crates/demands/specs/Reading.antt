-- DEFINITION: what the bytes and the blocks of a request stream mean: document 01's reading (rules, Reading), as the demands over traces ask
-- for it. Assumes nothing.
use Rattle.std.specs.Prelude.{ℕ, List, map}
use Rattle.rules.specs.Block.{Section, lines}
use Rattle.rules.specs.Reading as R
use Rattle.rules.specs.Request.{document, request}
use Rattle.meaning.specs.Feeds.{headers_in}
use Rattle.meaning.specs.First.{place_of}
use Rattle.traces.specs.Demands.{Verdict, is_legal, bad, waits, Meaning}
use Rattle.demands.specs.Streams.{section_of, streams}

-- blocks mean the sections that they read as
unfoldable pub sections_of : (blocks : List (List ℕ)) → List Section
sections_of blocks = map (λ b. section_of (lines b)) blocks

abbrev pub reading_of : (bytes : List ℕ) (blocks : List (List ℕ)) → R.Reading
reading_of bytes blocks = R.read (request document) (sections_of blocks) bytes

unfoldable pub verdict_by : R.Verdict → Verdict
verdict_by R.whole = is_legal
verdict_by (R.fault code place) = bad code
verdict_by (R.waits place) = waits

-- THE MEANING of a request stream: its verdict once it is ended, and the place of it; its content; its section bytes; its frame headers, the refused one among them
abbrev pub reading : Meaning streams
reading = record {
  verdict = λ bytes blocks. verdict_by (reading_of bytes blocks).verdict;
  place = λ bytes blocks. place_of (reading_of bytes blocks).verdict;
  carried = λ bytes blocks. R.contents (reading_of bytes blocks).said;
  blocks = λ bytes blocks. R.section_bytes_of (reading_of bytes blocks).said;
  heads = λ bytes blocks. headers_in (reading_of bytes blocks).said;
}
