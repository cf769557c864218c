-- What `lister` prints (document 01, "The writer and the lister"), line by line, from the rules' own reading. Assumes nothing.
use Rattle.std.specs.Prelude.{ℕ, List, [], ◌∷◌, ◌++◌, map, true, false, ltb, length}
use Rattle.std.proofs.Math.Option.{none}
use Rattle.rules.specs.Numbers.{code_number}
use Rattle.rules.specs.Block.{Section}
use Rattle.rules.specs.Reading.{Use, Grammar, Verdict, fault, waits, Reading, read, Accepted, accepted}
use Rattle.rules.specs.Reading as reading-of
use Rattle.rules.specs.Request.{request, all_sound}

pub data Entry : Type 0 where
  heading : Entry
  frame : (at type len : ℕ) → Use → Entry  -- an accepted frame header: the frame's offset, type, length, use
  whole : (total : ℕ) → Entry  -- `end`, total, `whole`
  refused : (bytes code : ℕ) → Entry  -- `refused`, stream bytes up to and including the deciding one, code
  too_long : Entry

-- a request stream, each section sound and without Content-Length
abbrev pub stream : Grammar
stream = request (all_sound none)

-- A stream has at most two sections, so two are enough. What they hold is not asked (Lists, `any_sections`).
abbrev pub two_sections : List Section
two_sections = [] ∷ [] ∷ []

unfoldable pub reading : List ℕ → Reading
reading bytes = read stream two_sections bytes

unfoldable pub frame_of : Accepted → Entry
frame_of a = frame a.header.at a.header.type a.header.len a.purpose

-- (a reading that waited for a section would have no last line; every listing has one: Falls, `listing_ends`)
unfoldable pub last_of : (total : ℕ) → Verdict → List Entry
last_of total reading-of.Verdict.whole = whole total ∷ []
last_of total (fault code place) = refused place (code_number code) ∷ []
last_of total (waits place) = []

unfoldable pub entries_of : (total : ℕ) → Reading → List Entry
entries_of total r = map frame_of (accepted r.said) ++ last_of total r.verdict

unfoldable pub limit : ℕ
limit = 65_536

-- THE LISTING of an input: the heading, the accepted headers of its reading, and the verdict
unfoldable pub listing : List ℕ → List Entry
listing bytes = elim (ltb limit (length bytes)) [ true ↦ too_long ∷ [] | false ↦ heading ∷ entries_of (length bytes) (reading bytes) ]
