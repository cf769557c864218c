-- Feeds and sections, in any order and any cutting, come to the reading of the bytes consumed and the blocks given. For every grammar.
-- Assumes nothing.
use Rattle.std.specs.Prelude.{◌≡◌}
use Prim.Native.Nat.{ℕ, suc, ◌+◌, ◌≤◌}
use mathlib.Core.List.{List, [], ◌∷◌, ◌++◌}
use Rattle.std.proofs.Math.ListN.{length, take}
use Rattle.rules.specs.Block.{Section}
use Rattle.rules.specs.Reading.{Part, Use, content, section, Ruling, refuse, accept, Grammar, Verdict, Saying, header, refused, section_byte, content_byte, frame_kept, read}
use Rattle.meaning.specs.Machine.{State, in_type, in_length, in_payload, due, Outcome, lives, dies, given, left_says, settled, finished, run, lists}
use Rattle.meaning.specs.Feed.{Event, quiet, section_bytes, content_bytes, taken, Feeding, feed, shows}

-- what is said, without the headers: that is what events show
unfoldable pub unheaded : List Saying → List Saying
unheaded [] = []
unheaded (header h u ∷ xs) = unheaded xs
unheaded (refused h ∷ xs) = unheaded xs
unheaded (section_byte b ∷ xs) = section_byte b ∷ unheaded xs
unheaded (content_byte b ∷ xs) = content_byte b ∷ unheaded xs
unheaded (frame_kept t k ∷ xs) = frame_kept t k ∷ unheaded xs

-- the headers finished, accepted or not
unfoldable pub headers_in : List Saying → ℕ
headers_in [] = 0
headers_in (header h u ∷ xs) = suc (headers_in xs)
headers_in (refused h ∷ xs) = suc (headers_in xs)
headers_in (section_byte b ∷ xs) = headers_in xs
headers_in (content_byte b ∷ xs) = headers_in xs
headers_in (frame_kept t k ∷ xs) = headers_in xs

abbrev pub Within : Event → ℕ → Type 0
Within quiet u = Unit {0}
Within (section_bytes len last) u = len ≤ u
Within (content_bytes len) u = len ≤ u
Within (taken t k) u = Unit {0}

module _ (G : Grammar) where
  -- A feed is the definition's reading of what it consumed, whatever blocks come: the state, what is shown (behind `before`), the headers.
  pub record Runs (place : ℕ) (o : Outcome G.P) (before : List Saying) (piece : List ℕ) (f : Feeding G.P) : Type 0 where
    pub fits : f.used ≤ length piece
    pub within : Within f.event f.used
    pub state : (bl : List Section) → settled G (place + f.used) bl f.after ≡ run G place (settled G place bl o) (take f.used piece)
    pub shown : (begun : ℕ) (bl : List Section) → shows f.event f.used piece ≡ before ++ unheaded (lists G begun place (settled G place bl o) (take f.used piece))
    pub heads : (begun : ℕ) (bl : List Section) → f.heads ≡ headers_in (lists G begun place (settled G place bl o) (take f.used piece))

  -- what a ruling shows: all but the header
  unfoldable pub rule_shows : (len : ℕ) → Ruling G.P → List Saying
  rule_shows len (refuse code) = []
  rule_shows len (accept u p) = unheaded (left_says G u [] len p)

  -- ---- a payload that is handed on: content, or a section
  pub data Handed : Use → Type 0 where
    of_content : Handed content
    of_section : {t : Part} → Handed (section t)

-- ---- the calls of one stream, in whatever order the host makes them

pub data Call : Type 0 where
  feed_call : (allow : ℕ) (piece : List ℕ) → Call  -- while a section is due it is refused with 4, and consumes nothing
  give_call : Section → Call  -- where none is due it is refused with 5, and nothing is altered

-- the block is taken if a section is due
unfoldable pub takes : {P : Type 0} → Section → State P → List Section
takes block (in_type g p) = []
takes block (in_length t g p) = []
takes block (in_payload u k left p) = []
takes block (due t p) = block ∷ []

-- what the calls came to: the bytes consumed, the blocks taken, what the events showed, the headers finished, and what is left
pub record Done (P : Type 0) : Type 0 where
  pub bytes : List ℕ
  pub sections : List Section
  pub shown : List Saying
  pub heads : ℕ
  pub after : Outcome P

module _ (G : Grammar) where
  unfoldable pub calls : Outcome G.P → List Call → Done G.P
  calls o [] = record { bytes = []; sections = []; shown = []; heads = 0; after = o }
  calls (dies code) (c ∷ cs) = calls (dies code) cs
  calls (lives s) (feed_call allow piece ∷ cs) =
      let f = feed G allow s piece in
      let d = calls f.after cs in
      record { bytes = take f.used piece ++ d.bytes; sections = d.sections; shown = shows f.event f.used piece ++ d.shown; heads = f.heads + d.heads; after = d.after }
  calls (lives s) (give_call block ∷ cs) =
      let d = calls (given G block s) cs in
      record { bytes = d.bytes; sections = takes block s ++ d.sections; shown = d.shown; heads = d.heads; after = d.after }

  -- the definition's reading of the bytes and blocks, whatever blocks would follow
  pub record Came (place : ℕ) (o : Outcome G.P) (d : Done G.P) : Type 0 where
    pub state : (bl : List Section) → settled G (place + length d.bytes) bl d.after ≡ run G place (settled G place (d.sections ++ bl) o) d.bytes
    pub shown : (begun : ℕ) (bl : List Section) → d.shown ≡ unheaded (lists G begun place (settled G place (d.sections ++ bl) o) d.bytes)
    pub heads : (begun : ℕ) (bl : List Section) → d.heads ≡ headers_in (lists G begun place (settled G place (d.sections ++ bl) o) d.bytes)

  -- the verdict at the end of the calls: a section still due is a wait
  unfoldable pub verdict_of_done : Done G.P → Verdict
  verdict_of_done d = finished G (length d.bytes) (settled G (length d.bytes) [] d.after)

  pub record CallsRead (d : Done G.P) : Type 0 where
    pub verdict : verdict_of_done d ≡ (read G d.sections d.bytes).verdict
    pub shown : d.shown ≡ unheaded (read G d.sections d.bytes).said
    pub heads : d.heads ≡ headers_in (read G d.sections d.bytes).said
