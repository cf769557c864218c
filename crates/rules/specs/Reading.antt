-- What a framed stream means: its frames, judged in order. For any grammar of frames; request and control streams are two.
-- Assumes nothing.
use Rattle.std.specs.Prelude.{ℕ, ◌+◌, List, [], ◌∷◌, ◌++◌, map, length}
use Rattle.rules.specs.Numbers.{Code}
use Rattle.rules.specs.Block.{Section}
use Rattle.rules.specs.Frames.{Header, Frames, Frames.none as no_more, in_header, in_payload, frame, frames_from}

-- ---- a grammar

-- the sections of a message
pub data Part : Type 0 where
  header_section trailers : Part

-- the frames that are kept until they are complete
pub data Kept : Type 0 where
  settings goaway max_push_id cancel_push : Kept

-- What a payload is for.
pub data Use : Type 0 where
  content : Use  -- handed on as content
  skipped : Use  -- passed over
  section : Part → Use  -- handed on to the decoder; judged from the section that comes back
  kept : Kept → Use  -- kept; judged from the payload itself

-- A header is refused with a code, or its payload has a use, and P is where the stream then is.
pub data Ruling (P : Type 0) : Type 0 where
  refuse : Code → Ruling P
  accept : Use → P → Ruling P

-- What a judged section or payload leaves.
pub data Next (P : Type 0) : Type 0 where
  stop : Code → Next P
  go : P → Next P

-- An end between two frames.
pub data End : Type 0 where
  complete : End
  lacking : Code → End

pub record Grammar : Type 1 where
  pub P : Type 0  -- where a stream stands between two frames
  pub start : P
  pub rule : P → (type len : ℕ) → Ruling P  -- a header, judged at its last byte
  pub given : Part → P → Section → Next P  -- the section that was due
  pub judged : Kept → P → (payload : List ℕ) → Next P
  pub end : P → End  -- an end between two frames
  pub cut : Code  -- the code of an end inside a frame, its header included

-- ---- a reading

pub data Verdict : Type 0 where
  whole : Verdict
  fault : Code → (place : ℕ) → Verdict  -- the place counts the bytes up to and including the deciding one
  waits : (place : ℕ) → Verdict  -- a section is due and none is left

-- What a reading says, in order.
pub data Saying : Type 0 where
  header : Header → Use → Saying  -- an accepted header and what its payload is for
  refused : Header → Saying  -- a header that is refused; nothing is said after it
  section_byte : ℕ → Saying
  content_byte : ℕ → Saying
  frame_kept : Kept → (payload : List ℕ) → Saying  -- a kept payload, judged good

pub record Reading : Type 0 where
  pub said : List Saying
  pub verdict : Verdict

abbrev pub ending : Verdict → Reading
ending v = record { said = []; verdict = v }

unfoldable pub put : List Saying → Reading → Reading
put xs r = record { said = xs ++ r.said; verdict = r.verdict }

-- the bytes of a payload, as they come
unfoldable pub told : Use → List ℕ → List Saying
told content p = map content_byte p
told skipped p = []
told (section t) p = map section_byte p
told (kept k) p = []

unfoldable pub ended : End → (place : ℕ) → Verdict
ended complete place = whole
ended (lacking code) place = fault code place

-- What follows a complete payload: a fault, a wait, or the stream goes on with the sections that are left.
pub data Onward (P : Type 0) : Type 0 where
  stops : Code → Onward P
  waiting : Onward P
  on : P → List Section → List Saying → Onward P

module _ (G : Grammar) where
  unfoldable pub left_by : List Section → List Saying → Next G.P → Onward G.P
  left_by sections says (stop code) = stops code
  left_by sections says (go p) = on p sections says

  -- a complete payload; a HEADERS frame takes the next section
  unfoldable pub completed : Use → G.P → (payload : List ℕ) → List Section → Onward G.P
  completed content p payload sections = on p sections []
  completed skipped p payload sections = on p sections []
  completed (section t) p payload [] = waiting
  completed (section t) p payload (s ∷ sections) = left_by sections [] (G.given t p s)
  completed (kept k) p payload sections = left_by sections (frame_kept k payload ∷ []) (G.judged k p payload)

  module _ (total : ℕ) where
    -- Frames judged in order, up to the first fault or wait; `total` is the place of a fault at the end.
    unfoldable pub judge : G.P → List Section → Frames → Reading
    judge p sections no_more = ending (ended (G.end p) total)
    judge p sections in_header = ending (fault G.cut total)
    judge p sections (in_payload h part) = elim (G.rule p h.type h.len) [
      | refuse code ↦ put (refused h ∷ []) (ending (fault code h.from))
      | accept u q ↦ put (header h u ∷ told u part) (ending (fault G.cut total))
    ]
    judge p sections (frame h payload fs) = elim (G.rule p h.type h.len) [
      | refuse code ↦ put (refused h ∷ []) (ending (fault code h.from))
      | accept u q ↦ put (header h u ∷ told u payload) (elim (completed u q payload sections) [
        | stops code ↦ ending (fault code (h.from + h.len))
        | waiting ↦ ending (waits (h.from + h.len))
        | on r rest says ↦ put says (judge r rest fs)
      ])
    ]

  -- What a stream of `total` bytes means, once it is ended, whose frames are these bytes from an offset on.
  unfoldable pub read_from : (at total : ℕ) → List Section → List ℕ → Reading
  read_from at total sections bytes = judge total G.start sections (frames_from at bytes)

  -- THE DEFINITION: what a stream of these bytes means, once it is ended, where its HEADERS frames decode to these sections.
  -- (The sections of a stream are the blocks given while one was due and not answered 6.)
  unfoldable pub read : List Section → List ℕ → Reading
  read sections bytes = read_from 0 (length bytes) sections bytes

-- ---- what a reading holds

unfoldable pub contents : List Saying → List ℕ
contents [] = []
contents (header h u ∷ xs) = contents xs
contents (refused h ∷ xs) = contents xs
contents (section_byte b ∷ xs) = contents xs
contents (content_byte b ∷ xs) = b ∷ contents xs
contents (frame_kept k p ∷ xs) = contents xs

-- the bytes of the header section: section bytes up to the trailers
unfoldable pub header_bytes : List Saying → List ℕ
header_bytes [] = []
header_bytes (header h content ∷ xs) = header_bytes xs
header_bytes (header h skipped ∷ xs) = header_bytes xs
header_bytes (header h (section header_section) ∷ xs) = header_bytes xs
header_bytes (header h (section trailers) ∷ xs) = []
header_bytes (header h (kept k) ∷ xs) = header_bytes xs
header_bytes (refused h ∷ xs) = header_bytes xs
header_bytes (section_byte b ∷ xs) = b ∷ header_bytes xs
header_bytes (content_byte b ∷ xs) = header_bytes xs
header_bytes (frame_kept k p ∷ xs) = header_bytes xs

unfoldable pub section_bytes_of : List Saying → List ℕ
section_bytes_of [] = []
section_bytes_of (header h u ∷ xs) = section_bytes_of xs
section_bytes_of (refused h ∷ xs) = section_bytes_of xs
section_bytes_of (section_byte b ∷ xs) = b ∷ section_bytes_of xs
section_bytes_of (content_byte b ∷ xs) = section_bytes_of xs
section_bytes_of (frame_kept k p ∷ xs) = section_bytes_of xs

pub record Accepted : Type 0 where
  pub header : Header
  pub purpose : Use

unfoldable pub accepted : List Saying → List Accepted
accepted [] = []
accepted (header h u ∷ xs) = record { header = h; purpose = u } ∷ accepted xs
accepted (refused h ∷ xs) = accepted xs
accepted (section_byte b ∷ xs) = accepted xs
accepted (content_byte b ∷ xs) = accepted xs
accepted (frame_kept k p ∷ xs) = accepted xs
