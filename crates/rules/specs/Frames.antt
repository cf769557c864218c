-- Frames (document 01, "Frames"; RFC 9114 section 7.1): the bytes of a stream as frames, before any type is judged.
-- Offsets count from the start of the stream. Assumes nothing.
use Rattle.std.specs.Prelude.{ℕ, zero, suc, ◌+◌, List, [], ◌∷◌, true, false, ltb, length, take, drop}
use Rattle.rules.specs.Integers.{cut, got, integer}

-- A frame header: the offset of the frame, the offset of its payload, the type, and the length of the payload.
-- (Integers need not be in their shortest form, so neither offset can be inferred from the other.)
pub record Header : Type 0 where
  pub at : ℕ
  pub from : ℕ
  pub type : ℕ
  pub len : ℕ

-- At the end the bytes may stop between two frames, inside a header, or inside a payload.
pub data Frames : Type 0 where
  none : Frames
  in_header : Frames
  in_payload : Header → (part : List ℕ) → Frames
  frame : Header → (payload : List ℕ) → Frames → Frames

-- A frame is a header, then a payload, after which a header comes again.
-- `fuel` bounds the number of frames: a frame takes two bytes or more, so the number of bytes is enough.
unfoldable pub frames_up_to : (fuel at : ℕ) → List ℕ → Frames
frames_up_to zero at bs = none
frames_up_to (suc fuel) at [] = none
frames_up_to (suc fuel) at (b ∷ bs) =
    elim (integer at (b ∷ bs)) [
      | cut ↦ in_header
      | got type here rest ↦ elim (integer here rest) [
        | cut ↦ in_header
        | got len from pay ↦ elim (ltb (length pay) len) [
          | true ↦ in_payload (record { at = at; from = from; type = type; len = len }) pay
          | false ↦ frame (record { at = at; from = from; type = type; len = len }) (take len pay) (frames_up_to fuel (from + len) (drop len pay))
        ]
      ]
    ]

-- the frames from an offset on
unfoldable pub frames_from : (at : ℕ) → List ℕ → Frames
frames_from at bs = frames_up_to (length bs) at bs
