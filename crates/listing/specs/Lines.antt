-- The line at a place, and the lines from there on. Assumes nothing.
use Rattle.std.specs.Prelude.{Option, Some, None, ℕ, zero, suc, ◌+◌, List, [], ◌∷◌, true, false, ltb, length, drop}
use Rattle.std.proofs.Math.Option.{none}
use Rattle.rules.specs.Numbers.{code_number}
use Rattle.rules.specs.Frames.{Header, Frames, Frames.none as no_more, in_header, in_payload, frame, frames_from}
use Rattle.rules.specs.Reading.{Use, content, skipped, section, kept, header_section, trailers, Ruling, refuse, accept, End, complete, lacking}
use Rattle.rules.specs.Message.{Message, opening, body, trailed}
use Rattle.rules.specs.Request.{rule}
use Rattle.listing.specs.Listing.{Entry, heading, whole, refused, too_long, limit, stream}
use Rattle.listing.specs.Listing as listing
use Rattle.listing.specs.declared.Phase.{Phase}
use Rattle.listing.specs.declared.Phase.TheVariants.{Opening, Body, Trailed}
use Rattle.listing.specs.declared.Place.{Place}
use Rattle.listing.specs.declared.Usage.{Usage}
use Rattle.listing.specs.declared.Usage.TheVariants.{Skipped, Content, HeaderSection, Trailers}
use Rattle.listing.specs.declared.Line.{Line}
use Rattle.listing.specs.declared.Line.TheVariants.{Heading, Frame, Whole, Refused, TooLong}

-- ---- a place

abbrev pub place : (at : ℕ) → Option Phase → (sum : ℕ) → Place
place at phase sum = record { at = at; phase = phase; sum = sum }

abbrev pub first : Place
first = place 0 None 0

-- in the frame table's numbers; 3 before the heading
abbrev pub phase_number : Option Phase → ℕ
phase_number None = 3
phase_number (Some Opening) = 0
phase_number (Some Body) = 1
phase_number (Some Trailed) = 2

-- where the message is
unfoldable pub message_of : (phase sum : ℕ) → Message
message_of zero sum = opening
message_of (suc zero) sum = body none sum
message_of (suc (suc k)) sum = trailed none sum

-- behind a frame of this use
unfoldable pub after : Use → (to len : ℕ) → Place → Place
after content to len p = place to p.phase (p.sum + len)
after skipped to len p = place to p.phase p.sum
after (section header_section) to len p = place to (Some Body) 0
after (section trailers) to len p = place to (Some Trailed) p.sum
after (kept k) to len p = p

-- (a request stream keeps no frame)
unfoldable pub usage_of : Use → Usage
usage_of content = Content
usage_of skipped = Skipped
usage_of (section header_section) = HeaderSection
usage_of (section trailers) = Trailers
usage_of (kept k) = Skipped

-- ---- the line there

unfoldable pub line_of : Place → Header → Ruling Message → Line
line_of p h (refuse code) = Refused h.from (code_number code)
line_of p h (accept u q) = Frame h.at h.type h.len (usage_of u) (after u (h.from + h.len) h.len p)

-- a header, by the rules' own ruling
unfoldable pub ruled_line : Place → Header → Line
ruled_line p h = line_of p h (rule (message_of (phase_number p.phase) p.sum) h.type h.len)

unfoldable pub end_of : (total : ℕ) → End → Line
end_of total complete = Whole total
end_of total (lacking code) = Refused total (code_number code)

unfoldable pub end_line : (total : ℕ) → Place → Line
end_line total p = end_of total (stream.end (message_of (phase_number p.phase) p.sum))

-- the first of the frames from here on
unfoldable pub line_in : (total : ℕ) → Place → Frames → Line
line_in total p no_more = end_line total p
line_in total p in_header = Refused total (code_number stream.cut)
line_in total p (in_payload h part) = ruled_line p h
line_in total p (frame h payload fs) = ruled_line p h

unfoldable pub line_from : List ℕ → Place → Line
line_from s p = elim (ltb (length s) p.at) [ true ↦ Refused (length s) (code_number stream.cut) | false ↦ line_in (length s) p (frames_from p.at (drop p.at s)) ]

-- THE LINE at a place of an input
unfoldable pub line_at : List ℕ → Place → Line
line_at s p = elim (ltb limit (length s)) [
  | true ↦ TooLong
  | false ↦ elim (ltb 2 (phase_number p.phase)) [ true ↦ Heading (place p.at (Some Opening) p.sum) | false ↦ line_from s p ]
]

-- ---- from line to line

unfoldable pub use_of : Usage → Use
use_of Content = content
use_of Skipped = skipped
use_of HeaderSection = section header_section
use_of Trailers = section trailers

-- what a line says
unfoldable pub entry_of : Line → Entry
entry_of (Heading next) = heading
entry_of (Frame at type len usage next) = listing.frame at type len (use_of usage)
entry_of (Whole total) = whole total
entry_of (Refused bytes code) = refused bytes code
entry_of TooLong = too_long

-- where the listing goes on
abbrev pub next_of : Line → Option Place
next_of (Heading next) = Some next
next_of (Frame at type len usage next) = Some next
next_of (Whole total) = None
next_of (Refused bytes code) = None
next_of TooLong = None

-- and what comes behind it: nothing behind a last line
unfoldable pub behind : (Place → List Entry) → Line → List Entry
behind rest (Heading next) = rest next
behind rest (Frame at type len usage next) = rest next
behind rest (Whole total) = []
behind rest (Refused bytes code) = []
behind rest TooLong = []

abbrev pub with_rest : (Place → List Entry) → Line → List Entry
with_rest rest line = entry_of line ∷ behind rest line

-- the lines read one by one from a place on, each from where the one before it says, up to a last line or so many
unfoldable pub lines_from : (most : ℕ) → List ℕ → Place → List Entry
lines_from zero s p = []
lines_from (suc k) s p = with_rest (lines_from k s) (line_at s p)
