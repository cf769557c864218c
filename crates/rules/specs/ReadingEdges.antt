-- Edges of Frames and Reading: the frame headers of a request stream, its section bytes, and all that its reading says.
-- Each list is a claim, computed; what it says was worked out by hand from document 01. Assumes nothing.
use Rattle.std.specs.Prelude.{refl, ℕ, List, [], ◌∷◌}
use Prim.Native.String.{String}
use Rattle.rules.specs.Text.{nibble, hex_from, hex}
use Rattle.rules.specs.Reading.{Use, content, skipped, section, header_section as as-header-section, trailers as as-trailers, Saying, header, refused as header_refused, section_byte, content_byte, Accepted}
use Rattle.rules.specs.Frames.{Header as FrameHeader}
use Rattle.rules.specs.Worked.{request_headers, request_sections, request_header_bytes, request_says, headers_are, says_all, bytes_are, Worked, answer, Holds, asks}

-- a frame header: offset, offset of the payload, type, length; one that is accepted, and its use
abbrev pub head : (at from type len : ℕ) → FrameHeader
head at from type len = record { at = at; from = from; type = type; len = len }

abbrev accepts : (at from type len : ℕ) → Use → Accepted
accepts at from type len u = record { header = head at from type len; purpose = u }

abbrev lists : String → List Accepted → Worked
lists bytes headers = asks (request_headers (hex bytes)) (headers_are headers)

abbrev hands_on : (bytes come : String) → Worked
hands_on bytes come = asks (request_sections (hex bytes)) (bytes_are (hex come))

abbrev hands_on_first : (bytes come : String) → Worked
hands_on_first bytes come = asks (request_header_bytes (hex bytes)) (bytes_are (hex come))

-- the lister's lines; what goes to the decoder
pub request_lines : Holds (
    lists "01 01 00 00 03 61 62 63 21 00" (accepts 0 2 1 1 (section as-header-section) ∷ accepts 3 5 0 3 content ∷ accepts 8 10 33 0 skipped ∷ [])
    ∷ lists "21 00 01 00 00 00" (accepts 0 2 33 0 skipped ∷ accepts 2 4 1 0 (section as-header-section) ∷ accepts 4 6 0 0 content ∷ [])
    ∷ lists "01 00 01 02 00 00 21 00" (accepts 0 2 1 0 (section as-header-section) ∷ accepts 2 4 1 2 (section as-trailers) ∷ accepts 6 8 33 0 skipped ∷ [])
    ∷ lists "40 01 80 00 00 01 00 C0 00 00 00 00 00 00 21 40 00" (accepts 0 6 1 1 (section as-header-section) ∷ accepts 7 17 33 0 skipped ∷ [])
    -- a cut payload has its line; a refused header and a cut one have none
    ∷ lists "01 01 00 00 03 61" (accepts 0 2 1 1 (section as-header-section) ∷ accepts 3 5 0 3 content ∷ [])
    ∷ lists "01 01 00 00" (accepts 0 2 1 1 (section as-header-section) ∷ [])
    ∷ lists "01 01 00 04 00 21 00" (accepts 0 2 1 1 (section as-header-section) ∷ [])
    ∷ lists "00 00" []
    ∷ lists "" []
    -- section bytes, of header section and trailers, and of a cut one as far as it came
    ∷ hands_on "01 02 AA BB 00 01 61 21 01 62 01 01 CC" "AA BB CC"
    ∷ hands_on_first "01 02 AA BB 00 01 61 21 01 62 01 01 CC" "AA BB"
    ∷ hands_on_first "21 01 62 01 02 AA BB 01 01 CC 21 01 62" "AA BB"
    ∷ hands_on_first "01 00 01 01 CC" ""
    ∷ hands_on "01 03 AA BB" "AA BB"
    ∷ hands_on_first "01 03 AA BB" "AA BB"
    ∷ hands_on "01 00 01 80 00 40 01 AA" ""
    ∷ hands_on "00 01 61" ""
    ∷ []
    )
unfolding answer hex hex_from nibble
request_lines = refl

-- a request's reading, whole
abbrev says : String → List Saying → Worked
says bytes sayings = asks (request_says (hex bytes)) (says_all sayings)

-- an empty HEADERS, the first frame
abbrev headed : List Saying → List Saying
headed more = header (head 0 2 1 0) (section as-header-section) ∷ more

pub request_sayings : Holds (
    says "" []
    ∷ says "01" []
    ∷ says "00 00" (header_refused (head 0 2 0 0) ∷ [])
    ∷ says "01 02 AA" (header (head 0 2 1 2) (section as-header-section) ∷ section_byte 0xaa ∷ [])
    ∷ says "21 01 62 01 00" (header (head 0 2 33 1) skipped ∷ header (head 3 5 1 0) (section as-header-section) ∷ [])
    ∷ says "01 00 00 02 61 62" (headed (header (head 2 4 0 2) content ∷ content_byte 0x61 ∷ content_byte 0x62 ∷ []))
    ∷ says "01 00 01 01 AA 21 00" (headed (header (head 2 4 1 1) (section as-trailers) ∷ section_byte 0xaa ∷ header (head 5 7 33 0) skipped ∷ []))
    ∷ says "01 00 04 40 00 00 01 61" (headed (header_refused (head 2 5 4 0) ∷ []))
    ∷ says "01 00 01 00 01 02 AA" (headed (header (head 2 4 1 0) (section as-trailers) ∷ header_refused (head 4 6 1 2) ∷ []))
    ∷ []
    )
unfolding answer hex hex_from nibble
request_sayings = refl
