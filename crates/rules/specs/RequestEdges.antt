-- Edges of Request: each cell of the frame table, the length of HEADERS and one past it, each end; and streams whose sections are judged.
-- Each list is a claim, computed; what it says was worked out by hand from document 01. Assumes nothing.
use Rattle.std.specs.Prelude.{refl, ℕ, ◌+◌, ◌-◌, List, [], ◌∷◌, ◌++◌, map}
use Rattle.std.proofs.Math.Option.{none, some}
use Prim.Native.String.{String}
use Rattle.rules.specs.Text.{ascii, nibble, hex_from, hex}
use Rattle.rules.specs.Block.{Section}
use Rattle.rules.specs.Section.{size_limit, size}
use Rattle.rules.specs.Reading.{Verdict, whole, fault, waits}
use Rattle.rules.specs.Message.{content_limit}
use Rattle.rules.specs.Request.{headers_limit}
use Rattle.rules.specs.Numbers.{number_of, rows, named_in, named, code_in, coded}
use Rattle.rules.specs.Worked.{request_stream, request_with, request_is, Worked, answer, stream, Holds, asks, long}
use Rattle.rules.specs.SectionEdges.{◌⇒◌, raw, asking, get, get_with, stating, left}

-- a request of these bytes, without Content-Length and without content
abbrev request : (bytes : List ℕ) → Verdict → Worked
request bytes v = asks (request_stream none 2 bytes) (request_is [] v)

-- each of some frames, alone behind some bytes
abbrev behind : (before : String) → Verdict → (frames : List String) → List Worked
behind before v frames = map (λ f. request (hex before ++ hex f) v) frames

-- frames of length 0, and of length 1 with their payload: of the types that a request stream never takes, and of those that are skipped
abbrev forbidden_empty : List String
forbidden_empty = "02 00" ∷ "03 00" ∷ "04 00" ∷ "05 00" ∷ "06 00" ∷ "07 00" ∷ "08 00" ∷ "09 00" ∷ "0D 00" ∷ []

abbrev forbidden_long : List String
forbidden_long = "02 01 00" ∷ "03 01 00" ∷ "04 01 00" ∷ "05 01 00" ∷ "06 01 00" ∷ "07 01 00" ∷ "08 01 00" ∷ "09 01 00" ∷ "0D 01 00" ∷ []

abbrev pub others_empty : List String
others_empty = "0A 00" ∷ "0B 00" ∷ "0C 00" ∷ "0E 00" ∷ "21 00" ∷ []

abbrev pub others_long : List String
others_long = "0A 01 00" ∷ "0B 01 00" ∷ "0C 01 00" ∷ "0E 01 00" ∷ "21 01 00" ∷ []

pub request_table : Holds (
    -- before the header section
    behind "" (fault (coded 0x0105) 2) ("00 00" ∷ "00 01 00" ∷ [])
    ++ behind "" whole ("01 00" ∷ "01 01 00" ∷ [])
    ++ behind "" (fault (coded 0x0105) 2) forbidden_empty
    ++ behind "" (fault (coded 0x0105) 2) forbidden_long
    ++ behind "" (fault (coded 0x010d) 2) others_empty
    ++ behind "" (fault (coded 0x010d) 3) others_long
    -- (0xF0700, 2^62 - 1; 256, 257, 2^32 and 2^32 + 1, whose low bytes are those of known types)
    ++ behind "" (fault (coded 0x010d) 5) ("80 0F 07 00 00" ∷ [])
    ++ behind "" (fault (coded 0x010d) 9) ("FF FF FF FF FF FF FF FF 00" ∷ "C0 00 00 01 00 00 00 00 00" ∷ "C0 00 00 01 00 00 00 01 00" ∷ [])
    ++ behind "" (fault (coded 0x010d) 3) ("41 00 00" ∷ "41 01 00" ∷ "40 40 00" ∷ [])
    -- behind the header section
    ++ behind "01 01 00" whole ("00 00" ∷ "01 00" ∷ "01 01 00" ∷ [])
    ++ behind "01 01 00" (fault (coded 0x0105) 5) forbidden_empty
    ++ behind "01 01 00" (fault (coded 0x0105) 5) forbidden_long
    ++ behind "01 01 00" whole others_empty
    ++ behind "01 01 00" whole others_long
    ++ behind "01 01 00" whole ("FF FF FF FF FF FF FF FF 00" ∷ "FF FF FF FF FF FF FF FF 01 00" ∷ "80 0F 07 00 02 00 75" ∷ "41 00 01 00" ∷ "41 01 01 00" ∷ [])
    -- behind trailers
    ++ behind "01 01 00 01 01 00" (fault (coded 0x0105) 8) ("00 00" ∷ "00 01 00" ∷ "01 00" ∷ "01 01 00" ∷ [])
    ++ behind "01 01 00 01 01 00" (fault (coded 0x0105) 8) forbidden_empty
    ++ behind "01 01 00 01 01 00" (fault (coded 0x0105) 8) forbidden_long
    ++ behind "01 01 00 01 01 00" whole others_empty
    ++ behind "01 01 00 01 01 00" whole others_long
    ++ behind "01 01 00 01 01 00" whole ("FF FF FF FF FF FF FF FF 00" ∷ "80 0F 07 00 02 00 75" ∷ "41 00 01 00" ∷ "41 01 01 00" ∷ [])
    -- types and lengths in other than the shortest form
    ++ behind "" (fault (coded 0x0105) 3) ("40 00 00" ∷ "40 04 00" ∷ "40 0D 00" ∷ "00 40 00" ∷ "07 40 00" ∷ [])
    ++ behind "" (fault (coded 0x0105) 5) ("80 00 00 09 00" ∷ "02 80 00 00 00" ∷ [])
    ++ behind "" (fault (coded 0x0105) 9) ("C0 00 00 00 00 00 00 03 00" ∷ "03 C0 00 00 00 00 00 00 00" ∷ [])
    ++ behind "" (fault (coded 0x010d) 3) ("40 0A 00" ∷ "40 21 00" ∷ "21 40 00" ∷ [])
    ++ behind "01 01 00 01 01 00" (fault (coded 0x0105) 9) ("40 00 00" ∷ "40 01 00" ∷ "00 40 00" ∷ [])
    )
unfolding answer hex hex_from nibble number_of rows named_in named code_in coded
request_table = refl

pub request_positions : Holds (
    stream none "01 01 00 00 01 61" "61" whole
    ∷ stream none "01 01 00 00 01 61 00 01 62" "61 62" whole
    ∷ stream none "01 01 00 00 01 61 01 01 00" "61" whole
    ∷ stream none "01 01 00 00 01 61 01 01 00 00 00" "61" (fault (coded 0x0105) 11)
    ∷ stream none "01 01 00 00 01 61 01 01 00 01 00" "61" (fault (coded 0x0105) 11)
    ∷ stream none "01 01 00 00 01 61 04 00" "61" (fault (coded 0x0105) 8)
    -- skipped frames are anywhere and are no content; the position is that of the known types
    ∷ stream none "21 01 61 01 01 00 21 01 61 00 01 62 21 01 61 01 01 00 21 01 61" "62" whole
    ∷ stream none "21 00 00 00" "" (fault (coded 0x0105) 4)
    ∷ stream none "21 00 01 00 21 00 01 00 21 00 01 00" "" (fault (coded 0x0105) 12)
    -- types and lengths in other than the shortest form
    ∷ stream none "40 01 40 01 00 40 00 40 01 61" "61" whole
    ∷ stream none "80 00 00 01 80 00 00 00 80 00 00 00 80 00 00 01 61" "61" whole
    ∷ stream none "C0 00 00 00 00 00 00 01 C0 00 00 00 00 00 00 00 C0 00 00 00 00 00 00 00 C0 00 00 00 00 00 00 01 61" "61" whole
    ∷ []
    )
unfolding answer hex hex_from nibble number_of rows named_in named code_in coded
request_positions = refl

pub request_limits : Holds (
    -- a header is judged at its last byte, and no sooner
    behind "" (fault (coded 0x0106) 1) ("00" ∷ "01" ∷ "04" ∷ "0D" ∷ "21" ∷ "40" ∷ "C0" ∷ [])
    ++ behind "" (fault (coded 0x0106) 2) ("00 40" ∷ "04 40" ∷ "40 04" ∷ "80 00" ∷ [])
    ++ behind "01 01 00 01 01 00" (fault (coded 0x0106) 7) ("00" ∷ "01" ∷ "04" ∷ "21" ∷ [])
    -- position before length
    ++ behind "" (fault (coded 0x0105) 9) ("00 FF FF FF FF FF FF FF FF" ∷ "04 FF FF FF FF FF FF FF FF" ∷ "07 FF FF FF FF FF FF FF FF" ∷ [])
    ++ behind "01 01 00 01 01 00" (fault (coded 0x0105) 11) ("01 80 00 40 01" ∷ "00 80 10 00 01" ∷ [])
    -- HEADERS: 16,384 bytes, and one more
    ++ behind "" (fault (coded 0x0106) 5) ("01 80 00 40 00" ∷ [])
    ++ behind "" (fault (coded 0x0107) 5) ("01 80 00 40 01" ∷ "01 BF FF FF FF" ∷ [])
    ++ behind "" (fault (coded 0x0106) 9) ("01 C0 00 00 00 00 00 40 00" ∷ [])
    ++ behind "" (fault (coded 0x0107) 9) ("01 C0 00 00 00 00 00 40 01" ∷ "01 FF FF FF FF FF FF FF FF" ∷ [])
    ++ behind "01 01 00" (fault (coded 0x0106) 8) ("01 80 00 40 00" ∷ [])
    ++ behind "01 01 00" (fault (coded 0x0107) 8) ("01 80 00 40 01" ∷ [])
    -- a skipped frame has no limit
    ++ behind "" (fault (coded 0x0106) 9) ("21 FF FF FF FF FF FF FF FF" ∷ [])
    ++ behind "01 01 00" (fault (coded 0x0106) 12) ("21 FF FF FF FF FF FF FF FF" ∷ [])
    )
unfolding answer hex hex_from nibble number_of rows named_in named code_in coded
request_limits = refl

pub headers_at_limit : Holds (
    request (hex "01 80 00 40 00" ++ long headers_limit) whole
    ∷ request (hex "01 80 00 40 00" ++ long (headers_limit - 1)) (fault (coded 0x0106) (4 + headers_limit))
    ∷ request (hex "01 01 00 01 80 00 40 00" ++ long headers_limit) whole
    ∷ request (hex "01 80 00 40 01" ++ long (headers_limit + 1)) (fault (coded 0x0107) 5)
    ∷ []
    )
unfolding answer hex hex_from nibble number_of rows named_in named code_in coded headers_limit
headers_at_limit = refl

-- an end inside a frame comes before no header section
pub request_cuts : Holds (
    behind "" (fault (coded 0x010d) 0) ("" ∷ [])
    ++ behind "" (fault (coded 0x0106) 2) ("21 05" ∷ "01 01" ∷ "01 40" ∷ [])
    ++ behind "" (fault (coded 0x0106) 3) ("21 05 00" ∷ "01 02 00" ∷ "21 00 21" ∷ "21 00 40" ∷ [])
    ++ behind "" (fault (coded 0x010d) 4) ("21 00 21 00" ∷ "21 02 61 62" ∷ [])
    )
unfolding answer hex hex_from nibble number_of rows named_in named code_in coded
request_cuts = refl

-- a request stream, so many of whose sections are there
abbrev waiting : (sections : ℕ) (bytes come : String) → Verdict → Worked
waiting n bytes come v = asks (request_stream none n (hex bytes)) (request_is (hex come) v)

pub request_ends : Holds (
    -- an end inside a frame comes before an unequal sum
    stream (some 4) "01 01 00 00 03 61 62" "61 62" (fault (coded 0x0106) 7)
    ∷ stream (some 4) "01 01 00 00 02 61 62 00" "61 62" (fault (coded 0x0106) 8)
    ∷ stream (some 4) "01 01 00 00 02 61 62 01 01" "61 62" (fault (coded 0x0106) 9)
    ∷ stream (some 4) "01 01 00 21 01" "" (fault (coded 0x0106) 5)
    ∷ stream none "01 01 00 00" "" (fault (coded 0x0106) 4)
    ∷ stream none "01 01 00 01 01" "" (fault (coded 0x0106) 5)
    ∷ stream none "01 01 00 00 01" "" (fault (coded 0x0106) 5)
    -- the sum
    ∷ stream (some 0) "01 01 00" "" whole
    ∷ stream (some 0) "01 01 00 00 00" "" whole
    ∷ stream (some 1) "01 01 00" "" (fault (coded 0x010e) 3)
    ∷ stream (some 1) "01 01 00 00 00 21 00" "" (fault (coded 0x010e) 7)
    ∷ stream (some content_limit) "01 01 00 00 01 61" "61" (fault (coded 0x010e) 6)
    ∷ stream (some 3) "01 01 00 00 02 61 62 01 01 00" "61 62" (fault (coded 0x010e) 10)
    ∷ stream (some 2) "01 01 00 00 02 61 62 01 01 00" "61 62" whole
    ∷ stream none "01 01 00 00 02 61 62 01 01 00" "61 62" whole
    -- a section is due and none is there: nothing behind its frame is read
    ∷ waiting 0 "01 01 00" "" (waits 3)
    ∷ waiting 0 "01 00" "" (waits 2)
    ∷ waiting 0 "21 00 01 00" "" (waits 4)
    ∷ waiting 0 "01 01 00 00 01 61" "" (waits 3)
    ∷ waiting 0 "01 01 00 04 00" "" (waits 3)
    ∷ waiting 0 "01 01 00 00" "" (waits 3)
    ∷ waiting 0 "01 01" "" (fault (coded 0x0106) 2)
    ∷ waiting 0 "" "" (fault (coded 0x010d) 0)
    ∷ waiting 1 "01 01 00 01 01 00" "" (waits 6)
    ∷ waiting 1 "01 00 01 00" "" (waits 4)
    ∷ waiting 1 "01 01 00 00 01 61 01 01 00 00 00" "61" (waits 9)
    ∷ waiting 1 "01 01 00 00 01 61" "61" whole
    ∷ []
    )
unfolding answer hex hex_from nibble number_of rows named_in named code_in coded content_limit
request_ends = refl

abbrev with_sections : List Section → (bytes come : String) → Verdict → Worked
with_sections sections bytes come v = asks (request_with sections (hex bytes)) (request_is (hex come) v)

pub judged_streams : Holds (
    with_sections (get ∷ []) "01 01 00" "" whole
    ∷ with_sections (get ∷ []) "01 01 00 00 02 61 62" "61 62" whole
    ∷ with_sections (get ∷ [] ∷ []) "01 01 00 00 02 61 62 01 01 00" "61 62" whole
    ∷ with_sections (get ∷ ("x" ⇒ "y" ∷ []) ∷ []) "01 00 01 00 21 00" "" whole
    -- the Content-Length that the section states
    ∷ with_sections (stating "3" ∷ []) "01 01 00 00 03 61 62 63" "61 62 63" whole
    ∷ with_sections (stating "003" ∷ []) "01 01 00 00 04 61 62 63 64" "" (fault (coded 0x010e) 5)
    ∷ with_sections (stating "3" ∷ []) "01 01 00 00 02 61 62" "61 62" (fault (coded 0x010e) 7)
    ∷ with_sections (stating "3" ∷ [] ∷ []) "01 01 00 00 02 61 62 01 01 00" "61 62" (fault (coded 0x010e) 10)
    ∷ with_sections (stating "0" ∷ []) "01 01 00" "" whole
    ∷ with_sections (stating "1048576" ∷ []) "01 01 00 00 80 10 00 00" "" (fault (coded 0x0106) 8)
    ∷ with_sections (stating "1048576" ∷ []) "01 01 00 00 80 10 00 01" "" (fault (coded 0x010e) 8)
    ∷ with_sections (get ∷ []) "01 01 00 00 80 10 00 01" "" (fault (coded 0x010c) 8)
    -- a refused section, at the last byte of its frame
    ∷ with_sections ([] ∷ []) "01 01 00" "" (fault (coded 0x010e) 3)
    ∷ with_sections (get_with ("te" ⇒ "gzip" ∷ []) ∷ []) "21 00 01 02 00 00 00 00" "" (fault (coded 0x010e) 6)
    ∷ with_sections (asking "CONNECT" "https" "a" "/" ∷ []) "01 00 04 00" "" (fault (coded 0x010b) 2)
    ∷ with_sections (asking "GET" "ftp" "a" "/" ∷ []) "01 01 00" "" (fault (coded 0x010b) 3)
    ∷ with_sections (stating "1048577" ∷ []) "01 01 00" "" (fault (coded 0x010b) 3)
    ∷ with_sections (get_with (raw (ascii "x") (long (left get)) ∷ []) ∷ []) "01 01 00" "" (fault (coded 0x010e) 3)
    -- trailers are judged as trailers, whatever is behind them
    ∷ with_sections (get ∷ get ∷ []) "01 01 00 01 01 00" "" (fault (coded 0x010e) 6)
    ∷ with_sections (get ∷ (":status" ⇒ "200" ∷ []) ∷ []) "01 01 00 00 01 61 01 01 00 00 00" "61" (fault (coded 0x010e) 9)
    ∷ with_sections (stating "3" ∷ ("content-length" ⇒ "3" ∷ []) ∷ []) "01 01 00 00 01 61 01 01 00" "61" (fault (coded 0x010e) 9)
    -- none is there
    ∷ with_sections [] "01 01 00 00 00" "" (waits 3)
    ∷ with_sections (get ∷ []) "01 01 00 01 01 00 00 00" "" (waits 6)
    -- a frame fault comes before any section that is due behind it
    ∷ with_sections [] "04 00 01 00" "" (fault (coded 0x0105) 2)
    ∷ with_sections (get ∷ []) "01 01 00 01 80 00 40 01" "" (fault (coded 0x0107) 8)
    ∷ []
    )
unfolding answer hex hex_from nibble ascii number_of rows named_in named code_in coded size_limit size
judged_streams = refl
