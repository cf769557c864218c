-- Edges of Block: readable blocks, and each flaw with the near misses of it.
-- Each list is a claim, computed; what it says was worked out by hand from document 01. Assumes nothing.
use Rattle.std.specs.Prelude.{refl, ℕ, List, [], ◌∷◌, ◌++◌, map}
use Prim.Native.String.{String}
use Rattle.rules.specs.Text.{ascii, nibble, hex_from, hex}
use Rattle.rules.specs.Block.{Line, Section, Flaw, readable, unreadable, other_kind, short_length, long_name, cut_record}
use Rattle.rules.specs.Worked.{block, lines_are, Worked, answer, Holds, asks, long}

abbrev lines_of : (bytes : List ℕ) → Section → Worked
lines_of bytes s = asks (block bytes) (lines_are (readable s))

abbrev unread : Flaw → List String → List Worked
unread f blocks = map (λ b. asks (block (hex b)) (lines_are (unreadable f))) blocks

abbrev pub line : (number at : ℕ) (name value : List ℕ) → Line
line n at name value = record { number = n; at = at; name = name; value = value }

-- `:method` GET
abbrev example : String
example = "0E 00 01 00 07 00 3A 6D 65 74 68 6F 64 47 45 54"

abbrev two_more : String
two_more = "06 00 01 00 01 00 61 62 04 00 01 00 00 00"

pub blocks_read : Holds (
    lines_of [] []
    ∷ lines_of (hex example) (line 0 0 (ascii ":method") (ascii "GET") ∷ [])
    ∷ lines_of (hex example ++ hex two_more) (line 0 0 (ascii ":method") (ascii "GET") ∷ line 1 16 (ascii "a") (ascii "b") ∷ line 2 24 [] [] ∷ [])
    ∷ lines_of (hex two_more ++ hex example) (line 0 0 (ascii "a") (ascii "b") ∷ line 1 8 [] [] ∷ line 2 14 (ascii ":method") (ascii "GET") ∷ [])
    -- an empty name; bytes that are readable, though not sound
    ∷ lines_of (hex "05 00 01 00 00 00 63") (line 0 0 [] (ascii "c") ∷ [])
    ∷ lines_of (hex "06 00 01 00 01 00 00 FF") (line 0 0 (hex "00") (hex "FF") ∷ [])
    -- a name as long as its record allows
    ∷ lines_of (hex "05 00 01 00 01 00 61") (line 0 0 (ascii "a") [] ∷ [])
    ∷ lines_of (hex "07 00 01 00 03 00 61 62 63") (line 0 0 (ascii "abc") [] ∷ [])
    -- numbers above 255: a length of 261 and the place behind that record, a name of 256
    ∷ lines_of (hex "05 01 01 00 01 00 61" ++ long 256 ++ hex "05 00 01 00 01 00 63") (line 0 0 (ascii "a") (long 256) ∷ line 1 263 (ascii "c") [] ∷ [])
    ∷ lines_of (hex "04 01 01 00 00 01" ++ long 256) (line 0 0 (long 256) [] ∷ [])
    ∷ []
    )
unfolding answer hex hex_from nibble ascii
blocks_read = refl

-- the last three: before a longer name; the first bad record decides
abbrev other_kinds : List String
other_kinds =
    "04 00 00 00 00 00"
    ∷ "04 00 02 00 00 00"
    ∷ "04 00 00 01 00 00"
    ∷ "04 00 01 01 00 00"
    ∷ "04 00 02 00 01 00"
    ∷ "04 00 02 00 00 00 04"
    ∷ "06 00 01 00 01 00 61 62 04 00 02 00 00 00"
    ∷ []

-- the last two: before the cut; in a later record
abbrev short_lengths : List String
short_lengths =
    "00 00"
    ∷ "01 00 01"
    ∷ "02 00 01 00"
    ∷ "03 00 01 00 00"
    ∷ "03 00"
    ∷ "06 00 01 00 01 00 61 62 03 00 01 00 00"
    ∷ []

abbrev long_names : List String
long_names =
    "04 00 01 00 01 00"
    ∷ "05 00 01 00 02 00 61"
    ∷ "07 00 01 00 04 00 61 62 63"
    ∷ "05 00 01 00 01 01 61"
    ∷ "05 00 01 00 02 00 61 62"
    ∷ []

-- the last three: before another kind; with a stray byte at the end, or two
abbrev cut_records : List String
cut_records =
    "04"
    ∷ "04 00"
    ∷ "04 00 01 00 00"
    ∷ "05 00 01 00 00 00"
    ∷ "00 04 01 00 00 00"
    ∷ "05 00 02 00 00 00"
    ∷ "0E 00 01 00 07 00 3A 6D 65 74 68 6F 64 47 45 54 00"
    ∷ "0E 00 01 00 07 00 3A 6D 65 74 68 6F 64 47 45 54 0E 00"
    ∷ []

pub blocks_unread : Holds (
    unread other_kind other_kinds ++ unread short_length short_lengths ++ unread long_name long_names ++ unread cut_record cut_records
    )
unfolding answer hex hex_from nibble
blocks_unread = refl
