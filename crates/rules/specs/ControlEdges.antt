-- Edges of Control: each cell of the frame table, each payload of one integer, SETTINGS pair by pair, and what is kept of them.
-- Each list is a claim, computed; what it says was worked out by hand from document 01. Assumes nothing.
use Rattle.std.specs.Prelude.{refl, ℕ, ◌+◌, List, [], ◌∷◌, ◌++◌, map, length}
use Rattle.std.proofs.Math.Option.{Option, none, some}
use Prim.Native.String.{String}
use Rattle.rules.specs.Text.{nibble, hex_from, hex}
use Rattle.rules.specs.Integers.{largest}
use Rattle.rules.specs.Reading.{Kept, settings as a-settings, goaway, max_push_id, cancel_push, skipped, kept, Next, stop, go, Verdict, fault, Saying, header, refused as header_refused, frame_kept}
use Rattle.rules.specs.Control.{Settings, Control, unset, set, Told, told_settings, told_goaway, told_max_push_id, settings_limit}
use Rattle.rules.specs.OneWay.{of_control}
use Rattle.rules.specs.Numbers.{number_of, rows, named_in, named, code_in, coded}
use Rattle.rules.specs.Worked.{one_way_stream, one_way_says, one_way_tells, control_judges, says_all, one_way_is, tells, control_leaves, Worked, answer, control, Holds, asks}
use Rattle.rules.specs.RequestEdges.{others_empty, others_long}
use Rattle.rules.specs.ReadingEdges.{head}

-- a control stream of these bytes, its type among them; if nothing else is wrong, it is wrong to end
abbrev control_of : (bytes : List ℕ) → Verdict → Worked
control_of bytes v = asks (one_way_stream [] bytes) (one_way_is (of_control (record { said = []; verdict = v })))

abbrev pub control_behind : (before : String) → Verdict → (frames : List String) → List Worked
control_behind before v frames = map (λ f. control_of (hex before ++ hex f) v) frames

-- every type that the table names but SETTINGS; those that are unexpected after it
abbrev named_empty : List String
named_empty = "00 00" ∷ "01 00" ∷ "02 00" ∷ "03 00" ∷ "05 00" ∷ "06 00" ∷ "07 00" ∷ "08 00" ∷ "09 00" ∷ "0D 00" ∷ []

abbrev named_long : List String
named_long = "00 01 00" ∷ "01 01 00" ∷ "02 01 00" ∷ "03 01 00" ∷ "05 01 00" ∷ "06 01 00" ∷ "07 01 00" ∷ "08 01 00" ∷ "09 01 00" ∷ "0D 01 00" ∷ []

abbrev unexpected_empty : List String
unexpected_empty = "00 00" ∷ "01 00" ∷ "02 00" ∷ "04 00" ∷ "05 00" ∷ "06 00" ∷ "08 00" ∷ "09 00" ∷ []

abbrev unexpected_long : List String
unexpected_long = "00 01 00" ∷ "01 01 00" ∷ "02 01 00" ∷ "04 01 00" ∷ "05 01 00" ∷ "06 01 00" ∷ "08 01 00" ∷ "09 01 00" ∷ []

pub control_table : Holds (
    -- the first frame
    control_behind "00" (fault (coded 0x0104) 3) ("04 00" ∷ [])
    ++ control_behind "00" (fault (coded 0x010a) 3) named_empty
    ++ control_behind "00" (fault (coded 0x010a) 3) named_long
    ++ control_behind "00" (fault (coded 0x010a) 3) others_empty
    ++ control_behind "00" (fault (coded 0x010a) 3) others_long
    ++ control_behind "00" (fault (coded 0x010a) 10) ("FF FF FF FF FF FF FF FF 00" ∷ [])
    ++ control_behind "00" (fault (coded 0x010a) 6) ("80 0F 07 00 02 00 75" ∷ [])
    -- 0x010a before all else, but at the header's last byte
    ++ control_behind "00" (fault (coded 0x010a) 3) ("00 3F" ∷ "03 09" ∷ "07 09" ∷ "0D 09" ∷ [])
    ++ control_behind "00" (fault (coded 0x010a) 6) ("01 80 00 40 01" ∷ [])
    ++ control_behind "00" (fault (coded 0x010a) 4) ("05 41 01" ∷ "21 41 01" ∷ "40 07 01" ∷ "41 04 00" ∷ [])
    ++ control_behind "00" (fault (coded 0x0104) 2) ("00" ∷ "07" ∷ "21" ∷ "04" ∷ [])
    ++ control_behind "00" (fault (coded 0x0104) 3) ("07 40" ∷ "40 07" ∷ [])
    ++ control_behind "00" (fault (coded 0x0104) 1) ("" ∷ [])
    -- after SETTINGS
    ++ control_behind "00 04 00" (fault (coded 0x0105) 5) unexpected_empty
    ++ control_behind "00 04 00" (fault (coded 0x0105) 5) unexpected_long
    ++ control_behind "00 04 00" (fault (coded 0x0106) 5) ("03 00" ∷ "07 00" ∷ "0D 00" ∷ [])
    ++ control_behind "00 04 00" (fault (coded 0x0108) 6) ("03 01 00" ∷ [])
    ++ control_behind "00 04 00" (fault (coded 0x0104) 6) ("07 01 00" ∷ "0D 01 00" ∷ [])
    ++ control_behind "00 04 00" (fault (coded 0x0104) 5) others_empty
    ++ control_behind "00 04 00" (fault (coded 0x0104) 6) others_long
    ++ control_behind "00 04 00" (fault (coded 0x0104) 12) ("FF FF FF FF FF FF FF FF 00" ∷ [])
    ++ control_behind "00 04 00" (fault (coded 0x0104) 10) ("80 0F 07 00 02 00 75" ∷ [])
    -- position before length; a skipped frame has no limit; inside a frame is 0x0104 too
    ++ control_behind "00 04 00" (fault (coded 0x0105) 6) ("04 41 2C" ∷ "04 41 01" ∷ "00 41 00" ∷ [])
    ++ control_behind "00 04 00" (fault (coded 0x0105) 8) ("01 80 00 40 01" ∷ [])
    ++ control_behind "00 04 00" (fault (coded 0x0104) 12) ("21 FF FF FF FF FF FF FF FF" ∷ [])
    ++ control_behind "00 04 00" (fault (coded 0x0104) 4) ("00" ∷ "04" ∷ "03" ∷ "21" ∷ "40" ∷ [])
    ++ control_behind "00 04 00" (fault (coded 0x0104) 5) ("00 40" ∷ "40 04" ∷ "21 05" ∷ [])
    -- a skipped frame alters nothing
    ++ control_behind "00 04 00 21 01 04" (fault (coded 0x0105) 8) unexpected_empty
    ++ control_behind "00 04 00 21 01 04" (fault (coded 0x0104) 9) ("07 01 00" ∷ "0D 01 00" ∷ "21 01 00" ∷ [])
    -- types and lengths in other than the shortest form
    ++ control_behind "00" (fault (coded 0x0104) 5) ("40 04 40 00" ∷ [])
    ++ control_behind "00" (fault (coded 0x0104) 17) ("C0 00 00 00 00 00 00 04 C0 00 00 00 00 00 00 00" ∷ [])
    ++ control_behind "00 04 00" (fault (coded 0x0105) 6) ("40 04 00" ∷ "40 00 00" ∷ "04 40 00" ∷ [])
    ++ control_behind "00 04 00" (fault (coded 0x0104) 8) ("40 07 40 01 05" ∷ "40 0D 40 01 05" ∷ "40 21 40 01 05" ∷ [])
    ++ control_behind "00 04 00" (fault (coded 0x0108) 8) ("40 03 40 01 05" ∷ [])
    )
unfolding answer hex hex_from nibble number_of rows named_in named code_in coded
control_table = refl

-- frames that hold exactly one integer, behind SETTINGS
pub one_integer_frames : Holds (
    -- length 0 or above 8, at the header
    control_behind "00 04 00" (fault (coded 0x0106) 5) ("03 00" ∷ "07 00" ∷ "0D 00" ∷ "03 09" ∷ "07 09" ∷ "0D 09" ∷ [])
    ++ control_behind "00 04 00" (fault (coded 0x0106) 5) ("03 09 C0 00 00 00 00 00 00 00 00" ∷ "07 09 C0 00 00 00 00 00 00 00 00" ∷ [])
    ++ control_behind "00 04 00" (fault (coded 0x0106) 5) ("0D 09 C0 00 00 00 00 00 00 00 00" ∷ [])
    ++ control_behind "00 04 00" (fault (coded 0x0106) 12) ("03 FF FF FF FF FF FF FF FF" ∷ "07 FF FF FF FF FF FF FF FF" ∷ "0D FF FF FF FF FF FF FF FF" ∷ [])
    ++ control_behind "00 04 00" (fault (coded 0x0106) 6) ("03 40 00" ∷ "07 40 00" ∷ "0D 40 00" ∷ "07 40 09" ∷ [])
    -- lengths 1, 2, 4 and 8
    ++ control_behind "00 04 00" (fault (coded 0x0108) 6) ("03 01 3F" ∷ [])
    ++ control_behind "00 04 00" (fault (coded 0x0108) 7) ("03 02 40 00" ∷ [])
    ++ control_behind "00 04 00" (fault (coded 0x0108) 9) ("03 04 80 00 00 00" ∷ [])
    ++ control_behind "00 04 00" (fault (coded 0x0108) 13) ("03 08 C0 00 00 00 00 00 00 00" ∷ "03 08 FF FF FF FF FF FF FF FF" ∷ [])
    ++ control_behind "00 04 00" (fault (coded 0x0104) 6) ("07 01 3F" ∷ "0D 01 3F" ∷ [])
    ++ control_behind "00 04 00" (fault (coded 0x0104) 7) ("07 02 40 00" ∷ "0D 02 40 00" ∷ [])
    ++ control_behind "00 04 00" (fault (coded 0x0104) 9) ("07 04 80 00 00 00" ∷ "0D 04 80 00 00 00" ∷ [])
    ++ control_behind "00 04 00" (fault (coded 0x0104) 13) ("07 08 C0 00 00 00 00 00 00 00" ∷ "07 08 FF FF FF FF FF FF FF FF" ∷ [])
    ++ control_behind "00 04 00" (fault (coded 0x0104) 13) ("0D 08 C0 00 00 00 00 00 00 00" ∷ "0D 08 FF FF FF FF FF FF FF FF" ∷ [])
    -- an integer that is not the whole payload, once complete
    ++ control_behind "00 04 00" (fault (coded 0x0106) 6) ("03 01 40" ∷ "07 01 40" ∷ "0D 01 40" ∷ "07 01 80" ∷ "07 01 C0" ∷ [])
    ++ control_behind "00 04 00" (fault (coded 0x0106) 7) ("03 02 00 00" ∷ "07 02 00 00" ∷ "0D 02 00 00" ∷ "03 02 80 00" ∷ "07 02 80 00" ∷ "0D 02 C0 00" ∷ [])
    ++ control_behind "00 04 00" (fault (coded 0x0106) 8) ("03 03 40 00 00" ∷ "07 03 40 00 00" ∷ "0D 03 80 00 00" ∷ "07 03 00 00 00" ∷ [])
    ++ control_behind "00 04 00" (fault (coded 0x0106) 9) ("03 04 40 00 00 00" ∷ "07 04 C0 00 00 00" ∷ "0D 04 00 00 00 00" ∷ [])
    ++ control_behind "00 04 00" (fault (coded 0x0106) 10) ("03 05 80 00 00 00 00" ∷ "07 05 80 00 00 00 00" ∷ "0D 05 C0 00 00 00 00" ∷ [])
    ++ control_behind "00 04 00" (fault (coded 0x0106) 11) ("03 06 80 00 00 00 00 00" ∷ "07 06 80 00 00 00 00 00" ∷ "0D 06 C0 00 00 00 00 00" ∷ [])
    ++ control_behind "00 04 00" (fault (coded 0x0106) 12) ("03 07 C0 00 00 00 00 00 00" ∷ "07 07 80 00 00 00 00 00 00" ∷ "0D 07 C0 00 00 00 00 00 00" ∷ [])
    ++ control_behind "00 04 00" (fault (coded 0x0106) 13) ("03 08 80 00 00 00 00 00 00 00" ∷ "07 08 40 00 00 00 00 00 00 00" ∷ "0D 08 00 00 00 00 00 00 00 00" ∷ [])
    -- and not before
    ++ control_behind "00 04 00" (fault (coded 0x0104) 5) ("03 01" ∷ "07 01" ∷ "0D 01" ∷ "03 07" ∷ [])
    ++ control_behind "00 04 00" (fault (coded 0x0104) 6) ("03 02 00" ∷ "07 02 00" ∷ "0D 02 80" ∷ [])
    -- a GOAWAY above an earlier one
    ++ control_behind "00 04 00 07 01 05" (fault (coded 0x0104) 9) ("07 01 05" ∷ "07 01 04" ∷ "07 01 00" ∷ [])
    ++ control_behind "00 04 00 07 01 05" (fault (coded 0x0104) 10) ("07 02 40 05" ∷ [])
    ++ control_behind "00 04 00 07 01 05" (fault (coded 0x0108) 9) ("07 01 06" ∷ "07 01 3F" ∷ [])
    ++ control_behind "00 04 00 07 01 05" (fault (coded 0x0108) 16) ("07 08 C0 00 00 00 00 00 00 06" ∷ "07 08 FF FF FF FF FF FF FF FF" ∷ [])
    ++ control_behind "00 04 00 07 01 05 07 01 04" (fault (coded 0x0104) 12) ("07 01 04" ∷ [])
    ++ control_behind "00 04 00 07 01 05 07 01 04" (fault (coded 0x0108) 12) ("07 01 05" ∷ [])
    ++ control_behind "00 04 00 07 01 05 21 01 00" (fault (coded 0x0108) 12) ("07 01 06" ∷ [])
    ++ control_behind "00 04 00 07 08 FF FF FF FF FF FF FF FF" (fault (coded 0x0104) 16) ("07 01 3F" ∷ [])
    -- a MAX_PUSH_ID below an earlier one
    ++ control_behind "00 04 00 0D 01 05" (fault (coded 0x0104) 9) ("0D 01 05" ∷ "0D 01 06" ∷ [])
    ++ control_behind "00 04 00 0D 01 05" (fault (coded 0x0104) 10) ("0D 02 40 05" ∷ [])
    ++ control_behind "00 04 00 0D 01 05" (fault (coded 0x0108) 9) ("0D 01 04" ∷ "0D 01 00" ∷ [])
    ++ control_behind "00 04 00 0D 01 05 0D 01 06" (fault (coded 0x0108) 12) ("0D 01 05" ∷ [])
    ++ control_behind "00 04 00 0D 01 05 0D 01 06" (fault (coded 0x0104) 12) ("0D 01 06" ∷ [])
    ++ control_behind "00 04 00 0D 08 FF FF FF FF FF FF FF FF" (fault (coded 0x0108) 16) ("0D 01 3F" ∷ [])
    -- each is compared with its own kind
    ++ control_behind "00 04 00 07 01 05" (fault (coded 0x0104) 9) ("0D 01 04" ∷ "0D 01 06" ∷ [])
    ++ control_behind "00 04 00 0D 01 05" (fault (coded 0x0104) 9) ("07 01 04" ∷ "07 01 06" ∷ [])
    ++ control_behind "00 04 00 07 01 05 0D 01 09" (fault (coded 0x0108) 12) ("07 01 06" ∷ "0D 01 08" ∷ "03 01 00" ∷ [])
    -- 0x0106 before 0x0108
    ++ control_behind "00 04 00 07 01 05" (fault (coded 0x0106) 8) ("07 00" ∷ "07 09" ∷ [])
    ++ control_behind "00 04 00 07 01 05" (fault (coded 0x0106) 10) ("07 02 06 00" ∷ [])
    ++ control_behind "00 04 00 0D 01 05" (fault (coded 0x0106) 8) ("0D 00" ∷ "0D 09" ∷ [])
    ++ control_behind "00 04 00 0D 01 05" (fault (coded 0x0106) 10) ("0D 02 04 00" ∷ [])
    )
unfolding answer hex hex_from nibble number_of rows named_in named code_in coded
one_integer_frames = refl

-- a control stream that begins with SETTINGS of each of these payloads, and their verdict at the last payload byte
abbrev settings : (code : ℕ) → (payloads : List String) → List Worked
settings code payloads = map (λ p. control_of (0 ∷ 4 ∷ length (hex p) ∷ hex p) (fault (coded code) (3 + length (hex p)))) payloads

abbrev pub tell : String → List Told → Worked
tell bytes told = asks (one_way_tells (hex bytes)) (tells told)

abbrev pub told : Option ℕ → (capacity blocked : ℕ) → Told
told size capacity blocked = told_settings (record { section_size = size; table_capacity = capacity; blocked_streams = blocked })

-- 28 pairs of nine bytes, identifiers 8 to 35, and two of two bytes: 256 bytes
abbrev long_pair : (identifier : ℕ) → List ℕ
long_pair i = i ∷ hex "C0 00 00 00 00 00 00 01"

abbrev long_settings : List ℕ
long_settings =
    long_pair 8 ++ long_pair 9 ++ long_pair 10 ++ long_pair 11 ++ long_pair 12 ++ long_pair 13 ++ long_pair 14
    ++ long_pair 15 ++ long_pair 16 ++ long_pair 17 ++ long_pair 18 ++ long_pair 19 ++ long_pair 20 ++ long_pair 21
    ++ long_pair 22 ++ long_pair 23 ++ long_pair 24 ++ long_pair 25 ++ long_pair 26 ++ long_pair 27 ++ long_pair 28
    ++ long_pair 29 ++ long_pair 30 ++ long_pair 31 ++ long_pair 32 ++ long_pair 33 ++ long_pair 34 ++ long_pair 35
    ++ hex "06 05 07 06"

-- nothing but the end is wrong
abbrev sound_payloads : List String
sound_payloads =
    ""
    ∷ "06 00"
    ∷ "01 00 06 00 07 00"
    ∷ "00 00"
    ∷ "08 00"
    ∷ "21 05"
    ∷ "40 06 01"
    ∷ "06 40 01"
    ∷ "C0 00 00 00 00 00 00 06 C0 00 00 00 00 00 00 05"
    ∷ "06 FF FF FF FF FF FF FF FF"
    ∷ "FF FF FF FF FF FF FF FF FF FF FF FF FF FF FF FF"
    ∷ "40 40 02 41 02 03 40 43 04 40 44 05"
    ∷ "06 06 07 07 01 01"
    ∷ []

-- a cut pair, before a reserved identifier and before one seen
abbrev cut_pairs : List String
cut_pairs =
    "06"
    ∷ "40"
    ∷ "06 40"
    ∷ "06 80 00 00"
    ∷ "C0 00 00 00 00 00 00"
    ∷ "FF FF FF FF FF FF FF FF"
    ∷ "02"
    ∷ "02 40"
    ∷ "05 80 00 00"
    ∷ "06 01 02"
    ∷ "06 01 06"
    ∷ "06 01 06 40"
    ∷ "06 01 07 40"
    ∷ []

abbrev reserved_identifiers : List String
reserved_identifiers =
    "02 00"
    ∷ "03 00"
    ∷ "04 00"
    ∷ "05 00"
    ∷ "40 02 00"
    ∷ "80 00 00 03 00"
    ∷ "C0 00 00 00 00 00 00 04 00"
    ∷ "06 01 05 01"
    ∷ []

-- by value, and the ignored ones too
abbrev seen_identifiers : List String
seen_identifiers =
    "06 01 06 01"
    ∷ "06 01 06 02"
    ∷ "06 01 40 06 01"
    ∷ "40 06 01 06 01"
    ∷ "01 00 01 00"
    ∷ "07 00 07 00"
    ∷ "00 00 00 00"
    ∷ "21 00 21 00"
    ∷ "06 01 01 02 07 03 06 04"
    ∷ "FF FF FF FF FF FF FF FF 00 FF FF FF FF FF FF FF FF 01"
    ∷ []

-- pair by pair: a faulty pair, then a cut one
abbrev faulty_before_cut : List String
faulty_before_cut = "02 00 06" ∷ "06 01 06 01 06" ∷ "03 00 40" ∷ "00 00 00 00 02" ∷ []

pub settings_payloads : Holds (
    settings 0x0104 sound_payloads
    ++ settings 0x0106 cut_pairs
    ++ settings 0x0109 reserved_identifiers
    ++ settings 0x0109 seen_identifiers
    ++ settings 0x0109 faulty_before_cut
    )
unfolding answer hex hex_from nibble number_of rows named_in named code_in coded
settings_payloads = refl

pub settings_kept_lem : Holds (
    -- judged when complete
    control "00 04 02 02" (fault (coded 0x0104) 4)
    ∷ control "00 04 03 02 00" (fault (coded 0x0104) 5)
    ∷ control "00 04 02 02 00 00 00" (fault (coded 0x0109) 5)
    ∷ control "00 04 02 06 01 00 00" (fault (coded 0x0105) 7)
    -- 256 bytes, and one more
    ∷ control "00 04 41 00" (fault (coded 0x0104) 4)
    ∷ control "00 04 41 01" (fault (coded 0x0107) 4)
    ∷ control "00 04 FF FF FF FF FF FF FF FF" (fault (coded 0x0107) 10)
    ∷ control_of (hex "00 04 41 00" ++ long_settings) (fault (coded 0x0104) (4 + settings_limit))
    ∷ control_of (hex "00 04 41 01" ++ long_settings ++ hex "00") (fault (coded 0x0107) 4)
    ∷ asks (one_way_tells (hex "00 04 41 00" ++ long_settings)) (tells (told (some 5) 0 6 ∷ []))
    -- what is kept
    ∷ tell "00 04 00" (told none 0 0 ∷ [])
    ∷ tell "00 04 02 06 00" (told (some 0) 0 0 ∷ [])
    ∷ tell "00 04 09 06 FF FF FF FF FF FF FF FF" (told (some largest) 0 0 ∷ [])
    ∷ tell "00 04 02 01 05" (told none 5 0 ∷ [])
    ∷ tell "00 04 02 07 05" (told none 0 5 ∷ [])
    ∷ tell "00 04 07 07 09 06 07 01 40 40" (told (some 7) 64 9 ∷ [])
    ∷ tell "00 04 07 40 06 07 00 01 21 02" (told (some 7) 0 0 ∷ [])
    -- a fault keeps nothing, a payload that has not come neither
    ∷ tell "00 04 04 06 05 02 00" []
    ∷ tell "00 04 03 06 05 01" []
    ∷ tell "00 04 02 06" []
    ∷ tell "00 07 01 05" []
    -- the other frames
    ∷ tell "00 04 00 07 01 05 0D 01 06 21 01 00 07 01 05" (told none 0 0 ∷ told_goaway 5 ∷ told_max_push_id 6 ∷ told_goaway 5 ∷ [])
    ∷ tell "00 04 00 07 08 FF FF FF FF FF FF FF FF 0D 02 40 25" (told none 0 0 ∷ told_goaway largest ∷ told_max_push_id 37 ∷ [])
    ∷ tell "00 04 00 07 01 05 07 01 06" (told none 0 0 ∷ told_goaway 5 ∷ [])
    ∷ tell "00 04 00 0D 01 05 0D 01 05 0D 01 04" (told none 0 0 ∷ told_max_push_id 5 ∷ told_max_push_id 5 ∷ [])
    ∷ tell "00 04 00 07 02 05 00" (told none 0 0 ∷ [])
    ∷ tell "00 04 00 03 01 00" (told none 0 0 ∷ [])
    ∷ []
    )
unfolding answer hex hex_from nibble number_of rows named_in named code_in coded settings_limit largest
settings_kept_lem = refl

-- a control stream's reading, whole; a payload judged bad is not said
abbrev control_says : String → List Saying → Worked
control_says bytes sayings = asks (one_way_says (hex bytes)) (says_all sayings)

-- an empty SETTINGS, the first frame
abbrev settled : List Saying → List Saying
settled more = header (head 1 3 4 0) (kept a-settings) ∷ frame_kept a-settings [] ∷ more

pub control_sayings : Holds (
    control_says "00" []
    ∷ control_says "00 04" []
    ∷ control_says "02 04 00" []
    ∷ control_says "00 07 01 05" (header_refused (head 1 3 7 1) ∷ [])
    ∷ control_says "40 00 04 00" (header (head 2 4 4 0) (kept a-settings) ∷ frame_kept a-settings [] ∷ [])
    ∷ control_says "00 04 02 06" (header (head 1 3 4 2) (kept a-settings) ∷ [])
    ∷ control_says "00 04 02 02 00" (header (head 1 3 4 2) (kept a-settings) ∷ [])
    ∷ control_says "00 04 00 07 01 05" (settled (header (head 3 5 7 1) (kept goaway) ∷ frame_kept goaway (hex "05") ∷ []))
    ∷ control_says "00 04 00 0D 02 40 05" (settled (header (head 3 5 13 2) (kept max_push_id) ∷ frame_kept max_push_id (hex "40 05") ∷ []))
    ∷ control_says "00 04 00 21 01 62 03 01 00" (settled (header (head 3 5 33 1) skipped ∷ header (head 6 8 3 1) (kept cancel_push) ∷ []))
    ∷ control_says "00 04 00 04 00" (settled (header_refused (head 3 5 4 0) ∷ []))
    ∷ []
    )
unfolding answer hex hex_from nibble
control_sayings = refl

-- what a kept payload leaves
abbrev client_settings : Settings
client_settings = record { section_size = some 5; table_capacity = 7; blocked_streams = 9 }

abbrev absent_settings : Settings
absent_settings = record { section_size = none; table_capacity = 0; blocked_streams = 0 }

abbrev judges : Kept → Control → String → Next Control → Worked
judges k c payload n = asks (control_judges k c (hex payload)) (control_leaves n)

pub control_judgements : Holds (
    judges a-settings unset "06 05 01 07 07 09" (go (set client_settings none none))
    ∷ judges a-settings unset "" (go (set absent_settings none none))
    ∷ judges a-settings unset "00 05 21 06" (go (set absent_settings none none))
    ∷ judges a-settings unset "06 05 02 00" (stop (coded 0x0109))
    ∷ judges goaway (set client_settings none none) "05" (go (set client_settings (some 5) none))
    ∷ judges goaway (set client_settings (some 5) (some 9)) "04" (go (set client_settings (some 4) (some 9)))
    ∷ judges goaway (set client_settings (some 5) (some 4)) "40 05" (go (set client_settings (some 5) (some 4)))
    ∷ judges goaway (set client_settings (some 5) (some 9)) "06" (stop (coded 0x0108))
    ∷ judges goaway (set client_settings (some 5) (some 9)) "06 00" (stop (coded 0x0106))
    ∷ judges max_push_id (set client_settings none none) "09" (go (set client_settings none (some 9)))
    ∷ judges max_push_id (set client_settings (some 5) (some 9)) "0A" (go (set client_settings (some 5) (some 10)))
    ∷ judges max_push_id (set client_settings (some 10) (some 9)) "40 09" (go (set client_settings (some 10) (some 9)))
    ∷ judges max_push_id (set client_settings (some 5) (some 9)) "08" (stop (coded 0x0108))
    ∷ judges max_push_id (set client_settings (some 5) (some 9)) "08 00" (stop (coded 0x0106))
    ∷ judges cancel_push (set client_settings none none) "00" (stop (coded 0x0108))
    ∷ judges cancel_push (set client_settings none none) "00 00" (stop (coded 0x0106))
    ∷ judges cancel_push (set client_settings none none) "40" (stop (coded 0x0106))
    ∷ []
    )
unfolding answer hex hex_from nibble number_of rows named_in named code_in coded
control_judgements = refl
