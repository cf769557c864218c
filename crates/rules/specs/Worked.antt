-- Streams worked by hand (document 01): the starred ones, as one list under a single claim, computed. Assumes nothing.
use Rattle.std.specs.Prelude.{◌≡◌, refl, ℕ, List, [], ◌∷◌, map, Bool, true, false}
use Rattle.std.proofs.Math.Option.{Option, none, some}
use Prim.Native.String.{String}
use Rattle.rules.specs.Text.{ascii, nibble, hex_from, hex, between, is_one_of, lookup, any, all, same}
use Rattle.rules.specs.Integers.{Int, got, integer, more, extra, rows, low, in_row, in_first, written, largest}
use Rattle.rules.specs.Block.{Section, Lines, little, fields, record_of, before, lines_from, lines}
use Rattle.rules.specs.Classes.{is_digit, is_capital, is_small, is_mark, is_token, is_name, is_value, is_blank}
use Rattle.rules.specs.Section as S
use Rattle.rules.specs.Frames.{frames_up_to, frames_from}
use Rattle.rules.specs.Reading.{Kept, Ruling, Next, Verdict, Saying, header, refused as header_refused, section_byte, content_byte, frame_kept, Reading, put, told, ended, left_by, completed, judge, read_from, read, contents, section_bytes_of, header_bytes, Accepted, accepted}
use Rattle.rules.specs.Reading.{whole, fault}
use Rattle.rules.specs.Message.{Message, content_limit, heads, sum_to, carries, trails, tally, ends}
use Rattle.rules.specs.Request as R
use Rattle.rules.specs.Request.{document, all_sound, request}
use Rattle.rules.specs.Control as C
use Rattle.rules.specs.OneWay.{OneWay, untyped, refused, of_control, of_qpack, passed_over, once, type_rule, typed, behind_type, one_way_read, fault_in, closed}
use Rattle.rules.specs.Numbers.{Code, number_of, rows as number_rows, named_in, named, code_in, coded, Severity, severity, Leaves, house_leaves, leaves}
use Rattle.rules.specs.Writer.{Write, wrote, refused as no_write, into, both, write_integer, frame_header_bytes, write_header, integer_frame, write_integer_frame, opening, write_opening, is_higher, bad_goaway, write_goaway}

pub data Question : Type 0 where
  reads : (bytes : List ℕ) → Question  -- an integer
  writes : (room value : ℕ) → Question
  writes_header : (room type len : ℕ) → Question
  writes_integer_frame : (room type value : ℕ) → Question
  writes_goaway : (sent : Option ℕ) (room id : ℕ) → Question  -- sent is our last one
  writes_opening : (room : ℕ) → Question
  block : (bytes : List ℕ) → Question
  request_stream : (stated : Option ℕ) (sections : ℕ) (bytes : List ℕ) → Question  -- its sections are sound
  request_with : (sections : List Section) (bytes : List ℕ) → Question  -- its sections are judged
  request_headers : (bytes : List ℕ) → Question  -- the frame headers accepted, as the lister shows them
  request_sections : (bytes : List ℕ) → Question  -- its section bytes
  request_header_bytes : (bytes : List ℕ) → Question  -- those of its header section
  request_says : (bytes : List ℕ) → Question  -- all that its reading says
  request_rule : Message → (type len : ℕ) → Question  -- one frame header, where a message stands
  one_way_stream : (seen : List ℕ) (bytes : List ℕ) → Question
  one_way_says : (bytes : List ℕ) → Question  -- all that a control stream's reading says
  one_way_tells : (bytes : List ℕ) → Question  -- what its kept frames tell the host
  control_judges : Kept → C.Control → (payload : List ℕ) → Question  -- a kept payload, where the stream stands
  closes : (seen : List ℕ) (bytes : List ℕ) → Question  -- such a stream is ended or reset
  bytes_with : (ℕ → Bool) → Question  -- those of 0 to 255 that pass a test
  header_section : Section → Question
  trailers : Section → Question
  header_reason : Section → Question
  trailer_reason : Section → Question
  number : ℕ → Question

pub data Answer : Type 0 where
  read_as : Int → Answer
  written_as : Write → Answer
  lines_are : Lines → Answer
  request_is : (content : List ℕ) → Verdict → Answer
  headers_are : List Accepted → Answer
  says_all : List Saying → Answer
  ruling_is : Ruling Message → Answer
  one_way_is : OneWay → Answer
  tells : List C.Told → Answer
  control_leaves : Next C.Control → Answer
  closed_with : Option Code → Answer
  bytes_are : List ℕ → Answer
  header_is : R.Header → Answer
  trailer_is : R.Trailer → Answer
  reason_is : Option S.Reason → Answer
  row_is : (number : ℕ) → Option Severity → Option Leaves → Answer

-- so many sections, of which nothing is asked
unfoldable pub sections_for : ℕ → List Section
sections_for ℕ.zero = []
sections_for (ℕ.suc n) = [] ∷ sections_for n

unfoldable pub request_answer : Reading → Answer
request_answer r = request_is (contents r.said) r.verdict

-- of a control stream the verdict is asked, and nothing that it said before
unfoldable pub verdict_alone : OneWay → OneWay
verdict_alone untyped = untyped
verdict_alone (refused code place) = refused code place
verdict_alone (of_control r) = of_control (record { said = []; verdict = r.verdict })
verdict_alone (of_qpack k bytes) = of_qpack k bytes
verdict_alone passed_over = passed_over

-- what the kept frames of a control stream report, in order
unfoldable pub tellings : List Saying → List C.Told
tellings [] = []
tellings (header h u ∷ xs) = tellings xs
tellings (header_refused h ∷ xs) = tellings xs
tellings (section_byte b ∷ xs) = tellings xs
tellings (content_byte b ∷ xs) = tellings xs
tellings (frame_kept k payload ∷ xs) = C.tells k payload ∷ tellings xs

unfoldable pub said_by : OneWay → List Saying
said_by untyped = []
said_by (refused code place) = []
said_by (of_control r) = r.said
said_by (of_qpack k bytes) = []
said_by passed_over = []

-- the numbers from `first` on, so many, that pass a test
unfoldable pub those : (ℕ → Bool) → (count first : ℕ) → List ℕ
those test ℕ.zero b = []
those test (ℕ.suc n) b = elim (test b) [ true ↦ b ∷ those test n (ℕ.suc b) | false ↦ those test n (ℕ.suc b) ]

-- THE RULES' ANSWER
unfoldable pub answer : Question → Answer
unfolding ascii nibble hex_from hex between is_one_of lookup any all same more extra integer rows low in_row in_first written largest little fields record_of before lines_from lines is_digit is_capital is_small is_mark is_token is_name is_value is_blank S.is_empty S.begins S.ends S.named S.line_with S.has S.repeated S.value_of S.holds S.decimal_from S.decimal S.pseudo_fields S.connection_fields S.is_pseudo S.line_size S.size S.size_limit S.size_check S.bad_name S.is_bad_value S.bytes_check S.unknown_check S.repeated_check S.pseudo_behind_plain S.late_check S.in_trailers_check S.connection_check S.te_check S.method_check S.no_method_check S.repeated_length_check S.length_in_trailers_check S.digits_check S.length_above_check S.repeated_host_check S.connect_check S.present_check S.scheme_check S.good_path S.path_check S.authority_check S.empty_check S.differ_check S.at_check S.length_limit S.length_check S.uploads S.is_upload S.uploading S.upload_check S.header_checks S.trailer_checks S.fate_of S.code_of S.first_broken S.unless S.method_of S.stated_in S.header_section S.trailers frames_up_to frames_from put told ended left_by completed judge read_from read contents content_limit heads sum_to carries trails tally ends R.header_by R.trailer_by R.document R.all_sound R.column R.kind_of R.code_of R.headers_limit R.within_limit R.data_rule R.headers_rule R.rule_for R.rule R.next_of R.headed_by R.trailed_by R.given R.end_of_ended C.no_settings C.set_to C.reserved_identifiers C.pairs C.settings_of C.settings_limit C.column C.rule_for C.first_rule C.rule C.only C.above C.below C.after_goaway C.after_max_push C.after_integer C.after_settings C.judged C.settings_in C.id_in C.tells once type_rule typed behind_type one_way_read fault_in closed number_of number_rows named_in named severity house_leaves leaves into both write_integer frame_header_bytes write_header integer_frame write_integer_frame opening write_opening is_higher bad_goaway write_goaway section_bytes_of header_bytes accepted sections_for request_answer verdict_alone tellings said_by those
answer (reads bytes) = read_as (integer 0 bytes)
answer (writes room value) = written_as (write_integer room value)
answer (writes_header room type len) = written_as (write_header room type len)
answer (writes_integer_frame room type value) = written_as (write_integer_frame room type value)
answer (writes_goaway sent room id) = written_as (write_goaway sent room id)
answer (writes_opening room) = written_as (write_opening room)
answer (block bytes) = lines_are (lines bytes)
answer (request_stream stated n bytes) = request_answer (read (request (all_sound stated)) (sections_for n) bytes)
answer (request_with sections bytes) = request_answer (read (request document) sections bytes)
answer (request_headers bytes) = headers_are (accepted (read (request (all_sound none)) (sections_for 2) bytes).said)
answer (request_sections bytes) = bytes_are (section_bytes_of (read (request (all_sound none)) (sections_for 2) bytes).said)
answer (request_header_bytes bytes) = bytes_are (header_bytes (read (request (all_sound none)) (sections_for 2) bytes).said)
answer (request_says bytes) = says_all (read (request (all_sound none)) (sections_for 2) bytes).said
answer (request_rule m type len) = ruling_is (R.rule m type len)
answer (one_way_stream seen bytes) = one_way_is (verdict_alone (one_way_read seen bytes))
answer (one_way_says bytes) = says_all (said_by (one_way_read [] bytes))
answer (one_way_tells bytes) = tells (tellings (said_by (one_way_read [] bytes)))
answer (control_judges k c payload) = control_leaves (C.judged k c payload)
answer (closes seen bytes) = closed_with (closed (one_way_read seen bytes))
answer (bytes_with test) = bytes_are (those test 256 0)
answer (header_section s) = header_is (document.header s)
answer (trailers s) = trailer_is (document.trailer s)
answer (header_reason s) = reason_is (S.first_broken S.header_checks s)
answer (trailer_reason s) = reason_is (S.first_broken S.trailer_checks s)
answer (number n) = row_is (number_of (named n)) (severity (named n)) (leaves (named n))

pub record Worked : Type 0 where
  pub question : Question
  pub says : Answer

abbrev pub asks : Question → Answer → Worked
asks q a = record { question = q; says = a }

-- the byte 61, so many times
abbrev pub long : ℕ → List ℕ
long n = lib.ListN.replicate n 0x61

abbrev pub reads_as : String → (value : ℕ) → Worked
reads_as bytes v = record { question = reads (hex bytes); says = read_as (got v (lib.ListN.length (hex bytes)) []) }

abbrev pub writes_as : (value : ℕ) → String → Worked
writes_as v bytes = record { question = writes 8 v; says = written_as (wrote (hex bytes)) }

abbrev pub stream : (stated : Option ℕ) (bytes content : String) → Verdict → Worked
stream stated bytes content v = record { question = request_stream stated 2 (hex bytes); says = request_is (hex content) v }

abbrev pub control : (bytes : String) → Verdict → Worked
control bytes v = record { question = one_way_stream [] (hex bytes); says = one_way_is (of_control (record { said = []; verdict = v })) }

unfoldable pub starred : List Worked
unfolding hex hex_from nibble number_of number_rows named_in named code_in coded
starred =
    reads_as "25" 37
    ∷ reads_as "40 25" 37
    ∷ writes_as 37 "25"
    ∷ writes_as 16_383 "7F FF"
    ∷ writes_as 16_384 "80 00 40 00"
    ∷ writes_as 4_611_686_018_427_387_903 "FF FF FF FF FF FF FF FF"
    ∷ record { question = writes 8 4_611_686_018_427_387_904; says = written_as (no_write 8) }
    ∷ stream none "" "" (fault (coded 0x010d) 0)
    ∷ stream none "00 00" "" (fault (coded 0x0105) 2)
    ∷ stream none "01 01 00" "" whole
    ∷ stream none "01 01 00 00 03 61 62" "61 62" (fault (coded 0x0106) 7)
    ∷ stream (some 3) "01 01 00 00 03 61 62 63" "61 62 63" whole
    ∷ stream (some 4) "01 01 00 00 03 61 62 63" "61 62 63" (fault (coded 0x010e) 8)
    ∷ stream (some 2) "01 01 00 00 03 61 62 63" "" (fault (coded 0x010e) 5)
    ∷ stream (some 3) "01 01 00 00 03 61 62 63 00 00 21 00" "61 62 63" whole
    ∷ stream none "01 01 00 01 01 00 00 00" "" (fault (coded 0x0105) 8)
    ∷ control "00 07 01" (fault (coded 0x010a) 3)
    ∷ control "00 04 04 06 01 06 01" (fault (coded 0x0109) 7)
    ∷ control "00 04 02 03 00" (fault (coded 0x0109) 5)
    ∷ control "00 04 01 06" (fault (coded 0x0106) 4)
    ∷ []

abbrev pub asked : List Worked → List Answer
asked list = map (λ w. answer w.question) list

abbrev pub said : List Worked → List Answer
said list = map (λ w. w.says) list

-- each question is answered as the list says
abbrev pub Holds : List Worked → Type 0
Holds list = asked list ≡ said list

pub worked : Holds starred
unfolding answer starred
worked = refl
