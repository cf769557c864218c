-- Instances of the demands over traces: document 01's upload with the calls as a host makes them, the same with an empty
-- DATA and an unknown frame behind it, the same cut in another way, and half of it; a fault, in one feed and in two; a host that offers the rest again
-- and again; a control stream; openings and our GOAWAY; a write. Computed. Assumes nothing.
use Rattle.std.specs.Prelude.{◌≡◌, refl, ℕ, List, [], ◌∷◌, ◌++◌, map, true, length}
use Rattle.std.proofs.Math.Decide.{ℕ_discrete, dec_le, dec_lt}
use Rattle.std.proofs.Common.{arith}
use Rattle.std.proofs.Math.Option.{some}
use Rattle.rules.specs.Numbers.{not_open, not_next, section_due, bad_value, message_error, request_rejected, frame_unexpected, closed_critical_stream, of_stream, of_connection}
use Rattle.rules.specs.Text.{ascii, hex}
use Rattle.rules.specs.Frames.{frame, frames_from}
use Rattle.rules.specs.Writer.{into, both, frame_header_bytes, write_header, integer_frame, is_higher, bad_goaway}
use Rattle.rules.specs.Integers.{rows, low, in_row, in_first, written}
use Rattle.rules.specs.Worked as worked
use Rattle.varint.specs.Write.{wrote_of, left_in}
use Rattle.meaning.specs.Machine as M
use Rattle.meaning.specs.Feed as F
use Rattle.meaning.specs.OneWayFeed as O
use Rattle.meaning.specs.FrameLaws.{head}
use Rattle.meaning.specs.Feeds.{headers_in}
use Rattle.rules.specs.Calls.{settings, section_bytes, content_bytes, part, content_in, section_in, notices_in, qpack_in, done, fed, whole, freed, feed, section, end, reset, of_fed, of_given, of_ended, map_out, told_by, act, act₁, either, pick, kind_of, over, Call, open', on, gave, left, house, code, next_of, spend, keeping, killed, barred, find, put, behind, seat, same, with, alive, fresh, first, seated, opening, faulted, act_on, settle, acting, size_in, goaway_size, sending, call, run, trace}
use Rattle.rules.specs.Shown.{ended, refused, View, nothing, plus_feed, plus_bytes, plus_section, fedly, mine, if_running, opened, unseen, seen, view_from, view, ledger, ledger_from, noted, dies, opens, counts, blank}
use Rattle.traces.specs.Demands.{end_answer, Struck, SameOutput, is_ended}
use Rattle.traces.specs.Progress.{Moves, Takes, a_feed}
use Rattle.demands.specs.Streams.{stream_code, conn_code, is_due, event_of, fed_by, is_readable, section_of, given_by, ended_by, came, types_in, notice_of, frames_event, one_event, heard_by, streams}
use Rattle.demands.specs.Reading.{sections_of, verdict_by, reading}
use Rattle.demands.specs.LongerStreams.{first_of, stated_by, header_of, Added}
use Rattle.demands.specs.OneWayReads.{fault_by, close_answer}
use Rattle.demands.specs.ToTheEnd.{Shared, serve, EndsSo}
use Rattle.demands.specs.Demands.{end_exactly, two_traces, demand_3, half_an_upload, progress, section_exactly, of_the_bytes, any_cutting, to_the_end, closes_exactly}
use Rattle.demands.specs.Others.{dead_stays, Opens, opens_exactly, Sends, sends_exactly}
use Rattle.demands.specs.Writes.{header_read}
use Rattle.demands.specs.Only.{EndsWhole, whole_only}
use Rattle.demands.specs.Uploads.{Uploads, StatesAll, upload_whole, upload_once}

abbrev Calls : Type 0
Calls = List (Call streams)

-- what stream 0 shows, to compute with
unfoldable pub shows : Calls → View streams
unfolding view view_from seen opened unseen nothing if_running mine fedly plus_feed plus_bytes plus_section part content_in section_in notices_in qpack_in run trace call alive opening kind_of pick ℕ_discrete dec_lt dec_le next_of spend keeping killed barred over find put behind seat same with fresh first seated faulted act_on settle acting of_fed of_given of_ended map_out act either stream_code conn_code is_due event_of fed_by is_readable section_of given_by ended_by F.feed F.halt F.also F.onward F.over_event F.left_event F.behind_header F.named F.taking M.given M.answered M.typed M.keep M.over M.with_left M.after M.fed M.finish end_answer sections_of verdict_by first_of stated_by headers_in worked.answer
shows cs = view 0 (trace fresh cs)

-- ---- the calls

-- PUT https://a/, in document 01's block form; and with Content-Length 3
unfoldable pub unstated : List ℕ
unfolding hex ascii
unstated =
    hex "0E 00 01 00 07 00" ++ ascii ":methodPUT" ++ hex "10 00 01 00 07 00" ++ ascii ":schemehttps" ++ hex "0F 00 01 00 0A 00" ++ ascii ":authoritya"
    ++ hex "0A 00 01 00 05 00" ++ ascii ":path/"

unfoldable pub block : List ℕ
unfolding unstated hex ascii
block = unstated ++ hex "13 00 01 00 0E 00" ++ ascii "content-length3"

-- H, its section, DATA of three bytes
unfoldable pub upload : Calls
upload = open' 0 ∷ on 0 (feed 5 (0x01 ∷ 0x01 ∷ 0x00 ∷ [])) ∷ on 0 (section block) ∷ on 0 (feed 5 (0x00 ∷ 0x03 ∷ 0x61 ∷ 0x62 ∷ 0x63 ∷ [])) ∷ []

unfoldable pub uploaded : Calls
unfolding upload
uploaded = upload ++ (on 0 end ∷ [])

-- empty DATA and a frame of type 33 behind it
unfoldable pub behind_it : List ℕ
behind_it = 0x00 ∷ 0x00 ∷ 0x21 ∷ 0x00 ∷ []

unfoldable pub with_more : Calls
unfolding upload behind_it
with_more = upload ++ (on 0 (feed 5 behind_it) ∷ on 0 end ∷ [])

-- the upload in other pieces, with other allowances, and what a feed did not take offered again
unfoldable pub cut_up : Calls
cut_up =
    open' 0
    ∷ on 0 (feed 1 (0x01 ∷ []))
    ∷ on 0 (feed 1 (0x01 ∷ 0x00 ∷ 0x00 ∷ []))
    ∷ on 0 (section block)
    ∷ on 0 (feed 1 (0x00 ∷ 0x03 ∷ 0x61 ∷ []))
    ∷ on 0 (feed 0 (0x62 ∷ 0x63 ∷ []))
    ∷ on 0 end
    ∷ []

-- two of the three bytes
unfoldable pub half : Calls
half = open' 0 ∷ on 0 (feed 5 (0x01 ∷ 0x01 ∷ 0x00 ∷ [])) ∷ on 0 (section block) ∷ on 0 (feed 5 (0x00 ∷ 0x02 ∷ 0x61 ∷ 0x62 ∷ [])) ∷ []

-- ---- what they come to

pub answers : map (λ e. e.answer) (trace fresh uploaded) ≡ gave done ∷ gave (fed 3 1 (section_bytes 2 1 true)) ∷ gave done ∷ gave (fed 5 1 (content_bytes 2 3)) ∷ left whole ∷ []
unfolding shows uploaded block
answers = refl

pub content_of : ((shows with_more).shown.content ≡ 0x61 ∷ 0x62 ∷ 0x63 ∷ []) × ((shows with_more).fate ≡ ended)
unfolding shows with_more block
content_of = (refl, refl)

-- an end is answered by the verdict: whole
pub upload_ends : (call (on 0 end) (run fresh upload)).answer ≡ left whole
unfolding shows upload block
upload_ends = end_exactly 0 refl upload refl

-- it stated its length, and carries so many bytes (document 02, Q-1)
pub upload_stated : StatesAll (first_of (shows uploaded).shown.sections) (shows uploaded).shown.content
unfolding shows uploaded block first_of Uploads
upload_stated = upload_whole 0 refl uploaded refl refl

-- without a length it is refused at its section, and the stream is not open then
unfoldable pub asked_unstated : Calls
asked_unstated = open' 0 ∷ on 0 (feed 5 (0x01 ∷ 0x01 ∷ 0x00 ∷ [])) ∷ on 0 (section unstated) ∷ on 0 end ∷ []

pub unstated_refused : map (λ e. e.answer) (trace fresh asked_unstated) ≡ gave done ∷ gave (fed 3 1 (section_bytes 2 1 true)) ∷ code (of_stream request_rejected) 0 0 ∷ house not_open ∷ []
unfolding shows asked_unstated unstated
unstated_refused = refl

-- so it is an end of a legal stream
pub upload_legal : EndsWhole upload (on 0 end)
upload_legal = (whole_only upload (on 0 end)).0 upload_ends

-- half of it is malformed; asked again, the stream is not open; and a reset does not say whole
pub half_ends : (call (on 0 end) (run fresh half)).answer ≡ code (of_stream message_error) 0 0
unfolding shows half block
half_ends = end_exactly 0 refl half refl

pub half_ends_again : (call (on 0 end) (run fresh (half ++ (on 0 end ∷ [])))).answer ≡ house not_open
unfolding shows half block
half_ends_again = refl

pub half_reset : (call (on 0 reset) (run fresh half)).answer ≡ left freed
unfolding shows half block
half_reset = refl

-- three bytes of content, as stated
pub three_bytes : length (view 0 (trace fresh uploaded)).shown.content ≡ 3
unfolding shows uploaded block
three_bytes = half_an_upload 0 refl uploaded 3 refl refl

-- demand 3 at document 01's own pair; and as an upload's, which has to state its length (document 02, Q-1)
abbrev pub OneUpload : Type 0
OneUpload = let v = (view 0 (trace fresh uploaded)).shown in let w = (view 0 (trace fresh with_more)).shown in
    (header_of v.bytes v.sections ≡ header_of w.bytes w.sections) × (v.content ≡ w.content) × Added v.bytes behind_it w.sections

pub the_pair : OneUpload
unfolding shows uploaded with_more block
the_pair = demand_3 0 0 refl refl uploaded with_more 3 behind_it refl refl refl refl refl

pub the_pair_once : OneUpload
unfolding shows uploaded with_more block first_of Uploads
the_pair_once = upload_once 0 0 refl refl uploaded with_more behind_it refl refl refl refl refl

-- in other pieces: the same content, section bytes and headers, and the same fate
pub the_same : let v = view 0 (trace fresh uploaded) in let w = view 0 (trace fresh cut_up) in SameOutput v.shown w.shown × (v.fate ≡ w.fate)
unfolding shows uploaded cut_up block
the_same = let t = two_traces 0 0 refl refl uploaded cut_up (record { bytes = refl; sections = refl }) in (t.0, t.1 is_ended is_ended)

-- ---- a fault: DATA where the header section should be

unfoldable pub just_open : Calls
just_open = open' 0 ∷ []

-- the second byte brings it, whatever follows
pub struck_at_two : Struck reading (of_connection frame_unexpected) (0x00 ∷ 0x00 ∷ []) []
unfolding shows just_open
struck_at_two = of_the_bytes 0 refl just_open refl (feed 5 (0x00 ∷ 0x00 ∷ 0x21 ∷ [])) a_feed (of_connection frame_unexpected) refl

unfoldable pub bytewise : Calls
bytewise = open' 0 ∷ on 0 (feed 1 (0x00 ∷ [])) ∷ on 0 (feed 1 (0x00 ∷ [])) ∷ []

-- byte by byte: the same code, at the same byte
pub bytewise_too : let w = view 0 (trace fresh bytewise) in (w.fate ≡ refused (of_connection frame_unexpected)) × (w.shown.bytes ≡ 0x00 ∷ 0x00 ∷ [])
unfolding shows just_open bytewise
bytewise_too = any_cutting 0 0 refl refl just_open bytewise (feed 5 (0x00 ∷ 0x00 ∷ 0x21 ∷ [])) (of_connection frame_unexpected) [] [] refl a_feed refl refl refl

-- and the connection is dead
pub then_dead : call (open' 4) (run fresh bytewise) ≡ record { answer = code (of_connection frame_unexpected) 0 0; after = run fresh bytewise }
unfolding shows bytewise ledger ledger_from noted dies opens counts blank
then_dead = dead_stays bytewise (open' 4) frame_unexpected tt refl

-- ---- a section, and a host that offers the rest again and again

unfoldable pub headed : Calls
headed = open' 0 ∷ on 0 (feed 5 (0x01 ∷ 0x01 ∷ 0x00 ∷ [])) ∷ []

pub block_taken : Takes reading (view 0 (trace fresh headed)).shown block (gave done)
unfolding shows headed block
block_taken = section_exactly 0 refl headed block refl

pub feed_waits : Moves reading (view 0 (trace fresh headed)).shown 5 (0x00 ∷ []) (house section_due)
unfolding shows headed
feed_waits = progress 0 refl headed 5 (0x00 ∷ []) refl

-- it allows one header a feed
abbrev pub patient : Shared streams 0
unfolding shows block
patient = record { host = record { allows = λ n. 1; block = λ n. block; one_or_more = λ n. omega arith; is_readable_lem = λ n. refl }; others = λ n. []; aside = λ n. tt }

pub served : EndsSo (serve streams 0 patient 8 (run fresh just_open) (0x01 ∷ 0x01 ∷ 0x00 ∷ 0x00 ∷ 0x03 ∷ 0x61 ∷ 0x62 ∷ 0x63 ∷ []))
served = to_the_end 0 (unfold kind_of in unfold pick in unfold ℕ_discrete in refl) just_open (unfold shows in unfold just_open in refl) patient (0x01 ∷ 0x01 ∷ 0x00 ∷ 0x00 ∷ 0x03 ∷ 0x61 ∷ 0x62 ∷ 0x63 ∷ [])

-- ---- openings and our GOAWAY

pub next_opens : Opens (ledger (trace fresh just_open)) 4 (gave done)
unfolding shows just_open
next_opens = opens_exactly just_open 4

pub other_opens : Opens (ledger (trace fresh just_open)) 8 (house not_next)
unfolding shows just_open
other_opens = opens_exactly just_open 8

pub goaway_goes : Sends (ledger (trace fresh just_open)) 0 3 (gave done)
unfolding shows just_open sending bad_goaway is_higher goaway_size size_in integer_frame
goaway_goes = sends_exactly just_open 0 3

pub no_such_goaway : Sends (ledger (trace fresh just_open)) 2 3 (house bad_value)
unfolding shows just_open sending bad_goaway
no_such_goaway = sends_exactly just_open 2 3

-- ---- a control stream: its type, and SETTINGS with 6: 5

unfoldable pub control_open : Calls
control_open = open' 2 ∷ on 2 (feed 5 (0x00 ∷ 0x04 ∷ 0x02 ∷ 0x06 ∷ 0x05 ∷ [])) ∷ []

pub settings_told : (view 2 (trace fresh control_open)).shown.notices ≡ settings (some 5) 0 0 ∷ []
unfolding shows control_open act₁ heard_by O.feed O.type_feed O.also O.typed_feed types_in came O.kind_feed O.of_control O.controlled F.judged_event one_event frames_event notice_of told_by
settings_told = refl

pub critical_closed : (call (on 2 end) (run fresh control_open)).answer ≡ code (of_connection closed_critical_stream) 0 0
unfolding shows control_open act₁ heard_by O.feed O.type_feed O.also O.typed_feed types_in came O.kind_feed O.of_control O.controlled F.judged_event close_answer fault_by
critical_closed = (closes_exactly 2 refl control_open refl).0

-- ---- a write: the header of a DATA frame of three bytes

pub header_back : (bytes : List ℕ) × (2 ≡ length bytes) × (0x00 ∷ 0x03 ∷ 0xAA ∷ [] ≡ bytes ++ (0xAA ∷ [])) × (frames_from 0 (bytes ++ (0x61 ∷ 0x62 ∷ 0x63 ∷ [])) ≡ frame (head 0 2 0 3) (0x61 ∷ 0x62 ∷ 0x63 ∷ []) (frames_from 5 []))
unfolding write_header frame_header_bytes both written in_first rows in_row low into wrote_of left_in
header_back = header_read {before = 0xAA ∷ 0xAA ∷ 0xAA ∷ []} 0 3 (record { answers = refl; leaves = refl }) (0x61 ∷ 0x62 ∷ 0x63 ∷ []) [] refl
