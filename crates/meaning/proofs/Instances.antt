-- An instance of each theorem, so that none is empty. Assumes nothing.
use Rattle.std.specs.Prelude.{◌≡◌, refl, ◌+◌, ◌≤◌, [], ◌∷◌, ◌++◌, true, false, length}
use Rattle.std.proofs.Math.Option.{some}
use Rattle.std.proofs.Common.{lit<}
use Rattle.rules.specs.Numbers.{of_stream, message_error}
use Rattle.rules.specs.Integers.{got, integer}
use Rattle.rules.specs.Frames.{frame, frames_from}
use Rattle.rules.specs.Reading.{header_section, section, whole, read, contents}
use Rattle.rules.specs.Message.{Message}
use Rattle.rules.specs.Request.{all_sound, request}
use Rattle.rules.specs.OneWay.{encoder, one_way_read}
use Rattle.rules.specs.Legal.{Legal}
use Rattle.rules.specs.Worked.{answer}
use Rattle.meaning.specs.IntegerLaws.{no_byte, byte, written_reads, shortest}
use Rattle.meaning.specs.FrameLaws.{head, frame_back}
use Rattle.meaning.specs.Machine.{fresh, in_payload, lives, between, given, answered, typed, keep, over, with_left, after, fed, supplied, settled, finished, finish, joined, pieces, fresh_run}
use Rattle.meaning.proofs.Cut.{any_cutting}
use Rattle.meaning.specs.Feed.{section_bytes, feed, halt, also, onward, over_event, left_event, behind_header, named, taking, shows}
use Rattle.meaning.specs.Feeds.{takes, calls, verdict_of_done}
use Rattle.meaning.specs.First.{FirstFault}
use Rattle.meaning.proofs.First.{first_fault, early_inside}
use Rattle.meaning.specs.Whole.{whole_iff_legal}
use Rattle.meaning.specs.Longer.{Longer}
use Rattle.meaning.proofs.Longer.{longer, half_is_never_whole, whole_content}
use Rattle.meaning.specs.OneWayFeed as O
use Rattle.meaning.specs.OneWays.{Came}
use Rattle.meaning.proofs.OneWays as W
use Rattle.meaning.specs.Instances.{H, upload, behind, three, one, some_calls, its_calls}

-- integers: 37 in one byte, and no form of it shorter than that
pub thirty_seven : integer 5 (0x25 ∷ 0x99 ∷ []) ≡ got 37 6 (0x99 ∷ [])
unfolding answer
thirty_seven = written_reads 37 5 (0x25 ∷ []) (0x99 ∷ []) refl

pub not_shorter : 0 + 1 ≤ 2
unfolding answer
not_shorter = shortest 37 0 2 [] (0x25 ∷ []) (byte {b = 0x40} (lit< tt) (byte {b = 0x25} (lit< tt) no_byte)) refl refl

-- a written frame of type 33 reads back
pub frame_33 : frames_from 0 (0x21 ∷ 0x01 ∷ 0x77 ∷ 0x00 ∷ []) ≡ frame (head 0 2 33 1) (0x77 ∷ []) (frames_from 3 (0x00 ∷ []))
unfolding answer
frame_33 = frame_back 0 33 1 (0x21 ∷ []) (0x01 ∷ []) (0x77 ∷ []) (0x00 ∷ []) refl refl refl

-- cutting: in three pieces
pub cut_in_three : pieces (request three) 0 0 (fresh_run (request three) one) ((0x01 ∷ []) ∷ (0x01 ∷ 0x00 ∷ 0x00 ∷ 0x03 ∷ 0x61 ∷ []) ∷ (0x62 ∷ 0x63 ∷ []) ∷ [])
    ≡ read (request three) one upload
unfolding upload joined
cut_in_three = any_cutting (request three) one ((0x01 ∷ []) ∷ (0x01 ∷ 0x00 ∷ 0x00 ∷ 0x03 ∷ 0x61 ∷ []) ∷ (0x62 ∷ 0x63 ∷ []) ∷ [])

-- whole, so legal
pub legal : Legal three one (frames_from 0 upload)
unfolding answer upload
legal = (whole_iff_legal three one upload).0 refl

-- the first fault: Content-Length 2 and DATA of 3, whatever follows the first five bytes, whatever sections follow the first
pub too_much : FirstFault (request (all_sound (some 2))) one upload (of_stream message_error) 5
unfolding answer upload
too_much = first_fault (request (all_sound (some 2))) one upload (of_stream message_error) 5 (early_inside (request (all_sound (some 2))) one upload (of_stream message_error) 5 refl (lit< tt))

-- demand 3 at document 01's own pair
pub the_pair : Longer three one (read (request three) one upload) (read (request three) one (upload ++ behind)) upload behind
unfolding answer upload behind
the_pair = longer three [] [] [] upload behind 3 refl refl refl

-- half of it is not whole
pub half : (read (request three) one H).verdict ≡ whole → ⊥
unfolding answer H upload
half = half_is_never_whole three [] [] [] H (0x00 ∷ 0x03 ∷ 0x61 ∷ 0x62 ∷ 0x63 ∷ []) 3 refl refl (lit< tt)

pub three_bytes : length (contents (read (request three) one upload).said) ≡ 3
unfolding answer upload
three_bytes = whole_content three [] [] upload 3 refl refl

pub they_come : let d = calls (request three) (lives (between Message.opening)) some_calls in
    (d.bytes ≡ upload) × (d.sections ≡ one) × (d.heads ≡ 2) × (verdict_of_done (request three) d ≡ whole)
unfolding some_calls calls verdict_of_done feed halt also onward over_event left_event behind_header named taking shows takes given answered typed keep over with_left after fed supplied settled finished finish upload answer
they_come = (refl, refl, refl, refl)

-- a section in two pieces: its first part is not marked, its last is
pub marked_last : let half = in_payload (section header_section) [] 0 Message.opening in let f = feed (request three) 1 (between Message.opening) (0x01 ∷ 0x02 ∷ 0x00 ∷ []) in
    (f.event ≡ section_bytes 1 false) × (f.after ≡ lives half) × ((feed (request three) 0 half (0x01 ∷ [])).event ≡ section_bytes 1 true)
unfolding feed also onward left_event behind_header named taking typed with_left after fed answer
marked_last = (refl, refl, refl)

pub it_comes : let d = O.calls [] O.nothing_done its_calls in Came [] d (one_way_read [] d.bytes)
it_comes = W.calls_read [] its_calls

-- a QPACK stream's part begins behind its type
pub qpack_behind : let f = O.feed [] 0 (O.in_stream_type fresh) (0x02 ∷ 0x20 ∷ 0x21 ∷ []) in (f.used ≡ 3) × (f.event ≡ O.qpack_bytes encoder 2)
unfolding O.feed O.type_feed O.also O.typed_feed O.kind_feed O.qpack_feed after fed answer
qpack_behind = (refl, refl)
