-- Instances of what holds of one-way streams over traces (Faults): a control stream that runs, a fault in one feed and byte by byte, a second control
-- stream. Computed. Assumes nothing.
use Rattle.std.specs.Prelude.{◌≡◌, refl, ℕ, List, [], ◌∷◌}
use Rattle.rules.specs.Numbers.{missing_settings, stream_creation_error, of_connection}
use Rattle.meaning.specs.Feed as F
use Rattle.meaning.specs.OneWayFeed as O
use Rattle.meaning.specs.OneWayFirst.{Struck, NoFault}
use Rattle.rules.specs.Calls.{client_goaway, notice, fed, feed, told_by, part_by, of_type, act₁, Call, open', on, gave, code, Entry, fresh, trace}
use Rattle.rules.specs.Shown.{refused, elsewhere, view}
use Rattle.demands.specs.Streams.{came, types_in, kept_by, place_in, type_of, notice_of, frames_event, one_event, heard_by, streams}
use Rattle.demands.specs.Becomes.{as_control, type_number}
use Rattle.demands.specs.OneWayReads.{type_shown}
use Rattle.demands.specs.SecondOfType.{AtItsType, second_at_its_type}
use Rattle.demands.specs.Faults.{Brought, of_its_bytes, Moves₁, one_way_progress, one_way_of_the_bytes, one_way_fares, one_way_any_cutting}
use Rattle.demands.specs.Instances.{shows, control_open}

abbrev Calls : Type 0
Calls = List (Call streams)

-- a stream just open, to compute with
unfoldable pub opened_two : Calls
unfolding shows act₁ heard_by O.feed O.type_feed O.also O.typed_feed O.halt types_in came kept_by place_in O.kind_feed O.of_control O.controlled O.qpack_feed F.judged_event one_event frames_event notice_of told_by part_by of_type type_of
opened_two = open' 2 ∷ []

-- a control stream that runs reads a GOAWAY, and its bytes have no fault
pub goaway_read : Moves₁ (trace fresh control_open) (view 2 (trace fresh control_open)).shown 5 (0x07 ∷ 0x01 ∷ 0x00 ∷ []) (gave (fed 3 1 (notice (client_goaway 0))))
unfolding opened_two control_open
goaway_read = one_way_progress 2 refl control_open 5 (0x07 ∷ 0x01 ∷ 0x00 ∷ []) refl

pub none_there : NoFault [] (0x00 ∷ 0x04 ∷ 0x02 ∷ 0x06 ∷ 0x05 ∷ [])
unfolding opened_two control_open
none_there = one_way_fares 2 refl control_open

-- an empty DATA frame where SETTINGS should be: the third byte brings the fault, whatever follows
struck_only : {t : List (Entry streams)} {before bytes : List ℕ} → Brought t before bytes (of_connection missing_settings) → Struck [] (of_connection missing_settings) bytes
struck_only (of_its_bytes x) = x

pub struck_at_three : Struck [] (of_connection missing_settings) (0x00 ∷ 0x00 ∷ 0x00 ∷ [])
unfolding opened_two
struck_at_three = struck_only (one_way_of_the_bytes 2 refl (open' 2 ∷ []) refl 9 (0x00 ∷ 0x00 ∷ 0x00 ∷ 0x21 ∷ []) (of_connection missing_settings) refl)

-- byte by byte: the same code, at the same byte
unfoldable pub by_bytes : Calls
by_bytes = open' 2 ∷ on 2 (feed 1 (0x00 ∷ [])) ∷ on 2 (feed 1 (0x00 ∷ [])) ∷ on 2 (feed 1 (0x00 ∷ [])) ∷ []

pub by_bytes_too : let v = view 2 (trace fresh by_bytes) in (v.fate ≡ refused (of_connection missing_settings)) × (v.shown.bytes ≡ 0x00 ∷ 0x00 ∷ 0x00 ∷ [])
unfolding opened_two by_bytes
by_bytes_too = one_way_any_cutting (of_connection missing_settings) (0x00 ∷ 0x00 ∷ 0x00 ∷ []) [] struck_at_three 2 refl by_bytes refl

-- a second control stream beside one that runs
unfoldable pub two_open : Calls
two_open = open' 2 ∷ on 2 (feed 1 (0x00 ∷ [])) ∷ open' 6 ∷ []

pub second_refused : Moves₁ (trace fresh two_open) (view 6 (trace fresh two_open)).shown 5 (0x00 ∷ 0x04 ∷ []) (code (of_connection stream_creation_error) 1 0)
unfolding opened_two two_open
second_refused = one_way_progress 6 refl two_open 5 (0x00 ∷ 0x04 ∷ []) refl

-- and with a fault of its own behind the type it is refused at its type no less
pub refused_at_its_type : AtItsType [] 1 (code (of_connection stream_creation_error) 1 0)
unfolding opened_two two_open type_shown type_number elsewhere
refused_at_its_type = second_at_its_type 6 refl two_open 5 1 (0x00 ∷ 0x00 ∷ 0x00 ∷ []) refl
    (record { type = as_control; first = record { id = 2; is_one_way = refl; runs = refl; shows = refl }; not_yet = refl; rest = 0x00 ∷ 0x00 ∷ []; comes = refl })
