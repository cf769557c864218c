-- The calls worked by hand compute to what is said of each. Assumes nothing.
use Rattle.std.specs.Prelude.{◌≡◌, refl, map}
use Rattle.rules.specs.Text.{is_one_of, lookup}
use Rattle.rules.specs.Integers.{extra}
use Rattle.rules.specs.Integers as integers
use Rattle.rules.specs.Reading.{ended}
use Rattle.rules.specs.Message.{carries, tally, ends}
use Rattle.rules.specs.Request.{column, kind_of, code_of, data_rule, rule_for, rule, end_of_ended}
use Rattle.rules.specs.OneWay.{once, type_rule}
use Rattle.rules.specs.Numbers.{number_of, rows as answers, named_in, named as answer-named, house_leaves, leaves}
use Rattle.rules.specs.Writer as writer
use Rattle.meaning.specs.Machine.{after, fed, typed, finish}
use Rattle.meaning.specs.Feed.{halt, also, onward, over_event, behind_header, feed}
use Rattle.meaning.specs.OneWayFeed as one
use Rattle.meaning.specs.OneWayFeed.{OneState, in_stream_type, in_control, in_qpack}
use Rattle.record.specs.Row.{place_in, one_way_record}
use Rattle.requests.specs.Reply.{frees, freed_if, said_by, unless_due, ended_by}
use Rattle.connection.specs.Openings as doors
use Rattle.connection.specs.Goaway.{sent_as, sending_of, write_of}
use Rattle.oneway.specs.Types.{came, types_of}
use Rattle.oneway.specs.Closed.{closes}
use Rattle.oneway.specs.Mirror.{sofar_in, kept_numbers, side_after}
use Rattle.oneway.specs.Heard as heard
use Rattle.connection.specs.Faults.{keeps, kept_if}
use Rattle.connection.specs.Turned.{first_as, taken_by, free_at, by_own, started_of, swept_of}
use Rattle.connection.specs.Worked.{Row, rows}

pub worked : map (λ (r : Row). r.asked) rows ≡ map (λ (r : Row). r.says) rows
unfolding rows one_way_record is_one_of lookup extra ended carries tally ends column kind_of code_of data_rule rule_for rule end_of_ended once type_rule number_of answers named_in answer-named house_leaves leaves after fed typed finish halt also onward over_event behind_header feed one.controlled one.of_control one.halt one.also one.qpack_feed one.kind_feed one.typed_feed one.type_feed one.feed place_in frees freed_if said_by unless_due ended_by doors.barred_at doors.admitted_as doors.request_of doors.one_way_of doors.kind_of doors.alive_of sent_as sending_of write_of writer.into writer.both writer.frame_header_bytes writer.integer_frame writer.is_higher writer.bad_goaway writer.write_integer_frame writer.write_goaway integers.rows integers.low integers.in_row integers.in_first integers.written integers.largest came types_of closes sofar_in kept_numbers side_after heard.said_by heard.frame_event heard.frame_value heard.type_number heard.closed_by keeps kept_if first_as taken_by free_at by_own started_of swept_of
worked = refl
