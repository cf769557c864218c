-- Records worked by hand, in the numbers that a host sees, and numbers that no state has. Assumes nothing.
use Rattle.std.specs.Prelude.{◌≡◌, refl, ℕ, List, [], ◌∷◌, map}
use Rattle.std.proofs.Common.{ap, arith}
use Rattle.std.proofs.Math.Option.{none, some}
use Rattle.rules.specs.Reading.{header_section, trailers, settings, content, skipped, section, kept}
use Rattle.rules.specs.Message.{opening, body, trailed}
use Rattle.rules.specs.Control.{unset}
use Rattle.rules.specs.OneWay.{decoder}
use Rattle.meaning.specs.Machine.{fresh, need, in_type, in_length, in_payload, due, between}
use Rattle.meaning.specs.Hom.{map_state}
use Rattle.meaning.specs.OneWayFeed.{in_stream_type, in_control, in_qpack}
use Rattle.varint.specs.ByByte.{part_of, prog}
use Rattle.frames.specs.Modes.{mode_of}
use Rattle.frames.specs.Uses.{stated_of, place_of}
use Rattle.frames.specs.Heads.{head_state}
use Rattle.frames.specs.Answers.{mode_state}
use Rattle.record.specs.declared.Record.{Record}
use Rattle.record.specs.Row.{phase_of, stated_in, is_stated, length_of, sum_in, numbers_of, place_in, request_record, one_way_record}
use Rattle.record.specs.Sound.{Sound}

abbrev of : (id acc ftype stated sum kind mode due phase has : ℕ) → Record
of id acc ftype stated sum kind mode d phase has = record {
  id = id;
  acc = acc;
  ftype = ftype;
  stated = stated;
  sum = sum;
  kind = kind;
  mode = mode;
  due = d;
  phase = phase;
  has = has;
  owner = 0;
  room = 0;
}

pub record Row : Type 0 where
  pub asked : Record
  pub says : Record

abbrev row : (asked says : Record) → Row
row a s = record { asked = a; says = s }

unfoldable pub rows : List Row
rows =
    row (request_record 4 (between opening)) (of 4 0 0 0 0 1 0 0 0 0)
    ∷ row (request_record 4 (in_type (need 2 0x21) (body none 7))) (of 4 0x21 0 0 7 1 0 3 1 0)
    ∷ row (request_record 4 (in_length 0 fresh (body (some 9) 3))) (of 4 0 0 9 3 1 1 0 1 1)
    ∷ row (request_record 4 (in_length 0x21 (need 0 5) (trailed (some 0) 0))) (of 4 5 0x21 0 0 1 1 1 2 1)
    ∷ row (request_record 4 (in_payload skipped [] 0 opening)) (of 4 1 0 0 0 1 2 0 0 0)
    ∷ row (request_record 4 (in_payload content [] 4 (body none 5))) (of 4 5 0 0 5 1 3 0 1 0)
    ∷ row (request_record 4 (in_payload (section trailers) [] 1 (body none 5))) (of 4 2 0 0 5 1 5 0 1 0)
    ∷ row (request_record 4 (due header_section opening)) (of 4 0 0 0 0 1 6 0 0 0)
    ∷ row (one_way_record 2 (in_stream_type (need 0 0))) (of 2 0 0 0 0 2 0 1 0 0)
    ∷ row (one_way_record 2 (in_control (in_payload (kept settings) (6 ∷ []) 1 unset))) (of 2 2 0 0 0 3 8 0 3 0)
    ∷ row (one_way_record 6 (in_qpack decoder)) (of 6 0 0 0 0 5 0 0 0 0)
    ∷ []

pub worked : map (λ (r : Row). r.asked) rows ≡ map (λ (r : Row). r.says) rows
unfolding rows phase_of stated_in is_stated length_of sum_in numbers_of place_in one_way_record map_state part_of
worked = refl

-- NOT SOUND: a type outside a length, a value of which no byte was read, a length that is not stated, a sum before the header section
pub stray_type : Sound (of 4 0 7 0 0 1 0 0 0 0) → ⊥
unfolding mode_state mode_of head_state numbers_of
stray_type s = let e = ap (λ x. x.ftype) s.own in omega arith

pub stray_value : Sound (of 4 7 0 0 0 1 0 0 0 0) → ⊥
unfolding mode_state mode_of head_state numbers_of prog part_of
stray_value s = let e = ap (λ x. x.acc) s.own in omega arith

pub stray_length : Sound (of 4 0 0 7 0 1 0 0 1 0) → ⊥
unfolding mode_state mode_of head_state place_of place_in stated_of stated_in length_of
stray_length s = let e = ap (λ x. x.stated) s.own in omega arith

pub stray_sum : Sound (of 4 0 0 0 7 1 0 0 0 0) → ⊥
unfolding mode_state mode_of head_state place_of place_in sum_in
stray_sum s = let e = ap (λ x. x.sum) s.own in omega arith

-- nor a request with a one-way stream's ID, nor one in a kept payload
pub one_way_id : Sound (of 2 0 0 0 0 1 0 0 0 0) → ⊥
one_way_id s = omega (arith, s.fit.shaped.request_id refl)

pub kept_payload : Sound (of 4 1 0 0 0 1 8 0 0 0) → ⊥
kept_payload s = omega (arith, s.fit.shaped.request_mode refl)
