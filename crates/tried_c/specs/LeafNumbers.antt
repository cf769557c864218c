-- What the rules say, as the numbers that cross to another language; a refusal leaves `out` as it was. Assumes nothing.
use Rattle.std.specs.Prelude.{ℕ, ◌≡◌, List, Bool, true, false, set, Result, Ok, Err}
use Rattle.std.proofs.Common.{refl, ap, ◌∙◌}
use Rattle.std.proofs.Math.Option.{Option, none, some}
use Rattle.rules.specs.Integers.{Int, cut, got}
use Rattle.meaning.specs.NumberLaws.{Numbered, stops, goes}
use Rattle.rules.specs.Control.{Settings}
use Rattle.rules.specs.Writer.{Write}
use Rattle.rules.specs.declared.codes.House.{House}
use Rattle.varint.specs.Write.{Wrote, Meets, wrote_of, answer_of, left_in}
use mir.Val.{bool_byte}
use Rattle.std.specs.Bool.{then_some}
use Rattle.std.specs.Prelude.{Option as Maybe, Some, None, is_some, unwrap_or}
use Rattle.control.specs.Answers.{size_is}
use Rattle.wire.specs.declared.ids.StreamId.{StreamId}
use Rattle.wire.specs.Goaway.{sent_of}
use Rattle.section.specs.declared.Fault.{Fault}
use Rattle.section.specs.declared.Fault.TheVariants as fault
use Rattle.section.specs.Answer.{HeaderAnswer, read_stated, header_number, trailer_number}

-- ---- an optional number is two: whether it is there, and itself or 0

abbrev pub stated : Option ℕ → ℕ
stated none = 0
stated (some n) = 1

abbrev pub value_or0 : Option ℕ → ℕ
value_or0 none = 0
value_or0 (some n) = n

pub stated_told : (o : Maybe ℕ) → bool_byte (is_some o) ≡ stated (read_stated o)
stated_told None = refl
stated_told (Some n) = refl

pub value_told : (o : Maybe ℕ) → unwrap_or o 0 ≡ value_or0 (read_stated o)
value_told None = refl
value_told (Some n) = refl

pub limited_told : (o : Maybe ℕ) → bool_byte (is_some o) ≡ stated (size_is o)
limited_told None = refl
limited_told (Some n) = refl

pub limit_told : (o : Maybe ℕ) → unwrap_or o 0 ≡ value_or0 (size_is o)
limit_told None = refl
limit_told (Some n) = refl

-- ---- SETTINGS

unfoldable pub settings_number : Numbered Settings → ℕ
settings_number (stops number) = number
settings_number (goes s) = 0

unfoldable pub settings_out : Numbered Settings → List ℕ → List ℕ
settings_out (stops number) out = out
settings_out (goes s) out =
    set (set (set (set out 0 (stated s.section_size)) 1 (value_or0 s.section_size)) 2 s.table_capacity) 3 s.blocked_streams

-- ---- an integer

unfoldable pub read_number : Int → ℕ
read_number cut = 0
read_number (got value next rest) = 1

unfoldable pub read_out : Int → List ℕ → List ℕ
read_out cut out = out
read_out (got value next rest) out = set (set out 0 value) 1 next

-- ---- a section

-- refused, trailers are told as a header section is
pub same_fault : (f : Fault) → header_number (Err f) ≡ trailer_number (Err f)
unfolding header_number trailer_number
same_fault fault.Unreadable = refl
same_fault (fault.Refused r) = refl

unfoldable pub header_out : HeaderAnswer → List ℕ → List ℕ
header_out (Err e) out = out
header_out (Ok s) out =
    set (set (set (set out 0 (stated (read_stated s.stated))) 1 (value_or0 (read_stated s.stated))) 2 s.method.from) 3 s.method.to

-- ---- a write

abbrev pub given : Bool → ℕ → Option ℕ
given true n = some n
given false n = none

pub given_sent : (b : Bool) (id : StreamId) {o : Maybe StreamId} → o ≡ then_some b id → sent_of o ≡ given b id.0
unfolding sent_of
given_sent true id e = ap sent_of e
given_sent false id e = ap sent_of e

abbrev pub wrote_number : Wrote → ℕ
wrote_number (Err number) = number
wrote_number (Ok n) = 0

abbrev pub wrote_out : Wrote → List ℕ → List ℕ
wrote_out (Err number) out = out
wrote_out (Ok n) out = set out 0 n

pub record Written (w : Write) (room out : List ℕ) (r : ℕ) (room_left out-left : List ℕ) : Type 0 where
  pub answers : r ≡ wrote_number (wrote_of w)
  pub leaves : room_left ≡ left_in w room
  pub counts : out-left ≡ wrote_out (wrote_of w) out

pub written : {w : Write} {room out room_left out-left : List ℕ} {r : ℕ} {a : Result ℕ House}
    → Meets w room a room_left → r ≡ wrote_number (answer_of a) → out-left ≡ wrote_out (answer_of a) out → Written w room out r room_left out-left
written {out} m e f = record {
  answers = e ∙ ap wrote_number m.answers;
  leaves = m.leaves;
  counts = f ∙ ap (λ a. wrote_out a out) m.answers;
}
