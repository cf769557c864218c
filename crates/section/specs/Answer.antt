-- The answer to a block: what the rules say of its lines; and document 01's numbers. Assumes nothing.
use Rattle.std.specs.Prelude.{ℕ, ◌≡◌, refl, List, ◌⊎◌}
use Rattle.std.proofs.Math.Option.{Option, none, some}
use Rattle.std.proofs.Common.{inl, inr}
use Rattle.rules.specs.Text.{ascii}
use Rattle.rules.specs.Numbers.{ACCEPTED, UNREADABLE, code_number, of_stream, request_rejected, message_error}
use Rattle.rules.specs.Block.{Line, Section, Lines, unreadable, readable}
use Rattle.rules.specs.Section.{Reason, Judgement, refused, sound, Head, named, header_section, trailers, Fate, malformed, unserved, fate_of, fate_code, code_of}
use Rattle.rules.specs.Named.{reason_of, reason_named}
use Rattle.std.specs.Prelude.{Option as Maybe, Some, None, Result, Ok, Err}
use Rattle.section.specs.declared.Sound.{Sound}
use Rattle.section.specs.declared.Fault.{Fault}
use Rattle.section.specs.declared.Fault.TheVariants as fault
use Rattle.section.specs.Finding.{first, from_of, to_of}
use Rattle.section.specs.Facts.{span}

-- the two names whose values a sound header section reports
abbrev pub method_name : List ℕ
method_name = ascii ":method"

abbrev pub length_name : List ℕ
length_name = ascii "content-length"

-- the line that names the method
unfoldable pub method_line : Section → Option Line
method_line s = first (named method_name) s

-- ---- the answer: the reason's name; or where in the block the method is, and the length that is stated

abbrev pub HeaderAnswer : Type 0
HeaderAnswer = Result Sound Fault

abbrev pub TrailerAnswer : Type 0
TrailerAnswer = Result (Unit {0}) Fault

abbrev pub stated_of : Option ℕ → Maybe ℕ
stated_of none = None
stated_of (some n) = Some n

unfoldable pub header_answer_by : Section → Judgement Head → HeaderAnswer
header_answer_by s (refused r) = Err (fault.Refused (reason_named r))
header_answer_by s (sound h) = Ok (record { method = span (from_of (method_line s)) (to_of (method_line s)); stated = stated_of h.stated })

unfoldable pub header_answer : Lines → HeaderAnswer
header_answer (unreadable f) = Err fault.Unreadable
header_answer (readable s) = header_answer_by s (header_section s)

unfoldable pub trailer_answer_by : Judgement (Unit {0}) → TrailerAnswer
trailer_answer_by (refused r) = Err (fault.Refused (reason_named r))
trailer_answer_by (sound u) = Ok tt

unfoldable pub trailer_answer : Lines → TrailerAnswer
trailer_answer (unreadable f) = Err fault.Unreadable
trailer_answer (readable s) = trailer_answer_by (trailers s)

-- ---- what an answer says

abbrev pub read_stated : Maybe ℕ → Option ℕ
read_stated None = none
read_stated (Some n) = some n

pub stated_read : (o : Option ℕ) → read_stated (stated_of o) ≡ o
stated_read none = refl
stated_read (some n) = refl

-- ---- document 01's numbers

unfoldable pub judged_number : {A : Type 0} → Judgement A → ℕ
judged_number (refused r) = code_number (code_of r)
judged_number (sound a) = ACCEPTED

unfoldable pub header_number : HeaderAnswer → ℕ
header_number (Err fault.Unreadable) = UNREADABLE
header_number (Err (fault.Refused r)) = code_number (code_of (reason_of r))
header_number (Ok s) = ACCEPTED

unfoldable pub trailer_number : TrailerAnswer → ℕ
trailer_number (Err fault.Unreadable) = UNREADABLE
trailer_number (Err (fault.Refused r)) = code_number (code_of (reason_of r))
trailer_number (Ok u) = ACCEPTED

-- ---- a section's code is one of two

pub two_codes : (r : Reason) → (code_of r ≡ of_stream message_error) ⊎ (code_of r ≡ of_stream request_rejected)
unfolding code_of
two_codes r = by (fate_of r)
  where
    by : (f : Fate) → (fate_code f ≡ of_stream message_error) ⊎ (fate_code f ≡ of_stream request_rejected)
    by malformed = inl refl
    by unserved = inr refl
