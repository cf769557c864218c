-- A request stream (document 01, "Frames" and "Requests"): the frame table's first column, mapped onto a message. Assumes nothing.
use Rattle.std.specs.Prelude.{ℕ, List, [], ◌∷◌, true, false, ltb}
use Rattle.std.proofs.Math.Option.{Option}
use Rattle.rules.specs.Text.{lookup}
use Rattle.rules.specs.Numbers.{Code, of_stream, request_cancelled, request_incomplete, message_error, of_connection, frame_unexpected, frame_error, excessive_load}
use Rattle.rules.specs.Block.{Section}
use Rattle.rules.specs.Section.{Judgement, refused, sound, Head, header_section as judge-header-section, trailers as judge-trailers, code_of as section-code}
use Rattle.rules.specs.Reading.{Part, header_section, trailers, content, skipped, section, Ruling, refuse, accept, Next, stop, go, End, complete, lacking, Grammar}
use Rattle.rules.specs.Message.{Message, opening, body, trailed, Reason, out_of_place, past_stated, past_limit, no_section, unequal, Step, goes, refuses, heads, carries, trails, Ended, all_come, lacks, ends}

-- ---- sections

-- What is asked of a section: a code, or for a header section the Content-Length that it states.
pub data Header : Type 0 where
  bad : Code → Header
  good : (stated : Option ℕ) → Header

pub data Trailer : Type 0 where
  bad : Code → Trailer
  good : Trailer

pub record Rules : Type 0 where
  pub header : Section → Header
  pub trailer : Section → Trailer

unfoldable pub header_by : Judgement Head → Header
header_by (refused r) = bad (section-code r)
header_by (sound h) = good h.stated

unfoldable pub trailer_by : Judgement (Unit {0}) → Trailer
trailer_by (refused r) = bad (section-code r)
trailer_by (sound u) = good

-- document 01's own; and, for the lister and the streams worked by hand, all sections sound and stating this
unfoldable pub document : Rules
document = record { header = λ s. header_by (judge-header-section s); trailer = λ s. trailer_by (judge-trailers s) }

unfoldable pub all_sound : Option ℕ → Rules
all_sound stated = record { header = λ s. good stated; trailer = λ s. good }

-- ---- the frame table, first column

pub data Kind : Type 0 where
  data· headers forbidden unknown : Kind

unfoldable pub column : List (ℕ × Kind)
column =
    (0, data·)
    ∷ (1, headers)
    ∷ (4, forbidden)
    ∷ (3, forbidden)
    ∷ (7, forbidden)
    ∷ (13, forbidden)
    ∷ (5, forbidden)
    ∷ (2, forbidden)
    ∷ (6, forbidden)
    ∷ (8, forbidden)
    ∷ (9, forbidden)
    ∷ []

unfoldable pub kind_of : (type : ℕ) → Kind
kind_of t = lookup column unknown t

unfoldable pub code_of : Reason → Code
code_of out_of_place = of_connection frame_unexpected
code_of past_stated = of_stream message_error
code_of past_limit = of_stream request_cancelled
code_of no_section = of_stream request_incomplete
code_of unequal = of_stream message_error

unfoldable pub headers_limit : ℕ
headers_limit = 16_384

unfoldable pub within_limit : (len : ℕ) → Ruling Message → Ruling Message
within_limit len r = elim (ltb headers_limit len) [ true ↦ refuse (of_connection excessive_load) | false ↦ r ]

unfoldable pub data_rule : Step → Ruling Message
data_rule (goes m) = accept content m
data_rule (refuses r) = refuse (code_of r)

-- first, or once as trailers; position before length
unfoldable pub headers_rule : (len : ℕ) → Message → Ruling Message
headers_rule len opening = within_limit len (accept (section header_section) opening)
headers_rule len (body stated sum) = within_limit len (accept (section trailers) (body stated sum))
headers_rule len (trailed stated sum) = refuse (code_of out_of_place)

unfoldable pub rule_for : Kind → Message → (len : ℕ) → Ruling Message
rule_for data· m len = data_rule (carries len m)
rule_for headers m len = headers_rule len m
rule_for forbidden m len = refuse (of_connection frame_unexpected)
rule_for unknown m len = accept skipped m

unfoldable pub rule : Message → (type len : ℕ) → Ruling Message
rule m type len = rule_for (kind_of type) m len

-- ---- a section, and the end

unfoldable pub next_of : Step → Next Message
next_of (goes m) = go m
next_of (refuses r) = stop (code_of r)

unfoldable pub headed_by : Header → Message → Next Message
headed_by (bad code) m = stop code
headed_by (good stated) m = next_of (heads stated m)

unfoldable pub trailed_by : Trailer → Message → Next Message
trailed_by (bad code) m = stop code
trailed_by good m = next_of (trails m)

unfoldable pub given : Rules → Part → Message → Section → Next Message
given R header_section m s = headed_by (R.header s) m
given R trailers m s = trailed_by (R.trailer s) m

unfoldable pub end_of_ended : Ended → End
end_of_ended all_come = complete
end_of_ended (lacks r) = lacking (code_of r)

-- (no frame of a request stream is kept, so what `judged` would say is never asked)
abbrev pub request : Rules → Grammar
request R = record {
  P = Message;
  start = opening;
  rule = rule;
  given = given R;
  judged = λ k m payload. go m;
  end = λ m. end_of_ended (ends m);
  cut = of_connection frame_error;
}
