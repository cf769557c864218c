-- Wrong engines: for a piece where one shows, the answer that is asked for and the answer of an engine that does what the comment says.
-- No wrong answer keeps the promise of a feed. Assumes nothing.
use Rattle.std.specs.Prelude.{◌≡◌, refl, ℕ, zero, suc, ◌+◌, ◌-◌, Bool, true, false, ◌&&◌, List, [], ◌∷◌, ◌++◌, map, eqb}
use Rattle.std.proofs.Common.{arith, eq-eqb}
use Rattle.rules.specs.Numbers.{code_number}
use Rattle.rules.specs.declared.codes.Code.TheVariants.{FrameUnexpected}
use Rattle.rules.specs.Text.{same, between, hex, hex_from, nibble, lookup}
use Rattle.rules.specs.Integers.{extra}
use Rattle.rules.specs.Reading.{header_section, trailers}
use Rattle.rules.specs.Message.{content_limit, opening, body, trailed, sum_to, carries}
use Rattle.rules.specs.Request.{column, kind_of, code_of, headers_limit, within_limit, data_rule, headers_rule, rule_for, rule as request_rule}
use Rattle.rules.specs.Control.{settings_limit, first_rule, rule as control_rule}
use Rattle.meaning.specs.Machine.{after, fed, State, in_type, in_length, in_payload, due, Outcome, lives, dies, typed, over, with_left}
use Rattle.meaning.specs.Feed.{Event, quiet, section_bytes, content_bytes, taken, Feeding, halt, also, onward, over_event, left_event, behind_header, named, taking, feed}
use Rattle.meaning.specs.Hom.{map_ruling}
use Rattle.varint.specs.ByByte.{prog}
use Rattle.frames.specs.Modes.{IN-TYPE, IN-LENGTH, IN-SKIPPED, IN-CONTENT, IN-HEADER-SECTION, HEADER-SECTION-DUE, TRAILERS-DUE, IN-SETTINGS, OPENING, BODY, TRAILED, UNSET, mode_of}
use Rattle.frames.specs.declared.Cells.{Cells}
use Rattle.frames.specs.declared.Answer.{Answer}
use Rattle.frames.specs.declared.Event.TheVariants as event
use Rattle.frames.specs.Both.{Place, of_request, of_control, rule}
use Rattle.frames.specs.Uses.{stated_of, place_of, a_place, kept_number, use_number}
use Rattle.frames.specs.Heads.{head_state}
use Rattle.frames.specs.Answers.{mode_state, mode_kept, place_at, answer_at, answer_of, Held, in_mode, answer}
use Rattle.frames.specs.Fed.{fed_by, Fed}

pub record Row : Type 0 where
  pub cells : Cells
  pub piece : List ℕ
  pub allow : ℕ
  pub asked : Answer
  pub wrong : Answer

-- ---- what a feed says, in numbers

unfoldable place_numbers : Place → List ℕ
place_numbers (of_request opening) = OPENING ∷ []
place_numbers (of_request (body stated sum)) = BODY ∷ sum ∷ []
place_numbers (of_request (trailed stated sum)) = TRAILED ∷ sum ∷ []
place_numbers (of_control c) = UNSET ∷ []

unfoldable state_numbers : State Place → List ℕ
state_numbers (in_type g p) = 0 ∷ place_numbers p
state_numbers (in_length t g p) = 1 ∷ t ∷ place_numbers p
state_numbers (in_payload u k left p) = 2 ∷ use_number u ∷ left ∷ (k ++ place_numbers p)
state_numbers (due header_section p) = 3 ∷ place_numbers p
state_numbers (due trailers p) = 4 ∷ place_numbers p

unfoldable after_numbers : Outcome Place → List ℕ
after_numbers (lives s) = state_numbers s
after_numbers (dies code) = 5 ∷ code_number code ∷ []

unfoldable event_numbers : Event → List ℕ
event_numbers quiet = 0 ∷ []
event_numbers (content_bytes len) = 1 ∷ len ∷ []
event_numbers (section_bytes len false) = 2 ∷ len ∷ []
event_numbers (section_bytes len true) = 3 ∷ len ∷ []
event_numbers (taken f payload) = 4 ∷ payload

unfoldable numbers : Feeding Place → List ℕ
numbers f = f.used ∷ f.heads ∷ (event_numbers f.event ++ after_numbers f.after)

-- whether an answer says what the definition's feed does, and its part ends where the feed does
unfoldable fits : (c : Cells) (s : List ℕ) (allow : ℕ) → Answer → Bool
fits c s allow r =
    let p = place_of c.phase c.has c.stated c.sum in
    same (numbers (fed_by c s allow 0 p [])) (numbers (answer_of r p [] s)) && eqb (r.start + r.len) r.used

same_self : (xs : List ℕ) → same xs xs ≡ true
unfolding same
same_self [] = refl
same_self (x ∷ xs) = let e = eq-eqb x x refl in let i = same_self xs in rw (e, i) refl

held_nothing : (n : ℕ) → Held n []
held_nothing zero = tt
held_nothing (suc n) = refl

fed_fits : (c : Cells) (s : List ℕ) (allow : ℕ) (r : Answer) → Fed c s allow r → fits c s allow r ≡ true
unfolding fits
fed_fits c s allow r f =
    let p = place_of c.phase c.has c.stated c.sum in
    let e = f.is 0 p [] (held_nothing (IN-SETTINGS - c.mode)) a_place in
    let a = same_self (numbers (answer_of r p [] s)) in
    let b = eq-eqb (r.start + r.len) r.used f.part in
    rw (e, a, b) refl

-- ---- the rows

-- between two frames
abbrev between_frames : (phase sum : ℕ) → Cells
between_frames phase sum = record { mode = IN-TYPE; acc = 0; due = 0; ftype = 0; phase = phase; has = 0; stated = 0; sum = sum }

-- a request that has just begun; one with so many bytes of DATA, none stated; a control stream before SETTINGS
abbrev begins : Cells
begins = between_frames OPENING 0

abbrev headed : (sum : ℕ) → Cells
headed sum = between_frames BODY sum

abbrev unset : Cells
unset = between_frames UNSET 0

-- a request that has just begun, behind a frame's type
abbrev behind : (ftype : ℕ) → Cells
behind t = record { mode = IN-LENGTH; acc = 0; due = 0; ftype = t; phase = OPENING; has = 0; stated = 0; sum = 0 }

abbrev row : Cells → (piece : List ℕ) (allow : ℕ) (asked wrong : Answer) → Row
row c s n a w = record { cells = c; piece = s; allow = n; asked = a; wrong = w }

-- a header section of one byte, all there
abbrev sectioned : (wrong : Answer) → Row
sectioned wrong = row begins (hex "01 01 00") 9 (answer event.SectionEnd 2 1 3 1 (in_mode begins HEADER-SECTION-DUE 0)) wrong

unfoldable pub rows : List Row
rows =
    -- loses a byte: counts one fewer, counts one more, does not count a skipped byte off, does not keep a byte of SETTINGS
    sectioned (answer event.SectionEnd 1 1 2 1 (in_mode begins HEADER-SECTION-DUE 0))
    ∷ sectioned (answer event.SectionEnd 3 1 4 1 (in_mode begins HEADER-SECTION-DUE 0))
    ∷ row begins (hex "21 02 00") 9 (answer event.Nothing 3 0 3 1 (in_mode begins IN-SKIPPED 1)) (answer event.Nothing 3 0 3 1 (in_mode begins IN-SKIPPED 2))
    ∷ row unset (hex "04 02 01") 9 (answer event.KeptPart 2 1 3 1 (in_mode unset IN-SETTINGS 1)) (answer event.Nothing 3 0 3 1 (in_mode unset IN-SETTINGS 1))
    -- counts a header twice: at its type and at its length, in each of the two pieces that it lies in
    ∷ sectioned (answer event.SectionEnd 2 1 3 2 (in_mode begins HEADER-SECTION-DUE 0))
    ∷ row begins (hex "01") 9 (answer event.Nothing 1 0 1 0 (behind 0x01)) (answer event.Nothing 1 0 1 1 (behind 0x01))
    -- gives an event after a fault: reads on behind DATA that comes first, to a HEADERS; takes the fault for none
    ∷ row begins (hex "00 00 01 00") 9 (answer (event.Fault FrameUnexpected) 2 0 2 1 begins) (answer event.SectionEnd 4 0 4 2 (in_mode begins HEADER-SECTION-DUE 0))
    ∷ row begins (hex "00 00") 9 (answer (event.Fault FrameUnexpected) 2 0 2 1 begins) (answer event.Nothing 2 0 2 1 begins)
    -- gives a fault after an event, which is lost: reads on behind a HEADERS, to a PUSH_PROMISE
    ∷ row begins (hex "01 00 05 00") 9 (answer event.SectionEnd 2 0 2 1 (in_mode begins HEADER-SECTION-DUE 0)) (answer (event.Fault FrameUnexpected) 4 0 4 2 begins)
    -- marks a wrong part: one with a byte to come behind it, and not the last one
    ∷ row begins (hex "01 02 00") 9 (answer event.Section 2 1 3 1 (in_mode begins IN-HEADER-SECTION 1)) (answer event.SectionEnd 2 1 3 1 (in_mode begins IN-HEADER-SECTION 1))
    ∷ sectioned (answer event.Section 2 1 3 1 (in_mode begins HEADER-SECTION-DUE 0))
    -- cuts a part short: leaves a byte that is there for the next feed
    ∷ row (headed 0) (hex "00 02 61 62") 9 (answer event.Content 2 2 4 1 (headed 2)) (answer event.Content 2 1 3 1 (in_mode (headed 2) IN-CONTENT 1))
    -- sums DATA at its end, not at its header
    ∷ row (headed 0) (hex "00 02") 9 (answer event.Nothing 2 0 2 1 (in_mode (headed 2) IN-CONTENT 2)) (answer event.Nothing 2 0 2 1 (in_mode (headed 0) IN-CONTENT 2))
    -- overruns the allowance: by a header, by a header's first byte, in a header that an earlier piece began
    ∷ row begins (hex "21 00 21 00") 1 (answer event.Nothing 2 0 2 1 begins) (answer event.Nothing 4 0 4 2 begins)
    ∷ row begins (hex "21 00 21 00") 1 (answer event.Nothing 2 0 2 1 begins) (answer event.Nothing 3 0 3 1 (behind 0x21))
    ∷ row (behind 0x21) (hex "00") 0 (answer event.Nothing 0 0 0 0 (behind 0x21)) (answer event.Nothing 1 0 1 1 begins)
    -- takes the last HEADERS for the first: has the header section due again
    ∷ row (headed 0) (hex "01 01 00") 9 (answer event.SectionEnd 2 1 3 1 (in_mode (headed 0) TRAILERS-DUE 0)) (answer event.SectionEnd 2 1 3 1 (in_mode (headed 0) HEADER-SECTION-DUE 0))
    -- names other bytes of the piece
    ∷ sectioned (answer event.SectionEnd 1 1 3 1 (in_mode begins HEADER-SECTION-DUE 0))
    ∷ []

-- the answer asked for, and the wrong one
abbrev verdicts : Row → List Bool
verdicts q = fits q.cells q.piece q.allow q.asked ∷ fits q.cells q.piece q.allow q.wrong ∷ []

computed : map verdicts rows ≡ map (λ q. true ∷ false ∷ []) rows
unfolding rows between hex hex_from nibble fits same numbers event_numbers after_numbers state_numbers place_numbers kept_number use_number stated_of place_of place_at answer_at mode_state mode_of head_state prog feed also halt onward behind_header left_event over_event named taking typed fed after extra over with_left rule map_ruling request_rule rule_for kind_of column lookup data_rule carries sum_to content_limit code_of headers_rule within_limit headers_limit control_rule first_rule settings_limit mode_kept
computed = refl

unfoldable pub Every : (Row → Type 0) → List Row → Type 0
Every P [] = Unit {0}
Every P (q ∷ qs) = P q × Every P qs

none_fed : (qs : List Row) → map verdicts qs ≡ map (λ q. true ∷ false ∷ []) qs → Every (λ q. Fed q.cells q.piece q.allow q.wrong → ⊥) qs
unfolding Every
none_fed [] e = tt
none_fed (q ∷ qs) e =
    ((λ f. (let h = fed_fits q.cells q.piece q.allow q.wrong f in let y : ◌≡◌ {A = ℕ} 0 1 = cc in omega arith)), none_fed qs cc)

-- NO WRONG ANSWER IS A FEED'S
pub refuted : Every (λ q. Fed q.cells q.piece q.allow q.wrong → ⊥) rows
refuted = none_fed rows computed
