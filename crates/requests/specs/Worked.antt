-- Calls worked by hand, each at an input where a wrong program shows. Assumes nothing.
use Rattle.std.specs.Prelude.{◌≡◌, refl, ℕ, List, [], ◌∷◌, map}
use Rattle.std.proofs.Math.Option.{none, some}
use Rattle.rules.specs.Text.{lookup}
use Rattle.rules.specs.Integers.{extra}
use Rattle.rules.specs.Block.{lines, lines_from}
use Rattle.rules.specs.Reading.{header_section, trailers, content, section, ended}
use Rattle.rules.specs.Message.{Message, opening, body, content_limit, sum_to, carries, tally, ends}
use Rattle.rules.specs.Request.{column, kind_of, code_of, headers_limit, within_limit, data_rule, headers_rule, rule_for, rule, end_of_ended}
use Rattle.rules.specs.Numbers.{number_of, rows as answers, named_in, named as answer-named, leaves, FRAME-UNEXPECTED, FRAME-ERROR, REQUEST-CANCELLED, REQUEST-INCOMPLETE, MESSAGE-ERROR}
use Rattle.meaning.specs.Machine.{need, State, in_type, in_payload, due, between, after, fed, typed, over, with_left, finish}
use Rattle.meaning.specs.Feed.{halt, also, onward, over_event, left_event, behind_header, named, taking, feed}
use Rattle.record.specs.declared.Record.{Record}
use Rattle.record.specs.Row.{request_record, free_record}
use Rattle.requests.specs.declared.Reply.{Reply}
use Rattle.requests.specs.Reply.{reply, refused, frees, freed_if, said_by, unless_due, fed_as, read_as, given_as, ended_by, ended_as, reset_as}

pub record Row : Type 0 where
  pub asked : Reply
  pub says : Reply

abbrev row : (asked says : Reply) → Row
row a s = record { asked = a; says = s }

abbrev at : State Message → Record
at s = request_record 4 s

abbrev feeds : State Message → (allow : ℕ) → List ℕ → Reply
feeds s allow piece = fed_as (at s) allow piece s

abbrev gives : State Message → List ℕ → Reply
gives s block = given_as (at s) block s

abbrev ends_in : State Message → Reply
ends_in s = ended_as (at s) s

unfoldable pub rows : List Row
rows =
    row (feeds (between opening) 1 (0x01 ∷ 0x01 ∷ 0x00 ∷ [])) (reply 0 3 2 1 3 1 (at (due header_section opening)))  -- starts a part at the piece's start
    ∷ row (feeds (between opening) 0 (0x01 ∷ [])) (refused 0 (at (between opening)))  -- reads a header byte past the allowance
    ∷ row (feeds (between opening) 1 (0x01 ∷ 0x00 ∷ [])) (reply 0 3 2 0 2 1 (at (due header_section opening)))  -- passes over an empty section
    ∷ row (feeds (between opening) 1 (0x40 ∷ [])) (reply 0 0 0 0 1 0 (at (in_type (need 0 0) opening)))  -- counts a header that is not whole
    ∷ row (feeds (between opening) 5 (0x21 ∷ 0x00 ∷ 0x00 ∷ 0x00 ∷ [])) (reply FRAME-UNEXPECTED 0 0 0 4 2 (at (between opening)))  -- keeps what a faulty feed read, or frees it
    ∷ row (feeds (between (body none 1048576)) 1 (0x00 ∷ 0x01 ∷ [])) (reply REQUEST-CANCELLED 0 0 0 2 1 free_record)  -- keeps the record of a stream fault
    ∷ row (feeds (between (body (some 1) 1)) 1 (0x00 ∷ 0x01 ∷ [])) (reply MESSAGE-ERROR 0 0 0 2 1 free_record)  -- gives the limit's code for a stated length
    ∷ row (feeds (between (body none 0)) 1 (0x00 ∷ 0x05 ∷ 0x61 ∷ [])) (reply 0 1 2 1 3 1 (at (in_payload content [] 3 (body none 5))))  -- sums DATA at its end
    ∷ row (feeds (in_payload (section trailers) [] 1 (body none 0)) 0 (0x61 ∷ [])) (reply 0 2 0 1 1 0 (at (in_payload (section trailers) [] 0 (body none 0))))  -- marks a part too early
    ∷ row (feeds (due trailers (body none 0)) 1 (0x00 ∷ [])) (refused 4 (at (due trailers (body none 0))))  -- reads on while trailers are due
    ∷ row (gives (between opening) []) (refused 5 (at (between opening)))  -- takes a section that is not due
    ∷ row (gives (in_payload (section header_section) [] 0 opening) (0x00 ∷ [])) (refused 5 (at (in_payload (section header_section) [] 0 opening)))  -- gives 6 before 5
    ∷ row (gives (due header_section opening) (0x00 ∷ [])) (refused 6 (at (due header_section opening)))  -- frees the record of an unreadable block
    ∷ row (ends_in (between opening)) (refused REQUEST-INCOMPLETE free_record)  -- takes no request for a whole one
    ∷ row (ends_in (in_type (need 0 0) opening)) (refused FRAME-ERROR (at (in_type (need 0 0) opening)))  -- frees the record of a connection fault
    ∷ row (ends_in (due header_section opening)) (refused 4 (at (due header_section opening)))  -- ends while a section is due
    ∷ row (ends_in (between (body (some 5) 4))) (refused MESSAGE-ERROR free_record)  -- takes half an upload for a whole one
    ∷ row (ends_in (between (body (some 5) 5))) (reply 0 11 0 0 0 0 free_record)  -- keeps the record of a whole request
    ∷ row (reset_as (at (due header_section opening)) (due header_section opening)) (reply 0 12 0 0 0 0 free_record)  -- gives 4 to a reset
    ∷ []

pub worked : map (λ (r : Row). r.asked) rows ≡ map (λ (r : Row). r.says) rows
unfolding rows frees freed_if said_by unless_due read_as ended_by lookup extra lines lines_from ended content_limit sum_to carries tally ends column kind_of code_of headers_limit within_limit data_rule headers_rule rule_for rule end_of_ended number_of answers named_in answer-named leaves after fed typed over with_left finish halt also onward over_event left_event behind_header named taking feed
worked = refl
