-- The listing of inputs worked by hand, document 01's own first, as one list under a single claim, computed. Assumes nothing.
use Rattle.std.specs.Prelude.{◌≡◌, refl, List, [], ◌∷◌, ◌++◌, map}
use Prim.Native.String.{String}
use Rattle.rules.specs.Text.{ascii, between, nibble, hex_from, hex, lookup}
use Rattle.rules.specs.Integers.{integer, more, extra}
use Rattle.rules.specs.Frames.{frames_up_to, frames_from}
use Rattle.rules.specs.Reading.{content, skipped, section, header_section, trailers, put, told, ended, left_by, completed, judge, read_from, read, accepted}
use Rattle.rules.specs.Message.{content_limit, heads, sum_to, carries, trails, tally, ends}
use Rattle.rules.specs.Request.{all_sound, column, kind_of, code_of, headers_limit, within_limit, data_rule, headers_rule, rule_for, rule, next_of, headed_by, trailed_by, given, end_of_ended}
use Rattle.listing.specs.Listing.{Entry, heading, frame, whole, refused, reading, frame_of, last_of, entries_of, limit, listing}
use Rattle.listing.specs.Text.{digits, decimal, spaced, word, line_feed, text_of, texts_of, printed}

pub record Row : Type 0 where
  pub input : String
  pub output : List Entry

abbrev row : String → List Entry → Row
row i o = record { input = i; output = heading ∷ o }

unfoldable pub worked : List Row
worked =
    row "01 01 00 00 03 61 62 63 21 00" (frame 0 1 1 (section header_section) ∷ frame 3 0 3 content ∷ frame 8 33 0 skipped ∷ whole 10 ∷ [])
    ∷ row "" (refused 0 269 ∷ [])
    ∷ row "00 00" (refused 2 261 ∷ [])
    ∷ row "01 80" (refused 2 262 ∷ [])  -- a cut header has no line
    ∷ row "01 01 00 00 03 61 62" (frame 0 1 1 (section header_section) ∷ frame 3 0 3 content ∷ refused 7 262 ∷ [])  -- a cut payload has one
    ∷ row "01 80 00 40 01" (refused 5 263 ∷ [])
    ∷ row "01 00 40 00 80 10 00 00 C0 00 00 00 00 00 00 00" (frame 0 1 0 (section header_section) ∷ frame 2 0 1_048_576 content ∷ refused 16 262 ∷ [])
    ∷ row "01 00 00 80 10 00 01 00" (frame 0 1 0 (section header_section) ∷ refused 7 268 ∷ [])
    ∷ row "01 00 01 00 21 00 00 00" (frame 0 1 0 (section header_section) ∷ frame 2 1 0 (section trailers) ∷ frame 4 33 0 skipped ∷ refused 8 261 ∷ [])
    ∷ []

-- THE WORKED LISTINGS
pub worked_listings : map (λ (r : Row). listing (hex r.input)) worked ≡ map (λ (r : Row). r.output) worked
unfolding worked between nibble hex_from hex lookup integer more extra frames_up_to frames_from put told ended left_by completed judge read_from read accepted content_limit heads sum_to carries trails tally ends all_sound column kind_of code_of headers_limit within_limit data_rule headers_rule rule_for rule next_of headed_by trailed_by given end_of_ended reading frame_of last_of entries_of limit listing
worked_listings = refl

-- DOCUMENT 01'S OUTPUT, byte by byte
pub worked_output : printed (hex "01 01 00 00 03 61 62 63 21 00") ≡ (ascii "offset type length use" ++ line_feed) ++ ((ascii "0 1 1 header section" ++ line_feed)
    ++ ((ascii "3 0 3 content" ++ line_feed) ++ ((ascii "8 33 0 skipped" ++ line_feed) ++ (ascii "end 10 whole" ++ line_feed))))
unfolding ascii between nibble hex_from hex lookup integer more extra frames_up_to frames_from put told ended left_by completed judge read_from read accepted content_limit heads sum_to carries trails tally ends all_sound column kind_of code_of headers_limit within_limit data_rule headers_rule rule_for rule next_of headed_by trailed_by given end_of_ended reading frame_of last_of entries_of limit listing digits decimal spaced word text_of texts_of printed
worked_output = refl
