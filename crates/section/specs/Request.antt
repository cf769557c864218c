-- What a request stream makes of an answer: what the rules make of the block's lines. Assumes nothing.
use Rattle.std.specs.Prelude.{ℕ, ◌≤◌, ◌^◌, ◌≡◌, refl, List, true, false, ltb}
use Rattle.std.proofs.Common.{sym, ap, ◌∙◌, arith, ltb-false}
use Rattle.std.proofs.Math.Option.{Option, none, some}
use Rattle.rules.specs.Block.{Section, Lines, unreadable, readable}
use Rattle.rules.specs.Section as rules
use Rattle.rules.specs.Section.{header_section, code_of, holds, uploading, length_limit, decimal, stated_in, first_broken, header_checks, unless, value_of, length_check}
use Rattle.rules.specs.Request.{Header, Trailer, header_by, trailer_by, document}
use Rattle.rules.specs.Request as request
use Rattle.rules.specs.Named.{reason_of, reason_back}
use Rattle.std.specs.Prelude.{Ok, Err}
use Rattle.section.specs.declared.Fault.TheVariants as fault
use Rattle.section.specs.Answer.{HeaderAnswer, TrailerAnswer, length_name, header_answer_by, header_answer, trailer_answer, read_stated, stated_read}
use Rattle.section.specs.Judging.{says, header_by_cases, trailers_by_cases, length_passed, upload_states}

-- none where the block is unreadable
unfoldable pub as_header : HeaderAnswer → Option Header
as_header (Err fault.Unreadable) = none
as_header (Err (fault.Refused r)) = some (request.Header.bad (code_of (reason_of r)))
as_header (Ok s) = some (request.Header.good (read_stated s.stated))

unfoldable pub as_trailer : TrailerAnswer → Option Trailer
as_trailer (Err fault.Unreadable) = none
as_trailer (Err (fault.Refused r)) = some (request.Trailer.bad (code_of (reason_of r)))
as_trailer (Ok u) = some request.Trailer.good

unfoldable pub header_of : Lines → Option Header
header_of (unreadable f) = none
header_of (readable s) = some (document.header s)

unfoldable pub trailer_of : Lines → Option Trailer
trailer_of (unreadable f) = none
trailer_of (readable s) = some (document.trailer s)

pub header_is : (l : Lines) → as_header (header_answer l) ≡ header_of l
unfolding as_header header_answer header_answer_by header_of document header_by
header_is (unreadable f) = refl
header_is (readable s) =
    header_by_cases s (λ a j. as_header a ≡ some (header_by j)) (λ r. ap (λ x. some (request.Header.bad (code_of x))) (reason_back r)) (λ h. ap (λ o. some (request.Header.good o)) (stated_read h.stated))

pub trailer_is : (l : Lines) → as_trailer (trailer_answer l) ≡ trailer_of l
unfolding as_trailer trailer_answer trailer_of document trailer_by
trailer_is (unreadable f) = refl
trailer_is (readable s) = trailers_by_cases s (λ a j. as_trailer a ≡ some (trailer_by j)) (λ r. ap (λ x. some (request.Trailer.bad (code_of x))) (reason_back r)) refl

-- ---- a length that is stated is within the limit

within : (o : Option (List ℕ)) → holds (λ v. ltb length_limit (decimal v)) o ≡ false → (n : ℕ) → stated_in o ≡ some n → n ≤ 2 ^ 62
unfolding holds length_limit stated_in
within none e n f = let z : ◌≡◌ {A = ℕ} 0 1 = cc in absurd (omega arith)
within (some v) e n f = let g : decimal v ≡ n = cc in let h = ltb-false length_limit (decimal v) e in omega (arith, g, h)

judged_within : (s : Section) (r : Option rules.Reason) → first_broken header_checks s ≡ r → (n : ℕ)
    → header_by (unless r (says s)) ≡ request.Header.good (some n) → n ≤ 2 ^ 62
unfolding header_by unless length_check
judged_within s none q n e = within (value_of length_name s) (length_passed s q) n (cc)
judged_within s (some x) q n e = let z : ◌≡◌ {A = ℕ} 0 1 = cc in absurd (omega arith)

pub stated_within : (s : Section) (stated : Option ℕ) → document.header s ≡ request.Header.good stated → (n : ℕ) → stated ≡ some n → n ≤ 2 ^ 62
unfolding document header_section
stated_within s stated e n f = judged_within s (first_broken header_checks s) refl n (e ∙ ap request.Header.good f)

-- ---- and a sound upload states one

judged_stated : (s : Section) (r : Option rules.Reason) → first_broken header_checks s ≡ r → uploading s ≡ true → (stated : Option ℕ)
    → header_by (unless r (says s)) ≡ request.Header.good stated → (n : ℕ) × (stated ≡ some n)
unfolding header_by unless
judged_stated s none q u stated e = let w = upload_states s q u in let f : stated_in (value_of length_name s) ≡ stated = cc in (w.0, sym f ∙ w.1)
judged_stated s (some x) q u stated e = let z : ◌≡◌ {A = ℕ} 0 1 = cc in absurd (omega arith)

pub upload_stated : (s : Section) (stated : Option ℕ) → document.header s ≡ request.Header.good stated → uploading s ≡ true → (n : ℕ) × (stated ≡ some n)
unfolding document header_section
upload_stated s stated e u = judged_stated s (first_broken header_checks s) refl u stated e
