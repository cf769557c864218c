-- A message, free of frames: a header section, DATA of some lengths, perhaps trailers, the end. Each step goes on or has a reason not to.
-- Requests of HTTP/3 map their frames onto it; responses and HTTP/2 can map onto the same. Assumes nothing.
use Rattle.std.specs.Prelude.{ℕ, ◌+◌, true, false, ltb, eqb}
use Rattle.std.proofs.Math.Option.{Option, none, some}

-- the content accepted where no Content-Length is stated
unfoldable pub content_limit : ℕ
content_limit = 1_048_576

-- where a message is: the Content-Length that its header section states, and the sum of the DATA lengths so far
pub data Message : Type 0 where
  opening : Message
  body : (stated : Option ℕ) (sum : ℕ) → Message
  trailed : (stated : Option ℕ) (sum : ℕ) → Message

pub data Reason : Type 0 where
  out_of_place : Reason  -- DATA before the header section or behind the trailers, or a third section
  past_stated : Reason  -- DATA takes the sum past the Content-Length
  past_limit : Reason  -- none is stated, and DATA takes the sum past the limit
  no_section : Reason  -- the end, and no header section has come
  unequal : Reason  -- the end, and the sum is not the Content-Length

pub data Step : Type 0 where
  goes : Message → Step
  refuses : Reason → Step

-- a header section that is good and states this
unfoldable pub heads : Option ℕ → Message → Step
heads stated opening = goes (body stated 0)
heads stated (body s sum) = refuses out_of_place
heads stated (trailed s sum) = refuses out_of_place

unfoldable pub sum_to : Option ℕ → (sum : ℕ) → Step
sum_to (some n) sum = elim (ltb n sum) [ true ↦ refuses past_stated | false ↦ goes (body (some n) sum) ]
sum_to none sum = elim (ltb content_limit sum) [ true ↦ refuses past_limit | false ↦ goes (body none sum) ]

-- DATA of a length
unfoldable pub carries : (len : ℕ) → Message → Step
carries len opening = refuses out_of_place
carries len (body stated sum) = sum_to stated (sum + len)
carries len (trailed stated sum) = refuses out_of_place

-- trailers that are good
unfoldable pub trails : Message → Step
trails opening = refuses out_of_place
trails (body stated sum) = goes (trailed stated sum)
trails (trailed stated sum) = refuses out_of_place

pub data Ended : Type 0 where
  all_come : Ended
  lacks : Reason → Ended

unfoldable pub tally : Option ℕ → (sum : ℕ) → Ended
tally none sum = all_come
tally (some n) sum = elim (eqb sum n) [ true ↦ all_come | false ↦ lacks unequal ]

unfoldable pub ends : Message → Ended
ends opening = lacks no_section
ends (body stated sum) = tally stated sum
ends (trailed stated sum) = tally stated sum
