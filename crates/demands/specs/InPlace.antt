-- Where a request waits for a section it is one that can come there: the header section at the opening, trailers behind it. So a section that is
-- refused is a stream's fault. Assumes nothing.
use Rattle.std.specs.Prelude.{◌≡◌, ℕ, List}
use Rattle.std.proofs.Common.{subst}
use Rattle.rules.specs.Numbers.{Code}
use Rattle.rules.specs.Block.{Section}
use Rattle.rules.specs.Reading.{Next, stop, go}
use Rattle.rules.specs.Message.{Message}
use Rattle.rules.specs.Request.{document, request, given as next-given}
use Rattle.meaning.specs.Machine.{State, in_type, in_length, in_payload, due, Outcome, lives, dies, answered, given}
use Rattle.meaning.specs.Feed.{feed}
use Rattle.meaning.specs.NumberLaws.{OfStream}
use Rattle.demands.specs.Suits.{OutcomeSuits, RequestFits, RequestSuits, request_suits, Given, given_suits}

abbrev pub Placed : State Message → Type 0
Placed s = RequestSuits s

abbrev Onward : Outcome Message → Type 0
Onward o = OutcomeSuits (request document) RequestFits o

pub feed_placed : (allow : ℕ) (s : State Message) → Placed s → (piece : List ℕ) (s' : State Message) → (feed (request document) allow s piece).after ≡ lives s' → Placed s'
feed_placed allow s w piece s' e = subst Onward e (request_suits allow s w piece).after

given_at : (block : Section) (s : State Message) → Placed s → Onward (given (request document) block s)
unfolding given answered
given_at block (in_type g p) w = tt
given_at block (in_length t g p) w = tt
given_at block (in_payload u k left p) w = w
given_at block (due t p) w = by (next-given document t p block)
  where
    by : (n : Next Message) → Onward (answered n)
    by (stop code) = tt
    by (go m) = tt

pub given_placed : (block : Section) (s : State Message) → Placed s → (s' : State Message) → given (request document) block s ≡ lives s' → Placed s'
given_placed block s w s' e = subst Onward e (given_at block s w)

-- a stream that dies of a section has a stream's code
abbrev Dies : Outcome Message → Type 0
Dies (lives s) = Unit {0}
Dies (dies code) = OfStream code

only_dies : (o : Outcome Message) → Given o → Dies o
only_dies (lives s) g = tt
only_dies (dies code) g = g

given_dies : (block : Section) (s : State Message) → Placed s → Dies (given (request document) block s)
unfolding given
given_dies block (in_type g p) w = tt
given_dies block (in_length t g p) w = tt
given_dies block (in_payload u k left p) w = tt
given_dies block (due t p) w = only_dies (given (request document) block (due t p)) (given_suits t p w block)

-- A SECTION GIVEN WHERE ONE IS DUE, and refused: a stream's fault
pub given_of_stream : (block : Section) (s : State Message) → Placed s → (code : Code) → given (request document) block s ≡ dies code → OfStream code
given_of_stream block s w code e = subst Dies e (given_dies block s w)
