-- One grammar for both kinds of framed stream, so that one engine reads them: a place is a request's or a control stream's. Only its feeds are
-- used; they are those of the rules' own grammars. Assumes nothing.
use Rattle.std.specs.Prelude.{◌≡◌, refl, ℕ, List}
use Rattle.rules.specs.Numbers.{of_connection, frame_error}
use Rattle.rules.specs.Reading.{Kept, Ruling, Next, go, complete, Grammar}
use Rattle.rules.specs.Message.{Message, opening}
use Rattle.rules.specs.Request.{Rules, request, rule as request_rule}
use Rattle.rules.specs.Control.{Control, control, rule as control_rule, judged as control-judged}
use Rattle.meaning.specs.Machine.{State}
use Rattle.meaning.specs.Feed.{feed}
use Rattle.meaning.specs.Hom.{map_ruling, map_next, map_state, map_feeding, Carries, map_feed}

pub data Place : Type 0 where
  of_request : Message → Place
  of_control : Control → Place

unfoldable pub rule : Place → (type len : ℕ) → Ruling Place
rule (of_request m) t len = map_ruling of_request (request_rule m t len)
rule (of_control c) t len = map_ruling of_control (control_rule c t len)

unfoldable pub judged : Kept → Place → List ℕ → Next Place
judged k (of_request m) payload = go (of_request m)
judged k (of_control c) payload = map_next of_control (control-judged k c payload)

abbrev pub both : Grammar
both = record { P = Place; start = of_request opening; rule = rule; given = λ t p s. go p; judged = judged; end = λ p. complete; cut = of_connection frame_error }

request_carries : (R : Rules) → Carries (request R) both of_request
unfolding rule judged map_next
request_carries R = record { rule = λ m t len. refl; judged = λ k m payload. refl }

control_carries : Carries control both of_control
unfolding rule judged
control_carries = record { rule = λ c t len. refl; judged = λ k c payload. refl }

-- A REQUEST STREAM'S FEED, and A CONTROL STREAM'S
pub request_feed : (R : Rules) (n : ℕ) (s : State Message) (bs : List ℕ) → feed both n (map_state of_request s) bs ≡ map_feeding of_request (feed (request R) n s bs)
request_feed R n s bs = map_feed (request R) both of_request (request_carries R) n s bs

pub control_feed : (n : ℕ) (s : State Control) (bs : List ℕ) → feed both n (map_state of_control s) bs ≡ map_feeding of_control (feed control n s bs)
control_feed n s bs = map_feed control both of_control control_carries n s bs
