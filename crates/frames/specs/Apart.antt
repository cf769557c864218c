-- What `Fed` says of a request stream alone, and of a control stream alone: a place of one kind, and the rules' own grammar. Assumes nothing.
use Rattle.std.specs.Prelude.{◌≡◌, refl, ℕ, ◌-◌, List}
use Rattle.std.proofs.Common.{sym, ap, ◌∙◌}
use Rattle.rules.specs.Message.{Message, opening}
use Rattle.rules.specs.Request.{Rules, request}
use Rattle.rules.specs.Control.{Control, unset, control}
use Rattle.meaning.specs.Feed.{feed}
use Rattle.meaning.specs.Hom.{map_state, map_feeding, feeding_back}
use Rattle.frames.specs.Modes.{IN-SETTINGS, Mode, typing, sizing, paying, waiting, mode_of}
use Rattle.frames.specs.declared.Cells.{Cells}
use Rattle.frames.specs.declared.Answer.{Answer}
use Rattle.frames.specs.Both.{Place, of_request, of_control, both, request_feed, control_feed}
use Rattle.frames.specs.Heads.{head_state}
use Rattle.frames.specs.Answers.{mode_state, state_at, state_of, StandsIn, answer_of, Held}
use Rattle.frames.specs.Fed.{Fed}

-- ---- a place of one kind

unfoldable pub message : Place → Message
message (of_request m) = m
message (of_control c) = opening

unfoldable pub controls : Place → Control
controls (of_request m) = unset
controls (of_control c) = c

message_back : (m : Message) → message (of_request m) ≡ m
unfolding message
message_back m = refl

controls_back : (c : Control) → controls (of_control c) ≡ c
unfolding controls
controls_back c = refl

-- numbers mean a state whatever its place is
state_moved : {P Q : Type 0} (f : P → Q) (m : Mode) (a d t : ℕ) (p : P) (k : List ℕ) → map_state f (mode_state m a d t p k) ≡ mode_state m a d t (f p) k
unfolding map_state mode_state head_state
state_moved f typing a d t p k = refl
state_moved f sizing a d t p k = refl
state_moved f (paying u) a d t p k = refl
state_moved f (waiting x) a d t p k = refl

pub state_carried : {P Q : Type 0} (f : P → Q) (mode a d t : ℕ) (p : P) (k : List ℕ) → map_state f (state_at mode a d t p k) ≡ state_at mode a d t (f p) k
state_carried f mode a d t p k = state_moved f (mode_of mode) a d t p k

-- ---- a feed of one kind

module _ (c : Cells) (s : List ℕ) (allow : ℕ) (r : Answer) (fed : Fed c s allow r) (k : List ℕ) (held : Held (IN-SETTINGS - c.mode) k) where
  -- A REQUEST STREAM'S FEED is what the answer says
  pub request_fed : (R : Rules) (m : Message) → StandsIn c (of_request m) → feed (request R) allow (state_of c m k) s ≡ map_feeding message (answer_of r (of_request m) k s)
  request_fed R m st =
      sym (feeding_back of_request message message_back (feed (request R) allow (state_of c m k) s))
      ∙ ap (map_feeding message) (sym (request_feed R allow (state_of c m k) s) ∙ ap (λ x. feed both allow x s) (state_carried of_request c.mode c.acc c.due c.ftype m k) ∙ fed.is allow (of_request m) k held st)

  -- A CONTROL STREAM'S FEED is what the answer says
  pub control_fed : (p : Control) → StandsIn c (of_control p) → feed control allow (state_of c p k) s ≡ map_feeding controls (answer_of r (of_control p) k s)
  control_fed p st =
      sym (feeding_back of_control controls controls_back (feed control allow (state_of c p k) s))
      ∙ ap (map_feeding controls) (sym (control_feed allow (state_of c p k) s) ∙ ap (λ x. feed both allow x s) (state_carried of_control c.mode c.acc c.due c.ftype p k) ∙ fed.is allow (of_control p) k held st)
