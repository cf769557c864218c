-- Laws of a call's answer: the record is read, and is an open request or not. Assumes nothing.
use Rattle.std.specs.Prelude.{◌≡◌, refl, ℕ, zero, suc, ◌≤◌}
use Rattle.std.proofs.Common.{sym, ◌∙◌, subst, arith}
use Rattle.rules.specs.Message.{Message}
use Rattle.meaning.specs.Machine.{State}
use Rattle.frames.specs.Modes.{TRAILED}
use Rattle.frames.specs.declared.Cells.{Cells}
use Rattle.frames.specs.Both.{of_request}
use Rattle.frames.specs.Uses.{place_of, a_place}
use Rattle.frames.specs.Answers.{StandsIn}
use Rattle.frames.specs.Apart.{message}
use Rattle.record.specs.declared.Record.{Record}
use Rattle.record.specs.Sound.{own_place}
use Rattle.requests.specs.declared.Reply.{Reply}
use Rattle.requests.specs.Reply.{Answered, shut, opened}

-- A CALL HAS ONE ANSWER
pub one_answer : (r : Record) (want : State Message → Reply) (a b : Reply) → Answered r want a → Answered r want b → a ≡ b
one_answer r want a b (shut n p) (shut m q) = p ∙ sym q
one_answer r want a b (shut n p) (opened o q) = absurd (n o)
one_answer r want a b (opened o p) (shut n q) = absurd (n o)
one_answer r want a b (opened o p) (opened x q) = p ∙ sym q

-- the place of a request
pub of_message : (phase h n s : ℕ) → phase ≤ TRAILED → place_of phase h n s ≡ of_request (message (place_of phase h n s))
unfolding place_of message
of_message zero h n s l = refl
of_message (suc zero) h n s l = refl
of_message (suc (suc zero)) h n s l = refl
of_message (suc (suc (suc k))) h n s l = absurd (omega arith)

pub own_message : (c : Cells) → c.phase ≤ TRAILED → own_place c ≡ of_request (message (own_place c))
own_message c l = of_message c.phase c.has c.stated c.sum l

pub own_stands : (c : Cells) → c.phase ≤ TRAILED → StandsIn c (of_request (message (own_place c)))
own_stands c l = let st : StandsIn c (own_place c) = a_place in subst (StandsIn c) (own_message c l) st
