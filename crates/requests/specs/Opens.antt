-- An open request's record is the record of its state; a request begins so. Assumes nothing.
use Rattle.std.specs.Prelude.{◌≡◌, refl, ℕ, suc, ◌-◌, ◌%◌, ◌<◌, ◌^◌, List, []}
use Rattle.std.proofs.Common.{sym, ap, ◌∙◌, arith}
use Rattle.std.proofs.Math.Option.{Option, none, some}
use Rattle.rules.specs.Reading.{header_section, trailers, content, skipped, section, kept}
use Rattle.rules.specs.Message.{Message, opening, body, trailed}
use Rattle.rules.specs.Request.{document, request}
use Rattle.meaning.specs.Machine.{Prog, fresh, need, State, in_type, in_length, in_payload, due, lives, between}
use Rattle.meaning.specs.Feed.{feed}
use Rattle.meaning.specs.Hom.{map_state}
use Rattle.varint.specs.ByByte.{prog, part_of, fresh_good}
use Rattle.frames.specs.Modes.{mode_of}
use Rattle.frames.specs.Both.{of_request}
use Rattle.frames.specs.Uses.{stated_of, place_of}
use Rattle.frames.specs.Heads.{head_state}
use Rattle.frames.specs.Answers.{mode_state, state_at, state_of}
use Rattle.frames.specs.Apart.{message, state_carried}
use Rattle.record.specs.Kinds.{REQUEST}
use Rattle.record.specs.declared.Record.{Record}
use Rattle.record.specs.Row.{phase_of, stated_in, is_stated, length_of, sum_in, numbers_of, place_in, record_from, request_record}
use Rattle.record.specs.Sound.{cells_in, own_place}
use Rattle.record.specs.Tests.{request_shape, sane_with}
use Rattle.record.specs.Same.{sound_is}
use Rattle.requests.specs.Reply.{Open, state_in}
use Rattle.requests.specs.Answered.{own_stands}
use Rattle.requests.specs.Told.{phase_low}
use Rattle.requests.specs.Plain.{Plain, plain_feed}
use Rattle.requests.specs.Feeds.{plain_mode}

-- THE RECORD IS ITS STATE'S
pub open_is : (r : Record) → Open r → r ≡ request_record r.id (state_in r)
open_is r o =
    let c = cells_in r in
    let m = message (own_place c) in
    sound_is r o.sound (of_request m) [] (own_stands c (phase_low r o)) ∙ ap (λ k. record_from k r.id (state_of c (of_request m) [])) o.kind
    ∙ ap (record_from REQUEST r.id) (sym (state_carried of_request c.mode c.acc c.due c.ftype m []))

-- TWO OPEN REQUESTS OF ONE ID AND STATE ARE ONE RECORD
pub one_open : (r q : Record) → Open r → Open q → r.id ≡ q.id → state_in r ≡ state_in q → r ≡ q
one_open r q o p i e = open_is r o ∙ ap (λ x. request_record x (state_in r)) i ∙ ap (request_record q.id) e ∙ sym (open_is q p)

-- A REQUEST BEGINS OPEN, with nothing read
pub begins_open : (id : ℕ) → id < 2 ^ 62 → id % 4 ≡ 0 → Open (request_record id (between opening))
unfolding map_state numbers_of place_in part_of phase_of stated_in is_stated length_of sum_in mode_state mode_of head_state prog place_of
begins_open id l e = record {
  sound = record {
    fit = record {
      sane = sane_with _ (omega arith) (omega arith) (omega arith) (omega arith) (omega arith) (λ m. fresh_good) (λ a b d. absurd (omega arith));
      shaped = request_shape id _ l e (omega arith) (omega arith);
    };
    own = refl;
  };
  kind = refl;
}

pub begins_fresh : (id : ℕ) → state_in (request_record id (between opening)) ≡ between opening
unfolding map_state numbers_of place_in part_of phase_of stated_in is_stated length_of sum_in mode_state mode_of head_state prog place_of message
begins_fresh id = refl

-- ---- a record's state is the state that was written

stated_back : (o : Option ℕ) → stated_of (is_stated o) (length_of o) ≡ o
unfolding stated_of is_stated length_of
stated_back none = refl
stated_back (some n) = refl

-- the place that the numbers of a message say
abbrev place_said : Message → Message
place_said m = let p = of_request m in message (place_of (phase_of p) (is_stated (stated_in p)) (length_of (stated_in p)) (sum_in p))

message_back : (m : Message) → place_said m ≡ m
unfolding message place_of phase_of stated_in sum_in
message_back opening = refl
message_back (body stated sum) = ap (λ o. body o sum) (stated_back stated)
message_back (trailed stated sum) = ap (λ o. trailed o sum) (stated_back stated)

prog_back : (g : Prog) → prog (part_of g).due (part_of g).acc ≡ g
unfolding prog part_of
prog_back fresh = refl
prog_back (need k v) = refl

one_less : (n : ℕ) → suc n - 1 ≡ n
one_less n = omega arith

numbers_back : {P : Type 0} (s : State P) → Plain s → let h = numbers_of s in state_at h.mode h.acc h.due h.ftype (place_in s) [] ≡ s
unfolding numbers_of place_in mode_state mode_of head_state
numbers_back (in_type g p) h = ap (λ x. in_type x p) (prog_back g)
numbers_back (in_length t g p) h = ap (λ x. in_length t x p) (prog_back g)
numbers_back (in_payload content k left p) h = let n = one_less left in rw (n, h) refl
numbers_back (in_payload skipped k left p) h = let n = one_less left in rw (n, h) refl
numbers_back (in_payload (section header_section) k left p) h = let n = one_less left in rw (n, h) refl
numbers_back (in_payload (section trailers) k left p) h = let n = one_less left in rw (n, h) refl
numbers_back (in_payload (kept f) k left p) h = absurd h
numbers_back (due header_section p) h = refl
numbers_back (due trailers p) h = refl

same_numbers : (s : State Message) → numbers_of (map_state of_request s) ≡ numbers_of s
unfolding numbers_of map_state
same_numbers (in_type g p) = refl
same_numbers (in_length t g p) = refl
same_numbers (in_payload u k left p) = refl
same_numbers (due t p) = refl

same_place : (s : State Message) → place_in (map_state of_request s) ≡ of_request (place_in s)
unfolding place_in map_state
same_place (in_type g p) = refl
same_place (in_length t g p) = refl
same_place (in_payload u k left p) = refl
same_place (due t p) = refl

-- THE STATE IS ITS RECORD'S: what a feed leaves is what the next one begins with
pub state_back : (id : ℕ) (s : State Message) → Plain s → state_in (request_record id s) ≡ s
state_back id s h =
    let a = same_numbers s in
    let b = same_place s in
    let c = message_back (place_in s) in
    rw (a, b, c) (numbers_back s h)

pub open_plain : (r : Record) → Open r → Plain (state_in r)
open_plain r o = let c = cells_in r in plain_mode c.mode c.acc c.due c.ftype (message (own_place c)) [] (o.sound.fit.shaped.request_mode o.kind)

-- FEED AFTER FEED: the record that an accepted feed leaves means the very state that the definition's feed leaves
pub feeds_on : (r : Record) → Open r → (allow : ℕ) (piece : List ℕ) (s : State Message) → (feed (request document) allow (state_in r) piece).after ≡ lives s → state_in (request_record r.id s) ≡ s
feeds_on r o allow piece s e = state_back r.id s ((plain_feed document allow (state_in r) (open_plain r o) piece).plain s e)
