-- The numbers of a state and of an answer, and what they say of a feed. Assumes nothing.
use Rattle.std.specs.Prelude.{◌≡◌, refl, ℕ, zero, suc, ◌+◌, ◌-◌, ◌≤◌, ◌<◌, ◌^◌, List, [], ◌++◌, true, false, length, take, drop}
use Rattle.std.proofs.Common.{arith}
use Rattle.rules.specs.Events.{NOTHING, CONTENT, SECTION, SECTION-END, FAULT, KEPT, KEPT-PART}
use Rattle.rules.specs.Named.{code_of}
use Rattle.rules.specs.Reading.{Kept, cancel_push, Use, content, skipped, section, kept}
use Rattle.meaning.specs.Machine.{State, in_type, in_length, in_payload, due, lives, dies, over}
use Rattle.meaning.specs.Feed.{quiet, section_bytes, content_bytes, Feeding, halt, over_event, feed}
use Rattle.meaning.specs.FeedLaws.{past}
use Rattle.varint.specs.ByByte.{part, Good}
use Rattle.frames.specs.Modes.{IN-TYPE, IN-LENGTH, IN-SKIPPED, IN-CONTENT, IN-HEADER-SECTION, IN-TRAILERS, HEADER-SECTION-DUE, TRAILERS-DUE, IN-SETTINGS, IN-CANCEL-PUSH, OPENING, BODY, TRAILED, UNSET, Mode, typing, sizing, paying, waiting, mode_of, at_kept}
use Rattle.frames.specs.declared.Cells.{Cells}
use Rattle.frames.specs.declared.Answer.{Answer}
use Rattle.frames.specs.declared.Event as declared-event
use Rattle.frames.specs.declared.Event.TheVariants as event
use Rattle.frames.specs.declared.Telling.{Telling}
use Rattle.frames.specs.Both.{Place, both}
use Rattle.frames.specs.Uses.{place_of, Stands, a_place, any_set}
use Rattle.frames.specs.Heads.{head_state}
use Rattle.frames.specs.Parts.{judged_as}

-- ---- a state

-- the state of a mode: a place is p; what was kept of a kept payload is sofar
abbrev pub kept_of : Use → (sofar : List ℕ) → List ℕ
kept_of content k = []
kept_of skipped k = []
kept_of (section t) k = []
kept_of (kept f) k = k

unfoldable pub mode_state : {P : Type 0} → Mode → (acc due ftype : ℕ) → P → (sofar : List ℕ) → State P
mode_state typing a d t p k = head_state IN-TYPE a d t p
mode_state sizing a d t p k = head_state IN-LENGTH a d t p
mode_state (paying u) a d t p k = in_payload u (kept_of u k) (a - 1) p
mode_state (waiting x) a d t p k = due x p

abbrev pub state_at : {P : Type 0} → (mode acc due ftype : ℕ) → P → (sofar : List ℕ) → State P
state_at mode a d t p k = mode_state (mode_of mode) a d t p k

-- which payload is kept in a mode; of one that keeps none, any
unfoldable pub mode_kept : Mode → Kept
mode_kept (paying (kept f)) = f
mode_kept (paying content) = cancel_push
mode_kept (paying skipped) = cancel_push
mode_kept (paying (section t)) = cancel_push
mode_kept typing = cancel_push
mode_kept sizing = cancel_push
mode_kept (waiting t) = cancel_push

abbrev pub kept_at : (mode : ℕ) → Kept
kept_at mode = mode_kept (mode_of mode)

abbrev pub state_of : {P : Type 0} → Cells → P → (sofar : List ℕ) → State P
state_of c p k = state_at c.mode c.acc c.due c.ftype p k

-- the place of a request by its numbers; a control stream's is kept elsewhere
unfoldable pub place_at : (phase has stated sum : ℕ) → Place → Place
place_at zero h n m p = place_of OPENING h n m
place_at (suc zero) h n m p = place_of BODY h n m
place_at (suc (suc zero)) h n m p = place_of TRAILED h n m
place_at (suc (suc (suc zero))) h n m p = place_of UNSET h n m
place_at (suc (suc (suc (suc k)))) h n m p = p

abbrev pub place_in : Cells → Place → Place
place_in c p = place_at c.phase c.has c.stated c.sum p

abbrev pub StandsIn : Cells → Place → Type 0
StandsIn c p = Stands c.has c.stated c.sum c.phase p

-- ---- an answer

-- the number of an event in a host's report
abbrev pub event_number : declared-event.Event → ℕ
event_number event.Nothing = NOTHING
event_number event.Content = CONTENT
event_number event.Section = SECTION
event_number event.SectionEnd = SECTION-END
event_number (event.Fault code) = FAULT
event_number (event.Kept which) = KEPT
event_number event.KeptPart = KEPT-PART

-- THE VIEW of an event, up to a part of a kept payload
unfoldable pub answer_at : declared-event.Event → (start len used heads : ℕ) → Cells → Place → (sofar s : List ℕ) → Feeding Place
answer_at event.Nothing start len used heads c p k s = record { used = used; heads = heads; event = quiet; after = lives (state_of c p k) }
answer_at event.Content start len used heads c p k s = record { used = used; heads = heads; event = content_bytes len; after = lives (state_of c p k) }
answer_at event.Section start len used heads c p k s = record { used = used; heads = heads; event = section_bytes len false; after = lives (state_of c p k) }
answer_at event.SectionEnd start len used heads c p k s = record { used = used; heads = heads; event = section_bytes len true; after = lives (state_of c p k) }
answer_at (event.Fault code) start len used heads c p k s = record { used = used; heads = heads; event = quiet; after = dies (code_of code) }
answer_at (event.Kept which) start len used heads c p k s = past used heads (judged_as both 0 p (kept_at which) (k ++ take len (drop start s)))
answer_at event.KeptPart start len used heads c p k s =
    record { used = used; heads = heads; event = quiet; after = lives (state_of c p (k ++ take len (drop start s))) }

abbrev pub answer_of : Answer → Place → (sofar s : List ℕ) → Feeding Place
answer_of r p k s = answer_at r.event r.start r.len r.used r.heads r.cells (place_in r.cells p) k s

-- ---- numbers that the code can go on with

pub record Sane (c : Cells) : Type 0 where
  pub modes : c.mode ≤ IN-CANCEL-PUSH
  pub header : c.mode < IN-SKIPPED → Good (part c.acc c.due)
  pub small : c.acc < 2 ^ 62
  pub type : c.ftype < 2 ^ 62
  pub some : IN-SKIPPED ≤ c.mode → (c.mode ≡ HEADER-SECTION-DUE → ⊥) → (c.mode ≡ TRAILERS-DUE → ⊥) → 0 < c.acc
  pub sums : c.sum ≤ 2 ^ 62
  pub stateds : c.stated ≤ 2 ^ 62

-- the sums alone
abbrev pub Numbers : Cells → Type 0
Numbers c = (c.sum ≤ 2 ^ 62) × (c.stated ≤ 2 ^ 62)

-- nothing is kept so far, unless this is 0
abbrev pub Held : (fresh : ℕ) (sofar : List ℕ) → Type 0
Held zero k = Unit {0}
Held (suc n) k = k ≡ []

-- an answer to a feed that was to come, by any allowance left
pub record Answers (c : Cells) (s : List ℕ) (fresh : ℕ) (want : (rest : ℕ) → Place → (sofar : List ℕ) → Feeding Place) (r : Answer) : Type 0 where
  pub is : (n : ℕ) (p : Place) (k : List ℕ) → Held fresh k → StandsIn c p → want n p k ≡ answer_of r p k s
  pub within : r.used ≤ length s
  pub part : r.start + r.len ≡ r.used
  pub sane : ((which : ℕ) → r.event ≡ event.Kept which → ⊥) → Sane r.cells
  pub phase : r.cells.phase ≡ c.phase
  pub held : r.event ≡ event.KeptPart → IN-SETTINGS ≤ r.cells.mode  -- a part is kept of a kept payload alone
  pub named : (which : ℕ) → r.event ≡ event.Kept which → r.cells.mode ≡ which

-- ---- a payload that is handed on or kept, by its mode

abbrev pub HandedMode : (mode : ℕ) → Type 0
HandedMode mode = (IN-CONTENT ≤ mode) × (mode ≤ IN-CANCEL-PUSH) × (mode ≡ HEADER-SECTION-DUE → ⊥) × (mode ≡ TRAILERS-DUE → ⊥)

abbrev pub tell : (last part : declared-event.Event) → (behind : ℕ) → Telling
tell last part behind = record { last = last; part = part; behind = behind }

-- how its parts are reported
pub data Tells : (mode : ℕ) → Telling → Type 0 where
  tells_content : Tells IN-CONTENT (tell event.Content event.Content IN-TYPE)
  tells_header : Tells IN-HEADER-SECTION (tell event.SectionEnd event.Section HEADER-SECTION-DUE)
  tells_trailers : Tells IN-TRAILERS (tell event.SectionEnd event.Section TRAILERS-DUE)
  tells_kept : (mode : ℕ) → IN-SETTINGS ≤ mode → Tells mode (tell (event.Kept mode) event.KeptPart mode)

-- one of no bytes is over
unfoldable pub emptied : State Place → Feeding Place
emptied (in_type g p) = halt quiet (lives (in_type g p))
emptied (in_length t g p) = halt quiet (lives (in_length t g p))
emptied (in_payload u k l p) = halt (over_event both u k p) (over both u k p)
emptied (due t p) = halt quiet (lives (due t p))

unfoldable pub coming : (left : ℕ) → State Place → (State Place → Feeding Place) → Feeding Place
coming zero st f = emptied st
coming (suc l) st f = f st

-- from a payload on: so many bytes and headers are behind it
abbrev pub from_payload : (c : Cells) (s : List ℕ) (at heads mode left : ℕ) → (rest : ℕ) → Place → (sofar : List ℕ) → Feeding Place
from_payload c s at heads mode left n p k = past at heads (coming left (state_at mode left 0 0 (place_in c p) k) (λ st. feed both n st (drop at s)))

-- ---- laws

-- in a kept payload
pub kept_state : {P : Type 0} (mode a d t : ℕ) (p : P) (k : List ℕ) → IN-SETTINGS ≤ mode → state_at mode a d t p k ≡ in_payload (kept (kept_at mode)) k (a - 1) p
unfolding mode_state mode_kept
kept_state mode a d t p k = at_kept (λ m. mode_state m a d t p k ≡ in_payload (kept (mode_kept m)) k (a - 1) p) (λ f. refl) mode

pub some_coming : (left : ℕ) → 0 < left → (st : State Place) (f : State Place → Feeding Place) → coming left st f ≡ f st
unfolding coming
some_coming zero h st f = absurd (omega arith)
some_coming (suc l) h st f = refl

set_phase : (h n m k : ℕ) (p : Place) → place_at (suc (suc (suc (suc k)))) h n m p ≡ p
unfolding place_at
set_phase h n m k p = refl

own_phase : (h n m ph : ℕ) → place_at ph h n m (place_of ph h n m) ≡ place_of ph h n m
unfolding place_at
own_phase h n m zero = refl
own_phase h n m (suc zero) = refl
own_phase h n m (suc (suc zero)) = refl
own_phase h n m (suc (suc (suc zero))) = refl
own_phase h n m (suc (suc (suc (suc k)))) = refl

stands_same : (h n m : ℕ) {ph : ℕ} {p : Place} → Stands h n m ph p → place_at ph h n m p ≡ p
stands_same h n m (a_place {phase = ph}) = own_phase h n m ph
stands_same h n m (any_set {p = p} k i) = set_phase h n m k p

pub place_same : (c : Cells) (p : Place) → StandsIn c p → place_in c p ≡ p
place_same c p st = stands_same c.has c.stated c.sum st

-- the cells of another mode, at the same place
abbrev pub in_mode : Cells → (mode acc : ℕ) → Cells
in_mode c mode acc = record { mode = mode; acc = acc; due = 0; ftype = 0; phase = c.phase; has = c.has; stated = c.stated; sum = c.sum }

-- WHAT CONTENT LEAVES of the cells: more of it is to come, or another frame; but for the sum the place is the same
abbrev pub content_at : Cells → (mode acc sum : ℕ) → Cells
content_at c mode acc sum = record { mode = mode; acc = acc; due = 0; ftype = 0; phase = c.phase; has = c.has; stated = c.stated; sum = sum }

pub data Content (c : Cells) : Cells → Type 0 where
  goes_on : (acc sum : ℕ) → Content c (content_at c IN-CONTENT acc sum)
  is_over : (sum : ℕ) → Content c (content_at c IN-TYPE 0 sum)

-- a payload handed on, from its beginning or from where it was cut
abbrev pub Hands : Cells → (s : List ℕ) → (at heads mode left : ℕ) → Answer → Type 0
Hands c s at heads mode left r = Answers c s 0 (from_payload c s at heads mode left) r × (mode ≡ IN-CONTENT → Content c r.cells)

abbrev pub answer : declared-event.Event → (start len used heads : ℕ) → Cells → Answer
answer e start len used heads c = record { event = e; start = start; len = len; used = used; heads = heads; cells = c }
