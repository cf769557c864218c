-- The numbers of a one-way stream and of an answer, and what they say of a feed. Assumes nothing.
use Rattle.std.specs.Prelude.{◌≡◌, ℕ, zero, suc, ◌+◌, ◌-◌, ◌≤◌, List, [], ◌++◌, true, false, length, take, drop}
use Rattle.rules.specs.Events.{QPACK}
use Rattle.rules.specs.Named.{code_of}
use Rattle.rules.specs.declared.codes.Code.{Code}
use Rattle.rules.specs.Control.{Control, unset, control}
use Rattle.rules.specs.OneWay.{Qpack, encoder, decoder}
use Rattle.meaning.specs.Feed.{quiet, section_bytes, content_bytes}
use Rattle.meaning.specs.FeedLaws.{past}
use Rattle.meaning.specs.OneWayFeed.{OneState, in_stream_type, in_control, in_qpack, in_skipped, lives, dies, of_frames, qpack_bytes, OneFeeding, of_control, feed}
use Rattle.varint.specs.ByByte.{part, prog, Good}
use Rattle.frames.specs.Modes.{IN-TYPE, IN-CONTENT, IN-SETTINGS, OPENING, UNSET, SET}
use Rattle.frames.specs.declared.Cells.{Cells}
use Rattle.frames.specs.Both as both
use Rattle.frames.specs.Parts.{judged_as}
use Rattle.frames.specs.Answers.{kept_at, state_of, StandsIn, event_number, Sane, Held}
use Rattle.frames.specs.declared.Event as frames-event
use Rattle.frames.specs.declared.Event.TheVariants as event
use Rattle.oneway.specs.declared.Event as declared-event
use Rattle.oneway.specs.declared.Event.TheVariants as one
use Rattle.oneway.specs.declared.Seen.{Seen}
use Rattle.oneway.specs.declared.OneWay.{OneWay}
use Rattle.oneway.specs.declared.OneAnswer.{OneAnswer}
use Rattle.oneway.specs.Types.{seen_of}
use Rattle.record.specs.Kinds.{CONTROL}

-- ---- a state

-- THE VIEW of a kind; any other than the four is skipped. A control stream is at p, and has kept sofar of a payload.
unfoldable pub one_state_at : (kind : ℕ) → Cells → Control → (sofar : List ℕ) → OneState
one_state_at zero c p k = in_skipped
one_state_at (suc zero) c p k = in_skipped
one_state_at (suc (suc zero)) c p k = in_stream_type (prog c.due c.acc)
one_state_at (suc (suc (suc zero))) c p k = in_control (state_of c p k)
one_state_at (suc (suc (suc (suc zero)))) c p k = in_qpack encoder
one_state_at (suc (suc (suc (suc (suc zero))))) c p k = in_qpack decoder
one_state_at (suc (suc (suc (suc (suc (suc n)))))) c p k = in_skipped

abbrev pub one_state : OneWay → Control → (sofar : List ℕ) → OneState
one_state w p k = one_state_at w.kind w.cells p k

-- what a stream of this kind may be at, with what is kept so far
unfoldable pub OneStands : (kind : ℕ) → Cells → Control → (sofar : List ℕ) → Type 0
OneStands zero c p k = Unit {0}
OneStands (suc zero) c p k = Unit {0}
OneStands (suc (suc zero)) c p k = (p ≡ unset) × (k ≡ [])
OneStands (suc (suc (suc zero))) c p k = StandsIn c (both.of_control p) × Held (IN-SETTINGS - c.mode) k
OneStands (suc (suc (suc (suc n)))) c p k = Unit {0}

-- ---- an answer

unfoldable pub qpack_of : (kind : ℕ) → Qpack
qpack_of zero = decoder
qpack_of (suc zero) = decoder
qpack_of (suc (suc zero)) = decoder
qpack_of (suc (suc (suc zero))) = decoder
qpack_of (suc (suc (suc (suc zero)))) = encoder
qpack_of (suc (suc (suc (suc (suc n))))) = decoder

-- the number of an event in a host's report
abbrev pub number_in : declared-event.Event → ℕ
number_in (one.Frames e) = event_number e
number_in one.Qpack = QPACK

-- THE VIEW of an event, up to QPACK bytes; content and sections as a request stream has them (no rule of the control stream leads to them)
unfoldable pub one_answer_at : declared-event.Event → (start len used heads : ℕ) → OneWay → Control → (sofar s : List ℕ) → OneFeeding
one_answer_at (one.Frames event.Nothing) start len used heads w p k s = record { used = used; heads = heads; event = of_frames quiet; after = lives (one_state w p k) }
one_answer_at (one.Frames event.Content) start len used heads w p k s = record { used = used; heads = heads; event = of_frames (content_bytes len); after = lives (one_state w p k) }
one_answer_at (one.Frames event.Section) start len used heads w p k s = record { used = used; heads = heads; event = of_frames (section_bytes len false); after = lives (one_state w p k) }
one_answer_at (one.Frames event.SectionEnd) start len used heads w p k s = record { used = used; heads = heads; event = of_frames (section_bytes len true); after = lives (one_state w p k) }
one_answer_at (one.Frames (event.Fault code)) start len used heads w p k s = record { used = used; heads = heads; event = of_frames quiet; after = dies (code_of code) }
one_answer_at (one.Frames (event.Kept which)) start len used heads w p k s = of_control (past used heads (judged_as control 0 p (kept_at which) (k ++ take len (drop start s))))
one_answer_at (one.Frames event.KeptPart) start len used heads w p k s =
    record { used = used; heads = heads; event = of_frames quiet; after = lives (one_state w p (k ++ take len (drop start s))) }
one_answer_at one.Qpack start len used heads w p k s = record { used = used; heads = heads; event = qpack_bytes (qpack_of w.kind) len; after = lives (one_state w p k) }

abbrev pub one_answer_of : OneAnswer → Control → (sofar s : List ℕ) → OneFeeding
one_answer_of r p k s = one_answer_at r.event r.start r.len r.used r.heads r.stream p k s

-- nothing of content or of a section
abbrev pub NoneHanded : declared-event.Event → Type 0
NoneHanded (one.Frames event.Nothing) = Unit {0}
NoneHanded (one.Frames event.Content) = ⊥
NoneHanded (one.Frames event.Section) = ⊥
NoneHanded (one.Frames event.SectionEnd) = ⊥
NoneHanded (one.Frames (event.Fault code)) = Unit {0}
NoneHanded (one.Frames (event.Kept which)) = Unit {0}
NoneHanded (one.Frames event.KeptPart) = Unit {0}
NoneHanded one.Qpack = Unit {0}

-- neither a fault nor a complete payload
abbrev pub Goes : declared-event.Event → Type 0
Goes (one.Frames event.Nothing) = Unit {0}
Goes (one.Frames event.Content) = Unit {0}
Goes (one.Frames event.Section) = Unit {0}
Goes (one.Frames event.SectionEnd) = Unit {0}
Goes (one.Frames (event.Fault code)) = ⊥
Goes (one.Frames (event.Kept which)) = ⊥
Goes (one.Frames event.KeptPart) = Unit {0}
Goes one.Qpack = Unit {0}

-- ---- numbers that the code can go on with

unfoldable pub OneSoundAt : (kind : ℕ) → Cells → Type 0
OneSoundAt zero c = ⊥
OneSoundAt (suc zero) c = ⊥
OneSoundAt (suc (suc zero)) c = Good (part c.acc c.due)
OneSoundAt (suc (suc (suc zero))) c = Sane c × (UNSET ≤ c.phase)
OneSoundAt (suc (suc (suc (suc n)))) c = Unit {0}

abbrev pub OneSound : OneWay → Type 0
OneSound w = OneSoundAt w.kind w.cells

-- ---- the numbers of a stream that only these calls touched

-- what was read of a type; between two frames, before SETTINGS or behind them; all 0 of a stream that has no frames
abbrev pub cells_of : (acc due phase : ℕ) → Cells
cells_of acc due phase = record { mode = IN-TYPE; acc = acc; due = due; ftype = 0; phase = phase; has = 0; stated = 0; sum = 0 }

-- a control stream behind its frames: a fault leaves what was before, a complete payload a place between two frames
abbrev pub stream_behind : frames-event.Event → OneWay → Cells → OneWay
stream_behind event.Nothing w c = record { kind = CONTROL; cells = c }
stream_behind event.Content w c = record { kind = CONTROL; cells = c }
stream_behind event.Section w c = record { kind = CONTROL; cells = c }
stream_behind event.SectionEnd w c = record { kind = CONTROL; cells = c }
stream_behind (event.Fault code) w c = w
stream_behind (event.Kept which) w c = record { kind = CONTROL; cells = cells_of 0 0 SET }
stream_behind event.KeptPart w c = record { kind = CONTROL; cells = c }

-- on a control stream nothing is handed over and no section is due
unfoldable pub OneShapeAt : (kind : ℕ) → Cells → Type 0
OneShapeAt zero c = ⊥
OneShapeAt (suc zero) c = ⊥
OneShapeAt (suc (suc zero)) c = c ≡ cells_of c.acc c.due OPENING
OneShapeAt (suc (suc (suc zero))) c = (c.phase ≤ SET) × (IN-CONTENT ≤ c.mode → IN-SETTINGS ≤ c.mode)
OneShapeAt (suc (suc (suc (suc n)))) c = (c ≡ cells_of 0 0 OPENING) × (n ≤ 2)

abbrev pub OneShape : OneWay → Type 0
OneShape w = OneShapeAt w.kind w.cells

-- where a stream of this kind may be
unfoldable pub StandsAt : (kind : ℕ) → Cells → Control → Type 0
StandsAt zero c p = Unit {0}
StandsAt (suc zero) c p = Unit {0}
StandsAt (suc (suc zero)) c p = p ≡ unset
StandsAt (suc (suc (suc zero))) c p = StandsIn c (both.of_control p)
StandsAt (suc (suc (suc (suc n)))) c p = Unit {0}

-- what an answer must be, given what was wanted of it: `before` is the stream before, `shape` says of its numbers what only these calls leave
pub record Says (s : List ℕ) (before : OneWay) (shape : Type 0) (stands : Control → List ℕ → Type 0) (want : Control → (sofar : List ℕ) → OneFeeding) (r : OneAnswer) : Type 0 where
  pub is : (p : Control) (k : List ℕ) → stands p k → want p k ≡ one_answer_of r p k s
  pub within : r.used ≤ length s
  pub part : r.start + r.len ≡ r.used
  pub sound : OneSound r.stream
  pub shaped : shape → OneShape r.stream
  pub plain : shape → NoneHanded r.event
  pub stays : (code : Code) → r.event ≡ one.Frames (event.Fault code) → r.stream ≡ before  -- a fault leaves the stream as it was
  pub behind : (which : ℕ) → r.event ≡ one.Frames (event.Kept which) → r.stream ≡ record { kind = CONTROL; cells = cells_of 0 0 SET }  -- where it stands once the payload is judged good
  pub held : r.event ≡ one.Frames event.KeptPart → (r.stream.kind ≡ CONTROL) × (8 ≤ r.stream.cells.mode)  -- a part is kept of a kept payload alone
  pub leaves : Goes r.event → (p : Control) (k : List ℕ) → stands p k → StandsAt r.stream.kind r.stream.cells p

-- WHAT A FEED OF A ONE-WAY STREAM ANSWERS: the definition's feed, from every state that the numbers mean
abbrev pub OneFed : OneWay → Seen → (s : List ℕ) (allow : ℕ) → OneAnswer → Type 0
OneFed w seen s allow r = Says s w (OneShape w) (OneStands w.kind w.cells) (λ p k. feed (seen_of seen) allow (one_state w p k) s) r
