-- BELIEVED (docs/PROOFS.md). One call of feed for a one-way stream: its type, and then as its type says. Type bytes, QPACK bytes and skipped bytes are free. It holds no
-- place: a fault is at the last byte used. The engine's contract is `r ≡ feed ..`. Assumes nothing.
use Rattle.std.specs.Prelude.{ℕ, suc, ◌+◌, ◌-◌, List, [], ◌∷◌, ◌++◌, length, take, drop}
use Rattle.rules.specs.Numbers.{Code}
use Rattle.rules.specs.Reading.{Saying}
use Rattle.rules.specs.Control.{Control, unset, control}
use Rattle.rules.specs.OneWay.{Qpack, Kind, a_control, a_qpack, skipped, Typed, refuse, is, type_rule}
use Rattle.meaning.specs.Machine.{Prog, going, value, fed, State, Outcome, between}
use Rattle.meaning.specs.Feed as F

pub data OneState : Type 0 where
  in_stream_type : Prog → OneState
  in_control : State Control → OneState
  in_qpack : Qpack → OneState
  in_skipped : OneState

pub data OneOutcome : Type 0 where
  lives : OneState → OneOutcome
  dies : (code : Code) → OneOutcome

pub data OneEvent : Type 0 where
  of_frames : F.Event → OneEvent
  qpack_bytes : Qpack → (len : ℕ) → OneEvent  -- the part of the piece that ends where the feed stopped

pub record OneFeeding : Type 0 where
  pub used : ℕ
  pub heads : ℕ
  pub event : OneEvent
  pub after : OneOutcome

unfoldable pub controlled : Outcome Control → OneOutcome
controlled (Outcome.lives s) = lives (in_control s)
controlled (Outcome.dies code) = dies code

unfoldable pub of_control : F.Feeding Control → OneFeeding
of_control f = record { used = f.used; heads = f.heads; event = of_frames f.event; after = controlled f.after }

unfoldable pub halt : OneOutcome → OneFeeding
halt o = record { used = 0; heads = 0; event = of_frames F.quiet; after = o }

-- a type byte more, before what follows
unfoldable pub also : OneFeeding → OneFeeding
also f = record { used = suc f.used; heads = f.heads; event = f.event; after = f.after }

-- all of a QPACK stream's piece is a part, unless there is none
unfoldable pub qpack_feed : Qpack → List ℕ → OneFeeding
qpack_feed q [] = halt (lives (in_qpack q))
qpack_feed q (b ∷ bs) = record { used = length (b ∷ bs); heads = 0; event = qpack_bytes q (length (b ∷ bs)); after = lives (in_qpack q) }

unfoldable pub kind_feed : (allow : ℕ) → Kind → List ℕ → OneFeeding
kind_feed allow a_control piece = of_control (F.feed control allow (between unset) piece)
kind_feed allow (a_qpack q) piece = qpack_feed q piece
kind_feed allow skipped piece = record { used = length piece; heads = 0; event = of_frames F.quiet; after = lives in_skipped }

unfoldable pub typed_feed : (allow : ℕ) → Typed → List ℕ → OneFeeding
typed_feed allow (refuse code) piece = halt (dies code)
typed_feed allow (is k) piece = kind_feed allow k piece

module _ (seen : List ℕ) where
  unfoldable pub type_feed : (allow : ℕ) → Prog → List ℕ → OneFeeding
  type_feed allow g [] = halt (lives (in_stream_type g))
  type_feed allow g (b ∷ bs) = also (elim (fed g b) [ going g' ↦ type_feed allow g' bs | value t ↦ typed_feed allow (type_rule seen t) bs ])

  unfoldable pub feed : (allow : ℕ) → OneState → List ℕ → OneFeeding
  feed allow (in_stream_type g) piece = type_feed allow g piece
  feed allow (in_control s) piece = of_control (F.feed control allow s piece)
  feed allow (in_qpack q) piece = qpack_feed q piece
  feed allow in_skipped piece = kind_feed allow skipped piece

-- what an event shows of a piece: what control frames say, and QPACK bytes
pub record Shown : Type 0 where
  pub frames : List Saying
  pub qpack : List ℕ

unfoldable pub shows : OneEvent → (used : ℕ) → List ℕ → Shown
shows (of_frames e) used piece = record { frames = F.shows e used piece; qpack = [] }
shows (qpack_bytes q len) used piece = record { frames = []; qpack = drop (used - len) (take used piece) }

-- ---- the calls of one stream

pub data Call : Type 0 where
  feed_call : (allow : ℕ) (piece : List ℕ) → Call

-- what the calls came to: the bytes consumed, what the events showed, the headers finished, and what is left
pub record Done : Type 0 where
  pub bytes : List ℕ
  pub frames : List Saying
  pub qpack : List ℕ
  pub heads : ℕ
  pub after : OneOutcome

unfoldable pub nothing_done : Done
nothing_done = record { bytes = []; frames = []; qpack = []; heads = 0; after = lives (in_stream_type Prog.fresh) }

unfoldable pub done_then : Done → (piece : List ℕ) → OneFeeding → Done
done_then d piece f = let s = shows f.event f.used piece in
    record { bytes = d.bytes ++ take f.used piece; frames = d.frames ++ s.frames; qpack = d.qpack ++ s.qpack; heads = d.heads + f.heads; after = f.after }

unfoldable pub called : (seen : List ℕ) → Done → Call → OneOutcome → Done
called seen d (feed_call allow piece) (lives s) = done_then d piece (feed seen allow s piece)
called seen d (feed_call allow piece) (dies code) = d

unfoldable pub calls : (seen : List ℕ) → Done → List Call → Done
calls seen d [] = d
calls seen d (c ∷ cs) = calls seen (called seen d c d.after) cs
