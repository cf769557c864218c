-- One-way streams: any sequence of feeds and allowances comes to the definition's reading of the bytes consumed; a feed gets on; a feed stops
-- only where it may. Assumes nothing.
use Rattle.std.specs.Prelude.{◌≡◌}
use Prim.Native.Nat.{ℕ, suc, ◌+◌, ◌≤◌}
use mathlib.Core.List.{List, [], ◌++◌}
use Rattle.std.proofs.Math.ListN.{length, take}
use Rattle.rules.specs.Numbers.{Code}
use Rattle.rules.specs.Integers.{Int, got, more, integer}
use Rattle.rules.specs.Reading.{Part, skipped as skipped-frame, kept, content, section, Saying, whole, fault, waits, Reading}
use Rattle.rules.specs.Control.{Control, control}
use Rattle.rules.specs.OneWay.{Qpack, a_control, a_qpack, skipped, refuse, is, type_rule, OneWay, untyped, refused, of_control as is_control, of_qpack, passed_over}
use Rattle.meaning.specs.Machine.{Prog, fresh, need, State, in_type, in_length, in_payload, due, Outcome, Run, reads, stuck, settled, finished, run, lists, fresh_run}
use Rattle.meaning.specs.Feed as F
use Rattle.meaning.specs.Feeds.{Within, unheaded, headers_in}
use Rattle.meaning.specs.EveryFeed.{ReadsOn}
use Rattle.meaning.specs.OneWayFeed.{OneState, in_stream_type, in_control, in_qpack, in_skipped, OneOutcome, lives, dies, OneEvent, of_frames, qpack_bytes, OneFeeding, controlled, shows, Done}

-- ---- the type, a byte at a time

-- an integer that goes on
unfoldable pub resumed : Prog → (at : ℕ) → List ℕ → Int
resumed fresh at bs = integer at bs
resumed (need k v) at bs = more (suc k) v at bs

-- ---- what holds of the bytes consumed, what was shown, the headers finished and the state

abbrev pub OneWithin : OneEvent → ℕ → Type 0
OneWithin (of_frames e) u = Within e u
OneWithin (qpack_bytes q len) u = len ≤ u

-- of a control stream whose frames are `rest`, from `next` on
pub record OfControl (bytes : List ℕ) (frames : List Saying) (count next : ℕ) (rest : List ℕ) (o : Outcome Control) : Type 0 where
  pub state : settled control (length bytes) [] o ≡ run control next (fresh_run control []) rest
  pub shown : frames ≡ unheaded (lists control next next (fresh_run control []) rest)
  pub heads : count ≡ headers_in (lists control next next (fresh_run control []) rest)

module _ (seen : List ℕ) where
  pub data Holds (bytes : List ℕ) (frames : List Saying) (qpack : List ℕ) (heads : ℕ) : OneOutcome → Type 0 where
    h_type : {g : Prog} → ((y : List ℕ) → integer 0 (bytes ++ y) ≡ resumed g (length bytes) y) → frames ≡ [] → qpack ≡ [] → heads ≡ 0
        → Holds bytes frames qpack heads (lives (in_stream_type g))
    h_refused : {t : ℕ} {code : Code} → integer 0 bytes ≡ got t (length bytes) [] → type_rule seen t ≡ refuse code → frames ≡ [] → qpack ≡ [] → heads ≡ 0
        → Holds bytes frames qpack heads (dies code)
    h_control : {t next : ℕ} {rest : List ℕ} {s : State Control} → integer 0 bytes ≡ got t next rest → type_rule seen t ≡ is a_control
        → OfControl bytes frames heads next rest (Outcome.lives s) → qpack ≡ [] → Holds bytes frames qpack heads (lives (in_control s))
    h_died : {t next : ℕ} {rest : List ℕ} {code : Code} → integer 0 bytes ≡ got t next rest → type_rule seen t ≡ is a_control
        → OfControl bytes frames heads next rest (Outcome.dies code) → qpack ≡ [] → Holds bytes frames qpack heads (dies code)
    h_qpack : {t next : ℕ} {q : Qpack} → integer 0 bytes ≡ got t next qpack → type_rule seen t ≡ is (a_qpack q) → frames ≡ [] → heads ≡ 0
        → Holds bytes frames qpack heads (lives (in_qpack q))
    h_skipped : {t next : ℕ} {rest : List ℕ} → integer 0 bytes ≡ got t next rest → type_rule seen t ≡ is skipped → frames ≡ [] → qpack ≡ [] → heads ≡ 0
        → Holds bytes frames qpack heads (lives in_skipped)

  -- a feed that begins behind these bytes, with so much shown
  pub record Went (bytes : List ℕ) (frames : List Saying) (qpack : List ℕ) (heads : ℕ) (piece : List ℕ) (f : OneFeeding) : Type 0 where
    pub fits : f.used ≤ length piece
    pub within : OneWithin f.event f.used
    pub holds : Holds (bytes ++ take f.used piece) (frames ++ (shows f.event f.used piece).frames) (qpack ++ (shows f.event f.used piece).qpack) (heads + f.heads) f.after

  abbrev pub HoldsOf : Done → Type 0
  HoldsOf d = Holds d.bytes d.frames d.qpack d.heads d.after

  -- ---- in the words of the definition

  -- what the calls came to, beside what the bytes consumed mean
  pub data Came (d : Done) : OneWay → Type 0 where
    still_untyped : {g : Prog} → d.after ≡ lives (in_stream_type g) → d.frames ≡ [] → d.qpack ≡ [] → d.heads ≡ 0 → Came d untyped
    type_refused : {code : Code} → d.after ≡ dies code → d.frames ≡ [] → d.qpack ≡ [] → d.heads ≡ 0 → Came d (refused code (length d.bytes))
    a_control_stream : {r : Reading} (o : Outcome Control) → d.after ≡ controlled o → d.frames ≡ unheaded r.said → d.qpack ≡ [] → d.heads ≡ headers_in r.said
        → r.verdict ≡ finished control (length d.bytes) (settled control (length d.bytes) [] o) → Came d (is_control r)
    a_qpack_stream : {q : Qpack} → d.after ≡ lives (in_qpack q) → d.frames ≡ [] → d.heads ≡ 0 → Came d (of_qpack q d.qpack)
    a_skipped_stream : d.after ≡ lives in_skipped → d.frames ≡ [] → d.qpack ≡ [] → d.heads ≡ 0 → Came d passed_over

-- ---- progress, the stop rule and the allowance

-- no section is ever due on a control stream, so a byte moves it
abbrev pub ReadsOnOne : OneState → Type 0
ReadsOnOne (in_stream_type g) = Unit {0}
ReadsOnOne (in_control s) = ReadsOn s
ReadsOnOne (in_qpack q) = Unit {0}
ReadsOnOne in_skipped = Unit {0}

-- an event that is one
abbrev pub Loud : OneEvent → Type 0
Loud (of_frames F.quiet) = ⊥
Loud (of_frames (F.section_bytes len last)) = Unit {0}
Loud (of_frames (F.content_bytes len)) = Unit {0}
Loud (of_frames (F.taken k p)) = Unit {0}
Loud (qpack_bytes q len) = Unit {0}

pub data OneStops (allow : ℕ) (piece : List ℕ) (f : OneFeeding) : Type 0 where
  at_event : Loud f.event → OneStops allow piece f
  at_end : f.used ≡ length piece → OneStops allow piece f
  at_allowance : f.heads ≡ allow → OneStops allow piece f
  at_fault : {code : Code} → f.after ≡ dies code → OneStops allow piece f
  while_due : {t : Part} {c : Control} → f.after ≡ lives (in_control (due t c)) → OneStops allow piece f  -- which never comes: never_due

-- ---- no section is ever due on a control stream

abbrev pub NoSection : State Control → Type 0
NoSection (in_type g c) = Unit {0}
NoSection (in_length t g c) = Unit {0}
NoSection (in_payload content k l c) = Unit {0}
NoSection (in_payload skipped-frame k l c) = Unit {0}
NoSection (in_payload (section t) k l c) = ⊥
NoSection (in_payload (kept f) k l c) = Unit {0}
NoSection (due t c) = ⊥

abbrev pub NoSectionRun : Run Control → Type 0
NoSectionRun (reads bl s) = NoSection s
NoSectionRun (stuck whole) = Unit {0}
NoSectionRun (stuck (fault code place)) = Unit {0}
NoSectionRun (stuck (waits place)) = ⊥
