-- A one-way stream's feed in the numbers that cross to another language. Assumes nothing.
use Prim.Native.Nat.{ℕ, zero, suc, ◌<◌}
use Rattle.std.specs.Prelude.{◌≡◌, List}
use native.Mathlib.Omega.{arith}
use Rattle.rules.specs.Numbers.{code_number}
use Rattle.rules.specs.Named.{code_of}
use Rattle.rules.specs.Events.{NOTHING, CONTENT, SECTION, SECTION-END, KEPT, KEPT-PART, QPACK}
use Rattle.frames.specs.declared.Cells.{Cells}
use Rattle.oneway.specs.declared.OneWay.{OneWay}
use Rattle.oneway.specs.declared.OneAnswer.{OneAnswer}
use Rattle.frames.specs.declared.Event.TheVariants as event
use Rattle.oneway.specs.declared.Event as declared-event
use Rattle.oneway.specs.declared.Event.TheVariants as one
use Rattle.oneway.specs.declared.Seen.{Seen}
use Rattle.oneway.specs.Stands.{OneSoundAt, OneSound, OneFed}
use Rattle.tried_c.specs.declared.feeds.WayReport.{WayReport}
use Rattle.record.specs.Kinds.{UNTYPED}

abbrev pub way_report : (number event start len used heads payload : ℕ) → OneWay → WayReport
way_report number event start len used heads payload a =
    record { number = number; event = event; start = start; len = len; used = used; heads = heads; payload = payload; stream = a }

abbrev pub way_refused : (number : ℕ) → OneWay → WayReport
way_refused n a = way_report n 0 0 0 0 0 0 a

-- a fault is a number, and leaves the stream where it stood
unfoldable pub way_said : declared-event.Event → OneWay → OneAnswer → WayReport
way_said (one.Frames event.Nothing) a r = way_report 0 NOTHING r.start r.len r.used r.heads 0 r.stream
way_said (one.Frames event.Content) a r = way_report 0 CONTENT r.start r.len r.used r.heads 0 r.stream
way_said (one.Frames event.Section) a r = way_report 0 SECTION r.start r.len r.used r.heads 0 r.stream
way_said (one.Frames event.SectionEnd) a r = way_report 0 SECTION-END r.start r.len r.used r.heads 0 r.stream
way_said (one.Frames (event.Fault code)) a r = way_report (code_number (code_of code)) 0 0 0 r.used r.heads 0 a
way_said (one.Frames (event.Kept which)) a r = way_report 0 KEPT r.start r.len r.used r.heads which r.stream
way_said (one.Frames event.KeptPart) a r = way_report 0 KEPT-PART r.start r.len r.used r.heads 0 r.stream
way_said one.Qpack a r = way_report 0 QPACK r.start r.len r.used r.heads 0 r.stream

abbrev pub way_report_of : OneWay → OneAnswer → WayReport
way_report_of a r = way_said r.event a r

-- which payload is complete, by its mode
unfoldable pub payload_in : declared-event.Event → ℕ
payload_in (one.Frames event.Nothing) = 0
payload_in (one.Frames event.Content) = 0
payload_in (one.Frames event.Section) = 0
payload_in (one.Frames event.SectionEnd) = 0
payload_in (one.Frames (event.Fault code)) = 0
payload_in (one.Frames (event.Kept which)) = which
payload_in (one.Frames event.KeptPart) = 0
payload_in one.Qpack = 0

-- WHAT A FEED REPORTS, of any numbers
pub record WayReported (a : OneWay) (came : Seen) (s : List ℕ) (allow : ℕ) (r : WayReport) : Type 0 where
  pub unsound : (OneSound a → ⊥) → r ≡ way_report 10 0 0 0 0 0 0 a
  pub fed : OneSound a → (f : OneAnswer) × OneFed a came s allow f × (r ≡ way_report_of a f)

-- ---- laws: which numbers are sound

pub no_sound : (kind : ℕ) (c : Cells) → kind < UNTYPED → OneSoundAt kind c → ⊥
unfolding OneSoundAt
no_sound zero c h s = s
no_sound (suc zero) c h s = s
no_sound (suc (suc k)) c h s = omega arith
