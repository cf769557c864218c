-- A stream's calls in the numbers that cross to another language. Assumes nothing.
use Rattle.std.specs.Prelude.{ℕ, ◌≤◌, ◌<◌, ◌≡◌, List, Result, Ok, Err}
use Rattle.rules.specs.Numbers.{ACCEPTED}
use Rattle.rules.specs.Numbers.{code_number}
use Rattle.rules.specs.Named.{code_of}
use Rattle.rules.specs.Events.{NOTHING, CONTENT, SECTION, SECTION-END, KEPT, KEPT-PART}
use Rattle.frames.specs.Modes.{HEADER-SECTION-DUE, IN-SETTINGS}
use Rattle.frames.specs.declared.Cells.{Cells}
use Rattle.frames.specs.declared.Answer.{Answer}
use Rattle.frames.specs.declared.Event as declared-event
use Rattle.frames.specs.declared.Event.TheVariants as event
use Rattle.frames.specs.Answers.{Sane}
use Rattle.frames.specs.Fed.{Fed}
use Rattle.tried_c.specs.declared.feeds.Report.{Report}
use Rattle.tried_c.specs.declared.feeds.Given.{Given}

-- ---- one feed

abbrev pub report : (number event start len used heads : ℕ) → Cells → Report
report number event start len used heads a = record { number = number; event = event; start = start; len = len; used = used; heads = heads; cells = a }

abbrev pub refused : (number : ℕ) → Cells → Report
refused n a = report n 0 0 0 0 0 a

-- a fault is a number, and leaves the stream where it stood
unfoldable pub said : declared-event.Event → Cells → Answer → Report
said event.Nothing a r = report 0 NOTHING r.start r.len r.used r.heads r.cells
said event.Content a r = report 0 CONTENT r.start r.len r.used r.heads r.cells
said event.Section a r = report 0 SECTION r.start r.len r.used r.heads r.cells
said event.SectionEnd a r = report 0 SECTION-END r.start r.len r.used r.heads r.cells
said (event.Fault code) a r = report (code_number (code_of code)) 0 0 0 r.used r.heads a
said (event.Kept which) a r = report 0 KEPT r.start r.len r.used r.heads r.cells
said event.KeptPart a r = report 0 KEPT-PART r.start r.len r.used r.heads r.cells

abbrev pub report_of : Cells → Answer → Report
report_of a r = said r.event a r

-- a section is due
abbrev pub IsDue : Cells → Type 0
IsDue a = (HEADER-SECTION-DUE ≤ a.mode) × (a.mode < IN-SETTINGS)

-- WHAT A FEED REPORTS, of any numbers
pub record Reported (a : Cells) (s : List ℕ) (allow : ℕ) (r : Report) : Type 0 where
  pub unsound : (Sane a → ⊥) → r ≡ refused 10 a
  pub waits : Sane a → IsDue a → r ≡ refused 4 a
  pub fed : Sane a → (IsDue a → ⊥) → (f : Answer) × Fed a s allow f × (r ≡ report_of a f)

-- ---- a section given: accepted, and where the stream goes on; or the number that refuses it, and the stream as it was

abbrev pub given_from : Cells → Result Cells ℕ → Given
given_from a (Ok c) = record { number = ACCEPTED; cells = c }
given_from a (Err n) = record { number = n; cells = a }
