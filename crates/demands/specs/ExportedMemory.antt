-- DEMAND 1 IN MEMORY AND WHAT A HOST SEES, OF THE EXPORTED FUNCTIONS (InMemory, Rebuilt; Exported says what `Every` is). Assumes nothing.
use Rattle.std.specs.Prelude.{◌≡◌, ℕ, List, [], ◌∷◌, ◌++◌, length}
use Rattle.std.proofs.Math.Option.{some}
use Rattle.rules.specs.Numbers.{other_row}
use Rattle.rules.specs.Calls.{request, kind_of, house}
use Rattle.demands.specs.LongerStreams.{header_of}
use Rattle.demands.specs.Demands.{Calls}
use Rattle.demands.specs.Runs.{Seen, seen_of, number_in}
use Rattle.demands.specs.Host.{Run, shows}
use Rattle.demands.specs.Exports.{CallSays}
use Rattle.demands.specs.InMemory.{Refused, IsStreamFault, AfterStreamFault}
use Rattle.demands.specs.Rebuilt.{Which, the_sections, rebuilt, shown_of, LentRow}

-- A REFUSAL, any number but 0, whatever memory is lent: what its report hands over, counts and is numbered
abbrev pub ReportsRefusal : CallSays
ReportsRefusal c rows k x c' rows' = ¬ (number_in x ≡ 0) → Refused c k x

-- A STREAM FAULT on a live connection: the record freed or the ID spent, and no other byte altered
abbrev pub FreesOne : CallSays
FreesOne c rows k x c' rows' = c.doors.code ≡ 0 → IsStreamFault (number_in x) → AfterStreamFault k c rows c' rows'

-- A ROW OF ANOTHER LENGTH: 9, and neither record altered, so a run goes on as if the call had not been
abbrev pub AnswersNine : CallSays
AnswersNine c rows k x c' rows' = LentRow k → ¬ (length rows ≡ 24) → (c' ≡ c) × (rows' ≡ rows) × (x ≡ seen_of k (house other_row))

-- WHAT A HOST PUTS TOGETHER from its pieces and the reports, after every call of a run, is what the trace shows of each stream
abbrev pub Rebuilds : CallSays
Rebuilds c rows k x c' rows' = (ks : Calls) (xs : List Seen) → Run ks xs c rows → (w : Which) (id : ℕ) → rebuilt w id (ks ++ (k ∷ [])) (xs ++ (x ∷ [])) ≡ shown_of w (shows id (ks ++ (k ∷ []))).shown

-- and the header section's bytes, as demand 3 speaks of them, come first among the section bytes
abbrev pub HeaderFirst : CallSays
HeaderFirst c rows k x c' rows' = (ks : Calls) (xs : List Seen) → Run ks xs c rows → (id : ℕ) → kind_of id ≡ some request → let s = (shows id (ks ++ (k ∷ []))).shown in
    (later : List ℕ) × (rebuilt the_sections id (ks ++ (k ∷ [])) (xs ++ (x ∷ [])) ≡ (header_of s.bytes s.sections).bytes ++ later)
