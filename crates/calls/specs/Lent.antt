-- Where a search of the row stops, what is there, and the promises of the calls that are lent it (Promises). Assumes nothing.
use Rattle.std.specs.Prelude.{ℕ, ◌≤◌, ◌<◌, List, length, get_or}
use Rattle.record.specs.declared.Record.{Record}
use Rattle.record.specs.Row.{free_record}
use Rattle.connection.specs.declared.Call.{Call}
use Rattle.connection.specs.declared.Found.{Found}
use Rattle.connection.specs.Whose.{Wanted}
pub use Rattle.calls.specs.Promises.{Stepped, Started, SaidGoaway}

-- i is the place of the first record that the call is about, and the length if there is none
pub record FirstIn (call : Call) (id : ℕ) (rows : List Record) (i : ℕ) : Type 0 where
  pub within : i ≤ length rows
  pub before : (j : ℕ) → j < i → Wanted call id (get_or rows j free_record) → ⊥
  pub there : i < length rows → Wanted call id (get_or rows i free_record)

-- what is at a place of the row: past the end a free record
abbrev pub found_at : (rows : List Record) (at : ℕ) → Found
found_at rows at = record { len = length rows; at = at; row = get_or rows at free_record }
