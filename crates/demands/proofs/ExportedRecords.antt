-- WHAT THE EXPORTED FUNCTIONS LEAVE OF THE ROW: what specs/ExportedRecords says holds of every call. Assumes nothing.
use Rattle.std.proofs.Math.Path.{ap}
use Rattle.std.specs.Prelude.{[], ◌∷◌, ◌++◌}
use Rattle.std.proofs.Common.{◌∙◌}
use Rattle.rules.specs.Calls.{fresh, trace}
use Rattle.demands.specs.Host.{then_called, meant}
use Rattle.demands.specs.Said.{told_in, said_is_told}
use Rattle.demands.specs.Exports.{World, OfStart, of_start, Every}
use Rattle.demands.specs.ExportedRecords.{StartsAnew, starts_anew, AltersOne, leaves_row, FaultFreesOne, fault_leaves_row, KeepsCode, keeps_code, LeavesAsTraced, KeepsWhatWasTold, kept_is}
use Rattle.demands.proofs.Every.{every}

-- EVERY START, whatever memory it is lent, a dead connection's too
pub start_exactly : (w : World) → OfStart w StartsAnew
start_exactly w = of_start w StartsAnew (λ c rows n c' rows' m. starts_anew m)

pub accepted_alters_one : (w : World) → Every w AltersOne
accepted_alters_one w = every w AltersOne (λ c rows k x c' rows' m. leaves_row m)

pub fault_frees_one : (w : World) → Every w FaultFreesOne
fault_frees_one w = every w FaultFreesOne (λ c rows k x c' rows' m. fault_leaves_row m)

pub fault_keeps_code : (w : World) → Every w KeepsCode
fault_keeps_code w = every w KeepsCode (λ c rows k x c' rows' m. keeps_code m)

pub leaves_as_traced : (w : World) → Every w LeavesAsTraced
leaves_as_traced w = every w LeavesAsTraced (λ c rows k x c' rows' m ks xs r. (meant (then_called r m)).holds)

pub keeps_what_was_told : (w : World) → Every w KeepsWhatWasTold
keeps_what_was_told w = every w KeepsWhatWasTold (λ c rows k x c' rows' m ks xs r.
    kept_is c' (told_in (trace fresh (ks ++ (k ∷ [])))) (ap (λ p. p.conn.kept.said) (meant (then_called r m)).holds ∙ said_is_told (ks ++ (k ∷ []))))
