-- `connection::keeps_code` meets its contract: the eight codes are side by side. Assumes nothing.
use mathlib.Core.Path.{◌≡◌}
use Prim.Native.Nat.{ℕ, zero, suc, ◌+◌, ◌-◌, ◌≤◌}
use native.Mathlib.Omega.{arith}
use mathlib.Core.Bool.{true}
use Rattle.rules.specs.Numbers.{STREAM-CREATION-ERROR, MISSING-SETTINGS, stream_creation_error, closed_critical_stream, frame_unexpected, frame_error, excessive_load, id_error, settings_error, missing_settings, ConnectionFault, of_connection, code_number, named, leaves}
use Rattle.connection.specs.Faults.{keeps, keeps_one, keeps_none}
use Rattle.connection.proofs.keeps_code.Goals as goal

at : (i n : ℕ) → n ≡ STREAM-CREATION-ERROR + i → i ≤ 7 → true ≡ keeps (leaves (named n))
at zero n e h = keeps_one stream_creation_error n (omega arith)
at (suc zero) n e h = keeps_one closed_critical_stream n (omega arith)
at (suc (suc zero)) n e h = keeps_one frame_unexpected n (omega arith)
at (suc (suc (suc zero))) n e h = keeps_one frame_error n (omega arith)
at (suc (suc (suc (suc zero)))) n e h = keeps_one excessive_load n (omega arith)
at (suc (suc (suc (suc (suc zero))))) n e h = keeps_one id_error n (omega arith)
at (suc (suc (suc (suc (suc (suc zero)))))) n e h = keeps_one settings_error n (omega arith)
at (suc (suc (suc (suc (suc (suc (suc zero))))))) n e h = keeps_one missing_settings n (omega arith)
at (suc (suc (suc (suc (suc (suc (suc (suc i)))))))) n e h = absurd (omega arith)

within : (n : ℕ) → STREAM-CREATION-ERROR ≤ n → n ≤ MISSING-SETTINGS → true ≡ keeps (leaves (named n))
within n l h = at (n - STREAM-CREATION-ERROR) n (omega arith) (omega arith)

bounded : (f : ConnectionFault) → (STREAM-CREATION-ERROR ≤ code_number (of_connection f)) × (code_number (of_connection f) ≤ MISSING-SETTINGS)
bounded stream_creation_error = (omega arith, omega arith)
bounded closed_critical_stream = (omega arith, omega arith)
bounded frame_unexpected = (omega arith, omega arith)
bounded frame_error = (omega arith, omega arith)
bounded excessive_load = (omega arith, omega arith)
bounded id_error = (omega arith, omega arith)
bounded settings_error = (omega arith, omega arith)
bounded missing_settings = (omega arith, omega arith)

pub returns-in-259 : goal.returns-in-259
returns-in-259 c = within _ (omega arith) (omega arith)

pub returns-in_default : goal.returns-in_default
returns-in_default c = keeps_none _ (λ x. (let b = bounded x.0 in let e = x.1 in omega arith))

pub returns-in_default-2 : goal.returns-in_default-2
returns-in_default-2 c = keeps_none _ (λ x. (let b = bounded x.0 in let e = x.1 in omega arith))
