-- WHAT THE EXPORTED FUNCTIONS LEAVE OF THE CONNECTION: what specs/ExportedConnection says holds of every call. Assumes nothing.
use Rattle.demands.specs.Host.{then_called}
use Rattle.demands.specs.Exports.{World, Every}
use Rattle.demands.specs.ExportedConnection.{LeavesTheConnection, leaves_connection, KeepsExactly, kept_by_run, KeepsNothingYet, none_yet}
use Rattle.demands.proofs.Every.{every}

pub accepted_connection : (w : World) → Every w LeavesTheConnection
accepted_connection w = every w LeavesTheConnection (λ c rows k x c' rows' m. leaves_connection m)

pub keeps_exactly : (w : World) → Every w KeepsExactly
keeps_exactly w = every w KeepsExactly (λ c rows k x c' rows' m ks xs r. kept_by_run (then_called r m))

pub keeps_nothing_yet : (w : World) → Every w KeepsNothingYet
keeps_nothing_yet w = every w KeepsNothingYet (λ c rows k x c' rows' m ks xs r. none_yet (then_called r m))
