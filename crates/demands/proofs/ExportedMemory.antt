-- THE DEMANDS IN MEMORY: what specs/ExportedMemory says holds of every call. Assumes nothing.
use Rattle.demands.specs.Host.{then_called}
use Rattle.demands.specs.Exports.{World, Every}
use Rattle.demands.specs.InMemory.{refused_in_memory, stream_fault}
use Rattle.demands.specs.Rebuilt.{rebuilt_is, header_first, nine_so}
use Rattle.demands.specs.ExportedMemory.{ReportsRefusal, FreesOne, AnswersNine, Rebuilds, HeaderFirst}
use Rattle.demands.proofs.Every.{every}

pub demand_1_report : (w : World) → Every w ReportsRefusal
demand_1_report w = every w ReportsRefusal (λ c rows k x c' rows' m. refused_in_memory m)

pub demand_1_stream_fault : (w : World) → Every w FreesOne
demand_1_stream_fault w = every w FreesOne (λ c rows k x c' rows' m a. stream_fault a m)

pub demand_1_nine : (w : World) → Every w AnswersNine
demand_1_nine w = every w AnswersNine (λ c rows k x c' rows' m l n. nine_so l n m)

pub demand_2_rebuilt : (w : World) → Every w Rebuilds
demand_2_rebuilt w = every w Rebuilds (λ c rows k x c' rows' m ks xs r which id. rebuilt_is (then_called r m) which id)

pub demand_3_header : (w : World) → Every w HeaderFirst
demand_3_header w = every w HeaderFirst (λ c rows k x c' rows' m ks xs r id q. header_first (then_called r m) id q)
