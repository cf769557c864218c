-- What a search of the row finds, from where it stopped. Assumes nothing.
use Rattle.std.specs.Prelude.{refl, ℕ, List}
use Rattle.record.specs.declared.Record.{Record}
use Rattle.connection.specs.declared.Call.{Call}
use Rattle.connection.specs.Whose.{FoundIn}
use Rattle.calls.specs.Lent.{FirstIn, found_at}

module _ (call : Call) (id : ℕ) (rows : List Record) where
  pub finds : (i : ℕ) → FirstIn call id rows i → FoundIn call id rows (found_at rows i)
  finds i f = record { long = refl; within = f.within; before = f.before; there = f.there; row = refl }
