-- What was found is turned and stored back at its place. Assumes nothing.
use Rattle.std.specs.Prelude.{refl}
use Rattle.connection.specs.Turned.{turn}
use Rattle.calls.specs.Lent.{found_at}
use Rattle.calls.specs.Search.{finds}
use Rattle.calls.proofs.step_at.Goals as goal

pub returns : goal.returns
returns c = λ first. record {
  found = found_at c.args.row.now c.args.at;
  turn = turn c.settle-b.new.conn c.settle-b.result.row c.settle-b.result.report;
  is_found = finds _ _ _ _ first;
  turned = rw c.found_at-f.ensures at c.settle-b.ensures;
  conn_left = refl;
  rows_left = c.store.ensures;
  answered = refl;
}
