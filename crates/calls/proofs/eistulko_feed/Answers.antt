-- Where `brisk` has answered, the record is stored, and the connection is as it was. Assumes nothing.
use Rattle.std.specs.Prelude.{refl}
use Rattle.connection.specs.Turned.{turn}
use Rattle.calls.specs.Lent.{found_at}
use Rattle.calls.specs.Search.{finds}
use Rattle.calls.proofs.eistulko_feed.Goals as goal

pub returns-in-Some : goal.returns-in-Some
returns-in-Some c = record {
  found = found_at c.args.row.now c.find-at.result;
  turn = turn c.args.conn.now c.in-Some.content.row c.in-Some.content.report;
  is_found = finds _ _ _ _ c.find-at.ensures;
  turned = rw c.found_at-found.ensures at (c.in-Some.ensures.content.turns c.args.conn.now c.args.id refl);
  conn_left = refl;
  rows_left = c.store.ensures;
  answered = refl;
}
