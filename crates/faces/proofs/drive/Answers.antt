-- The row comes back before the records behind it. Assumes nothing.
use Rattle.std.specs.Prelude.{List, take}
use Rattle.std.proofs.Common.{arith, length-take}
use Rattle.record.specs.declared.Record.{Record}
use Rattle.calls.specs.Lent.{Stepped}
use Rattle.faces.proofs.Kept.{back}
use Rattle.faces.proofs.drive.Goals as goal

pub returns : goal.returns
returns c = let a = c.args in
    back (λ (rows : List Record). Stepped a.conn (take a.n a.rows) a.ask.call a.ask.id a.ask.allow a.ask.piece.now c.step-report.new.conn rows c.step-report.result) a.n c.step-report.new.row a.rows
    (omega (arith, c.step-report.auto.row, length-take a.n a.rows)) c.step-report.ensures
