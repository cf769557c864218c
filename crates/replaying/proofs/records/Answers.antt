-- `replaying::records` meets its contract: the invariant is the text of the records so far. Assumes nothing.
use native.Mathlib.Omega.{arith}
use lib.ListN.{take}
use Rattle.std.proofs.lemmas.List.{length-take-le, take_all}
use Rattle.record.specs.Row.{free_record}
use Rattle.replaying.specs.Lines.{rows_text}
use Rattle.replaying.specs.Puts.{more, puts_none, next_record}
use Rattle.replaying.proofs.records.Goals as goal

pub loop-i-init : goal.loop-i-init
unfolding rows_text
loop-i-init c = (puts_none _ _ (omega arith), length-take-le 24 c.args.rows (omega arith))

pub loop-i-preserved : goal.loop-i-preserved
loop-i-preserved c = let l = c.loop-i in (more (next_record (take 24 c.args.rows) free_record l.i c.loop-i-test.true l.invariant.0 c.shown.ensures) (omega arith), l.invariant.1)

pub returns : goal.returns
returns c =
    let l = c.loop-i in
    let t = take_all l.i (take 24 c.args.rows) c.loop-i-test.false in
    more (rw t at l.invariant.0) (omega arith)
