use Rattle.frames.specs.Wants.{ruled_back}
use Rattle.frames.specs.Begun.{begin_held, begin_whole, begin_cut, head_good}
use Rattle.frames.proofs.begun.Goals as goal

pub head_on-requires : goal.head_on-requires
head_on-requires c = let a = c.args in rw c.head.ensures (head_good a.c a.s.now a.allow c.requires.0 c.requires.1)

pub returns-then-allow-eq0 : goal.returns-then-allow-eq0
returns-then-allow-eq0 c = let a = c.args in rw c.nowhere.ensures (begin_held a.c a.s.now a.allow c.requires.0 c.requires.1 c.if-allow-eq0.true)

pub returns-in-Ok : goal.returns-in-Ok
returns-in-Ok c = let a = c.args in let p = c.place.ensures in
    begin_whole a.c a.s.now a.allow c.requires.0 _ _ c.requires.1 c.if-allow-eq0.false (rw c.head.ensures at c.in-Ok.ensures) (ruled_back _ _ _ _ _ _ p.phase p.stated p.sum c.rule.ensures)

pub returns-in-Err : goal.returns-in-Err
returns-in-Err c = let a = c.args in
    rw c.nowhere-in-Err.ensures (begin_cut a.c a.s.now a.allow c.requires.0 _ _ c.requires.1 c.if-allow-eq0.false (rw c.head.ensures at c.in-Err.ensures) c.head_cells.ensures)
