use Rattle.frames.specs.Begun.{never_whole, cut_answer, rest_all}
use Rattle.frames.proofs.cut_header.Goals as goal

pub unreachable-requires : goal.unreachable-requires
unreachable-requires c = let a = c.args in never_whole a.s.now a.to _ c.requires.2 (rw (rest_all a.s.now a.to, c.fresh.ensures) at c.in-Ok.ensures)

pub returns : goal.returns
returns c = let a = c.args in
    rw c.quiet.ensures (cut_answer a.c a.s.now a.to a.heads _ _ c.requires.0 c.requires.1 (rw (rest_all a.s.now a.to, c.fresh.ensures) at c.in-Err.ensures) c.head_cells.ensures)
