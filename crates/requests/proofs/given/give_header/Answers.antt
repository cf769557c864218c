use Rattle.requests.specs.Taken.{header_fault, header_taken, header_late}
use Rattle.requests.proofs.given.give_header.Goals as goal

pub returns-in-Err : goal.returns-in-Err
returns-in-Err c = let a = c.args in header_fault a.c a.block.now _ c.header_section.ensures c.in-Err.is c.number.ensures

pub returns-then-c-eq-OPENING : goal.returns-then-c-eq-OPENING
returns-then-c-eq-OPENING c = let a = c.args in header_taken a.c a.block.now _ c.header_section.ensures c.in-Ok.is c.if-c-eq-OPENING.true c.body_cells.ensures

pub returns-else-c-eq-OPENING : goal.returns-else-c-eq-OPENING
returns-else-c-eq-OPENING c = let a = c.args in header_late a.c a.block.now _ c.header_section.ensures c.in-Ok.is c.if-c-eq-OPENING.false
