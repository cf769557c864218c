use native.Mathlib.Omega.{arith}
use Rattle.oneway.specs.Fed.{typed_cut, typed_refused, frames_ask, typed_control, typed_bare}
use Rattle.oneway.proofs.typed.Goals as goal

pub returns-in-Err : goal.returns-in-Err
returns-in-Err c = let a = c.args in typed_cut a.c a.seen a.s.now a.allow c.in-Err.ensures c.cells.ensures c.quiet.ensures

pub returns-in-Err-kind_of : goal.returns-in-Err-kind_of
returns-in-Err-kind_of c = let a = c.args in let q = c.quiet-in-Err-kind_of.ensures in rw q (typed_refused a.c a.seen a.s.now a.allow c.in-Ok.ensures c.in-Err-kind_of.code c.in-Err-kind_of.ensures c.requires)

pub control-requires : goal.control-requires
control-requires c = let a = c.args in frames_ask a.c a.seen a.s.now a.allow c.in-Ok.ensures c.requires c.cells-in-Ok-eq3.ensures

pub returns-in-Ok-eq3 : goal.returns-in-Ok-eq3
returns-in-Ok-eq3 c = let a = c.args in typed_control a.c a.seen a.s.now a.allow c.in-Ok.ensures _ c.in-Ok-eq3.ensures (omega arith) c.cells-in-Ok-eq3.ensures c.control.ensures

pub returns-in-Ok-kind_of : goal.returns-in-Ok-kind_of
returns-in-Ok-kind_of c = let a = c.args in typed_bare a.c a.seen a.s.now a.allow c.in-Ok.ensures _ c.in-Ok-kind_of.ensures c.cells-in-Ok-kind_of.ensures (λ e. omega arith) c.bare.ensures
