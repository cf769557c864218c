use native.Mathlib.Omega.{arith}
use Rattle.control.specs.Judged.{id_goaway, id_max_push, id_settings, id_cancel}
use Rattle.control.proofs.judge_id.Goals as goal

pub returns-in-9 : goal.returns-in-9
returns-in-9 c = let a = c.args in id_goaway a.kept a.id a.which c.in-9.is c.judge_goaway.ensures

pub returns-in-10 : goal.returns-in-10
returns-in-10 c = let a = c.args in id_max_push a.kept a.id a.which c.in-10.is c.judge_max_push.ensures

pub returns-in-8 : goal.returns-in-8
returns-in-8 c = let a = c.args in id_settings a.kept a.id a.which c.in-8.is c.refused.ensures

pub returns-in_default : goal.returns-in_default
returns-in_default c = let a = c.args in id_cancel a.kept a.id a.which (λ e. omega arith) (λ e. omega arith) (λ e. omega arith) c.refused-in_default.ensures
