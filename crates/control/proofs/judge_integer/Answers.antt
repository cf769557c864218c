use Rattle.control.specs.Judged.{integer_not, integer_is}
use Rattle.control.proofs.judge_integer.Goals as goal

pub returns-in-None : goal.returns-in-None
returns-in-None c = let a = c.args in integer_not a.which a.kept a.payload.now _ c.only.ensures c.in-None.is c.refused.ensures

pub returns-in-Some : goal.returns-in-Some
returns-in-Some c = let a = c.args in integer_is a.which a.kept a.payload.now _ c.only.ensures c.in-Some.is c.judge_id.ensures
