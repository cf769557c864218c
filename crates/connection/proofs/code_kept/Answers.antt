use mathlib.Core.Path.{refl}
use Rattle.connection.specs.Faults.{kept_so, kept_not}
use Rattle.connection.proofs.code_kept.Goals as goal

pub returns-then-keeps_code : goal.returns-then-keeps_code
returns-then-keeps_code c = kept_so _ _ c.keeps_code.ensures c.if-keeps_code.true refl

pub returns-else-keeps_code : goal.returns-else-keeps_code
returns-else-keeps_code c = kept_not _ _ c.keeps_code.ensures c.if-keeps_code.false
