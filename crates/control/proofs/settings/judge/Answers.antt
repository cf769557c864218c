-- `control::settings::judge` meets its contract: the walk from the beginning, with nothing kept. Assumes nothing.
use mathlib.Core.Path.{◌≡◌}
use Rattle.std.proofs.Common.{rules}
use Rattle.std.specs.Prelude.{Result, Ok, Err}
use Rattle.rules.specs.declared.codes.Code.{Code}
use Rattle.rules.specs.Control.{no_settings}
use Rattle.control.specs.declared.settings.Settings as kept
use Rattle.control.specs.WalkLaws.{judge_is}
use Rattle.control.proofs.settings.judge.Goals as goal

pub returns-in_err-walk : goal.returns-in_err-walk
unfolding no_settings
returns-in_err-walk c =
    let r : ◌≡◌ {A = Result kept.Settings Code} c.from_residual.result (Err c.in_err-walk.field-0.0) = search rules in
    rw r (judge_is _ (Err c.in_err-walk.field-0.0) c.in_err-walk.ensures)

pub returns : goal.returns
unfolding no_settings
returns c = judge_is _ (Ok c.walk.new.kept) c.in_ok-walk.ensures
