use Rattle.control.specs.Judged.{settings_refused, settings_kept_lem}
use Rattle.control.proofs.judge_settings.Goals as goal

pub returns-in-Err : goal.returns-in-Err
returns-in-Err c = let a = c.args in settings_refused a.kept a.payload.now _ c.judge.ensures c.in-Err.is c.refused.ensures

pub returns-in-Ok : goal.returns-in-Ok
returns-in-Ok c = let a = c.args in settings_kept_lem a.kept a.payload.now _ c.judge.ensures c.in-Ok.is c.keep_settings.ensures
