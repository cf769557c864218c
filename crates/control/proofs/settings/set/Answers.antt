-- The identifier is 6, 1, 7 or another. Assumes nothing.
use native.Mathlib.Omega.{arith}
use Rattle.control.specs.WalkLaws.{set_six, set_one, set_seven, set_other}
use Rattle.control.specs.Answers.{settings_is}
use Rattle.control.proofs.settings.set.Goals as goal

pub returns-in-6 : goal.returns-in-6
returns-in-6 c = set_six c.args.pair.identifier c.args.pair.value (settings_is c.args.kept.now) c.in-6.is

pub returns-in-1 : goal.returns-in-1
returns-in-1 c = set_one c.args.pair.identifier c.args.pair.value (settings_is c.args.kept.now) c.in-1.is

pub returns-in-7 : goal.returns-in-7
returns-in-7 c = set_seven c.args.pair.identifier c.args.pair.value (settings_is c.args.kept.now) c.in-7.is

pub returns-in_default : goal.returns-in_default
returns-in_default c = set_other c.args.pair.identifier c.args.pair.value (settings_is c.args.kept.now) (λ e. omega arith) (λ e. omega arith) (λ e. omega arith)
