use mathlib.Core.Path.{refl}
use Rattle.std.proofs.Common.{rules}
use Rattle.std.specs.Prelude.{◌<◌, ◌≤◌}
use Rattle.control.specs.Judged.{max_push_first, max_push_below, max_push_higher}
use Rattle.control.proofs.judge_max_push.Goals.{else-kept-ne0-via-then-kept-ne0+else-lt, else-kept-ne0-via-else-kept-ne0}
use Rattle.control.proofs.judge_max_push.Goals as goal

pub returns-then-lt : goal.returns-then-lt
returns-then-lt c = let h : c.args.id.0 < c.args.kept.push.0 = search rules in max_push_below c.args.kept c.args.id c.if-kept-ne0.true h c.refused.ensures

pub returns : goal.returns
returns c = elim c.else-kept-ne0.branch [
  | else-kept-ne0-via-then-kept-ne0+else-lt w ↦ let h : c.args.kept.push.0 ≤ c.args.id.0 = search rules in max_push_higher c.args.kept c.args.id h refl
  | else-kept-ne0-via-else-kept-ne0 w ↦ max_push_first c.args.kept c.args.id w.if-kept-ne0.false refl
]
