use mathlib.Core.Path.{◌∙◌}
use Rattle.oneway.specs.Numbers.{tidy_none, tidy_some}
use Rattle.oneway.proofs.calls.tidy_kept.Goals as goal

pub returns-then-k-eq0 : goal.returns-then-k-eq0
returns-then-k-eq0 c = c.nothing_said.ensures ∙ tidy_none _ c.if-k-eq0.true

pub returns : goal.returns
returns c = tidy_some c.args.k c.if-k-eq0.false c.flag.ensures c.number_if.ensures c.flag-2.ensures c.number_if-2.ensures c.flag-3.ensures c.number_if-3.ensures
