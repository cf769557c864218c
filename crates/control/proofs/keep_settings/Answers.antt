use mathlib.Core.Path.{◌∙◌, ap}
use mir.Val.{bool_byte}
use Rattle.control.specs.Judged.{kept_is}
use Rattle.control.proofs.keep_settings.Goals as goal

pub returns : goal.returns
returns c = rw c.unwrap_or.ensures (kept_is c.args.s (c.from.ensures ∙ ap bool_byte c.is_some.ensures))
