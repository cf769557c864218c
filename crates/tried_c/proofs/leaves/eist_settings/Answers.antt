-- `tried_c::leaves::eist_settings` meets its contract: each answer says what the rules do. Assumes nothing.
use mir.Val.{bool_byte}
use mathlib.Core.Path.{◌≡◌, ap, ◌∙◌}
use Rattle.control.specs.Answers.{size_is}
use Rattle.tried_c.specs.LeafNumbers.{stated, value_or0, limited_told, limit_told, settings_number, settings_out}
use Rattle.tried_c.proofs.leaves.eist_settings.Goals as goal

pub returns-in-Err : goal.returns-in-Err
unfolding settings_number settings_out
returns-in-Err c =
    let e = rw c.in-Err.is at c.judge.ensures in
    record { value = rw (c.number.ensures, ← e); out_after = rw (← e) }

pub returns-in-Ok : goal.returns-in-Ok
unfolding settings_number settings_out
returns-in-Ok c =
    let e = rw c.in-Ok.is at c.judge.ensures in
    let s : c.from.result ≡ stated (size_is c.in-Ok.s.size) = c.from.ensures ∙ ap bool_byte c.is_some.ensures ∙ limited_told c.in-Ok.s.size in
    let v : c.unwrap_or.result ≡ value_or0 (size_is c.in-Ok.s.size) = c.unwrap_or.ensures ∙ limit_told c.in-Ok.s.size in
    record { value = rw (← e); out_after = rw (← e, s, v) }
