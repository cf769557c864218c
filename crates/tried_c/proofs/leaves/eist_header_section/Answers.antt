-- `tried_c::leaves::eist_header_section` meets its contract: each answer is what the rules say of the block. Assumes nothing.
use Rattle.std.proofs.Common.{ap, ◌∙◌}
use Rattle.section.specs.Answer.{header_number}
use Rattle.section.specs.Answer.{read_stated}
use Rattle.tried_c.specs.LeafNumbers.{stated, value_or0, stated_told, value_told, header_out}
use mir.Val.{bool_byte}
use mathlib.Core.Path.{◌≡◌}
use Rattle.tried_c.proofs.leaves.eist_header_section.Goals as goal

pub returns-in-Err : goal.returns-in-Err
unfolding header_out
returns-in-Err c =
    let e = rw c.in-Err.is at c.header_section.ensures in
    record { value = rw (← e) c.number.ensures; out_after = rw (← e) }

pub returns-in-Ok : goal.returns-in-Ok
unfolding header_number header_out
returns-in-Ok c =
    let e = rw c.in-Ok.is at c.header_section.ensures in
    let s : c.from.result ≡ stated (read_stated c.in-Ok.sound.stated) = c.from.ensures ∙ ap bool_byte c.is_some.ensures ∙ stated_told c.in-Ok.sound.stated in
    let v : c.unwrap_or.result ≡ value_or0 (read_stated c.in-Ok.sound.stated) = c.unwrap_or.ensures ∙ value_told c.in-Ok.sound.stated in
    record { value = rw (← e); out_after = rw (← e, s, v) }
