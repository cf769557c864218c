-- `section::header_section` meets its contract. Assumes nothing.
use mathlib.Core.Path.{◌≡◌, sym, ap, ◌∙◌}
use Rattle.std.specs.Prelude.{Err}
use Rattle.section.specs.Answer.{header_answer}
use Rattle.section.specs.Judging.{walked_all, header_unread, header_refused, method_is, header_sound}
use Rattle.section.proofs.header_section.Goals as goal
use native.Mathlib.Omega.{arith}

pub returns-in_err-facts : goal.returns-in_err-facts
returns-in_err-facts c =
    let passed : c.from_residual.result ≡ Err c.in_err-facts.field-0.0 = grind arith in
    passed ∙ header_unread _ (sym c.in_err-facts.was ∙ c.walk_lines.ensures)

pub header_fault-requires : goal.header_fault-requires
header_fault-requires c = (walked_all _ (sym c.in_ok-facts.was ∙ c.walk_lines.ensures)).1

pub returns-in-Some : goal.returns-in-Some
returns-in-Some c = header_refused _ _ (sym c.in-Some.is ∙ c.header_fault.ensures) ∙ sym (ap header_answer (walked_all _ (sym c.in_ok-facts.was ∙ c.walk_lines.ensures)).0)

pub unwrap-requires : goal.unwrap-requires
unwrap-requires c =
    let w = walked_all _ (sym c.in_ok-facts.was ∙ c.walk_lines.ensures) in
    method_is _ (sym c.in-None.is ∙ c.header_fault.ensures) _ w.1

pub returns-in-None : goal.returns-in-None
returns-in-None c =
    let w = walked_all _ (sym c.in_ok-facts.was ∙ c.walk_lines.ensures) in
    header_sound _ (sym c.in-None.is ∙ c.header_fault.ensures) _ w.1 _ c.unwrap.ensures ∙ sym (ap header_answer w.0)
