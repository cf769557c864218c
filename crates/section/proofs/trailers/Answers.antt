-- `section::trailers` meets its contract. Assumes nothing.
use mathlib.Core.Path.{◌≡◌, sym, ap, ◌∙◌}
use Rattle.std.specs.Prelude.{Err}
use Rattle.section.specs.Answer.{trailer_answer}
use Rattle.section.specs.Judging.{by_trailers, walked_all, trailers_unread, trailers_refused, trailers_sound}
use Rattle.section.proofs.trailers.Goals as goal
use native.Mathlib.Omega.{arith}

pub returns-in_err-facts : goal.returns-in_err-facts
returns-in_err-facts c =
    let passed : c.from_residual.result ≡ Err c.in_err-facts.field-0.0 = grind arith in
    passed ∙ trailers_unread _ (sym c.in_err-facts.was ∙ c.walk_lines.ensures)

pub returns-in-Some : goal.returns-in-Some
returns-in-Some c =
    let w = walked_all _ (sym c.in_ok-facts.was ∙ c.walk_lines.ensures) in
    trailers_refused _ _ (sym c.in-Some.is ∙ c.trailer_fault.ensures ∙ ap by_trailers w.1) ∙ sym (ap trailer_answer w.0)

pub returns-in-None : goal.returns-in-None
returns-in-None c =
    let w = walked_all _ (sym c.in_ok-facts.was ∙ c.walk_lines.ensures) in
    trailers_sound _ (sym c.in-None.is ∙ c.trailer_fault.ensures ∙ ap by_trailers w.1) ∙ sym (ap trailer_answer w.0)
