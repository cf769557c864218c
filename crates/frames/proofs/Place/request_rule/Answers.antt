use native.Mathlib.Omega.{arith}
use mathlib.Core.Path.{◌∙◌}
use Rattle.frames.specs.Ruled.{is_data, not_data, third, too_long, a_header, a_trailer, low, thirteen, other}
use Rattle.frames.proofs.Place.request_rule.Goals as goal

pub returns-then-self-eq-BODY : goal.returns-then-self-eq-BODY
returns-then-self-eq-BODY c = c.data_rule.ensures ∙ is_data _ _ _ _ _ _ c.if-self-eq-BODY.true c.in-0.is

pub returns-else-self-eq-BODY : goal.returns-else-self-eq-BODY
returns-else-self-eq-BODY c = not_data _ _ _ _ _ _ c.requires.0 c.in-0.is c.if-self-eq-BODY.false

pub returns-then-self-eq-TRAILED : goal.returns-then-self-eq-TRAILED
returns-then-self-eq-TRAILED c = third _ _ _ _ _ _ c.if-self-eq-TRAILED.true c.in-1.is

pub returns-then-len-gt-HEADERS_LIMIT : goal.returns-then-len-gt-HEADERS_LIMIT
returns-then-len-gt-HEADERS_LIMIT c = too_long _ _ _ _ _ _ c.requires.0 c.in-1.is c.if-self-eq-TRAILED.false c.if-len-gt-HEADERS_LIMIT.true

pub returns-then-self-eq-OPENING : goal.returns-then-self-eq-OPENING
returns-then-self-eq-OPENING c = a_header _ _ _ _ _ _ c.if-self-eq-OPENING.true c.in-1.is c.if-len-gt-HEADERS_LIMIT.false

pub returns-else-self-eq-OPENING : goal.returns-else-self-eq-OPENING
returns-else-self-eq-OPENING c = a_trailer _ _ _ _ _ _ c.requires.0 c.in-1.is c.if-self-eq-TRAILED.false c.if-self-eq-OPENING.false c.if-len-gt-HEADERS_LIMIT.false

pub returns-in-2-to-9-2 : goal.returns-in-2-to-9-2
returns-in-2-to-9-2 c = low _ _ _ _ _ _ c.requires.0 (λ e. omega arith) (λ e. omega arith) (omega arith)

pub returns-in-2-to-9 : goal.returns-in-2-to-9
returns-in-2-to-9 c = thirteen _ _ _ _ _ _ c.requires.0 (omega arith)

pub returns-in_default : goal.returns-in_default
returns-in_default c = other _ _ _ _ _ _ c.requires.0 (omega arith) (λ e. omega arith)
