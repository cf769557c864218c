use native.Mathlib.Omega.{arith}
use mathlib.Core.Path.{refl, ◌∙◌}
use Rattle.rules.specs.Reading.{goaway, max_push_id, cancel_push}
use Rattle.meaning.specs.ControlLaws.{type_of, integer_kind}
use Rattle.frames.specs.Uses.{kept_number}
use Rattle.frames.specs.Ruled.{first_long_number, first_number, not_settings, integer_frame, control_low, control_other}
use Rattle.frames.proofs.Place.control_rule.Goals as goal

pub returns-then-len-gt-SETTINGS_LIMIT : goal.returns-then-len-gt-SETTINGS_LIMIT
returns-then-len-gt-SETTINGS_LIMIT c = first_long_number _ _ _ c.if-self-eq-UNSET.true c.in-4.is c.if-len-gt-SETTINGS_LIMIT.true

pub returns-else-len-gt-SETTINGS_LIMIT : goal.returns-else-len-gt-SETTINGS_LIMIT
returns-else-len-gt-SETTINGS_LIMIT c = first_number _ _ _ c.if-self-eq-UNSET.true c.in-4.is c.if-len-gt-SETTINGS_LIMIT.false

pub returns-in_default : goal.returns-in_default
returns-in_default c = not_settings _ _ _ c.if-self-eq-UNSET.true (λ e. omega arith)

pub returns-in-7 : goal.returns-in-7
unfolding type_of integer_kind kept_number
returns-in-7 c = c.one_integer.ensures ∙ integer_frame _ goaway _ _ 5 refl c.requires c.if-self-eq-UNSET.false c.in-7.is refl

pub returns-in-13 : goal.returns-in-13
unfolding type_of integer_kind kept_number
returns-in-13 c = c.one_integer-in-13.ensures ∙ integer_frame _ max_push_id _ _ 6 refl c.requires c.if-self-eq-UNSET.false c.in-13.is refl

pub returns-in-3 : goal.returns-in-3
unfolding type_of integer_kind kept_number
returns-in-3 c = c.one_integer-in-3.ensures ∙ integer_frame _ cancel_push _ _ 7 refl c.requires c.if-self-eq-UNSET.false c.in-3.is refl

pub returns-in-0-to-9 : goal.returns-in-0-to-9
returns-in-0-to-9 c = control_low _ _ _ c.requires c.if-self-eq-UNSET.false (λ e. omega arith) (λ e. omega arith) (omega arith)

pub returns-in_default-ftype : goal.returns-in_default-ftype
returns-in_default-ftype c = control_other _ _ _ c.requires c.if-self-eq-UNSET.false (omega arith) (λ e. omega arith)
