-- `fields::Table::name_spot` meets its contract. Assumes nothing.
use mathlib.Core.Path.{sym, ap, ◌∙◌}
use borrow.Author.Tests.{true-eqb, false-eqb}
use Rattle.fields.specs.Spots.{spot_of, out_at, out_none, name_pseudo, name_empty, name_in, name-capital, name-other}
use Rattle.fields.proofs.Table.name_spot.Goals as goal

pub returns-then-begins_with : goal.returns-then-begins_with
returns-then-begins_with c = name_pseudo _ _ (sym c.begins_with.ensures ∙ c.if-begins_with.true)

pub returns-then-is_empty : goal.returns-then-is_empty
returns-then-is_empty c = name_empty _ _ (sym c.begins_with.ensures ∙ c.if-begins_with.false) (true-eqb _ _ c.if-is_empty.ensures)

pub returns-in_err-i : goal.returns-in_err-i
returns-in_err-i c = ap spot_of c.from_residual.ensures ∙ name_in _ _ (sym c.begins_with.ensures ∙ c.if-begins_with.false) (false-eqb _ _ c.if-is_empty.ensures) (out_none _ _ (sym c.first_outside.ensures ∙ c.in_err-i.was))

pub returns-then-is_capital : goal.returns-then-is_capital
returns-then-is_capital c =
    let i = out_at _ _ _ (sym c.first_outside.ensures ∙ c.in_ok-i.was) in
    name-capital _ _ (sym c.begins_with.ensures ∙ c.if-begins_with.false) (false-eqb _ _ c.if-is_empty.ensures) _ i.1 i.0 (sym c.is_capital.ensures ∙ c.if-is_capital.true)

pub returns : goal.returns
returns c =
    let i = out_at _ _ _ (sym c.first_outside.ensures ∙ c.in_ok-i.was) in
    name-other _ _ (sym c.begins_with.ensures ∙ c.if-begins_with.false) (false-eqb _ _ c.if-is_empty.ensures) _ i.1 i.0 (sym c.is_capital.ensures ∙ c.if-is_capital.false)
