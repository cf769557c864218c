-- `fields::Table::value_spot` meets its contract. Assumes nothing.
use Prim.Native.Nat.{ℕ}
use mathlib.Core.Path.{sym, ap, ◌∙◌}
use native.Mathlib.Omega.{arith}
use borrow.Author.Tests.{true-eqb, false-eqb}
use Rattle.std.proofs.Math.Option.{some}
use Rattle.rules.specs.Bytes.{spot, blank_at_end}
use Rattle.fields.specs.Spots.{out_at, out_none, value_none, value_blank_first, value_out, value-blank-last, value-sound}
use Rattle.fields.proofs.Table.value_spot.Goals as goal

pub returns-then-is_empty : goal.returns-then-is_empty
returns-then-is_empty c = value_none _ _ (true-eqb _ _ c.if-is_empty.ensures)

pub returns-then-blank : goal.returns-then-blank
returns-then-blank c = value_blank_first _ _ (false-eqb _ _ c.if-is_empty.ensures) (sym c.blank.ensures ∙ c.if-blank.true)

pub returns-in-Some : goal.returns-in-Some
returns-in-Some c =
    let i = out_at _ _ _ (sym c.first_outside.ensures ∙ c.in-Some.is) in
    value_out _ _ (false-eqb _ _ c.if-is_empty.ensures) (sym c.blank.ensures ∙ c.if-blank.false) _ i.1 i.0

pub returns-then-blank-2 : goal.returns-then-blank-2
returns-then-blank-2 c =
    let n = false-eqb _ _ c.if-is_empty.ensures in
    ap (λ (p : ℕ). some (spot blank_at_end p)) (omega arith)
    ∙ value-blank-last _ _ n (sym c.blank.ensures ∙ c.if-blank.false) (out_none _ _ (sym c.first_outside.ensures ∙ c.in_default.is)) (sym c.blank-2.ensures ∙ c.if-blank-2.true)

pub returns : goal.returns
returns c = value-sound _ _ (false-eqb _ _ c.if-is_empty.ensures) (sym c.blank.ensures ∙ c.if-blank.false) (out_none _ _ (sym c.first_outside.ensures ∙ c.in_default.is)) (sym c.blank-2.ensures ∙ c.if-blank-2.false)
