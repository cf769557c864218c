-- `section::not_all` meets its contract. Assumes nothing.
use mathlib.Core.Path.{◌≡◌, sym, ◌∙◌}
use Rattle.std.specs.Prelude.{true, false, eqb, length}
use Rattle.fields.specs.Laws.{empty_is}
use Rattle.fields.specs.Outside.{outside_all}
use Rattle.section.proofs.not_all.Goals as goal

pub returns-then-is_empty : goal.returns-then-is_empty
returns-then-is_empty c =
    let e : eqb (length c.args.v.now) 0 ≡ true = sym c.is_empty.ensures ∙ c.if-is_empty.true in
    rw (empty_is, e) c.if-is_empty.true

pub returns-else-is_empty : goal.returns-else-is_empty
returns-else-is_empty c =
    let e : eqb (length c.args.v.now) 0 ≡ false = sym c.is_empty.ensures ∙ c.if-is_empty.false in
    rw (empty_is, e) (c.any_outside.ensures ∙ sym (outside_all c.args.class c.args.v.now))
