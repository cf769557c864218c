-- `fields::line_at` meets its contract: the tests in the order of the definition. Assumes nothing.
use borrow.Author.Tests.{le-leb, lt-leb, lt-ltb, le-ltb, eq-eqb, ne_eqb}
use Rattle.fields.specs.Walk.{record_at, record_from}
use Rattle.fields.proofs.line_at.Goals.{then-len-lt4-via-then-len-lt4, then-len-lt4-via-else-len-lt4+then-left-len, then-len-lt4-via-else-len-lt4+else-left-len+then-kind-ne-FIELD_LINE, then-len-lt4-via-else-len-lt4+else-left-len+else-kind-ne-FIELD_LINE+then-len-named}
use Rattle.fields.proofs.line_at.Goals as goal

pub returns-then-block-at : goal.returns-then-block-at
unfolding record_at record_from
returns-then-block-at c = simp (le-leb _ _ c.if-block-at.true)

pub returns-then-left-lt6 : goal.returns-then-left-lt6
unfolding record_at record_from
returns-then-left-lt6 c = simp (lt-leb _ _ c.if-block-at.false, lt-ltb _ _ c.if-left-lt6.true)

pub returns-then-len-lt4 : goal.returns-then-len-lt4
unfolding record_at record_from
returns-then-len-lt4 c =
    elim c.then-len-lt4.branch [
      | then-len-lt4-via-then-len-lt4 w ↦
          simp (lt-leb _ _ c.if-block-at.false, le-ltb _ _ c.if-left-lt6.false, ← c.number_at-len.ensures, lt-ltb _ _ w.if-len-lt4.true)
      | then-len-lt4-via-else-len-lt4+then-left-len w ↦
          simp (lt-leb _ _ c.if-block-at.false, le-ltb _ _ c.if-left-lt6.false, ← c.number_at-len.ensures, le-ltb _ _ w.if-len-lt4.false, lt-ltb _ _ w.if-left-len.true)
      | then-len-lt4-via-else-len-lt4+else-left-len+then-kind-ne-FIELD_LINE w ↦
          simp (lt-leb _ _ c.if-block-at.false, le-ltb _ _ c.if-left-lt6.false, ← c.number_at-len.ensures, le-ltb _ _ w.if-len-lt4.false, le-ltb _ _ w.if-left-len.false, ← c.number_at-kind.ensures, ne_eqb _ _ w.if-kind-ne-FIELD_LINE.true)
      | then-len-lt4-via-else-len-lt4+else-left-len+else-kind-ne-FIELD_LINE+then-len-named w ↦
          simp (lt-leb _ _ c.if-block-at.false, le-ltb _ _ c.if-left-lt6.false, ← c.number_at-len.ensures, le-ltb _ _ w.if-len-lt4.false, le-ltb _ _ w.if-left-len.false, ← c.number_at-kind.ensures, eq-eqb _ _ w.if-kind-ne-FIELD_LINE.false, ← c.number_at-named.ensures, lt-ltb _ _ w.if-len-named.true)
    ]

pub returns : goal.returns
unfolding record_at record_from
returns c = simp (lt-leb _ _ c.if-block-at.false, le-ltb _ _ c.if-left-lt6.false, ← c.number_at-len.ensures, le-ltb _ _ c.if-len-lt4.false, le-ltb _ _ c.if-left-len.false, ← c.number_at-kind.ensures, eq-eqb _ _ c.if-kind-ne-FIELD_LINE.false, ← c.number_at-named.ensures, le-ltb _ _ c.if-len-named.false)
