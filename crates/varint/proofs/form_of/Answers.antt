-- The tests are the rows of the table, in its order. Assumes nothing.
use borrow.Author.Tests.{le-leb, lt-leb}
use Rattle.rules.specs.Integers.{rows}
use Rattle.varint.specs.Shortest.{first_form}
use Rattle.varint.proofs.form_of.Goals as goal

pub returns-then-v-le63 : goal.returns-then-v-le63
unfolding rows first_form
returns-then-v-le63 c = rw (first_form, le-leb _ _ c.if-v-le63.true)

pub returns-then-v-le16383 : goal.returns-then-v-le16383
unfolding rows first_form
returns-then-v-le16383 c = rw (first_form, lt-leb _ _ c.if-v-le63.false, first_form, le-leb _ _ c.if-v-le16383.true)

pub returns-then-v-le1073741823 : goal.returns-then-v-le1073741823
unfolding rows first_form
returns-then-v-le1073741823 c = rw (first_form, lt-leb _ _ c.if-v-le63.false, first_form, lt-leb _ _ c.if-v-le16383.false, first_form, le-leb _ _ c.if-v-le1073741823.true)

pub returns-then-v-le-LARGEST : goal.returns-then-v-le-LARGEST
unfolding rows first_form
returns-then-v-le-LARGEST c = rw (first_form, lt-leb _ _ c.if-v-le63.false, first_form, lt-leb _ _ c.if-v-le16383.false, first_form, lt-leb _ _ c.if-v-le1073741823.false, first_form, le-leb _ _ c.if-v-le-LARGEST.true)

pub returns-else-v-le-LARGEST : goal.returns-else-v-le-LARGEST
unfolding rows first_form
returns-else-v-le-LARGEST c = rw (first_form, lt-leb _ _ c.if-v-le63.false, first_form, lt-leb _ _ c.if-v-le16383.false, first_form, lt-leb _ _ c.if-v-le1073741823.false, first_form, lt-leb _ _ c.if-v-le-LARGEST.false)
