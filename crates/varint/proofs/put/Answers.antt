-- Below 64 v itself, else the eight bytes of v with its mark on top, from the first that counts. Assumes nothing.
use mathlib.Core.Path.{refl, sym, ◌∙◌}
use native.Mathlib.Omega.{arith}
use Rattle.varint.specs.Shortest.{form_there, holds, one_below, no_other_size, put_fits, mark_whole, put_one, put_all}
use Rattle.varint.proofs.put.Goals as goal

pub unwrap-form-requires : goal.unwrap-form-requires
unwrap-form-requires c = rw c.form_of.ensures (form_there c.args.v c.requires.holds)

pub overflow_mul-form : goal.overflow_mul-form
overflow_mul-form c = let h = holds c.args.v (sym c.unwrap-form.ensures ∙ c.form_of.ensures) in omega (arith, h.few)

pub overflow_sub-form : goal.overflow_sub-form
overflow_sub-form c = let h = holds c.args.v (sym c.unwrap-form.ensures ∙ c.form_of.ensures) in omega (arith, h.some)

pub overflow_shl-form : goal.overflow_shl-form
overflow_shl-form c = let h = holds c.args.v (sym c.unwrap-form.ensures ∙ c.form_of.ensures) in omega (arith, h.few)

pub overflow_add-v : goal.overflow_add-v
overflow_add-v c = let h = holds c.args.v (sym c.unwrap-form.ensures ∙ c.form_of.ensures) in omega (arith, put_fits c.args.v c.unwrap-form.result h, mark_whole c.args.v c.unwrap-form.result h)

pub slice_bounds-copy_from_slice-end : goal.slice_bounds-copy_from_slice-end
slice_bounds-copy_from_slice-end c = let h = holds c.args.v (sym c.unwrap-form.ensures ∙ c.form_of.ensures) in omega (arith, h.size, c.in-2.is, c.requires.fits)

pub slice_bounds-copy_from_slice-end-in-4 : goal.slice_bounds-copy_from_slice-end-in-4
slice_bounds-copy_from_slice-end-in-4 c = let h = holds c.args.v (sym c.unwrap-form.ensures ∙ c.form_of.ensures) in omega (arith, h.size, c.in-4.is, c.requires.fits)

pub slice_bounds-copy_from_slice-end-in-8 : goal.slice_bounds-copy_from_slice-end-in-8
slice_bounds-copy_from_slice-end-in-8 c = let h = holds c.args.v (sym c.unwrap-form.ensures ∙ c.form_of.ensures) in omega (arith, h.size, c.in-8.is, c.requires.fits)

pub unreachable-requires : goal.unreachable-requires
unreachable-requires c = no_other_size c.args.v (sym c.unwrap-form.ensures ∙ c.form_of.ensures) (λ e. let b = one_below c.args.v (holds c.args.v (sym c.unwrap-form.ensures ∙ c.form_of.ensures)) e in omega arith) (λ e. omega arith) (λ e. omega arith) (λ e. omega arith)

pub returns-then-v-lt64 : goal.returns-then-v-lt64
returns-then-v-lt64 c = put_one c.args.v c.args.at c.args.room.now (omega (arith, c.if-v-lt64.true))

pub returns-in-2 : goal.returns-in-2
returns-in-2 c = let h = holds c.args.v (sym c.unwrap-form.ensures ∙ c.form_of.ensures) in put_all c.args.v c.args.at 2 c.args.room.now _ _ c.unwrap-form.result h c.in-2.is (omega (arith, h.size, c.in-2.is, c.requires.fits)) c.to_be_bytes-bytes.ensures c.copy_from_slice.ensures.after

pub returns-in-4 : goal.returns-in-4
returns-in-4 c = let h = holds c.args.v (sym c.unwrap-form.ensures ∙ c.form_of.ensures) in put_all c.args.v c.args.at 4 c.args.room.now _ _ c.unwrap-form.result h c.in-4.is (omega (arith, h.size, c.in-4.is, c.requires.fits)) c.to_be_bytes-bytes.ensures c.copy_from_slice-in-4.ensures.after

pub returns-in-8 : goal.returns-in-8
returns-in-8 c = let h = holds c.args.v (sym c.unwrap-form.ensures ∙ c.form_of.ensures) in put_all c.args.v c.args.at 8 c.args.room.now _ _ c.unwrap-form.result h c.in-8.is (omega (arith, h.size, c.in-8.is, c.requires.fits)) refl (c.copy_from_slice-in-8.ensures.after ∙ c.to_be_bytes-bytes.ensures)
