-- The size of the row is the number of bytes. Assumes nothing.
use mathlib.Core.Path.{◌≡◌, sym, ap, ◌∙◌}
use Rattle.std.specs.Prelude.{Some, None, option_map}
use Rattle.varint.specs.Shortest.{form_of, form_size}
use Rattle.varint.specs.declared.Form.{Form}
use Rattle.varint.proofs.size.Goals as goal

pub returns-in_err-form_of : goal.returns-in_err-form_of
returns-in_err-form_of c = let e : None ≡ form_of c.args.v = sym c.in_err-form_of.was ∙ c.form_of.ensures in c.from_residual.ensures ∙ ap (option_map (λ (f : Form). f.size)) e ∙ form_size c.args.v

pub returns : goal.returns
returns c = let e : Some c.in_ok-form_of.field-0 ≡ form_of c.args.v = sym c.in_ok-form_of.was ∙ c.form_of.ensures in ap (option_map (λ (f : Form). f.size)) e ∙ form_size c.args.v
