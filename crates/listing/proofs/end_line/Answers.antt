-- `listing::end_line` meets its contract: before the header section the end is refused, behind it the stream is whole. Assumes nothing.
use Rattle.std.proofs.Common.{◌≡◌, ◌⊎◌, ⊎_elim, ◌∙◌, sym, ap, arith, Option, Some}
use Rattle.listing.specs.declared.Phase.{Phase}
use Rattle.listing.specs.declared.Phase.TheVariants.{Body, Trailed}
use Rattle.listing.specs.Lines.{phase_number}
use Rattle.listing.specs.At.{end_opening, end_behind}
use Rattle.listing.proofs.end_line.Goals as goal

behind : {at : Option Phase} (phase : Phase) → at ≡ Some phase → (phase ≡ Body) ⊎ (phase ≡ Trailed) → phase_number at ≡ 0 → ⊥
behind phase e b z = ⊎_elim
    (λ (h : phase ≡ Body). let n : 1 ≡ 0 = sym (ap phase_number (e ∙ ap Some h)) ∙ z in absurd (omega arith))
    (λ (h : phase ≡ Trailed). let n : 2 ≡ 0 = sym (ap phase_number (e ∙ ap Some h)) ∙ z in absurd (omega arith)) b

pub returns-in-Opening : goal.returns-in-Opening
returns-in-Opening c = let a = c.args in end_opening a.total a.p (ap phase_number (c.requires ∙ ap Some c.in-Opening.is))

pub returns-in-Body : goal.returns-in-Body
returns-in-Body c = let a = c.args in end_behind a.total a.p (behind a.phase c.requires c.in-Body.is)
