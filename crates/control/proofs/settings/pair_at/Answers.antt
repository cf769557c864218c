-- `control::settings::pair_at` meets its contract: what is read twice is a pair, or cut. Assumes nothing.
use mathlib.Core.Path.{sym}
use Rattle.varint.specs.Whole.{whole_is}
use Rattle.control.specs.Walk.{identifier_cut, value_cut}
use Rattle.control.proofs.settings.pair_at.Goals as goal

pub returns-in_err-identifier : goal.returns-in_err-identifier
unfolding whole_is
returns-in_err-identifier c = rw c.from_residual.ensures (identifier_cut (sym c.in_err-identifier.ensures))

pub returns-in_err-value : goal.returns-in_err-value
unfolding whole_is
returns-in_err-value c = rw c.from_residual-in_err-value.ensures (value_cut (sym c.in_ok-identifier.ensures) (sym c.in_err-value.ensures))

pub returns : goal.returns
unfolding whole_is
returns c = record {
  middle = c.in_ok-identifier.identifier.next;
  identifies = sym c.in_ok-identifier.ensures;
  holds = sym c.in_ok-value.ensures;
}
