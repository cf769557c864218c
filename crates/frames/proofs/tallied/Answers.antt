use native.Mathlib.Omega.{arith}
use Rattle.std.proofs.Common.{⊎_elim}
use Rattle.frames.specs.End.{tally_control, tally_opening, tally_free, tally_equal, tally_unequal}
use Rattle.frames.proofs.tallied.Goals as goal

pub returns-in-0 : goal.returns-in-0
returns-in-0 c = let a = c.args.c in tally_opening a.has a.stated a.sum a.phase c.in-0.is

pub returns-then-c : goal.returns-then-c
returns-then-c c = let a = c.args.c in
    ⊎_elim (λ z. tally_free a.has a.stated a.sum a.phase ((λ x. omega arith), λ x. omega arith) z) (λ e. tally_equal a.has a.stated a.sum e.0 a.phase ((λ x. omega arith), λ x. omega arith) e.1) c.if-c.either

pub returns-else-c : goal.returns-else-c
returns-else-c c = let a = c.args.c in tally_unequal a.has a.stated a.sum c.if-c.false.0 a.phase ((λ x. omega arith), λ x. omega arith) c.if-c.false.1

pub returns-in_default : goal.returns-in_default
returns-in_default c = let a = c.args.c in tally_control a.has a.stated a.sum a.phase (omega arith)
