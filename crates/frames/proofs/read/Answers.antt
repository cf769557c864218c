use mathlib.Core.Path.{ap, sym, ◌∙◌}
use Rattle.frames.specs.Wants.{wanted_in, ruled_not_none}
use Rattle.frames.specs.Fed.{fed_stays, fed_read}
use Rattle.frames.proofs.read.Goals as goal

pub returns-in-None : goal.returns-in-None
returns-in-None c = let a = c in rw c.quiet.ensures (fed_stays a.args.c a.args.s.now a.args.allow _ c.begin-b.ensures (ap wanted_in c.in-None.is))

pub returns-in-Some : goal.returns-in-Some
returns-in-Some c =
    let a = c in
    let e = ap wanted_in c.in-Some.is in
    fed_read a.args.c a.args.s.now a.args.allow _ a.requires.1 c.begin-b.ensures (λ z. ruled_not_none _ (sym e ∙ z)) (rw e c.up_to_stop-halt.ensures) c.stopped.ensures
