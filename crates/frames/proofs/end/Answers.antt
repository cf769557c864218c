use native.Mathlib.Omega.{arith}
use mathlib.Core.Path.{◌≡◌}
use Rattle.frames.specs.Modes.{IN-TYPE, HEADER-SECTION-DUE, TRAILERS-DUE}
use Rattle.frames.specs.End.{end_due, end_inside, end_between}
use Rattle.frames.proofs.end.Goals as goal
use Rattle.frames.proofs.end.Goals.{in_default-via-in-0+else-c-eq0, in_default-via-in_default+then-c-lt6, in_default-via-in_default+else-c-lt6+else-c-lt8}

pub returns-in-0 : goal.returns-in-0
returns-in-0 c = end_between c.args.c c.in-0.is c.if-c-eq0.true c.tallied.ensures

pub returns-in-6 : goal.returns-in-6
returns-in-6 c = end_due c.args.c (omega arith) (omega arith)

pub returns-in_default : goal.returns-in_default
returns-in_default c =
    let a = c.args.c in
    let inside : (a.mode ≡ IN-TYPE → a.due ≡ 0 → ⊥) × (a.mode ≡ HEADER-SECTION-DUE → ⊥) × (a.mode ≡ TRAILERS-DUE → ⊥) =
    elim c.in_default.branch [
      | in_default-via-in-0+else-c-eq0 w ↦ ((λ e f. omega arith), (λ e. omega arith), λ e. omega arith)
      | in_default-via-in_default+then-c-lt6 w ↦ ((λ e f. omega arith), (λ e. omega arith), λ e. omega arith)
      | in_default-via-in_default+else-c-lt6+else-c-lt8 w ↦ ((λ e f. omega arith), (λ e. omega arith), λ e. omega arith)
    ] in
    end_inside a inside.0 inside.1 inside.2 c.cut_off.ensures
