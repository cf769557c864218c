-- `fields::with_digit` meets its contract: what is past a tenth of the cap is past it with one more digit. Assumes nothing.
use Prim.Native.Nat.{◌+◌, ◌*◌, ◌-◌, ◌^◌, min}
use mathlib.Core.Path.{◌≡◌, sym, ◌∙◌}
use native.Mathlib.Omega.{arith}
use Rattle.fields.specs.Decimal.{capped_above, capped_min}
use Rattle.fields.proofs.with_digit.Goals as goal

pub returns-then-total : goal.returns-then-total
returns-then-total c = sym (capped_above _ (omega arith))

pub returns : goal.returns
returns c =
    let e : c.min.result ≡ min (c.args.total * 10 + (c.args.b - 0x30)) (2 ^ 62) = omega arith in
    e ∙ capped_min _
