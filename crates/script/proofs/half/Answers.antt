-- `script::half` meets its contract: one law of specs, Laws, for each run of digits. Assumes nothing.
use Prim.Native.Nat.{◌+◌, ◌-◌}
use mathlib.Core.Path.{◌≡◌}
use native.Mathlib.Omega.{arith}
use Rattle.script.specs.Laws.{low_half, high_half}
use Rattle.script.proofs.half.Goals as goal

pub returns-in-48-to-57 : goal.returns-in-48-to-57
returns-in-48-to-57 c = (omega arith, low_half c.args.b (omega arith) (omega arith))

pub returns-in-97-to-102 : goal.returns-in-97-to-102
returns-in-97-to-102 c = let e : c.args.b - 97 + 10 ≡ c.args.b - 87 = omega arith in rw e (omega arith, high_half c.args.b (omega arith))
