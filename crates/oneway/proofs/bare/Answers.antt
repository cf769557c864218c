use native.Mathlib.Omega.{arith}
use Rattle.oneway.specs.Fed.{bare_skipped, bare_bytes, bare_none}
use Rattle.oneway.proofs.bare.Goals as goal

pub returns-then-w-gt-DECODER : goal.returns-then-w-gt-DECODER
returns-then-w-gt-DECODER c = let a = c.args in bare_skipped a.s.now a.at c.requires.0 a.w c.if-w-gt-DECODER.true c.quiet.ensures

pub returns-then-at-s : goal.returns-then-at-s
returns-then-at-s c = let a = c.args in let q = c.quiet-then-at-s.ensures in rw q (bare_bytes a.s.now a.at c.requires.0 a.w c.requires.1 (omega (arith, c.if-w-gt-DECODER.false)) c.if-at-s.true)

pub returns-else-at-s : goal.returns-else-at-s
returns-else-at-s c = let a = c.args in bare_none a.s.now a.at c.requires.0 a.w c.requires.1 (omega (arith, c.if-w-gt-DECODER.false)) (omega (arith, c.if-at-s.false)) c.quiet-else-at-s.ensures
