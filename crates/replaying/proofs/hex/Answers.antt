-- `replaying::hex` meets its contract: a digit for each half of a byte. Assumes nothing.
use native.Mathlib.Omega.{arith}
use Rattle.script.specs.Words.{hex_digit}
use borrow.Author.Tests.{lt-ltb, le-ltb}
use Rattle.replaying.proofs.hex.Goals as goal

pub returns-then-n-lt10 : goal.returns-then-n-lt10
unfolding hex_digit
returns-then-n-lt10 c = let e = lt-ltb _ _ c.if-n-lt10.true in rw (e, hex_digit) (omega arith)

pub returns-else-n-lt10 : goal.returns-else-n-lt10
unfolding hex_digit
returns-else-n-lt10 c = let e = le-ltb _ _ c.if-n-lt10.false in rw (e, hex_digit) (omega arith)
