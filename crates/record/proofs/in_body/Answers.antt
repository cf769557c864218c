use native.Mathlib.Omega.{arith}
use borrow.Author.Tests.{ltb-true, eqb-true}
use Rattle.record.specs.Body.{content_sound, between_sound}
use Rattle.record.proofs.in_body.Goals as goal

pub returns-then-r-ne0 : goal.returns-then-r-ne0
returns-then-r-ne0 c = let r = c.args.r in let b = c.behind.ensures c.if-not-behind.false in λ e. (content_sound r b c.if-r-eq-CONTENT_MODE.true c.if-r-ne0.true (ltb-true _ _ e), b, omega (arith, c.if-r-eq-CONTENT_MODE.true))

pub returns-then-r-eq-TYPE_MODE : goal.returns-then-r-eq-TYPE_MODE
returns-then-r-eq-TYPE_MODE c = let r = c.args.r in let b = c.behind.ensures c.if-not-behind.false in λ e. (between_sound r b c.if-r-eq-TYPE_MODE.true (eqb-true _ _ e), b, omega (arith, c.if-r-eq-TYPE_MODE.true))
