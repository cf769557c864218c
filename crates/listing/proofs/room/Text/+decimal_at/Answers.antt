-- `Text::decimal_at` meets its contract: all digits but the last, then the last. Assumes nothing.
use native.Mathlib.Omega.{arith}
use Rattle.listing.specs.Put.{digits_one, digits_more, put_one, put_more}
use Rattle.listing.proofs.room.Text.+decimal_at.Goals as goal

pub digit_at-requires : goal.digit_at-requires
digit_at-requires t c = (omega (arith, digits_one c.args.n c.if-n-lt10.true), c.if-n-lt10.true)

pub returns-then-n-lt10 : goal.returns-then-n-lt10
returns-then-n-lt10 t c = put_one c.args.n c.if-n-lt10.true c.digit_at.ensures

pub decimal_at-last-requires : goal.decimal_at-last-requires
decimal_at-last-requires t c = (omega (arith, c.if-n-lt10.false), omega (arith, digits_more c.args.n (omega (arith, c.if-n-lt10.false))))

pub digit_at-requires-2 : goal.digit_at-requires-2
digit_at-requires-2 t c = (omega (arith, digits_more c.args.n (omega (arith, c.if-n-lt10.false)), c.decimal_at-last.ensures.next), omega arith)

pub returns : goal.returns
returns t c = put_more c.args.n (omega (arith, c.if-n-lt10.false)) c.decimal_at-last.ensures c.digit_at-2.ensures
