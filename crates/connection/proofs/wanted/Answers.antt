use borrow.Author.Tests.{ne_eqb}
use Rattle.connection.specs.Whose.{wanted_vacant, wanted_taken, wanted_other}
use Rattle.connection.proofs.wanted.Goals as goal

pub returns-in-Open : goal.returns-in-Open
returns-in-Open c = wanted_vacant _ _ c.in-Open.is c.is_free.ensures

pub returns-then-r-id : goal.returns-then-r-id
returns-then-r-id c = wanted_taken _ _ c.in-On.is c.if-r-id.true

pub returns-else-r-id : goal.returns-else-r-id
returns-else-r-id c = let e = ne_eqb c.args.r.id c.args.id c.if-r-id.false in rw e (wanted_other _ _ c.in-On.is c.if-r-id.false)
