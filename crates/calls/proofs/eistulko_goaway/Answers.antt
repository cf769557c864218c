use Rattle.std.proofs.Common.{sym, ap, refl}
use Rattle.connection.specs.Halves.{with_doors}
use Rattle.connection.specs.Ways.{goes_alone}
use Rattle.calls.proofs.eistulko_goaway.Goals as goal

pub returns : goal.returns
returns c = let g = c.say_goaway-gone in record { gone = g.result; goes = g.ensures; conn_left = ap (with_doors c.args.conn.now) (sym (goes_alone g.ensures)); answered = refl }
