-- Above 2^62-1, then too short, then stored. Assumes nothing.
use mathlib.Core.Path.{◌≡◌, sym, ◌∙◌}
use native.Mathlib.Omega.{arith}
use Rattle.std.proofs.Common.{rules}
use Rattle.std.specs.Prelude.{Some, None, Result, Err, ℕ}
use Rattle.rules.specs.declared.codes.House.{House}
use Rattle.rules.specs.declared.codes.House.TheVariants.{BadValue}
use Rattle.varint.specs.Shortest.{sized, sized_some}
use Rattle.varint.specs.Write.{write_above, write_short, write_done}
use Rattle.varint.proofs.write.Goals as goal

pub returns-in_err-n : goal.returns-in_err-n
returns-in_err-n c =
    let e : None ≡ sized c.args.v = sym c.in_err-n.ensures.ok_part ∙ c.size.ensures in
    let r : ◌≡◌ {A = Result ℕ House} c.from_residual.result (Err BadValue) = search rules in
    rw r (write_above c.args.room.now c.args.v e)

pub returns-then-room-n : goal.returns-then-room-n
returns-then-room-n c =
    let e : Some c.in_ok-n.n ≡ sized c.args.v = sym c.in_ok-n.ensures.ok_part ∙ c.size.ensures in
    write_short c.args.room.now c.args.v e c.if-room-n.true

pub put-requires : goal.put-requires
put-requires c =
    let e : Some c.in_ok-n.n ≡ sized c.args.v = sym c.in_ok-n.ensures.ok_part ∙ c.size.ensures in
    let s = sized_some c.args.v e in
    record { holds = omega (arith, s.0, s.1); fits = omega (arith, s.0, c.if-room-n.false) }

pub returns : goal.returns
returns c =
    let e : Some c.in_ok-n.n ≡ sized c.args.v = sym c.in_ok-n.ensures.ok_part ∙ c.size.ensures in
    write_done c.args.room.now c.args.v _ _ e c.if-room-n.false c.put.ensures
