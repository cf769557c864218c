-- A value above 2^62-1, a room too short, or both integers stored. Assumes nothing.
use mathlib.Core.Path.{◌≡◌, sym, ◌∙◌}
use native.Mathlib.Omega.{arith}
use Rattle.std.proofs.Common.{rules}
use Rattle.std.specs.Prelude.{Some, None, Result, Err, ℕ}
use Rattle.rules.specs.declared.codes.House.{House}
use Rattle.rules.specs.declared.codes.House.TheVariants.{BadValue}
use Rattle.varint.specs.Shortest.{sized, sized_some, size_few}
use Rattle.wire.specs.Frame.{header_no_type, header_no_length, header_short, header_done}
use Rattle.wire.proofs.write_header.Goals as goal

pub returns-in_err-a : goal.returns-in_err-a
returns-in_err-a c =
    let e : None ≡ sized c.args.ftype = sym c.in_err-a.ensures.ok_part ∙ c.size.ensures in
    let r : ◌≡◌ {A = Result ℕ House} c.from_residual.result (Err BadValue) = search rules in
    rw r (header_no_type c.args.room.now c.args.ftype c.args.len e)

pub returns-in_err-b : goal.returns-in_err-b
returns-in_err-b c =
    let e : None ≡ sized c.args.len = sym c.in_err-b.ensures.ok_part ∙ c.size-2.ensures in
    let r : ◌≡◌ {A = Result ℕ House} c.from_residual-in_err-b.result (Err BadValue) = search rules in
    rw r (header_no_length c.args.room.now c.args.ftype c.args.len e)

pub overflow_add-n : goal.overflow_add-n
overflow_add-n c = let a : Some c.in_ok-a.a ≡ sized c.args.ftype = sym c.in_ok-a.ensures.ok_part ∙ c.size.ensures in let b : Some c.in_ok-b.b ≡ sized c.args.len = sym c.in_ok-b.ensures.ok_part ∙ c.size-2.ensures in let s = sized_some c.args.ftype a in let t = sized_some c.args.len b in omega (arith, s.0, t.0, size_few c.args.ftype, size_few c.args.len)

pub returns-then-room-n : goal.returns-then-room-n
returns-then-room-n c = let a : Some c.in_ok-a.a ≡ sized c.args.ftype = sym c.in_ok-a.ensures.ok_part ∙ c.size.ensures in let b : Some c.in_ok-b.b ≡ sized c.args.len = sym c.in_ok-b.ensures.ok_part ∙ c.size-2.ensures in header_short c.args.room.now c.args.ftype c.args.len a b c.if-room-n.true

pub put-requires : goal.put-requires
put-requires c = let a : Some c.in_ok-a.a ≡ sized c.args.ftype = sym c.in_ok-a.ensures.ok_part ∙ c.size.ensures in let b : Some c.in_ok-b.b ≡ sized c.args.len = sym c.in_ok-b.ensures.ok_part ∙ c.size-2.ensures in let s = sized_some c.args.ftype a in let t = sized_some c.args.len b in record { holds = omega (arith, s.0, s.1); fits = omega (arith, s.0, c.if-room-n.false) }

pub returns : goal.returns
returns c = let a : Some c.in_ok-a.a ≡ sized c.args.ftype = sym c.in_ok-a.ensures.ok_part ∙ c.size.ensures in let b : Some c.in_ok-b.b ≡ sized c.args.len = sym c.in_ok-b.ensures.ok_part ∙ c.size-2.ensures in header_done c.args.room.now c.args.ftype c.args.len a b _ _ c.if-room-n.false c.put.ensures c.put-2.ensures

pub put-requires-2 : goal.put-requires-2
put-requires-2 c = let a : Some c.in_ok-a.a ≡ sized c.args.ftype = sym c.in_ok-a.ensures.ok_part ∙ c.size.ensures in let b : Some c.in_ok-b.b ≡ sized c.args.len = sym c.in_ok-b.ensures.ok_part ∙ c.size-2.ensures in let s = sized_some c.args.ftype a in let t = sized_some c.args.len b in record { holds = omega (arith, t.0, t.1); fits = omega (arith, t.0, c.if-room-n.false) }
