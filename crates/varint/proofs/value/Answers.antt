-- One byte is its own value; two have a way of their own. Assumes nothing.
use Prim.Native.Nat.{◌+◌}
use native.Mathlib.Omega.{arith}
use Rattle.varint.specs.Whole.{inside, value_one, two_within, value_two}
use Rattle.varint.proofs.value.Goals as goal

pub bounds-s-at : goal.bounds-s-at
bounds-s-at c = inside c.args.s.now c.args.at c.requires

pub returns-then-x-lt64 : goal.returns-then-x-lt64
returns-then-x-lt64 c = let s = c in value_one s.args.s.now s.args.at _ c.from-x.ensures c.if-x-lt64.true s.requires

pub overflow_add-at : goal.overflow_add-at
overflow_add-at c = let s = c in omega (arith, two_within s.args.s.now s.args.at _ c.from-x.ensures c.if-x-lt64.false c.if-x-lt128.true s.requires)

pub bounds-s-at-then-x-lt128 : goal.bounds-s-at-then-x-lt128
bounds-s-at-then-x-lt128 c = let s = c in two_within s.args.s.now s.args.at _ c.from-x.ensures c.if-x-lt64.false c.if-x-lt128.true s.requires

pub overflow_add-result : goal.overflow_add-result
overflow_add-result c = let s = c in omega (arith, c.from.ensures, (c.type_inv.s (s.args.at + 1)).fits, c.if-x-lt128.true)

pub returns-then-x-lt128 : goal.returns-then-x-lt128
returns-then-x-lt128 c = let s = c in value_two s.args.s.now s.args.at _ c.from-x.ensures c.if-x-lt64.false c.if-x-lt128.true s.requires _ c.from.ensures (omega (arith, c.from.ensures, (c.type_inv.s (s.args.at + 1)).fits))
