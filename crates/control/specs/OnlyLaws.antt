-- The integer that is the whole of a payload, by where it ends. Assumes nothing.
use Rattle.std.specs.Prelude.{◌≡◌, ℕ, List, length, drop}
use Rattle.std.proofs.Common.{sym, arith, length-drop, drop_of_length-le, drop-cons}
use Rattle.std.proofs.Math.Option.{none, some}
use Rattle.rules.specs.Integers.{cut, got, integer}
use Rattle.rules.specs.Control.{only}
use Rattle.meaning.specs.IntegerLaws.{integer_length}

pub only_cut : (l : List ℕ) → cut ≡ integer 0 l → none ≡ only (integer 0 l)
unfolding only
only_cut l e = rw (← e)

pub only_is : (l : List ℕ) {v n : ℕ} → got v n (drop n l) ≡ integer 0 l → n ≡ length l → some v ≡ only (integer 0 l)
unfolding only
only_is l {v} {n} e h = let d = drop_of_length-le l {i = n} (omega arith) in rw (← e, d)

pub only_not : (l : List ℕ) {v n : ℕ} → got v n (drop n l) ≡ integer 0 l → (n ≡ length l → ⊥) → none ≡ only (integer 0 l)
unfolding only
only_not l {v} {n} e h =
    let a = integer_length 0 l (sym e) in
    let d = drop-cons l n 0 (omega (arith, length-drop n l)) in
    rw (← e, d)
