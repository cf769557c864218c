-- Laws of the numbers beside a one-way stream: a law for each way out of the small functions. Assumes nothing.
use Rattle.std.specs.Prelude.{◌≡◌, List, ◌++◌, length, take, drop, replicate}
use Rattle.std.proofs.Math.Path.{refl, sym}
use Rattle.std.proofs.Common.{ap, ◌∙◌, arith, append_assoc, length-append}
use Prim.Native.Nat.{ℕ, zero, suc, ◌+◌, ◌-◌, ◌≤◌}
use Rattle.std.proofs.lemmas.List.{length-replicate, take_at, drop_at}
use borrow.Rule.Slice.PartMut.{put_mid}
use Rattle.std.proofs.lemmas.List.Edits.{sets-eq}
use Rattle.std.proofs.Math.Seq.{take-append_seam, drop-drop}
use borrow.Author.Tests.{eq-eqb, ne_eqb}
use Rattle.record.specs.Kinds.{CONTROL}
use Rattle.record.specs.Row.{is_stated, length_of}
use Rattle.control.specs.declared.Kept.{Kept}
use Rattle.control.specs.Judged.{push_id}
use Rattle.control.specs.Rules.{some_if, control_at, control_of}
use Rattle.oneway.specs.declared.calls.Side.{Side}
use Rattle.oneway.specs.Mirror.{nothing_said, kept_numbers, kept_in, bytes_of, side_of, bare_side, side_by, flag_of, number_if}

-- ---- what a control stream has said

flag_is : (h v : ℕ) → flag_of h ≡ is_stated (some_if h v)
unfolding flag_of is_stated some_if
flag_is zero v = refl
flag_is (suc h) v = refl

number_is : (h v : ℕ) → number_if h v ≡ length_of (some_if h v)
unfolding number_if length_of some_if
number_is zero v = refl
number_is (suc h) v = refl

abbrev saying : (set limited size capacity blocked goaways goaway pushes push : ℕ) → Kept
saying s l z c b gs g ps p = record { set = s; limited = l; size = z; capacity = c; blocked = b; goaways = gs; goaway = push_id g; pushes = ps; push = push_id p }

module _ (k : Kept) where
  pub tidy_none : k.set ≡ 0 → nothing_said ≡ kept_numbers (control_of k)
  unfolding kept_numbers control_at
  tidy_none e = sym (ap (λ s. kept_numbers (control_at s k)) e)

  tidy_at : (n : ℕ) → (n ≡ 0 → ⊥)
      → saying 1 (flag_of k.limited) (number_if k.limited k.size) k.capacity k.blocked (flag_of k.goaways) (number_if k.goaways k.goaway.0) (flag_of k.pushes) (number_if k.pushes k.push.0)
      ≡ kept_numbers (control_at n k)
  unfolding kept_numbers control_at
  tidy_at zero z = absurd (z refl)
  tidy_at (suc n) z =
      let a = flag_is k.limited k.size in
      let b = number_is k.limited k.size in
      let c = flag_is k.goaways k.goaway.0 in
      let d = number_is k.goaways k.goaway.0 in
      let e = flag_is k.pushes k.push.0 in
      let f = number_is k.pushes k.push.0 in
      rw (a, b, c, d, e, f) refl

  pub tidy_some : {l z gs g ps p : ℕ} → (k.set ≡ 0 → ⊥) → l ≡ flag_of k.limited → z ≡ number_if k.limited k.size → gs ≡ flag_of k.goaways → g ≡ number_if k.goaways k.goaway.0
      → ps ≡ flag_of k.pushes → p ≡ number_if k.pushes k.push.0 → saying 1 l z k.capacity k.blocked gs g ps p ≡ kept_numbers (control_of k)
  tidy_some n a b c d e f = rw (a, b, c, d, e, f) (tidy_at k.set n)

-- ---- sides

module _ (d : Side) where
  pub side_control : (kind phase : ℕ) (k : List ℕ) {kept : Kept} {bytes : List ℕ} {n : ℕ} {r : Side} → kind ≡ CONTROL → kept ≡ kept_numbers (control_of (kept_in phase d.kept)) → n ≡ length k → bytes ≡ bytes_of k
      → r ≡ side_of 1 d.encoder d.decoder kept n bytes → r ≡ side_by kind phase d k
  unfolding side_by
  side_control kind phase k e f g h q = let x = eq-eqb kind 3 e in q ∙ rw (f, g, h) (rw (x, side_by) refl)

  pub side_bare : (kind phase : ℕ) (k : List ℕ) {r : Side} → (kind ≡ CONTROL → ⊥) → r ≡ bare_side d kind → r ≡ side_by kind phase d k
  unfolding side_by
  side_bare kind phase k n q = let x = ne_eqb kind 3 n in q ∙ rw (x, side_by) refl

-- ---- bytes, and then zeros

pub bytes_back : (k : List ℕ) (n : ℕ) → n ≡ length k → length k ≤ 256 → take n (bytes_of k) ≡ k
bytes_back k n e h =
    let z = length-replicate {A = ℕ} 256 0 in
    let s = sets-eq k (replicate 256 0) 0 (omega arith) in
    rw (e, s) (take-append_seam k (drop (0 + length k) (replicate 256 0)))

-- what the copies of two words leave of the room
pub joined_is : (was word x y : List ℕ) → length was + length word ≤ 256 → x ≡ was → y ≡ word
    → put_mid (length was) ((length was + length word) - length was) (x ++ drop (length was) (replicate 256 0)) y ≡ bytes_of (was ++ word)
joined_is was word x y h e f =
    let z : List ℕ = replicate 256 0 in
    let n = length was in
    let k : (n + length word) - n ≡ length word = omega arith in
    let a = take_at was (drop n z) n refl in
    let b = drop_at was (drop n z) n refl in
    let d : drop (length word) (drop n z) ≡ drop (n + length word) z = drop-drop (length word) n z in
    let l = length-append was word in
    let r = length-replicate {A = ℕ} 256 0 in
    let s = sets-eq (was ++ word) z 0 (omega arith) in
    let o : 0 + (n + length word) ≡ n + length word = omega arith in
    rw (e, f, k, a, b, d, s, l, o) (sym (append_assoc was word (drop (n + length word) z)))
