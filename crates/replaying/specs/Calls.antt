-- The lines of a read and of a write, by their answers. Assumes nothing.
use Rattle.std.specs.Prelude.{ℕ, ◌≤◌, ◌≡◌, refl, List, length, take, replicate}
use Rattle.std.proofs.Common.{sym, ap, ◌∙◌, arith, length-take, length-take-le}
use Rattle.rules.specs.Integers.{integer, cut}
use Rattle.rules.specs.Writer.{Write, refused, wrote}
use Rattle.varint.specs.Whole.{whole_is}
use Rattle.std.specs.Prelude.{Option as Maybe, Some, None, Result, Ok, Err}
use Rattle.rules.specs.Numbers.{house_number}
use Rattle.rules.specs.Named.{house_of}
use Rattle.rules.specs.declared.codes.House.{House}
use Rattle.varint.specs.Write.{Meets, wrote_of}
use Rattle.varint.specs.declared.Whole.{Whole}
use Rattle.replaying.specs.Lines.{cut_line, value_line, read_line, written_line, write_line}

pub read_cut : (s : List ℕ) {w : Maybe Whole} → whole_is s w ≡ integer 0 s → w ≡ None → read_line (integer 0 s) ≡ cut_line
unfolding read_line whole_is
read_cut s e f = let g : integer 0 s ≡ cut = sym e ∙ ap (whole_is s) f in rw g refl

pub read_value : (s : List ℕ) {w : Maybe Whole} {v next : ℕ} → whole_is s w ≡ integer 0 s → w ≡ Some (record { value = v; next = next }) → read_line (integer 0 s) ≡ value_line v next
unfolding read_line whole_is
read_value s e f = ap read_line (sym e ∙ ap (whole_is s) f)

pub write_refused : (w : Write) {before after : List ℕ} {r : Result ℕ House} {h : House} → Meets w before r after → r ≡ Err h → write_line w before ≡ written_line (house_number (house_of h)) 0 after
unfolding write_line wrote_of
write_refused (refused n) {h = h} m e = let a = rw e at m.answers in let l = m.leaves in let z : house_number (house_of h) ≡ n = cc in rw (z, l) refl
write_refused (wrote bs) m e = let a = rw e at m.answers in let z : ◌≡◌ {A = ℕ} 0 1 = cc in absurd (omega arith)

pub write_count : (w : Write) {before after : List ℕ} {r : Result ℕ House} {n : ℕ} → Meets w before r after → r ≡ Ok n → write_line w before ≡ written_line 0 n after
unfolding write_line wrote_of
write_count (refused k) m e = let a = rw e at m.answers in let z : ◌≡◌ {A = ℕ} 0 1 = cc in absurd (omega arith)
write_count (wrote bs) {n = n} m e = let a = rw e at m.answers in let l = m.leaves in let z : n ≡ length bs = cc in rw (z, l) refl

pub take_short : (n : ℕ) (xs : List ℕ) → n ≤ 64 → length (take n xs) ≤ 64
take_short n xs h = simp length-take (omega arith)

pub in_buffer : (n : ℕ) (b : List ℕ) → b ≡ replicate 64 170 → n ≤ 64 → n ≡ length (take n b)
in_buffer n b e h = let l : length b ≡ 64 = rw e refl in sym (length-take-le n b (omega arith))
