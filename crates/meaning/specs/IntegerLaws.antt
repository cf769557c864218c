-- Integers (rules, Integers): what one leaves of the bytes, that what is written reads back, and that nothing shorter does. Each fact once
-- over the four sizes. Assumes nothing.
use Rattle.std.specs.Prelude.{◌≡◌, refl, ℕ, zero, suc, ◌+◌, ◌-◌, ◌*◌, ◌^◌, ◌/◌, ◌%◌, ◌<◌, ◌≤◌, List, [], ◌∷◌, ◌++◌, Bool, true, false, leb, length, drop}
use Rattle.std.proofs.Common.{ap, pow-suc, div-one, div-add-mod', div-lt_iff_lt-mul, zero-lt-suc, mul_assoc, mul_comm, mul-one, arith, leb→le, lit≤}
use Rattle.std.proofs.Math.Nat.{pow-zero, div-div-eq-div-mul, one-le-pow}
use Rattle.std.proofs.Math.Option.{Option, some}
use Rattle.std.proofs.Math.Dec.{nleb→lt}
use Rattle.std.proofs.Math.Arith.{digits_div, digits_mod}
use Rattle.rules.specs.Integers.{got, more, extra, integer, Row, row, rows, low, in_row, in_first, written}

-- ---- reading

-- the bytes that an integer leaves
pub more_length : (k v at : ℕ) (bs : List ℕ) {t here : ℕ} {rest : List ℕ} → more k v at bs ≡ got t here rest → (here + length rest ≡ at + length bs) × (length rest ≤ length bs)
unfolding more
more_length zero v at bs {t} {here} {rest} e =
    let n : at ≡ here = cc in
    let r : bs ≡ rest = cc in
    let l : length bs ≡ length rest = ap length r in
    omega arith
more_length (suc k) v at [] e = let z : ◌≡◌ {A = ℕ} 0 1 = cc in omega arith
more_length (suc k) v at (b ∷ bs) e = let i = more_length k (v * 256 + b) (suc at) bs e in omega arith

pub integer_length : (at : ℕ) (bs : List ℕ) {t here : ℕ} {rest : List ℕ} → integer at bs ≡ got t here rest → (here + length rest ≡ at + length bs) × (length rest < length bs)
unfolding integer
integer_length at [] e = let z : ◌≡◌ {A = ℕ} 0 1 = cc in omega arith
integer_length at (b ∷ bs) e = let i = more_length (extra b) (b % 64) (suc at) bs e in omega arith

-- what follows does not matter
more_append : (k v at : ℕ) (bs y : List ℕ) {t here : ℕ} {rest : List ℕ} → more k v at bs ≡ got t here rest → more k v at (bs ++ y) ≡ got t here (rest ++ y)
unfolding more
more_append zero v at bs y {t} {here} {rest} e =
    let w : v ≡ t = cc in
    let n : at ≡ here = cc in
    let r : bs ≡ rest = cc in
    rw (w, n, r)
more_append (suc k) v at [] y e = let z : ◌≡◌ {A = ℕ} 0 1 = cc in absurd (omega arith)
more_append (suc k) v at (b ∷ bs) y e = more_append k (v * 256 + b) (suc at) bs y e

pub integer_append : (at : ℕ) (bs y : List ℕ) {t here : ℕ} {rest : List ℕ} → integer at bs ≡ got t here rest → integer at (bs ++ y) ≡ got t here (rest ++ y)
unfolding integer
integer_append at [] y e = let z : ◌≡◌ {A = ℕ} 0 1 = cc in absurd (omega arith)
integer_append at (b ∷ bs) y e = more_append (extra b) (b % 64) (suc at) bs y e

-- ---- reading back

-- a row says the same in its three numbers
pub record Agrees (r : Row) : Type 0 where
  pub size : r.size ≡ 2 ^ r.mark
  pub top : suc r.top ≡ 64 * 256 ^ (r.size - 1)

abbrev AllAgree : List Row → Type 0
AllAgree [] = Unit {0}
AllAgree (r ∷ rs) = Agrees r × AllAgree rs

all_agree : AllAgree rows
unfolding rows
all_agree = (record { size = refl; top = refl }, (record { size = refl; top = refl }, (record { size = refl; top = refl }, (record { size = refl; top = refl }, tt))))

more_low : (e v at : ℕ) (rest : List ℕ) → more e (v / 256 ^ e) at (low e v ++ rest) ≡ got v (at + e) rest
unfolding more low
more_low zero v at rest = let z : at + 0 ≡ at = omega arith in let o = div-one v in rw (z, o)
more_low (suc e) v at rest =
    let d : v / 256 ^ suc e * 256 + v / 256 ^ e % 256 ≡ v / 256 ^ e = rw (pow-suc 256 e, ← div-div-eq-div-mul v (256 ^ e) 256) (div-add-mod' (v / 256 ^ e) 256) in
    let n : suc at + e ≡ at + suc e = omega arith in
    rw (d, ← n) (more_low e v (suc at) rest)

length_low : (e v : ℕ) → length (low e v) ≡ e
unfolding low
length_low zero v = refl
length_low (suc e) v = ap suc (length_low e v)

pub length_row : (r : Row) (v : ℕ) → length (in_row r v) ≡ suc (r.size - 1)
unfolding in_row
length_row r v = ap suc (length_low (r.size - 1) v)

-- at every size
pub row_reads : (r : Row) (v at : ℕ) (rest : List ℕ) → Agrees r → v ≤ r.top → integer at (in_row r v ++ rest) ≡ got v (at + length (in_row r v)) rest
unfolding integer in_row extra
row_reads r v at rest a h =
    let t = a.top in
    let below : v < 64 * 256 ^ (r.size - 1) = omega arith in
    let q : v / 256 ^ (r.size - 1) < 64 = (div-lt_iff_lt-mul (one-le-pow (r.size - 1) 256 (zero-lt-suc 255))).1 below in
    let d = digits_div r.mark q in
    let m = digits_mod r.mark q in
    let s = a.size in
    let l = length_low (r.size - 1) v in
    let n : at + suc (r.size - 1) ≡ suc at + (r.size - 1) = omega arith in
    rw (d, m, ← s, l, n) (more_low (r.size - 1) v (suc at) rest)

-- one row of the table: v fits it, or the rows behind it answer
row_or : {A : Type 0} (r : Row) (v : ℕ) (bs : List ℕ) (o : Option (List ℕ)) → (v ≤ r.top → in_row r v ≡ bs → A) → (r.top < v → o ≡ some bs → A)
    → (x : Bool) → leb v r.top ≡ x → ◌≡◌ {A = Option (List ℕ)} (elim x [ true ↦ some (in_row r v) | false ↦ o ]) (some bs) → A
row_or r v bs o here behind true x e = here (leb→le v r.top (rw x tt)) (cc)
row_or r v bs o here behind false x e = behind (nleb→lt v r.top (rw x tt)) e

first_reads : (rs : List Row) (v at : ℕ) (bs rest : List ℕ) → AllAgree rs → in_first rs v ≡ some bs → integer at (bs ++ rest) ≡ got v (at + length bs) rest
unfolding in_first
first_reads [] v at bs rest a e = cc
first_reads (r ∷ rs) v at bs rest a e =
    row_or r v bs (in_first rs v) (λ h p. rw (← p) (row_reads r v at rest a.0 h)) (λ h q. first_reads rs v at bs rest a.1 q) (leb v r.top) refl e

-- WHAT IS WRITTEN READS BACK, whatever follows
pub written_reads : (v at : ℕ) (bs rest : List ℕ) → written v ≡ some bs → integer at (bs ++ rest) ≡ got v (at + length bs) rest
unfolding written
written_reads v at bs rest e = first_reads rows v at bs rest all_agree e

-- ---- the shortest

pub data Bytes : List ℕ → Type 0 where
  no_byte : Bytes []
  byte : {b : ℕ} {bs : List ℕ} → b < 256 → Bytes bs → Bytes (b ∷ bs)

-- what is read is below what its size can hold
more_below : (k v m at : ℕ) {bs : List ℕ} {t here : ℕ} {rest : List ℕ} → Bytes bs → v < m → more k v at bs ≡ got t here rest → (t < m * 256 ^ k) × (here ≡ at + k)
unfolding more
more_below zero v m at {t = t} {here = here} b h e =
    let w : v ≡ t = cc in
    let n : at ≡ here = cc in
    (rw (pow-zero 256, mul-one m) (omega arith), omega arith)
more_below (suc k) v m at no_byte h e = let z : ◌≡◌ {A = ℕ} 0 1 = cc in absurd (omega arith)
more_below (suc k) v m at {t = t} {here = here} (byte {b = c} l b) h e =
    let i = more_below k (v * 256 + c) (m * 256) (suc at) b (omega arith) e in
    let y : m * 256 * 256 ^ k ≡ m * 256 ^ suc k = rw (pow-suc 256 k, mul_assoc m 256 (256 ^ k), mul_comm 256 (256 ^ k)) in
    (rw (← y) i.0, omega arith)

-- a row that is in a table, behind none that is longer
data Has (r : Row) : List Row → Type 0 where
  here : {rs : List Row} → Has r (r ∷ rs)
  later : {q : Row} {rs : List Row} → q.size ≤ r.size → Has r rs → Has r (q ∷ rs)

first_short : {r : Row} {rs : List Row} (v : ℕ) (w : List ℕ) → Has r rs → v ≤ r.top → in_first rs v ≡ some w → length w ≤ suc (r.size - 1)
unfolding in_first
first_short {r} v w (here {rs = rs}) h e =
    row_or r v w (in_first rs v) (λ g p. (let l = length_row r v in rw (← p) (omega arith))) (λ g q. absurd (omega arith)) (leb v r.top) refl e
first_short {r} v w (later {q = q} {rs = rs} s i) h e =
    row_or q v w (in_first rs v) (λ g p. (let l = length_row q v in rw (← p) (omega arith))) (λ g y. first_short v w i h y) (leb v q.top) refl e

-- the row of each size
record RowFor (k : ℕ) : Type 0 where
  which : Row
  there : Has which rows
  holds : 64 * 256 ^ (2 ^ k - 1) ≤ suc which.top
  long : suc (which.size - 1) ≤ 2 ^ k

row_for : (k : ℕ) → k < 4 → RowFor k
unfolding rows
row_for zero h = record { which = row 0 1 63; there = here; holds = lit≤ tt; long = lit≤ tt }
row_for (suc zero) h = record { which = row 1 2 16_383; there = later (lit≤ tt) here; holds = lit≤ tt; long = lit≤ tt }
row_for (suc (suc zero)) h = record { which = row 2 4 1_073_741_823; there = later (lit≤ tt) (later (lit≤ tt) here); holds = lit≤ tt; long = lit≤ tt }
row_for (suc (suc (suc zero))) h =
    record { which = row 3 8 4_611_686_018_427_387_903; there = later (lit≤ tt) (later (lit≤ tt) (later (lit≤ tt) here)); holds = lit≤ tt; long = lit≤ tt }
row_for (suc (suc (suc (suc k)))) h = absurd (omega arith)

-- NO ACCEPTED FORM IS SHORTER than what is written
pub shortest : (v at next : ℕ) {bs : List ℕ} (rest w : List ℕ) → Bytes bs → integer at bs ≡ got v next rest → written v ≡ some w → at + length w ≤ next
unfolding integer written extra
shortest v at next rest w no_byte e s = let z : ◌≡◌ {A = ℕ} 0 1 = cc in absurd (omega arith)
shortest v at next rest w (byte {b = b} l bytes) e s =
    let k : b / 64 < 4 = omega arith in
    let r = row_for (b / 64) k in
    let m = more_below (2 ^ (b / 64) - 1) (b % 64) 64 (suc at) bytes (omega arith) e in
    let one = one-le-pow (b / 64) 2 (zero-lt-suc 1) in
    let f = first_short v w r.there (omega (arith, r.holds, m.0)) s in
    omega (arith, r.long, m.1)

-- ---- what follows an integer is what is behind it

more_rest : (k v at : ℕ) (bs : List ℕ) {t next : ℕ} {rest : List ℕ} → more k v at bs ≡ got t next rest → rest ≡ drop (next - at) bs
unfolding more
more_rest zero v at bs {t} {next} {rest} e =
    let n : at ≡ next = cc in
    let r : bs ≡ rest = cc in
    let z : next - at ≡ 0 = omega arith in
    rw (z, r) refl
more_rest (suc k) v at [] e = let z : ◌≡◌ {A = ℕ} 0 1 = cc in absurd (omega arith)
more_rest (suc k) v at (b ∷ bs) {next = next} e =
    let l = more_length k (v * 256 + b) (suc at) bs e in
    let z : next - at ≡ suc (next - suc at) = omega arith in
    rw z (more_rest k (v * 256 + b) (suc at) bs e)

pub integer_rest : (at : ℕ) (bs : List ℕ) {t next : ℕ} {rest : List ℕ} → integer at bs ≡ got t next rest → rest ≡ drop (next - at) bs
unfolding integer
integer_rest at [] e = let z : ◌≡◌ {A = ℕ} 0 1 = cc in absurd (omega arith)
integer_rest at (b ∷ bs) {next = next} e =
    let l = more_length (extra b) (b % 64) (suc at) bs e in
    let z : next - at ≡ suc (next - suc at) = omega arith in
    rw z (more_rest (extra b) (b % 64) (suc at) bs e)
