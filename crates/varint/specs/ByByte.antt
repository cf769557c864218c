-- An integer read a byte at a time, kept as two numbers: the machine's own step (meaning, Machine). Assumes nothing.
use Rattle.std.specs.Prelude.{ℕ, zero, suc, ◌+◌, ◌-◌, ◌*◌, ◌/◌, ◌%◌, ◌^◌, ◌<◌, ◌≤◌, ◌≡◌, refl}
use Rattle.std.proofs.Common.{sym, ap, ◌∙◌, one-mul, pow-suc, zero-lt-suc, arith, pow_mono, shl_exact}
use Rattle.std.proofs.Math.Nat.{pow-le-pow_right, one-le-pow}
use Rattle.rules.specs.Integers.{extra}
use Rattle.meaning.specs.Machine.{Prog, fresh, need, Fed, going, value, after, fed}
use Rattle.varint.specs.declared.Part.{Part}
use Rattle.std.specs.declared.ops.ControlFlow.{ControlFlow}
use Rattle.std.specs.declared.ops.ControlFlow.TheVariants.{Continue, Break}

-- a byte read: go on with the part, or break with the whole value
abbrev pub Step : Type 0
Step = ControlFlow ℕ Part

abbrev pub part : (acc due : ℕ) → Part
part acc due = record { acc = acc; due = due }

abbrev pub fresh_part : Part
fresh_part = part 0 0

-- ---- what two numbers mean, and how what the machine has is kept in two

unfoldable pub prog : (due acc : ℕ) → Prog
prog zero acc = fresh
prog (suc k) acc = need k acc

abbrev pub prog_of : Part → Prog
prog_of p = prog p.due p.acc

unfoldable pub read_as : Step → Fed
read_as (Continue p) = going (prog_of p)
read_as (Break v) = value v

unfoldable pub part_of : Prog → Part
part_of fresh = fresh_part
part_of (need k v) = part v (suc k)

unfoldable pub step_as : Fed → Step
step_as (going g) = Continue (part_of g)
step_as (value v) = Break v

unfoldable pub step_of : Part → ℕ → Step
step_of p b = step_as (fed (prog_of p) b)

-- THE STEP IS THE MACHINE'S
kept : (g : Prog) → prog_of (part_of g) ≡ g
unfolding prog part_of
kept fresh = refl
kept (need k v) = refl

kept_step : (f : Fed) → read_as (step_as f) ≡ f
unfolding read_as step_as
kept_step (going g) = ap going (kept g)
kept_step (value v) = refl

pub step_reads : (p : Part) (b : ℕ) → read_as (step_of p b) ≡ fed (prog_of p) b
unfolding step_of
step_reads p b = kept_step (fed (prog_of p) b)

pub step_more : (p : Part) (b : ℕ) {n : Part} → step_of p b ≡ Continue n → fed (prog_of p) b ≡ going (prog_of n)
unfolding read_as
step_more p b e = sym (step_reads p b) ∙ ap read_as e

pub step_done : (p : Part) (b : ℕ) {v : ℕ} → step_of p b ≡ Break v → fed (prog_of p) b ≡ value v
unfolding read_as
step_done p b e = sym (step_reads p b) ∙ ap read_as e

pub fresh_reads : prog_of fresh_part ≡ fresh
unfolding prog
fresh_reads = refl

-- ---- no sum wraps

-- the bytes that are due keep the whole below 2^62
pub record Good (p : Part) : Type 0 where
  pub few : p.due ≤ 7
  pub small : p.acc < 64 * 256 ^ (7 - p.due)

abbrev pub GoodStep : Step → Type 0
GoodStep (Continue p) = Good p
GoodStep (Break v) = v < 2 ^ 62

pub record Stepped (p : Part) (b : ℕ) (r : Step) : Type 0 where
  pub is : r ≡ step_of p b
  pub good : GoodStep r

pub fresh_good : Good fresh_part
fresh_good = record { few = omega arith; small = omega arith }

-- the shift that the code makes of a first byte
shifted : (b : ℕ) → b < 256 → (1 * 2 ^ (b / 64)) % 2 ^ 64 ≡ 2 ^ (b / 64)
shifted b h = shl_exact 1 (b / 64) 64 (omega arith) (omega arith) ∙ one-mul (2 ^ (b / 64))

pub follow_least : (b : ℕ) → b < 256 → 1 ≤ (1 * 2 ^ (b / 64)) % 2 ^ 64
follow_least b h = rw (shifted b h) (one-le-pow (b / 64) 2 (zero-lt-suc 1))

pub follow_is : (b : ℕ) → b < 256 → (1 * 2 ^ (b / 64)) % 2 ^ 64 - 1 ≡ extra b
unfolding extra
follow_is b h = rw (shifted b h)

pub extra_few : (b : ℕ) → b < 256 → extra b ≤ 7
unfolding extra
extra_few b h = let top : 2 ^ (b / 64) ≤ 2 ^ 3 = pow_mono {i = b / 64} {j = 3} (omega arith) in omega arith

pub extra_none : (b : ℕ) → b < 64 → extra b ≡ 0
unfolding extra
extra_none b h = let q : b / 64 ≡ 0 = omega arith in rw q

-- a byte more, and room for it
room : (d : ℕ) → 0 < d → d ≤ 7 → 256 ^ (7 - (d - 1)) ≡ 256 ^ (7 - d) * 256
room d lo hi = let e : 7 - (d - 1) ≡ suc (7 - d) = omega arith in rw (e, pow-suc 256 (7 - d))

below : (d : ℕ) → 64 * 256 ^ (7 - d) ≤ 2 ^ 62
below d = let m : 256 ^ (7 - d) ≤ 256 ^ 7 = pow-le-pow_right (zero-lt-suc 255) {i = 7 - d} {j = 7} (omega arith) in omega arith

pub small : {p : Part} → Good p → p.acc < 2 ^ 62
small {p} g = omega (arith, below p.due)

pub next_good : {p : Part} (b : ℕ) → b < 256 → 0 < p.due → Good p → Good (part (p.acc * 256 + b) (p.due - 1))
next_good {p} b h lo g = record { few = omega arith; small = rw (room p.due lo g.few) (omega (arith, g.small)) }

pub next_fits : (p : Part) (b : ℕ) → b < 256 → 0 < p.due → Good p → p.acc * 256 + b < 2 ^ 62
next_fits p b h lo g = small (next_good b h lo g)

pub first_good : (b : ℕ) → b < 256 → Good (part (b % 64) (extra b))
first_good b h =
    let one : 1 ≤ 256 ^ (7 - extra b) = one-le-pow (7 - extra b) 256 (zero-lt-suc 255) in
    record { few = extra_few b h; small = omega arith }

after_good : (k v : ℕ) → Good (part v k) → GoodStep (step_as (after k v))
unfolding step_as after part_of
after_good zero v g = small g
after_good (suc k) v g = g

pub onward_done : (k v : ℕ) → k ≡ 0 → Break v ≡ step_as (after k v)
unfolding step_as after
onward_done k v e = rw e

pub onward_more : (k v : ℕ) → (k ≡ 0 → ⊥) → Continue (part v k) ≡ step_as (after k v)
unfolding step_as after part_of
onward_more zero v n = absurd (n refl)
onward_more (suc k) v n = refl

-- the two ways of a step
prog_due : (d a : ℕ) → 0 < d → prog d a ≡ need (d - 1) a
unfolding prog
prog_due zero a h = absurd (omega arith)
prog_due (suc k) a h = ap (λ n. need n a) (omega arith)

pub first_step : (p : Part) (b x k : ℕ) {r : Step} → x ≡ b → b < 256 → p.due ≡ 0 → k ≡ extra x → r ≡ step_as (after k (x % 64)) → Stepped p b r
unfolding step_of prog fed
first_step p b x k e h z f q = record {
  is = q ∙ rw (f, e, z);
  good = rw (q, f, e) (after_good (extra b) (b % 64) (first_good b h));
}

pub next_step : (p : Part) (b x : ℕ) {r : Step} → x ≡ b → b < 256 → 0 < p.due → Good p → r ≡ step_as (after (p.due - 1) (p.acc * 256 + x)) → Stepped p b r
unfolding step_of fed
next_step p b x e h lo g q = record {
  is = q ∙ rw (e, prog_due p.due p.acc lo);
  good = rw (q, e) (after_good (p.due - 1) (p.acc * 256 + b) (next_good b h lo g));
}
