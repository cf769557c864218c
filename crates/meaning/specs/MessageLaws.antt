-- Laws of a message (rules, Message), so that no one else opens its steps. Assumes nothing.
use Rattle.std.specs.Prelude.{◌≡◌, refl, ℕ, ◌+◌, ◌≤◌, List, [], ◌∷◌, Bool, true, false, ltb, eqb, T}
use Rattle.std.proofs.Common.{arith, ltb→lt, nltb→le, eqb→eq}
use Rattle.std.proofs.Math.Option.{Option, none, some}
use Rattle.std.proofs.Math.Dec.{eqb_refl}
use Rattle.rules.specs.Message.{content_limit, Message, opening, body, trailed, Reason, past_stated, past_limit, unequal, Step, goes, refuses, heads, sum_to, carries, trails, Ended, all_come, lacks, tally}
use Rattle.rules.specs.Legal.{AddsUp}

-- a sum that is within what is stated, or else within the limit
unfoldable pub Fits : Option ℕ → ℕ → Type 0
Fits (some n) sum = sum ≤ n
Fits none sum = sum ≤ content_limit

pub fits_zero : (stated : Option ℕ) → Fits stated 0
unfolding Fits
fits_zero (some n) = omega arith
fits_zero none = omega arith

pub fits_less : (stated : Option ℕ) (sum len : ℕ) → Fits stated (sum + len) → Fits stated sum
unfolding Fits
fits_less (some n) sum len h = omega arith
fits_less none sum len h = omega arith

pub adds_fits : (stated : Option ℕ) (sum : ℕ) → AddsUp stated sum → Fits stated sum
unfolding Fits AddsUp
adds_fits (some n) sum h = omega arith
adds_fits none sum h = h

-- DATA goes on exactly if the new sum fits
pub data CarryView (len : ℕ) : Message → Step → Type 0 where
  c_refused : {m : Message} {r : Reason} → CarryView len m (refuses r)
  c_goes : {stated : Option ℕ} {sum : ℕ} → Fits stated (sum + len) → CarryView len (body stated sum) (goes (body stated (sum + len)))

stated_view : (n len sum : ℕ) (x : Bool) → ltb n (sum + len) ≡ x
    → CarryView len (body (some n) sum) (elim x [ true ↦ refuses past_stated | false ↦ goes (body (some n) (sum + len)) ])
unfolding Fits
stated_view n len sum true e = c_refused
stated_view n len sum false e = c_goes (nltb→le n (sum + len) (rw e tt))

limit_view : (len sum : ℕ) (x : Bool) → ltb content_limit (sum + len) ≡ x
    → CarryView len (body none sum) (elim x [ true ↦ refuses past_limit | false ↦ goes (body none (sum + len)) ])
unfolding Fits
limit_view len sum true e = c_refused
limit_view len sum false e = c_goes (nltb→le content_limit (sum + len) (rw e tt))

pub carry_view : (len : ℕ) (m : Message) → CarryView len m (carries len m)
unfolding carries sum_to
carry_view len opening = c_refused
carry_view len (body (some n) sum) = stated_view n len sum (ltb n (sum + len)) refl
carry_view len (body none sum) = limit_view len sum (ltb content_limit (sum + len)) refl
carry_view len (trailed stated sum) = c_refused

not_below : (n s : ℕ) → s ≤ n → (x : Bool) → ltb n s ≡ x → x ≡ false
not_below n s h true e = let l = ltb→lt n s (rw e tt) in absurd (omega arith)
not_below n s h false e = refl

pub carry_goes : (stated : Option ℕ) (sum len : ℕ) → Fits stated (sum + len) → carries len (body stated sum) ≡ goes (body stated (sum + len))
unfolding carries sum_to Fits
carry_goes (some n) sum len h = let e = not_below n (sum + len) h (ltb n (sum + len)) refl in rw (e, sum_to)
carry_goes none sum len h = let e = not_below content_limit (sum + len) h (ltb content_limit (sum + len)) refl in rw (e, sum_to)

-- the end is good exactly if the sum adds up
equal_tally : (n sum : ℕ) (x : Bool) → eqb sum n ≡ x → (elim x as (λ y. Ended) [ true ↦ all_come | false ↦ lacks unequal ]) ≡ all_come → sum ≡ n
equal_tally n sum true e w = eqb→eq sum n (rw e tt)
equal_tally n sum false e w = cc

pub tally_adds : (stated : Option ℕ) (sum : ℕ) → Fits stated sum → tally stated sum ≡ all_come → AddsUp stated sum
unfolding tally AddsUp Fits
tally_adds (some n) sum h w = equal_tally n sum (eqb sum n) refl w
tally_adds none sum h w = h

true_of : (x : Bool) → T x → x ≡ true
true_of true h = refl
true_of false h = absurd h

pub adds_tally : (stated : Option ℕ) (sum : ℕ) → AddsUp stated sum → tally stated sum ≡ all_come
unfolding tally AddsUp
adds_tally (some n) sum h = let e : eqb sum n ≡ true = rw h (true_of (eqb n n) (eqb_refl n)) in rw (e, tally)
adds_tally none sum h = refl

-- ---- DEMAND 3's heart: all that is stated has come, so only empty DATA and, once, trailers may follow

pub data Full (n : ℕ) : (trailersMay : Bool) → Message → Type 0 where
  in_body : Full n true (body (some n) n)
  in_trail : Full n false (trailed (some n) n)

pub full_data : {n len : ℕ} {may : Bool} {m : Message} {s : Step} → Full n may m → CarryView len m s → (q : Message) → s ≡ goes q → (len ≡ 0) × (may ≡ true) × Full n may q
unfolding Fits
full_data f c_refused q e = let z : ◌≡◌ {A = ℕ} 0 1 = cc in absurd (omega arith)
full_data {n} {len} in_body (c_goes h) q e =
    let z : len ≡ 0 = omega arith in
    let w : n + len ≡ n = omega arith in
    let y : q ≡ body (some n) n = cc in
    (z, refl, rw y in_body)

pub full_trails : {n : ℕ} {may : Bool} {m : Message} → Full n may m → (q : Message) → trails m ≡ goes q → (may ≡ true) × Full n false q
unfolding trails
full_trails {n} in_body q e = let y : q ≡ trailed (some n) n = cc in (refl, rw y in_trail)
full_trails in_trail q e = let z : ◌≡◌ {A = ℕ} 0 1 = cc in absurd (omega arith)

pub full_heads : {n : ℕ} {may : Bool} {m : Message} (stated : Option ℕ) → Full n may m → (q : Message) → heads stated m ≡ goes q → ⊥
unfolding heads
full_heads stated in_body q e = let z : ◌≡◌ {A = ℕ} 0 1 = cc in omega arith
full_heads stated in_trail q e = let z : ◌≡◌ {A = ℕ} 0 1 = cc in omega arith

-- a whole message that states n is full
-- the same over a row of items
pub data Item : Type 0 where
  heading : (stated : Option ℕ) → Item
  data· : (len : ℕ) → Item
  trailing : Item

unfoldable pub stepped : Item → Message → Step
stepped (heading stated) m = heads stated m
stepped (data· len) m = carries len m
stepped trailing m = trails m

-- a message that takes these items and is there then
pub data Takes : Message → List Item → Message → Type 0 where
  nothing : {m : Message} → Takes m [] m
  item : {m p q : Message} (i : Item) {is : List Item} → stepped i m ≡ goes p → Takes p is q → Takes m (i ∷ is) q

pub data Little : (trailersMay : Bool) → List Item → Type 0 where
  nothing : {may : Bool} → Little may []
  empty_data : {may : Bool} {len : ℕ} {is : List Item} → may ≡ true → len ≡ 0 → Little may is → Little may (data· len ∷ is)
  the_trailers : {may : Bool} {is : List Item} → may ≡ true → Little false is → Little may (trailing ∷ is)

-- THE LAW OF MESSAGES: once all stated content has come, only empty DATA (before trailers) and, once, trailers may follow
pub nothing_more : {n : ℕ} {may : Bool} {m q : Message} {is : List Item} → Full n may m → Takes m is q → Little may is
unfolding stepped
nothing_more f Takes.nothing = Little.nothing
nothing_more f (item (heading stated) {is} e t) = absurd (full_heads stated f _ e)
nothing_more {m = m} f (item {p = p} (data· len) e t) = let k = full_data f (carry_view len m) p e in empty_data k.1 k.0 (nothing_more k.2 t)
nothing_more f (item {p = p} trailing e t) = let k = full_trails f p e in the_trailers k.0 (nothing_more k.1 t)
