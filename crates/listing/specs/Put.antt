-- A text put into a room piece by piece. Assumes nothing.
use Rattle.std.specs.Prelude.{ℕ, zero, suc, ◌+◌, ◌/◌, ◌%◌, ◌^◌, ◌≤◌, ◌<◌, ◌≡◌, refl, List, [], ◌∷◌, ◌++◌, Bool, true, false, ltb, length, take, get_or, set}
use Rattle.std.proofs.Common.{ap, ◌∙◌, pow-suc, add-one, arith, ltb→lt, nltb→le, length-append, take-suc, take_all, length-take-le, lt-ltb, le-ltb}
use Rattle.std.proofs.lemmas.List.Edits.{sets}
use Rattle.std.proofs.Math.Seq.{length-sets}
use Rattle.rules.specs.Text.{ascii}
use Rattle.rules.specs.Reading.{Use}
use Rattle.listing.specs.Listing.{frame, whole, refused}
use Rattle.listing.specs.Text.{digits, decimal, spaced, word, line_feed, text_of}
use Rattle.listing.specs.Lines.{use_of, entry_of}
use Rattle.listing.specs.declared.Line.{Line}
use Rattle.listing.specs.declared.Usage.{Usage}
use Rattle.listing.specs.declared.Usage.TheVariants.{Skipped, Content, HeaderSection, Trailers}

-- a text put into a room from a place on: what the room then holds, and the place behind it
pub record Put (room : List ℕ) (to : ℕ) (text : List ℕ) (after : List ℕ) (r : ℕ) : Type 0 where
  pub is : after ≡ sets room to text
  pub next : r ≡ to + length text
  pub within : r ≤ 2048

sets_append : (l : List ℕ) (i : ℕ) (u v : List ℕ) → sets (sets l i u) (i + length u) v ≡ sets l i (u ++ v)
sets_append l i [] v = let e : i + 0 ≡ i = omega arith in rw e refl
sets_append l i (a ∷ u) v = let e : i + suc (length u) ≡ suc i + length u = omega arith in rw e (sets_append (set l i a) (suc i) u v)

pub same_room : {room text after : List ℕ} {to r : ℕ} → Put room to text after r → length after ≡ length room
same_room {room} {text} {to = to} p = ap length p.is ∙ length-sets room to text

-- one text behind another
pub then_put : {room x y u v : List ℕ} {to q r : ℕ} → Put room to u x q → Put x q v y r → Put room to (u ++ v) y r
then_put {room} {x} {y} {u} {v} {to} {q} {r} a b =
    let e = a.is in
    let f = a.next in
    let l = length-append u v in
    let n = b.next in
    record { is = b.is ∙ rw (e, f) (sets_append room to u v); next = omega arith; within = b.within }

-- ---- a loop of stores

pub start_put : (room : List ℕ) (to : ℕ) (w : List ℕ) → room ≡ sets room to (take 0 w)
start_put room to w = refl

pub step_put : (room : List ℕ) (to i : ℕ) (w x : List ℕ) → i < length w → x ≡ sets room to (take i w) → set x (to + i) (get_or w i 0) ≡ sets room to (take (i + 1) w)
step_put room to i w x h e =
    let l = length-take-le i w (omega arith) in
    let s = sets_append room to (take i w) (get_or w i 0 ∷ []) in
    rw (add-one i, take-suc w i 0 h, e) (rw l at s)

-- ---- decimals

more_fuel : (k j n : ℕ) → n < k → n < j → digits k n ≡ digits j n
unfolding digits
more_fuel zero j n h g = absurd (omega arith)
more_fuel (suc k) zero n h g = absurd (omega arith)
more_fuel (suc k) (suc j) n h g = go (more_fuel k j (n / 10)) (ltb n 10) refl
  where
    go : (n / 10 < k → n / 10 < j → digits k (n / 10) ≡ digits j (n / 10)) → (x : Bool) → ltb n 10 ≡ x
        → ◌≡◌ {A = List ℕ} (elim x [ true ↦ (48 + n) ∷ [] | false ↦ digits k (n / 10) ++ ((48 + n % 10) ∷ []) ])
        (elim x [ true ↦ (48 + n) ∷ [] | false ↦ digits j (n / 10) ++ ((48 + n % 10) ∷ []) ])
    go ih true e = refl
    go ih false e = let l = nltb→le n 10 (rw e tt) in ap (λ y. y ++ ((48 + n % 10) ∷ [])) (ih (omega arith) (omega arith))

pub one_digit : (n : ℕ) → n < 10 → decimal n ≡ (48 + n) ∷ []
unfolding decimal digits
one_digit n h = let e = lt-ltb n 10 h in rw (e, digits)

pub last_digit : (n : ℕ) → 10 ≤ n → decimal n ≡ decimal (n / 10) ++ ((48 + n % 10) ∷ [])
unfolding decimal digits
last_digit n h =
    let e = le-ltb n 10 h in
    rw (e, digits) (ap (λ y. y ++ ((48 + n % 10) ∷ [])) (more_fuel n (suc (n / 10)) (n / 10) (omega arith) (omega arith)))

few : (k n : ℕ) → n < 10 ^ suc k → length (decimal n) ≤ suc k
few zero n h = rw (one_digit n (omega arith)) (omega arith)
few (suc k) n h = go (few k (n / 10)) (ltb n 10) refl
  where
    go : (n / 10 < 10 ^ suc k → length (decimal (n / 10)) ≤ suc k) → (x : Bool) → ltb n 10 ≡ x → length (decimal n) ≤ suc (suc k)
    go ih true e = rw (one_digit n (ltb→lt n 10 (rw e tt))) (omega arith)
    go ih false e =
        let p = pow-suc 10 (suc k) in
        let i = ih (omega arith) in
        let l = length-append (decimal (n / 10)) ((48 + n % 10) ∷ []) in
        rw (last_digit n (nltb→le n 10 (rw e tt))) (omega arith)

-- a number of 64 bits has 20 digits at most
pub short : (n : ℕ) → n < 2 ^ 64 → length (decimal n) ≤ 20
short n h = few 19 n (omega arith)

-- ---- one law for each way out

pub end_put : (room : List ℕ) (to i : ℕ) (w x : List ℕ) → i ≤ length w → length w ≤ i → to + length w ≤ 2048 → x ≡ sets room to (take i w) → Put room to w x (to + i)
end_put room to i w x h g b e =
    let n : i ≡ length w = omega arith in
    record { is = e ∙ ap (sets room to) (take_all i w g); next = omega arith; within = omega arith }

pub digits_one : (n : ℕ) → n < 10 → length (decimal n) ≡ 1
digits_one n h = rw (one_digit n h) refl

pub digits_more : (n : ℕ) → 10 ≤ n → length (decimal n) ≡ length (decimal (n / 10)) + 1
digits_more n h = rw (last_digit n h) (length-append (decimal (n / 10)) ((48 + n % 10) ∷ []))

pub put_one : (n : ℕ) {room x : List ℕ} {to r : ℕ} → n < 10 → Put room to ((48 + n) ∷ []) x r → Put room to (decimal n) x r
put_one n h p = rw (one_digit n h) p

pub put_more : (n : ℕ) {room x y : List ℕ} {to q r : ℕ} → 10 ≤ n → Put room to (decimal (n / 10)) x q → Put x q ((48 + n % 10) ∷ []) y r → Put room to (decimal n) y r
put_more n h a b = rw (last_digit n h) (then_put a b)

-- how long the parts of a line are at most
pub spaced_short : (n : ℕ) → n < 2 ^ 64 → length (spaced n) ≤ 21
unfolding spaced ascii
spaced_short n h = let s = short n h in let l = length-append (decimal n) (ascii " ") in omega arith

pub word_short : (u : Usage) → length (word (use_of u)) ≤ 14
unfolding word use_of ascii
word_short Skipped = omega arith
word_short Content = omega arith
word_short HeaderSection = omega arith
word_short Trailers = omega arith

-- ---- one law for each kind of line

pub put_spaced : {room x y : List ℕ} {to q r : ℕ} (n : ℕ) → Put room to (decimal n) x q → Put x q (ascii " ") y r → Put room to (spaced n) y r
unfolding spaced
put_spaced n a b = then_put a b

pub put_frame : {room v w x y z : List ℕ} {to a b c d r : ℕ} (at type len : ℕ) (u : Use) → Put room to (spaced at) v a → Put v a (spaced type) w b → Put w b (spaced len) x c
    → Put x c (word u) y d → Put y d line_feed z r → Put room to (text_of (frame at type len u)) z r
unfolding text_of
put_frame at type len u p q s t e = then_put (then_put (then_put (then_put p q) s) t) e

pub put_whole : {room x y z : List ℕ} {to a b r : ℕ} (total : ℕ) → Put room to (ascii "end ") x a → Put x a (spaced total) y b → Put y b (ascii "whole" ++ line_feed) z r
    → Put room to (text_of (whole total)) z r
unfolding text_of
put_whole total p q e = then_put (then_put p q) e

pub put_refused : {room w x y z : List ℕ} {to a b c r : ℕ} (bytes code : ℕ) → Put room to (ascii "refused ") w a → Put w a (spaced bytes) x b → Put x b (decimal code) y c → Put y c line_feed z r
    → Put room to (text_of (refused bytes code)) z r
unfolding text_of
put_refused bytes code p q s e = then_put (then_put (then_put p q) s) e

pub put_entry : {room cleared x : List ℕ} {to r : ℕ} {l m : Line} → (cleared ≡ room) × (to ≡ 0) → l ≡ m → Put cleared to (text_of (entry_of m)) x r → Put room 0 (text_of (entry_of l)) x r
put_entry c e p = rw (e, ← c.0, ← c.1) p

pub put_word : {room x : List ℕ} {to r : ℕ} {u v : Usage} → u ≡ v → Put room to (word (use_of v)) x r → Put room to (word (use_of u)) x r
put_word e p = rw e p
