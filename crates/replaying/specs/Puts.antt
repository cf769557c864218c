-- A text of at most so many bytes, put into a room. Assumes nothing.
use Rattle.std.specs.Prelude.{Option, Some, Bool, true, false, eqb, ℕ, zero, suc, ◌+◌, ◌/◌, ◌%◌, ◌≤◌, ◌<◌, ◌^◌, ◌≡◌, refl, List, [], ◌∷◌, ◌++◌, length, take, drop, get_or, set}
use Rattle.std.proofs.Common.{sym, ap, ◌∙◌, append_assoc, append-nil, add-one, arith, length-append, take-suc, take_all, length-take-le}
use borrow.Author.Tests.{ne_eqb}
use Rattle.std.proofs.lemmas.Bool.{eqb-true, eqb-false}
use Rattle.std.proofs.lemmas.List.Edits.{sets-eq}
use Rattle.std.proofs.Math.Seq.{take-append_seam}
use Rattle.rules.specs.Text.{ascii}
use Rattle.listing.specs.Text.{decimal}
use Rattle.listing.specs.declared.room.Text.{Text}
use Rattle.listing.specs.Put.{Put, then_put, short}
use Rattle.script.specs.Words.{hex_digit, hexes, hex_word}
use Rattle.script.specs.Laws.{some_bytes}
use Rattle.record.specs.declared.Record.{Record}
use Rattle.replaying.specs.Lines.{pick, maybe, maybe_text, flagged, due_text, record_text, rows_text}

pub record Puts (room : List ℕ) (to : ℕ) (text : List ℕ) (most : ℕ) (after : List ℕ) (r : ℕ) : Type 0 where
  pub put : Put room to text after r
  pub few : length text ≤ most

abbrev pub Adds : (before : Text) (text : List ℕ) (most : ℕ) (after : Text) → Type 0
Adds before text most after = Puts before.room before.length text most after.room after.length

-- the place behind a text
pub behind : {room text after : List ℕ} {to most r : ℕ} → Puts room to text most after r → r ≤ to + most
behind p = let n = p.put.next in let f = p.few in omega arith

pub puts_word : {room w after : List ℕ} {to r : ℕ} → Put room to w after r → Puts room to w (length w) after r
puts_word p = record { put = p; few = omega arith }

pub more : {room w after : List ℕ} {to m n r : ℕ} → Puts room to w m after r → m ≤ n → Puts room to w n after r
more p h = let f = p.few in record { put = p.put; few = omega arith }

pub puts_decimal : {room after : List ℕ} {to r : ℕ} (n : ℕ) → n < 2 ^ 64 → Put room to (decimal n) after r → Puts room to (decimal n) 20 after r
puts_decimal n h p = record { put = p; few = short n h }

-- one text behind another
pub then_puts : {room x y u v : List ℕ} {to m n q r : ℕ} → Puts room to u m x q → Puts x q v n y r → Puts room to (u ++ v) (m + n) y r
then_puts {u = u} {v} a b =
    let l = length-append u v in
    let f = a.few in
    let g = b.few in
    record { put = then_put a.put b.put; few = omega arith }

pub puts_as : {room u v after : List ℕ} {to m r : ℕ} → v ≡ u → Puts room to u m after r → Puts room to v m after r
puts_as e p = rw e p

-- nothing put
pub puts_none : (room : List ℕ) (to : ℕ) → to ≤ 2048 → Puts room to [] 0 room to
puts_none room to h = record { put = record { is = refl; next = omega arith; within = h }; few = omega arith }

-- ---- bytes, two digits each

pub hexes_append : (xs ys : List ℕ) → hexes (xs ++ ys) ≡ hexes xs ++ hexes ys
unfolding hexes
hexes_append [] ys = refl
hexes_append (x ∷ xs) ys = ap (λ zs. hex_digit (x / 16) ∷ hex_digit (x % 16) ∷ zs) (hexes_append xs ys)

pub next_hex : {room x y : List ℕ} {to m q r : ℕ} (bytes : List ℕ) (i : ℕ) → i < length bytes → Puts room to (hexes (take i bytes)) m x q → Puts x q (hexes (get_or bytes i 0 ∷ [])) 2 y r
    → Puts room to (hexes (take (i + 1) bytes)) (m + 2) y r
next_hex bytes i h a b = puts_as (rw (add-one i, take-suc bytes i 0 h) (hexes_append (take i bytes) (get_or bytes i 0 ∷ []))) (then_puts a b)

-- ---- the row's records

rows_append : (k : ℕ) (xs : List Record) (r : Record) → rows_text k (xs ++ (r ∷ [])) ≡ rows_text k xs ++ record_text (k + length xs) r
unfolding rows_text
rows_append k [] r = let e : k + 0 ≡ k = omega arith in rw e (append-nil _)
rows_append k (x ∷ xs) r =
    let e : k + suc (length xs) ≡ suc k + length xs = omega arith in
    rw e (ap (λ t. record_text k x ++ t) (rows_append (suc k) xs r) ∙ sym (append_assoc (record_text k x) (rows_text (suc k) xs) (record_text (suc k + length xs) r)))

pub next_record : {room x y : List ℕ} {to m q r : ℕ} (rows : List Record) (d : Record) (i : ℕ) → i < length rows → Puts room to (rows_text 0 (take i rows)) m x q → Puts x q (record_text i (get_or rows i d)) 51 y r
    → Puts room to (rows_text 0 (take (i + 1) rows)) (m + 51) y r
next_record rows d i h a b =
    let l = length-take-le i rows (omega arith) in
    let e = rows_append 0 (take i rows) (get_or rows i d) in
    let f : 0 + length (take i rows) ≡ i = omega arith in
    puts_as (rw (add-one i, take-suc rows i d h) (e ∙ rw f refl)) (then_puts a b)

-- a flag beside a value, as an Option
pub maybe_is : (there n : ℕ) {o : Option ℕ} → o ≡ flagged there n → maybe there n ≡ maybe_text o
unfolding maybe flagged maybe_text pick
maybe_is zero n e = rw e refl
maybe_is (suc there) n e = rw e (simp (ne_eqb (suc there) 0 (λ z. omega arith)))

pub flag_set : (there n : ℕ) → (there ≡ 0 → ⊥) → Some n ≡ flagged there n
unfolding flagged
flag_set zero n w = absurd (w refl)
flag_set (suc there) n w = refl

pub puts_hexes : {room after : List ℕ} {to m r h l : ℕ} (b : ℕ) → h ≡ hex_digit (b / 16) → l ≡ hex_digit (b % 16) → Puts room to (h ∷ l ∷ []) m after r → Puts room to (hexes (b ∷ [])) m after r
unfolding hexes
puts_hexes b e f p = rw (← e, ← f) p

-- a byte in two digits
pub two_digits : (room : List ℕ) (to b : ℕ) {h l : ℕ} → to + 2 ≤ 2048 → h ≡ hex_digit (b / 16) → l ≡ hex_digit (b % 16) → Puts room to (hexes (b ∷ [])) 2 (set (set room to h) (to + 1) l) (to + 2)
two_digits room to b w e f =
    let n : to + 1 ≡ suc to = omega arith in
    puts_hexes b e f (record { put = record { is = rw n refl; next = omega arith; within = w }; few = omega arith })

-- what was put from the room's start on
pub put_first : {room w after : List ℕ} {m r : ℕ} → Puts room 0 w m after r → r ≤ length room → take r after ≡ w
put_first {room} {w} p h =
    let n = p.put.next in
    let z : 0 + length w ≡ length w = omega arith in
    rw (n, p.put.is, sets-eq w room 0 (omega arith), z) (take-append_seam w (drop (length w) room))

-- a section is due
pub due_is : (r : Record) → r.kind ≡ 1 → 6 ≤ r.mode → r.mode < 8 → due_text r ≡ 43 ∷ []
unfolding due_text pick ascii
due_is r k a b = go (eqb r.mode 6) refl
  where
    go : (x : Bool) → eqb r.mode 6 ≡ x → due_text r ≡ 43 ∷ []
    go true e = rw (k, eqb-true r.mode 6 e) refl
    go false e = let w = eqb-false r.mode 6 e in let m : r.mode ≡ 7 = omega arith in rw (k, m) refl

pub due_none : (r : Record) → (r.kind ≡ 1 → r.mode ≡ 6 → ⊥) → (r.kind ≡ 1 → r.mode ≡ 7 → ⊥) → due_text r ≡ []
unfolding due_text pick
due_none r v w = go (eqb r.kind 1) refl
  where
    go : (x : Bool) → eqb r.kind 1 ≡ x → due_text r ≡ []
    go true e = let k = eqb-true r.kind 1 e in rw k (simp (ne_eqb r.mode 6 (v k), ne_eqb r.mode 7 (w k)))
    go false e = simp e

pub puts_dash : {room x : List ℕ} {to m r : ℕ} (bytes : List ℕ) → length bytes ≡ 0 → Puts room to (45 ∷ []) m x r → Puts room to (hex_word bytes) m x r
unfolding hex_word
puts_dash [] h p = p
puts_dash (b ∷ bs) h p = absurd (omega arith)

pub puts_bytes : {room x : List ℕ} {to m r : ℕ} (bytes : List ℕ) (i : ℕ) → length bytes ≤ i → (length bytes ≡ 0 → ⊥) → Puts room to (hexes (take i bytes)) m x r → Puts room to (hex_word bytes) m x r
puts_bytes bytes i h w p = puts_as (sym (some_bytes bytes (hexes (take i bytes)) (omega arith) (ap hexes (take_all i bytes h)))) p
