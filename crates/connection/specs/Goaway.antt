-- Our GOAWAY sent (document 01, "Calls and the host's memory"): the answer, the room, and what it bars. Assumes nothing.
use Rattle.std.specs.Prelude.{◌≡◌, List, length, Some, None, Result, Ok, Err, Option as Maybe, IfErr}
use Rattle.std.proofs.Math.Path.{refl, ap}
use Rattle.std.proofs.Common.{sym, ◌∙◌, arith}
use Prim.Native.Nat.{ℕ, zero, suc}
use Rattle.std.proofs.Math.Option.{Option, none, some}
use Rattle.rules.specs.Writer.{Write, refused, wrote, write_goaway}
use Rattle.rules.specs.Numbers.{house_number, House as HouseOf, not_open, not_next, no_record, section_due, no_section, unreadable, room_short, bad_value, other_row}
use Rattle.rules.specs.Named.{house_of}
use Rattle.rules.specs.declared.codes.House.{House}
use Rattle.varint.specs.Write.{wrote_of, left_in, Meets}
use Rattle.wire.specs.declared.ids.StreamId.{StreamId}
use Rattle.wire.specs.Goaway.{sent_of}
use Rattle.connection.specs.declared.doors.Doors.{Doors}

-- the one sent before
unfoldable pub sent_as : (goaways id : ℕ) → Option ℕ
sent_as zero id = none
sent_as (suc n) id = some id

abbrev pub sent_in : Doors → Option ℕ
sent_in d = sent_as d.goaways d.goaway.0

abbrev pub gone_away : Doors → StreamId → Doors
gone_away d id = record { code = d.code; requests = d.requests; oneways = d.oneways; goaways = 1; goaway = id }

-- the answer, 0 and how many bytes are written or a refusal's number, and the doors that are left
pub record Goaway : Type 0 where
  pub number : ℕ
  pub count : ℕ
  pub doors : Doors

abbrev pub sending : (number count : ℕ) → Doors → Goaway
sending n k d = record { number = n; count = k; doors = d }

-- what the writer's answer comes to: a refusal alters nothing
unfoldable pub sending_of : Doors → StreamId → Write → Goaway
sending_of d id (refused number) = sending number 0 d
sending_of d id (wrote bytes) = sending 0 (length bytes) (gone_away d id)

-- a dead connection writes nothing
unfoldable pub write_of : (code : ℕ) → Doors → (id room : ℕ) → Write
write_of zero d id room = write_goaway (sent_in d) room id
write_of (suc c) d id room = refused (suc c)

-- THE ANSWER, and THE ROOM that is left
pub record Sends (d : Doors) (id : StreamId) (before : List ℕ) (r : Goaway) (after : List ℕ) : Type 0 where
  pub answers : r ≡ sending_of d id (write_of d.code d id.0 (length before))
  pub leaves : after ≡ left_in (write_of d.code d id.0 (length before)) before

-- the same as the code answers it: a count and the doors after, or a refusal's number, which leaves the doors as they were
abbrev pub sent_so : Doors → Result (ℕ × Doors) ℕ → Goaway
sent_so d (Ok (count, next)) = sending 0 count next
sent_so d (Err number) = sending number 0 d

pub record SendsAs (d : Doors) (id : StreamId) (before : List ℕ) (r : Result (ℕ × Doors) ℕ) (after : List ℕ) : Type 0 where
  pub sends : Sends d id before (sent_so d r) after
  pub refused : IfErr r (λ n. n ≡ 0 → ⊥)

-- one answer, one room
pub sends_one : {d : Doors} {id : StreamId} {l a b : List ℕ} {r q : Goaway} → Sends d id l r a → Sends d id l q b → (r ≡ q) × (a ≡ b)
sends_one m n = (m.answers ∙ sym n.answers, m.leaves ∙ sym n.leaves)

one_so : (d : Doors) (r q : Result (ℕ × Doors) ℕ) → IfErr r (λ n. n ≡ 0 → ⊥) → IfErr q (λ n. n ≡ 0 → ⊥) → sent_so d r ≡ sent_so d q → r ≡ q
one_so d (Ok (k, x)) (Ok (j, y)) a b e = ap (λ (g : Goaway). Ok (g.count, g.doors)) e
one_so d (Err n) (Err m) a b e = ap (λ (g : Goaway). Err g.number) e
one_so d (Ok (k, x)) (Err m) a b e = absurd (b (sym (ap (λ (g : Goaway). g.number) e)))
one_so d (Err n) (Ok (j, y)) a b e = absurd (a (ap (λ (g : Goaway). g.number) e))

pub sends_as_one : {d : Doors} {id : StreamId} {l a b : List ℕ} {r q : Result (ℕ × Doors) ℕ} → SendsAs d id l r a → SendsAs d id l q b → (r ≡ q) × (a ≡ b)
sends_as_one {d} {r = r} {q = q} m n = let e = sends_one m.sends n.sends in (one_so d r q m.refused n.refused e.0, e.1)

-- ---- laws: a law for each way out

pub sent_none : (d : Doors) → d.goaways ≡ 0 → sent_of None ≡ sent_in d
unfolding sent_of sent_as
sent_none d e = rw e refl

pub sent_up : (d : Doors) → (d.goaways ≡ 0 → ⊥) → sent_of (Some d.goaway) ≡ sent_in d
unfolding sent_of
sent_up d n = by d.goaways n
  where
    by : (k : ℕ) → (k ≡ 0 → ⊥) → some d.goaway.0 ≡ sent_as k d.goaway.0
    by zero z = absurd (z refl)
    by (suc k) z = unfold sent_as in refl

refused_as : (d : Doors) (id : StreamId) (w : Write) {n : ℕ} → Err n ≡ wrote_of w → sending n 0 d ≡ sending_of d id w
unfolding wrote_of sending_of
refused_as d id (refused m) {n} e = let q : n ≡ m = cc in ap (λ x. sending x 0 d) q
refused_as d id (wrote bytes) e = let z : ◌≡◌ {A = ℕ} 0 1 = cc in absurd (omega arith)

counted_as : (d : Doors) (id : StreamId) (w : Write) {n : ℕ} {next : Doors} → Ok n ≡ wrote_of w → next ≡ gone_away d id → sending 0 n next ≡ sending_of d id w
unfolding wrote_of sending_of
counted_as d id (refused m) e g = let z : ◌≡◌ {A = ℕ} 0 1 = cc in absurd (omega arith)
counted_as d id (wrote bytes) {n} e g = let q : n ≡ length bytes = cc in ap (sending 0 n) g ∙ ap (λ x. sending 0 x (gone_away d id)) q

house_some : (h : HouseOf) → house_number h ≡ 0 → ⊥
house_some not_open e = omega arith
house_some not_next e = omega arith
house_some no_record e = omega arith
house_some section_due e = omega arith
house_some no_section e = omega arith
house_some unreadable e = omega arith
house_some room_short e = omega arith
house_some bad_value e = omega arith
house_some other_row e = omega arith

module _ (d : Doors) (id : StreamId) (l : List ℕ) where
  -- on a live connection it is the writer's
  module _ (alive : d.code ≡ 0) (s : Maybe StreamId) (was : sent_of s ≡ sent_in d) {r : Result ℕ House} {after : List ℕ} (m : Meets (write_goaway (sent_of s) (length l) id.0) l r after) where
    live : write_goaway (sent_of s) (length l) id.0 ≡ write_of d.code d id.0 (length l)
    unfolding write_of
    live = ap (λ x. write_goaway x (length l) id.0) was ∙ ap (λ c. write_of c d id.0 (length l)) (sym alive)

    room : after ≡ left_in (write_of d.code d id.0 (length l)) l
    room = m.leaves ∙ ap (λ w. left_in w l) live

    pub send_refused : {h : House} {n : ℕ} → r ≡ Err h → n ≡ house_number (house_of h) → SendsAs d id l (Err n) after
    send_refused {h} e q = rw q (record {
      sends = record { answers = refused_as d id _ (rw e at m.answers) ∙ ap (sending_of d id) live; leaves = room };
      refused = house_some (house_of h);
    })

    pub send_written : {n : ℕ} → r ≡ Ok n → SendsAs d id l (Ok (n, gone_away d id)) after
    send_written e = record { sends = record { answers = counted_as d id _ (rw e at m.answers) refl ∙ ap (sending_of d id) live; leaves = room }; refused = tt }

  pub send_dead : (d.code ≡ 0 → ⊥) → SendsAs d id l (Err d.code) l
  unfolding sending_of left_in
  send_dead n = let q = dead d.code n in record { sends = record { answers = ap (sending_of d id) q; leaves = ap (λ w. left_in w l) q }; refused = n }
    where
      dead : (c : ℕ) → (c ≡ 0 → ⊥) → refused c ≡ write_of c d id.0 (length l)
      dead zero z = absurd (z refl)
      dead (suc c) z = unfold write_of in refl
