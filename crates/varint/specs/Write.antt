-- A write into lent room (rules, Writer): the answer, and what it leaves. Assumes nothing.
use Rattle.std.specs.Prelude.{ℕ, ◌+◌, ◌<◌, ◌≤◌, ◌≡◌, List, ◌++◌, Some, None, Result, Ok, Err}
use Rattle.std.proofs.Math.Path.{refl, ap}
use Rattle.std.proofs.Common.{sym, ◌∙◌}
use Rattle.std.proofs.Math.Option.{Option, none, some}
use native.Mathlib.Omega.{arith}
use Rattle.std.proofs.Math.ListN.{length, drop}
use Rattle.std.proofs.Math.Seq.{sets}
use Rattle.std.proofs.lemmas.List.Edits.{sets-eq}
use borrow.Author.Tests.{lt-ltb, le-ltb}
use Rattle.rules.specs.Integers.{written}
use Rattle.rules.specs.Numbers as rules
use Rattle.rules.specs.Numbers.{ROOM-SHORT, BAD-VALUE, house_number, named, number_of, named_in, rows, refusal}
use Rattle.rules.specs.Named.{house_of}
use Rattle.rules.specs.declared.codes.House.{House}
use Rattle.rules.specs.declared.codes.House.TheVariants.{NotOpen, NotNext, NoRecord, SectionDue, NoSection, Unreadable, RoomShort, BadValue, OtherRow}
use Rattle.rules.specs.Writer.{Write, refused, wrote, into, write_integer}
use Rattle.varint.specs.Shortest.{bytes_of, sized, sized_none, sized_some, size_some}

-- what a write answers: how many bytes it stored, or a number
abbrev pub Wrote : Type 0
Wrote = Result ℕ ℕ

unfoldable pub wrote_of : Write → Wrote
wrote_of (refused number) = Err number
wrote_of (wrote bytes) = Ok (length bytes)

-- an answer of the code, its refusal by its number
abbrev pub answer_of : Result ℕ House → Wrote
answer_of (Ok count) = Ok count
answer_of (Err h) = Err (house_number (house_of h))

-- a refusal leaves the room as it was, and the bytes beyond the written ones stay
unfoldable pub left_in : Write → List ℕ → List ℕ
left_in (refused number) l = l
left_in (wrote bytes) l = bytes ++ drop (length bytes) l

-- the answer r and the room that is left are those of the write w
pub record Meets (w : Write) (before : List ℕ) (r : Result ℕ House) (after : List ℕ) : Type 0 where
  pub answers : answer_of r ≡ wrote_of w
  pub leaves : after ≡ left_in w before

-- one answer, one room
house_back : rules.House → House
house_back rules.not_open = NotOpen
house_back rules.not_next = NotNext
house_back rules.no_record = NoRecord
house_back rules.section_due = SectionDue
house_back rules.no_section = NoSection
house_back rules.unreadable = Unreadable
house_back rules.room_short = RoomShort
house_back rules.bad_value = BadValue
house_back rules.other_row = OtherRow

house_same : (h : House) → house_back (house_of h) ≡ h
unfolding house_back
house_same NotOpen = refl
house_same NotNext = refl
house_same NoRecord = refl
house_same SectionDue = refl
house_same NoSection = refl
house_same Unreadable = refl
house_same RoomShort = refl
house_same BadValue = refl
house_same OtherRow = refl

house_named : (h : rules.House) → named (house_number h) ≡ refusal h
unfolding named named_in rows number_of
house_named rules.not_open = refl
house_named rules.not_next = refl
house_named rules.no_record = refl
house_named rules.section_due = refl
house_named rules.no_section = refl
house_named rules.unreadable = refl
house_named rules.room_short = refl
house_named rules.bad_value = refl
house_named rules.other_row = refl

house_one : (h k : House) → house_number (house_of h) ≡ house_number (house_of k) → h ≡ k
house_one h k e =
    let f : refusal (house_of h) ≡ refusal (house_of k) = sym (house_named (house_of h)) ∙ ap named e ∙ house_named (house_of k) in
    let g : house_of h ≡ house_of k = cc in
    sym (house_same h) ∙ ap house_back g ∙ house_same k

answer_one : (r q : Result ℕ House) → answer_of r ≡ answer_of q → r ≡ q
answer_one (Ok m) (Ok n) e = cc
answer_one (Ok m) (Err k) e = let z : ◌≡◌ {A = ℕ} 0 1 = cc in absurd (omega arith)
answer_one (Err h) (Ok n) e = let z : ◌≡◌ {A = ℕ} 0 1 = cc in absurd (omega arith)
answer_one (Err h) (Err k) e = ap Err (house_one h k (cc))

pub meets_one : {w : Write} {l a b : List ℕ} {r q : Result ℕ House} → Meets w l r a → Meets w l q b → (r ≡ q) × (a ≡ b)
meets_one {r = r} {q = q} m n = (answer_one r q (m.answers ∙ sym n.answers), m.leaves ∙ sym n.leaves)

-- ---- the three ways of a write

module _ (l : List ℕ) (o : Option (List ℕ)) where
  pub meets_above : o ≡ none → Meets (into (length l) o) l (Err BadValue) l
  unfolding into wrote_of left_in
  meets_above e = rw e (record { answers = refl; leaves = refl })

  module _ (bytes : List ℕ) (e : o ≡ some bytes) where
    pub meets_short : length l < length bytes → Meets (into (length l) o) l (Err RoomShort) l
    unfolding into wrote_of left_in
    meets_short h = let t = lt-ltb (length l) (length bytes) h in rw (e, into, t) (record { answers = refl; leaves = refl })

    pub meets_bytes : (n : ℕ) (after : List ℕ) → length bytes ≤ length l → n ≡ length bytes → after ≡ sets l 0 bytes → Meets (into (length l) o) l (Ok n) after
    unfolding into wrote_of left_in
    meets_bytes n after h f g =
        let t = le-ltb (length l) (length bytes) h in
        let z : 0 + length bytes ≡ length bytes = omega arith in
        let s : sets l 0 bytes ≡ bytes ++ drop (length bytes) l = rw z at (sets-eq bytes l 0 (omega arith)) in
        rw (e, into, t) (record { answers = ap Ok f; leaves = g ∙ s })

-- ---- one integer

module _ (l : List ℕ) (v : ℕ) where
  pub write_above : None ≡ sized v → Meets (write_integer (length l) v) l (Err BadValue) l
  unfolding write_integer
  write_above e = meets_above l (written v) (sized_none v e)

  pub write_short : {n : ℕ} → Some n ≡ sized v → length l < n → Meets (write_integer (length l) v) l (Err RoomShort) l
  unfolding write_integer
  write_short e h = let s = sized_some v e in meets_short l (written v) (bytes_of (written v)) (size_some v (omega arith)) (omega arith)

  pub write_done : (n : ℕ) (after : List ℕ) → Some n ≡ sized v → n ≤ length l → after ≡ sets l 0 (bytes_of (written v))
      → Meets (write_integer (length l) v) l (Ok n) after
  unfolding write_integer
  write_done n after e h f = let s = sized_some v e in meets_bytes l (written v) (bytes_of (written v)) (size_some v (omega arith)) n after (omega arith) s.0 f
