-- A request's record behind its header section, in content or between two frames: a few numbers say that it is sound, and content alters three of them. Assumes nothing.
use Rattle.std.specs.Prelude.{◌≡◌, refl, ℕ, zero, suc, ◌%◌, ◌≤◌, ◌<◌, ◌^◌, true, false}
use Rattle.std.proofs.Common.{sym, ap, ◌∙◌, subst, arith, lit≤, lit<}
use Rattle.varint.specs.ByByte.{part, Good}
use Rattle.frames.specs.Modes.{IN-TYPE, IN-CONTENT, TRAILERS-DUE, BODY}
use Rattle.frames.specs.declared.Cells.{Cells}
use Rattle.frames.specs.Answers.{Sane, Content, goes_on, is_over}
use Rattle.record.specs.Kinds.{REQUEST}
use Rattle.record.specs.declared.Record.{Record}
use Rattle.record.specs.Row.{record_at}
use Rattle.record.specs.Sound.{cells_in, tidied, Sound, stream, Written}
use Rattle.record.specs.Same.{written_own}
use Rattle.record.specs.Tests.{row_own, request_shape}
use Rattle.record.specs.Tidy.{head_as, head_tidied, place_as, place_tidied, tidy_type, tidy_payload, tidy_unstated, tidy_stated, tidy_both, value_none}

-- a test that says no
pub said_no : {A : Type 0} → false ≡ true → A
said_no e = let z : ◌≡◌ {A = ℕ} 0 1 = cc in absurd (omega arith)

-- what both have in common
pub record Body (r : Record) : Type 0 where
  pub kind : r.kind ≡ REQUEST
  pub phase : r.phase ≡ BODY
  pub due : r.due ≡ 0
  pub owner : r.owner ≡ 0
  pub room : r.room ≡ 0
  pub type : r.ftype ≡ 0
  pub ids : r.id % 4 ≡ 0
  pub id : r.id < 2 ^ 62
  pub sums : r.sum ≤ 2 ^ 62
  pub stateds : r.stated ≤ 2 ^ 62
  pub has : r.has ≤ 1
  pub none : r.has ≡ 0 → r.stated ≡ 0

module _ (r : Record) (b : Body r) where
  abbrev c : Cells
  c = cells_in r

  place_own : c ≡ place_tidied c
  place_own = by r.has refl
    where
      by : (h : ℕ) → r.has ≡ h → c ≡ place_tidied c
      by zero e = let p = b.phase in tidy_unstated c (omega arith) (omega arith) e (ap (λ x. place_as c x c.stated c.sum) e ∙ ap (λ x. place_as c 0 x c.sum) (b.none e))
      by (suc zero) e = let p = b.phase in tidy_stated c (omega arith) (omega arith) (λ z. omega arith) (ap (λ x. place_as c x c.stated c.sum) e)
      by (suc (suc k)) e = let h = b.has in absurd (omega arith)

  head_own : (acc : ℕ) → c.acc ≡ acc → c ≡ head_as c acc 0 0
  head_own acc e = ap (λ x. head_as c x c.due c.ftype) e ∙ ap (λ x. head_as c acc x c.ftype) b.due ∙ ap (λ x. head_as c acc 0 x) b.type

  sound : Sane c → c.mode ≤ TRAILERS-DUE → c ≡ head_tidied c → Sound r
  sound s m e =
      let p = b.phase in
      let k = b.kind in
      let t : c ≡ tidied c = tidy_both c s (omega arith) e place_own in
      record {
        fit = record { sane = s; shaped = rw k (request_shape r.id c b.id b.ids (omega arith) m) };
        own = row_own r b.owner b.room ∙ ap (record_at r.kind r.id) t;
      }

  -- IN CONTENT
  pub content_sound : r.mode ≡ IN-CONTENT → (r.acc ≡ 0 → ⊥) → r.acc < 2 ^ 62 → Sound r
  content_sound m a l =
      let y = b.type in
      let s : Sane c = record { modes = omega arith; header = λ h. absurd (omega arith); small = l; type = omega arith; some = λ g h i. omega arith; sums = b.sums; stateds = b.stateds } in
      sound s (omega arith) (tidy_payload c s (omega arith) (λ e. omega arith) (λ e. omega arith) (head_own c.acc refl))

  -- BETWEEN TWO FRAMES
  pub between_sound : r.mode ≡ IN-TYPE → r.acc ≡ 0 → Sound r
  between_sound m a =
      let y = b.type in
      let d = b.due in
      let g : Good (part r.acc r.due) = rw (a, d) (record { few = lit≤ tt; small = lit< tt }) in
      let s : Sane c = record { modes = omega arith; header = λ h. g; small = omega arith; type = omega arith; some = λ g h i. absurd (omega arith); sums = b.sums; stateds = b.stateds } in
      sound s (omega arith) (tidy_type c m (value_none c.due c.acc d) (head_own 0 a ∙ ap (λ x. head_as c 0 x 0) (sym d)))

-- WHAT CONTENT ALTERS of a record: the bytes to come, the mode and the sum
abbrev pub content_in : Record → Cells → Record
content_in r c = record {
  id = r.id;
  acc = c.acc;
  ftype = r.ftype;
  stated = r.stated;
  sum = c.sum;
  kind = r.kind;
  mode = c.mode;
  due = r.due;
  phase = r.phase;
  has = r.has;
  owner = r.owner;
  room = r.room;
}

module _ (r : Record) (b : Body r) where
  body_again : {d : Cells} → Sane d → Body (content_in r d)
  body_again s = record { kind = b.kind; phase = b.phase; due = b.due; owner = b.owner; room = b.room; type = b.type; ids = b.ids; id = b.id; sums = s.sums; stateds = b.stateds; has = b.has; none = b.none }

  sound_again : {d : Cells} → Sane d → Content (cells_in r) d → (cells_in (content_in r d) ≡ d) × Sound (content_in r d)
  sound_again {d} s (goes_on acc sum) =
      let q = content_in r d in
      let z : 0 < acc = s.some (omega arith) (λ e. omega arith) (λ e. omega arith) in
      (head_own q (body_again s) acc refl, content_sound q (body_again s) refl (λ e. omega arith) s.small)
  sound_again {d} s (is_over sum) = let q = content_in r d in (head_own q (body_again s) 0 refl, between_sound q (body_again s) refl refl)

  -- SO ALTERED IT IS the one record of the state behind the content
  pub content_written : {d : Cells} → Sane d → Content (cells_in r) d → Written (stream REQUEST r.id d) (content_in r d)
  content_written {d} s h =
      let q = content_in r d in
      let w : Written (stream r.kind r.id (cells_in q)) q = written_own q (sound_again s h).1 in
      subst (λ x. Written (stream REQUEST r.id x) q) (sound_again s h).0 (subst (λ k. Written (stream k r.id (cells_in q)) q) b.kind w)
