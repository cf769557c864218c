-- Laws of the tests: a law for each way out. Assumes nothing.
use Rattle.std.specs.Prelude.{◌≡◌, refl, ℕ, zero, suc, ◌-◌, ◌*◌, ◌/◌, ◌%◌, ◌≤◌, ◌<◌, ◌^◌, Bool, true, false, ltb, Some}
use Rattle.std.proofs.Common.{ap, ◌∙◌, arith}
use borrow.Author.Tests.{ltb-true, ltb-false}
use Rattle.varint.specs.ByByte.{part, Good}
use Rattle.frames.specs.Modes.{IN-TYPE, IN-SKIPPED, HEADER-SECTION-DUE, TRAILERS-DUE, IN-CANCEL-PUSH, OPENING, TRAILED}
use Rattle.frames.specs.declared.Cells.{Cells}
use Rattle.frames.specs.Answers.{Sane}
use Rattle.record.specs.Kinds.{REQUEST, UNTYPED, CONTROL, ENCODER, SKIPPED}
use Rattle.record.specs.declared.Record.{Record}
use Rattle.record.specs.Row.{record_at}
use Rattle.record.specs.Sound.{Decides, CellsIf, is_so, is_not, Shaped, cells_in}

module _ {A : Type 0} where
  pub accepts : A → Decides A true
  accepts a = record { yes = λ e. a; no = λ e b. (let z : ◌≡◌ {A = ℕ} 0 1 = cc in omega arith) }

  pub refuses : (A → ⊥) → Decides A false
  refuses n = record { yes = λ e. (let z : ◌≡◌ {A = ℕ} 0 1 = cc in absurd (omega arith)); no = λ e b. n b }

-- where one holds exactly if the other does
pub as_well : {A B : Type 0} {r : Bool} → (A → B) → (B → A) → Decides A r → Decides B r
as_well f g d = record { yes = λ e. f (d.yes e); no = λ e b. d.no e (g b) }

-- the cells that are there are the record's own
pub some_cells : {holds : Type 0} {r : Record} (c : Cells) → CellsIf holds r (Some c) → holds × (c ≡ cells_in r)
some_cells c (is_so h e) = (h, cc)
some_cells c (is_not n e) = cc

-- ---- equal records

abbrev row_with : Record → (owner room : ℕ) → Record
row_with r o m = record { id = r.id; acc = r.acc; ftype = r.ftype; stated = r.stated; sum = r.sum; kind = r.kind; mode = r.mode; due = r.due; phase = r.phase; has = r.has; owner = o; room = m }

module _ (r : Record) where
  pub row_own : r.owner ≡ 0 → r.room ≡ 0 → r ≡ record_at r.kind r.id (cells_in r)
  row_own o m = ap (λ x. row_with r x r.room) o ∙ ap (λ y. row_with r 0 y) m

-- ---- part of an integer

-- the shift that the code makes
shifted : (due : ℕ) → due ≤ 7 → 2 ^ 62 / 2 ^ (8 * due) ≡ 64 * 256 ^ (7 - due)
shifted zero h = refl
shifted (suc zero) h = refl
shifted (suc (suc zero)) h = refl
shifted (suc (suc (suc zero))) h = refl
shifted (suc (suc (suc (suc zero)))) h = refl
shifted (suc (suc (suc (suc (suc zero))))) h = refl
shifted (suc (suc (suc (suc (suc (suc zero)))))) h = refl
shifted (suc (suc (suc (suc (suc (suc (suc zero))))))) h = refl
shifted (suc (suc (suc (suc (suc (suc (suc (suc k)))))))) h = absurd (omega arith)

pub part_within : (acc due : ℕ) → due ≤ 7 → Decides (Good (part acc due)) (ltb acc (2 ^ 62 / 2 ^ (8 * due)))
part_within acc due h = rw (shifted due h) (record {
  yes = λ e. record { few = h; small = ltb-true _ _ e };
  no = λ e g. (let l : 64 * 256 ^ (7 - due) ≤ acc = ltb-false _ _ e in let k = g.small in omega arith);
})

-- ---- the kinds

module _ (id : ℕ) (c : Cells) (i : id < 2 ^ 62) where
  pub request_shape : id % 4 ≡ 0 → c.phase ≤ TRAILED → c.mode ≤ TRAILERS-DUE → Shaped REQUEST id c
  request_shape a b m = record {
    opened = omega arith;
    known = omega arith;
    ids = i;
    request_id = λ e. a;
    one_way_id = λ e. omega arith;
    phases = omega arith;
    request_phase = λ e. b;
    request_mode = λ e. m;
    control_phase = λ e. omega arith;
    control_mode = λ e f. omega arith;
    bare_phase = λ e f. omega arith;
    bare_mode = λ e f. omega arith;
    bare = λ e. omega arith;
  }

  pub bare_shape : (kind : ℕ) → UNTYPED ≤ kind → kind ≤ SKIPPED → (kind ≡ CONTROL → ⊥) → id % 4 ≡ 2 → c.phase ≡ OPENING → c.mode ≡ IN-TYPE → (ENCODER ≤ kind → c.due ≡ 0) → Shaped kind id c
  bare_shape kind l h n a b m d = record {
    opened = omega arith;
    known = h;
    ids = i;
    request_id = λ e. omega arith;
    one_way_id = λ e. a;
    phases = omega arith;
    request_phase = λ e. omega arith;
    request_mode = λ e. omega arith;
    control_phase = λ e. absurd (n e);
    control_mode = λ e f. absurd (n e);
    bare_phase = λ e f. b;
    bare_mode = λ e f. m;
    bare = d;
  }

-- ---- numbers that the code can go on with

module _ (c : Cells) (modes : c.mode ≤ IN-CANCEL-PUSH) (small : c.acc < 2 ^ 62) (type : c.ftype < 2 ^ 62) (sums : c.sum ≤ 2 ^ 62) (stateds : c.stated ≤ 2 ^ 62) where
  pub sane_with : (c.mode < IN-SKIPPED → Good (part c.acc c.due)) → (IN-SKIPPED ≤ c.mode → (c.mode ≡ HEADER-SECTION-DUE → ⊥) → (c.mode ≡ TRAILERS-DUE → ⊥) → 0 < c.acc) → Sane c
  sane_with g s = record { modes = modes; header = g; small = small; type = type; some = s; sums = sums; stateds = stateds }
