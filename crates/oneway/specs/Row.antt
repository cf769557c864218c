-- What a one-way feed leaves fits a record of a host's row. Assumes nothing.
use Rattle.std.specs.Prelude.{◌≡◌, refl}
use Prim.Native.Nat.{ℕ, zero, suc, ◌%◌, ◌≤◌, ◌<◌, ◌^◌}
use Rattle.std.proofs.Common.{arith}
use Rattle.varint.specs.ByByte.{part, Good, small, fresh_good}
use Rattle.frames.specs.Modes.{IN-CONTENT, IN-SETTINGS, OPENING, UNSET, SET}
use Rattle.frames.specs.declared.Cells.{Cells}
use Rattle.frames.specs.Answers.{Sane}
use Rattle.record.specs.Kinds.{UNTYPED, CONTROL, ENCODER, SKIPPED}
use Rattle.record.specs.Sound.{Fit}
use Rattle.oneway.specs.declared.OneWay.{OneWay}
use Rattle.oneway.specs.Stands.{OneSoundAt, OneSound, cells_of, OneShapeAt, OneShape}

part_sane : (acc due : ℕ) → Good (part acc due) → Sane (cells_of acc due OPENING)
part_sane acc due g = record {
  modes = omega arith;
  header = λ l. g;
  small = small g;
  type = omega arith;
  some = λ x y z. absurd (omega arith);
  sums = omega arith;
  stateds = omega arith;
}

module _ (id : ℕ) (i : id < 2 ^ 62) (m : id % 4 ≡ 2) where
  -- of a stream that has no frames, or none yet
  bare_fit : (kind acc due : ℕ) → UNTYPED ≤ kind → kind ≤ SKIPPED → (kind ≡ CONTROL → ⊥) → Good (part acc due) → (ENCODER ≤ kind → due ≡ 0) → Fit kind id (cells_of acc due OPENING)
  bare_fit kind acc due lo hi n g d = record {
    sane = part_sane acc due g;
    shaped = record {
      opened = omega arith;
      known = hi;
      ids = i;
      request_id = λ e. absurd (omega arith);
      one_way_id = λ e. m;
      phases = omega arith;
      request_phase = λ e. omega arith;
      request_mode = λ e. omega arith;
      control_phase = λ e. absurd (n e);
      control_mode = λ e l. absurd (n e);
      bare_phase = λ e f. refl;
      bare_mode = λ e f. refl;
      bare = d;
    };
  }

  control_fit : (c : Cells) → Sane c → UNSET ≤ c.phase → c.phase ≤ SET → (IN-CONTENT ≤ c.mode → IN-SETTINGS ≤ c.mode) → Fit CONTROL id c
  control_fit c s lo hi mode = record {
    sane = s;
    shaped = record {
      opened = omega arith;
      known = omega arith;
      ids = i;
      request_id = λ e. absurd (omega arith);
      one_way_id = λ e. m;
      phases = hi;
      request_phase = λ e. absurd (omega arith);
      request_mode = λ e. absurd (omega arith);
      control_phase = λ e. lo;
      control_mode = λ e. mode;
      bare_phase = λ e f. absurd (f refl);
      bare_mode = λ e f. absurd (f refl);
      bare = λ e. absurd (omega arith);
    };
  }

  fit_at : (kind : ℕ) (c : Cells) → OneSoundAt kind c → OneShapeAt kind c → Fit kind id c
  unfolding OneSoundAt OneShapeAt
  fit_at zero c s h = absurd h
  fit_at (suc zero) c s h = absurd h
  fit_at (suc (suc zero)) c s h = rw h (bare_fit UNTYPED c.acc c.due (omega arith) (omega arith) (λ e. omega arith) s (λ e. absurd (omega arith)))
  fit_at (suc (suc (suc zero))) c s h = control_fit c s.0 s.1 h.0 h.1
  fit_at (suc (suc (suc (suc n)))) c s h =
      let u = h.1 in
      let e = h.0 in
      rw e (bare_fit (suc (suc (suc (suc n)))) 0 0 (omega arith) (omega arith) (λ x. omega arith) fresh_good (λ x. refl))

  -- WHAT A ONE-WAY FEED LEAVES FITS A RECORD (`record::write` then keeps it)
  pub one_fit : (w : OneWay) → OneSound w → OneShape w → Fit w.kind id w.cells
  one_fit w s h = fit_at w.kind w.cells s h
