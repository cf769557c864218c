-- Laws of reading and writing a record: a law for each way out. Assumes nothing.
use Rattle.std.specs.Prelude.{◌≡◌, ℕ, ◌<◌}
use Rattle.std.proofs.Common.{sym, ap, ◌∙◌, arith}
use Rattle.frames.specs.declared.Cells.{Cells}
use Rattle.record.specs.declared.Record.{Record}
use Rattle.record.specs.declared.Stream.{Stream}
use Rattle.record.specs.Row.{record_at}
use Rattle.record.specs.Sound.{Fit, tidied, Written, is_record}
use Rattle.record.specs.Tidy.{one_state, tidy_less}

-- the numbers of an open stream are bytes where its record has bytes
pub row_small : {kind id : ℕ} {c t : Cells} → Fit kind id c → t ≡ tidied c → (kind < 256) × (t.mode < 256) × (t.due < 256) × (t.phase < 256) × (t.has < 256)
row_small f e = let l = tidy_less _ f.sane f.shaped.phases e in (omega (arith, f.shaped.known), omega (arith, l.mode_same, f.sane.modes), omega (arith, l.due_few), omega (arith, l.phase_same, f.shaped.phases), omega (arith, l.has_few))

module _ (s : Stream) {r : Record} where
  pub write_open : {t : Cells} → Fit s.kind s.id s.cells → t ≡ tidied s.cells → r ≡ record_at s.kind s.id t → Written s r
  write_open f e q = is_record f (λ p k st. q ∙ ap (record_at s.kind s.id) (e ∙ sym (one_state s.cells p k st)))
