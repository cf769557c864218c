-- The one walk by places: what it holds at a place is what the rules say of the lines before it. Assumes nothing.
use Prim.Native.Nat.{ℕ, suc, ◌+◌, ◌-◌, ◌≤◌, ◌<◌, ◌^◌}
use Rattle.std.specs.Prelude.{◌≡◌, refl, List, [], ◌∷◌, ◌++◌, true, false, Ok, Err, Some, None}
use Rattle.std.proofs.Math.Path.{sym, ap}
use Rattle.std.proofs.Common.{◌∙◌, append-nil, append_assoc, arith}
use Rattle.std.proofs.Math.ListN.{length}
use Rattle.rules.specs.Block.{Line, Section, Lines, unreadable, readable, lines}
use Rattle.fields.specs.declared.Line as code
use Rattle.fields.specs.Walk.{no_record, part, record_at, line_of, section_from, held, is_readable, told_from}
use Rattle.fields.specs.Decimal.{capped_le}
use Rattle.fields.specs.Lines.{held_is, placed, walk_end, walk_flaw, walk_line, is_told, told_next, readable_is}
use Rattle.section.specs.declared.Fault.TheVariants as fault
use Rattle.section.specs.declared.Facts.{Facts}
use Rattle.section.specs.Finding.{length_part, value_from}
use Rattle.section.specs.Facts.{no_facts, span, none_yet, line_step, step_is, facts_of, walked}
use Rattle.section.specs.Places.{line_from, line_to}

pub record Walking (block : List ℕ) (at : ℕ) (f : Facts) : Type 0 where
  pub number : ℕ
  pub told : is_readable (lines block) ≡ is_told (told_from block number at)
  pub done : Section
  pub all : held block ≡ done ++ section_from block number at
  pub facts : f ≡ facts_of done
  pub small : f.size ≤ 2 ^ 62
  pub within : at ≤ length block

pub starts : (block : List ℕ) (f : Facts) → f ≡ no_facts → Walking block 0 f
starts block f e = record {
  number = 0;
  told = readable_is block;
  done = [];
  all = refl;
  facts = e ∙ none_yet;
  small = let z : f.size ≡ 0 = ap (λ (g : Facts). g.size) e in omega arith;
  within = omega arith;
}

module _ (block : List ℕ) (at : ℕ) (f : Facts) (w : Walking block at f) where
  -- where no line comes any more
  last : section_from block w.number at ≡ [] → f ≡ facts_of (held block)
  last none = w.facts ∙ ap facts_of (sym (w.all ∙ ap (λ (s : Section). w.done ++ s) none ∙ append-nil w.done))

  pub ended : record_at block at ≡ Ok None → Ok f ≡ walked (lines block)
  unfolding walked
  ended e =
      let reads : is_readable (lines block) ≡ true = w.told ∙ ap is_told (walk_end _ _ _ block w.number at e) in
      ap Ok (last (walk_end _ _ _ block w.number at e)) ∙ sym (ap walked (held_is block reads))

  pub flawed : record_at block at ≡ no_record → Err fault.Unreadable ≡ walked (lines block)
  unfolding walked
  flawed e = go (lines block) (w.told ∙ ap is_told (walk_flaw _ _ _ block w.number at e))
    where
      go : (x : Lines) → is_readable x ≡ false → Err fault.Unreadable ≡ walked x
      go (unreadable g) n = refl
      go (readable s) n = let z : ◌≡◌ {A = ℕ} 0 1 = cc in absurd (omega arith)

  module _ (r : code.Line) (e : record_at block at ≡ Ok (Some r)) where
    -- the size so far, with the line's, has room
    pub fits : length block < 2 ^ 63 → f.size + (length (part r.name r.value block) + length (part r.value r.next block) + 32) < 2 ^ 64
    fits room =
        let p = placed block at r e in
        let n : length (part r.name r.value block) ≡ r.value - r.name = length_part block r.name r.value (omega arith) in
        let v : length (part r.value r.next block) ≡ r.next - r.value = length_part block r.value r.next (omega arith) in
        let s = w.small in
        omega arith

    abbrev here : Line
    here = line_of block w.number at r.name r.value r.next

    goes_facts : line_step f (part r.name r.value block) (part r.value r.next block) (span r.value r.next) ≡ facts_of (w.done ++ (here ∷ []))
    goes_facts =
        ap (λ (g : Facts). line_step g (part r.name r.value block) (part r.value r.next block) (span r.value r.next)) w.facts
        ∙ ap (λ (x : ℕ). line_step (facts_of w.done) (part r.name r.value block) (part r.value r.next block) (span x r.next)) (sym (line_from block w.number at r e))
        ∙ ap (λ (x : ℕ). line_step (facts_of w.done) (part r.name r.value block) (part r.value r.next block) (span (value_from here) x)) (sym (line_to block w.number at r e))
        ∙ step_is w.done here

    pub goes : (g : Facts) → g ≡ line_step f (part r.name r.value block) (part r.value r.next block) (span r.value r.next) → Walking block r.next g
    unfolding line_step
    goes g q = record {
      number = suc w.number;
      told = w.told ∙ told_next block w.number at r e;
      done = w.done ++ (here ∷ []);
      all =
          w.all ∙ ap (λ (s : Section). w.done ++ s) (walk_line _ _ _ block w.number at r e)
          ∙ sym (append_assoc w.done (here ∷ []) (section_from block (suc w.number) r.next));
      facts = q ∙ goes_facts;
      small = let z = ap (λ (h : Facts). h.size) q in omega (arith, z, capped_le (f.size + (length (part r.name r.value block) + length (part r.value r.next block) + 32)));
      within = (placed block at r e).within;
    }
