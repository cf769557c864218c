-- The lines of a block are where they say; so what was collected of a name has its value. Assumes nothing.
use Prim.Native.Nat.{ℕ, zero, suc, ◌-◌, ◌≤◌}
use Rattle.std.specs.Prelude.{◌≡◌, Bool, true, false, cond, Option as Maybe, Ok, Err, Some, None}
use Rattle.std.proofs.Math.Path.{refl, sym}
use Rattle.std.proofs.Common.{ap, ◌∙◌, subst}
use mathlib.Core.List.{List, [], ◌∷◌}
use Rattle.std.proofs.Math.Option.{Option, none, some}
use native.Mathlib.Omega.{arith}
use Rattle.std.proofs.Math.ListN.{length}
use Rattle.rules.specs.Block.{Line, Section}
use Rattle.rules.specs.Section.{named, value_of, method_of, holds}
use Rattle.fields.specs.declared.Line as code
use Rattle.fields.specs.Walk.{Record, part, record_at, line_of, by_record, walk, walk_from, held}
use Rattle.fields.specs.Lines.{placed}
use Rattle.section.specs.declared.Span.{Span}
use Rattle.section.specs.Finding.{first, value_from, value_to, from_of, to_of, length_part}
use Rattle.section.specs.Facts.{from_in, to_in, place_by, span_of, place_in, value_in, value_first}

pub record Sits (block : List ℕ) (l : Line) : Type 0 where
  pub bytes : part (value_from l) (value_to l) block ≡ l.value
  pub within : value_to l ≤ length block

module _ (block : List ℕ) where
  unfoldable pub AllSit : Section → Type 0
  AllSit [] = Unit {0}
  AllSit (l ∷ s) = Sits block l × AllSit s

  pub line_from : (number at : ℕ) (r : code.Line) → record_at block at ≡ Ok (Some r) → value_from (line_of block number at r.name r.value r.next) ≡ r.value
  line_from number at r e =
      let p = placed block at r e in
      let n : length (part r.name r.value block) ≡ r.value - r.name = length_part block r.name r.value (omega arith) in
      omega arith

  pub line_to : (number at : ℕ) (r : code.Line) → record_at block at ≡ Ok (Some r) → value_to (line_of block number at r.name r.value r.next) ≡ r.next
  line_to number at r e =
      let p = placed block at r e in
      let n : length (part r.name r.value block) ≡ r.value - r.name = length_part block r.name r.value (omega arith) in
      let v : length (part r.value r.next block) ≡ r.next - r.value = length_part block r.value r.next (omega arith) in
      omega arith

  sits : (number at : ℕ) (r : code.Line) → record_at block at ≡ Ok (Some r) → Sits block (line_of block number at r.name r.value r.next)
  sits number at r e =
      let p = placed block at r e in
      let t : value_to (line_of block number at r.name r.value r.next) ≡ r.next = line_to number at r e in
      record {
        bytes = ap (λ (x : ℕ). part x (value_to (line_of block number at r.name r.value r.next)) block) (line_from number at r e) ∙ ap (λ (x : ℕ). part r.value x block) t;
        within = omega arith;
      }

  sit : (fuel number at : ℕ) → AllSit (walk [] [] ◌∷◌ fuel number at block)
  unfolding walk AllSit
  sit zero number at = tt
  sit (suc fuel) number at = go (record_at block at) refl (λ next. sit fuel (suc number) next)
    where
      go : (r : Record) → record_at block at ≡ r → ((next : ℕ) → AllSit (walk [] [] ◌∷◌ fuel (suc number) next block))
          → AllSit (by_record [] [] (λ name value next. line_of block number at name value next ∷ walk [] [] ◌∷◌ fuel (suc number) next block) r)
      go (Ok None) e ih = tt
      go (Err u) e ih = tt
      go (Ok (Some l)) e ih = (sits number at l e, ih l.next)

  pub all_sit : AllSit (held block)
  unfolding walk_from
  all_sit = sit (length block) 0 0

pub first_sits : (test : Line → Bool) (block : List ℕ) (s : Section) (l : Line) → AllSit block s → first test s ≡ some l → Sits block l
unfolding first AllSit
first_sits test block [] l a e = let z : ◌≡◌ {A = ℕ} 0 1 = cc in absurd (omega arith)
first_sits test block (m ∷ s) l a e = go (test m) e (first_sits test block s l a.1)
  where
    go : (t : Bool) → cond t (some m) (first test s) ≡ some l → (first test s ≡ some l → Sits block l) → Sits block l
    go true f ih = let g : m ≡ l = cc in subst (Sits block) g a.0
    go false f ih = ih f

-- where a value is lies in the block; and its bytes, none where there is no value
abbrev pub within : (block : List ℕ) → Maybe Span → Type 0
within block None = Unit {0}
within block (Some p) = (p.from ≤ p.to) × (p.to ≤ length block)

abbrev pub bytes_in : (block : List ℕ) → Maybe Span → List ℕ
bytes_in block None = []
bytes_in block (Some p) = part p.from p.to block

module _ (name block : List ℕ) where
  pub bytes_are : part (from_in (held block) name) (to_in (held block) name) block ≡ method_of (value_of name (held block))
  unfolding from_of to_of
  bytes_are = go (first (named name) (held block)) refl ∙ sym (value_first name (held block))
    where
      go : (o : Option Line) → first (named name) (held block) ≡ o → part (from_of o) (to_of o) block ≡ value_in o
      go none e = refl
      go (some l) e = (first_sits (named name) block (held block) l (all_sit block) e).bytes

  pub in_block : within block (place_in (held block) name)
  in_block = go (first (named name) (held block)) refl
    where
      go : (o : Option Line) → first (named name) (held block) ≡ o → within block (place_by span_of o)
      go none e = tt
      go (some l) e = (omega arith, (first_sits (named name) block (held block) l (all_sit block) e).within)

  pub bytes_at : bytes_in block (place_in (held block) name) ≡ method_of (value_of name (held block))
  bytes_at = go (first (named name) (held block)) refl ∙ sym (value_first name (held block))
    where
      go : (o : Option Line) → first (named name) (held block) ≡ o → bytes_in block (place_by span_of o) ≡ value_in o
      go none e = refl
      go (some l) e = (first_sits (named name) block (held block) l (all_sit block) e).bytes

-- what a test says of a value that may be missing, where it says no of nothing
pub holds_by : (test : List ℕ → Bool) (o : Option (List ℕ)) → test [] ≡ false → test (method_of o) ≡ holds test o
unfolding holds method_of
holds_by test none e = e
holds_by test (some v) e = refl
