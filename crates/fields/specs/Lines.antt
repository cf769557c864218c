-- How the lines of a block go by one record: the rules' walk of the bytes, and the code's walk by places. Assumes nothing.
use Prim.Native.Nat.{ℕ, zero, suc, ◌+◌, ◌-◌, ◌≤◌, ◌<◌}
use Rattle.std.proofs.Math.Path.{◌≡◌, refl, sym, ap}
use Rattle.std.proofs.Common.{◌∙◌, length-drop, drop_of_length-le, drop-cons, add-suc}
use mathlib.Core.List.{List, [], ◌∷◌}
use Rattle.std.specs.Prelude.{Bool, cond, not, leb, eqb, get_or}
use Rattle.std.proofs.Math.Bool.{true, false}
use Rattle.std.proofs.Math.Option.{Option, none, some}
use native.Mathlib.Omega.{arith}
use Rattle.std.proofs.Math.Dec.{ltb}
use Rattle.std.proofs.Math.ListN.{length, take, drop}
use Rattle.std.proofs.Math.Seq.{take-take, drop-drop, take-nil, length-take-le}
use Rattle.std.proofs.Math.Nat.{sub-zero, zero-sub, suc-sub-suc}
use borrow.Author.Tests.{leb-true, leb-false, ltb-true, ltb-false, le-leb}
use Rattle.rules.specs.Block.{Line, Section, Lines, unreadable, readable, little, short_length, cut_record, other_kind, long_name, flawed, line, fields, record_of, before, lines_from, lines}
use Rattle.rules.specs.Block as block
use Rattle.std.specs.Prelude.{Ok, Err, Some, None}
use Rattle.fields.specs.declared.Line as code
use Rattle.fields.specs.Laws.{from_here}
use Rattle.fields.specs.Walk.{Record, no_record, a_line, is_readable, number_at, record_from, record_at, line_of, by_record, walk, walk_from, held, onto, told_from}

-- ---- a record that is a line lies within the block

pub record Placed (block : List ℕ) (at name value next : ℕ) : Type 0 where
  pub behind : name ≡ at + 6
  pub named : name ≤ value
  pub valued : value ≤ next
  pub within : next ≤ length block

cond_no : (t : Bool) (x y z : Record) → cond t x y ≡ z → (x ≡ z → ⊥) → (t ≡ false) × (y ≡ z)
cond_no true x y z e n = absurd (n e)
cond_no false x y z e n = (refl, e)

no_end : {l : code.Line} → ◌≡◌ {A = Record} (Ok None) (Ok (Some l)) → ⊥
no_end p = let z : ◌≡◌ {A = ℕ} 0 1 = cc in omega arith

no_flaw : {l : code.Line} → ◌≡◌ {A = Record} no_record (Ok (Some l)) → ⊥
no_flaw p = let z : ◌≡◌ {A = ℕ} 0 1 = cc in omega arith

pub placed : (block : List ℕ) (at : ℕ) (l : code.Line) → record_at block at ≡ Ok (Some l) → Placed block at l.name l.value l.next
unfolding record_at record_from
placed block at l e =
    let c1 = cond_no (leb (length block) at) _ _ _ e no_end in
    let c2 = cond_no (ltb (length block - at) 6) _ _ _ c1.1 no_flaw in
    let c3 = cond_no (ltb (number_at block at) 4) _ _ _ c2.1 no_flaw in
    let c4 = cond_no (ltb (length block - at - 2) (number_at block at)) _ _ _ c3.1 no_flaw in
    let c5 = cond_no (not (eqb (number_at block (at + 2)) 1)) _ _ _ c4.1 no_flaw in
    let c6 = cond_no (ltb (number_at block at - 4) (number_at block (at + 4))) _ _ _ c5.1 no_flaw in
    let some : Some (record { name = at + 6; value = at + 6 + number_at block (at + 4); next = at + 2 + number_at block at }) ≡ Some l = cc in
    let line : record { name = at + 6; value = at + 6 + number_at block (at + 4); next = at + 2 + number_at block at } ≡ l = cc in
    let n : at + 6 ≡ l.name = ap (λ (k : code.Line). k.name) line in
    let v : at + 6 + number_at block (at + 4) ≡ l.value = ap (λ (k : code.Line). k.value) line in
    let x : at + 2 + number_at block at ≡ l.next = ap (λ (k : code.Line). k.next) line in
    let h2 : 6 ≤ length block - at = ltb-false _ _ c2.0 in
    let h3 : 4 ≤ number_at block at = ltb-false _ _ c3.0 in
    let h4 : number_at block at ≤ length block - at - 2 = ltb-false _ _ c4.0 in
    let h6 : number_at block (at + 4) ≤ number_at block at - 4 = ltb-false _ _ c6.0 in
    record { behind = sym n; named = omega arith; valued = omega arith; within = omega arith }

pub past_end : (block : List ℕ) (at : ℕ) → length block ≤ at → record_at block at ≡ Ok None
unfolding record_at
past_end block at h = simp (le-leb (length block) at h)

-- ---- the rules' walk, by one record

-- the lines that a walk reports; none of an unreadable block
abbrev pub told : Lines → Option Section
told (unreadable f) = none
told (readable s) = some s

told_before : (l : Line) (x : Lines) → told (before l x) ≡ onto l (told x)
unfolding before
told_before l (unreadable f) = refl
told_before l (readable s) = refl

drop_take : (n m : ℕ) (xs : List ℕ) → drop n (take m xs) ≡ take (m - n) (drop n xs)
drop_take zero m xs = rw sub-zero
drop_take (suc n) zero xs = rw zero-sub
drop_take (suc n) (suc m) [] = sym (take-nil (suc m - suc n))
drop_take (suc n) (suc m) (x ∷ xs) = rw suc-sub-suc (drop_take n m xs)

module _ (fuel number at : ℕ) where
  -- what a record's lines are, with the bytes behind its first six: as the code has them
  made : List ℕ → Record → Option Section
  made more (Ok None) = some []
  made more (Err u) = none
  made more (Ok (Some l)) =
      onto (record { number = number; at = at; name = take (l.value - l.name) more; value = take (l.next - l.value) (drop (l.value - l.name) more) })
      (told (lines_from fuel (suc number) l.next (drop (l.next - l.name) more)))

  -- the rules' tests, in their order
  by_record_lem : (len : ℕ) → List ℕ → block.Record → Lines
  by_record_lem len rest r = elim r [
    | flawed f ↦ unreadable f
    | line name value ↦
        before (record { number = number; at = at; name = name; value = value }) (lines_from fuel (suc number) (at + 2 + len) (drop len rest))
  ]

  by_tests : (short cut : Bool) → Lines → Lines
  by_tests short cut x = elim short [ true ↦ unreadable short_length | false ↦ elim cut [ true ↦ unreadable cut_record | false ↦ x ] ]

  two : (a b : ℕ) (rest : List ℕ) → lines_from (suc fuel) number at (a ∷ b ∷ rest)
      ≡ by_tests (ltb (little a b) 4) (ltb (length rest) (little a b)) (by_record_lem (little a b) rest (record_of (take (little a b) rest)))
  unfolding lines_from by_tests by_record_lem
  two a b rest = refl

  by_kind : (right : Bool) → block.Record → block.Record
  by_kind right r = elim right [ true ↦ r | false ↦ flawed other_kind ]

  by_name : (long : Bool) (n : ℕ) → List ℕ → block.Record
  by_name long n bytes = elim long [ true ↦ flawed long_name | false ↦ line (take n bytes) (drop n bytes) ]

  four : (m k k' n n' : ℕ) (more : List ℕ) → record_of (take (suc (suc (suc (suc m)))) (k ∷ k' ∷ n ∷ n' ∷ more))
      ≡ by_kind (eqb (little k k') 1) (by_name (ltb (length (take m more)) (little n n')) (little n n') (take m more))
  unfolding record_of fields by_kind by_name
  four m k k' n n' more = refl

  -- fewer than six bytes
  short : (bytes : List ℕ) → 0 < length bytes → length bytes < 6 → told (lines_from (suc fuel) number at bytes) ≡ none
  unfolding lines_from by_tests
  short [] h k = absurd (omega arith)
  short (a ∷ []) h k = refl
  short (a ∷ b ∷ rest) h k = ap told (two a b rest) ∙ go (ltb (little a b) 4) (ltb (length rest) (little a b)) refl refl
    where
      go : (t u : Bool) → ltb (little a b) 4 ≡ t → ltb (length rest) (little a b) ≡ u
          → told (by_tests t u (by_record_lem (little a b) rest (record_of (take (little a b) rest)))) ≡ none
      go true u e f = refl
      go false true e f = refl
      go false false e f = absurd (omega (arith, ltb-false (little a b) 4 e, ltb-false (length rest) (little a b) f))

  -- six bytes or more
  module _ (a b k k' n n' : ℕ) (more : List ℕ) where
    rest : List ℕ
    rest = k ∷ k' ∷ n ∷ n' ∷ more

    record_is : (v w : Bool) → 4 ≤ little a b → little a b ≤ 4 + length more → eqb (little k k') 1 ≡ v → ltb (little a b - 4) (little n n') ≡ w
        → record_of (take (little a b) rest) ≡ by_kind v (by_name w (little n n') (take (little a b - 4) more))
    unfolding rest
    record_is v w h h' e f =
        let m : ℕ = little a b - 4 in
        let four-more : little a b ≡ suc (suc (suc (suc m))) = omega arith in
        let long : length (take m more) ≡ m = length-take-le m more (omega arith) in
        ap (λ (l : ℕ). record_of (take l (k ∷ k' ∷ n ∷ n' ∷ more))) four-more ∙ four m k k' n n' more
        ∙ ap (λ (t : Bool). by_kind t (by_name (ltb (length (take m more)) (little n n')) (little n n') (take m more))) e
        ∙ ap (λ (t : Bool). by_kind v (by_name t (little n n') (take m more))) (ap (λ (l : ℕ). ltb l (little n n')) long ∙ f)

    -- a line's parts, as the rules take them and as the code has them
    line_is : (len named : ℕ) → 4 ≤ len → named ≤ len - 4
        → told (by_record_lem len rest (line (take named (take (len - 4) more)) (drop named (take (len - 4) more))))
        ≡ made more (a_line (at + 6) (at + 6 + named) (at + 2 + len))
    unfolding rest by_record_lem made
    line_is len named h h' =
        let m : ℕ = len - 4 in
        let i : named ≡ at + 6 + named - (at + 6) = omega arith in
        let j : m - named ≡ at + 2 + len - (at + 6 + named) = omega arith in
        let l : m ≡ at + 2 + len - (at + 6) = omega arith in
        let four-more : len ≡ suc (suc (suc (suc m))) = omega arith in
        let name : take named (take m more) ≡ take (at + 6 + named - (at + 6)) more =
        take-take named m more h' ∙ ap (λ (x : ℕ). take x more) i in
        let value : drop named (take m more) ≡ take (at + 2 + len - (at + 6 + named)) (drop (at + 6 + named - (at + 6)) more) =
        drop_take named m more ∙ ap (λ (x : ℕ). take x (drop named more)) j
        ∙ ap (λ (x : ℕ). take (at + 2 + len - (at + 6 + named)) (drop x more)) i in
        let behind : drop len (k ∷ k' ∷ n ∷ n' ∷ more) ≡ drop (at + 2 + len - (at + 6)) more =
        ap (λ (x : ℕ). drop x (k ∷ k' ∷ n ∷ n' ∷ more)) four-more ∙ ap (λ (x : ℕ). drop x more) l in
        told_before _ _ ∙ rw (name, value, behind)

    six : (t u v w : Bool) → ltb (little a b) 4 ≡ t → ltb (length rest) (little a b) ≡ u → eqb (little k k') 1 ≡ v → ltb (little a b - 4) (little n n') ≡ w
        → told (by_tests t u (by_record_lem (little a b) rest (record_of (take (little a b) rest))))
        ≡ made more (cond t no_record (cond u no_record (cond (not v) no_record (cond w no_record
        (a_line (at + 6) (at + 6 + little n n') (at + 2 + little a b))))))
    unfolding rest by_tests by_record_lem by_kind by_name made
    six true u v w e f g h = refl
    six false true v w e f g h = refl
    six false false v w e f g h =
        ap (λ (r : block.Record). told (by_record_lem (little a b) rest r))
        (record_is v w (ltb-false (little a b) 4 e) (omega (arith, ltb-false (length rest) (little a b) f)) g h) ∙ go v w h
      where
        len : ℕ
        len = little a b

        named : ℕ
        named = little n n'

        go : (v w : Bool) → ltb (len - 4) named ≡ w → told (by_record_lem len rest (by_kind v (by_name w named (take (len - 4) more))))
            ≡ made more (cond (not v) no_record (cond w no_record (a_line (at + 6) (at + 6 + named) (at + 2 + len))))
        go false w e = refl
        go true true e = refl
        go true false f = line_is len named (ltb-false len 4 e) (ltb-false (len - 4) named f)

    six_more : (t u v w : Bool) → ltb (little a b) 4 ≡ t → ltb (length rest) (little a b) ≡ u → eqb (little k k') 1 ≡ v → ltb (little a b - 4) (little n n') ≡ w
        → told (lines_from (suc fuel) number at (a ∷ b ∷ rest))
        ≡ made more (cond t no_record (cond u no_record (cond (not v) no_record (cond w no_record
        (a_line (at + 6) (at + 6 + little n n') (at + 2 + little a b))))))
    six_more t u v w e f g h =
        let lines : Lines = by_record_lem (little a b) rest (record_of (take (little a b) rest)) in
        ap told (two a b rest) ∙ ap (λ (x : Bool). told (by_tests x (ltb (length rest) (little a b)) lines)) e
        ∙ ap (λ (x : Bool). told (by_tests t x lines)) f ∙ six t u v w e f g h

next_byte : (v : List ℕ) (i k : ℕ) → i + k < length v → drop (i + k) v ≡ get_or v (i + k) 0 ∷ drop (i + suc k) v
next_byte v i k h = rw add-suc (drop-cons v (i + k) 0 h)

-- the first six bytes from a place on
six_bytes : (v : List ℕ) (i : ℕ) → i + 6 ≤ length v → drop i v
    ≡ get_or v i 0 ∷ get_or v (i + 1) 0 ∷ get_or v (i + 2) 0 ∷ get_or v (i + 2 + 1) 0 ∷ get_or v (i + 4) 0 ∷ get_or v (i + 4 + 1) 0 ∷ drop (i + 6) v
six_bytes v i h =
    let e : i + 2 + 1 ≡ i + 3 = omega arith in
    let f : i + 4 + 1 ≡ i + 5 = omega arith in
    rw (e, f)
    (from_here v i (omega arith)
    ∙ simp (next_byte v i 1 (omega arith), next_byte v i 2 (omega arith), next_byte v i 3 (omega arith), next_byte v i 4 (omega arith), next_byte v i 5 (omega arith)))

-- the lines from a place on, by the record there
by_one : (fuel number at : ℕ) (block : List ℕ)
    → told (lines_from (suc fuel) number at (drop at block)) ≡ made fuel number at (drop (at + 6) block) (record_at block at)
unfolding record_at record_from lines_from made rest
by_one fuel number at block = go (leb (length block) at) (ltb (length block - at) 6) refl refl
  where
    byte : ℕ → ℕ
    byte i = get_or block i 0

    go : (t u : Bool) → leb (length block) at ≡ t → ltb (length block - at) 6 ≡ u
        → told (lines_from (suc fuel) number at (drop at block))
        ≡ made fuel number at (drop (at + 6) block) (cond t (Ok None) (cond u no_record
        (record_from at (length block - at) (number_at block at) (number_at block (at + 2)) (number_at block (at + 4)))))
    go true u e f = ap (λ (bytes : List ℕ). told (lines_from (suc fuel) number at bytes)) (drop_of_length-le block (leb-true (length block) at e))
    go false true e f =
        let l : length (drop at block) ≡ length block - at = length-drop at block in
        let h : at < length block = leb-false (length block) at e in
        let k : length block - at < 6 = ltb-true (length block - at) 6 f in
        short fuel number at (drop at block) (omega arith) (omega arith)
    go false false e f =
        let h : 6 ≤ length block - at = ltb-false (length block - at) 6 f in
        let l : length (drop (at + 6) block) ≡ length block - (at + 6) = length-drop (at + 6) block in
        let left : suc (suc (suc (suc (length (drop (at + 6) block))))) ≡ length block - at - 2 = omega arith in
        ap (λ (bytes : List ℕ). told (lines_from (suc fuel) number at bytes)) (six_bytes block at (omega arith))
        ∙ six_more fuel number at (byte at) (byte (at + 1)) (byte (at + 2)) (byte (at + 2 + 1)) (byte (at + 4)) (byte (at + 4 + 1)) (drop (at + 6) block)
        (ltb (number_at block at) 4) (ltb (length block - at - 2) (number_at block at)) (eqb (number_at block (at + 2)) 1)
        (ltb (number_at block at - 4) (number_at block (at + 4)))
        refl (ap (λ (x : ℕ). ltb x (number_at block at)) left) refl refl

-- how the rules' walk of the bytes from a place on goes by the record that the code reads there
module _ (fuel number at : ℕ) (block : List ℕ) where
  pub rules_end : record_at block at ≡ (Ok None) → told (lines_from (suc fuel) number at (drop at block)) ≡ some []
  unfolding made
  rules_end e = by_one fuel number at block ∙ ap (made fuel number at (drop (at + 6) block)) e

  pub rules_flaw : record_at block at ≡ no_record → told (lines_from (suc fuel) number at (drop at block)) ≡ none
  unfolding made
  rules_flaw e = by_one fuel number at block ∙ ap (made fuel number at (drop (at + 6) block)) e

  pub rules_line : (l : code.Line) → record_at block at ≡ Ok (Some l)
      → told (lines_from (suc fuel) number at (drop at block))
      ≡ onto (line_of block number at l.name l.value l.next) (told (lines_from fuel (suc number) l.next (drop l.next block)))
  unfolding made
  rules_line l e =
      let p = placed block at l e in
      let i : at + 6 ≡ l.name = omega arith in
      let j : at + 6 + (l.value - l.name) ≡ l.value = omega arith in
      let k : at + 6 + (l.next - l.name) ≡ l.next = omega arith in
      by_one fuel number at block ∙ ap (made fuel number at (drop (at + 6) block)) e
      ∙ rw (drop-drop (l.value - l.name) (at + 6) block, drop-drop (l.next - l.name) (at + 6) block, j, k, i)

-- the code's walk is the rules'
told_is : (fuel number at : ℕ) (block : List ℕ) → told (lines_from fuel number at (drop at block)) ≡ walk (some []) none onto fuel number at block
unfolding lines_from walk
told_is zero number at block = refl
told_is (suc fuel) number at block = go (record_at block at) refl (λ next. told_is fuel (suc number) next block)
  where
    go : (r : Record) → record_at block at ≡ r
        → ((next : ℕ) → told (lines_from fuel (suc number) next (drop next block)) ≡ walk (some []) none onto fuel (suc number) next block)
        → told (lines_from (suc fuel) number at (drop at block))
        ≡ by_record (some []) none (λ name value next. onto (line_of block number at name value next) (walk (some []) none onto fuel (suc number) next block)) r
    go (Ok None) e ih = rules_end fuel number at block e
    go (Err u) e ih = rules_flaw fuel number at block e
    go (Ok (Some l)) e ih =
        rules_line fuel number at block l e ∙ ap (onto (line_of block number at l.name l.value l.next)) (ih l.next)

-- ---- a walk from a place on, by one record

module _ {A : Type 0} (end flaw : A) (each : Line → A → A) (block : List ℕ) where
  go : (fuel number at : ℕ) → A
  go fuel number at = walk end flaw each fuel number at block

  turn : (fuel number at : ℕ) → Record → A
  turn fuel number at = by_record end flaw (λ name value next. each (line_of block number at name value next) (go fuel (suc number) next))

  turned : (fuel number at : ℕ) (r : Record) → record_at block at ≡ r → go (suc fuel) number at ≡ turn fuel number at r
  unfolding walk go turn
  turned fuel number at r e = ap (turn fuel number at) e

  ended : (fuel number at : ℕ) → record_at block at ≡ (Ok None) → go fuel number at ≡ end
  unfolding walk go turn
  ended zero number at e = refl
  ended (suc fuel) number at e = turned fuel number at (Ok None) e

  -- fuel enough is as good as more
  enough : (f g number at : ℕ) → length block ≤ at + f → length block ≤ at + g → go f number at ≡ go g number at
  unfolding turn go
  enough zero g number at h k = let e = past_end block at (omega arith) in ended zero number at e ∙ sym (ended g number at e)
  enough (suc f) zero number at h k = let e = past_end block at (omega arith) in ended (suc f) number at e ∙ sym (ended zero number at e)
  enough (suc f) (suc g) number at h k = same_turn (record_at block at) refl (λ next i. enough f g (suc number) next (omega arith) (omega arith))
    where
      same_turn : (r : Record) → record_at block at ≡ r → ((next : ℕ) → at + 6 ≤ next → go f (suc number) next ≡ go g (suc number) next)
          → go (suc f) number at ≡ go (suc g) number at
      same_turn (Ok None) e ih = ended (suc f) number at e ∙ sym (ended (suc g) number at e)
      same_turn (Err u) e ih = turned f number at _ e ∙ sym (turned g number at _ e)
      same_turn (Ok (Some l)) e ih =
          let p = placed block at l e in
          turned f number at _ e ∙ ap (each (line_of block number at l.name l.value l.next)) (ih l.next (omega arith)) ∙ sym (turned g number at _ e)

  pub walk_end : (number at : ℕ) → record_at block at ≡ (Ok None) → walk_from end flaw each block number at ≡ end
  unfolding walk_from go
  walk_end number at e = ended (length block) number at e

  some_fuel : (number at : ℕ) (r : Record) → record_at block at ≡ r → (Ok None ≡ r → ⊥) → (f : ℕ) × ((f + 1 ≡ length block) × (walk_from end flaw each block number at ≡ turn f number at r))
  unfolding walk_from go
  some_fuel number at r e n = by (length block) refl
    where
      by : (l : ℕ) → length block ≡ l → (f : ℕ) × ((f + 1 ≡ length block) × (go (length block) number at ≡ turn f number at r))
      by zero h = absurd (n (sym (past_end block at (omega arith)) ∙ e))
      by (suc f) h = (f, (omega arith, ap (λ (l : ℕ). go l number at) h ∙ turned f number at r e))

  pub walk_flaw : (number at : ℕ) → record_at block at ≡ no_record → walk_from end flaw each block number at ≡ flaw
  unfolding turn
  walk_flaw number at e = (some_fuel number at no_record e (λ q. let z : ◌≡◌ {A = ℕ} 0 1 = cc in omega arith)).1.1

  pub walk_line : (number at : ℕ) (l : code.Line) → record_at block at ≡ Ok (Some l)
      → walk_from end flaw each block number at ≡ each (line_of block number at l.name l.value l.next) (walk_from end flaw each block (suc number) l.next)
  unfolding turn walk_from go
  walk_line number at l e =
      let p = placed block at l e in
      let s = some_fuel number at _ e no_end in
      s.1.1 ∙ ap (each (line_of block number at l.name l.value l.next)) (enough s.0 (length block) (suc number) l.next (omega (arith, s.1.0)) (omega arith))

-- ---- readable blocks

abbrev pub is_told : Option Section → Bool
is_told none = false
is_told (some s) = true

told_onto : (l : Line) (o : Option Section) → is_told (onto l o) ≡ is_told o
told_onto l none = refl
told_onto l (some s) = refl

pub told_next : (block : List ℕ) (number at : ℕ) (l : code.Line) → record_at block at ≡ Ok (Some l)
    → is_told (told_from block number at) ≡ is_told (told_from block (suc number) l.next)
told_next block number at l e =
    ap is_told (walk_line _ _ _ block number at l e) ∙ told_onto (line_of block number at l.name l.value l.next) (told_from block (suc number) l.next)

is_told_lem : (x : Lines) → is_readable x ≡ is_told (told x)
is_told_lem (unreadable f) = refl
is_told_lem (readable s) = refl

pub readable_is : (block : List ℕ) → is_readable (lines block) ≡ is_told (told_from block 0 0)
unfolding lines walk_from
readable_is block = is_told_lem (lines block) ∙ ap is_told (told_is (length block) 0 0 block)

onto_some : (l : Line) (o : Option Section) (s : Section) → onto l o ≡ some s → (t : Section) × ((o ≡ some t) × (l ∷ t ≡ s))
onto_some l none s e = let z : ◌≡◌ {A = ℕ} 0 1 = cc in absurd (omega arith)
onto_some l (some t) s e = (t, (refl, cc))

told_section : (block : List ℕ) (fuel number at : ℕ) (s : Section) → walk (some []) none onto fuel number at block ≡ some s
    → walk [] [] ◌∷◌ fuel number at block ≡ s
unfolding walk
told_section block zero number at s e = cc
told_section block (suc fuel) number at s e = go' (record_at block at) e (λ next t. told_section block fuel (suc number) next t)
  where
    go' : (r : Record)
        → by_record (some []) none (λ name value next. onto (line_of block number at name value next) (walk (some []) none onto fuel (suc number) next block)) r ≡ some s
        → ((next : ℕ) (t : Section) → walk (some []) none onto fuel (suc number) next block ≡ some t → walk [] [] ◌∷◌ fuel (suc number) next block ≡ t)
        → by_record [] [] (λ name value next. line_of block number at name value next ∷ walk [] [] ◌∷◌ fuel (suc number) next block) r ≡ s
    go' (Ok None) f ih = cc
    go' (Err u) f ih = let z : ◌≡◌ {A = ℕ} 0 1 = cc in absurd (omega arith)
    go' (Ok (Some l)) f ih =
        let o = onto_some (line_of block number at l.name l.value l.next) _ s f in
        ap (λ (t : Section). line_of block number at l.name l.value l.next ∷ t) (ih l.next o.0 o.1.0) ∙ o.1.1

-- the lines of a readable block are those that the walk holds
pub held_is : (block : List ℕ) → is_readable (lines block) ≡ true → lines block ≡ readable (held block)
unfolding lines walk_from
held_is block e = by (lines block) refl
  where
    by : (x : Lines) → lines block ≡ x → lines block ≡ readable (walk [] [] ◌∷◌ (length block) 0 0 block)
    by (unreadable f) p = let z : true ≡ false = sym e ∙ ap is_readable p in let y : ◌≡◌ {A = ℕ} 0 1 = cc in absurd (omega arith)
    by (readable s) p =
        p ∙ ap readable (sym (told_section block (length block) 0 0 s (sym (told_is (length block) 0 0 block) ∙ ap told p)))
