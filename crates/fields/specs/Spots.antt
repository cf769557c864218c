-- The name and value check of a line (rules, Bytes), on the bytes of its name and of its value; what its answer says; and laws for each way out. Assumes nothing.
use Prim.Native.Nat.{ℕ, suc, ◌+◌, ◌-◌, ◌≤◌, ◌<◌}
use Rattle.std.proofs.Math.Path.{◌≡◌, refl, sym, ap}
use Rattle.std.proofs.Common.{◌∙◌, arith}
use mathlib.Core.List.{List, [], ◌∷◌}
use Rattle.std.specs.Prelude.{Bool, cond, not, ◌||◌, ◌&&◌, T, ltb, eqb, drop, get_or}
use Rattle.std.proofs.Math.Bool.{true, false}
use Rattle.std.proofs.Math.Option.{Option, none, some}
use Rattle.std.proofs.Math.Dec.{leb-suc-suc}
use Rattle.std.proofs.Math.ListN.{length}
use Rattle.std.specs.List.{position_or_len}
use borrow.Author.Tests.{eq-eqb, ne_eqb, lt-ltb, ltb-true, ltb-false}
use Rattle.std.proofs.lemmas.Option.{cond_some, none-some}
use Rattle.rules.specs.Text.{any, all}
use Rattle.rules.specs.Block.{Line}
use Rattle.rules.specs.Classes.{is_name, is_value, is_blank, is_capital}
use Rattle.rules.specs.Section.{is_empty, begins, ends, is_pseudo}
use Rattle.rules.specs.Bytes as rules
use Rattle.rules.specs.Bytes.{Fault, empty_name, capital, bad_in_name, bad_in_value, blank_at_end, spot, if, or_else, first_outside, name_fault, name_from, value_from, name_spot, value_spot, line_spot}
use Rattle.fields.specs.declared.Class.{Class}
use Rattle.std.specs.Prelude as std
use Rattle.fields.specs.declared.Spot as code
use Rattle.fields.specs.declared.Spot.TheVariants.{EmptyName, Capital, BadInName, BadInValue, BlankAtEnd}
use Rattle.fields.specs.Bytes.{is_in, outside, bad_name_bytes, bad_value_bytes}
use Rattle.fields.specs.Laws.{empty_is, begins_first, ends_last}
use Rattle.fields.specs.Table.{marked, all_right, right_at, right_in}

-- ---- what the answer says

abbrev pub spot_of : std.Option code.Spot → Option rules.Spot
spot_of std.None = none
spot_of (std.Some (EmptyName p)) = some (spot empty_name p)
spot_of (std.Some (Capital p)) = some (spot capital p)
spot_of (std.Some (BadInName p)) = some (spot bad_in_name p)
spot_of (std.Some (BadInValue p)) = some (spot bad_in_value p)
spot_of (std.Some (BlankAtEnd p)) = some (spot blank_at_end p)

abbrev pub is_some : Option rules.Spot → Bool
is_some none = false
is_some (some s) = true

pub some_spot : (o : std.Option code.Spot) → std.is_some o ≡ is_some (spot_of o)
some_spot std.None = refl
some_spot (std.Some s) = by s
  where
    by : (s : code.Spot) → std.is_some (std.Some s) ≡ is_some (spot_of (std.Some s))
    by (EmptyName p) = refl
    by (Capital p) = refl
    by (BadInName p) = refl
    by (BadInValue p) = refl
    by (BlankAtEnd p) = refl

-- ---- the rules, by the bytes

unfoldable pub name_spot_at : (at : ℕ) → List ℕ → Option rules.Spot
name_spot_at at name = elim (begins (eqb 0x3a) name) [
  | true ↦ none
  | false ↦ or_else (if (is_empty name) (spot empty_name at)) (first_outside is_name name_fault (at + 6) name)
]

unfoldable pub value_spot_at : (from : ℕ) → List ℕ → Option rules.Spot
value_spot_at from value =
    or_else (if (begins is_blank value) (spot blank_at_end from))
    (or_else (first_outside is_value (λ b. bad_in_value) from value) (if (ends is_blank value) (spot blank_at_end (from + length value - 1))))

abbrev pub line_spot_at : (at : ℕ) (name value : List ℕ) → Option rules.Spot
line_spot_at at name value = or_else (name_spot_at at name) (value_spot_at (at + 6 + length name) value)

pub line_is : (l : Line) → line_spot_at l.at l.name l.value ≡ line_spot l
unfolding name_spot_at value_spot_at name_spot value_spot line_spot name_from value_from is_pseudo
line_is l = refl

-- ---- how many bytes at the start pass a test

unfoldable pub run : (ℕ → Bool) → List ℕ → ℕ
run test [] = 0
run test (b ∷ bs) = elim (test b) [ true ↦ suc (run test bs) | false ↦ 0 ]

-- the first byte that fails a test
abbrev pub first_out : (ℕ → Bool) → List ℕ → std.Option ℕ
first_out test v = cond (ltb (run test v) (length v)) (std.Some (run test v)) std.None

module _ (test : ℕ → Bool) where
  -- the first byte that fails it
  module _ (says : ℕ → Fault) where
    pub outside_at : (from : ℕ) (v : List ℕ) → run test v < length v → first_outside test says from v ≡ some (spot (says (get_or v (run test v) 0)) (from + run test v))
    unfolding run first_outside
    outside_at from [] h = absurd (omega arith)
    outside_at from (b ∷ bs) h = go (test b) refl h (outside_at (suc from) bs)
      where
        go : (t : Bool) → test b ≡ t → elim t [ true ↦ suc (run test bs) | false ↦ 0 ] < length (b ∷ bs)
            → (run test bs < length bs → first_outside test says (suc from) bs ≡ some (spot (says (get_or bs (run test bs) 0)) (suc from + run test bs)))
            → elim t [ true ↦ first_outside test says (suc from) bs | false ↦ some (spot (says b) from) ]
            ≡ some (spot (says (get_or (b ∷ bs) (elim t [ true ↦ suc (run test bs) | false ↦ 0 ]) 0)) (from + elim t [ true ↦ suc (run test bs) | false ↦ 0 ]))
        go true e h ih = ih (omega arith) ∙ ap (λ p. some (spot (says (get_or bs (run test bs) 0)) p)) (omega arith)
        go false e h ih = ap (λ p. some (spot (says b) p)) (omega arith)

    pub outside_none : (from : ℕ) (v : List ℕ) → length v ≤ run test v → first_outside test says from v ≡ none
    unfolding run first_outside
    outside_none from [] h = refl
    outside_none from (b ∷ bs) h = go (test b) h (outside_none (suc from) bs)
      where
        go : (t : Bool) → length (b ∷ bs) ≤ elim t [ true ↦ suc (run test bs) | false ↦ 0 ]
            → (length bs ≤ run test bs → first_outside test says (suc from) bs ≡ none)
            → ◌≡◌ {A = Option rules.Spot} (elim t [ true ↦ first_outside test says (suc from) bs | false ↦ some (spot (says b) from) ]) none
        go true h ih = ih (omega arith)
        go false h ih = absurd (omega arith)

-- std's search for the first byte whose entry says no, in a table that is right
module _ (table : List ℕ) (t : T (all_right table)) (class : Class) where
  pub run_position : (v : List ℕ) → ((k : ℕ) → get_or v k 0 < 256) → position_or_len (λ b. not (marked (get_or table b 0) class)) v ≡ run (is_in class) v
  unfolding run
  run_position [] h = refl
  run_position (b ∷ bs) h =
      ap (λ t. cond (not (not t)) (1 + position_or_len (λ b. not (marked (get_or table b 0) class)) bs) 0) (right_in b (get_or table b 0) (right_at table t b (h 0)) class)
      ∙ go (is_in class b) (run_position bs (λ k. h (suc k)))
    where
      go : (t : Bool) → position_or_len (λ b. not (marked (get_or table b 0) class)) bs ≡ run (is_in class) bs
          → cond (not (not t)) (1 + position_or_len (λ b. not (marked (get_or table b 0) class)) bs) 0 ≡ elim t [ true ↦ suc (run (is_in class) bs) | false ↦ 0 ]
      go true e = omega (arith, e)
      go false e = refl

  pub position_out : (v : List ℕ) → ((k : ℕ) → get_or v k 0 < 256) → (r : std.Option ℕ)
      → r ≡ cond (ltb (position_or_len (λ b. not (marked (get_or table b 0) class)) v) (length v)) (std.Some (position_or_len (λ b. not (marked (get_or table b 0) class)) v)) std.None
      → r ≡ first_out (is_in class) v
  position_out v h r e = e ∙ ap (λ n. cond (ltb n (length v)) (std.Some n) std.None) (run_position v h)

module _ (test : ℕ → Bool) (v : List ℕ) where
  pub out_at : (i : ℕ) → first_out test v ≡ std.Some i → (i < length v) × (i ≡ run test v)
  out_at i e = let p = cond_some (ltb (run test v) (length v)) (run test v) i e in (let h = ltb-true (run test v) (length v) p.0 in omega (arith, h, p.1), sym p.1)

  pub out_none : first_out test v ≡ std.None → length v ≤ run test v
  out_none e = go (ltb (run test v) (length v)) refl e
    where
      go : (t : Bool) → ltb (run test v) (length v) ≡ t → cond t (std.Some (run test v)) std.None ≡ std.None → length v ≤ run test v
      go true f e = absurd (none-some _ (sym e))
      go false f e = ltb-false _ _ f

pub some_out : (test : ℕ → Bool) (v : List ℕ) → std.is_some (first_out test v) ≡ ltb (run test v) (length v)
some_out test v = go (ltb (run test v) (length v))
  where
    go : (t : Bool) → std.is_some (cond t (std.Some (run test v)) std.None) ≡ t
    go true = refl
    go false = refl

pub run_any : (class : Class) (v : List ℕ) → ltb (run (is_in class) v) (length v) ≡ any (outside class) v
unfolding run any
run_any class [] = refl
run_any class (b ∷ bs) = go (is_in class b) (run_any class bs)
  where
    go : (t : Bool) → ltb (run (is_in class) bs) (length bs) ≡ any (outside class) bs
        → ltb (elim t [ true ↦ suc (run (is_in class) bs) | false ↦ 0 ]) (length (b ∷ bs)) ≡ (not t || any (outside class) bs)
    go true e = leb-suc-suc (suc (run (is_in class) bs)) (length bs) ∙ e
    go false e = lt-ltb 0 (length (b ∷ bs)) (omega arith)

-- ---- a line's bytes are bad exactly if there is such a byte

some_else : (a b : Option rules.Spot) → is_some (or_else a b) ≡ (is_some a || is_some b)
unfolding or_else
some_else none b = refl
some_else (some s) b = refl

some_if : (t : Bool) (s : rules.Spot) → is_some (if t s) ≡ t
unfolding if
some_if true s = refl
some_if false s = refl

some_outside : (test : ℕ → Bool) (says : ℕ → Fault) (from : ℕ) (v : List ℕ) → is_some (first_outside test says from v) ≡ not (all test v)
unfolding first_outside all
some_outside test says from [] = refl
some_outside test says from (b ∷ bs) = go (test b) (some_outside test says (suc from) bs)
  where
    go : (t : Bool) → is_some (first_outside test says (suc from) bs) ≡ not (all test bs)
        → is_some (elim t [ true ↦ first_outside test says (suc from) bs | false ↦ some (spot (says b) from) ]) ≡ not (t && all test bs)
    go true e = e
    go false e = refl

name_bad : (at : ℕ) (n : List ℕ) → is_some (name_spot_at at n) ≡ bad_name_bytes n
unfolding name_spot_at bad_name_bytes
name_bad at n = go (begins (eqb 0x3a) n)
  where
    go : (t : Bool) → is_some (elim t [ true ↦ none | false ↦ or_else (if (is_empty n) (spot empty_name at)) (first_outside is_name name_fault (at + 6) n) ])
        ≡ (not t && (is_empty n || not (all is_name n)))
    go true = refl
    go false = some_else (if (is_empty n) (spot empty_name at)) _ ∙ rw (some_if (is_empty n) (spot empty_name at), some_outside is_name name_fault (at + 6) n)

value_bad : (from : ℕ) (v : List ℕ) → is_some (value_spot_at from v) ≡ bad_value_bytes v
unfolding value_spot_at bad_value_bytes
value_bad from v =
    some_else (if (begins is_blank v) (spot blank_at_end from)) _
    ∙ rw (some_if (begins is_blank v) (spot blank_at_end from), some_else (first_outside is_value (λ b. bad_in_value) from v) (if (ends is_blank v) (spot blank_at_end (from + length v - 1))), some_outside is_value (λ b. bad_in_value) from v, some_if (ends is_blank v) (spot blank_at_end (from + length v - 1)))
    (order (begins is_blank v) (not (all is_value v)) (ends is_blank v))
  where
    order : (a b c : Bool) → (a || (b || c)) ≡ ((b || a) || c)
    order true true c = refl
    order true false c = refl
    order false true c = refl
    order false false c = refl

pub line_bad : (at : ℕ) (n v : List ℕ) → is_some (line_spot_at at n v) ≡ (bad_name_bytes n || bad_value_bytes v)
line_bad at n v = some_else (name_spot_at at n) (value_spot_at (at + 6 + length n) v) ∙ rw (name_bad at n, value_bad (at + 6 + length n) v)

-- ---- a law for each way out

module _ (at : ℕ) (n : List ℕ) where
  plainly : Bool → Option rules.Spot
  plainly t = elim t [ true ↦ none | false ↦ or_else (if (is_empty n) (spot empty_name at)) (first_outside is_name name_fault (at + 6) n) ]

  pub name_pseudo : begins (eqb 0x3a) n ≡ true → none ≡ name_spot_at at n
  unfolding name_spot_at plainly
  name_pseudo e = sym (ap plainly e)

  module _ (e : begins (eqb 0x3a) n ≡ false) where
    pub name_empty : length n ≡ 0 → some (spot empty_name at) ≡ name_spot_at at n
    unfolding name_spot_at plainly if or_else
    name_empty z = sym (ap plainly e ∙ ap (λ t. or_else (if t (spot empty_name at)) (first_outside is_name name_fault (at + 6) n)) (empty_is n ∙ eq-eqb (length n) 0 z))

    module _ (some_byte : length n ≡ 0 → ⊥) where
      by_bytes : first_outside is_name name_fault (at + 6) n ≡ name_spot_at at n
      unfolding name_spot_at plainly if or_else
      by_bytes = sym (ap plainly e ∙ ap (λ t. or_else (if t (spot empty_name at)) (first_outside is_name name_fault (at + 6) n)) (empty_is n ∙ ne_eqb (length n) 0 some_byte))

      pub name_in : length n ≤ run is_name n → none ≡ name_spot_at at n
      name_in h = sym (outside_none is_name name_fault (at + 6) n h) ∙ by_bytes

      module _ (i : ℕ) (is : i ≡ run is_name n) (h : i < length n) where
        at-it : (f : Fault) → name_fault (get_or n i 0) ≡ f → some (spot f (at + 6 + i)) ≡ name_spot_at at n
        at-it f q =
            ap (λ g. some (spot g (at + 6 + i))) (sym q)
            ∙ ap (λ k. some (spot (name_fault (get_or n k 0)) (at + 6 + k))) is
            ∙ sym (outside_at is_name name_fault (at + 6) n (omega arith))
            ∙ by_bytes

        pub name-capital : is_capital (get_or n i 0) ≡ true → some (spot capital (at + 6 + i)) ≡ name_spot_at at n
        unfolding name_fault
        name-capital q = at-it capital (ap (λ t. elim t [ true ↦ capital | false ↦ bad_in_name ]) q)

        pub name-other : is_capital (get_or n i 0) ≡ false → some (spot bad_in_name (at + 6 + i)) ≡ name_spot_at at n
        unfolding name_fault
        name-other q = at-it bad_in_name (ap (λ t. elim t [ true ↦ capital | false ↦ bad_in_name ]) q)

module _ (from : ℕ) (v : List ℕ) where
  pub value_none : length v ≡ 0 → none ≡ value_spot_at from v
  unfolding value_spot_at if or_else first_outside begins ends
  value_none z = by v z
    where
      by : (w : List ℕ) → length w ≡ 0 → none ≡ value_spot_at from w
      by [] z = refl
      by (b ∷ w) z = absurd (omega arith)

  module _ (some_byte : length v ≡ 0 → ⊥) where
    pub value_blank_first : is_blank (get_or v 0 0) ≡ true → some (spot blank_at_end from) ≡ value_spot_at from v
    unfolding value_spot_at if or_else
    value_blank_first e =
        sym (ap (λ t. or_else (if t (spot blank_at_end from)) (or_else (first_outside is_value (λ b. bad_in_value) from v) (if (ends is_blank v) (spot blank_at_end (from + length v - 1))))) (begins_first is_blank v some_byte ∙ e))

    module _ (first : is_blank (get_or v 0 0) ≡ false) where
      behind : or_else (first_outside is_value (λ b. bad_in_value) from v) (if (ends is_blank v) (spot blank_at_end (from + length v - 1))) ≡ value_spot_at from v
      unfolding value_spot_at if or_else
      behind = sym (ap (λ t. or_else (if t (spot blank_at_end from)) (or_else (first_outside is_value (λ b. bad_in_value) from v) (if (ends is_blank v) (spot blank_at_end (from + length v - 1))))) (begins_first is_blank v some_byte ∙ first))

      pub value_out : (i : ℕ) → i ≡ run is_value v → i < length v → some (spot bad_in_value (from + i)) ≡ value_spot_at from v
      unfolding or_else
      value_out i is h =
          ap (λ k. some (spot bad_in_value (from + k))) is
          ∙ sym (ap (λ o. or_else o (if (ends is_blank v) (spot blank_at_end (from + length v - 1)))) (outside_at is_value (λ b. bad_in_value) from v (omega arith)))
          ∙ behind

      module _ (all_in : length v ≤ run is_value v) where
        last : (t : Bool) → is_blank (get_or v (length v - 1) 0) ≡ t → if t (spot blank_at_end (from + length v - 1)) ≡ value_spot_at from v
        unfolding or_else
        last t e =
            ap (λ u. if u (spot blank_at_end (from + length v - 1))) (sym (ends_last is_blank v some_byte ∙ e))
            ∙ sym (ap (λ o. or_else o (if (ends is_blank v) (spot blank_at_end (from + length v - 1)))) (outside_none is_value (λ b. bad_in_value) from v all_in))
            ∙ behind

        pub value-blank-last : is_blank (get_or v (length v - 1) 0) ≡ true → some (spot blank_at_end (from + length v - 1)) ≡ value_spot_at from v
        unfolding if
        value-blank-last e = last true e

        pub value-sound : is_blank (get_or v (length v - 1) 0) ≡ false → none ≡ value_spot_at from v
        unfolding if
        value-sound e = last false e

-- the name's spot, or else the value's
module _ (at : ℕ) (n v : List ℕ) (o : std.Option code.Spot) (is : spot_of o ≡ name_spot_at at n) where
  pub name_first : (o ≡ std.None → ⊥) → spot_of o ≡ line_spot_at at n v
  unfolding or_else
  name_first found = by o found ∙ ap (λ x. or_else x (value_spot_at (at + 6 + length n) v)) is
    where
      by : (x : std.Option code.Spot) → (x ≡ std.None → ⊥) → spot_of x ≡ or_else (spot_of x) (value_spot_at (at + 6 + length n) v)
      by std.None e = absurd (e refl)
      by (std.Some (EmptyName p)) e = refl
      by (std.Some (Capital p)) e = refl
      by (std.Some (BadInName p)) e = refl
      by (std.Some (BadInValue p)) e = refl
      by (std.Some (BlankAtEnd p)) e = refl

  pub value_then : {w : Option rules.Spot} → o ≡ std.None → w ≡ value_spot_at (at + 6 + length n) v → w ≡ line_spot_at at n v
  unfolding or_else
  value_then e q = q ∙ ap (λ x. or_else x (value_spot_at (at + 6 + length n) v)) (ap spot_of (sym e) ∙ is)
