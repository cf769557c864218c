-- Integers written one behind the other (rules, Writer): a frame header, and a frame of one integer. Assumes nothing.
use Rattle.std.specs.Prelude.{ℕ, suc, ◌+◌, ◌<◌, ◌≤◌, ◌≡◌, refl, List, [], ◌∷◌, ◌++◌, length, set, Some, None, Ok, Err}
use Rattle.std.proofs.Common.{sym, ap, ◌∙◌}
use Rattle.std.proofs.Math.Option.{Option, none, some}
use native.Mathlib.Omega.{arith}
use Rattle.std.proofs.Math.ListN.{length-append}
use Rattle.std.proofs.Math.Seq.{sets}
use Rattle.rules.specs.Integers.{written}
use Rattle.rules.specs.Writer.{both, frame_header_bytes, write_header, integer_frame, write_integer_frame}
use Rattle.varint.specs.Shortest.{bytes_of, size_of, sized, sized_none, sized_some, size_some, size_few, size_one}
use Rattle.varint.specs.Write.{Meets, meets_above, meets_short, meets_bytes}
use Rattle.rules.specs.declared.codes.House.TheVariants.{BadValue, RoomShort}

-- one behind the other
stored : (x y l : List ℕ) (i j : ℕ) → j ≡ i + length x → sets (sets l i x) j y ≡ sets l i (x ++ y)
stored [] y l i j e = let z : j ≡ i = omega arith in rw z
stored (a ∷ x) y l i j e = stored x y (set l i a) (suc i) j (omega arith)

none_both : (o p : Option (List ℕ)) → o ≡ none → both o p ≡ none
unfolding both
none_both o p e = rw e

both_none : (o p : Option (List ℕ)) → p ≡ none → both o p ≡ none
unfolding both
both_none none p e = refl
both_none (some x) p e = rw e

both_some : (o p : Option (List ℕ)) (x y : List ℕ) → o ≡ some x → p ≡ some y → both o p ≡ some (x ++ y)
unfolding both
both_some o p x y e f = rw (e, f)

-- the bytes of a value that can be written
abbrev bytes : ℕ → List ℕ
bytes v = bytes_of (written v)

-- ---- a header

header_some : (t len : ℕ) → 0 < size_of t → 0 < size_of len → frame_header_bytes t len ≡ some (bytes t ++ bytes len)
unfolding frame_header_bytes
header_some t len p q = both_some (written t) (written len) (bytes t) (bytes len) (size_some t p) (size_some len q)

module _ (l : List ℕ) (t len : ℕ) where
  pub header_no_type : None ≡ sized t → Meets (write_header (length l) t len) l (Err BadValue) l
  unfolding write_header frame_header_bytes
  header_no_type z = meets_above l (frame_header_bytes t len) (none_both (written t) (written len) (sized_none t z))

  pub header_no_length : None ≡ sized len → Meets (write_header (length l) t len) l (Err BadValue) l
  unfolding write_header frame_header_bytes
  header_no_length z = meets_above l (frame_header_bytes t len) (both_none (written t) (written len) (sized_none len z))

  module _ {a b : ℕ} (e : Some a ≡ sized t) (f : Some b ≡ sized len) where
    of_type : (a ≡ size_of t) × (0 < a)
    of_type = sized_some t e

    of_length : (b ≡ size_of len) × (0 < b)
    of_length = sized_some len f

    all : frame_header_bytes t len ≡ some (bytes t ++ bytes len)
    all = header_some t len (omega (arith, of_type.0, of_type.1)) (omega (arith, of_length.0, of_length.1))

    size : length (bytes t ++ bytes len) ≡ a + b
    size = let n = length-append (bytes t) (bytes len) in omega (arith, of_type.0, of_length.0)

    pub header_short : length l < a + b → Meets (write_header (length l) t len) l (Err RoomShort) l
    unfolding write_header
    header_short h = let n = size in meets_short l (frame_header_bytes t len) (bytes t ++ bytes len) all (omega arith)

    pub header_done : (mid after : List ℕ) → a + b ≤ length l → mid ≡ sets l 0 (bytes t) → after ≡ sets mid a (bytes len)
        → Meets (write_header (length l) t len) l (Ok (a + b)) after
    unfolding write_header
    header_done mid after h g k =
        let n = size in
        meets_bytes l (frame_header_bytes t len) (bytes t ++ bytes len) all (a + b) after (omega arith) (sym n)
        (k ∙ rw g (stored (bytes t) (bytes len) l 0 a (omega (arith, of_type.0))))

-- ---- a frame of one integer

no_type : (t : ℕ) (o : Option (List ℕ)) → written t ≡ none → integer_frame t o ≡ none
unfolding integer_frame frame_header_bytes
no_type t none e = refl
no_type t (some payload) e = none_both (frame_header_bytes t (length payload)) (some payload) (none_both (written t) (written (length payload)) e)

no_value : (t : ℕ) (o : Option (List ℕ)) → o ≡ none → integer_frame t o ≡ none
unfolding integer_frame
no_value t o e = rw e

frame_some : (t : ℕ) (o : Option (List ℕ)) (x : List ℕ) → o ≡ some x → 0 < size_of t → 0 < size_of (length x) → integer_frame t o ≡ some ((bytes t ++ bytes (length x)) ++ x)
unfolding integer_frame
frame_some t o x e p q = rw e (both_some (frame_header_bytes t (length x)) (some x) (bytes t ++ bytes (length x)) x (header_some t (length x) p q) refl)

module _ (l : List ℕ) (t v : ℕ) where
  pub frame_no_type : None ≡ sized t → Meets (write_integer_frame (length l) t v) l (Err BadValue) l
  unfolding write_integer_frame
  frame_no_type z = meets_above l (integer_frame t (written v)) (no_type t (written v) (sized_none t z))

  pub frame_no_value : None ≡ sized v → Meets (write_integer_frame (length l) t v) l (Err BadValue) l
  unfolding write_integer_frame
  frame_no_value z = meets_above l (integer_frame t (written v)) (no_value t (written v) (sized_none v z))

  module _ {a n : ℕ} (e : Some a ≡ sized t) (f : Some n ≡ sized v) where
    type_size : (a ≡ size_of t) × (0 < a)
    type_size = sized_some t e

    value_size : (n ≡ size_of v) × (0 < n)
    value_size = sized_some v f

    -- the length of the payload takes one byte
    pub length_one : size_of n ≡ 1
    length_one = size_one n (omega (arith, size_few v, value_size.0))

    three : List ℕ
    three = (bytes t ++ bytes n) ++ bytes v

    whole : integer_frame t (written v) ≡ some three
    unfolding three
    whole = let p = type_size in let q = value_size in let o = length_one in rw q.0 (frame_some t (written v) (bytes v) (size_some v (omega (arith, q.0, q.1))) (omega (arith, p.0, p.1)) (omega (arith, rw q.0 at o)))

    total : length three ≡ a + 1 + n
    unfolding three
    total =
        let o = length_one in
        let x = length-append (bytes t) (bytes n) in
        let y = length-append (bytes t ++ bytes n) (bytes v) in
        omega (arith, type_size.0, value_size.0)

    pub frame_short : length l < a + 1 + n → Meets (write_integer_frame (length l) t v) l (Err RoomShort) l
    unfolding write_integer_frame
    frame_short h = let w = total in meets_short l (integer_frame t (written v)) three whole (omega arith)

    pub frame_done : (one two after : List ℕ) → a + 1 + n ≤ length l → one ≡ sets l 0 (bytes t) → two ≡ sets one a (bytes n) → after ≡ sets two (a + 1) (bytes v)
        → Meets (write_integer_frame (length l) t v) l (Ok (a + 1 + n)) after
    unfolding write_integer_frame three
    frame_done one two after h g k m =
        let w = total in
        let o = length_one in
        let x = length-append (bytes t) (bytes n) in
        meets_bytes l (integer_frame t (written v)) three whole (a + 1 + n) after (omega arith) (sym w)
        (m ∙ rw (k, g) (ap (λ r. sets r (a + 1) (bytes v)) (stored (bytes t) (bytes n) l 0 a (omega (arith, type_size.0))) ∙ stored (bytes t ++ bytes n) (bytes v) l 0 (a + 1) (omega (arith, type_size.0))))
