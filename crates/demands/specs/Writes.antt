-- FRAMES WE WRITE are read back as those same frames, each number in its shortest form: over the calls that write, of any room that they are lent
-- and whatever follows. And when a write is refused, with which number, and that the room is as it was. Assumes nothing.
use Rattle.std.proofs.Math.Path.{◌≡◌, refl, sym, ap}
use Rattle.std.proofs.Common.{subst, ◌∙◌, arith, inl, inr, length-append, take_at}
use Prim.Native.Nat.{ℕ, zero, suc, ◌+◌, ◌-◌, ◌≤◌, ◌<◌}
use mathlib.Core.List.{List, [], ◌∷◌, ◌++◌, append-nil}
use Rattle.std.specs.Prelude.{Bool, ◌⊎◌, leb, take, Result, Ok, Err}
use Rattle.std.proofs.Math.Bool.{true, false}
use Rattle.std.proofs.Math.Option.{Option, none, some}
use Rattle.std.proofs.Math.Dec.{ltb, ltb→lt, nltb→le, nleb→lt}
use Rattle.std.proofs.Math.ListN.{length, drop}
use Rattle.std.proofs.lemmas.Bool.{lt-leb}
use Rattle.rules.specs.Numbers.{ROOM-SHORT, BAD-VALUE, of_connection, closed_critical_stream}
use Rattle.rules.specs.Text.{hex, hex_from, nibble, between}
use Rattle.rules.specs.Integers.{Row, integer, got, rows, low, in_row, in_first, written, largest}
use Rattle.rules.specs.Frames.{Header, Frames, Frames.none as no_more, in_header, in_payload, frame, frames_up_to, frames_from}
use Rattle.rules.specs.Reading.{header, frame_kept, settings, kept, fault}
use Rattle.rules.specs.Control.{told_settings, tells}
use Rattle.rules.specs.OneWay.{of_control, one_way_read}
use Rattle.rules.specs.Writer.{Write, refused, wrote, into, both, bad_goaway, frame_header_bytes, integer_frame, write_integer, write_header, write_integer_frame, opening, write_opening, write_goaway}
use Rattle.meaning.specs.FrameLaws.{head, View, cut_type, cut_length, cut_payload, a_frame, view}
use Rattle.meaning.specs.IntegerLaws.{integer_length, integer_rest, Bytes, no_byte, byte, shortest}
use Rattle.meaning.specs.WriterLaws.{integer_back, header_back, FrameBack, integer_frame_back, opening_back}
use Rattle.rules.specs.declared.codes.House.{House}
use Rattle.varint.specs.Shortest.{bytes_of, size_of, size_few, size_some, size_one}
use Rattle.varint.specs.Write.{Wrote, wrote_of, answer_of, left_in, Meets}
use Rattle.connection.specs.declared.doors.Doors.{Doors}
use Rattle.connection.specs.Goaway.{Goaway, sent_in, sending_of, write_of}
use Rattle.connection.specs.declared.Connection.{Connection}
use Rattle.connection.specs.declared.Written.{Written}
use Rattle.connection.specs.Halves.{stream_id, doors_in}
use Rattle.calls.specs.Promises.{SaidGoaway, written_of, WroteInto, WroteHeader, WroteIntegerFrame, WroteOpening}

-- ---- what was written

-- an accepted write is these bytes at the start of the room, and the rest of the room is as it was
pub record Put (w : Write) (before after : List ℕ) (n : ℕ) : Type 0 where
  pub bytes : List ℕ
  pub is : w ≡ wrote bytes
  pub count : n ≡ length bytes
  pub leaves : after ≡ bytes ++ drop n before

put : (w : Write) {before after : List ℕ} {n : ℕ} → Ok n ≡ wrote_of w → after ≡ left_in w before → Put w before after n
unfolding wrote_of left_in
put (refused number) e f = let z : ◌≡◌ {A = ℕ} 0 1 = cc in absurd (omega arith)
put (wrote bytes) {before} {n = n} e f = let c : n ≡ length bytes = cc in record { bytes = bytes; is = refl; count = c; leaves = f ∙ ap (λ k. bytes ++ drop k before) (sym c) }

pub was_put : (w : Write) {before after : List ℕ} {n : ℕ} → Meets w before (Ok n) after → Put w before after n
was_put w m = put w m.answers m.leaves

-- what was written was there to be written
into_some : (room : ℕ) (o : Option (List ℕ)) {bytes : List ℕ} → into room o ≡ wrote bytes → o ≡ some bytes
unfolding into
into_some room none e = let z : ◌≡◌ {A = ℕ} 0 1 = cc in absurd (omega arith)
into_some room (some x) {bytes} e = by (ltb room (length x)) e
  where
    by : (b : Bool) → ◌≡◌ {A = Write} (elim b [ true ↦ refused ROOM-SHORT | false ↦ wrote x ]) (wrote bytes) → some x ≡ some bytes
    by true e = let z : ◌≡◌ {A = ℕ} 0 1 = cc in absurd (omega arith)
    by false e = let q : x ≡ bytes = cc in ap some q

-- one behind the other
record Two (o p : Option (List ℕ)) (bytes : List ℕ) : Type 0 where
  front : List ℕ
  back : List ℕ
  is_front : o ≡ some front
  is_back : p ≡ some back
  long : length bytes ≡ length front + length back

two : (o p : Option (List ℕ)) (bytes : List ℕ) → both o p ≡ some bytes → Two o p bytes
unfolding both
two none p bytes e = let z : ◌≡◌ {A = ℕ} 0 1 = cc in absurd (omega arith)
two (some x) none bytes e = let z : ◌≡◌ {A = ℕ} 0 1 = cc in absurd (omega arith)
two (some x) (some y) bytes e = let q : x ++ y ≡ bytes = cc in record { front = x; back = y; is_front = refl; is_back = refl; long = ap length (sym q) ∙ length-append x y }

-- ---- the first frame that some bytes begin

-- its header, and what is there of its payload
unfoldable pub first_of : Frames → Option (Header × List ℕ)
first_of no_more = none
first_of in_header = none
first_of (in_payload h part) = some (h, part)
first_of (frame h payload more) = some (h, payload)

-- its two integers, and the payload behind them
record Begins (bs : List ℕ) (from type len : ℕ) (payload : List ℕ) : Type 0 where
  here : ℕ
  rest : List ℕ
  pay : List ℕ
  of_type : integer 0 bs ≡ got type here rest
  of_length : integer here rest ≡ got len from pay
  size : ℕ
  there : payload ≡ take size pay

unsome : {x y : Header × List ℕ} → some x ≡ some y → x ≡ y
unsome e = cc

module _ {from type len : ℕ} {payload : List ℕ} where
  begun_view : (fuel : ℕ) (bs : List ℕ) {fs : Frames} → View fuel 0 bs fs → first_of fs ≡ some (head 0 from type len, payload) → Begins bs from type len payload
  unfolding first_of
  begun_view fuel bs (cut_type e) q = let z : ◌≡◌ {A = ℕ} 0 1 = cc in absurd (omega arith)
  begun_view fuel bs (cut_length e f) q = let z : ◌≡◌ {A = ℕ} 0 1 = cc in absurd (omega arith)
  begun_view fuel bs (cut_payload {here = here} {rest = rest} {pay = pay} e f l) q = let x = unsome q in record {
    here = here;
    rest = rest;
    pay = pay;
    size = length pay;
    of_type = e ∙ ap (λ y. got y.0.type here rest) x;
    of_length = f ∙ ap (λ y. got y.0.len y.0.from pay) x;
    there = sym (ap (λ y. y.1) x) ∙ sym (take_at pay [] (length pay) refl) ∙ ap (take (length pay)) (append-nil pay);
  }
  begun_view fuel bs (a_frame {here = here} {len = n} {rest = rest} {pay = pay} e f l) q = let x = unsome q in record {
    here = here;
    rest = rest;
    pay = pay;
    size = n;
    of_type = e ∙ ap (λ y. got y.0.type here rest) x;
    of_length = f ∙ ap (λ y. got y.0.len y.0.from pay) x;
    there = sym (ap (λ y. y.1) x);
  }

  begun : (bs : List ℕ) → first_of (frames_from 0 bs) ≡ some (head 0 from type len, payload) → Begins bs from type len payload
  unfolding frames_from frames_up_to first_of
  begun [] q = let z : ◌≡◌ {A = ℕ} 0 1 = cc in absurd (omega arith)
  begun (b ∷ bs) q = begun_view (length bs) (b ∷ bs) (view (length bs) 0 b bs) q

-- parts of bytes are bytes
bytes_drop : (n : ℕ) {bs : List ℕ} → Bytes bs → Bytes (drop n bs)
bytes_drop zero b = b
bytes_drop (suc n) no_byte = no_byte
bytes_drop (suc n) (byte l b) = bytes_drop n b

bytes_take : (n : ℕ) {bs : List ℕ} → Bytes bs → Bytes (take n bs)
bytes_take zero b = no_byte
bytes_take (suc n) no_byte = no_byte
bytes_take (suc n) (byte l b) = byte l (bytes_take n b)

behind : (at : ℕ) (bs : List ℕ) {t next : ℕ} {rest : List ℕ} → Bytes bs → integer at bs ≡ got t next rest → Bytes rest
behind at bs {next = next} b e = let r = integer_rest at bs e in rw r (bytes_drop (next - at) b)

-- ---- none is shorter

-- a header: no bytes that begin a frame of this type and length come to its payload sooner
header_least : (type len : ℕ) (bytes : List ℕ) → frame_header_bytes type len ≡ some bytes → {bs : List ℕ} {from : ℕ} {payload : List ℕ} → Bytes bs → Begins bs from type len payload → length bytes ≤ from
unfolding frame_header_bytes
header_least type len bytes e {bs} b g =
    let w = two (written type) (written len) bytes e in
    let x = shortest type 0 g.here g.rest w.front b g.of_type w.is_front in
    let y = shortest len g.here _ g.pay w.back (behind 0 bs b g.of_type) g.of_length w.is_back in
    omega (arith, x, y, w.long)

-- an integer takes a byte or more, and the length of one takes just one
one_long : (v : ℕ) (w y : List ℕ) → written v ≡ some w → written (length w) ≡ some y → length y ≡ 1
unfolding bytes_of
one_long v w y e f =
    let few = size_few v in
    let n : size_of v ≡ length w = ap (λ o. length (bytes_of o)) e in
    let o = size_one (length w) (omega arith) in
    sym (ap (λ o. length (bytes_of o)) f) ∙ o

-- a frame of one integer: no bytes that begin a frame of this type, with this integer at the start of its payload, come to the integer's end sooner
frame_least : (type v : ℕ) (bytes : List ℕ) → integer_frame type (written v) ≡ some bytes → {bs : List ℕ} {from len : ℕ} {payload : List ℕ} → Bytes bs → Begins bs from type len payload
    → {next : ℕ} {rest : List ℕ} → integer 0 payload ≡ got v next rest → length bytes ≤ from + next
unfolding integer_frame frame_header_bytes
frame_least type v bytes e {bs} {from} {len} {payload} b g {next} {rest} h = by (written v) refl e
  where
    by : (o : Option (List ℕ)) → written v ≡ o → integer_frame type o ≡ some bytes → length bytes ≤ from + next
    by none w e = let z : ◌≡◌ {A = ℕ} 0 1 = cc in absurd (omega arith)
    by (some p) w e =
        let t = two (frame_header_bytes type (length p)) (some p) bytes e in
        let u = two (written type) (written (length p)) t.front t.is_front in
        let same : p ≡ t.back = (let q = t.is_back in cc) in
        let long : length p ≡ length t.back = ap length same in
        let one = one_long v p u.back w u.is_back in
        let x = shortest type 0 g.here g.rest u.front b g.of_type u.is_front in
        let y = integer_length g.here g.rest g.of_length in
        let there = g.there in
        let pays : Bytes payload = rw there (bytes_take g.size (behind g.here g.rest (behind 0 bs b g.of_type) g.of_length)) in
        let k = shortest v 0 next rest p pays h w in
        omega (arith, x, y.0, y.1, k, long, one, t.long, u.long)

module _ (room type v : ℕ) {before after : List ℕ} {n : ℕ} where
  least : Put (write_integer_frame room type v) before after n → {bs : List ℕ} {from len : ℕ} {payload : List ℕ} → Bytes bs → first_of (frames_from 0 bs) ≡ some (head 0 from type len, payload)
      → {next : ℕ} {rest : List ℕ} → integer 0 payload ≡ got v next rest → n ≤ from + next
  unfolding write_integer_frame
  least p {bs} b e h = let l = frame_least type v p.bytes (into_some room (integer_frame type (written v)) p.is) b (begun bs e) h in omega (arith, p.count)

-- ---- read back, from the room itself

-- the room begins with n bytes that are one frame of this type, its payload this integer and nothing else, WHATEVER FOLLOWS THEM; the rest of the room is as it was
abbrev pub BeginsFrame : (type v n : ℕ) (before after : List ℕ) → Type 0
BeginsFrame type v n before after = (bytes : List ℕ) × (n ≡ length bytes) × (after ≡ bytes ++ drop n before) × ((rest : List ℕ) → FrameBack 0 type v bytes rest)

begins_frame : (room type v : ℕ) {before after : List ℕ} {n : ℕ} → Put (write_integer_frame room type v) before after n → BeginsFrame type v n before after
begins_frame room type v p = (p.bytes, p.count, p.leaves, λ rest. integer_frame_back room type v 0 p.bytes rest p.is)

module _ {before after : List ℕ} {n : ℕ} where
  -- ONE INTEGER
  pub integer_read : (v : ℕ) → Meets (write_integer (length before) v) before (Ok n) after → integer 0 after ≡ got v n (drop n before)
  integer_read v m =
      let p = was_put (write_integer (length before) v) m in
      let z : 0 + length p.bytes ≡ n = omega (arith, p.count) in
      ap (integer 0) p.leaves ∙ integer_back (length before) v 0 p.bytes (drop n before) p.is ∙ ap (λ k. got v k (drop n before)) z

  -- IN THE SHORTEST FORM: no bytes that read as the same integer are fewer
  pub integer_shortest : (v : ℕ) → Meets (write_integer (length before) v) before (Ok n) after → {bs : List ℕ} {next : ℕ} {rest : List ℕ} → Bytes bs → integer 0 bs ≡ got v next rest → n ≤ next
  unfolding write_integer
  integer_shortest v m {next = next} {rest = rest} b e =
      let p = was_put (write_integer (length before) v) m in
      let l = shortest v 0 next rest p.bytes b e (into_some (length before) (written v) p.is) in
      omega (arith, p.count)

  -- A FRAME HEADER, whatever payload of its length and whatever else is sent behind it
  pub header_read : (type len : ℕ) → Meets (write_header (length before) type len) before (Ok n) after → (payload rest : List ℕ) → length payload ≡ len
      → (bytes : List ℕ) × (n ≡ length bytes) × (after ≡ bytes ++ drop n before) × (frames_from 0 (bytes ++ (payload ++ rest)) ≡ frame (head 0 n type len) payload (frames_from (n + len) rest))
  header_read type len m payload rest l =
      let p = was_put (write_header (length before) type len) m in
      let z : 0 + length p.bytes ≡ n = omega (arith, p.count) in
      (p.bytes, p.count, p.leaves, header_back (length before) type len 0 p.bytes payload rest p.is l ∙ ap (λ k. frame (head 0 k type len) payload (frames_from (k + len) rest)) z)

  -- IN THE SHORTEST FORM: no bytes that begin a frame of this type and length have fewer before its payload
  pub header_shortest : (type len : ℕ) → Meets (write_header (length before) type len) before (Ok n) after → {bs : List ℕ} {from : ℕ} {payload : List ℕ} → Bytes bs
      → first_of (frames_from 0 bs) ≡ some (head 0 from type len, payload) → n ≤ from
  unfolding write_header
  header_shortest type len m {bs} b e =
      let p = was_put (write_header (length before) type len) m in
      let l = header_least type len p.bytes (into_some (length before) (frame_header_bytes type len) p.is) b (begun bs e) in
      omega (arith, p.count)

  -- AN INTEGER FRAME
  pub integer_frame_read : (type v : ℕ) → Meets (write_integer_frame (length before) type v) before (Ok n) after → BeginsFrame type v n before after
  integer_frame_read type v m = begins_frame (length before) type v (was_put (write_integer_frame (length before) type v) m)

  -- IN THE SHORTEST FORM: no bytes that begin a frame of this type with this integer have fewer up to the integer's end
  pub integer_frame_shortest : (type v : ℕ) → Meets (write_integer_frame (length before) type v) before (Ok n) after → {bs : List ℕ} {from len : ℕ} {payload : List ℕ} → Bytes bs
      → first_of (frames_from 0 bs) ≡ some (head 0 from type len, payload) → {next : ℕ} {rest : List ℕ} → integer 0 payload ≡ got v next rest → n ≤ from + next
  integer_frame_shortest type v m b e h = let p = was_put (write_integer_frame (length before) type v) m in least (length before) type v p b e h

-- ---- refusals

-- HOW A WRITE ENDS that takes `size` bytes, and in which a value may be above 2^62-1: that comes first, whatever the room; then a room that is too
-- short; and both leave the room as it was. (The three exclude one another, so each is answered exactly where its conditions hold.)
pub data Ends (Above : Type 0) (size : ℕ) (before : List ℕ) : Wrote → List ℕ → Type 0 where
  eight : Above → Ends Above size before (Err BAD-VALUE) before
  seven : ¬ Above → length before < size → Ends Above size before (Err ROOM-SHORT) before
  accepted : ¬ Above → size ≤ length before → {after : List ℕ} → Ends Above size before (Ok size) after

module _ {Above : Type 0} {size : ℕ} {before : List ℕ} where
  ends_as : (w : Write) {r : Result ℕ House} {after : List ℕ} → Ends Above size before (wrote_of w) (left_in w before) → Meets w before r after → Ends Above size before (answer_of r) after
  ends_as w {r} {after} e m = subst (λ l. Ends Above size before (answer_of r) l) (sym m.leaves) (subst (λ a. Ends Above size before a (left_in w before)) (sym m.answers) e)

  ends : (o : Option (List ℕ)) → (o ≡ none → Above) → ((bytes : List ℕ) → o ≡ some bytes → (¬ Above) × (length bytes ≡ size)) → Ends Above size before (wrote_of (into (length before) o)) (left_in (into (length before) o) before)
  unfolding into wrote_of left_in
  ends none above fine = eight (above refl)
  ends (some bytes) above fine = by (fine bytes refl).0 (ltb (length before) (length bytes)) refl
    where
      by : ¬ Above → (b : Bool) → ltb (length before) (length bytes) ≡ b → let w : Write = elim b [ true ↦ refused ROOM-SHORT | false ↦ wrote bytes ] in Ends Above size before (wrote_of w) (left_in w before)
      by n true e = seven n (let l = (fine bytes refl).1 in let x = ltb→lt (length before) (length bytes) (rw e tt) in omega arith)
      by n false e = let l = (fine bytes refl).1 in let x = nltb→le (length before) (length bytes) (rw e tt) in rw l (accepted n (omega arith))

-- which integers cannot be written
row_none : (r : Row) (v : ℕ) (o : Option (List ℕ)) → ◌≡◌ {A = Option (List ℕ)} (elim (leb v r.top) [ true ↦ some (in_row r v) | false ↦ o ]) none → (r.top < v) × (o ≡ none)
row_none r v o e = by (leb v r.top) refl e
  where
    by : (b : Bool) → leb v r.top ≡ b → ◌≡◌ {A = Option (List ℕ)} (elim b [ true ↦ some (in_row r v) | false ↦ o ]) none → (r.top < v) × (o ≡ none)
    by true q e = let z : ◌≡◌ {A = ℕ} 0 1 = cc in absurd (omega arith)
    by false q e = (nleb→lt v r.top (rw q tt), e)

above_none : (v : ℕ) → written v ≡ none → largest < v
unfolding written rows in_first largest
above_none v e = (row_none _ v _ (row_none _ v _ (row_none _ v _ (row_none _ v _ e).1).1).1).0

none_above : (v : ℕ) → largest < v → written v ≡ none
unfolding written rows in_first largest
none_above v h =
    let x = lt-leb v 63 (omega arith) in
    let y = lt-leb v 16_383 (omega arith) in
    let z = lt-leb v 1_073_741_823 (omega arith) in
    let w = lt-leb v 4_611_686_018_427_387_903 (omega arith) in
    rw (x, in_first) (rw (y, in_first) (rw (z, in_first) (rw (w, in_first) refl)))

some_none : {bytes : List ℕ} {o : Option (List ℕ)} → o ≡ some bytes → o ≡ none → ⊥
some_none e f = let z : ◌≡◌ {A = ℕ} 0 1 = cc in omega arith

within : (v : ℕ) (bytes : List ℕ) → written v ≡ some bytes → (¬ (largest < v)) × (length bytes ≡ size_of v)
unfolding bytes_of
within v bytes e = (λ h. some_none e (none_above v h), sym (ap (λ o. length (bytes_of o)) e))

either_none : (o p : Option (List ℕ)) → both o p ≡ none → (o ≡ none) ⊎ (p ≡ none)
unfolding both
either_none none p e = inl refl
either_none (some x) none e = inr refl
either_none (some x) (some y) e = let z : ◌≡◌ {A = ℕ} 0 1 = cc in absurd (omega arith)

-- a header
abbrev pub EitherAbove : ℕ → ℕ → Type 0
EitherAbove a b = (largest < a) ⊎ (largest < b)

neither : {a b : ℕ} → ¬ (largest < a) → ¬ (largest < b) → ¬ (EitherAbove a b)
neither n m (inl h) = n h
neither n m (inr h) = m h

header_above : (type len : ℕ) → frame_header_bytes type len ≡ none → EitherAbove type len
unfolding frame_header_bytes
header_above type len e = by (either_none (written type) (written len) e)
  where
    by : (written type ≡ none) ⊎ (written len ≡ none) → EitherAbove type len
    by (inl q) = inl (above_none type q)
    by (inr q) = inr (above_none len q)

header_within : (type len : ℕ) (bytes : List ℕ) → frame_header_bytes type len ≡ some bytes → (¬ (EitherAbove type len)) × (length bytes ≡ size_of type + size_of len)
unfolding frame_header_bytes
header_within type len bytes e =
    let t = two (written type) (written len) bytes e in
    let x = within type t.front t.is_front in
    let y = within len t.back t.is_back in
    (neither x.0 y.0, omega (arith, t.long, x.1, y.1))

-- a frame of one integer: the length of its payload takes one byte
pub frame_above : (type v : ℕ) (o : Option (List ℕ)) → written v ≡ o → integer_frame type o ≡ none → EitherAbove type v
unfolding integer_frame
frame_above type v none w e = inr (above_none v w)
frame_above type v (some p) w e = by (either_none (frame_header_bytes type (length p)) (some p) e)
  where
    small : ¬ (largest < length p)
    small h = let x = size_few v in let y = (within v p w).1 in let z = none_above (length p) h in let o = size_one (length p) (omega arith) in absurd (some_none (size_some (length p) (omega arith)) z)

    only : EitherAbove type (length p) → EitherAbove type v
    only (inl h) = inl h
    only (inr h) = absurd (small h)

    by : (frame_header_bytes type (length p) ≡ none) ⊎ (some p ≡ none) → EitherAbove type v
    by (inl q) = only (header_above type (length p) q)
    by (inr q) = absurd (some_none refl q)

frame_within : (type v : ℕ) (o : Option (List ℕ)) → written v ≡ o → (bytes : List ℕ) → integer_frame type o ≡ some bytes → (¬ (EitherAbove type v)) × (length bytes ≡ size_of type + 1 + size_of v)
unfolding integer_frame frame_header_bytes
frame_within type v none w bytes e = absurd (some_none e refl)
frame_within type v (some p) w bytes e =
    let t = two (frame_header_bytes type (length p)) (some p) bytes e in
    let u = two (written type) (written (length p)) t.front t.is_front in
    let same : p ≡ t.back = (let q = t.is_back in cc) in
    let long : length p ≡ length t.back = ap length same in
    let one = one_long v p u.back w u.is_back in
    let x = within type u.front u.is_front in
    let y = within v p w in
    (neither x.0 y.0, omega (arith, t.long, u.long, x.1, y.1, long, one))

-- the write ends so, whatever the answer of a call is
module _ (before : List ℕ) where
  integer_left : (v : ℕ) → let w = write_integer (length before) v in Ends (largest < v) (size_of v) before (wrote_of w) (left_in w before)
  unfolding write_integer
  integer_left v = ends (written v) (above_none v) (within v)

  header_left : (type len : ℕ) → let w = write_header (length before) type len in Ends (EitherAbove type len) (size_of type + size_of len) before (wrote_of w) (left_in w before)
  unfolding write_header
  header_left type len = ends (frame_header_bytes type len) (header_above type len) (header_within type len)

  integer_frame_left : (type v : ℕ) → let w = write_integer_frame (length before) type v in Ends (EitherAbove type v) (size_of type + 1 + size_of v) before (wrote_of w) (left_in w before)
  unfolding write_integer_frame
  integer_frame_left type v = ends (integer_frame type (written v)) (frame_above type v (written v) refl) (frame_within type v (written v) refl)

  opening_left : let w = write_opening (length before) in Ends ⊥ 12 before (wrote_of w) (left_in w before)
  unfolding write_opening opening hex hex_from nibble between
  opening_left = ends (some opening) (λ q. absurd (some_none refl q)) (λ bytes e. (λ n. n, (let q : opening ≡ bytes = cc in ap length (sym q))))

module _ {before after : List ℕ} {r : Result ℕ House} where
  -- ONE INTEGER
  pub integer_ends : (v : ℕ) → Meets (write_integer (length before) v) before r after → Ends (largest < v) (size_of v) before (answer_of r) after
  integer_ends v m = ends_as (write_integer (length before) v) (integer_left before v) m

  -- A FRAME HEADER
  pub header_ends : (type len : ℕ) → Meets (write_header (length before) type len) before r after → Ends (EitherAbove type len) (size_of type + size_of len) before (answer_of r) after
  header_ends type len m = ends_as (write_header (length before) type len) (header_left before type len) m

  -- AN INTEGER FRAME
  pub integer_frame_ends : (type v : ℕ) → Meets (write_integer_frame (length before) type v) before r after → Ends (EitherAbove type v) (size_of type + 1 + size_of v) before (answer_of r) after
  integer_frame_ends type v m = ends_as (write_integer_frame (length before) type v) (integer_frame_left before type v) m

  -- OUR CONTROL OPENING: no value in it is above
  pub opening_ends : Meets (write_opening (length before)) before r after → Ends ⊥ 12 before (answer_of r) after
  opening_ends m = ends_as (write_opening (length before)) (opening_left before) m

-- ---- our control opening

-- numbers one behind the other, each in its shortest form
unfoldable pub in_turn : List ℕ → Option (List ℕ)
in_turn [] = some []
in_turn (v ∷ vs) = both (written v) (in_turn vs)

abbrev pub twelve : List ℕ
twelve = hex "00 04 09 01 00 06 80 00 40 00 07 00"

-- what these bytes say: a control stream by its type, and on it SETTINGS with 6: 16,384, 1: 0 and 7: 0; ended there, it is a critical stream closed
pub record OpensControl (bytes : List ℕ) : Type 0 where
  pub payload : List ℕ
  pub is_control : one_way_read [] bytes ≡ of_control (record { said = header (head 1 3 4 9) (kept settings) ∷ frame_kept settings payload ∷ []; verdict = fault (of_connection closed_critical_stream) 12 })
  pub its_settings : tells settings payload ≡ told_settings (record { section_size = some 16_384; table_capacity = 0; blocked_streams = 0 })
  pub its_numbers : some bytes ≡ in_turn (0 ∷ 4 ∷ 9 ∷ 1 ∷ 0 ∷ 6 ∷ 16_384 ∷ 7 ∷ 0 ∷ [])

twelve_opens : OpensControl twelve
unfolding opening in_turn both written rows in_first in_row low hex hex_from nibble between
twelve_opens = record { payload = opening_back.0; is_control = opening_back.1; its_settings = opening_back.2; its_numbers = refl }

-- OUR CONTROL OPENING: accepted, the room begins with document 01's twelve bytes, and they are read as a control stream with these settings
pub opening_read : {before after : List ℕ} {n : ℕ} → Meets (write_opening (length before)) before (Ok n) after → (n ≡ 12) × (after ≡ twelve ++ drop 12 before) × OpensControl twelve
unfolding write_opening opening hex hex_from nibble between
opening_read {before} {after} {n} m =
    let p = was_put (write_opening (length before)) m in
    let q : twelve ≡ p.bytes = (let i = into_some (length before) (some opening) p.is in cc) in
    let e : n ≡ 12 = p.count ∙ ap length (sym q) in
    (e, p.leaves ∙ ap (λ b. b ++ drop n before) (sym q) ∙ ap (λ k. twelve ++ drop k before) e, twelve_opens)

-- ---- the plain writes, over the lent calls: the answer is a number and a count

-- where the number is 0, the write was accepted, and the count is what was written
module _ {Above : Type 0} {size : ℕ} {before : List ℕ} {r : Written} where
  counted : {a : Wrote} {after : List ℕ} → Ends Above size before a after → r ≡ written_of a → r.number ≡ 0 → a ≡ Ok r.count
  counted (eight h) e z = let x : r.number ≡ BAD-VALUE = ap (λ y. y.number) e in absurd (omega arith)
  counted (seven n l) e z = let x : r.number ≡ ROOM-SHORT = ap (λ y. y.number) e in absurd (omega arith)
  counted (accepted n l) e z = sym (ap (λ y. Ok y.count) e)

  lent_meets : (w : Write) {after : List ℕ} → Ends Above size before (wrote_of w) (left_in w before) → WroteInto w before r after → r.number ≡ 0 → Meets w before (Ok r.count) after
  lent_meets w f m z = record { answers = sym (counted f m.answered z); leaves = m.room_left }

  -- and whatever it is, it is one of the three
  lent_ends : (w : Write) {after : List ℕ} → Ends Above size before (wrote_of w) (left_in w before) → WroteInto w before r after → (a : Wrote) × (r ≡ written_of a) × Ends Above size before a after
  lent_ends w f m = (wrote_of w, m.answered, subst (λ l. Ends Above size before (wrote_of w) l) (sym m.room_left) f)

module _ {before after : List ℕ} {r : Written} where
  -- A FRAME HEADER
  module _ (type len : ℕ) (m : WroteHeader type len before r after) where
    pub lent_header_ends : (a : Wrote) × (r ≡ written_of a) × Ends (EitherAbove type len) (size_of type + size_of len) before a after
    lent_header_ends = lent_ends (write_header (length before) type len) (header_left before type len) m

    pub lent_header : r.number ≡ 0 → Meets (write_header (length before) type len) before (Ok r.count) after
    lent_header = lent_meets (write_header (length before) type len) (header_left before type len) m

    pub lent_header_read : r.number ≡ 0 → (payload rest : List ℕ) → length payload ≡ len
        → (bytes : List ℕ) × (r.count ≡ length bytes) × (after ≡ bytes ++ drop r.count before) × (frames_from 0 (bytes ++ (payload ++ rest)) ≡ frame (head 0 r.count type len) payload (frames_from (r.count + len) rest))
    lent_header_read z = header_read type len (lent_header z)

    pub lent_header_shortest : r.number ≡ 0 → {bs : List ℕ} {from : ℕ} {payload : List ℕ} → Bytes bs → first_of (frames_from 0 bs) ≡ some (head 0 from type len, payload) → r.count ≤ from
    lent_header_shortest z = header_shortest type len (lent_header z)

  -- AN INTEGER FRAME
  module _ (type v : ℕ) (m : WroteIntegerFrame type v before r after) where
    pub lent_integer_frame_ends : (a : Wrote) × (r ≡ written_of a) × Ends (EitherAbove type v) (size_of type + 1 + size_of v) before a after
    lent_integer_frame_ends = lent_ends (write_integer_frame (length before) type v) (integer_frame_left before type v) m

    pub lent_integer_frame : r.number ≡ 0 → Meets (write_integer_frame (length before) type v) before (Ok r.count) after
    lent_integer_frame = lent_meets (write_integer_frame (length before) type v) (integer_frame_left before type v) m

    pub lent_integer_frame_read : r.number ≡ 0 → BeginsFrame type v r.count before after
    lent_integer_frame_read z = integer_frame_read type v (lent_integer_frame z)

    pub lent_integer_frame_shortest : r.number ≡ 0 → {bs : List ℕ} {from len : ℕ} {payload : List ℕ} → Bytes bs
        → first_of (frames_from 0 bs) ≡ some (head 0 from type len, payload) → {next : ℕ} {rest : List ℕ} → integer 0 payload ≡ got v next rest → r.count ≤ from + next
    lent_integer_frame_shortest z = integer_frame_shortest type v (lent_integer_frame z)

  -- OUR CONTROL OPENING
  module _ (m : WroteOpening before r after) where
    pub lent_opening_ends : (a : Wrote) × (r ≡ written_of a) × Ends ⊥ 12 before a after
    lent_opening_ends = lent_ends (write_opening (length before)) (opening_left before) m

    pub lent_opening_read : r.number ≡ 0 → (r.count ≡ 12) × (after ≡ twelve ++ drop 12 before) × OpensControl twelve
    lent_opening_read z = opening_read (lent_meets (write_opening (length before)) (opening_left before) m z)

-- ---- our GOAWAY, over the lent call

number_one : {n m : ℕ} → refused n ≡ refused m → n ≡ m
number_one e = cc

no_wrote : {bytes : List ℕ} {n : ℕ} → wrote bytes ≡ refused n → ⊥
no_wrote e = let z : ◌≡◌ {A = ℕ} 0 1 = cc in omega arith

-- a refusal has a number
refused_into : (room : ℕ) (o : Option (List ℕ)) (n : ℕ) → into room o ≡ refused n → n ≡ 0 → ⊥
unfolding into
refused_into room none n e z = let x = number_one e in omega arith
refused_into room (some bytes) n e z = by (ltb room (length bytes)) e
  where
    by : (b : Bool) → ◌≡◌ {A = Write} (elim b [ true ↦ refused ROOM-SHORT | false ↦ wrote bytes ]) (refused n) → ⊥
    by true e = let x = number_one e in omega arith
    by false e = no_wrote e

unrefused : (sent : Option ℕ) (room id n : ℕ) → write_goaway sent room id ≡ refused n → n ≡ 0 → ⊥
unfolding write_goaway write_integer_frame
unrefused sent room id n e z = by (bad_goaway sent id) e
  where
    by : (b : Bool) → ◌≡◌ {A = Write} (elim b [ true ↦ refused BAD-VALUE | false ↦ into room (integer_frame 7 (written id)) ]) (refused n) → ⊥
    by true e = let x = number_one e in omega arith
    by false e = refused_into room (integer_frame 7 (written id)) n e z

-- one that is written is an integer frame of type 7
as_frame : (sent : Option ℕ) (room id : ℕ) {bytes : List ℕ} → write_goaway sent room id ≡ wrote bytes → write_integer_frame room 7 id ≡ wrote bytes
unfolding write_goaway
as_frame sent room id {bytes} e = by (bad_goaway sent id) e
  where
    by : (b : Bool) → ◌≡◌ {A = Write} (elim b [ true ↦ refused BAD-VALUE | false ↦ write_integer_frame room 7 id ]) (wrote bytes) → write_integer_frame room 7 id ≡ wrote bytes
    by true e = let z : ◌≡◌ {A = ℕ} 0 1 = cc in absurd (omega arith)
    by false e = e

module _ (d : Doors) (id : ℕ) (before after : List ℕ) where
  sent_by : (code : ℕ) (g : Goaway) → g ≡ sending_of d (stream_id id) (write_of code d id (length before)) → after ≡ left_in (write_of code d id (length before)) before → g.number ≡ 0
      → Put (write_integer_frame (length before) 7 id) before after g.count
  unfolding write_of sending_of left_in
  sent_by (suc c) g e f z = let x : g.number ≡ suc c = ap (λ y. y.number) e in absurd (omega arith)
  sent_by zero g e f z = by (write_goaway (sent_in d) (length before) id) refl e f
    where
      by : (w : Write) → write_goaway (sent_in d) (length before) id ≡ w → g ≡ sending_of d (stream_id id) w → after ≡ left_in w before → Put (write_integer_frame (length before) 7 id) before after g.count
      by (refused n) q e f = absurd (unrefused (sent_in d) (length before) id n q (sym (ap (λ y. y.number) e) ∙ z))
      by (wrote bytes) q e f = let c : g.count ≡ length bytes = ap (λ y. y.count) e in
          record { bytes = bytes; is = as_frame (sent_in d) (length before) id q; count = c; leaves = f ∙ ap (λ k. bytes ++ drop k before) (sym c) }

module _ {c c' : Connection} {id : ℕ} {before after : List ℕ} {w : Written} (s : SaidGoaway c id before c' after w) (z : w.number ≡ 0) where
  goaway_put : Put (write_integer_frame (length before) 7 id) before after w.count
  goaway_put =
      let g = s.goes.sent in
      let e = s.goes.is in
      let n : g.number ≡ 0 = sym (ap (λ y. y.written.number) e) ∙ sym (ap (λ y. y.number) s.answered) ∙ z in
      let k : w.count ≡ g.count = ap (λ y. y.count) s.answered ∙ ap (λ y. y.written.count) e in
      rw k (sent_by (doors_in c) id before after c.doors.code g s.goes.sends.answers s.goes.sends.leaves n)

  -- OUR GOAWAY: accepted, the room begins with one frame of type 7 that holds this ID and nothing else
  pub goaway_read : BeginsFrame 7 id w.count before after
  goaway_read = begins_frame (length before) 7 id goaway_put

  -- IN THE SHORTEST FORM: no bytes that begin a frame of type 7 with this ID have fewer up to the ID's end
  pub goaway_shortest : {bs : List ℕ} {from len : ℕ} {payload : List ℕ} → Bytes bs → first_of (frames_from 0 bs) ≡ some (head 0 from 7 len, payload) → {next : ℕ} {rest : List ℕ} → integer 0 payload ≡ got id next rest
      → w.count ≤ from + next
  goaway_shortest b e h = least (length before) 7 id goaway_put b e h
