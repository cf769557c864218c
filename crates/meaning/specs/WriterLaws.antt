-- What the writer writes (rules, Writer) reads back as those same frames, before any type is judged. Assumes nothing.
use Rattle.std.specs.Prelude.{◌≡◌, refl, ℕ, ◌+◌, ◌%◌, ◌^◌, ◌≤◌, ◌<◌, List, [], ◌∷◌, ◌++◌, Bool, true, false, ltb, length}
use Rattle.std.proofs.Common.{sym, ap, ◌∙◌, arith, append_assoc, append-nil, true≢false, nltb→le, length-append, eq-eqb, ne_eqb, lt-ltb, le-ltb, ltb-true, ltb-false}
use Rattle.std.proofs.Math.Decide.{ℕ_discrete, dec_lt}
use Rattle.std.proofs.Math.Option.{Option, none, some, none-ne-some, some-injective}
use Rattle.rules.specs.Numbers.{of_connection, closed_critical_stream}
use Rattle.rules.specs.Integers.{got, integer, written, largest}
use Rattle.rules.specs.Frames.{frame, frames_from}
use Rattle.rules.specs.Reading.{header, frame_kept, settings, kept, fault}
use Rattle.rules.specs.Control.{told_settings, tells}
use Rattle.rules.specs.OneWay.{of_control, one_way_read}
use Rattle.rules.specs.Writer.{Write, wrote, refused, into, both, write_integer, frame_header_bytes, write_header, integer_frame, write_integer_frame, opening, is_higher, bad_goaway, write_goaway}
use Rattle.rules.specs.Worked.{answer}
use Rattle.meaning.specs.IntegerLaws.{written_reads}
use Rattle.meaning.specs.FrameLaws.{head, frame_back}

-- ---- what was written was there to be written, and fits the room

into_view : (room : ℕ) (o : Option (List ℕ)) (bs : List ℕ) → into room o ≡ wrote bs → (o ≡ some bs) × (length bs ≤ room)
unfolding into
into_view room none bs e = let z : ◌≡◌ {A = ℕ} 0 1 = cc in absurd (omega arith)
into_view room (some x) bs e = go (ltb room (length x)) refl e
  where
    go : (y : Bool) → ltb room (length x) ≡ y → ◌≡◌ {A = Write} (elim y [ true ↦ refused 7 | false ↦ wrote x ]) (wrote bs) → (◌≡◌ {A = Option (List ℕ)} (some x) (some bs)) × (length bs ≤ room)
    go true h e = let z : ◌≡◌ {A = ℕ} 0 1 = cc in absurd (omega arith)
    go false h e = let p : x ≡ bs = cc in (ap some p, rw (← p) (nltb→le room (length x) (rw h tt)))

both_view : {A : Type 0} (o p : Option (List ℕ)) (bs : List ℕ) → both o p ≡ some bs → ((x y : List ℕ) → o ≡ some x → p ≡ some y → x ++ y ≡ bs → A) → A
unfolding both
both_view none p bs e f = let z : ◌≡◌ {A = ℕ} 0 1 = cc in absurd (omega arith)
both_view (some x) none bs e f = let z : ◌≡◌ {A = ℕ} 0 1 = cc in absurd (omega arith)
both_view (some x) (some y) bs e f = f x y refl refl (cc)

-- ---- a bare integer

pub integer_back : (room v at : ℕ) (bs rest : List ℕ) → write_integer room v ≡ wrote bs → integer at (bs ++ rest) ≡ got v (at + length bs) rest
unfolding write_integer
integer_back room v at bs rest e = written_reads v at bs rest (into_view room (written v) bs e).0

-- ---- a frame header, with any payload of that length and anything behind it

bytes_back : (type len at : ℕ) (bs pay rest : List ℕ) → frame_header_bytes type len ≡ some bs → length pay ≡ len
    → frames_from at (bs ++ (pay ++ rest)) ≡ frame (head at (at + length bs) type len) pay (frames_from (at + length bs + len) rest)
unfolding frame_header_bytes
bytes_back type len at bs pay rest e l = both_view (written type) (written len) bs e
    (λ x y ex ey p.
    (let n = length-append x y in
    let m : at + length x + length y ≡ at + length (x ++ y) = omega arith in
    rw (← p, append_assoc x y (pay ++ rest), ← m) (frame_back at type len x y pay rest ex ey l)))

pub header_back : (room type len at : ℕ) (bs pay rest : List ℕ) → write_header room type len ≡ wrote bs → length pay ≡ len
    → frames_from at (bs ++ (pay ++ rest)) ≡ frame (head at (at + length bs) type len) pay (frames_from (at + length bs + len) rest)
unfolding write_header
header_back room type len at bs pay rest e l = bytes_back type len at bs pay rest (into_view room (frame_header_bytes type len) bs e).0 l

-- ---- an integer frame

pub record FrameBack (at type v : ℕ) (bs rest : List ℕ) : Type 0 where
  pub from : ℕ
  pub payload : List ℕ
  pub reads : frames_from at (bs ++ rest) ≡ frame (head at from type (length payload)) payload (frames_from (at + length bs) rest)
  pub holds : integer 0 payload ≡ got v (length payload) []  -- the integer is the whole payload

frame_bytes_back : (type v at : ℕ) (bs rest : List ℕ) (o : Option (List ℕ)) → written v ≡ o → integer_frame type o ≡ some bs → FrameBack at type v bs rest
unfolding integer_frame
frame_bytes_back type v at bs rest none w e = let z : ◌≡◌ {A = ℕ} 0 1 = cc in absurd (omega arith)
frame_bytes_back type v at bs rest (some p) w e = both_view (frame_header_bytes type (length p)) (some p) bs e
    (λ x y ex ey j.
    (let q : p ≡ y = cc in
    let z : 0 + length p ≡ length p = omega arith in
    let n = length-append x p in
    let m : at + length (x ++ p) ≡ at + length x + length p = omega arith in
    let i = written_reads v 0 p [] w in
    let i' : integer 0 p ≡ got v (0 + length p) [] = rw (append-nil p) at i in
    let j' : x ++ p ≡ bs = ap (λ l. x ++ l) q ∙ j in
    record {
      from = at + length x;
      payload = p;
      reads = rw (← j', m, append_assoc x p rest) (bytes_back type (length p) at x p rest ex refl);
      holds = rw z at i';
    }))

pub integer_frame_back : (room type v at : ℕ) (bs rest : List ℕ) → write_integer_frame room type v ≡ wrote bs → FrameBack at type v bs rest
unfolding write_integer_frame
integer_frame_back room type v at bs rest e = frame_bytes_back type v at bs rest (written v) refl (into_view room (integer_frame type (written v)) bs e).0

-- ---- our GOAWAY is such a frame, of type 7

pub goaway_back : (sent : Option ℕ) (room id at : ℕ) (bs rest : List ℕ) → write_goaway sent room id ≡ wrote bs → FrameBack at 7 id bs rest
unfolding write_goaway
goaway_back sent room id at bs rest e = go (bad_goaway sent id) e
  where
    go : (x : Bool) → ◌≡◌ {A = Write} (elim x [ true ↦ refused 8 | false ↦ write_integer_frame room 7 id ]) (wrote bs) → FrameBack at 7 id bs rest
    go true e = let z : ◌≡◌ {A = ℕ} 0 1 = cc in absurd (omega arith)
    go false e = integer_frame_back room 7 id at bs rest e

-- ---- our control opening: a control stream by its type, and SETTINGS {1: 0, 6: 16,384, 7: 0}, by our own reading

pub opening_back : (payload : List ℕ)
    × (one_way_read [] opening ≡ of_control (record {
      said = header (head 1 3 4 9) (kept settings) ∷ frame_kept settings payload ∷ [];
      verdict = fault (of_connection closed_critical_stream) 12;
    }))
    × (tells settings payload ≡ told_settings (record { section_size = some 16_384; table_capacity = 0; blocked_streams = 0 }))
unfolding answer opening
opening_back = (0x01 ∷ 0x00 ∷ 0x06 ∷ 0x80 ∷ 0x00 ∷ 0x40 ∷ 0x00 ∷ 0x07 ∷ 0x00 ∷ [], refl, refl)

-- ---- which IDs our GOAWAY may have: a request's, below 2^62, no higher than the last

pub record MaySend (sent : Option ℕ) (id : ℕ) : Type 0 where
  pub asks : id % 4 ≡ 0
  pub low : id < 2 ^ 62
  pub falls : (m : ℕ) → sent ≡ some m → id ≤ m

not_higher : (sent : Option ℕ) (id : ℕ) → is_higher id sent ≡ false → (m : ℕ) → sent ≡ some m → id ≤ m
unfolding is_higher
not_higher none id h m e = absurd (none-ne-some m e)
not_higher (some j) id h m e = let q : j ≡ m = some-injective j m e in let l = ltb-false j id h in omega arith

is_higher_lem : (sent : Option ℕ) (id : ℕ) → is_higher id sent ≡ true → ¬ ((m : ℕ) → sent ≡ some m → id ≤ m)
unfolding is_higher
is_higher_lem none id h f = true≢false (sym h)
is_higher_lem (some j) id h f = let l = ltb-true j id h in let k = f j refl in omega arith

pub may_send : (sent : Option ℕ) (id : ℕ) → (bad_goaway sent id ≡ false → MaySend sent id) × (bad_goaway sent id ≡ true → ¬ MaySend sent id)
unfolding bad_goaway largest
may_send sent id = by (ℕ_discrete (id % 4) 0) (dec_lt id (2 ^ 62)) (is_higher id sent) refl
  where
    by : Dec (id % 4 ≡ 0) → Dec (id < 2 ^ 62) → (h : Bool) → is_higher id sent ≡ h → (bad_goaway sent id ≡ false → MaySend sent id) × (bad_goaway sent id ≡ true → ¬ MaySend sent id)
    by (no n) b h e = let x = ne_eqb (id % 4) 0 n in let t : bad_goaway sent id ≡ true = rw (x, bad_goaway) refl in (λ q. absurd (true≢false (sym t ∙ q)), λ q w. n w.asks)
    by (yes m) (no n) h e = let x = eq-eqb (id % 4) 0 m in let y = lt-ltb 4_611_686_018_427_387_903 id (omega arith) in
        let t : bad_goaway sent id ≡ true = rw (x, y, bad_goaway) refl in (λ q. absurd (true≢false (sym t ∙ q)), λ q w. n w.low)
    by (yes m) (yes b) h e =
        let x = eq-eqb (id % 4) 0 m in let y = le-ltb 4_611_686_018_427_387_903 id (omega arith) in
        let t : bad_goaway sent id ≡ is_higher id sent = rw (x, y, bad_goaway) refl in
        (λ q. record { asks = m; low = b; falls = not_higher sent id (sym t ∙ q) }, λ q w. is_higher_lem sent id (sym t ∙ q) w.falls)
