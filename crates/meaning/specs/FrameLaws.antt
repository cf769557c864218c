-- Frames (rules, Frames): one law for each way a frame can come, that the fuel never runs out, that complete frames and what follows them
-- are read apart, and that a written frame reads back before any type is judged. Assumes nothing.
use Rattle.std.specs.Prelude.{◌≡◌, refl, ℕ, zero, suc, ◌+◌, ◌≤◌, ◌<◌, List, [], ◌∷◌, ◌++◌, Bool, true, false, ltb, length, take, drop}
use Rattle.std.proofs.Common.{sym, ap, ◌∙◌, arith, ltb→lt, nltb→le, length-append, length-drop, length-take-le, take_at, drop_at}
use Rattle.std.proofs.Math.Option.{some}
use Rattle.std.proofs.lemmas.List.{take-append-le, drop-append-le}
use borrow.Author.Tests.{lt-ltb, le-ltb}
use Rattle.rules.specs.Integers.{Int, cut, got, integer, written}
use Rattle.rules.specs.Frames.{Header, Frames, Frames.none as no_more, in_header, in_payload, frame, frames_up_to, frames_from}
use Rattle.meaning.specs.IntegerLaws.{integer_length, integer_append, written_reads}

-- ---- the ways a frame can come

abbrev pub head : (at from type len : ℕ) → Header
head at from type len = record { at = at; from = from; type = type; len = len }

-- what the first frame of some bytes is, and the frames behind it
pub data View (fuel at : ℕ) (bs : List ℕ) : Frames → Type 0 where
  cut_type : integer at bs ≡ cut → View fuel at bs in_header
  cut_length : {t here : ℕ} {rest : List ℕ} → integer at bs ≡ got t here rest → integer here rest ≡ cut → View fuel at bs in_header
  cut_payload : {t here len from : ℕ} {rest pay : List ℕ} → integer at bs ≡ got t here rest → integer here rest ≡ got len from pay → length pay < len
      → View fuel at bs (in_payload (head at from t len) pay)
  a_frame : {t here len from : ℕ} {rest pay : List ℕ} → integer at bs ≡ got t here rest → integer here rest ≡ got len from pay → len ≤ length pay
      → View fuel at bs (frame (head at from t len) (take len pay) (frames_up_to fuel (from + len) (drop len pay)))

module _ (fuel at b : ℕ) (bs : List ℕ) where
  view_payload : {t here len from : ℕ} {rest pay : List ℕ} → integer at (b ∷ bs) ≡ got t here rest → integer here rest ≡ got len from pay
      → (x : Bool) → ltb (length pay) len ≡ x
      → View fuel at (b ∷ bs) (elim x [
        | true ↦ in_payload (head at from t len) pay
        | false ↦ frame (head at from t len) (take len pay) (frames_up_to fuel (from + len) (drop len pay))
      ])
  view_payload {len = len} {pay = pay} e f true x = cut_payload e f (ltb→lt (length pay) len (rw x tt))
  view_payload {len = len} {pay = pay} e f false x = a_frame e f (nltb→le (length pay) len (rw x tt))

  view_length : {t here : ℕ} {rest : List ℕ} → integer at (b ∷ bs) ≡ got t here rest → (y : Int) → integer here rest ≡ y
      → View fuel at (b ∷ bs) (elim y [
        | cut ↦ in_header
        | got len from pay ↦ elim (ltb (length pay) len) [
          | true ↦ in_payload (head at from t len) pay
          | false ↦ frame (head at from t len) (take len pay) (frames_up_to fuel (from + len) (drop len pay))
        ]
      ])
  view_length e cut f = cut_length e f
  view_length e (got len from pay) f = view_payload e f (ltb (length pay) len) refl

  view_type : (x : Int) → integer at (b ∷ bs) ≡ x → View fuel at (b ∷ bs) (frames_up_to (suc fuel) at (b ∷ bs))
  unfolding frames_up_to
  view_type cut e = rw (e, frames_up_to) (cut_type e)
  view_type (got t here rest) e = rw (e, frames_up_to) (view_length e (integer here rest) refl)

  pub view : View fuel at (b ∷ bs) (frames_up_to (suc fuel) at (b ∷ bs))
  view = view_type (integer at (b ∷ bs)) refl

  pub view_is : {fs : Frames} → View fuel at (b ∷ bs) fs → frames_up_to (suc fuel) at (b ∷ bs) ≡ fs
  unfolding frames_up_to
  view_is (cut_type e) = rw (e, frames_up_to)
  view_is (cut_length e f) = rw (e, frames_up_to, f)
  view_is (cut_payload {len = len} {pay = pay} e f l) = let y = lt-ltb (length pay) len l in rw (e, frames_up_to, f, y)
  view_is (a_frame {len = len} {pay = pay} e f l) = let y = le-ltb (length pay) len l in rw (e, frames_up_to, f, y)

pub frames_nil : (fuel at : ℕ) → frames_up_to fuel at [] ≡ no_more
unfolding frames_up_to
frames_nil zero at = refl
frames_nil (suc fuel) at = refl

-- ---- the fuel never runs out

refuel : (f g at b : ℕ) (bs : List ℕ) → ((at : ℕ) (xs : List ℕ) → length xs ≤ f → length xs ≤ g → frames_up_to f at xs ≡ frames_up_to g at xs)
    → length bs ≤ f → length bs ≤ g → {fs : Frames} → View f at (b ∷ bs) fs → fs ≡ frames_up_to (suc g) at (b ∷ bs)
refuel f g at b bs ih h k (cut_type e) = sym (view_is g at b bs (cut_type e))
refuel f g at b bs ih h k (cut_length e y) = sym (view_is g at b bs (cut_length e y))
refuel f g at b bs ih h k (cut_payload e y l) = sym (view_is g at b bs (cut_payload e y l))
refuel f g at b bs ih h k (a_frame {t = t} {here = here} {len = len} {from = from} {rest = rest} {pay = pay} e y l) =
    let p = integer_length at (b ∷ bs) e in
    let q = integer_length here rest y in
    let d = length-drop len pay in
    ap (frame (head at from t len) (take len pay)) (ih (from + len) (drop len pay) (omega arith) (omega arith)) ∙ sym (view_is g at b bs (a_frame e y l))

pub enough : (f g at : ℕ) (bs : List ℕ) → length bs ≤ f → length bs ≤ g → frames_up_to f at bs ≡ frames_up_to g at bs
enough zero g at [] h k = frames_nil zero at ∙ sym (frames_nil g at)
enough zero g at (b ∷ bs) h k = absurd (omega arith)
enough (suc f) g at [] h k = frames_nil (suc f) at ∙ sym (frames_nil g at)
enough (suc f) zero at (b ∷ bs) h k = absurd (omega arith)
enough (suc f) (suc g) at (b ∷ bs) h k = refuel f g at b bs (enough f g) (omega arith) (omega arith) (view f at b bs)

-- ---- complete frames, and what follows them

pub data Complete : Frames → Type 0 where
  none : Complete no_more
  one : {h : Header} {payload : List ℕ} {fs : Frames} → length payload ≡ h.len → Complete fs → Complete (frame h payload fs)

unfoldable pub join : Frames → Frames → Frames
join no_more gs = gs
join in_header gs = in_header
join (in_payload h part) gs = in_payload h part
join (frame h payload fs) gs = frame h payload (join fs gs)

-- frames that are all there, as a form alone; a payload is as long as its header says
pub data AllThere : Frames → Type 0 where
  none : AllThere no_more
  one : {h : Header} {payload : List ℕ} {fs : Frames} → AllThere fs → AllThere (frame h payload fs)

completes : (f at : ℕ) (bs : List ℕ) → AllThere (frames_up_to f at bs) → Complete (frames_up_to f at bs)
completes zero at bs a = unfold frames_up_to in Complete.none
completes (suc f) at [] a = unfold frames_up_to in Complete.none
completes (suc f) at (b ∷ bs) a = go (completes f) (view f at b bs) a
  where
    go : ((at : ℕ) (xs : List ℕ) → AllThere (frames_up_to f at xs) → Complete (frames_up_to f at xs)) → {fs : Frames} → View f at (b ∷ bs) fs → AllThere fs → Complete fs
    go ih (a_frame {len = len} {from = from} {pay = pay} e y l) (AllThere.one a) = Complete.one (length-take-le len pay l) (ih (from + len) (drop len pay) a)
    go ih (cut_type _) a = elim a [ ]
    go ih (cut_length _ _) a = elim a [ ]
    go ih (cut_payload _ _ _) a = elim a [ ]

pub complete_from : (at : ℕ) (bs : List ℕ) → AllThere (frames_from at bs) → Complete (frames_from at bs)
unfolding frames_from
complete_from at bs a = completes (length bs) at bs a

append_view : (f g at b : ℕ) (s t : List ℕ)
    → ((at : ℕ) (xs : List ℕ) → length xs ≤ f → length xs + length t ≤ g → AllThere (frames_up_to f at xs)
    → frames_up_to g at (xs ++ t) ≡ join (frames_up_to f at xs) (frames_from (at + length xs) t))
    → length s ≤ f → length s + length t ≤ g → {fs : Frames} → View f at (b ∷ s) fs → AllThere fs
    → frames_up_to (suc g) at (b ∷ s ++ t) ≡ join fs (frames_from (at + length (b ∷ s)) t)
unfolding join
append_view f g at b s t ih h k (a_frame {t = ty} {here = here} {len = len} {from = from} {rest = rest} {pay = pay} e y l) (AllThere.one a) =
    let p = integer_length at (b ∷ s) e in
    let q = integer_length here rest y in
    let d = length-drop len pay in
    let n = length-append pay t in
    let i = ih (from + len) (drop len pay) (omega arith) (omega arith) a in
    let z : from + len + length (drop len pay) ≡ at + suc (length s) = omega arith in
    let tk = take-append-le len pay t l in
    let dk = drop-append-le len pay t l in
    view_is g at b (s ++ t) (a_frame (integer_append at (b ∷ s) t e) (integer_append here rest t y) (omega arith))
    ∙ rw (tk, dk, ← z) (ap (frame (head at from ty len) (take len pay)) i)
append_view f g at b s t ih h k (cut_type _) a = elim a [ ]
append_view f g at b s t ih h k (cut_length _ _) a = elim a [ ]
append_view f g at b s t ih h k (cut_payload _ _ _) a = elim a [ ]

append_nothing : (f g at : ℕ) (t : List ℕ) → length t ≤ g → frames_up_to g at t ≡ join (frames_up_to f at []) (frames_from (at + 0) t)
unfolding frames_from join
append_nothing f g at t h =
    let z : at + 0 ≡ at = omega arith in
    let n = frames_nil f at in
    rw (z, n) (enough g (length t) at t h (omega arith))

append_frames : (f g at : ℕ) (s t : List ℕ) → length s ≤ f → length s + length t ≤ g → AllThere (frames_up_to f at s)
    → frames_up_to g at (s ++ t) ≡ join (frames_up_to f at s) (frames_from (at + length s) t)
unfolding frames_from
append_frames zero g at [] t h k a = append_nothing zero g at t (omega arith)
append_frames zero g at (b ∷ s) t h k a = absurd (omega arith)
append_frames (suc f) g at [] t h k a = append_nothing (suc f) g at t (omega arith)
append_frames (suc f) zero at (b ∷ s) t h k a = absurd (omega arith)
append_frames (suc f) (suc g) at (b ∷ s) t h k a =
    unfold frames_from in append_view f g at b s t (λ at xs. append_frames f g at xs t) (omega arith) (omega arith) (view f at b s) a

-- COMPLETE FRAMES AND WHAT FOLLOWS THEM are read apart
pub frames_append : (at : ℕ) (s t : List ℕ) → AllThere (frames_from at s) → frames_from at (s ++ t) ≡ join (frames_from at s) (frames_from (at + length s) t)
unfolding frames_from
frames_append at s t a =
    let n = length-append s t in
    unfold frames_from in append_frames (length s) (length (s ++ t)) at s t (omega arith) (omega arith) a

-- ---- a frame that is written reads back

not_nothing : (t : ℕ) → written t ≡ some [] → ⊥
unfolding integer
not_nothing t e = let i = written_reads t 0 [] [] e in let z : ◌≡◌ {A = ℕ} 0 1 = cc in omega arith

-- at every size of its two integers, whatever its type, whatever follows it
pub frame_back : (at t len : ℕ) (x y pay rest : List ℕ) → written t ≡ some x → written len ≡ some y → length pay ≡ len
    → frames_from at (x ++ (y ++ (pay ++ rest))) ≡ frame (head at (at + length x + length y) t len) pay (frames_from (at + length x + length y + len) rest)
unfolding frames_from
frame_back at t len [] y pay rest ex ey l = absurd (not_nothing t ex)
frame_back at t len (b ∷ x) y pay rest ex ey l =
    let i = written_reads t at (b ∷ x) (y ++ (pay ++ rest)) ex in
    let j = written_reads len (at + length (b ∷ x)) y (pay ++ rest) ey in
    let a = length-append pay rest in
    let n = length-append y (pay ++ rest) in
    let m = length-append x (y ++ (pay ++ rest)) in
    let k = take_at pay rest len l in
    let d = drop_at pay rest len l in
    let from = at + length (b ∷ x) + length y in
    let all = x ++ (y ++ (pay ++ rest)) in
    view_is (length all) at b all (a_frame i j (omega arith))
    ∙ rw (k, d) (ap (frame (head at from t len) pay) (enough (length all) (length rest) (from + len) rest (omega arith) (omega arith)))
