-- The line at a place, for each way that the input can go there. Assumes nothing.
use Prim.Native.Nat.{ℕ, zero, suc, ◌≤◌, ◌<◌}
use Rattle.std.proofs.Math.Path.{◌≡◌, refl, sym, ap}
use Rattle.std.proofs.Common.{◌∙◌, arith, ltb→lt, Some, None}
use mathlib.Core.List.{List, [], ◌∷◌}
use Rattle.std.specs.Prelude.{Bool, length, drop}
use Rattle.std.proofs.Math.Bool.{true, false}
use Rattle.std.proofs.Math.Dec.{ltb, nltb→le}
use Rattle.std.proofs.Math.ListN.{length-drop}
use borrow.Author.Tests.{lt-ltb, le-ltb}
use Rattle.rules.specs.Numbers.{FRAME-ERROR, REQUEST-INCOMPLETE}
use Rattle.rules.specs.Integers.{cut, got, integer}
use Rattle.rules.specs.Frames.{Frames.none as no_more, in_header, frames_from}
use Rattle.rules.specs.Message.{ends, tally}
use Rattle.rules.specs.Request.{end_of_ended, code_of}
use Rattle.meaning.specs.FrameLaws.{head, cut_type, cut_length, cut_payload, a_frame, view_is, frames_nil}
use Rattle.varint.specs.Whole.{Ended, Valued, ended_cut, ended_got}
use Rattle.listing.specs.Listing.{limit}
use Rattle.listing.specs.Lines.{phase_number, place, message_of, ruled_line, end_of, end_line, line_in, line_from, line_at}
use Rattle.listing.specs.declared.Place.{Place}
use Rattle.std.specs.Prelude.{Some}
use Rattle.listing.specs.declared.Phase.TheVariants.{Opening}
use Rattle.listing.specs.declared.Line.{Line}
use Rattle.listing.specs.declared.Line.TheVariants.{Heading, Whole, Refused, TooLong}
use Rattle.frames.specs.Modes.{OPENING, TRAILED}

-- ---- the first of the frames from an offset on

module _ (at : ℕ) where
  pub frames_none : (bs : List ℕ) → length bs ≤ 0 → frames_from at bs ≡ no_more
  unfolding frames_from
  frames_none [] h = frames_nil 0 at
  frames_none (b ∷ bs) h = absurd (omega arith)

  frames_type : (bs : List ℕ) → 0 < length bs → integer at bs ≡ cut → frames_from at bs ≡ in_header
  unfolding frames_from
  frames_type [] h e = absurd (omega arith)
  frames_type (b ∷ bs) h e = view_is (length bs) at b bs (cut_type e)

  frames_length : (bs : List ℕ) {t here : ℕ} {rest : List ℕ} → integer at bs ≡ got t here rest → integer here rest ≡ cut → frames_from at bs ≡ in_header
  unfolding frames_from integer
  frames_length [] e f = let z : ◌≡◌ {A = ℕ} 0 1 = cc in absurd (omega arith)
  frames_length (b ∷ bs) e f = view_is (length bs) at b bs (cut_length e f)

  header_line : (total : ℕ) (p : Place) (bs : List ℕ) {t here len from : ℕ} {rest pay : List ℕ} → integer at bs ≡ got t here rest → integer here rest ≡ got len from pay
      → line_in total p (frames_from at bs) ≡ ruled_line p (head at from t len)
  unfolding frames_from integer line_in
  header_line total p [] e f = let z : ◌≡◌ {A = ℕ} 0 1 = cc in absurd (omega arith)
  header_line total p (b ∷ bs) {t = t} {len = len} {from = from} {pay = pay} e f = go (ltb (length pay) len) refl
    where
      go : (x : Bool) → ltb (length pay) len ≡ x → line_in total p (frames_from at (b ∷ bs)) ≡ ruled_line p (head at from t len)
      go true x = ap (line_in total p) (view_is (length bs) at b bs (cut_payload e f (ltb→lt (length pay) len (rw x tt))))
      go false x = ap (line_in total p) (view_is (length bs) at b bs (a_frame e f (nltb→le (length pay) len (rw x tt))))

-- ---- the line

module _ (s : List ℕ) (p : Place) where
  pub line_too_long : 65_536 < length s → TooLong ≡ line_at s p
  unfolding line_at limit
  line_too_long h = let e = lt-ltb 65_536 (length s) h in rw (e, line_at)

  module _ (short : length s ≤ 65_536) where
    pub line_heading : TRAILED < phase_number p.phase → Heading (place p.at (Some Opening) p.sum) ≡ line_at s p
    unfolding line_at limit
    line_heading h = let e = le-ltb 65_536 (length s) short in let f = lt-ltb 2 (phase_number p.phase) h in rw (e, line_at, f)

    module _ (on : phase_number p.phase ≤ TRAILED) where
      pub opened : line_at s p ≡ line_from s p
      unfolding line_at limit
      opened = let e = le-ltb 65_536 (length s) short in let f = le-ltb 2 (phase_number p.phase) on in rw (e, line_at, f)

      pub inside : p.at ≤ length s → line_at s p ≡ line_in (length s) p (frames_from p.at (drop p.at s))
      unfolding line_from
      inside h = let e = le-ltb (length s) p.at h in opened ∙ rw (e, line_from)

      pub line_cut_payload : length s < p.at → Refused (length s) FRAME-ERROR ≡ line_at s p
      unfolding line_from
      line_cut_payload h = let e = lt-ltb (length s) p.at h in rw opened (rw (e, line_from))

      pub line-end : p.at ≡ length s → end_line (length s) p ≡ line_at s p
      unfolding line_in
      line-end h =
          let d = length-drop p.at s in
          sym (inside (omega arith) ∙ ap (line_in (length s) p) (frames_none p.at (drop p.at s) (omega arith)))

      -- the type is cut, or the payload before it was
      pub line-cut-type : (p.at ≡ length s → ⊥) → Ended s p.at None → Refused (length s) FRAME-ERROR ≡ line_at s p
      unfolding line_in
      line-cut-type w e = go (ltb (length s) p.at) refl
        where
          go : (x : Bool) → ltb (length s) p.at ≡ x → Refused (length s) FRAME-ERROR ≡ line_at s p
          go true x = line_cut_payload (ltb→lt (length s) p.at (rw x tt))
          go false x =
              let h = nltb→le (length s) p.at (rw x tt) in
              let d = length-drop p.at s in
              sym (inside h ∙ ap (line_in (length s) p) (frames_type p.at (drop p.at s) (omega arith) (ended_cut s p.at e)))

      module _ (t n : ℕ) (e : Ended s p.at (Some n)) (v : Valued s p.at t) where
        type-there : integer p.at (drop p.at s) ≡ got t n (drop n s)
        type-there = ended_got s p.at n t e v

        in-input : p.at ≤ length s
        in-input = let b = e.past in let c = e.within in omega arith

        -- the length is cut
        pub line-cut-length : Ended s n None → Refused (length s) FRAME-ERROR ≡ line_at s p
        unfolding line_in
        line-cut-length f =
            sym (inside in-input ∙ ap (line_in (length s) p) (frames_length p.at (drop p.at s) type-there (ended_cut s n f)))

        -- the header is whole
        pub line-header : (m l : ℕ) {r : Line} → Ended s n (Some m) → Valued s n l → r ≡ ruled_line p (head p.at m t l) → r ≡ line_at s p
        line-header m l f y q = q ∙ sym (inside in-input ∙ header_line p.at (length s) p (drop p.at s) type-there (ended_got s n m l f y))

-- the end, between two frames
module _ (total : ℕ) (p : Place) where
  at_opening : (phase sum : ℕ) → phase ≡ OPENING → Refused total REQUEST-INCOMPLETE ≡ end_of total (end_of_ended (ends (message_of phase sum)))
  unfolding end_of end_of_ended ends message_of code_of
  at_opening phase sum e = rw e

  pub end_opening : phase_number p.phase ≡ OPENING → Refused total REQUEST-INCOMPLETE ≡ end_line total p
  unfolding end_line
  end_opening e = at_opening (phase_number p.phase) p.sum e

  behind : (phase sum : ℕ) → (phase ≡ OPENING → ⊥) → Whole total ≡ end_of total (end_of_ended (ends (message_of phase sum)))
  unfolding end_of end_of_ended ends message_of tally
  behind zero sum w = absurd (w refl)
  behind (suc zero) sum w = refl
  behind (suc (suc k)) sum w = refl

  pub end_behind : (phase_number p.phase ≡ OPENING → ⊥) → Whole total ≡ end_line total p
  unfolding end_line
  end_behind w = behind (phase_number p.phase) p.sum w
