-- Reading on, line by line, comes to an end, and to a last line. Assumes nothing.
use Rattle.std.specs.Prelude.{ℕ, suc, ◌+◌, ◌-◌, ◌≤◌, ◌<◌, ◌≡◌, refl, Bool, true, false, ltb, length, drop}
use mathlib.Core.List.{List, [], ◌∷◌}
use Rattle.std.proofs.Common.{sym, arith, ltb→lt, nltb→le}
use borrow.Author.Tests.{lt-ltb, le-ltb}
use Rattle.rules.specs.Frames.{Frames, frames_up_to, frames_from}
use Rattle.rules.specs.Reading.{End, complete, lacking, Ruling}
use Rattle.rules.specs.Message.{Message, ends}
use Rattle.rules.specs.Request.{end_of_ended}
use Rattle.meaning.specs.IntegerLaws.{integer_length}
use Rattle.meaning.specs.RequestLaws.{RuleView, r_refused, r_skipped, r_content, r_header, r_trailers, rule_view}
use Rattle.meaning.specs.FrameLaws.{head, View, cut_type, cut_length, cut_payload, a_frame, view}
use Rattle.listing.specs.Listing.{Entry, whole, refused, too_long}
use Rattle.listing.specs.Lines.{phase_number, place, next_of, message_of, after, line_of, ruled_line, end_of, end_line, line_in, line_at}
use Rattle.listing.specs.At.{line_too_long, line_heading, line_cut_payload, inside}
use Rattle.listing.specs.declared.Place.{Place}
use Rattle.listing.specs.declared.Usage.{Usage}
use Rattle.std.specs.Prelude.{Option, Some, None}
use Rattle.listing.specs.declared.Phase.TheVariants.{Opening}
use Rattle.listing.specs.declared.Line.{Line}
use Rattle.listing.specs.declared.Line.TheVariants.{Heading, Frame, Whole, Refused, TooLong}
use Rattle.frames.specs.Modes.{TRAILED}

-- how much is to come: the heading, the bytes from the next frame on, the end
unfoldable pub rank : List ℕ → Place → ℕ
rank s p = elim (ltb 2 (phase_number p.phase)) [ true ↦ 1 | false ↦ 0 ] + (suc (length s) - p.at)

-- where a line leads on
abbrev Leads : Line → Place → Type 0
Leads (Heading m) n = m ≡ n
Leads (Frame at type len u m) n = m ≡ n
Leads (Whole total) n = ⊥
Leads (Refused bytes code) n = ⊥
Leads TooLong n = ⊥

-- a frame leads on behind itself
record Forward (total : ℕ) (p n : Place) : Type 0 where
  before : p.at ≤ total
  further : p.at < n.at
  listed : phase_number n.phase ≤ TRAILED

module _ (total : ℕ) (p : Place) (in-input : p.at ≤ total) (listed : phase_number p.phase ≤ TRAILED) where
  forward : {m n : Place} → m ≡ n → p.at < m.at → phase_number m.phase ≤ TRAILED → Forward total p n
  forward e a b = rw (← e) record { before = in-input; further = a; listed = b }

  ruling_forward : (from t len : ℕ) {m : Message} {r : Ruling Message} {n : Place} → p.at < from → RuleView t len m r → Leads (line_of p (head p.at from t len) r) n → Forward total p n
  unfolding line_of after
  ruling_forward from t len h r_refused x = absurd x
  ruling_forward from t len h (r_skipped u) x = forward x (omega arith) listed
  ruling_forward from t len h (r_content z e) x = forward x (omega arith) listed
  ruling_forward from t len h (r_header z l) x = forward x (omega arith) (omega arith)
  ruling_forward from t len h (r_trailers z l) x = forward x (omega arith) (omega arith)

  view_forward : (f b : ℕ) (bs : List ℕ) {fs : Frames} {n : Place} → View f p.at (b ∷ bs) fs → Leads (line_in total p fs) n → Forward total p n
  unfolding line_in ruled_line
  view_forward f b bs (cut_type e) x = absurd x
  view_forward f b bs (cut_length e g) x = absurd x
  view_forward f b bs (cut_payload {t = t} {here = here} {len = len} {from = from} {rest = rest} e g l) x =
      let i = integer_length p.at (b ∷ bs) e in
      let j = integer_length here rest g in
      ruling_forward from t len (omega arith) (rule_view (message_of (phase_number p.phase) p.sum) t len) x
  view_forward f b bs (a_frame {t = t} {here = here} {len = len} {from = from} {rest = rest} e g l) x =
      let i = integer_length p.at (b ∷ bs) e in
      let j = integer_length here rest g in
      ruling_forward from t len (omega arith) (rule_view (message_of (phase_number p.phase) p.sum) t len) x

  end_none : {A : Type 0} (n : Place) (e : End) → Leads (end_of total e) n → A
  unfolding end_of
  end_none n complete x = absurd x
  end_none n (lacking code) x = absurd x

  frames_forward : (bs : List ℕ) (n : Place) → Leads (line_in total p (frames_from p.at bs)) n → Forward total p n
  unfolding line_in frames_from frames_up_to end_line
  frames_forward [] n x = end_none n (end_of_ended (ends (message_of (phase_number p.phase) p.sum))) x
  frames_forward (b ∷ bs) n x = view_forward (length bs) b bs (view (length bs) p.at b bs) x

module _ (s : List ℕ) (p : Place) where
  unheaded : phase_number p.phase ≤ TRAILED → rank s p ≡ suc (length s) - p.at
  unfolding rank
  unheaded h = let e = le-ltb 2 (phase_number p.phase) h in rw e (omega arith)

  pub headed : TRAILED < phase_number p.phase → rank s p ≡ suc (suc (length s) - p.at)
  unfolding rank
  headed h = let e = lt-ltb 2 (phase_number p.phase) h in rw e (omega arith)

falls : (s : List ℕ) (p n : Place) → Leads (line_at s p) n → rank s n < rank s p
falls s p n x = long (ltb 65_536 (length s)) refl
  where
    cut_off : length s ≤ 65_536 → phase_number p.phase ≤ TRAILED → (y : Bool) → ltb (length s) p.at ≡ y → rank s n < rank s p
    cut_off short h true e = absurd (rw (← line_cut_payload s p short h (ltb→lt (length s) p.at (rw e tt))) at x)
    cut_off short h false e =
        let w = nltb→le (length s) p.at (rw e tt) in
        let f = frames_forward (length s) p w h (drop p.at s) n (rw (inside s p short h w) at x) in
        rw (unheaded s p h, unheaded s n f.listed) (omega (arith, f.further))

    due : length s ≤ 65_536 → (y : Bool) → ltb 2 (phase_number p.phase) ≡ y → rank s n < rank s p
    due short true e =
        let h = ltb→lt 2 (phase_number p.phase) (rw e tt) in
        let q : place p.at (Some Opening) p.sum ≡ n = rw (← line_heading s p short h) at x in
        rw (← q, headed s p h, unheaded s (place p.at (Some Opening) p.sum) (omega arith)) (omega arith)
    due short false e = cut_off short (nltb→le 2 (phase_number p.phase) (rw e tt)) (ltb (length s) p.at) refl

    long : (y : Bool) → ltb 65_536 (length s) ≡ y → rank s n < rank s p
    long true e = absurd (rw (← line_too_long s p (ltb→lt 65_536 (length s) (rw e tt))) at x)
    long false e = due (nltb→le 65_536 (length s) (rw e tt)) (ltb 2 (phase_number p.phase)) refl

-- EVERY LINE THAT LEADS ON LEAVES LESS TO COME
pub falls_heading : (s : List ℕ) (p n : Place) → line_at s p ≡ Heading n → rank s n < rank s p
falls_heading s p n e = falls s p n (rw e refl)

pub falls_frame : (s : List ℕ) (p : Place) (at type len : ℕ) (u : Usage) (n : Place) → line_at s p ≡ Frame at type len u n → rank s n < rank s p
falls_frame s p at type len u n e = falls s p n (rw e refl)

-- how much is to come from where a line leads on, if it does
abbrev pub to_come : List ℕ → Option Place → ℕ
to_come s None = 0
to_come s (Some p) = suc (rank s p)

pub falls_next : (s : List ℕ) (p : Place) (l : Line) → l ≡ line_at s p → to_come s (next_of l) < to_come s (Some p)
falls_next s p (Heading n) e = let f = falls_heading s p n (sym e) in omega arith
falls_next s p (Frame at type len u n) e = let f = falls_frame s p at type len u n (sym e) in omega arith
falls_next s p (Whole total) e = omega arith
falls_next s p (Refused bytes code) e = omega arith
falls_next s p TooLong e = omega arith

-- ---- the last line

pub data HasLast : List Entry → Type 0 where
  last_whole : {total : ℕ} → HasLast (whole total ∷ [])
  last_refused : {bytes code : ℕ} → HasLast (refused bytes code ∷ [])
  last_too_long : HasLast (too_long ∷ [])
  behind_one : {e : Entry} {es : List Entry} → HasLast es → HasLast (e ∷ es)
