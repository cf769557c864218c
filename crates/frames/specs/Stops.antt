-- Where the two readers stop, and that a feed goes on from there as from where they began. Assumes nothing.
use Rattle.std.specs.Prelude.{◌≡◌, refl, List, [], true, false, ◌⊎◌, eqb, length, drop, Option, Some, None}
use Rattle.std.proofs.Math.Path.{sym, ap}
use Rattle.std.proofs.Common.{◌∙◌, add-zero, inl, inr, length-drop, drop-drop}
use Prim.Native.Nat.{ℕ, zero, suc, ◌+◌, ◌-◌, ◌≤◌, ◌<◌, ◌^◌}
use Rattle.std.proofs.Math.Nat.{sub_self}
use native.Mathlib.Omega.{arith}
use borrow.Author.Tests.{leb-true, leb-false, eqb-true, eqb-false, ne_eqb}
use Rattle.rules.specs.Integers.{cut, got, integer}
use Rattle.rules.specs.Message.{opening, body, trailed}
use Rattle.meaning.specs.Machine.{between, over, with_left}
use Rattle.meaning.specs.Feed.{Feeding, onward, over_event, left_event, behind_header, feed}
use Rattle.meaning.specs.FeedLaws.{past, past_none, past_past}
use Rattle.meaning.proofs.FeedLaws.{header_whole, skip_whole}
use Rattle.meaning.specs.IntegerLaws.{integer_length, integer_rest}
use Rattle.varint.specs.Whole.{end_of, whole_is, Ended, Valued, read_value, ended_cut}
use Rattle.frames.specs.Modes.{USE-SKIPPED, USE-CONTENT, USE-CANCEL-PUSH, NO-USE, BODY}
use Rattle.frames.specs.declared.FrameHeader.{FrameHeader}
use Rattle.frames.specs.Both.{Place, of_request, of_control, rule, both}
use Rattle.frames.specs.Uses.{place_of, Stands, with_data, number_of, ruling_at, ruling_back, number_stands, passes_of, use_small, data_lawful}
use Rattle.rules.specs.Numbers.{code_number, coded}
use Rattle.rules.specs.Reading.{Ruling, refuse, accept}
use Rattle.meaning.specs.NumberLaws.{coded_back}

-- what is to come behind a header of this use and length
abbrev pub Coming : Type 0
Coming = Place → Feeding Place

-- from a header on
unfoldable pub header_of : (s : List ℕ) (allow at : ℕ) → Coming
header_of s allow at p = feed both allow (between p) (drop at s)

-- from a payload on; where there is no use, from a header on
unfoldable pub payload_of : (s : List ℕ) (number len allow at : ℕ) → Coming
payload_of s number len allow at p = behind_header both len (ruling_at p number len) (λ st. feed both allow st (drop at s))

unfoldable pub stop_of : (s : List ℕ) (number len allow at : ℕ) → Coming
stop_of s number len allow at p = elim (eqb number NO-USE) [ true ↦ header_of s allow at p | false ↦ payload_of s number len allow at p ]

-- a header that is not whole
unfoldable pub Unready : (s : List ℕ) (at : ℕ) → Type 0
Unready s at = (t here len from : ℕ) (rest pay : List ℕ) → integer at (drop at s) ≡ got t here rest → integer here rest ≡ got len from pay → ⊥

-- a header that is whole
pub record WholeAt (s : List ℕ) (at : ℕ) (h : FrameHeader) : Type 0 where
  pub middle : ℕ
  pub typed : integer at (drop at s) ≡ got h.ftype middle (drop middle s)
  pub sized : integer middle (drop middle s) ≡ got h.len h.next (drop h.next s)
  pub past : at ≤ h.next
  pub within : h.next ≤ length s
  pub small : h.len < 2 ^ 62

abbrev pub HeaderAt : (s : List ℕ) (at : ℕ) → Option FrameHeader → Type 0
HeaderAt s at None = Unready s at
HeaderAt s at (Some h) = WholeAt s at h

pub unready_none : (s : List ℕ) (at : ℕ) {h : Option FrameHeader} → h ≡ None → HeaderAt s at h → Unready s at
unready_none s at e u = rw e at u

-- DATA is accepted only behind the header section, and keeps the sum small; a refusal's number is a code's
pub record Lawful (number phase sum len : ℕ) : Type 0 where
  pub adds : number ≡ USE-CONTENT → (phase ≡ BODY) × (sum + len ≤ 2 ^ 62)
  pub listed : USE-CANCEL-PUSH < number → (number ≡ NO-USE → ⊥) → code_number (coded number) ≡ number

pub nothing_lawful : {number : ℕ} (phase sum len : ℕ) → (number ≡ USE-SKIPPED ⊎ number ≡ NO-USE) → Lawful number phase sum len
nothing_lawful phase sum len (inl e) = record { adds = λ x. absurd (omega arith); listed = λ h n. absurd (omega arith) }
nothing_lawful phase sum len (inr e) = record { adds = λ x. absurd (omega arith); listed = λ h n. absurd (n e) }

number_listed : {P : Type 0} (r : Ruling P) → USE-CANCEL-PUSH < number_of r → code_number (coded (number_of r)) ≡ number_of r
unfolding number_of
number_listed (refuse code) h = ap code_number (coded_back code)
number_listed (accept u p) h = let l = use_small u in absurd (omega arith)

-- A RULING'S NUMBER IS LAWFUL
pub ruling_lawful : (number phase has stated sum t len : ℕ) → stated ≤ 2 ^ 62 → number ≡ number_of (rule (place_of phase has stated sum) t len) → Lawful number phase sum len
ruling_lawful number phase has stated sum t len h e = rw e (record { adds = data_lawful phase has stated sum t len h; listed = λ l n. number_listed (rule (place_of phase has stated sum) t len) l })

-- a place where the readers have to stop
pub record Stuck (s : List ℕ) (phase sum to len rest number : ℕ) : Type 0 where
  pub lawful : Lawful number phase sum len
  pub skips : number ≡ USE-SKIPPED → length s - to < len
  pub some : number ≡ USE-CONTENT → 0 < len
  pub short : number ≡ NO-USE → 0 < rest → Unready s to

-- from a stop the feed goes on as from the start
pub record Stop (s : List ℕ) (phase has stated sum at allow : ℕ) (want : Coming) (to len rest number : ℕ) : Type 0 where
  pub is : (p : Place) → Stands has stated sum phase p → want p ≡ past (to - at) (allow - rest) (stop_of s number len rest to p)
  pub from : at ≤ to
  pub within : to ≤ length s
  pub fewer : rest ≤ allow
  pub small : len < 2 ^ 62
  pub stuck : Stuck s phase sum to len rest number

-- ---- laws

-- a stop where it began
stays : (s : List ℕ) (number len allow at : ℕ) (p : Place) → stop_of s number len allow at p ≡ past (at - at) (allow - allow) (stop_of s number len allow at p)
stays s number len allow at p =
    let a = sub_self at in
    let b = sub_self allow in
    rw (a, b) (sym (past_none (stop_of s number len allow at p)))

module _ (s : List ℕ) (phase has stated sum : ℕ) where
  -- at a header that is not whole, or not allowed
  pub stop_header : (at allow : ℕ) → at ≤ length s → (0 < allow → Unready s at) → Stop s phase has stated sum at allow (header_of s allow at) at 0 allow NO-USE
  stop_header at allow w u = record {
    is = λ p st. unfold stop_of in stays s NO-USE 0 allow at p;
    from = omega arith;
    within = w;
    fewer = omega arith;
    small = omega arith;
    stuck = record { lawful = nothing_lawful phase sum 0 (inr refl); skips = λ e. absurd (omega arith); some = λ e. absurd (omega arith); short = λ e r. u r };
  }

  -- at a payload that is not passed
  stuck_at : (at left allow number : ℕ) → passes_of left number (length s - at) ≡ false → (number ≡ NO-USE → ⊥) → Lawful number phase sum left → Stuck s phase sum at left allow number
  unfolding passes_of
  stuck_at at left allow zero e n d = record { lawful = d; skips = λ z. leb-false left (length s - at) e; some = λ z. absurd (omega arith); short = λ z. absurd (omega arith) }
  stuck_at at left allow (suc zero) e n d =
      let f : left ≡ 0 → ⊥ = eqb-false left 0 e in
      record { lawful = d; skips = λ z. absurd (omega arith); some = λ z. omega arith; short = λ z. absurd (omega arith) }
  stuck_at at left allow (suc (suc k)) e n d = record { lawful = d; skips = λ z. absurd (omega arith); some = λ z. absurd (omega arith); short = λ z. absurd (n z) }

  pub stop_here : (at left allow number : ℕ) → at ≤ length s → passes_of left number (length s - at) ≡ false → (number ≡ NO-USE → ⊥) → left < 2 ^ 62 → Lawful number phase sum left
      → Stop s phase has stated sum at allow (stop_of s number left allow at) at left allow number
  stop_here at left allow number w e n sm d = record { is = λ p st. stays s number left allow at p; from = omega arith; within = w; fewer = omega arith; small = sm; stuck = stuck_at at left allow number e n d }

-- a header that is whole: its payload is what is to come
pub not_header : (s : List ℕ) (number len allow at : ℕ) (p : Place) → (number ≡ NO-USE → ⊥) → stop_of s number len allow at p ≡ payload_of s number len allow at p
unfolding stop_of
not_header s number len allow at p n = let e = ne_eqb number NO-USE n in rw (e, stop_of)

module _ (s : List ℕ) (phase has stated sum at allow t n l m k : ℕ) {rest : List ℕ} (i : integer at (drop at s) ≡ got t n rest) (j : integer n rest ≡ got l m (drop m s))
    (some : allow ≡ 0 → ⊥) (known : k ≡ number_of (rule (place_of phase has stated sum) t l)) (not9 : k ≡ 9 → ⊥) where
  header_on : (p : Place) → Stands has stated sum phase p → header_of s allow at p ≡ past (m - at) 1 (stop_of s k l (allow - 1) m p)
  unfolding header_of payload_of
  header_on p st =
      let a : allow ≡ suc (allow - 1) = omega arith in
      let w = header_whole both (allow - 1) p at (drop at s) i j in
      let r : rule p t l ≡ ruling_at p k l = ruling_back p t l ∙ ap (λ x. ruling_at p x l) (number_stands t l st ∙ sym known) in
      ap (λ x. feed both x (between p) (drop at s)) a ∙ w
      ∙ ap (λ x. past (m - at) 1 (behind_header both l x (λ q. feed both (allow - 1) q (drop m s)))) r
      ∙ ap (past (m - at) 1) (sym (not_header s k l (allow - 1) m p not9))

  pub header_stop : {to len rst r : ℕ} → at ≤ m → Stop s phase has stated sum m (allow - 1) (stop_of s k l (allow - 1) m) to len rst r
      → Stop s phase has stated sum at allow (header_of s allow at) to len rst r
  header_stop {to} {len} {rst} {r} b q = record {
    is = λ p st. (let e : (m - at) + (to - m) ≡ to - at = omega (arith, q.from) in
        let f : 1 + ((allow - 1) - rst) ≡ allow - rst = omega (arith, q.fewer) in
        header_on p st ∙ ap (past (m - at) 1) (q.is p st) ∙ past_past (m - at) 1 (to - m) ((allow - 1) - rst) _ ∙ rw (e, f) refl);
    from = omega (arith, q.from);
    within = q.within;
    fewer = omega (arith, q.fewer);
    small = q.small;
    stuck = q.stuck;
  }

-- a payload that is passed
empty_data : (p : Place) → with_data 0 p ≡ p
unfolding with_data
empty_data (of_request opening) = refl
empty_data (of_request (body stated sum)) = let e = add-zero sum in rw e
empty_data (of_request (trailed stated sum)) = refl
empty_data (of_control c) = refl

skip_passed : (s : List ℕ) (left allow at : ℕ) (p : Place) → left ≤ length s - at → payload_of s USE-SKIPPED left allow at p ≡ past left 0 (header_of s allow (at + left) p)
unfolding payload_of header_of ruling_at behind_header left_event over_event with_left over onward
skip_passed s zero allow at p h =
    let a = add-zero at in
    rw a (sym (past_none (feed both allow (between p) (drop at s))))
skip_passed s (suc l) allow at p h =
    let d = length-drop at s in
    let e = drop-drop (suc l) at s in
    skip_whole both allow p l [] (drop at s) (omega arith) ∙ rw e refl

data_passed : (s : List ℕ) (allow at : ℕ) (p : Place) → payload_of s USE-CONTENT 0 allow at p ≡ header_of s allow at p
unfolding payload_of header_of ruling_at behind_header left_event over_event with_left over onward
data_passed s allow at p = let e = empty_data p in rw e refl

passed : (s : List ℕ) (left number allow at : ℕ) (p : Place) → passes_of left number (length s - at) ≡ true
    → stop_of s number left allow at p ≡ past left 0 (header_of s allow (at + left) p)
unfolding passes_of
passed s left zero allow at p e = not_header s USE-SKIPPED left allow at p (λ z. omega arith) ∙ skip_passed s left allow at p (leb-true left (length s - at) e)
passed s left (suc zero) allow at p e =
    let z : left ≡ 0 = eqb-true left 0 e in
    let a = add-zero at in
    not_header s USE-CONTENT left allow at p (λ z. omega arith) ∙ rw (z, a) (data_passed s allow at p ∙ sym (past_none (header_of s allow at p)))
passed s left (suc (suc k)) allow at p e = let z : ◌≡◌ {A = ℕ} 0 1 = cc in absurd (omega arith)

pub passed_fits : (left number room : ℕ) → passes_of left number room ≡ true → left ≤ room
unfolding passes_of
passed_fits left zero room e = leb-true left room e
passed_fits left (suc zero) room e = let z = eqb-true left 0 e in omega arith
passed_fits left (suc (suc k)) room e = let z : ◌≡◌ {A = ℕ} 0 1 = cc in absurd (omega arith)

pub pass_stop : (s : List ℕ) (phase has stated sum at left number allow : ℕ) {to len rst r : ℕ} → passes_of left number (length s - at) ≡ true
    → Stop s phase has stated sum (at + left) allow (header_of s allow (at + left)) to len rst r
    → Stop s phase has stated sum at allow (stop_of s number left allow at) to len rst r
pass_stop s phase has stated sum at left number allow {to} {len} {rst} {r} e q = record {
  is = λ p st. (let f : left + (to - (at + left)) ≡ to - at = omega (arith, q.from) in
      let z : 0 + (allow - rst) ≡ allow - rst = omega arith in
      passed s left number allow at p e ∙ ap (past left 0) (q.is p st) ∙ past_past left 0 (to - (at + left)) (allow - rst) _ ∙ rw (f, z) refl);
  from = omega (arith, q.from);
  within = q.within;
  fewer = q.fewer;
  small = q.small;
  stuck = q.stuck;
}

-- ---- integers that the readers find

-- whole
pub found : (s : List ℕ) (at n v : ℕ) → Ended s at (Some n) → Valued s at v → integer at (drop at s) ≡ got v n (drop n s)
unfolding whole_is
found s at n v h w = sym (read_value s at n v h w)

ends_late : (s : List ℕ) (at : ℕ) {t here : ℕ} {rest : List ℕ} → integer at (drop at s) ≡ got t here rest → Ended s at None → ⊥
ends_late s at {t} {here} {rest} e h = let f : got t here rest ≡ cut = sym e ∙ ended_cut s at h in let z : ◌≡◌ {A = ℕ} 0 1 = cc in omega arith

pub unready_type : (s : List ℕ) (at : ℕ) → Ended s at None → Unready s at
unfolding Unready
unready_type s at h t here len from rest pay e f = ends_late s at e h

pub unready_length : (s : List ℕ) (at n : ℕ) → Ended s at (Some n) → Ended s n None → Unready s at
unfolding Unready end_of
unready_length s at n h g t here len from rest pay e f =
    let i : Some n ≡ Some here = h.is ∙ ap end_of e in
    let k : n ≡ here = cc in
    let l = integer_length at (drop at s) e in
    let d = drop-drop (here - at) at s in
    let a : at + (here - at) ≡ here = omega arith in
    let r : rest ≡ drop n s = integer_rest at (drop at s) e ∙ d ∙ ap (λ x. drop x s) (a ∙ sym k) in
    let f' : integer n (drop n s) ≡ got len from pay = ap (integer n) (sym r) ∙ ap (λ x. integer x rest) k ∙ f in
    ends_late s n f' g

pub header_found : (s : List ℕ) (at n m t l : ℕ) → Ended s at (Some n) → Valued s at t → Ended s n (Some m) → Valued s n l → WholeAt s at (record { ftype = t; len = l; next = m })
header_found s at n m t l h u g v = record {
  middle = n;
  typed = found s at n t h u;
  sized = found s n m l g v;
  past = (let p = h.past in let q = g.past in omega arith);
  within = g.within;
  small = v.small;
}
