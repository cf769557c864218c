-- What the code answers of a payload that is handed on or kept: a law for each answer. Assumes nothing.
use Rattle.std.specs.Prelude.{◌≡◌, true, false, eqb, length}
use Rattle.std.proofs.Math.Path.{refl, ap}
use Rattle.std.proofs.Common.{◌∙◌, take_all}
use Prim.Native.Nat.{ℕ, zero, suc, ◌+◌, ◌-◌, ◌≤◌, ◌<◌, ◌^◌}
use Rattle.std.proofs.Math.Nat.{add-zero}
use native.Mathlib.Omega.{arith}
use mathlib.Core.List.{List, [], ◌++◌, append-nil}
use Rattle.std.proofs.Math.Dec.{eqb-suc-zero}
use Rattle.std.proofs.Math.ListN.{take, drop, length-drop, drop_of_length-le}
use Rattle.rules.specs.Reading.{Part, header_section, trailers, Kept, Use, content, section, kept}
use Rattle.meaning.specs.Machine.{in_payload, due, Outcome, lives, between, over}
use Rattle.meaning.specs.Feed.{Event, quiet, section_bytes, content_bytes, halt, over_event, named, feed}
use Rattle.meaning.specs.FeedLaws.{past, past_past}
use Rattle.meaning.proofs.FeedLaws.{feed_nothing, kept_short}
use Rattle.varint.specs.ByByte.{prog, fresh_good}
use Rattle.frames.specs.Modes.{IN-TYPE, IN-SKIPPED, IN-CONTENT, IN-HEADER-SECTION, IN-TRAILERS, HEADER-SECTION-DUE, TRAILERS-DUE, IN-SETTINGS, IN-CANCEL-PUSH, mode_of}
use Rattle.frames.specs.declared.Cells.{Cells}
use Rattle.frames.specs.declared.Event.TheVariants as event
use Rattle.frames.specs.declared.Telling.{Telling}
use Rattle.frames.specs.Both.{Place, both}
use Rattle.frames.specs.Heads.{head_state}
use Rattle.frames.specs.Parts.{Shown, content_shown, section_shown, judged_as, kept_judged, part_whole, part_short}
use Rattle.frames.specs.Answers.{kept_at, mode_state, state_at, kept_state, place_in, answer_at, Sane, Numbers, HandedMode, tell, Tells, tells_content, tells_header, tells_trailers, tells_kept, emptied, coming, Answers, from_payload, some_coming, in_mode, Content, goes_on, is_over, answer}

-- cells that go on
pub sane_in : (c : Cells) (mode acc : ℕ) → Numbers c → mode ≤ IN-CANCEL-PUSH → acc < 2 ^ 62 → (mode < IN-SKIPPED → acc ≡ 0) → (IN-SKIPPED ≤ mode → (mode ≡ HEADER-SECTION-DUE → ⊥) → (mode ≡ TRAILERS-DUE → ⊥) → 0 < acc) → Sane (in_mode c mode acc)
sane_in c mode acc g m a z f = record {
  modes = m;
  header = λ l. (let e = z l in rw e fresh_good);
  small = a;
  type = omega arith;
  some = f;
  sums = g.0;
  stateds = g.1;
}

-- so many bytes and headers behind, then one saying
pub behind : (at heads used : ℕ) (e : Event) (o : Outcome Place) → past at heads (record { used = used; heads = 0; event = e; after = o }) ≡ record { used = at + used; heads = heads; event = e; after = o }
unfolding past
behind at heads used e o = let z = add-zero heads in rw z refl

-- the events of a payload that is all there, and of one that is not
last_whole : {mode : ℕ} {t : Telling} → Tells mode t → t.last ≡ event.KeptPart → ⊥
last_whole tells_content e = cc
last_whole tells_header e = cc
last_whole tells_trailers e = cc
last_whole (tells_kept mode h) e = cc

part_held : {mode : ℕ} {t : Telling} → Tells mode t → t.part ≡ event.KeptPart → IN-SETTINGS ≤ mode
part_held tells_content e = cc
part_held tells_header e = cc
part_held tells_trailers e = cc
part_held (tells_kept mode h) e = omega arith

last_named : {mode which : ℕ} {t : Telling} → Tells mode t → t.last ≡ event.Kept which → t.behind ≡ which
last_named tells_content e = cc
last_named tells_header e = cc
last_named tells_trailers e = cc
last_named (tells_kept mode h) e = cc

part_open : {mode which : ℕ} {t : Telling} → Tells mode t → t.part ≡ event.Kept which → ⊥
part_open tells_content e = cc
part_open tells_header e = cc
part_open tells_trailers e = cc
part_open (tells_kept mode h) e = cc

-- the cells of content that goes on, and of content that is all there
pub content_on : (c : Cells) {mode acc : ℕ} {d : Cells} → d ≡ in_mode c mode acc → mode ≡ IN-CONTENT → Content c d
content_on c {mode} {acc} q e = rw (q, e) (goes_on acc c.sum)

pub content_past : (c : Cells) {mode : ℕ} {t : Telling} {d : Cells} → Tells mode t → d ≡ in_mode c t.behind 0 → mode ≡ IN-CONTENT → Content c d
content_past c tells_content q e = rw q (is_over c.sum)
content_past c tells_header q e = absurd (omega arith)
content_past c tells_trailers q e = absurd (omega arith)
content_past c (tells_kept mode h) q e = absurd (omega arith)

module _ (c : Cells) (s : List ℕ) (at heads : ℕ) (w : at ≤ length s) (g : Numbers c) (fresh : ℕ) where
  -- the piece ends where the payload begins or goes on
  pub none_here : (left mode : ℕ) {r : Cells} → 0 < left → left < 2 ^ 62 → HandedMode mode → length s - at ≡ 0 → r ≡ in_mode c mode left → Answers c s fresh (from_payload c s at heads mode left) (answer event.Nothing at 0 at heads r)
  unfolding answer_at halt past
  none_here left mode lo hi m e q =
      let d : drop at s ≡ [] = drop_of_length-le s {i = at} (omega arith) in
      let u = add-zero at in
      let h = add-zero heads in
      rw q (record {
        is = λ n p k hk st. ap (past at heads) (some_coming left lo _ _) ∙ rw (d, feed_nothing both n (state_at mode left 0 0 (place_in c p) k), u, h) refl;
        within = w;
        part = omega arith;
        sane = λ x. sane_in c mode left g m.1 hi (λ l. absurd (omega arith)) (λ a b f. lo);
        phase = refl;
        held = λ e. cc;
        named = λ which e. cc;
      })

  -- ---- all of it is there

  content_over : (left : ℕ) → 0 < left → left ≤ length s - at → (n : ℕ) (p : Place) → past at heads (coming left (in_payload content [] (left - 1) p) (λ st. feed both n st (drop at s)))
      ≡ record { used = at + left; heads = heads; event = content_bytes left; after = lives (between p) }
  unfolding named over
  content_over left lo h n p =
      let d = length-drop at s in
      let e : suc (left - 1) ≡ left = omega arith in
      ap (past at heads) (some_coming left lo _ _ ∙ part_whole both n p content_shown (left - 1) (drop at s) (omega arith)) ∙ behind at heads (suc (left - 1)) _ _ ∙ rw e refl

  section_over : (t : Part) (left : ℕ) → left ≤ length s - at → (n : ℕ) (p : Place) → past at heads (coming left (in_payload (section t) [] (left - 1) p) (λ st. feed both n st (drop at s)))
      ≡ record { used = at + left; heads = heads; event = section_bytes left true; after = lives (due t p) }
  unfolding coming emptied over_event over named halt past
  section_over t zero h n p = behind at heads 0 _ _
  section_over t (suc l) h n p =
      let d = length-drop at s in
      let z : suc l - 1 ≡ l = omega arith in
      rw z (ap (past at heads) (part_whole both n p (section_shown t) l (drop at s) (omega arith)) ∙ behind at heads (suc l) _ _)

  kept_over : (f : Kept) (left : ℕ) → left ≤ length s - at → (n : ℕ) (p : Place) (k : List ℕ) → past at heads (coming left (in_payload (kept f) k (left - 1) p) (λ st. feed both n st (drop at s)))
      ≡ past (at + left) heads (judged_as both 0 p f (k ++ take left (drop at s)))
  unfolding coming emptied over_event over judged_as
  kept_over f zero h n p k =
      let a = append-nil k in
      let u = add-zero at in
      rw (a, u) refl
  kept_over f (suc l) h n p k =
      let d = length-drop at s in
      let z : suc l - 1 ≡ l = omega arith in
      let y = add-zero heads in
      rw z (ap (past at heads) (kept_judged both n p f l k (drop at s) (omega arith)) ∙ past_past at heads (suc l) 0 _ ∙ rw y refl)

  over_is : {mode : ℕ} {t : Telling} → Tells mode t → (left : ℕ) → (mode ≡ IN-CONTENT → 0 < left) → left ≤ length s - at → (n : ℕ) (p : Place) (k : List ℕ)
      → from_payload c s at heads mode left n p k ≡ answer_at t.last at left (at + left) heads (in_mode c t.behind 0) (place_in c p) k s
  unfolding answer_at mode_state mode_of head_state prog
  over_is tells_content left lo h n p k = content_over left (lo refl) h n (place_in c p)
  over_is tells_header left lo h n p k = section_over header_section left h n (place_in c p)
  over_is tells_trailers left lo h n p k = section_over trailers left h n (place_in c p)
  over_is (tells_kept mode l) left lo h n p k = let e = kept_state mode left 0 0 (place_in c p) k l in rw e (kept_over (kept_at mode) left h n (place_in c p) k)

  over_sane : {mode : ℕ} {t : Telling} → Tells mode t → ((which : ℕ) → t.last ≡ event.Kept which → ⊥) → Sane (in_mode c t.behind 0)
  over_sane tells_content x = sane_in c IN-TYPE 0 g (omega arith) (omega arith) (λ l. refl) (λ a b f. absurd (omega arith))
  over_sane tells_header x = sane_in c HEADER-SECTION-DUE 0 g (omega arith) (omega arith) (λ l. refl) (λ a b f. absurd (b refl))
  over_sane tells_trailers x = sane_in c TRAILERS-DUE 0 g (omega arith) (omega arith) (λ l. refl) (λ a b f. absurd (f refl))
  over_sane (tells_kept mode h) x = absurd (x mode refl)

  pub handed_over : (left mode : ℕ) (t : Telling) {r : Cells} → Tells mode t → (mode ≡ IN-CONTENT → 0 < left) → left ≤ length s - at → r ≡ in_mode c t.behind 0
      → Answers c s fresh (from_payload c s at heads mode left) (answer t.last at left (at + left) heads r)
  handed_over left mode t h lo l q = rw q (record {
    is = λ n p k hk st. over_is h left lo l n p k;
    within = omega arith;
    part = omega arith;
    sane = over_sane h;
    phase = refl;
    held = λ e. absurd (last_whole h e);
    named = λ which e. last_named h e;
  })

  -- ---- some of it is there

  module _ (left : ℕ) (l : length s - at < left) (n0 : length s - at ≡ 0 → ⊥) where
    shown_on : {u : Use} → Shown u → (n : ℕ) (p : Place) → past at heads (coming left (in_payload u [] (left - 1) p) (λ st. feed both n st (drop at s)))
        ≡ record { used = length s; heads = heads; event = named both u (length s - at) (suc ((left - (length s - at)) - 1)); after = lives (in_payload u [] ((left - (length s - at)) - 1) p) }
    shown_on h n p =
        let d = length-drop at s in
        let e : at + (length s - at) ≡ length s = omega arith in
        let f : (left - 1) - (length s - at) ≡ (left - (length s - at)) - 1 = omega arith in
        ap (past at heads) (some_coming left (omega arith) _ _ ∙ part_short both n p h (left - 1) (drop at s) (omega arith) (omega arith)) ∙ behind at heads (length (drop at s)) _ _ ∙ rw (d, e, f) refl

    kept_on : (x : Kept) (n : ℕ) (p : Place) (k : List ℕ) → past at heads (coming left (in_payload (kept x) k (left - 1) p) (λ st. feed both n st (drop at s)))
        ≡ record { used = length s; heads = heads; event = quiet; after = lives (in_payload (kept x) (k ++ take (length s - at) (drop at s)) ((left - (length s - at)) - 1) p) }
    kept_on x n p k =
        let d = length-drop at s in
        let e : at + (length s - at) ≡ length s = omega arith in
        let f : (left - 1) - (length s - at) ≡ (left - (length s - at)) - 1 = omega arith in
        let tk : take (length s - at) (drop at s) ≡ drop at s = take_all (length s - at) (drop at s) (omega arith) in
        rw tk (ap (past at heads) (some_coming left (omega arith) _ _ ∙ kept_short both n p x (left - 1) k (drop at s) (omega arith)) ∙ behind at heads (length (drop at s)) _ _ ∙ rw (d, e, f) refl)

    not_last : (m : ℕ) → section_bytes (length s - at) (eqb (suc m) 0) ≡ section_bytes (length s - at) false
    not_last m = ap (section_bytes (length s - at)) (eqb-suc-zero m)

    on_is : {mode : ℕ} {t : Telling} → Tells mode t → (n : ℕ) (p : Place) (k : List ℕ)
        → from_payload c s at heads mode left n p k ≡ answer_at t.part at (length s - at) (length s) heads (in_mode c mode (left - (length s - at))) (place_in c p) k s
    unfolding answer_at mode_state mode_of named
    on_is tells_content n p k = shown_on content_shown n (place_in c p)
    on_is tells_header n p k = let e = not_last ((left - (length s - at)) - 1) in shown_on (section_shown header_section) n (place_in c p) ∙ rw e refl
    on_is tells_trailers n p k = let e = not_last ((left - (length s - at)) - 1) in shown_on (section_shown trailers) n (place_in c p) ∙ rw e refl
    on_is (tells_kept mode l) n p k =
        let e = kept_state mode left 0 0 (place_in c p) k l in
        let f = kept_state mode (left - (length s - at)) 0 0 (place_in c p) (k ++ take (length s - at) (drop at s)) l in
        rw (e, f) (kept_on (kept_at mode) n (place_in c p) k)

    pub handed_on : (mode : ℕ) (t : Telling) {r : Cells} → left < 2 ^ 62 → HandedMode mode → Tells mode t → r ≡ in_mode c mode (left - (length s - at))
        → Answers c s fresh (from_payload c s at heads mode left) (answer t.part at (length s - at) (length s) heads r)
    handed_on mode t hi m h q = rw q (record {
      is = λ n p k hk st. on_is h n p k;
      within = omega arith;
      part = omega arith;
      sane = λ x. sane_in c mode (left - (length s - at)) g m.1 (omega arith) (λ l. absurd (omega arith)) (λ a b f. omega arith);
      phase = refl;
      held = part_held h;
      named = λ which e. absurd (part_open h e);
    })

-- ---- how parts are reported

pub told_content : (mode : ℕ) → mode ≡ IN-CONTENT → Tells mode (tell event.Content event.Content IN-TYPE)
told_content mode e = rw e tells_content

pub told_header : (mode : ℕ) → mode ≡ IN-HEADER-SECTION → Tells mode (tell event.SectionEnd event.Section HEADER-SECTION-DUE)
told_header mode e = rw e tells_header

pub told_trailers : (mode : ℕ) → mode ≡ IN-TRAILERS → Tells mode (tell event.SectionEnd event.Section TRAILERS-DUE)
told_trailers mode e = rw e tells_trailers

beyond : {a b : ℕ} → a ≤ b → (b ≡ a → ⊥) → suc a ≤ b
beyond l n = omega arith

pub told_kept : (mode : ℕ) → HandedMode mode → (mode ≡ IN-CONTENT → ⊥) → (mode ≡ IN-HEADER-SECTION → ⊥) → (mode ≡ IN-TRAILERS → ⊥) → Tells mode (tell (event.Kept mode) event.KeptPart mode)
told_kept mode h c s t = tells_kept mode (beyond (beyond (beyond (beyond (beyond h.0 c) s) t) h.2) h.3)
