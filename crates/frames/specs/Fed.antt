-- One feed, from its parts: a law for each way it goes. Assumes nothing.
use Rattle.std.specs.Prelude.{◌≡◌, refl, ℕ, zero, suc, ◌+◌, ◌-◌, ◌≤◌, ◌<◌, ◌^◌, List, length, false, Option, Some, IfSome, Ok}
use Rattle.std.proofs.lemmas.Option.{IfSome_then}
use Rattle.std.proofs.Common.{sym, ap, ◌∙◌, subst, zero-le, arith, ne_eqb, le-leb}
use Rattle.std.proofs.Math.Nat.{sub-zero}
use Rattle.meaning.specs.Machine.{lives}
use Rattle.meaning.specs.Feed.{quiet, Feeding, halt, feed}
use Rattle.meaning.specs.FeedLaws.{past, past_none, past_past}
use Rattle.meaning.proofs.FeedLaws.{feed_due}
use Rattle.frames.specs.Modes.{IN-TYPE, IN-SKIPPED, IN-CONTENT, HEADER-SECTION-DUE, TRAILERS-DUE, IN-SETTINGS, USE-SKIPPED, USE-CONTENT, NO-USE, BODY, at_waiting, at_payload}
use Rattle.frames.specs.declared.Cells.{Cells}
use Rattle.frames.specs.declared.Answer.{Answer}
use Rattle.frames.specs.declared.Event.TheVariants as event
use Rattle.frames.specs.declared.Start.{Start}
use Rattle.frames.specs.declared.Use.TheVariants.{Skipped}
use Rattle.frames.specs.declared.FrameHeader.{FrameHeader}
use Rattle.frames.specs.Both.{Place, rule, both}
use Rattle.frames.specs.Uses.{place_of, number_of, passes_of, passes_skip, passes_data, data_lawful}
use Rattle.frames.specs.Wants.{wanted_in}
use Rattle.frames.specs.Stops.{stop_of, Stop, stop_here, header_stop, pass_stop, WholeAt, ruling_lawful}
use Rattle.frames.specs.Answers.{mode_state, state_at, state_of, answer_at, Sane, Held, Answers, from_payload, some_coming, place_same, Content, goes_on, is_over, Hands, answer}
use Rattle.frames.specs.Stopped.{more_sum, from_stop, stop_content}
use Rattle.frames.specs.Begun.{start, Started, begin_fresh}

-- THE DEFINITION'S FEED of these cells
abbrev pub fed_by : (c : Cells) (s : List ℕ) (allow : ℕ) → (n : ℕ) → Place → (sofar : List ℕ) → Feeding Place
fed_by c s allow n p k = feed both allow (state_of c p k) s

-- WHAT A FEED ANSWERS: nothing may be kept so far but of a kept payload
abbrev pub Fed : (c : Cells) (s : List ℕ) (allow : ℕ) → Answer → Type 0
Fed c s allow r = Answers c s (IN-SETTINGS - c.mode) (fed_by c s allow) r

-- and a feed whose event is content
abbrev pub FedContent : (c : Cells) (s : List ℕ) (allow : ℕ) → Answer → Type 0
FedContent c s allow r = (r.event ≡ event.Content) × (Fed c s allow r × Content c r.cells)

-- the rest of the cells says nothing of a payload's state
state_free : (mode a d t : ℕ) (p : Place) (k : List ℕ) → IN-SKIPPED ≤ mode → (mode ≡ HEADER-SECTION-DUE → ⊥) → (mode ≡ TRAILERS-DUE → ⊥) → state_at mode a d t p k ≡ state_at mode a 0 0 p k
unfolding mode_state
state_free mode a d t p k = at_payload (λ m. mode_state m a d t p k ≡ mode_state m a 0 0 p k) (λ u. refl) mode

-- content of a frame that began here
content_more : (c : Cells) (len : ℕ) {d : Cells} → Content (more_sum c len) d → Content c d
content_more c len (goes_on acc sum) = goes_on acc sum
content_more c len (is_over sum) = is_over sum

module _ (c : Cells) (s : List ℕ) (allow : ℕ) where
  -- a payload that goes on
  pub fed_payload : {r : Answer} → Sane c → IN-SKIPPED ≤ c.mode → (c.mode ≡ HEADER-SECTION-DUE → ⊥) → (c.mode ≡ TRAILERS-DUE → ⊥) → Answers c s 0 (from_payload c s 0 0 c.mode c.acc) r → Fed c s allow r
  fed_payload sane m n6 n7 a = record {
    is = λ n p k hk st. (
        ap (λ x. feed both allow x s) (state_free c.mode c.acc c.due c.ftype p k m n6 n7)
        ∙ ap (λ q. feed both allow (state_at c.mode c.acc 0 0 q k) s) (sym (place_same c p st)) ∙ sym (some_coming c.acc (sane.some m n6 n7) _ (λ x. feed both allow x s))
        ∙ sym (past_none _) ∙ a.is allow p k tt st);
    within = a.within;
    part = a.part;
    sane = a.sane;
    phase = a.phase;
    held = a.held;
    named = a.named;
  }

  due_state : (mode a d t : ℕ) (p : Place) (k : List ℕ) → HEADER-SECTION-DUE ≤ mode → mode < IN-SETTINGS → feed both allow (state_at mode a d t p k) s ≡ halt quiet (lives (state_at mode a d t p k))
  unfolding mode_state
  due_state mode a d t p k = at_waiting (λ m. feed both allow (mode_state m a d t p k) s ≡ halt quiet (lives (mode_state m a d t p k))) (λ x. feed_due both allow x p s) mode

  -- a section is due
  pub fed_due : Sane c → HEADER-SECTION-DUE ≤ c.mode → c.mode < IN-SETTINGS → Fed c s allow (answer event.Nothing 0 0 0 0 c)
  unfolding answer_at halt
  fed_due sane h l = record {
    is = λ n p k hk st. (let x = place_same c p st in rw x (due_state c.mode c.acc c.due c.ftype p k h l));
    within = zero-le;
    part = omega arith;
    sane = λ x. sane;
    phase = refl;
    held = λ e. cc;
    named = λ which e. cc;
  }

  -- nowhere
  pub fed_stays : (r : Start) → Started c s allow r → wanted_in r.wanted ≡ NO-USE → Fed c s allow (answer event.Nothing r.at 0 r.at 0 r.cells)
  unfolding answer_at
  fed_stays r q e = record {
    is = λ n p k hk st. (let x = q.place p ∙ place_same c p st in q.stays e p k st ∙ rw x refl);
    within = q.within;
    part = omega arith;
    sane = λ x. q.sane;
    phase = q.phase;
    held = λ e. cc;
    named = λ which e. cc;
  }

  fresh_held : (mode : ℕ) (k : List ℕ) → mode < IN-CONTENT → Held (IN-SETTINGS - mode) k → Held 1 k
  fresh_held zero k h e = e
  fresh_held (suc zero) k h e = e
  fresh_held (suc (suc zero)) k h e = e
  fresh_held (suc (suc (suc m))) k h e = absurd (omega arith)

  -- by the readers
  pub fed_read : (b : Start) {to len rest number : ℕ} {r : Answer} → c.mode < IN-CONTENT → Started c s allow b → (wanted_in b.wanted ≡ NO-USE → ⊥)
      → Stop s c.phase c.has c.stated c.sum b.at (allow - b.heads) (stop_of s (wanted_in b.wanted) b.left (allow - b.heads) b.at) to len rest number
      → Answers c s 1 (from_stop s to (allow - rest) number len rest) r → Fed c s allow r
  fed_read b {to} {len} {rest} {number} m q n9 st a = record {
    is = λ n p k hk sd.
        (let e : b.at + (to - b.at) ≡ to = omega (arith, st.from) in
        let f : b.heads + ((allow - b.heads) - rest) ≡ allow - rest = omega (arith, st.fewer, q.counted) in
        q.goes n9 p k sd ∙ ap (past b.at b.heads) (st.is p sd) ∙ past_past b.at b.heads (to - b.at) ((allow - b.heads) - rest) _
        ∙ ap (λ x. past x (b.heads + ((allow - b.heads) - rest)) (stop_of s number len rest to p)) e ∙ ap (λ x. past to x (stop_of s number len rest to p)) f
        ∙ a.is n p k (fresh_held c.mode k m hk) sd);
    within = a.within;
    part = a.part;
    sane = a.sane;
    phase = a.phase;
    held = a.held;
    named = a.named;
  }

  -- content that goes on
  pub fed_content : {r : Answer} → Sane c → c.mode ≡ IN-CONTENT → Hands c s 0 0 IN-CONTENT c.acc r → Fed c s allow r × Content c r.cells
  fed_content {r} sane e a = (fed_payload sane (omega arith) (λ x. omega arith) (λ x. omega arith) (subst (λ x. Answers c s 0 (from_payload c s 0 0 x c.acc) r) (sym e) a.0), a.1 refl)

  -- an answer that is content
  pub known_content : {r : Answer} → Fed c s allow r × Content c r.cells → (o : Option Answer) → IfSome o (λ b. (b.event ≡ event.Content) × (b ≡ r)) → IfSome o (FedContent c s allow)
  known_content {r} f o h = IfSome_then o h (λ b x. (x.0, subst (λ y. Fed c s allow y × Content c y.cells) (sym x.1) f))

  -- a DATA frame that begins the piece, and has content: its header is whole
  module _ (sane : Sane c) (m0 : c.mode ≡ IN-TYPE) (d0 : c.due ≡ 0) (some : allow ≡ 0 → ⊥) {h : FrameHeader} (whole : WholeAt s 0 h)
      (known : USE-CONTENT ≡ number_of (rule (place_of c.phase c.has c.stated c.sum) h.ftype h.len)) where
    pub data_law : (c.phase ≡ BODY) × (c.sum + h.len ≤ 2 ^ 62)
    data_law = data_lawful c.phase c.has c.stated c.sum h.ftype h.len sane.stateds (sym known)

    module _ (l0 : h.len ≡ 0 → ⊥) where
      data-stop : Stop s c.phase c.has c.stated c.sum 0 allow (stop_of s USE-SKIPPED 0 allow 0) h.next h.len (allow - 1) USE-CONTENT
      data-stop =
          let p = c.phase in
          let none : USE-CONTENT ≡ NO-USE → ⊥ = λ e. omega arith in
          let passes : passes_of h.len USE-CONTENT (length s - h.next) ≡ false = sym (passes_data h.len USE-CONTENT (length s - h.next) refl) ∙ ne_eqb h.len 0 l0 in
          let here = stop_here s p c.has c.stated c.sum h.next h.len (allow - 1) USE-CONTENT whole.within passes none whole.small (ruling_lawful USE-CONTENT p c.has c.stated c.sum h.ftype h.len sane.stateds known) in
          pass_stop s p c.has c.stated c.sum 0 0 USE-SKIPPED allow (sym (passes_skip 0 USE-SKIPPED (length s - 0) refl) ∙ le-leb 0 (length s - 0) zero-le)
          (header_stop s p c.has c.stated c.sum 0 allow h.ftype whole.middle h.len h.next USE-CONTENT whole.typed whole.sized some known none zero-le here)

      pub fed-data : {d : Cells} {r : Answer} → d ≡ more_sum c h.len → Hands d s h.next 1 IN-CONTENT h.len r → Fed c s allow r × Content c r.cells
      fed-data {d} {r} q a =
          let z : allow - 0 ≡ allow = sub-zero allow in
          let e : 1 ≡ allow - (allow - 1) = omega arith in
          let st : Stop s c.phase c.has c.stated c.sum 0 (allow - 0) (stop_of s USE-SKIPPED 0 (allow - 0) 0) h.next h.len (allow - 1) USE-CONTENT = rw z data-stop in
          let x = stop_content c s h.next 1 h.len (allow - 1) whole.within (sane.sums, sane.stateds) sane USE-CONTENT d refl (omega arith) data_law.0 q a.0 in
          let more : Content (more_sum c h.len) r.cells = rw q at (a.1 refl) in
          (fed_read (start 0 0 (Some (Ok Skipped)) 0 c) (omega arith) (begin_fresh c s allow sane m0 d0) (λ y. omega arith) st (subst (λ y. Answers c s 1 (from_stop s h.next y USE-CONTENT h.len (allow - 1)) r) e x), content_more c h.len more)
