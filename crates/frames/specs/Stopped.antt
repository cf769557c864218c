-- What the code answers of a stop of the two readers: a law for each kind of stop. Assumes nothing.
use Rattle.std.specs.Prelude.{◌≡◌, refl, drop, Option}
use Rattle.std.proofs.Common.{sym, ◌∙◌}
use Rattle.std.proofs.Math.Path.{ap}
use Prim.Native.Nat.{ℕ, zero, suc, ◌+◌, ◌-◌, ◌≤◌, ◌<◌, ◌^◌}
use Rattle.std.proofs.Math.Nat.{add-zero}
use native.Mathlib.Omega.{arith}
use mathlib.Core.List.{List, []}
use Rattle.std.proofs.Math.ListN.{length, length-drop}
use Rattle.rules.specs.Numbers.{code_number}
use Rattle.rules.specs.Named.{code_of}
use Rattle.rules.specs.declared.codes.Code.{Code}
use Rattle.rules.specs.Reading as reading
use Rattle.rules.specs.Reading.{header_section, trailers, settings, goaway, max_push_id, cancel_push, content, skipped, section, kept, accept}
use Rattle.meaning.specs.NumberLaws.{code_high}
use Rattle.meaning.specs.Machine.{State, in_payload, with_left}
use Rattle.meaning.specs.Feed.{Feeding, halt, onward, left_event, behind_header, feed}
use Rattle.meaning.specs.FeedLaws.{past}
use Rattle.meaning.proofs.FeedLaws.{feed_held, skip_short}
use Rattle.varint.specs.ByByte.{prog}
use Rattle.frames.specs.Modes.{IN-TYPE, IN-SKIPPED, IN-CONTENT, IN-HEADER-SECTION, IN-TRAILERS, IN-SETTINGS, IN-GOAWAY, IN-MAX-PUSH-ID, IN-CANCEL-PUSH, USE-SKIPPED, USE-CONTENT, USE-HEADER-SECTION, USE-TRAILERS, USE-SETTINGS, USE-GOAWAY, USE-MAX-PUSH-ID, USE-CANCEL-PUSH, NO-USE, BODY, mode_of}
use Rattle.frames.specs.declared.Cells.{Cells}
use Rattle.frames.specs.declared.Answer.{Answer}
use Rattle.frames.specs.declared.Event.TheVariants as event
use Rattle.frames.specs.declared.Use.{Use}
use Rattle.frames.specs.declared.Use.TheVariants.{Skipped, Content, HeaderSection, Trailers, Settings, Goaway, MaxPushId, CancelPush}
use Rattle.frames.specs.Both.{Place, both}
use Rattle.frames.specs.Uses.{place_of, Stands, a_place, any_set, with_data, ruling_at, refuse_back}
use Rattle.frames.specs.Wants.{mode_in, use_in, stated_in, has_in, length_in, stands_back}
use Rattle.frames.specs.Heads.{head_state}
use Rattle.frames.specs.Parts.{Stopping, section_stops, kept_stops, over_stops}
use Rattle.frames.specs.Stops.{Coming, Stop, header_of, payload_of, stop_of, not_header}
use Rattle.frames.specs.Answers.{mode_state, state_at, place_at, place_in, answer_at, Sane, Numbers, emptied, coming, Answers, from_payload, some_coming, place_same, in_mode, answer}
use Rattle.frames.specs.Handed.{sane_in, behind}

-- from a stop on: so many bytes and headers are behind it
abbrev pub from_stop : (s : List ℕ) (to heads number len rest : ℕ) → (n : ℕ) → Place → (sofar : List ℕ) → Feeding Place
from_stop s to heads number len rest n p k = past to heads (stop_of s number len rest to p)

-- the cells behind an accepted DATA
abbrev pub more_sum : Cells → (len : ℕ) → Cells
more_sum c len = record { mode = c.mode; acc = c.acc; due = c.due; ftype = c.ftype; phase = c.phase; has = c.has; stated = c.stated; sum = c.sum + len }

-- a stop by the place of cells is one by their numbers
pub stop_placed : (s : List ℕ) (c : Cells) {ph m : ℕ} {st : Option ℕ} {at allow : ℕ} {want : Coming} {to len rest number : ℕ} → ph ≡ c.phase → st ≡ stated_in c.has c.stated → m ≡ c.sum
    → Stop s ph (has_in st) (length_in st) m at allow want to len rest number → Stop s c.phase c.has c.stated c.sum at allow want to len rest number
stop_placed s c e f g q =
    let r = rw (e, f, g) at q in
    record { is = λ p st. r.is p (stands_back c.has c.stated c.sum st); from = r.from; within = r.within; fewer = r.fewer; small = r.small; stuck = r.stuck }

data_place : (h n m len : ℕ) {ph : ℕ} {p : Place} (q : Place) → Stands h n m ph p → ph ≡ BODY → with_data len p ≡ place_at ph h n (m + len) q
unfolding with_data place_at place_of
data_place h n m len q (a_place {phase = ph}) e = rw e refl
data_place h n m len q (any_set k i) e = absurd (omega arith)

free_place : (h n m ph : ℕ) (p q : Place) → ph ≡ BODY → place_at ph h n m p ≡ place_at ph h n m q
unfolding place_at
free_place h n m ph p q e = rw e refl

behind_accept : {u : reading.Use} (len : ℕ) (q : Place) (f : State Place → Feeding Place) → (len ≡ 0 → Stopping u) → behind_header both len (accept u q) f ≡ coming len (in_payload u [] (len - 1) q) f
unfolding behind_header coming emptied left_event with_left onward
behind_accept zero q f h = over_stops both 0 q (h refl) [] f
behind_accept (suc l) q f h = let z : suc l - 1 ≡ l = omega arith in rw z refl

module _ (c : Cells) (s : List ℕ) (to heads len rest : ℕ) (w : to ≤ length s) (g : Numbers c) (sane : Sane c) where
  -- ---- a fault

  pub stop_fault : (code : Code) → Answers c s 1 (from_stop s to heads (code_number (code_of code)) len rest) (answer (event.Fault code) to 0 to heads c)
  unfolding answer_at payload_of behind_header halt past
  stop_fault code =
      let number = code_number (code_of code) in
      let n9 : number ≡ NO-USE → ⊥ = λ e. (let h = code_high (code_of code) in omega arith) in
      let u = add-zero to in
      let z = add-zero heads in
      record {
        is = λ n p k hk st. ap (past to heads) (not_header s number len rest to p n9 ∙ ap (λ x. behind_header both len x (λ q. feed both rest q (drop to s))) (refuse_back p (code_of code) len)) ∙ rw (u, z) refl;
        within = w;
        part = omega arith;
        sane = λ x. sane;
        phase = refl;
        held = λ e. cc;
        named = λ which e. cc;
      }

  -- ---- no more headers

  pub stop_out : (number : ℕ) {r : Cells} → number ≡ NO-USE → rest ≡ 0 → r ≡ in_mode c IN-TYPE 0 → Answers c s 1 (from_stop s to heads number len rest) (answer event.Nothing to 0 to heads r)
  unfolding answer_at mode_state mode_of head_state prog stop_of header_of halt past
  stop_out number e z q =
      let u = add-zero to in
      let v = add-zero heads in
      rw (q, e, z) (record {
        is = λ n p k hk st. (let x = place_same c p st in let y = feed_held both (Rattle.meaning.specs.Machine.fresh) p (drop to s) in rw (x, y, u, v) refl);
        within = w;
        part = omega arith;
        sane = λ x. sane_in c IN-TYPE 0 g (omega arith) (omega arith) (λ l. refl) (λ a b f. absurd (omega arith));
        phase = refl;
        held = λ e. cc;
        named = λ which e. cc;
      })

  -- ---- a payload of some bytes

  -- what is behind a header of this ruling
  behind_ruling : (number : ℕ) (u : reading.Use) (p q : Place) → ruling_at p number len ≡ accept u q → (len ≡ 0 → Stopping u)
      → payload_of s number len rest to p ≡ coming len (in_payload u [] (len - 1) q) (λ st. feed both rest st (drop to s))
  unfolding payload_of
  behind_ruling number u p q r h = rw r (behind_accept len q (λ st. feed both rest st (drop to s)) h)

  -- ---- a skipped payload that the piece ends in

  pub stop_skip : (number : ℕ) {r : Cells} → number ≡ USE-SKIPPED → length s - to < len → len < 2 ^ 62 → r ≡ in_mode c IN-SKIPPED (len - (length s - to))
      → Answers c s 1 (from_stop s to heads number len rest) (answer event.Nothing (length s) 0 (length s) heads r)
  unfolding answer_at mode_state mode_of
  stop_skip number e l hi q =
      let d = length-drop to s in
      let f : to + (length s - to) ≡ length s = omega arith in
      let b : (len - 1) - (length s - to) ≡ (len - (length s - to)) - 1 = omega arith in
      rw (q, e) (record {
        is = λ n p k hk st. (let x = place_same c p st in
            rw x (ap (past to heads) (not_header s USE-SKIPPED len rest to p (λ z. omega arith) ∙ behind_ruling USE-SKIPPED skipped p p (unfold ruling_at in refl) (λ z. absurd (omega arith)) ∙ some_coming len (omega arith) _ _ ∙ skip_short both rest p (len - 1) (drop to s) (omega arith))
            ∙ behind to heads (length (drop to s)) _ _ ∙ rw (d, f, b) refl));
        within = omega arith;
        part = omega arith;
        sane = λ x. sane_in c IN-SKIPPED (len - (length s - to)) g (omega arith) (omega arith) (λ l. absurd (omega arith)) (λ a b f. omega arith);
        phase = refl;
        held = λ e. cc;
        named = λ which e. cc;
      })

  -- ---- content: DATA moves the sum

  pub stop_content : (number : ℕ) (d : Cells) {r : Answer} → number ≡ USE-CONTENT → 0 < len → c.phase ≡ BODY → d ≡ more_sum c len
      → Answers d s 0 (from_payload d s to heads IN-CONTENT len) r → Answers c s 1 (from_stop s to heads number len rest) r
  unfolding mode_state mode_of
  stop_content number d {r} e lo ph q b =
      let a : Answers (more_sum c len) s 0 (from_payload (more_sum c len) s to heads IN-CONTENT len) r = rw q at b in
      let p' = place_of c.phase c.has c.stated (c.sum + len) in
      record {
        is = λ n p k hk st.
            ap (past to heads) (ap (λ x. stop_of s x len rest to p) e ∙ not_header s USE-CONTENT len rest to p (λ z. omega arith)
            ∙ behind_ruling USE-CONTENT content p (with_data len p) (unfold ruling_at in refl) (λ z. absurd (omega arith)))
            ∙ ap (λ x. past to heads (coming len (in_payload content [] (len - 1) x) (λ y. feed both rest y (drop to s)))) (data_place c.has c.stated c.sum len p' st ph)
            ∙ a.is rest p' k tt a_place
            ∙ ap (λ x. answer_at r.event r.start r.len r.used r.heads r.cells x k s) (free_place r.cells.has r.cells.stated r.cells.sum r.cells.phase p' p (a.phase ∙ ph));
        within = a.within;
        part = a.part;
        sane = a.sane;
        phase = a.phase;
        held = a.held;
        named = a.named;
      }

  -- ---- a section or a kept payload

  handed : (number mode : ℕ) (u : reading.Use) {r : Answer} → ((p : Place) → ruling_at p number len ≡ accept u p) → ((p : Place) → state_at mode len 0 0 p [] ≡ in_payload u [] (len - 1) p)
      → (number ≡ NO-USE → ⊥) → Stopping u → Answers c s 0 (from_payload c s to heads mode len) r → Answers c s 1 (from_stop s to heads number len rest) r
  handed number mode u ru sa n9 o a = record {
    is = λ n p k hk st.
        (let x = place_same c p st in
        ap (past to heads) (not_header s number len rest to p n9 ∙ behind_ruling number u p p (ru p) (λ z. o) ∙ ap (λ y. coming len y (λ g. feed both rest g (drop to s))) (sym (sa p)))
        ∙ ap (λ y. past to heads (coming len (state_at mode len 0 0 y []) (λ g. feed both rest g (drop to s)))) (sym x)
        ∙ ap (λ y. past to heads (coming len (state_at mode len 0 0 (place_in c p) y) (λ g. feed both rest g (drop to s)))) (sym hk) ∙ a.is rest p k tt st);
    within = a.within;
    part = a.part;
    sane = a.sane;
    phase = a.phase;
    held = a.held;
    named = a.named;
  }

  pub stop_handed : (u : Use) {r : Answer} → (u ≡ Skipped → ⊥) → (u ≡ Content → ⊥) → Answers c s 0 (from_payload c s to heads (mode_in u) len) r → Answers c s 1 (from_stop s to heads (use_in u) len rest) r
  unfolding ruling_at mode_state mode_of
  stop_handed Skipped n m a = absurd (n refl)
  stop_handed Content n m a = absurd (m refl)
  stop_handed HeaderSection n m a = handed USE-HEADER-SECTION IN-HEADER-SECTION (section header_section) (λ p. refl) (λ p. refl) (λ z. omega arith) (section_stops header_section) a
  stop_handed Trailers n m a = handed USE-TRAILERS IN-TRAILERS (section trailers) (λ p. refl) (λ p. refl) (λ z. omega arith) (section_stops trailers) a
  stop_handed Settings n m a = handed USE-SETTINGS IN-SETTINGS (kept settings) (λ p. refl) (λ p. refl) (λ z. omega arith) (kept_stops settings) a
  stop_handed Goaway n m a = handed USE-GOAWAY IN-GOAWAY (kept goaway) (λ p. refl) (λ p. refl) (λ z. omega arith) (kept_stops goaway) a
  stop_handed MaxPushId n m a = handed USE-MAX-PUSH-ID IN-MAX-PUSH-ID (kept max_push_id) (λ p. refl) (λ p. refl) (λ z. omega arith) (kept_stops max_push_id) a
  stop_handed CancelPush n m a = handed USE-CANCEL-PUSH IN-CANCEL-PUSH (kept cancel_push) (λ p. refl) (λ p. refl) (λ z. omega arith) (kept_stops cancel_push) a
