-- WHERE A FEED STOPS, over traces. A notice comes with the byte that completes it; a feed that reports nothing and leaves bytes of its piece has finished as
-- many headers as it was allowed, and the next byte is a header's; a part lies within one payload. Assumes nothing.
use Rattle.std.proofs.Math.Path.{◌≡◌, refl, sym, ap, subst}
use Rattle.std.proofs.Common.{◌∙◌}
use Prim.Native.Nat.{ℕ, zero, suc, ◌+◌, ◌-◌, ◌<◌, ◌≤◌, min}
use native.Mathlib.Omega.{arith}
use mathlib.Core.List.{List, [], ◌∷◌, ◌++◌, append-nil}
use Rattle.std.specs.Prelude.{true, false, length, take}
use Rattle.std.proofs.Math.Option.{some}
use Rattle.std.proofs.Math.Seq.{take-take}
use Rattle.rules.specs.Integers.{integer}
use Rattle.rules.specs.Reading.{Part, Kept, Use, content, skipped, section, kept, Ruling, refuse, accept, Next, stop, go, Grammar, Reading}
use Rattle.rules.specs.Message.{Message}
use Rattle.rules.specs.Request.{document, request as asking-rules}
use Rattle.rules.specs.Control.{Control, unset, control, Told, told_settings, told_goaway, told_max_push_id, told_nothing, tells}
use Rattle.rules.specs.OneWay as W
use Rattle.rules.specs.OneWay.{Qpack, Typed, type_rule}
use Rattle.meaning.specs.Machine as M
use Rattle.meaning.specs.Machine.{Prog, State, in_type, in_length, in_payload, due, Outcome, lives, dies, between}
use Rattle.meaning.specs.Feed as F
use Rattle.meaning.specs.Feed.{Feeding, halt, also, onward, judged_event, left_event, over_event, behind_header, named, taking}
use Rattle.meaning.specs.Feeds.{Within}
use Rattle.meaning.proofs.Feeds.{feed_runs}
use Rattle.meaning.specs.OneWayFeed as O
use Rattle.rules.specs.Calls.{qpack_bytes, settings, client_goaway, max_push_id, Event, quiet, section_bytes, content_bytes, notice, part, content_in, section_in, notices_in, goes, fed, feed, act, act₁, request, one_way, kind_of, asking, telling, Pair, Call, on, gave, act_on, fresh, call, run, trace}
use Rattle.rules.specs.Shown.{Shown, running, View, plus_feed, view}
use Rattle.traces.specs.Alone.{call_on, call_on_asking}
use Rattle.traces.specs.Follow.{Agrees, open_still, over, agrees, not_running}
use Rattle.traces.specs.Oneways.{Reached₁, by_feed as by-feed₁, Story₁, Says, says, story₁}
use Rattle.traces.specs.Story.{Reached, by_feed, Asks, asks, Story, story, shut}
use Rattle.traces.specs.Demands.{Shows}
use Rattle.demands.specs.Streams.{is_due, event_of, fed_by, notice_of, frames_event, one_event, streams}
use Rattle.demands.specs.Reading.{reading_of, reading}
use Rattle.demands.specs.Reads.{fed_goes, reads}
use Rattle.demands.specs.Moves.{alone_by, alone}
use Rattle.demands.specs.OneWayReads.{notices_by, alone_goes, heard_reached}
use Rattle.demands.specs.Overheard.{OneSuits, OneTells, one_suits}
use Rattle.demands.specs.Suits.{RequestFits, RequestSuits, EventSuits, request_suits}
use Rattle.demands.specs.Suited.{RowSuits, found_suits, suits_fresh}
use Rattle.demands.specs.Parts.{Loud, Stopped, at_event, at_end, at_allowance, feeds_exactly, one_way_stops, taken_loud, got_fed, got_heard, suits_run}
use Rattle.demands.specs.Allowed.{last_end, InPayload, payload_come, ends_there}
use Rattle.demands.specs.OneWayAllowed.{type_end, At, reached_at, control_reads}
use Rattle.demands.specs.Events.{by_itself}

-- ---- DEFINITIONS

-- 1. A NOTICE COMES WITH ITS LAST BYTE: the bytes used but for the last one have reported nothing that was not reported before
abbrev pub WithLastByte : (before : Shown streams) (used : ℕ) (piece : List ℕ) → Type 0
WithLastByte before used piece = (1 ≤ used) × (notices_by (W.one_way_read [] (before.bytes ++ take (used - 1) piece)) ≡ before.notices)

abbrev pub ComesInTime : (before : Shown streams) (used : ℕ) (piece : List ℕ) → Event → Type 0
ComesInTime s u piece quiet = Unit {0}
ComesInTime s u piece (section_bytes from len last) = Unit {0}
ComesInTime s u piece (content_bytes from len) = Unit {0}
ComesInTime s u piece (notice (qpack_bytes type from len)) = Unit {0}
ComesInTime s u piece (notice (settings size capacity blocked)) = WithLastByte s u piece
ComesInTime s u piece (notice (client_goaway id)) = WithLastByte s u piece
ComesInTime s u piece (notice (max_push_id id)) = WithLastByte s u piece

-- 2. A STOP AT THE ALLOWANCE: as many headers were finished as allowed, and behind the bytes used every payload whose header is finished has come whole.
-- So the next byte is a header's, and no payload byte is held back
pub record AtAllowance (allow heads : ℕ) (bytes : List ℕ) (sections : List (List ℕ)) : Type 0 where
  pub spent : heads ≡ allow
  pub payloads_come : last_end 0 (reading_of bytes sections).said ≤ length bytes

-- of a one-way stream: then its type has come, and is that of a control stream. So no byte of a type, of QPACK or of a skipped stream is held back
pub record AtAllowance₁ (allow heads : ℕ) (bytes : List ℕ) : Type 0 where
  pub spent : heads ≡ allow
  pub said : Reading
  pub is_control : W.one_way_read [] bytes ≡ W.of_control said
  pub payloads_come : last_end (type_end (integer 0 bytes)) said.said ≤ length bytes

-- 3. A PART LIES WITHIN ONE PAYLOAD: the bytes before it carry what was handed over before, and no more; and no header is finished within it
abbrev pub NoHeader : (before : Shown streams) (from used : ℕ) (piece : List ℕ) → Type 0
NoHeader s from u piece = reading.heads (s.bytes ++ take from piece) s.sections ≡ reading.heads (s.bytes ++ take u piece) s.sections

abbrev pub OnePayload : (before : Shown streams) (used : ℕ) (piece : List ℕ) → Event → Type 0
OnePayload s u piece quiet = Unit {0}
OnePayload s u piece (section_bytes from len last) = (reading.blocks (s.bytes ++ take from piece) s.sections ≡ s.blocks) × NoHeader s from u piece
OnePayload s u piece (content_bytes from len) = (reading.carried (s.bytes ++ take from piece) s.sections ≡ s.content) × NoHeader s from u piece
OnePayload s u piece (notice what) = Unit {0}

-- ---- a feed given only the bytes before its event

-- n bytes are before it: those in front of a part, and all but the last of a payload that is kept
abbrev Before : F.Event → (n used : ℕ) → Type 0
Before F.quiet n u = ⊥
Before (F.section_bytes len last) n u = (1 ≤ len) × (n + len ≡ u)
Before (F.content_bytes len) n u = (1 ≤ len) × (n + len ≡ u)
Before (F.taken k payload) n u = suc n ≡ u

before_less : (e : F.Event) (n u : ℕ) → Before e (suc n) (suc u) → Before e n u
before_less F.quiet n u h = h
before_less (F.section_bytes len last) n u h = (h.0, omega (arith, h.1))
before_less (F.content_bytes len) n u h = (h.0, omega (arith, h.1))
before_less (F.taken k payload) n u h = omega arith

abbrev IsPart : F.Event → Type 0
IsPart F.quiet = ⊥
IsPart (F.section_bytes len last) = Unit {0}
IsPart (F.content_bytes len) = Unit {0}
IsPart (F.taken k payload) = ⊥

longer_within : (e : F.Event) (u : ℕ) → Within e u → Within e (suc u)
longer_within F.quiet u w = tt
longer_within (F.section_bytes len last) u w = omega (arith, w)
longer_within (F.content_bytes len) u w = omega (arith, w)
longer_within (F.taken k payload) u w = tt

-- a part with nothing before it, behind a byte: there is none
none_before : (e : F.Event) (u : ℕ) → Within e u → IsPart e → Before e 0 (suc u) → ⊥
none_before F.quiet u w i h = h
none_before (F.section_bytes len last) u w i h = omega (arith, w, h.1)
none_before (F.content_bytes len) u w i h = omega (arith, w, h.1)
none_before (F.taken k payload) u w i h = i

module _ (G : Grammar) where
  -- it uses them and reports nothing, and the part finishes no header
  record Silent (n : ℕ) (whole f : Feeding G.P) : Type 0 where
    heads : IsPart whole.event → f.heads ≡ whole.heads
    used : f.used ≡ n
    event : f.event ≡ F.quiet
    state : State G.P
    after : f.after ≡ lives state

  record Ahead (f : List ℕ → Feeding G.P) (bs : List ℕ) : Type 0 where
    within : Within (f bs).event (f bs).used
    silent : (n : ℕ) → Before (f bs).event n (f bs).used → Silent n (f bs) (f (take n bs))

  none_ahead : (s : State G.P) (whole : Feeding G.P) → (IsPart whole.event → whole.heads ≡ 0) → Silent 0 whole (halt F.quiet (lives s))
  unfolding halt
  none_ahead s whole h = record { heads = λ i. sym (h i); used = refl; event = refl; state = s; after = refl }

  also_within : (h : ℕ) (f : Feeding G.P) → Within f.event f.used → Within (also h f).event (also h f).used
  unfolding also
  also_within h f w = longer_within f.event f.used w

  also_none : (h : ℕ) (f : Feeding G.P) → Within f.event f.used → IsPart (also h f).event → Before (also h f).event 0 (also h f).used → ⊥
  unfolding also
  also_none h f w i b = none_before f.event f.used w i b

  also_silent : (h m : ℕ) (f : List ℕ → Feeding G.P) (bs : List ℕ) → Ahead f bs → Before (also h (f bs)).event (suc m) (also h (f bs)).used → Silent (suc m) (also h (f bs)) (also h (f (take m bs)))
  unfolding also
  also_silent h m f bs a b =
      let w = a.silent m (before_less (f bs).event m (f bs).used b) in
      record { heads = λ i. ap (λ x. h + x) (w.heads i); used = ap suc w.used; event = w.event; state = w.state; after = w.after }

  -- a feed that reads a byte, and then goes on as another
  module _ (s : State G.P) (φ : List ℕ → Feeding G.P) (b : ℕ) (bs : List ℕ) (empty : φ [] ≡ halt F.quiet (lives s)) (h : ℕ) (f : List ℕ → Feeding G.P)
      (so : (xs : List ℕ) → φ (b ∷ xs) ≡ also h (f xs)) (a : Ahead f bs) where
    silent_by : (n : ℕ) → Before (φ (b ∷ bs)).event n (φ (b ∷ bs)).used → Silent n (φ (b ∷ bs)) (φ (take n (b ∷ bs)))
    silent_by zero k =
        let k' = subst (λ x. Before x.event 0 x.used) (so bs) k in
        subst (Silent 0 (φ (b ∷ bs))) (sym empty) (none_ahead s (φ (b ∷ bs)) (λ i. absurd (also_none h (f bs) a.within (subst (λ x. IsPart x.event) (so bs) i) k')))
    silent_by (suc m) k =
        let k' = subst (λ x. Before x.event (suc m) x.used) (so bs) k in
        let w = also_silent h m f bs a k' in
        subst (λ x. Silent (suc m) x (φ (b ∷ take m bs))) (sym (so bs)) (subst (Silent (suc m) (also h (f bs))) (sym (so (take m bs))) w)

    ahead_by : Ahead φ (b ∷ bs)
    ahead_by = record { within = subst (λ x. Within x.event x.used) (sym (so bs)) (also_within h (f bs) a.within); silent = silent_by }

  -- one that reads nothing reports nothing
  halt_ahead : (φ : List ℕ → Feeding G.P) (bs : List ℕ) (o : Outcome G.P) → φ bs ≡ halt F.quiet o → Ahead φ bs
  unfolding halt
  halt_ahead φ bs o q = record {
    within = subst (λ x. Within x.event x.used) (sym q) tt;
    silent = λ n h. absurd (subst (λ x. Before x.event n x.used) q h);
  }

  judged_ahead : (k : Kept) (payload : List ℕ) (x : Next G.P) (f : State G.P → List ℕ → Feeding G.P) (bs : List ℕ) → Ahead (λ bs. onward (judged_event k payload x) (M.answered x) (λ s. f s bs)) bs
  unfolding onward judged_event M.answered halt
  judged_ahead k payload (stop c) f bs = record { within = tt; silent = λ n h. absurd h }
  judged_ahead k payload (go p) f bs = record { within = tt; silent = λ n h. absurd (omega (arith, h)) }

  module _ (f : State G.P → List ℕ → Feeding G.P) (bs : List ℕ) (next : (s : State G.P) → Ahead (f s) bs) where
    left_ahead : (u : Use) (k : List ℕ) (l : ℕ) (p : G.P) → Ahead (λ bs. onward (left_event G u k l p) (M.with_left G u k l p) (λ s. f s bs)) bs
    unfolding onward left_event over_event M.with_left M.over halt
    left_ahead content k zero p = next (between p)
    left_ahead skipped k zero p = next (between p)
    left_ahead (section t) k zero p = record { within = omega arith; silent = λ n h. absurd (omega (arith, h.0)) }
    left_ahead (kept x) k zero p = judged_ahead x k (G.judged x p k) f bs
    left_ahead u k (suc l) p = next (in_payload u k l p)

    skip_ahead : (l : ℕ) (p : G.P) → Ahead (λ bs. onward F.quiet (M.with_left G skipped [] l p) (λ s. f s bs)) bs
    unfolding onward M.with_left M.over
    skip_ahead zero p = next (between p)
    skip_ahead (suc l) p = next (in_payload skipped [] l p)

    behind_ahead : (len : ℕ) (r : Ruling G.P) → Ahead (λ bs. behind_header G len r (λ s. f s bs)) bs
    unfolding behind_header halt
    behind_ahead len (refuse c) = record { within = tt; silent = λ n h. absurd h }
    behind_ahead len (accept u p) = left_ahead u [] len p

  abbrev sized_by : (n t : ℕ) (p : G.P) (bs : List ℕ) → M.Fed → Feeding G.P
  sized_by n t p bs x = elim x as (λ y. Feeding G.P) [
    | M.going g ↦ also 0 (F.feed G (suc n) (in_length t g p) bs)
    | M.value len ↦ also 1 (behind_header G len (G.rule p t len) (λ s. F.feed G n s bs))
  ]

  length_ahead : (n t : ℕ) (g : Prog) (p : G.P) (b : ℕ) (bs : List ℕ) → ((n : ℕ) (s : State G.P) → Ahead (F.feed G n s) bs) → (x : M.Fed) → M.fed g b ≡ x → Ahead (F.feed G (suc n) (in_length t g p)) (b ∷ bs)
  unfolding F.feed
  length_ahead n t g p b bs ih (M.going g') e = ahead_by (in_length t g p) (F.feed G (suc n) (in_length t g p)) b bs refl 0 (F.feed G (suc n) (in_length t g' p)) (λ xs. ap (sized_by n t p xs) e) (ih (suc n) (in_length t g' p))
  length_ahead n t g p b bs ih (M.value len) e =
      ahead_by (in_length t g p) (F.feed G (suc n) (in_length t g p)) b bs refl 1 (λ bs. behind_header G len (G.rule p t len) (λ s. F.feed G n s bs)) (λ xs. ap (sized_by n t p xs) e) (behind_ahead (F.feed G n) bs (ih n) len (G.rule p t len))

  -- a part that the feed begins with has none before it, and no header
  begins_part : (s : State G.P) (φ : List ℕ → Feeding G.P) (b : ℕ) (bs : List ℕ) → φ [] ≡ halt F.quiet (lives s) → Within (φ (b ∷ bs)).event (φ (b ∷ bs)).used
      → ((m : ℕ) → Before (φ (b ∷ bs)).event (suc m) (φ (b ∷ bs)).used → ⊥) → (φ (b ∷ bs)).heads ≡ 0 → Ahead φ (b ∷ bs)
  begins_part s φ b bs empty w first z = record { within = w; silent = by }
    where
      by : (n : ℕ) → Before (φ (b ∷ bs)).event n (φ (b ∷ bs)).used → Silent n (φ (b ∷ bs)) (φ (take n (b ∷ bs)))
      by zero h = subst (Silent 0 (φ (b ∷ bs))) (sym empty) (none_ahead s (φ (b ∷ bs)) (λ i. z))
      by (suc m) h = absurd (first m h)

  content_ahead : (n : ℕ) (k : List ℕ) (l : ℕ) (p : G.P) (b : ℕ) (bs : List ℕ) → Ahead (F.feed G n (in_payload content k l p)) (b ∷ bs)
  unfolding F.feed taking named
  content_ahead n k l p b bs = begins_part (in_payload content k l p) (F.feed G n (in_payload content k l p)) b bs refl (omega arith) (λ m h. omega (arith, h.1)) refl

  section_ahead : (n : ℕ) (t : Part) (k : List ℕ) (l : ℕ) (p : G.P) (b : ℕ) (bs : List ℕ) → Ahead (F.feed G n (in_payload (section t) k l p)) (b ∷ bs)
  unfolding F.feed taking named
  section_ahead n t k l p b bs = begins_part (in_payload (section t) k l p) (F.feed G n (in_payload (section t) k l p)) b bs refl (omega arith) (λ m h. omega (arith, h.1)) refl

  feed_ahead : (n : ℕ) (s : State G.P) (bs : List ℕ) → Ahead (F.feed G n s) bs
  unfolding F.feed
  feed_ahead n s [] = halt_ahead (F.feed G n s) [] (lives s) refl
  feed_ahead zero (in_type g p) (b ∷ bs) = halt_ahead (F.feed G zero (in_type g p)) (b ∷ bs) (lives (in_type g p)) refl
  feed_ahead (suc n) (in_type g p) (b ∷ bs) =
      ahead_by (in_type g p) (F.feed G (suc n) (in_type g p)) b bs refl 0 (F.feed G (suc n) (M.typed p (M.fed g b))) (λ xs. refl) (feed_ahead (suc n) (M.typed p (M.fed g b)) bs)
  feed_ahead zero (in_length t g p) (b ∷ bs) = halt_ahead (F.feed G zero (in_length t g p)) (b ∷ bs) (lives (in_length t g p)) refl
  feed_ahead (suc n) (in_length t g p) (b ∷ bs) = length_ahead n t g p b bs (λ n s. feed_ahead n s bs) (M.fed g b) refl
  feed_ahead n (in_payload content k l p) (b ∷ bs) = content_ahead n k l p b bs
  feed_ahead n (in_payload (section t) k l p) (b ∷ bs) = section_ahead n t k l p b bs
  feed_ahead n (in_payload skipped k l p) (b ∷ bs) =
      ahead_by (in_payload skipped k l p) (F.feed G n (in_payload skipped k l p)) b bs refl 0 (λ bs. onward F.quiet (M.with_left G skipped [] l p) (λ s. F.feed G n s bs)) (λ xs. refl) (skip_ahead (F.feed G n) bs (λ s. feed_ahead n s bs) l p)
  feed_ahead n (in_payload (kept x) k l p) (b ∷ bs) =
      let k' = k ++ (b ∷ []) in
      ahead_by (in_payload (kept x) k l p) (F.feed G n (in_payload (kept x) k l p)) b bs refl 0 (λ bs. onward (left_event G (kept x) k' l p) (M.with_left G (kept x) k' l p) (λ s. F.feed G n s bs)) (λ xs. refl)
      (left_ahead (F.feed G n) bs (λ s. feed_ahead n s bs) (kept x) k' l p)
  feed_ahead n (due t p) (b ∷ bs) = halt_ahead (F.feed G n (due t p)) (b ∷ bs) (lives (due t p)) refl

  -- what is reported came with a byte
  abbrev Reported : Feeding G.P → Type 0
  Reported f = (k : Kept) (payload : List ℕ) → f.event ≡ F.taken k payload → 1 ≤ f.used

  quiet_reports : (o : Outcome G.P) → Reported (halt F.quiet o)
  unfolding halt
  quiet_reports o k payload e = let z : ◌≡◌ {A = ℕ} 0 1 = cc in absurd (omega arith)

  also_reports : (h : ℕ) (f : Feeding G.P) → Reported (also h f)
  unfolding also
  also_reports h f k payload e = omega arith

  taking_reports : (u : Use) (j l : ℕ) (p : G.P) → Reported (taking G u j l p)
  unfolding taking
  taking_reports u j l p k payload e = omega arith

  sized_reports : (n t : ℕ) (p : G.P) (bs : List ℕ) (x : M.Fed) → Reported (sized_by n t p bs x)
  sized_reports n t p bs (M.going g) = also_reports 0 _
  sized_reports n t p bs (M.value len) = also_reports 1 _

  feed_reports : (n : ℕ) (s : State G.P) (bs : List ℕ) → Reported (F.feed G n s bs)
  unfolding F.feed
  feed_reports n s [] = quiet_reports (lives s)
  feed_reports zero (in_type g p) (b ∷ bs) = quiet_reports (lives (in_type g p))
  feed_reports (suc n) (in_type g p) (b ∷ bs) = also_reports 0 _
  feed_reports zero (in_length t g p) (b ∷ bs) = quiet_reports (lives (in_length t g p))
  feed_reports (suc n) (in_length t g p) (b ∷ bs) = sized_reports n t p bs (M.fed g b)
  feed_reports n (in_payload content k l p) (b ∷ bs) = taking_reports content (min l (length bs)) (l - min l (length bs)) p
  feed_reports n (in_payload (section t) k l p) (b ∷ bs) = taking_reports (section t) (min l (length bs)) (l - min l (length bs)) p
  feed_reports n (in_payload skipped k l p) (b ∷ bs) = also_reports 0 _
  feed_reports n (in_payload (kept x) k l p) (b ∷ bs) = also_reports 0 _
  feed_reports n (due t p) (b ∷ bs) = quiet_reports (lives (due t p))

-- ---- a feed that reports nothing and leaves bytes of its piece is in no payload

abbrev OutOf : {P : Type 0} → Outcome P → Type 0
OutOf (lives s) = InPayload s → ⊥
OutOf (dies n) = Unit {0}

module _ (G : Grammar) where
  abbrev Leaves : List ℕ → Feeding G.P → Type 0
  Leaves bs f = f.event ≡ F.quiet → f.used < length bs → OutOf f.after

  also_leaves : (h b : ℕ) (bs : List ℕ) (f : Feeding G.P) → Leaves bs f → Leaves (b ∷ bs) (also h f)
  unfolding also
  also_leaves h b bs f w e l = w e (omega (arith, l))

  halt_leaves : (bs : List ℕ) (e : F.Event) (o : Outcome G.P) → OutOf o → Leaves bs (halt e o)
  unfolding halt
  halt_leaves bs e o w q l = w

  judged_leaves : (bs : List ℕ) (k : Kept) (payload : List ℕ) (x : Next G.P) (f : State G.P → Feeding G.P) → Leaves bs (onward (judged_event k payload x) (M.answered x) f)
  unfolding onward judged_event M.answered
  judged_leaves bs k payload (stop c) f = halt_leaves bs F.quiet (dies c) tt
  judged_leaves bs k payload (go p) f = halt_leaves bs (F.taken k payload) (lives (between p)) (λ i. i)

  module _ (bs : List ℕ) (f : State G.P → Feeding G.P) (next : (s : State G.P) → Leaves bs (f s)) where
    left_leaves : (u : Use) (k : List ℕ) (l : ℕ) (p : G.P) → Leaves bs (onward (left_event G u k l p) (M.with_left G u k l p) f)
    unfolding onward left_event over_event M.with_left M.over
    left_leaves content k zero p = next (between p)
    left_leaves skipped k zero p = next (between p)
    left_leaves (section t) k zero p = halt_leaves bs (F.section_bytes 0 true) (lives (due t p)) (λ i. i)
    left_leaves (kept x) k zero p = judged_leaves bs x k (G.judged x p k) f
    left_leaves u k (suc l) p = next (in_payload u k l p)

    skip_leaves : (l : ℕ) (p : G.P) → Leaves bs (onward F.quiet (M.with_left G skipped [] l p) f)
    unfolding onward M.with_left M.over
    skip_leaves zero p = next (between p)
    skip_leaves (suc l) p = next (in_payload skipped [] l p)

    behind_leaves : (len : ℕ) (r : Ruling G.P) → Leaves bs (behind_header G len r f)
    unfolding behind_header
    behind_leaves len (refuse c) = halt_leaves bs F.quiet (dies c) tt
    behind_leaves len (accept u p) = left_leaves u [] len p

  content_loud : (j l : ℕ) (p : G.P) → (taking G content j l p).event ≡ F.quiet → ⊥
  unfolding taking named
  content_loud j l p e = let z : ◌≡◌ {A = ℕ} 0 1 = cc in omega arith

  section_loud : (t : Part) (j l : ℕ) (p : G.P) → (taking G (section t) j l p).event ≡ F.quiet → ⊥
  unfolding taking named
  section_loud t j l p e = let z : ◌≡◌ {A = ℕ} 0 1 = cc in omega arith

  length_leaves : (n t : ℕ) (p : G.P) (b : ℕ) (bs : List ℕ) → ((n : ℕ) (s : State G.P) → Leaves bs (F.feed G n s bs)) → (x : M.Fed) → Leaves (b ∷ bs) (sized_by G n t p bs x)
  length_leaves n t p b bs ih (M.going g) = also_leaves 0 b bs _ (ih (suc n) (in_length t g p))
  length_leaves n t p b bs ih (M.value len) = also_leaves 1 b bs _ (behind_leaves bs (λ s. F.feed G n s bs) (ih n) len (G.rule p t len))

  feed_leaves : (n : ℕ) (s : State G.P) (bs : List ℕ) → Leaves bs (F.feed G n s bs)
  unfolding F.feed
  feed_leaves n s [] = λ e l. absurd (omega (arith, l))
  feed_leaves zero (in_type g p) (b ∷ bs) = halt_leaves (b ∷ bs) F.quiet (lives (in_type g p)) (λ i. i)
  feed_leaves (suc n) (in_type g p) (b ∷ bs) = also_leaves 0 b bs _ (feed_leaves (suc n) (M.typed p (M.fed g b)) bs)
  feed_leaves zero (in_length t g p) (b ∷ bs) = halt_leaves (b ∷ bs) F.quiet (lives (in_length t g p)) (λ i. i)
  feed_leaves (suc n) (in_length t g p) (b ∷ bs) = length_leaves n t p b bs (λ n s. feed_leaves n s bs) (M.fed g b)
  feed_leaves n (in_payload content k l p) (b ∷ bs) = λ e q. absurd (content_loud (min l (length bs)) (l - min l (length bs)) p e)
  feed_leaves n (in_payload (section t) k l p) (b ∷ bs) = λ e q. absurd (section_loud t (min l (length bs)) (l - min l (length bs)) p e)
  feed_leaves n (in_payload skipped k l p) (b ∷ bs) = also_leaves 0 b bs _ (skip_leaves bs (λ s. F.feed G n s bs) (λ s. feed_leaves n s bs) l p)
  feed_leaves n (in_payload (kept x) k l p) (b ∷ bs) = also_leaves 0 b bs _ (left_leaves bs (λ s. F.feed G n s bs) (λ s. feed_leaves n s bs) (kept x) (k ++ (b ∷ [])) l p)
  feed_leaves n (due t p) (b ∷ bs) = halt_leaves (b ∷ bs) F.quiet (lives (due t p)) (λ i. i)

-- ---- the same of one-way streams

record Silent₁ (n : ℕ) (f : O.OneFeeding) : Type 0 where
  used : f.used ≡ n
  event : f.event ≡ O.of_frames F.quiet
  state : O.OneState
  after : f.after ≡ O.lives state

-- n bytes are before the last one of a payload that is reported
abbrev Before₁ : O.OneEvent → (n used : ℕ) → Type 0
Before₁ (O.of_frames F.quiet) n u = ⊥
Before₁ (O.of_frames (F.section_bytes len last)) n u = ⊥
Before₁ (O.of_frames (F.content_bytes len)) n u = ⊥
Before₁ (O.of_frames (F.taken k payload)) n u = suc n ≡ u
Before₁ (O.qpack_bytes q len) n u = ⊥

before_less₁ : (e : O.OneEvent) (n u : ℕ) → Before₁ e (suc n) (suc u) → Before₁ e n u
before_less₁ (O.of_frames F.quiet) n u h = h
before_less₁ (O.of_frames (F.section_bytes len last)) n u h = h
before_less₁ (O.of_frames (F.content_bytes len)) n u h = h
before_less₁ (O.of_frames (F.taken k payload)) n u h = omega arith
before_less₁ (O.qpack_bytes q len) n u h = h

before_frames : (e : F.Event) (n u : ℕ) → Before₁ (O.of_frames e) n u → Before e n u
before_frames F.quiet n u h = h
before_frames (F.section_bytes len last) n u h = absurd h
before_frames (F.content_bytes len) n u h = absurd h
before_frames (F.taken k payload) n u h = h

abbrev Ahead₁ : (List ℕ → O.OneFeeding) → List ℕ → Type 0
Ahead₁ f bs = (n : ℕ) → Before₁ (f bs).event n (f bs).used → Silent₁ n (f (take n bs))

control_ahead : (allow : ℕ) (s : State Control) (bs : List ℕ) → Ahead₁ (λ bs. O.of_control (F.feed control allow s bs)) bs
unfolding O.of_control O.controlled
control_ahead allow s bs n h =
    let f = F.feed control allow s bs in
    let w = (feed_ahead control allow s bs).silent n (before_frames f.event n f.used h) in
    record { used = w.used; event = ap O.of_frames w.event; state = O.in_control w.state; after = ap O.controlled w.after }

qpack_ahead : (q : Qpack) (bs : List ℕ) → Ahead₁ (O.qpack_feed q) bs
unfolding O.qpack_feed O.halt
qpack_ahead q [] n h = absurd h
qpack_ahead q (b ∷ bs) n h = absurd h

typed_ahead : (allow : ℕ) (x : Typed) (bs : List ℕ) → Ahead₁ (O.typed_feed allow x) bs
unfolding O.typed_feed O.kind_feed O.halt
typed_ahead allow (W.refuse c) bs n h = absurd h
typed_ahead allow (W.is W.a_control) bs n h = control_ahead allow (between unset) bs n h
typed_ahead allow (W.is (W.a_qpack q)) bs n h = qpack_ahead q bs n h
typed_ahead allow (W.is W.skipped) bs n h = absurd h

-- one that reports nothing and leaves bytes of its piece is a control stream, in no payload
abbrev OutOf₁ : O.OneOutcome → Type 0
OutOf₁ (O.lives (O.in_stream_type g)) = ⊥
OutOf₁ (O.lives (O.in_control s)) = InPayload s → ⊥
OutOf₁ (O.lives (O.in_qpack q)) = ⊥
OutOf₁ (O.lives O.in_skipped) = ⊥
OutOf₁ (O.dies n) = Unit {0}

abbrev Leaves₁ : List ℕ → O.OneFeeding → Type 0
Leaves₁ bs f = f.event ≡ O.of_frames F.quiet → f.used < length bs → OutOf₁ f.after

controlled_out : (o : Outcome Control) → OutOf o → OutOf₁ (O.controlled o)
unfolding O.controlled
controlled_out (lives s) w = w
controlled_out (dies n) w = tt

frames_quiet : (e : F.Event) → O.of_frames e ≡ O.of_frames F.quiet → e ≡ F.quiet
frames_quiet e q = cc

control_leaves : (allow : ℕ) (s : State Control) (bs : List ℕ) → Leaves₁ bs (O.of_control (F.feed control allow s bs))
unfolding O.of_control
control_leaves allow s bs e l = let f = F.feed control allow s bs in controlled_out f.after (feed_leaves control allow s bs (frames_quiet f.event e) l)

qpack_leaves : (q : Qpack) (bs : List ℕ) → Leaves₁ bs (O.qpack_feed q bs)
unfolding O.qpack_feed O.halt
qpack_leaves q [] e l = omega (arith, l)
qpack_leaves q (b ∷ bs) e l = omega (arith, l)

typed_leaves : (allow : ℕ) (x : Typed) (bs : List ℕ) → Leaves₁ bs (O.typed_feed allow x bs)
unfolding O.typed_feed O.kind_feed O.halt
typed_leaves allow (W.refuse c) bs e l = tt
typed_leaves allow (W.is W.a_control) bs e l = control_leaves allow (between unset) bs e l
typed_leaves allow (W.is (W.a_qpack q)) bs e l = qpack_leaves q bs e l
typed_leaves allow (W.is W.skipped) bs e l = omega (arith, l)

-- and a notice came with a byte
abbrev Reported₁ : O.OneFeeding → Type 0
Reported₁ f = (k : Kept) (payload : List ℕ) → f.event ≡ O.of_frames (F.taken k payload) → 1 ≤ f.used

frames_taken : (e : F.Event) (k : Kept) (payload : List ℕ) → O.of_frames e ≡ O.of_frames (F.taken k payload) → e ≡ F.taken k payload
frames_taken e k payload q = cc

control_reports : (allow : ℕ) (s : State Control) (bs : List ℕ) → Reported₁ (O.of_control (F.feed control allow s bs))
unfolding O.of_control
control_reports allow s bs k payload e = let f = F.feed control allow s bs in feed_reports control allow s bs k payload (frames_taken f.event k payload e)

qpack_reports : (q : Qpack) (bs : List ℕ) → Reported₁ (O.qpack_feed q bs)
unfolding O.qpack_feed O.halt
qpack_reports q [] k payload e = let z : ◌≡◌ {A = ℕ} 0 1 = cc in absurd (omega arith)
qpack_reports q (b ∷ bs) k payload e = omega arith

module _ (seen : List ℕ) (allow : ℕ) where
  abbrev typed_by : List ℕ → M.Fed → O.OneFeeding
  typed_by bs x = elim x as (λ y. O.OneFeeding) [ M.going g ↦ O.type_feed seen allow g bs | M.value t ↦ O.typed_feed allow (type_rule seen t) bs ]

  byte_ahead : (bs : List ℕ) → ((g : Prog) → Ahead₁ (O.type_feed seen allow g) bs) → (x : M.Fed) → Ahead₁ (λ bs. typed_by bs x) bs
  byte_ahead bs ih (M.going g) = ih g
  byte_ahead bs ih (M.value t) = typed_ahead allow (type_rule seen t) bs

  more_ahead : (b : ℕ) (bs : List ℕ) (g : Prog) → Ahead₁ (λ bs. typed_by bs (M.fed g b)) bs → Ahead₁ (O.type_feed seen allow g) (b ∷ bs)
  unfolding O.type_feed O.halt O.also
  more_ahead b bs g w zero h = record { used = refl; event = refl; state = O.in_stream_type g; after = refl }
  more_ahead b bs g w (suc n) h =
      let f = typed_by bs (M.fed g b) in
      let s = w n (before_less₁ f.event n f.used h) in
      record { used = ap suc s.used; event = s.event; state = s.state; after = s.after }

  type_ahead : (bs : List ℕ) (g : Prog) → Ahead₁ (O.type_feed seen allow g) bs
  unfolding O.type_feed O.halt
  type_ahead [] g = λ n h. absurd h
  type_ahead (b ∷ bs) g = more_ahead b bs g (byte_ahead bs (λ g. type_ahead bs g) (M.fed g b))

  byte_leaves : (bs : List ℕ) → ((g : Prog) → Leaves₁ bs (O.type_feed seen allow g bs)) → (x : M.Fed) → Leaves₁ bs (typed_by bs x)
  byte_leaves bs ih (M.going g) = ih g
  byte_leaves bs ih (M.value t) = typed_leaves allow (type_rule seen t) bs

  type_leaves : (bs : List ℕ) (g : Prog) → Leaves₁ bs (O.type_feed seen allow g bs)
  unfolding O.type_feed O.also O.halt
  type_leaves [] g = λ e l. omega (arith, l)
  type_leaves (b ∷ bs) g = λ e l. byte_leaves bs (λ g. type_leaves bs g) (M.fed g b) e (omega (arith, l))

  type_reports : (bs : List ℕ) (g : Prog) → Reported₁ (O.type_feed seen allow g bs)
  unfolding O.type_feed O.halt O.also
  type_reports [] g k payload e = let z : ◌≡◌ {A = ℕ} 0 1 = cc in absurd (omega arith)
  type_reports (b ∷ bs) g k payload e = omega arith

  one_ahead : (w : O.OneState) (bs : List ℕ) → Ahead₁ (O.feed seen allow w) bs
  unfolding O.feed O.kind_feed
  one_ahead (O.in_stream_type g) bs = type_ahead bs g
  one_ahead (O.in_control s) bs = control_ahead allow s bs
  one_ahead (O.in_qpack q) bs = qpack_ahead q bs
  one_ahead O.in_skipped bs = λ n h. absurd h

  one_leaves : (w : O.OneState) (bs : List ℕ) → Leaves₁ bs (O.feed seen allow w bs)
  unfolding O.feed O.kind_feed
  one_leaves (O.in_stream_type g) bs = type_leaves bs g
  one_leaves (O.in_control s) bs = control_leaves allow s bs
  one_leaves (O.in_qpack q) bs = qpack_leaves q bs
  one_leaves O.in_skipped bs = λ e l. omega (arith, l)

  one_reports : (w : O.OneState) (bs : List ℕ) → Reported₁ (O.feed seen allow w bs)
  unfolding O.feed O.kind_feed
  one_reports (O.in_stream_type g) bs = type_reports bs g
  one_reports (O.in_control s) bs = control_reports allow s bs
  one_reports (O.in_qpack q) bs = qpack_reports q bs
  one_reports O.in_skipped bs = λ k payload e. let z : ◌≡◌ {A = ℕ} 0 1 = cc in absurd (omega arith)

-- ---- over traces: a request stream that runs

abbrev asks_so : Grammar
asks_so = asking-rules document

silent_goes : (n : ℕ) (whole f : Feeding Message) (w : Silent asks_so n whole f) → fed_by f.used f.heads f.event f.after ≡ goes n f.heads quiet w.state
unfolding fed_by event_of
silent_goes n whole f w = rw (w.used, w.event, w.after) refl

-- what the bytes before a part carry is what was handed over before
module _ (s : Shown streams) (r : State Message) (allow : ℕ) (piece : List ℕ) (t : Reached s r) (d : is_due r ≡ false) where
  abbrev this : Feeding Message
  this = F.feed asks_so allow r piece

  record BeforePart (n : ℕ) : Type 0 where
    carried : reading.carried (s.bytes ++ take n piece) s.sections ≡ s.content
    blocks : reading.blocks (s.bytes ++ take n piece) s.sections ≡ s.blocks
    heads : IsPart this.event → reading.heads (s.bytes ++ take n piece) s.sections ≡ s.heads + this.heads

  before_part : (n : ℕ) → Before this.event n this.used → BeforePart n
  unfolding plus_feed content_in section_in
  before_part n b =
      let w = (feed_ahead asks_so allow r piece).silent n b in
      let g = F.feed asks_so allow r (take n piece) in
      let t' : Reached (plus_feed n g.heads quiet (take n piece) s) w.state = by_feed t d (silent_goes n this g w) in
      let x = reads.so_far t' in
      let z = take-take n n piece (omega arith) in
      record {
        carried = sym (rw (z, append-nil s.content) at x.content);
        blocks = sym (rw (z, append-nil s.blocks) at x.blocks);
        heads = λ i. sym (rw z at x.heads) ∙ ap (λ h. s.heads + h) (w.heads i);
      }

  part_of : (x : F.Event) → this.event ≡ x → Within x this.used → Shows reading (plus_feed this.used this.heads (event_of this.used x) piece s) → OnePayload s this.used piece (event_of this.used x)
  unfolding event_of plus_feed content_in section_in part
  part_of F.quiet q w f = tt
  part_of (F.section_bytes zero last) q w f = let z : this.used - 0 ≡ this.used = omega arith in rw z (sym (rw (append-nil s.blocks) at f.blocks), refl)
  part_of (F.section_bytes (suc l) last) q w f =
      let b = before_part (this.used - suc l) (subst (λ x. Before x (this.used - suc l) this.used) (sym q) (omega arith, omega (arith, w))) in (b.blocks, b.heads (subst IsPart (sym q) tt) ∙ f.heads)
  part_of (F.content_bytes zero) q w f = let z : this.used - 0 ≡ this.used = omega arith in rw z (sym (rw (append-nil s.content) at f.content), refl)
  part_of (F.content_bytes (suc l)) q w f =
      let b = before_part (this.used - suc l) (subst (λ x. Before x (this.used - suc l) this.used) (sym q) (omega arith, omega (arith, w))) in (b.carried, b.heads (subst IsPart (sym q) tt) ∙ f.heads)
  part_of (F.taken k payload) q w f = tt

  module _ (r' : State Message) (u h : ℕ) (e : Event) (so : streams.feed r allow piece ≡ goes u h e r') where
    was : (this.after ≡ lives r') × (this.used ≡ u) × (this.heads ≡ h) × (event_of this.used this.event ≡ e)
    was = fed_goes this.used this.heads this.event this.after so

    one_payload : OnePayload s u piece e
    one_payload =
        let f : Shows reading (plus_feed this.used this.heads (event_of this.used this.event) piece s) = rw (was.3, was.2, was.1) (reads.so_far (by_feed t d so)) in
        subst (λ e. OnePayload s u piece e) was.3 (subst (λ n. OnePayload s n piece (event_of this.used this.event)) was.1 (part_of this.event refl (feed_runs asks_so allow 0 r piece).within f))

    quiet_only : (x : F.Event) → EventSuits asks_so RequestFits x this.after → event_of this.used x ≡ quiet → x ≡ F.quiet
    unfolding event_of
    quiet_only F.quiet w q = refl
    quiet_only (F.section_bytes len last) w q = let z : ◌≡◌ {A = ℕ} 0 1 = cc in absurd (omega arith)
    quiet_only (F.content_bytes len) w q = let z : ◌≡◌ {A = ℕ} 0 1 = cc in absurd (omega arith)
    quiet_only (F.taken k payload) w q = absurd w.fits

    out_of : RequestSuits r → e ≡ quiet → u < length piece → InPayload r' → ⊥
    out_of w q l = subst OutOf was.0 (feed_leaves asks_so allow r piece (quiet_only this.event (request_suits allow r w piece).event (was.3 ∙ q)) (omega (arith, l, was.1)))

payload_agrees : (id : ℕ) (p : Pair streams) (v : View streams) (allow u h : ℕ) (piece : List ℕ) (e : Event) → v.fate ≡ running → (call (on id (feed allow piece)) p).answer ≡ gave (fed u h e)
    → Agrees Asks Story id p v → OnePayload v.shown u piece e
unfolding act
payload_agrees id p v allow u h piece e n q (over {f = f} t g) = absurd (not_running f (shut t) n)
payload_agrees id p v allow u h piece e n q (open_still {s = s} a (asks {r = r} t) f) =
    let c = got_fed id p (λ x. record { stream = asking x; kept = p.conn.kept }) u h e (is_due r) (streams.feed r allow piece) (sym (ap (λ x. x.answer) (call_on_asking p id r (feed allow piece) a f)) ∙ q) in
    one_payload s r allow piece t c.0 c.1.0 u h e c.1.1

come_agrees : (id : ℕ) (p : Pair streams) (v : View streams) (allow u h : ℕ) (piece : List ℕ) (e : Event) → v.fate ≡ running → (call (on id (feed allow piece)) p).answer ≡ gave (fed u h e)
    → RowSuits p.row → e ≡ quiet → u < length piece → Agrees Asks Story id p v
    → let bytes = v.shown.bytes ++ take u piece in last_end 0 (reading_of bytes v.shown.sections).said ≤ length bytes
unfolding act plus_feed
come_agrees id p v allow u h piece e n q w z l (over {f = f} t g) = absurd (not_running f (shut t) n)
come_agrees id p v allow u h piece e n q w z l (open_still {s = s} a (asks {r = r} t) f) =
    let c = got_fed id p (λ x. record { stream = asking x; kept = p.conn.kept }) u h e (is_due r) (streams.feed r allow piece) (sym (ap (λ x. x.answer) (call_on_asking p id r (feed allow piece) a f)) ∙ q) in
    let r' = c.1.0 in
    let s' = plus_feed u h e piece s in
    payload_come asks_so (length s'.bytes) _ r' (ends_there s' r' (by_feed t c.0 c.1.1)) (out_of s r allow piece t c.0 r' u h e c.1.1 (found_suits id (asking r) p.row w f) z l)

-- a stop without an event before the end is one at the allowance
spent_by : (allow : ℕ) (piece : List ℕ) (u h : ℕ) → u < length piece → Stopped allow piece u h quiet → h ≡ allow
spent_by allow piece u h l (at_event x) = absurd x
spent_by allow piece u h l (at_end x) = absurd (omega (arith, l, x))
spent_by allow piece u h l (at_allowance x) = x

-- A PART LIES WITHIN ONE PAYLOAD, of a request stream that runs
pub within_one_payload : (id : ℕ) → kind_of id ≡ some request → (cs : List (Call streams)) (allow used heads : ℕ) (piece : List ℕ) (e : Event) → (view id (trace fresh cs)).fate ≡ running
    → (call (on id (feed allow piece)) (run fresh cs)).answer ≡ gave (fed used heads e) → OnePayload (view id (trace fresh cs)).shown used piece e
within_one_payload id k cs allow u h piece e n q = payload_agrees id (run fresh cs) (view id (trace fresh cs)) allow u h piece e n q (agrees story id cs k)

-- NO PAYLOAD BYTE IS HELD BACK: where a feed of a running request stream reports nothing and leaves bytes of its piece, it stopped at its allowance, before a header's byte
pub held_by_allowance : (id : ℕ) → kind_of id ≡ some request → (cs : List (Call streams)) (allow used heads : ℕ) (piece : List ℕ) → let s = (view id (trace fresh cs)).shown in (view id (trace fresh cs)).fate ≡ running
    → (call (on id (feed allow piece)) (run fresh cs)).answer ≡ gave (fed used heads quiet) → used < length piece → AtAllowance allow heads (s.bytes ++ take used piece) s.sections
held_by_allowance id k cs allow u h piece n q l = record {
  spent = spent_by allow piece u h l (feeds_exactly id k cs allow u h piece quiet n q).stopped;
  payloads_come = come_agrees id (run fresh cs) (view id (trace fresh cs)) allow u h piece quiet n q (suits_run cs fresh suits_fresh) refl l (agrees story id cs k);
}

-- ---- over traces: a one-way stream that runs

silent_heard : (n : ℕ) (f : O.OneFeeding) (w : Silent₁ n f) → alone_by f.used f.heads f.event f.after ≡ goes n f.heads quiet w.state
unfolding alone_by one_event frames_event
silent_heard n f w = rw (w.used, w.event, w.after) refl

told_in_time : (s : Shown streams) (u : ℕ) (piece : List ℕ) (x : Told) → WithLastByte s u piece → ComesInTime s u piece (notice_of x)
unfolding notice_of
told_in_time s u piece (told_settings x) w = w
told_in_time s u piece (told_goaway id) w = w
told_in_time s u piece (told_max_push_id id) w = w
told_in_time s u piece told_nothing w = tt

module _ (s : Shown streams) (w : O.OneState) (allow : ℕ) (piece : List ℕ) (t : Reached₁ alone s w) where
  abbrev this₁ : O.OneFeeding
  this₁ = O.feed [] allow w piece

  with_last_byte : (k : Kept) (payload : List ℕ) → this₁.event ≡ O.of_frames (F.taken k payload) → WithLastByte s this₁.used piece
  unfolding plus_feed notices_in
  with_last_byte k payload e =
      let l = one_reports [] allow w piece k payload e in
      let n = this₁.used - 1 in
      let b : suc n ≡ this₁.used = omega (arith, l) in
      let x = one_ahead [] allow w piece n (subst (λ x. Before₁ x n this₁.used) (sym e) b) in
      let g = O.feed [] allow w (take n piece) in
      let t' : Reached₁ alone (plus_feed n g.heads quiet (take n piece) s) x.state = by-feed₁ t (silent_heard n g x) in
      let z = take-take n n piece (omega arith) in
      (l, sym (rw (z, append-nil s.notices) at (heard_reached t').notices))

  in_time : (x : O.OneEvent) → this₁.event ≡ x → ComesInTime s this₁.used piece (one_event this₁.used x)
  unfolding one_event frames_event
  in_time (O.of_frames F.quiet) e = tt
  in_time (O.of_frames (F.section_bytes len last)) e = tt
  in_time (O.of_frames (F.content_bytes len)) e = tt
  in_time (O.of_frames (F.taken k payload)) e = told_in_time s this₁.used piece (tells k payload) (with_last_byte k payload e)
  in_time (O.qpack_bytes q len) e = tt

  quiet_only₁ : (x : O.OneEvent) (o : O.OneOutcome) → OneTells x o → one_event this₁.used x ≡ quiet → x ≡ O.of_frames F.quiet
  unfolding one_event frames_event
  quiet_only₁ (O.of_frames F.quiet) o h q = refl
  quiet_only₁ (O.of_frames (F.section_bytes len last)) o h q = absurd h
  quiet_only₁ (O.of_frames (F.content_bytes len)) o h q = absurd h
  quiet_only₁ (O.of_frames (F.taken k payload)) o (y, z, j) q = absurd (subst Loud q (taken_loud k j.place j.next payload j.fits j.is))
  quiet_only₁ (O.qpack_bytes c len) o h q = let z : ◌≡◌ {A = ℕ} 0 1 = cc in absurd (omega arith)

  module _ (w' : O.OneState) (u h : ℕ) (e : Event) (so : alone.alone₁ w allow piece ≡ goes u h e w') where
    was₁ : (this₁.after ≡ O.lives w') × (this₁.used ≡ u) × (this₁.heads ≡ h) × (one_event this₁.used this₁.event ≡ e)
    was₁ = alone_goes this₁.used this₁.heads this₁.event this₁.after so

    comes_in_time : ComesInTime s u piece e
    comes_in_time = subst (λ e. ComesInTime s u piece e) was₁.3 (subst (λ n. ComesInTime s n piece (one_event this₁.used this₁.event)) was₁.1 (in_time this₁.event refl))

    out_of₁ : OneSuits w → e ≡ quiet → u < length piece → OutOf₁ (O.lives w')
    out_of₁ f q l = subst OutOf₁ was₁.0 (one_leaves [] allow w piece (quiet_only₁ this₁.event this₁.after (one_suits [] allow w f piece).event (was₁.3 ∙ q)) (omega (arith, l, was₁.1)))

-- a control stream outside a payload
come₁ : (allow heads : ℕ) (bytes : List ℕ) (w : O.OneState) → heads ≡ allow → At bytes w → OutOf₁ (O.lives w) → AtAllowance₁ allow heads bytes
come₁ allow heads bytes (O.in_stream_type g) z a o = absurd o
come₁ allow heads bytes (O.in_control s) z a o = let c = control_reads bytes s a in record { spent = z; said = c.0; is_control = c.1; payloads_come = payload_come control (length bytes) _ s c.2 o }
come₁ allow heads bytes (O.in_qpack q) z a o = absurd o
come₁ allow heads bytes O.in_skipped z a o = absurd o

time_agrees : (id : ℕ) (p : Pair streams) (v : View streams) (allow u h : ℕ) (piece : List ℕ) (e : Event) → v.fate ≡ running → (call (on id (feed allow piece)) p).answer ≡ gave (fed u h e)
    → Agrees (Says alone) (Story₁ alone) id p v → ComesInTime v.shown u piece e
unfolding act_on act₁
time_agrees id p v allow u h piece e n q (over {f = f} t g) = absurd (not_running f ((story₁ alone).shut t) n)
time_agrees id p v allow u h piece e n q (open_still {s = s} a (says {w = w} t) f) =
    let k = p.conn.kept in
    let c = got_heard id p (λ x. record { stream = telling x.state; kept = x.kept }) u h e (streams.feed₁ k w allow piece) (sym (ap (λ x. x.answer) (call_on p id (telling w) (feed allow piece) a f)) ∙ q) in
    comes_in_time s w allow piece t c.0.state u h e (by_itself (alone.like k w allow piece) c.1)

held_agrees : (id : ℕ) (p : Pair streams) (v : View streams) (allow u h : ℕ) (piece : List ℕ) (e : Event) → v.fate ≡ running → (call (on id (feed allow piece)) p).answer ≡ gave (fed u h e)
    → RowSuits p.row → e ≡ quiet → u < length piece → h ≡ allow → Agrees (Says alone) (Story₁ alone) id p v → AtAllowance₁ allow h (v.shown.bytes ++ take u piece)
unfolding act_on act₁ plus_feed
held_agrees id p v allow u h piece e n q y x l z (over {f = f} t g) = absurd (not_running f ((story₁ alone).shut t) n)
held_agrees id p v allow u h piece e n q y x l z (open_still {s = s} a (says {w = w} t) f) =
    let k = p.conn.kept in
    let c = got_heard id p (λ x. record { stream = telling x.state; kept = x.kept }) u h e (streams.feed₁ k w allow piece) (sym (ap (λ x. x.answer) (call_on p id (telling w) (feed allow piece) a f)) ∙ q) in
    let so = by_itself (alone.like k w allow piece) c.1 in
    let t' : Reached₁ alone (plus_feed u h e piece s) c.0.state = by-feed₁ t so in
    come₁ allow h (s.bytes ++ take u piece) c.0.state z (reached_at t') (out_of₁ s w allow piece t c.0.state u h e so (found_suits id (telling w) p.row y f) x l)

-- A NOTICE COMES WITH ITS LAST BYTE, of a one-way stream that runs
pub notices_in_time : (id : ℕ) → kind_of id ≡ some one_way → (cs : List (Call streams)) (allow used heads : ℕ) (piece : List ℕ) (e : Event) → (view id (trace fresh cs)).fate ≡ running
    → (call (on id (feed allow piece)) (run fresh cs)).answer ≡ gave (fed used heads e) → ComesInTime (view id (trace fresh cs)).shown used piece e
notices_in_time id k cs allow u h piece e n q = time_agrees id (run fresh cs) (view id (trace fresh cs)) allow u h piece e n q (agrees (story₁ alone) id cs k)

-- NO FREE BYTE IS HELD BACK: where a feed of a running one-way stream reports nothing and leaves bytes of its piece, it stopped at its allowance, before a header's byte of a
-- control stream
pub held_by_allowance₁ : (id : ℕ) → kind_of id ≡ some one_way → (cs : List (Call streams)) (allow used heads : ℕ) (piece : List ℕ) → (view id (trace fresh cs)).fate ≡ running
    → (call (on id (feed allow piece)) (run fresh cs)).answer ≡ gave (fed used heads quiet) → used < length piece → AtAllowance₁ allow heads ((view id (trace fresh cs)).shown.bytes ++ take used piece)
held_by_allowance₁ id k cs allow u h piece n q l =
    held_agrees id (run fresh cs) (view id (trace fresh cs)) allow u h piece quiet n q (suits_run cs fresh suits_fresh) refl l (spent_by allow piece u h l (one_way_stops id k cs allow u h piece quiet n q)) (agrees (story₁ alone) id cs k)
