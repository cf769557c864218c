-- Feeds and sections, in any order and any cutting, come to the reading of the bytes consumed and the blocks given. For every grammar.
-- Assumes nothing.
use Rattle.std.specs.Prelude.{◌≡◌}
use Rattle.std.proofs.Math.Path.{refl, sym, ap}
use Rattle.std.proofs.Common.{◌∙◌, add-zero}
use Prim.Native.Nat.{ℕ, zero, suc, ◌+◌, ◌-◌, ◌≤◌, min, zero-le}
use Rattle.std.proofs.Math.Nat.{suc-sub-suc, sub-zero, sub_self, zero-add}
use native.Mathlib.Omega.{arith}
use mathlib.Core.List.{List, [], ◌∷◌, ◌++◌, append_assoc, append-nil}
use Rattle.std.proofs.Math.ListN.{length, take, length-append}
use Rattle.std.proofs.Math.Seq.{length-take-le}
use Rattle.rules.specs.Block.{Section}
use Rattle.rules.specs.Reading.{Kept, Use, content, skipped, section, kept, Ruling, refuse, accept, Next, stop, go, Grammar, Saying, header, refused, section_byte, content_byte, frame_kept, told}
use Rattle.meaning.specs.Machine.{Prog, Fed, going, value, fed, State, in_type, in_length, in_payload, due, Outcome, lives, dies, between, answered, typed, keep, with_left, ruled, sized, step, given, judged_says, over_says, left_says, rule_says, size_says, says, reads, resumed, supplied, settled, next, tells, finished, begins, run, began, lists}
use Rattle.meaning.specs.Feed.{Event, quiet, section_bytes, content_bytes, taken, Feeding, halt, also, onward, judged_event, over_event, left_event, behind_header, named, taking, feed, shows}
use Rattle.meaning.proofs.Bridge.{told_cons, told_nil}
use Rattle.meaning.proofs.Cut.{run_append, lists_append, read_is}
use Rattle.meaning.specs.Feeds.{unheaded, headers_in, Within, Call, feed_call, give_call, takes, Runs, rule_shows, Handed, of_content, of_section, calls, Came, verdict_of_done, CallsRead}

pub unheaded_append : (x y : List Saying) → unheaded (x ++ y) ≡ unheaded x ++ unheaded y
unfolding unheaded
unheaded_append [] y = refl
unheaded_append (header h u ∷ x) y = unheaded_append x y
unheaded_append (refused h ∷ x) y = unheaded_append x y
unheaded_append (section_byte b ∷ x) y = ap (λ l. section_byte b ∷ l) (unheaded_append x y)
unheaded_append (content_byte b ∷ x) y = ap (λ l. content_byte b ∷ l) (unheaded_append x y)
unheaded_append (frame_kept t k ∷ x) y = ap (λ l. frame_kept t k ∷ l) (unheaded_append x y)

pub headers_in_append : (x y : List Saying) → headers_in (x ++ y) ≡ headers_in x + headers_in y
unfolding headers_in
headers_in_append [] y = omega arith
headers_in_append (header h u ∷ x) y = let i = headers_in_append x y in omega arith
headers_in_append (refused h ∷ x) y = let i = headers_in_append x y in omega arith
headers_in_append (section_byte b ∷ x) y = headers_in_append x y
headers_in_append (content_byte b ∷ x) y = headers_in_append x y
headers_in_append (frame_kept t k ∷ x) y = headers_in_append x y

told_heads : (u : Use) (b : ℕ) → headers_in (told u (b ∷ [])) ≡ 0
unfolding headers_in told
told_heads content b = refl
told_heads skipped b = refl
told_heads (section t) b = refl
told_heads (kept t) b = refl

unheaded_told : (u : Use) (bs : List ℕ) → unheaded (told u bs) ≡ told u bs
unfolding unheaded told
unheaded_told content [] = refl
unheaded_told content (b ∷ bs) = ap (λ l. content_byte b ∷ l) (unfold told in unheaded_told content bs)
unheaded_told skipped bs = refl
unheaded_told (section t) [] = refl
unheaded_told (section t) (b ∷ bs) = ap (λ l. section_byte b ∷ l) (unfold told in unheaded_told (section t) bs)
unheaded_told (kept t) bs = refl

told_then : (u : Use) (b : ℕ) (bs : List ℕ) (rest : List Saying) → told u bs ≡ unheaded rest → told u (b ∷ bs) ≡ unheaded (told u (b ∷ []) ++ rest)
told_then u b bs rest e =
    told_cons u b bs ∙ ap (λ x. told u (b ∷ []) ++ x) e ∙ ap (λ x. x ++ unheaded rest) (sym (unheaded_told u (b ∷ []))) ∙ sym (unheaded_append (told u (b ∷ [])) rest)

pub shows_also : (e : Event) (u b : ℕ) (bs : List ℕ) → Within e u → shows e (suc u) (b ∷ bs) ≡ shows e u bs
unfolding shows
shows_also quiet u b bs w = refl
shows_also (section_bytes len last) u b bs w = let e : suc u - len ≡ suc (u - len) = omega arith in rw e
shows_also (content_bytes len) u b bs w = let e : suc u - len ≡ suc (u - len) = omega arith in rw e
shows_also (taken t k) u b bs w = refl

pub within_also : (e : Event) (u : ℕ) → Within e u → Within e (suc u)
within_also quiet u w = tt
within_also (section_bytes len last) u w = omega arith
within_also (content_bytes len) u w = omega arith
within_also (taken t k) u w = tt

module _ (G : Grammar) where
  halt_runs : (place : ℕ) (e : Event) (o : Outcome G.P) (before : List Saying) (piece : List ℕ)
      → Within e 0 → shows e 0 piece ≡ before → Runs G place o before piece (halt e o)
  unfolding halt run lists headers_in unheaded
  halt_runs place e o before piece w s =
      record { fits = zero-le; within = w; state = λ bl. rw add-zero; shown = λ begun bl. s ∙ sym (append-nil before); heads = λ begun bl. refl }

  onward_runs : (place : ℕ) (e : Event) (o : Outcome G.P) (before : List Saying) (piece : List ℕ) (f : State G.P → Feeding G.P)
      → Within e 0 → shows e 0 piece ≡ before → ((s : State G.P) → Runs G place (lives s) [] piece (f s)) → Runs G place o before piece (onward e o f)
  unfolding onward shows
  onward_runs place quiet (lives s) before piece f w h r = rw (← h) (r s)
  onward_runs place quiet (dies code) before piece f w h r = halt_runs place quiet (dies code) before piece tt h
  onward_runs place (section_bytes len last) o before piece f w h r = halt_runs place (section_bytes len last) o before piece w h
  onward_runs place (content_bytes len) o before piece f w h r = halt_runs place (content_bytes len) o before piece w h
  onward_runs place (taken t k) o before piece f w h r = halt_runs place (taken t k) o before piece tt h

  -- one byte more: what it says does not depend on where its frame began, but for the header
  also_runs : (place : ℕ) (s : State G.P) (o : Outcome G.P) (before : List Saying) (b h : ℕ) (bs : List ℕ) (f : Feeding G.P)
      → ((bl : List Section) → supplied G place bl s ≡ reads bl s) → step G s b ≡ o
      → ((begun : ℕ) → unheaded (says G begun (suc place) s b) ≡ before) → ((begun : ℕ) → headers_in (says G begun (suc place) s b) ≡ h)
      → Runs G (suc place) o before bs f → Runs G place (lives s) [] (b ∷ bs) (also h f)
  unfolding also run lists next tells settled
  also_runs place s o before b h bs f g st fs fh r' =
      let n : place + suc f.used ≡ suc place + f.used = omega arith in
      let r : Runs G (suc place) (step G s b) before bs f = rw st r' in
      record {
        fits = omega (arith, r.fits);
        within = within_also f.event f.used r.within;
        state = λ bl. rw (n, g bl) (r.state bl);
        shown = λ begun bl. rw (g bl) (
            let q = settled G (suc place) bl (step G s b) in
            let begun' = begins G begun (suc place) q in
            let rest = lists G begun' (suc place) q (take f.used bs) in
            shows_also f.event f.used b bs r.within ∙ r.shown begun' bl ∙ ap (λ x. x ++ unheaded rest) (sym (fs begun))
            ∙ sym (unheaded_append (says G begun (suc place) s b) rest));
        heads = λ begun bl. rw (g bl) (
            let q = settled G (suc place) bl (step G s b) in
            let begun' = begins G begun (suc place) q in
            let rest = lists G begun' (suc place) q (take f.used bs) in
            ap (λ k. h + k) (r.heads begun' bl) ∙ ap (λ k. k + headers_in rest) (sym (fh begun)) ∙ sym (headers_in_append (says G begun (suc place) s b) rest));
      }

  judged_shows : (f : Kept) (k bs : List ℕ) (n : Next G.P) → shows (judged_event f k n) 0 bs ≡ unheaded (judged_says G f k n)
  unfolding shows judged_event judged_says unheaded
  judged_shows f k bs (stop code) = refl
  judged_shows f k bs (go p) = refl

  left_shows : (u : Use) (k : List ℕ) (l : ℕ) (p : G.P) (bs : List ℕ) → shows (left_event G u k l p) 0 bs ≡ unheaded (left_says G u k l p)
  unfolding left_event left_says over_event over_says
  left_shows content k zero p bs = unfold shows unheaded in refl
  left_shows skipped k zero p bs = unfold shows unheaded in refl
  left_shows (section t) k zero p bs = unfold shows unheaded in refl
  left_shows (kept t) k zero p bs = judged_shows t k bs (G.judged t p k)
  left_shows u k (suc l) p bs = unfold shows unheaded in refl

  judged_within : (t : Kept) (k : List ℕ) (n : Next G.P) → Within (judged_event t k n) 0
  unfolding judged_event
  judged_within t k (stop code) = tt
  judged_within t k (go p) = tt

  left_within : (u : Use) (k : List ℕ) (l : ℕ) (p : G.P) → Within (left_event G u k l p) 0
  unfolding left_event over_event
  left_within content k zero p = tt
  left_within skipped k zero p = tt
  left_within (section t) k zero p = zero-le
  left_within (kept t) k zero p = judged_within t k (G.judged t p k)
  left_within u k (suc l) p = tt

  rule_unheaded : (begun place t len : ℕ) (ru : Ruling G.P) → unheaded (rule_says G begun place t len ru) ≡ rule_shows G len ru
  unfolding rule_says unheaded rule_shows
  rule_unheaded begun place t len (refuse code) = refl
  rule_unheaded begun place t len (accept u p) = refl

  behind_runs : (place len : ℕ) (ru : Ruling G.P) (bs : List ℕ) (f : State G.P → Feeding G.P)
      → ((s : State G.P) → Runs G place (lives s) [] bs (f s)) → Runs G place (ruled G len ru) (rule_shows G len ru) bs (behind_header G len ru f)
  unfolding behind_header ruled rule_shows
  behind_runs place len (refuse code) bs f r = halt_runs place quiet (dies code) [] bs tt (unfold shows in refl)
  behind_runs place len (accept u p) bs f r =
      onward_runs place (left_event G u [] len p) (with_left G u [] len p) _ bs f (left_within u [] len p) (left_shows u [] len p bs) r

  judged_heads : (t : Kept) (k : List ℕ) (n : Next G.P) → headers_in (judged_says G t k n) ≡ 0
  unfolding headers_in judged_says
  judged_heads t k (stop code) = refl
  judged_heads t k (go p) = refl

  left_heads : (u : Use) (k : List ℕ) (l : ℕ) (p : G.P) → headers_in (left_says G u k l p) ≡ 0
  unfolding left_says over_says
  left_heads content k zero p = unfold headers_in in refl
  left_heads skipped k zero p = unfold headers_in in refl
  left_heads (section t) k zero p = unfold headers_in in refl
  left_heads (kept t) k zero p = judged_heads t k (G.judged t p k)
  left_heads u k (suc l) p = unfold headers_in in refl

  rule_heads : (begun place t len : ℕ) (ru : Ruling G.P) → headers_in (rule_says G begun place t len ru) ≡ 1
  unfolding rule_says headers_in
  rule_heads begun place t len (refuse code) = refl
  rule_heads begun place t len (accept u p) = ap suc (left_heads u [] len p)

  payload_heads : (begun place : ℕ) (u : Use) (k : List ℕ) (left : ℕ) (p : G.P) (b : ℕ) → headers_in (says G begun place (in_payload u k left p) b) ≡ 0
  unfolding says
  payload_heads begun place u k left p b =
      let a = headers_in_append (told u (b ∷ [])) (left_says G u (keep u k b) left p) in let c = told_heads u b in let d = left_heads u (keep u k b) left p in omega arith

  length_runs : (n place t : ℕ) (g : Prog) (p : G.P) (b : ℕ) (bs : List ℕ) → ((n place : ℕ) (s : State G.P) → Runs G place (lives s) [] bs (feed G n s bs))
      → (x : Fed) → fed g b ≡ x
      → Runs G place (lives (in_length t g p)) [] (b ∷ bs) (elim x [
        | going f ↦ also 0 (feed G (suc n) (in_length t f p) bs)
        | value len ↦ also 1 (behind_header G len (G.rule p t len) (λ s. feed G n s bs))
      ])
  unfolding step sized supplied says size_says unheaded headers_in
  length_runs n place t g p b bs ih (going f) e =
      also_runs place (in_length t g p) (lives (in_length t f p)) [] b 0 bs (feed G (suc n) (in_length t f p) bs)
      (λ bl. refl) (rw e) (λ begun. rw e) (λ begun. rw e) (ih (suc n) (suc place) (in_length t f p))
  length_runs n place t g p b bs ih (value len) e =
      also_runs place (in_length t g p) (ruled G len (G.rule p t len)) (rule_shows G len (G.rule p t len)) b 1 bs _
      (λ bl. refl) (rw e) (λ begun. rw e (rule_unheaded begun (suc place) t len (G.rule p t len))) (λ begun. rw e (rule_heads begun (suc place) t len (G.rule p t len)))
      (behind_runs (suc place) len (G.rule p t len) bs (λ s. feed G n s bs) (λ s. ih n (suc place) s))

  -- ---- a payload that is handed on: content, or a section

  handed_left : {u : Use} (l : ℕ) (p : G.P) → Handed G u → left_says G u [] l p ≡ []
  unfolding left_says over_says
  handed_left zero p of_content = refl
  handed_left zero p of_section = refl
  handed_left (suc l) p h = refl

  handed_keep : {u : Use} (k : List ℕ) (b : ℕ) → Handed G u → keep u k b ≡ []
  unfolding keep
  handed_keep k b of_content = refl
  handed_keep k b of_section = refl

  payload_run : {u : Use} (h : Handed G u) (p : G.P) (bl : List Section) (j l place : ℕ) (bs : List ℕ) → j ≤ l → j ≤ length bs
      → settled G (place + j) bl (with_left G u [] (l - j) p) ≡ run G place (settled G place bl (with_left G u [] l p)) (take j bs)
  unfolding run next step with_left settled supplied
  payload_run h p bl zero l place bs i m = rw (add-zero, sub-zero)
  payload_run h p bl (suc j) zero place bs i m = absurd (omega arith)
  payload_run h p bl (suc j) (suc l) place [] i m = absurd (omega arith)
  payload_run {u} h p bl (suc j) (suc l) place (b ∷ bs) i m =
      let n : place + suc j ≡ suc place + j = omega arith in
      let d = suc-sub-suc l j in
      let k = handed_keep [] b h in
      rw (n, d) (payload_run h p bl j l (suc place) bs (omega arith) (omega arith)
      ∙ ap (λ x. run G (suc place) (settled G (suc place) bl (with_left G u x l p)) (take j bs)) (sym k))

  payload_says : {u : Use} (h : Handed G u) (p : G.P) (bl : List Section) (j l begun place : ℕ) (bs : List ℕ) → j ≤ l → j ≤ length bs
      → (told u (take j bs) ≡ unheaded (lists G begun place (settled G place bl (with_left G u [] l p)) (take j bs)))
      × (0 ≡ headers_in (lists G begun place (settled G place bl (with_left G u [] l p)) (take j bs)))
  unfolding lists next step tells says with_left settled supplied
  payload_says {u} h p bl zero l begun place bs i m = (told_nil u ∙ unfold unheaded in refl, unfold headers_in in refl)
  payload_says h p bl (suc j) zero begun place bs i m = absurd (omega arith)
  payload_says h p bl (suc j) (suc l) begun place [] i m = absurd (omega arith)
  payload_says {u} h p bl (suc j) (suc l) begun place (b ∷ bs) i m =
      let k = handed_keep [] b h in
      let e = handed_left l p h in
      let a = append-nil (told u (b ∷ [])) in
      let q = settled G (suc place) bl (with_left G u [] l p) in
      let begun' = begins G begun (suc place) q in
      let r = payload_says h p bl j l begun' (suc place) bs (omega arith) (omega arith) in (
        rw (k, e, a) (told_then u b (take j bs) (lists G begun' (suc place) q (take j bs)) r.0),
        rw (k, e, a) (omega (arith, r.1, told_heads u b, headers_in_append (told u (b ∷ [])) (lists G begun' (suc place) q (take j bs)))),
      )

  taking_runs : {u : Use} (h : Handed G u) (k : List ℕ) (p : G.P) (j left place b : ℕ) (bs : List ℕ) → j ≤ left → j ≤ length bs
      → shows (named G u (suc j) (left - j)) (suc j) (b ∷ bs) ≡ told u (b ∷ take j bs) → Within (named G u (suc j) (left - j)) (suc j)
      → Runs G place (lives (in_payload u k left p)) [] (b ∷ bs) (taking G u j (left - j) p)
  unfolding taking settled supplied run lists next tells says step
  taking_runs {u} h k p j left place b bs i m c w =
      let n : place + suc j ≡ suc place + j = omega arith in
      let e = handed_keep k b h in
      let d = handed_left left p h in
      let a = append-nil (told u (b ∷ [])) in
      record {
        fits = omega arith;
        within = w;
        state = λ bl. rw (n, e) (payload_run h p bl j left (suc place) bs i m);
        shown = λ begun bl. rw (e, d, a) (
            let q = settled G (suc place) bl (with_left G u [] left p) in
            let begun' = begins G begun (suc place) q in
            c ∙ told_then u b (take j bs) (lists G begun' (suc place) q (take j bs)) (payload_says h p bl j left begun' (suc place) bs i m).0);
        heads = λ begun bl. rw (e, d, a) (
            let q = settled G (suc place) bl (with_left G u [] left p) in
            let begun' = begins G begun (suc place) q in
            omega (
              arith,
              (payload_says h p bl j left begun' (suc place) bs i m).1,
              told_heads u b,
              headers_in_append (told u (b ∷ [])) (lists G begun' (suc place) q (take j bs)),
            ));
      }

  handed_shows : {u : Use} → Handed G u → (j l b : ℕ) (bs : List ℕ) → shows (named G u (suc j) l) (suc j) (b ∷ bs) ≡ told u (b ∷ take j bs)
  unfolding shows told named
  handed_shows of_content j l b bs = rw (sub_self (suc j))
  handed_shows of_section j l b bs = rw (sub_self (suc j))

  skip_shows : (l : ℕ) (p : G.P) (b : ℕ) (bs : List ℕ) → shows quiet 0 bs ≡ unheaded (told skipped (b ∷ []) ++ left_says G skipped [] l p)
  unfolding shows unheaded told left_says over_says
  skip_shows zero p b bs = refl
  skip_shows (suc l) p b bs = refl

  -- EVERY FEED is the reading of what it consumed
  pub feed_runs : (allow place : ℕ) (s : State G.P) (piece : List ℕ) → Runs G place (lives s) [] piece (feed G allow s piece)
  unfolding feed step supplied says keep named unheaded told headers_in
  feed_runs allow place s [] = halt_runs place quiet (lives s) [] [] tt (unfold shows in refl)
  feed_runs zero place (in_type g p) (b ∷ bs) = halt_runs place quiet (lives (in_type g p)) [] (b ∷ bs) tt (unfold shows in refl)
  feed_runs (suc n) place (in_type g p) (b ∷ bs) =
      also_runs place (in_type g p) (lives (typed p (fed g b))) [] b 0 bs _ (λ bl. refl) refl (λ begun. refl) (λ begun. refl)
      (feed_runs (suc n) (suc place) (typed p (fed g b)) bs)
  feed_runs zero place (in_length t g p) (b ∷ bs) = halt_runs place quiet (lives (in_length t g p)) [] (b ∷ bs) tt (unfold shows in refl)
  feed_runs (suc n) place (in_length t g p) (b ∷ bs) =
      length_runs n place t g p b bs (λ n place s. feed_runs n place s bs) (fed g b) refl
  feed_runs n place (in_payload content k left p) (b ∷ bs) =
      let j = min left (length bs) in
      taking_runs of_content k p j left place b bs (omega arith) (omega arith) (handed_shows of_content j (left - j) b bs) (omega arith)
  feed_runs n place (in_payload (section t) k left p) (b ∷ bs) =
      let j = min left (length bs) in
      taking_runs of_section k p j left place b bs (omega arith) (omega arith) (handed_shows (of_section {t = t}) j (left - j) b bs) (omega arith)
  feed_runs n place (in_payload skipped k left p) (b ∷ bs) =
      also_runs place (in_payload skipped k left p) (with_left G skipped [] left p) _ b 0 bs _ (λ bl. refl) refl (λ begun. refl) (λ begun. payload_heads begun (suc place) skipped k left p b)
      (onward_runs (suc place) quiet (with_left G skipped [] left p) _ bs (λ s. feed G n s bs) tt (skip_shows left p b bs) (λ s. feed_runs n (suc place) s bs))
  feed_runs n place (in_payload (kept t) k left p) (b ∷ bs) =
      let k' = k ++ (b ∷ []) in
      also_runs place (in_payload (kept t) k left p) (with_left G (kept t) k' left p) _ b 0 bs _ (λ bl. refl) refl (λ begun. refl) (λ begun. payload_heads begun (suc place) (kept t) k left p b)
      (onward_runs (suc place) (left_event G (kept t) k' left p) (with_left G (kept t) k' left p) _ bs (λ s. feed G n s bs)
      (left_within (kept t) k' left p) (left_shows (kept t) k' left p bs) (λ s. feed_runs n (suc place) s bs))
  feed_runs n place (due t p) (b ∷ bs) = halt_runs place quiet (lives (due t p)) [] (b ∷ bs) tt (unfold shows in refl)

-- ---- the calls of one stream, in whatever order the host makes them

module _ (G : Grammar) where
  answered_settled : (place : ℕ) (bl : List Section) (n : Next G.P) → resumed G place bl n ≡ settled G place bl (answered n)
  unfolding resumed settled supplied answered
  answered_settled place bl (stop code) = refl
  answered_settled place bl (go p) = refl

  given_settled : (place : ℕ) (s : State G.P) (block : Section) (bl : List Section) → settled G place (takes block s ++ bl) (lives s) ≡ settled G place bl (given G block s)
  unfolding given settled supplied takes
  given_settled place (in_type g p) block bl = refl
  given_settled place (in_length t g p) block bl = refl
  given_settled place (in_payload u k left p) block bl = refl
  given_settled place (due t p) block bl = answered_settled place bl (G.given t p block)

  -- WHATEVER THE CALLS, what they leave, show and count is the definition's for the bytes consumed and the blocks taken
  pub calls_come : (place : ℕ) (o : Outcome G.P) (cs : List Call) → Came G place o (calls G o cs)
  unfolding calls
  calls_come place o [] = unfold run lists headers_in unheaded in record { state = λ bl. rw add-zero; shown = λ begun bl. refl; heads = λ begun bl. refl }
  calls_come place (dies code) (c ∷ cs) = calls_come place (dies code) cs
  calls_come place (lives s) (feed_call allow piece ∷ cs) =
      let f = feed G allow s piece in
      let r = feed_runs G allow place s piece in
      let c = calls_come (place + f.used) f.after cs in
      let x = take f.used piece in
      let d = calls G f.after cs in
      let l : length x ≡ f.used = length-take-le f.used piece r.fits in
      let n : place + length x ≡ place + f.used = ap (λ k. place + k) l in
      let m = length-append x d.bytes in
      let q : place + length (x ++ d.bytes) ≡ place + f.used + length d.bytes = omega arith in
      record {
        state = λ bl. rw q (c.state bl ∙ ap (λ z. run G (place + f.used) z d.bytes) (r.state (d.sections ++ bl))
            ∙ sym (run_append G place (place + f.used) (settled G place (d.sections ++ bl) (lives s)) x d.bytes n));
        shown = λ begun bl. (let r0 = settled G place (d.sections ++ bl) (lives s) in
            let begun' = began G begun place r0 x in
            cc (
              r.shown begun (d.sections ++ bl),
              c.shown begun' bl,
              r.state (d.sections ++ bl),
              lists_append G begun place (place + f.used) r0 x d.bytes n,
              unheaded_append (lists G begun place r0 x) (lists G begun' (place + f.used) (run G place r0 x) d.bytes),
            ));
        heads = λ begun bl. (let r0 = settled G place (d.sections ++ bl) (lives s) in
            let begun' = began G begun place r0 x in
            cc (
              r.heads begun (d.sections ++ bl),
              c.heads begun' bl,
              r.state (d.sections ++ bl),
              lists_append G begun place (place + f.used) r0 x d.bytes n,
              headers_in_append (lists G begun place r0 x) (lists G begun' (place + f.used) (run G place r0 x) d.bytes),
            ));
      }
  calls_come place (lives s) (give_call block ∷ cs) =
      let c = calls_come place (given G block s) cs in
      let d = calls G (given G block s) cs in
      record {
        state = λ bl. (let e = append_assoc (takes block s) d.sections bl in let g = given_settled place s block (d.sections ++ bl) in rw (e, g) (c.state bl));
        shown = λ begun bl. (let e = append_assoc (takes block s) d.sections bl in let g = given_settled place s block (d.sections ++ bl) in rw (e, g) (c.shown begun bl));
        heads = λ begun bl. (let e = append_assoc (takes block s) d.sections bl in let g = given_settled place s block (d.sections ++ bl) in rw (e, g) (c.heads begun bl));
      }

  -- DEMAND 2, whole: any sequence of feeds, allowances and sections gives the reading of the bytes consumed and the blocks taken
  pub calls_read : (cs : List Call) → CallsRead G (calls G (lives (between G.start)) cs)
  unfolding verdict_of_done settled supplied
  calls_read cs =
      let d = calls G (lives (between G.start)) cs in
      let c = calls_come 0 (lives (between G.start)) cs in
      let w = read_is G d.sections d.bytes in
      let z = zero-add (length d.bytes) in
      let a = append-nil d.sections in
      record {
        verdict = ap (finished G (length d.bytes)) (rw (z, a) at (c.state [])) ∙ sym (ap (λ r. r.verdict) w);
        shown = (rw a at (c.shown 0 [])) ∙ sym (ap (λ r. unheaded r.said) w);
        heads = (rw a at (c.heads 0 [])) ∙ sym (ap (λ r. headers_in r.said) w);
      }
