-- THE ALLOWANCE over traces: a feed that has finished as many headers as it was allowed reads no byte of a further one. Every byte that it used is in
-- the header or the payload of a frame whose header is finished. Assumes nothing.
use Rattle.std.specs.Prelude.{◌≡◌, true, take}
use Rattle.std.proofs.Math.Path.{refl, ap, subst}
use Rattle.std.proofs.Common.{sym, ◌∙◌}
use Prim.Native.Nat.{ℕ, zero, suc, ◌+◌, ◌-◌, ◌≤◌, min}
use native.Mathlib.Omega.{arith}
use mathlib.Core.List.{List, [], ◌∷◌, ◌++◌, append-nil}
use Rattle.std.proofs.Math.Option.{some}
use Rattle.std.proofs.Math.ListN.{length}
use Rattle.rules.specs.Block.{Section}
use Rattle.rules.specs.Reading.{Part, Kept, Use, content, skipped, section, kept, Ruling, refuse, accept, Next, stop, go, Grammar, whole, fault, waits, Saying, header, refused, section_byte, content_byte, frame_kept, told}
use Rattle.rules.specs.Message.{Message}
use Rattle.rules.specs.Request.{document, request as asking-rules}
use Rattle.meaning.specs.Machine as M
use Rattle.meaning.specs.Machine.{State, in_type, in_length, in_payload, due, Outcome, lives, dies, between, reads, stuck}
use Rattle.meaning.specs.Feed as F
use Rattle.meaning.specs.Feed.{Feeding, halt, also, onward, judged_event, left_event, over_event, behind_header, taking}
use Rattle.meaning.proofs.Cut.{read_is}
use Rattle.rules.specs.Calls.{Event, goes, fed, feed, act, request, kind_of, asking, Pair, Call, on, gave, fresh, call, run, trace}
use Rattle.rules.specs.Shown.{Shown, running, View, plus_feed, view}
use Rattle.traces.specs.Alone.{call_on_asking}
use Rattle.traces.specs.Follow.{Agrees, open_still, over, agrees, not_running}
use Rattle.traces.specs.Story.{Reached, by_feed, Asks, asks, Story, story, shut}
use Rattle.demands.specs.Streams.{is_due, streams}
use Rattle.demands.specs.Reading.{sections_of, reading_of}
use Rattle.demands.specs.Reads.{fed_goes, runs_there}
use Rattle.demands.specs.Parts.{InHeader, in_header, feed_held, got_fed}

-- ---- DEFINITION

-- where the payload of the last header ends that was finished; where the frames begin, before any is
unfoldable pub last_end : (begin : ℕ) → List Saying → ℕ
last_end n [] = n
last_end n (header h u ∷ xs) = last_end (h.from + h.len) xs
last_end n (refused h ∷ xs) = last_end (h.from + h.len) xs
last_end n (section_byte b ∷ xs) = last_end n xs
last_end n (content_byte b ∷ xs) = last_end n xs
last_end n (frame_kept k p ∷ xs) = last_end n xs

-- ---- where the definition's machine is, beside the last header

last_append : (n : ℕ) (x y : List Saying) → last_end n (x ++ y) ≡ last_end (last_end n x) y
unfolding last_end
last_append n [] y = refl
last_append n (header h u ∷ x) y = last_append (h.from + h.len) x y
last_append n (refused h ∷ x) y = last_append (h.from + h.len) x y
last_append n (section_byte b ∷ x) y = last_append n x y
last_append n (content_byte b ∷ x) y = last_append n x y
last_append n (frame_kept k p ∷ x) y = last_append n x y

told_last : (n : ℕ) (u : Use) (b : ℕ) → last_end n (told u (b ∷ [])) ≡ n
unfolding last_end told
told_last n content b = refl
told_last n skipped b = refl
told_last n (section t) b = refl
told_last n (kept k) b = refl

abbrev pub InPayload : {P : Type 0} → State P → Type 0
InPayload (in_type g p) = ⊥
InPayload (in_length t g p) = ⊥
InPayload (in_payload u k left p) = Unit {0}
InPayload (due t p) = ⊥

module _ (G : Grammar) where
  -- behind `at` bytes, where the last payload ends at e: between two frames and where a section is due that is here, in a header it has been, in a
  -- payload it is to come
  abbrev pub EndsBy : (at e : ℕ) → M.Run G.P → Type 0
  EndsBy at e (reads bl (in_type M.fresh p)) = at ≡ e
  EndsBy at e (reads bl (in_type (M.need k v) p)) = e ≤ at
  EndsBy at e (reads bl (in_length t g p)) = e ≤ at
  EndsBy at e (reads bl (in_payload u k left p)) = at + suc left ≡ e
  EndsBy at e (reads bl (due t p)) = ⊥  -- a section is taken from the list, or the machine is stuck
  EndsBy at e (stuck whole) = Unit {0}
  EndsBy at e (stuck (fault n place)) = Unit {0}
  EndsBy at e (stuck (waits place)) = place ≡ e

  resumed_ends : (at : ℕ) (bl : List Section) (n : Next G.P) → EndsBy at at (M.resumed G at bl n)
  unfolding M.resumed
  resumed_ends at bl (stop n) = tt
  resumed_ends at bl (go p) = refl

  due_ends : (at : ℕ) (bl : List Section) (t : Part) (p : G.P) → EndsBy at at (M.supplied G at bl (due t p))
  unfolding M.supplied
  due_ends at [] t p = refl
  due_ends at (s ∷ bl) t p = resumed_ends at bl (G.given t p s)

  judged_ends : (at : ℕ) (bl : List Section) (k : Kept) (payload : List ℕ) (n : Next G.P) → EndsBy at (last_end at (M.judged_says G k payload n)) (M.settled G at bl (M.answered n))
  unfolding M.judged_says M.answered M.settled M.supplied last_end
  judged_ends at bl k payload (stop n) = tt
  judged_ends at bl k payload (go p) = refl

  over_ends : (at : ℕ) (bl : List Section) (u : Use) (k : List ℕ) (p : G.P) → EndsBy at (last_end at (M.over_says G u k p)) (M.settled G at bl (M.over G u k p))
  unfolding M.over_says M.over M.settled M.supplied last_end
  over_ends at bl content k p = refl
  over_ends at bl skipped k p = refl
  over_ends at bl (section t) k p = due_ends at bl t p
  over_ends at bl (kept f) k p = judged_ends at bl f k (G.judged f p k)

  left_ends : (at : ℕ) (bl : List Section) (u : Use) (k : List ℕ) (l : ℕ) (p : G.P) → EndsBy at (last_end (at + l) (M.left_says G u k l p)) (M.settled G at bl (M.with_left G u k l p))
  unfolding M.left_says M.with_left
  left_ends at bl u k zero p = let z : at + 0 ≡ at = omega arith in rw z (over_ends at bl u k p)
  left_ends at bl u k (suc l) p = unfold M.settled M.supplied last_end in refl

  rule_ends : (at e begun t len : ℕ) (bl : List Section) (r : Ruling G.P) → EndsBy at (last_end e (M.rule_says G begun at t len r)) (M.settled G at bl (M.ruled G len r))
  unfolding M.rule_says M.ruled last_end
  rule_ends at e begun t len bl (refuse n) = unfold M.settled in tt
  rule_ends at e begun t len bl (accept u p) = left_ends at bl u [] len p

  size_ends : (at e begun t : ℕ) (bl : List Section) (p : G.P) (x : M.Fed) → e ≤ at → EndsBy at (last_end e (M.size_says G begun at t p x)) (M.settled G at bl (M.sized G t p x))
  unfolding M.size_says M.sized
  size_ends at e begun t bl p (M.going g) l = unfold M.settled M.supplied last_end in l
  size_ends at e begun t bl p (M.value len) l = rule_ends at e begun t len bl (G.rule p t len)

  after_ends : (at e k v : ℕ) (bl : List Section) (p : G.P) → e ≤ at → EndsBy at e (M.settled G at bl (lives (M.typed p (M.after k v))))
  unfolding M.after M.typed M.settled M.supplied
  after_ends at e zero v bl p l = l
  after_ends at e (suc k) v bl p l = l

  -- one byte
  step_ends : (at e begun b : ℕ) (bl : List Section) (s : State G.P) → EndsBy at e (reads bl s) → EndsBy (suc at) (last_end e (M.says G begun (suc at) s b)) (M.settled G (suc at) bl (M.step G s b))
  unfolding M.says M.step M.fed last_end
  step_ends at e begun b bl (in_type M.fresh p) h = after_ends (suc at) e _ _ bl p (omega arith)
  step_ends at e begun b bl (in_type (M.need k v) p) h = after_ends (suc at) e _ _ bl p (omega arith)
  step_ends at e begun b bl (in_length t g p) h = size_ends (suc at) e begun t bl p (M.fed g b) (omega arith)
  step_ends at e begun b bl (in_payload u k left p) h =
      let z : e ≡ suc at + left = omega arith in
      let q = last_append e (told u (b ∷ [])) (M.left_says G u (M.keep u k b) left p) ∙ ap (λ n. last_end n (M.left_says G u (M.keep u k b) left p)) (told_last e u b ∙ z) in
      subst (λ n. EndsBy (suc at) n (M.settled G (suc at) bl (M.with_left G u (M.keep u k b) left p))) (sym q) (left_ends (suc at) bl u (M.keep u k b) left p)
  step_ends at e begun b bl (due t p) h = absurd h

  next_ends : (at e begun b : ℕ) (r : M.Run G.P) → EndsBy at e r → EndsBy (suc at) (last_end e (M.tells G begun (suc at) r b)) (M.next G (suc at) r b)
  unfolding M.tells M.next
  next_ends at e begun b (reads bl s) h = step_ends at e begun b bl s h
  next_ends at e begun b (stuck whole) h = tt
  next_ends at e begun b (stuck (fault n place)) h = tt
  next_ends at e begun b (stuck (waits place)) h = unfold last_end in h

  -- any number of bytes
  pub run_ends : (at e begun : ℕ) (r : M.Run G.P) (bs : List ℕ) → EndsBy at e r → EndsBy (at + length bs) (last_end e (M.lists G begun at r bs)) (M.run G at r bs)
  unfolding M.lists M.run
  run_ends at e begun r [] h = let z : at + 0 ≡ at = omega arith in rw z (unfold last_end in h)
  run_ends at e begun r (b ∷ bs) h =
      let q = M.next G (suc at) r b in
      let later = M.lists G (M.begins G begun (suc at) q) (suc at) q bs in
      let z : at + suc (length bs) ≡ suc at + length bs = omega arith in
      let i = run_ends (suc at) (last_end e (M.tells G begun (suc at) r b)) (M.begins G begun (suc at) q) q bs (next_ends at e begun b r h) in
      rw (z, last_append e (M.tells G begun (suc at) r b) later) i

  -- outside a header, no byte is behind the last payload
  pub not_behind : (at e : ℕ) (s : State G.P) → EndsBy at e (M.settled G at [] (lives s)) → (InHeader s → ⊥) → at ≤ e
  unfolding M.settled M.supplied
  not_behind at e (in_type M.fresh p) h n = omega arith
  not_behind at e (in_type (M.need k v) p) h n = absurd (n tt)
  not_behind at e (in_length t g p) h n = absurd (n tt)
  not_behind at e (in_payload u k left p) h n = omega arith
  not_behind at e (due t p) h n = omega arith

  -- outside a payload, the last one has come whole
  pub payload_come : (at e : ℕ) (s : State G.P) → EndsBy at e (M.settled G at [] (lives s)) → (InPayload s → ⊥) → e ≤ at
  unfolding M.settled M.supplied
  payload_come at e (in_type M.fresh p) h n = omega arith
  payload_come at e (in_type (M.need k v) p) h n = h
  payload_come at e (in_length t g p) h n = h
  payload_come at e (in_payload u k left p) h n = absurd (n tt)
  payload_come at e (due t p) h n = omega arith

-- ---- a feed that finished as many headers as it was allowed stops inside none

abbrev pub Outside : {P : Type 0} → Outcome P → Type 0
Outside (lives s) = InHeader s → ⊥
Outside (dies n) = Unit {0}

module _ (G : Grammar) where
  -- n headers more
  abbrev HeldAt : ℕ → Feeding G.P → Type 0
  HeldAt n f = f.heads ≡ n → Outside f.after

  also_held : (n h m : ℕ) → n ≡ h + m → (f : Feeding G.P) → HeldAt m f → HeldAt n (also h f)
  unfolding also
  also_held n h m z f w e = w (omega arith)

  halt_held : (n : ℕ) (e : F.Event) (o : Outcome G.P) → Outside o → HeldAt n (halt e o)
  unfolding halt
  halt_held n e o w q = w

  judged_held : (n : ℕ) (k : Kept) (payload : List ℕ) (x : Next G.P) (f : State G.P → Feeding G.P) → HeldAt n (onward (judged_event k payload x) (M.answered x) f)
  unfolding onward judged_event M.answered
  judged_held n k payload (stop c) f = halt_held n F.quiet (dies c) tt
  judged_held n k payload (go p) f = halt_held n (F.taken k payload) (lives (between p)) (λ i. i)

  module _ (n : ℕ) (f : State G.P → Feeding G.P) (next : (s : State G.P) → (InHeader s → ⊥) → HeldAt n (f s)) where
    left_held : (u : Use) (k : List ℕ) (l : ℕ) (p : G.P) → HeldAt n (onward (left_event G u k l p) (M.with_left G u k l p) f)
    unfolding onward left_event over_event M.with_left M.over
    left_held content k zero p = next (between p) (λ i. i)
    left_held skipped k zero p = next (between p) (λ i. i)
    left_held (section t) k zero p = halt_held n (F.section_bytes 0 true) (lives (due t p)) (λ i. i)
    left_held (kept x) k zero p = judged_held n x k (G.judged x p k) f
    left_held u k (suc l) p = next (in_payload u k l p) (λ i. i)

    skip_held : (l : ℕ) (p : G.P) → HeldAt n (onward F.quiet (M.with_left G skipped [] l p) f)
    unfolding onward M.with_left M.over
    skip_held zero p = next (between p) (λ i. i)
    skip_held (suc l) p = next (in_payload skipped [] l p) (λ i. i)

    behind_held : (len : ℕ) (r : Ruling G.P) → HeldAt n (behind_header G len r f)
    unfolding behind_header
    behind_held len (refuse c) = halt_held n F.quiet (dies c) tt
    behind_held len (accept u p) = left_held u [] len p

  content_held : (n j l : ℕ) (p : G.P) → HeldAt n (taking G content j l p)
  unfolding taking M.with_left M.over
  content_held n j zero p q = λ i. i
  content_held n j (suc l) p q = λ i. i

  section_held : (n : ℕ) (t : Part) (j l : ℕ) (p : G.P) → HeldAt n (taking G (section t) j l p)
  unfolding taking M.with_left M.over
  section_held n t j zero p q = λ i. i
  section_held n t j (suc l) p q = λ i. i

  length_held : (n t : ℕ) (p : G.P) (bs : List ℕ) → ((n : ℕ) (s : State G.P) → (n ≡ 0 → InHeader s → ⊥) → HeldAt n (F.feed G n s bs)) → (x : M.Fed) → HeldAt (suc n) (elim x [
    | M.going g ↦ also 0 (F.feed G (suc n) (in_length t g p) bs)
    | M.value len ↦ also 1 (behind_header G len (G.rule p t len) (λ s. F.feed G n s bs))
  ])
  length_held n t p bs ih (M.going g) = also_held (suc n) 0 (suc n) (omega arith) _ (ih (suc n) (in_length t g p) (λ z i. omega arith))
  length_held n t p bs ih (M.value len) = also_held (suc n) 1 n (omega arith) _ (behind_held n (λ s. F.feed G n s bs) (λ s h. ih n s (λ z i. h i)) len (G.rule p t len))

  -- unless it is allowed none and begins inside one
  feed_holds : (n : ℕ) (s : State G.P) → (n ≡ 0 → InHeader s → ⊥) → (bs : List ℕ) → HeldAt n (F.feed G n s bs)
  unfolding F.feed
  feed_holds n s h [] = unfold halt in (λ q. h (sym q))
  feed_holds zero (in_type M.fresh p) h (b ∷ bs) = halt_held 0 F.quiet (lives (in_type M.fresh p)) (λ i. i)
  feed_holds zero (in_type (M.need k v) p) h (b ∷ bs) = absurd (h refl tt)
  feed_holds (suc n) (in_type g p) h (b ∷ bs) = also_held (suc n) 0 (suc n) (omega arith) _ (feed_holds (suc n) (M.typed p (M.fed g b)) (λ z i. omega arith) bs)
  feed_holds zero (in_length t g p) h (b ∷ bs) = absurd (h refl tt)
  feed_holds (suc n) (in_length t g p) h (b ∷ bs) = length_held n t p bs (λ n s h. feed_holds n s h bs) (M.fed g b)
  feed_holds n (in_payload content k l p) h (b ∷ bs) = content_held n (min l (length bs)) (l - min l (length bs)) p
  feed_holds n (in_payload (section t) k l p) h (b ∷ bs) = section_held n t (min l (length bs)) (l - min l (length bs)) p
  feed_holds n (in_payload skipped k l p) h (b ∷ bs) = also_held n 0 n (omega arith) _ (skip_held n (λ s. F.feed G n s bs) (λ s h. feed_holds n s (λ z i. h i) bs) l p)
  feed_holds n (in_payload (kept x) k l p) h (b ∷ bs) = also_held n 0 n (omega arith) _ (left_held n (λ s. F.feed G n s bs) (λ s h. feed_holds n s (λ z i. h i) bs) (kept x) (k ++ (b ∷ [])) l p)
  feed_holds n (due t p) h (b ∷ bs) = halt_held n F.quiet (lives (due t p)) (λ i. i)

  -- and then it uses nothing
  pub feed_outside : (n : ℕ) (s : State G.P) (bs : List ℕ) → (F.feed G n s bs).heads ≡ n → 1 ≤ (F.feed G n s bs).used → Outside (F.feed G n s bs).after
  feed_outside zero s bs q l = by (in_header G s)
    where
      by : Dec (InHeader s) → Outside (F.feed G zero s bs).after
      by (yes i) = absurd (omega (arith, l, feed_held G s i bs))
      by (no m) = feed_holds zero s (λ z i. m i) bs q
  feed_outside (suc n) s bs q l = feed_holds (suc n) s (λ z i. omega arith) bs q

  -- nor if it begins inside none
  pub begins_outside : (n : ℕ) (s : State G.P) → (InHeader s → ⊥) → (bs : List ℕ) → (F.feed G n s bs).heads ≡ n → Outside (F.feed G n s bs).after
  begins_outside n s h bs q = feed_holds n s (λ z i. h i) bs q

-- ---- over traces

abbrev asks_so : Grammar
asks_so = asking-rules document

-- behind these bytes, with these sections, no byte of a header that is not finished
abbrev pub NoFurther : (bytes : List ℕ) (sections : List (List ℕ)) → Type 0
NoFurther bytes sections = length bytes ≤ last_end 0 (reading_of bytes sections).said

-- where the last payload ends, in the words of the reading
pub ends_there : (s : Shown streams) (r : State Message) → Reached s r → let n = length s.bytes in EndsBy asks_so n (last_end 0 (reading_of s.bytes s.sections).said) (M.settled asks_so n [] (lives r))
ends_there s r t =
    let bl = sections_of s.sections in
    let a = run_ends asks_so 0 0 0 (M.fresh_run asks_so bl) s.bytes refl in
    let e = rw (append-nil bl) at (runs_there t []) in
    let z : 0 + length s.bytes ≡ length s.bytes = omega arith in
    let b = subst (EndsBy asks_so (length s.bytes) (last_end 0 (M.lists asks_so 0 0 (M.fresh_run asks_so bl) s.bytes))) (sym e) (rw z at a) in
    rw (read_is asks_so bl s.bytes) b

none_further : (s : Shown streams) (r : State Message) → Reached s r → (InHeader r → ⊥) → NoFurther s.bytes s.sections
none_further s r t n = not_behind asks_so (length s.bytes) _ r (ends_there s r t) n

fed_outside : (r r' : State Message) (allow u h : ℕ) (piece : List ℕ) (e : Event) → streams.feed r allow piece ≡ goes u h e r' → h ≡ allow → 1 ≤ u → InHeader r' → ⊥
fed_outside r r' allow u h piece e q z l =
    let f = F.feed asks_so allow r piece in
    let g = fed_goes f.used f.heads f.event f.after q in
    subst Outside g.0 (feed_outside asks_so allow r piece (g.2 ∙ z) (omega (arith, l, g.1)))

held_agrees : (id : ℕ) (p : Pair streams) (v : View streams) (allow u h : ℕ) (piece : List ℕ) (e : Event) → v.fate ≡ running → (call (on id (feed allow piece)) p).answer ≡ gave (fed u h e)
    → h ≡ allow → 1 ≤ u → Agrees Asks Story id p v → NoFurther (v.shown.bytes ++ take u piece) v.shown.sections
unfolding act plus_feed
held_agrees id p v allow u h piece e n q z l (over {f = f} t g) = absurd (not_running f (shut t) n)
held_agrees id p v allow u h piece e n q z l (open_still {s = s} a (asks {r = r} t) f) =
    let c = got_fed id p (λ x. record { stream = asking x; kept = p.conn.kept }) u h e (is_due r) (streams.feed r allow piece) (sym (ap (λ x. x.answer) (call_on_asking p id r (feed allow piece) a f)) ∙ q) in
    none_further (plus_feed u h e piece s) c.1.0 (by_feed t c.0 c.1.1) (fed_outside r c.1.0 allow u h piece e c.1.1 z l)

-- NO HEADER BYTE ONCE THE ALLOWANCE IS REACHED: a feed of a running request stream that finished as many headers as it was allowed, and used a byte or more,
-- left no byte behind the payload of the last header finished
pub no_further_header : (id : ℕ) → kind_of id ≡ some request → (cs : List (Call streams)) (allow used heads : ℕ) (piece : List ℕ) (e : Event) → (view id (trace fresh cs)).fate ≡ running
    → (call (on id (feed allow piece)) (run fresh cs)).answer ≡ gave (fed used heads e) → heads ≡ allow → 1 ≤ used → let s = (view id (trace fresh cs)).shown in NoFurther (s.bytes ++ take used piece) s.sections
no_further_header id k cs allow u h piece e n q z l = held_agrees id (run fresh cs) (view id (trace fresh cs)) allow u h piece e n q z l (agrees story id cs k)
