-- The demands over traces, from what is proved of one request stream by itself. No row and no connection record is in a statement.
-- Assumes nothing.
use Rattle.std.specs.Prelude.{◌≡◌, ℕ, List, [], ◌∷◌, ◌++◌, Bool, length}
use Rattle.std.proofs.Math.Path.{refl}
use Rattle.std.proofs.Common.{sym, ap, ap₂, ◌∙◌, subst, arith, append-nil, append_assoc, length-append}
use Rattle.std.proofs.Math.Bool.{true, false}
use Rattle.std.proofs.Math.Option.{some}
use Rattle.std.proofs.Math.ListN.{take}
use Rattle.rules.specs.Numbers.{StreamFault, Code, of_stream, of_connection, section_due}
use Rattle.rules.specs.Calls.{faults, unsound, Ended, is_whole, broken, end, refuse, of_ended, map_out, whole, Machine, act, either, request, kind_of, asking, Pair, Call, on, Answer, left, house, code, same, with, faulted, settle, fresh, call, run, trace}
use Rattle.rules.specs.Shown.{Shown, Fate, unopened, spent, running, ended, dropped, refused, lost, View, plus_bytes, plus_section, view}
use Rattle.traces.specs.Alone.{call_on_asking}
use Rattle.traces.specs.Story.{Reached, at_first, Story, not_yet, never, to_the_end, given_up, cut_off, bad_feed, bad_section, bad_end, Asks, asks, story, shut}
use Rattle.traces.specs.Follow.{Agrees, open_still, over, agrees, not_running}

-- ---- what bytes and sections mean, and what is proved of one stream by itself

pub data Verdict : Type 0 where
  is_legal : Verdict
  bad : Code → Verdict
  waits : Verdict  -- a section is due

-- the definition's reading of a stream's bytes and sections
pub record Meaning (M : Machine) : Type 0 where
  pub verdict : List ℕ → List M.Block → Verdict
  pub place : List ℕ → List M.Block → ℕ  -- the bytes up to and including the one that decides
  pub carried : List ℕ → List M.Block → List ℕ
  pub blocks : List ℕ → List M.Block → List ℕ
  pub heads : List ℕ → List M.Block → ℕ

pub record Shows {M : Machine} (R : Meaning M) (s : Shown M) : Type 0 where
  pub content : s.content ≡ R.carried s.bytes s.sections
  pub blocks : s.blocks ≡ R.blocks s.bytes s.sections
  pub heads : s.heads ≡ R.heads s.bytes s.sections

unfoldable pub verdict_of : Ended → Verdict
verdict_of is_whole = is_legal
verdict_of (broken k) = bad k

-- A FAULT OF THE BYTES: with these sections the verdict is k, at this place, whatever bytes follow (a fault of the end is none: bytes may mend it)
abbrev pub FaultAt : {M : Machine} → Meaning M → Code → (place : ℕ) → List ℕ → List M.Block → Type 0
FaultAt R k place bytes sections = (more : List ℕ) → (R.verdict (bytes ++ more) sections ≡ bad k) × (R.place (bytes ++ more) sections ≡ place)

-- the last of the bytes brings it, whatever sections would be given later
abbrev pub Struck : {M : Machine} → Meaning M → Code → List ℕ → List M.Block → Type 0
Struck {M} R k bytes sections = (others : List M.Block) → FaultAt R k (length bytes) bytes (sections ++ others)

-- there is none among the bytes
abbrev pub NoFault : {M : Machine} → Meaning M → List ℕ → List M.Block → Type 0
NoFault R bytes sections = (k : Code) (place : ℕ) → FaultAt R k place bytes sections → ⊥

-- a section is due
abbrev pub Waits : {M : Machine} → Meaning M → Shown M → Type 0
Waits R s = R.verdict s.bytes s.sections ≡ waits

-- DEMAND 2 OF ONE STREAM BY ITSELF: any sequence of feeds and sections comes to the reading of the bytes consumed and the sections
pub record Reads {M : Machine} (R : Meaning M) : Type 0 where
  pub so_far : {s : Shown M} {r : M.Request} → Reached s r → Shows R s
  pub while_due : {s : Shown M} {r : M.Request} → Reached s r → M.due r ≡ true → R.verdict s.bytes s.sections ≡ waits
  pub at_end : {s : Shown M} {r : M.Request} → Reached s r → M.due r ≡ false → R.verdict s.bytes s.sections ≡ verdict_of (M.finish r)
  pub unhurt : {s : Shown M} {r : M.Request} → Reached s r → NoFault R s.bytes s.sections
  pub end_place : {s : Shown M} {r : M.Request} (k : Code) → Reached s r → M.due r ≡ false → R.verdict s.bytes s.sections ≡ bad k → R.place s.bytes s.sections ≡ length s.bytes
  pub in_feed : {s : Shown M} {r : M.Request} (allow u h : ℕ) (piece : List ℕ) (k : Code) → Reached s r → M.due r ≡ false → M.feed r allow piece ≡ faults k u h
      → Shows R (plus_bytes u h piece s) × Struck R k (s.bytes ++ take u piece) s.sections
  pub at_section : {s : Shown M} {r : M.Request} (b : M.Block) (k : StreamFault) → Reached s r → M.due r ≡ true → M.readable b ≡ true → M.give r b ≡ unsound k
      → Shows R (plus_section b s) × Struck R (of_stream k) s.bytes (s.sections ++ (b ∷ []))

-- ---- demand 2 over traces

-- what a trace shows of a request stream is the reading of its bytes and sections, and its fate is their verdict; a fault is at the last byte
-- consumed, and where there was no refusal, as on a stream that runs, there is none among the bytes
pub record Tells {M : Machine} (R : Meaning M) (v : View M) : Type 0 where
  pub shows : Shows R v.shown
  pub if_whole : v.fate ≡ ended → R.verdict v.shown.bytes v.shown.sections ≡ is_legal
  pub if_refused : (k : Code) → v.fate ≡ refused k → R.verdict v.shown.bytes v.shown.sections ≡ bad k
  pub at_its_place : (k : Code) → v.fate ≡ refused k → R.place v.shown.bytes v.shown.sections ≡ length v.shown.bytes
  pub unless_refused : ((k : Code) → ¬ (v.fate ≡ refused k)) → NoFault R v.shown.bytes v.shown.sections

-- the answer to an end
unfoldable pub end_answer : Verdict → Answer
end_answer is_legal = left whole
end_answer (bad k) = code k 0 0
end_answer waits = house section_due

abbrev NotEnded : Fate → Type 0
NotEnded unopened = Unit {0}
NotEnded spent = Unit {0}
NotEnded running = Unit {0}
NotEnded ended = ⊥
NotEnded dropped = Unit {0}
NotEnded (refused k) = Unit {0}
NotEnded lost = Unit {0}

abbrev NotRefused : Fate → Type 0
NotRefused unopened = Unit {0}
NotRefused spent = Unit {0}
NotRefused running = Unit {0}
NotRefused ended = Unit {0}
NotRefused dropped = Unit {0}
NotRefused (refused k) = ⊥
NotRefused lost = Unit {0}

not_ended : {X : Type 0} (f : Fate) → NotEnded f → f ≡ ended → X
not_ended f n e = absurd (subst NotEnded e n)

not_refused : {X : Type 0} (f : Fate) (k : Code) → NotRefused f → f ≡ refused k → X
not_refused f k n e = absurd (subst NotRefused e n)

-- a fault of the bytes, of these bytes and sections alone
struck_here : {M : Machine} (R : Meaning M) (k : Code) (bytes : List ℕ) (sections : List M.Block) → Struck R k bytes sections → (R.verdict bytes sections ≡ bad k) × (R.place bytes sections ≡ length bytes)
struck_here R k bytes sections x = rw (append-nil bytes, append-nil sections) at (x [] [])

same_code : (k j : Code) → refused k ≡ refused j → k ≡ j
same_code k j q = cc

module _ {M : Machine} (R : Meaning M) where
  -- a stream that was not refused
  unrefused : (f : Fate) (s : Shown M) → NotRefused f → Shows R s → (f ≡ ended → R.verdict s.bytes s.sections ≡ is_legal) → NoFault R s.bytes s.sections
      → Tells R (record { fate = f; shown = s })
  unrefused f s n w e u = record { shows = w; if_whole = e; if_refused = λ k. not_refused f k n; at_its_place = λ k. not_refused f k n; unless_refused = λ z. u }

  -- and one that was
  refused_so : (k : Code) (s : Shown M) → Shows R s → R.verdict s.bytes s.sections ≡ bad k → R.place s.bytes s.sections ≡ length s.bytes
      → Tells R (record { fate = refused k; shown = s })
  refused_so k s w e p = record {
    shows = w;
    if_whole = not_ended (refused k) tt;
    if_refused = λ j q. e ∙ ap bad (same_code k j q);
    at_its_place = λ j q. p;
    unless_refused = λ z. absurd (z k refl);
  }

module _ {M : Machine} (R : Meaning M) (L : Reads R) where
  tells_story : {f : Fate} {s : Shown M} → Story f s → Tells R (record { fate = f; shown = s })
  unfolding plus_bytes plus_section verdict_of
  tells_story {s = s} not_yet = unrefused R unopened s tt (L.so_far at_first) (not_ended unopened tt) (L.unhurt at_first)
  tells_story {s = s} never = unrefused R spent s tt (L.so_far at_first) (not_ended spent tt) (L.unhurt at_first)
  tells_story {s = s} (to_the_end t d e) = unrefused R ended s tt (L.so_far t) (λ q. L.at_end t d ∙ (rw e)) (L.unhurt t)
  tells_story {s = s} (given_up t) = unrefused R dropped s tt (L.so_far t) (not_ended dropped tt) (L.unhurt t)
  tells_story {s = s} (cut_off t) = unrefused R lost s tt (L.so_far t) (not_ended lost tt) (L.unhurt t)
  tells_story (bad_feed {s = s} {allow = allow} {u = u} {h = h} {piece = piece} {k = k} t d e) =
      let w = L.in_feed allow u h piece k t d e in
      let x = struck_here R k (s.bytes ++ take u piece) s.sections w.1 in
      refused_so R k (plus_bytes u h piece s) w.0 x.0 x.1
  tells_story (bad_section {s = s} {b = b} {k = k} t d y e) =
      let w = L.at_section b k t d y e in
      let x = struck_here R (of_stream k) s.bytes (s.sections ++ (b ∷ [])) w.1 in
      refused_so R (of_stream k) (plus_section b s) w.0 x.0 x.1
  tells_story {s = s} (bad_end {k = k} t d e) =
      let x : R.verdict s.bytes s.sections ≡ bad k = L.at_end t d ∙ (rw e) in
      refused_so R k s (L.so_far t) x (L.end_place k t d x)

  tells_agrees : {id : ℕ} {p : Pair M} {v : View M} → Agrees Asks Story id p v → Tells R v
  tells_agrees (open_still {s = s} a (asks t) f) = unrefused R running s tt (L.so_far t) (not_ended running tt) (L.unhurt t)
  tells_agrees (over t n) = tells_story t

  -- DEMAND 2: at every moment of every trace
  pub demand_2 : (id : ℕ) → kind_of id ≡ some request → (cs : List (Call M)) → Tells R (view id (trace fresh cs))
  demand_2 id q cs = tells_agrees (agrees story id cs q)

  -- an end on a stream that runs is answered by the verdict on its bytes and sections: whole exactly if they are legal
  end_of_ended : (id : ℕ) (p : Pair M) (s : Shown M) (r : M.Request) → Reached s r → (d : Bool) → M.due r ≡ d → (x : Ended) → M.finish r ≡ x
      → (settle id p (map_out (λ x. record { stream = asking x; kept = p.conn.kept }) (either d (refuse section_due) (of_ended x)))).answer ≡ end_answer (R.verdict s.bytes s.sections)
  unfolding settle map_out either of_ended same with faulted end_answer verdict_of
  end_of_ended id p s r t true e x q = rw (L.while_due t e)
  end_of_ended id p s r t false e is_whole q = rw (L.at_end t e, q)
  end_of_ended id p s r t false e (broken (of_stream k)) q = rw (L.at_end t e, q)
  end_of_ended id p s r t false e (broken (of_connection k)) q = rw (L.at_end t e, q)

  end_agrees : (id : ℕ) (p : Pair M) (v : View M) → v.fate ≡ running → Agrees Asks Story id p v → (call (on id end) p).answer ≡ end_answer (R.verdict v.shown.bytes v.shown.sections)
  unfolding act
  end_agrees id p v e (over {f = f} t n) = absurd (not_running f (shut t) e)
  end_agrees id p v e (open_still {s = s} a (asks {r = r} t) f) = rw (call_on_asking p id r end a f) (end_of_ended id p s r t (M.due r) refl (M.finish r) refl)

  pub end_exactly : (id : ℕ) → kind_of id ≡ some request → (cs : List (Call M)) → (view id (trace fresh cs)).fate ≡ running
      → (call (on id end) (run fresh cs)).answer ≡ end_answer (R.verdict (view id (trace fresh cs)).shown.bytes (view id (trace fresh cs)).shown.sections)
  end_exactly id q cs e = end_agrees id (run fresh cs) (view id (trace fresh cs)) e (agrees story id cs q)

-- ---- two traces

-- a verdict was given: whole, or a fault
pub data Settled : Fate → Type 0 where
  is_ended : Settled ended
  is_refused : (k : Code) → Settled (refused k)

pub record SameInput {M : Machine} (s t : Shown M) : Type 0 where
  pub bytes : s.bytes ≡ t.bytes
  pub sections : s.sections ≡ t.sections

pub record SameOutput {M : Machine} (s t : Shown M) : Type 0 where
  pub content : s.content ≡ t.content
  pub blocks : s.blocks ≡ t.blocks
  pub heads : s.heads ≡ t.heads

never_both : (v : Verdict) (k : Code) → v ≡ is_legal → v ≡ bad k → ⊥
never_both v k p q = subst Legal (sym p ∙ q) tt
  where
    Legal : Verdict → Type 0
    Legal = elim [ is_legal ↦ Unit {0} | bad j ↦ ⊥ | waits ↦ ⊥ ]

one_code : (v : Verdict) (j k : Code) → v ≡ bad j → v ≡ bad k → j ≡ k
one_code v j k p q = cc

module _ {M : Machine} (R : Meaning M) where
  same_shows : (s t : Shown M) → Shows R s → Shows R t → SameInput s t → SameOutput s t
  same_shows s t a b i = record {
    content = a.content ∙ ap₂ R.carried i.bytes i.sections ∙ sym b.content;
    blocks = a.blocks ∙ ap₂ R.blocks i.bytes i.sections ∙ sym b.blocks;
    heads = a.heads ∙ ap₂ R.heads i.bytes i.sections ∙ sym b.heads;
  }

  same_verdict : (s t : Shown M) → SameInput s t → R.verdict s.bytes s.sections ≡ R.verdict t.bytes t.sections
  same_verdict s t i = ap₂ R.verdict i.bytes i.sections

  same_fate : (v w : View M) → Tells R v → Tells R w → SameInput v.shown w.shown → (f g : Fate) → v.fate ≡ f → w.fate ≡ g → Settled f → Settled g → f ≡ g
  same_fate v w a b i f g p q is_ended is_ended = refl
  same_fate v w a b i f g p q is_ended (is_refused k) = absurd (never_both _ k (sym (same_verdict v.shown w.shown i) ∙ a.if_whole p) (b.if_refused k q))
  same_fate v w a b i f g p q (is_refused j) is_ended = absurd (never_both _ j (same_verdict v.shown w.shown i ∙ b.if_whole q) (a.if_refused j p))
  same_fate v w a b i f g p q (is_refused j) (is_refused k) = ap refused (one_code _ j k (a.if_refused j p) (same_verdict v.shown w.shown i ∙ b.if_refused k q))

  -- THE BRIDGE: two streams, in one trace or two, of one start or two, that consumed the same bytes with the same sections:
  -- the same content, the same section bytes, the same headers, and, once settled, the same fate
  pub two_traces : Reads R → (i j : ℕ) → kind_of i ≡ some request → kind_of j ≡ some request → (cs ds : List (Call M))
      → SameInput (view i (trace fresh cs)).shown (view j (trace fresh ds)).shown
      → SameOutput (view i (trace fresh cs)).shown (view j (trace fresh ds)).shown
      × (Settled (view i (trace fresh cs)).fate → Settled (view j (trace fresh ds)).fate → (view i (trace fresh cs)).fate ≡ (view j (trace fresh ds)).fate)
  two_traces L i j p q cs ds e =
      let v = view i (trace fresh cs) in
      let w = view j (trace fresh ds) in
      let a = demand_2 R L i p cs in
      let b = demand_2 R L j q ds in
      (same_shows v.shown w.shown a.shows b.shows e, λ x y. same_fate v w a b e v.fate w.fate refl refl x y)

-- ---- any cutting

no_more : (x more : List ℕ) → length (x ++ more) ≡ length x → more ≡ []
no_more x [] e = refl
no_more x (b ∷ more) e = let l = length-append x (b ∷ more) in absurd (omega arith)

module _ {M : Machine} (R : Meaning M) (k : Code) (x : List ℕ) (sections : List M.Block) (struck : Struck R k x sections) where
  -- a fault of the bytes is one of all that begins with them
  goes_on : (y more : List ℕ) (t others : List M.Block) → y ≡ x ++ more → t ≡ sections ++ others → FaultAt R k (length x) y t
  goes_on y more t others e f = rw (e, f) (λ rest. rw (append_assoc x more rest) (struck others (more ++ rest)))

  fault_of_all : (y more : List ℕ) (t others : List M.Block) → y ≡ x ++ more → t ≡ sections ++ others → (R.verdict y t ≡ bad k) × (R.place y t ≡ length x)
  fault_of_all y more t others e f = rw (append-nil y) at (goes_on y more t others e f [])

  -- every stream that consumed them, or more, is refused for it, at the same byte
  pub all_refused : (w : View M) → Tells R w → (more : List ℕ) (others : List M.Block) → w.shown.bytes ≡ x ++ more → w.shown.sections ≡ sections ++ others
      → (w.fate ≡ refused k) × (w.shown.bytes ≡ x)
  all_refused w tells more others e f = by w.fate refl
    where
      never : NotRefused w.fate → ⊥
      never n = tells.unless_refused (λ j. not_refused w.fate j n) k (length x) (goes_on w.shown.bytes more w.shown.sections others e f)

      by : (g : Fate) → w.fate ≡ g → (w.fate ≡ refused k) × (w.shown.bytes ≡ x)
      by unopened q = absurd (never (rw q tt))
      by spent q = absurd (never (rw q tt))
      by running q = absurd (never (rw q tt))
      by ended q = absurd (never (rw q tt))
      by dropped q = absurd (never (rw q tt))
      by lost q = absurd (never (rw q tt))
      by (refused j) q =
          let a = fault_of_all w.shown.bytes more w.shown.sections others e f in
          let m : more ≡ [] = no_more x more (sym (ap length e) ∙ sym (tells.at_its_place j q) ∙ a.1) in
          (q ∙ ap refused (one_code _ j k (tells.if_refused j q) a.0), e ∙ ap (λ z. x ++ z) m ∙ append-nil x)

-- of two faults of the bytes, one stream beginning as the other, neither is before the other
pub one_fault : {M : Machine} (R : Meaning M) (j k : Code) (x y more : List ℕ) (s t others : List M.Block) → Struck R k x s → Struck R j y t → x ≡ y ++ more → s ≡ t ++ others → (j ≡ k) × (more ≡ [])
one_fault R j k x y more s t others a b e f =
    let p = fault_of_all R j y t b x more s others e f in
    let q = struck_here R k x s a in
    (one_code _ j k p.0 q.0, no_more y more (sym (ap length e) ∙ sym q.1 ∙ p.1))

-- ---- demand 3

-- DEMAND 3 OF ONE STREAM BY ITSELF: what a longer stream adds to a whole one that states a Content-Length
pub record Longer {M : Machine} (R : Meaning M) : Type 1 where
  pub Header : Type 0
  pub header : List ℕ → List M.Block → Header  -- the header section's meaning
  pub States : ℕ → List ℕ → List M.Block → Type 0  -- the Content-Length stated
  pub Alike : List ℕ → (s t : List M.Block) → Type 0  -- the HEADERS frames of the bytes decode alike
  pub Adds : List ℕ → List M.Block → (more : List ℕ) → List M.Block → Type 0  -- only what is allowed
  pub longer : (n : ℕ) (b more : List ℕ) (s t : List M.Block) → R.verdict b s ≡ is_legal → R.verdict (b ++ more) t ≡ is_legal → Alike b s t → States n b s
      → (header b s ≡ header (b ++ more) t) × (R.carried b s ≡ R.carried (b ++ more) t) × Adds b s more t
  pub not_half : (n : ℕ) (b : List ℕ) (s : List M.Block) → R.verdict b s ≡ is_legal → States n b s → length (R.carried b s) ≡ n

module _ {M : Machine} (R : Meaning M) (L : Reads R) (D : Longer R) where
  -- DEMAND 3: two streams, in one trace or two, both ended as whole, the longer beginning with all the bytes of the shorter
  pub demand_3 : (i j : ℕ) → kind_of i ≡ some request → kind_of j ≡ some request → (cs ds : List (Call M)) (n : ℕ) (more : List ℕ)
      → let v = (view i (trace fresh cs)).shown in let w = (view j (trace fresh ds)).shown in
      (view i (trace fresh cs)).fate ≡ ended → (view j (trace fresh ds)).fate ≡ ended
      → w.bytes ≡ v.bytes ++ more → D.Alike v.bytes v.sections w.sections → D.States n v.bytes v.sections
      → (D.header v.bytes v.sections ≡ D.header w.bytes w.sections) × (v.content ≡ w.content) × D.Adds v.bytes v.sections more w.sections
  demand_3 i j p q cs ds n more x y e k st =
      let v = (view i (trace fresh cs)).shown in
      let w = (view j (trace fresh ds)).shown in
      let a = demand_2 R L i p cs in
      let b = demand_2 R L j q ds in
      let g : R.verdict (v.bytes ++ more) w.sections ≡ is_legal = rw (← e) (b.if_whole y) in
      let d = D.longer n v.bytes more v.sections w.sections (a.if_whole x) g k st in
      (rw e d.0, a.shows.content ∙ d.1 ∙ (rw (← e) (sym b.shows.content)), d.2)

  -- half an upload is never whole
  pub half_an_upload : (id : ℕ) → kind_of id ≡ some request → (cs : List (Call M)) (n : ℕ)
      → (view id (trace fresh cs)).fate ≡ ended → D.States n (view id (trace fresh cs)).shown.bytes (view id (trace fresh cs)).shown.sections
      → length (view id (trace fresh cs)).shown.content ≡ n
  half_an_upload id p cs n x st =
      let a = demand_2 R L id p cs in
      ap length a.shows.content ∙ D.not_half n (view id (trace fresh cs)).shown.bytes (view id (trace fresh cs)).shown.sections (a.if_whole x) st
