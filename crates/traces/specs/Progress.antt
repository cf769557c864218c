-- FEEDS AND SECTIONS over traces: what is answered on a stream that runs, by what the bytes consumed and the sections accepted mean. From the same
-- of one stream by itself. Assumes nothing.
use Rattle.std.specs.Prelude.{◌≡◌, ℕ, ◌≤◌, List, [], ◌∷◌, ◌++◌, Bool, length}
use Rattle.std.proofs.Math.Path.{refl, subst}
use Rattle.std.proofs.Common.{arith}
use Rattle.std.proofs.Math.Bool.{true, false}
use Rattle.std.proofs.Math.Option.{some}
use Rattle.std.proofs.Math.ListN.{take}
use Rattle.rules.specs.Numbers.{StreamFault, Code, of_stream, of_connection, section_due, no_section, unreadable}
use Rattle.rules.specs.Calls.{Event, Fed, goes, faults, Given, sound, unsound, Ended, is_whole, broken, Own, feed, section, refuse, of_fed, of_given, map_out, done, fed, Machine, act, either, request, kind_of, asking, Pair, Call, on, Answer, gave, house, code, same, with, faulted, settle, fresh, call, run, trace}
use Rattle.rules.specs.Shown.{Shown, View, running, refused, plus_feed, plus_bytes, plus_section, mine, view}
use Rattle.traces.specs.Alone.{call_on_asking}
use Rattle.traces.specs.Story.{Reached, by_feed, by_section, Asks, asks, Story, story, shut}
use Rattle.traces.specs.Follow.{Agrees, open_still, over, agrees, not_running}
use Rattle.traces.specs.Demands.{waits, verdict_of, Meaning, Struck, NoFault, Waits, Reads, demand_2, all_refused, one_fault}

-- WHAT A FEED IS ANSWERED: 4 exactly while a section is due; a code only if the bytes consumed brought that fault, the last of them; else there
-- is none among them, and with an allowance of at least 1 and a byte they are one or more
pub data Moves {M : Machine} (R : Meaning M) (s : Shown M) (allow : ℕ) (piece : List ℕ) : Answer → Type 0 where
  awaits : Waits R s → Moves R s allow piece (house section_due)
  faulty : {k : Code} {u h : ℕ} → ¬ Waits R s → Struck R k (s.bytes ++ take u piece) s.sections → Moves R s allow piece (code k u h)
  moved : {u h : ℕ} {e : Event} → ¬ Waits R s → NoFault R (s.bytes ++ take u piece) s.sections → (1 ≤ allow → 1 ≤ length piece → 1 ≤ u) → Moves R s allow piece (gave (fed u h e))

-- WHAT A SECTION IS ANSWERED: 5 exactly if none is due; then 6 exactly if it is unreadable; then a code exactly if the bytes with it have that fault
pub data Takes {M : Machine} (R : Meaning M) (s : Shown M) (b : M.Block) : Answer → Type 0 where
  not_due : ¬ Waits R s → Takes R s b (house no_section)
  not_readable : Waits R s → M.readable b ≡ false → Takes R s b (house unreadable)
  unfit : {k : StreamFault} → Waits R s → M.readable b ≡ true → Struck R (of_stream k) s.bytes (s.sections ++ (b ∷ [])) → Takes R s b (code (of_stream k) 0 0)
  taken : Waits R s → M.readable b ≡ true → NoFault R s.bytes (s.sections ++ (b ∷ [])) → Takes R s b (gave done)

no_wait : (x : Ended) → verdict_of x ≡ waits → ⊥
unfolding verdict_of
no_wait is_whole e = let z : ◌≡◌ {A = ℕ} 0 1 = cc in omega arith
no_wait (broken k) e = let z : ◌≡◌ {A = ℕ} 0 1 = cc in omega arith

module _ {M : Machine} (R : Meaning M) (L : Reads R) where
  none_waits : (s : Shown M) (r : M.Request) → Reached s r → M.due r ≡ false → ¬ Waits R s
  none_waits s r t d w = no_wait (M.finish r) (rw (L.at_end t d) at w)

  -- ---- feeds

  module _ (law : (r r' : M.Request) (allow u h b : ℕ) (bs : List ℕ) (e : Event) → M.due r ≡ false → 1 ≤ allow → M.feed r allow (b ∷ bs) ≡ goes u h e r' → 1 ≤ u) where
    gets_on : (r r' : M.Request) (allow u h : ℕ) (piece : List ℕ) (e : Event) → M.due r ≡ false → M.feed r allow piece ≡ goes u h e r' → 1 ≤ allow → 1 ≤ length piece → 1 ≤ u
    gets_on r r' allow u h [] e d q l m = absurd (omega arith)
    gets_on r r' allow u h (b ∷ bs) e d q l m = law r r' allow u h b bs e d l q

    moves : (id : ℕ) (p : Pair M) (s : Shown M) (r : M.Request) (allow : ℕ) (piece : List ℕ) → Reached s r → (d : Bool) → M.due r ≡ d → (x : Fed M.Request) → M.feed r allow piece ≡ x
        → Moves R s allow piece (settle id p (map_out (λ x. record { stream = asking x; kept = p.conn.kept }) (either d (refuse section_due) (of_fed x)))).answer
    unfolding settle map_out either of_fed same with faulted plus_feed
    moves id p s r allow piece t true e x q = awaits (L.while_due t e)
    moves id p s r allow piece t false e (goes u h ev r') q = moved (none_waits s r t e) (L.unhurt (by_feed t e q)) (gets_on r r' allow u h piece ev e q)
    moves id p s r allow piece t false e (faults (of_stream k) u h) q = faulty (none_waits s r t e) (L.in_feed allow u h piece (of_stream k) t e q).1
    moves id p s r allow piece t false e (faults (of_connection k) u h) q = faulty (none_waits s r t e) (L.in_feed allow u h piece (of_connection k) t e q).1

    moves_agrees : (id : ℕ) (p : Pair M) (v : View M) (allow : ℕ) (piece : List ℕ) → v.fate ≡ running → Agrees Asks Story id p v → Moves R v.shown allow piece (call (on id (feed allow piece)) p).answer
    unfolding act
    moves_agrees id p v allow piece e (over {f = f} t n) = absurd (not_running f (shut t) e)
    moves_agrees id p v allow piece e (open_still {s = s} a (asks {r = r} t) f) =
        rw (call_on_asking p id r (feed allow piece) a f) (moves id p s r allow piece t (M.due r) refl (M.feed r allow piece) refl)

    pub progress : (id : ℕ) → kind_of id ≡ some request → (cs : List (Call M)) (allow : ℕ) (piece : List ℕ) → (view id (trace fresh cs)).fate ≡ running
        → Moves R (view id (trace fresh cs)).shown allow piece (call (on id (feed allow piece)) (run fresh cs)).answer
    progress id q cs allow piece e = moves_agrees id (run fresh cs) (view id (trace fresh cs)) allow piece e (agrees story id cs q)

  -- ---- sections

  takes : (id : ℕ) (p : Pair M) (s : Shown M) (r : M.Request) (b : M.Block) → Reached s r → (d : Bool) → M.due r ≡ d → (c : Bool) → M.readable b ≡ c → (x : Given M.Request) → M.give r b ≡ x
      → Takes R s b (settle id p (map_out (λ x. record { stream = asking x; kept = p.conn.kept }) (either d (either c (of_given x) (refuse unreadable)) (refuse no_section)))).answer
  unfolding settle map_out either of_given same with faulted plus_section
  takes id p s r b t true e true w (sound r') q = taken (L.while_due t e) w (L.unhurt (by_section t e w q))
  takes id p s r b t true e true w (unsound k) q = unfit (L.while_due t e) w (L.at_section b k t e w q).1
  takes id p s r b t true e false w x q = not_readable (L.while_due t e) w
  takes id p s r b t false e c w x q = not_due (none_waits s r t e)

  takes_agrees : (id : ℕ) (p : Pair M) (v : View M) (b : M.Block) → v.fate ≡ running → Agrees Asks Story id p v → Takes R v.shown b (call (on id (section b)) p).answer
  unfolding act
  takes_agrees id p v b e (over {f = f} t n) = absurd (not_running f (shut t) e)
  takes_agrees id p v b e (open_still {s = s} a (asks {r = r} t) f) =
      rw (call_on_asking p id r (section b) a f) (takes id p s r b t (M.due r) refl (M.readable b) refl (M.give r b) refl)

  pub section_exactly : (id : ℕ) → kind_of id ≡ some request → (cs : List (Call M)) (b : M.Block) → (view id (trace fresh cs)).fate ≡ running
      → Takes R (view id (trace fresh cs)).shown b (call (on id (section b)) (run fresh cs)).answer
  section_exactly id q cs b e = takes_agrees id (run fresh cs) (view id (trace fresh cs)) b e (agrees story id cs q)

-- ---- any cutting

-- the calls that bring bytes or sections
pub data Brings {M : Machine} : Own M → Type 0 where
  a_feed : {allow : ℕ} {piece : List ℕ} → Brings (feed allow piece)
  a_section : {b : M.Block} → Brings (section b)

not_both : {X : Type 0} (k : Code) → running ≡ refused k → X
not_both k e = let z : ◌≡◌ {A = ℕ} 0 1 = cc in absurd (omega arith)

same_code : (k j : Code) → refused k ≡ refused j → k ≡ j
same_code k j q = cc

module _ {M : Machine} (R : Meaning M) where
  feed_struck : (s : Shown M) (allow : ℕ) (piece : List ℕ) (a : Answer) (k : Code) → Moves R s allow piece a → let x = mine (feed allow piece) a s in x.fate ≡ refused k → Struck R k x.shown.bytes x.shown.sections
  unfolding mine plus_bytes
  feed_struck s allow piece a k (awaits w) e = not_both k e
  feed_struck s allow piece a k (faulty {k = j} {u = u} w x) e = subst (λ c. Struck R c (s.bytes ++ take u piece) s.sections) (same_code j k e) x
  feed_struck s allow piece a k (moved w n l) e = not_both k e

  section_struck : (s : Shown M) (b : M.Block) (a : Answer) (k : Code) → Takes R s b a → let x = mine (section b) a s in x.fate ≡ refused k → Struck R k x.shown.bytes x.shown.sections
  unfolding mine plus_section
  section_struck s b a k (not_due w) e = not_both k e
  section_struck s b a k (not_readable w r) e = not_both k e
  section_struck s b a k (unfit {k = j} w r x) e = subst (λ c. Struck R c s.bytes (s.sections ++ (b ∷ []))) (same_code (of_stream j) k e) x
  section_struck s b a k (taken w r n) e = not_both k e

-- what a stream shows after one call more
abbrev pub then : {M : Machine} (id : ℕ) (cs : List (Call M)) (o : Own M) → View M
then id cs o = mine o (call (on id o) (run fresh cs)).answer (view id (trace fresh cs)).shown

module _ {M : Machine} (R : Meaning M) (L : Reads R) (law : (r r' : M.Request) (allow u h b : ℕ) (bs : List ℕ) (e : Event) → M.due r ≡ false → 1 ≤ allow → M.feed r allow (b ∷ bs) ≡ goes u h e r' → 1 ≤ u) where
  -- A REFUSAL OF A FEED OR A SECTION is a fault of the bytes, brought by the last one consumed
  pub of_the_bytes : (id : ℕ) → kind_of id ≡ some request → (cs : List (Call M)) → (view id (trace fresh cs)).fate ≡ running → (o : Own M) → Brings o → (k : Code)
      → (then id cs o).fate ≡ refused k → Struck R k (then id cs o).shown.bytes (then id cs o).shown.sections
  of_the_bytes id q cs e o (a_feed {allow = allow} {piece = piece}) k f = feed_struck R (view id (trace fresh cs)).shown allow piece _ k (progress R L law id q cs allow piece e) f
  of_the_bytes id q cs e o (a_section {b = b}) k f = section_struck R (view id (trace fresh cs)).shown b _ k (section_exactly R L id q cs b e) f

  -- ANY CUTTING: every stream, in this trace or another, that consumed those bytes or more with the same sections so far is refused too, with the
  -- same code at the same byte
  pub any_cutting : (i j : ℕ) → kind_of i ≡ some request → kind_of j ≡ some request → (cs ds : List (Call M)) (o : Own M) (k : Code) (more : List ℕ) (others : List M.Block)
      → let x = then i cs o in let w = view j (trace fresh ds) in
      (view i (trace fresh cs)).fate ≡ running → Brings o → x.fate ≡ refused k → w.shown.bytes ≡ x.shown.bytes ++ more → w.shown.sections ≡ x.shown.sections ++ others
      → (w.fate ≡ refused k) × (w.shown.bytes ≡ x.shown.bytes)
  any_cutting i j p q cs ds o k more others e b f g h =
      let x = then i cs o in
      all_refused R k x.shown.bytes x.shown.sections (of_the_bytes i p cs e o b k f) (view j (trace fresh ds)) (demand_2 R L j q ds) more others g h

  -- and one that consumed fewer is not refused by a feed or a section
  pub not_before : (i j : ℕ) → kind_of i ≡ some request → kind_of j ≡ some request → (cs ds : List (Call M)) (o a : Own M) (k l : Code) (more : List ℕ) (others : List M.Block)
      → let x = then i cs o in let w = then j ds a in
      (view i (trace fresh cs)).fate ≡ running → Brings o → x.fate ≡ refused k → (view j (trace fresh ds)).fate ≡ running → Brings a
      → x.shown.bytes ≡ w.shown.bytes ++ more → x.shown.sections ≡ w.shown.sections ++ others → w.fate ≡ refused l → (l ≡ k) × (more ≡ [])
  not_before i j p q cs ds o a k l more others e b f e' b' g h f' =
      let x = then i cs o in
      let w = then j ds a in
      one_fault R l k x.shown.bytes w.shown.bytes more x.shown.sections w.shown.sections others (of_the_bytes i p cs e o b k f) (of_the_bytes j q ds e' a b' l f') g h
