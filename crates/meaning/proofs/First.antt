-- The first fault is the last word: what follows it does not matter, nothing shorter has one, and sections behind those due by it do not alter it.
-- For every grammar. Assumes nothing.
use Rattle.std.proofs.Math.Path.{◌≡◌, refl, sym, ap, subst}
use Rattle.std.proofs.Common.{◌∙◌}
use Prim.Native.Nat.{ℕ, zero, suc, ◌<◌}
use native.Mathlib.Omega.{arith}
use mathlib.Core.List.{List, [], ◌∷◌, ◌++◌, append-nil}
use Rattle.std.specs.Prelude.{◌↔◌, take}
use Rattle.std.proofs.Math.ListN.{length, length-append}
use Rattle.rules.specs.Numbers.{Code}
use Rattle.rules.specs.Block.{Section}
use Rattle.rules.specs.Reading.{Next, stop, go, End, complete, lacking, Grammar, Verdict, fault, waits, ended, read}
use Rattle.meaning.specs.Machine.{fresh, need, State, in_type, in_length, in_payload, due, Outcome, lives, dies, between, step, finish, Run, reads, stuck, resumed, supplied, settled, next, tells, finished, begins, run, began, lists, fresh_run}
use Rattle.meaning.proofs.Cut.{read_is, run_append, lists_append}
use Rattle.meaning.specs.First.{place_of, ReadsOn, Inside, Struck, FirstFault, Due, Finds}

module _ (G : Grammar) where
  pub stuck_run : (at : ℕ) (v : Verdict) (bs : List ℕ) → run G at (stuck v) bs ≡ stuck v
  unfolding run next
  stuck_run at v [] = refl
  stuck_run at v (b ∷ bs) = stuck_run (suc at) v bs

  stuck_lists : (o at : ℕ) (v : Verdict) (bs : List ℕ) → lists G o at (stuck v) bs ≡ []
  unfolding lists next tells begins
  stuck_lists o at v [] = refl
  stuck_lists o at v (b ∷ bs) = stuck_lists o (suc at) v bs

module _ (G : Grammar) where
  resumed_place : (place : ℕ) (bl : List Section) (n : Next G.P) (v : Verdict) → resumed G place bl n ≡ stuck v → place_of v ≡ place
  unfolding resumed
  resumed_place place bl (stop code) v e = let x : v ≡ fault code place = cc in rw x (unfold place_of in refl)
  resumed_place place bl (go p) v e = let z : ◌≡◌ {A = ℕ} 0 1 = cc in absurd (omega arith)

  supplied_place : (place : ℕ) (bl : List Section) (s : State G.P) (v : Verdict) → supplied G place bl s ≡ stuck v → place_of v ≡ place
  unfolding supplied
  supplied_place place bl (in_type g p) v e = let z : ◌≡◌ {A = ℕ} 0 1 = cc in absurd (omega arith)
  supplied_place place bl (in_length t g p) v e = let z : ◌≡◌ {A = ℕ} 0 1 = cc in absurd (omega arith)
  supplied_place place bl (in_payload u k left p) v e = let z : ◌≡◌ {A = ℕ} 0 1 = cc in absurd (omega arith)
  supplied_place place [] (due t p) v e = let x : v ≡ waits place = cc in rw x (unfold place_of in refl)
  supplied_place place (b ∷ bl) (due t p) v e = resumed_place place bl (G.given t p b) v e

  settled_place : (place : ℕ) (bl : List Section) (o : Outcome G.P) (v : Verdict) → settled G place bl o ≡ stuck v → place_of v ≡ place
  unfolding settled
  settled_place place bl (lives s) v e = supplied_place place bl s v e
  settled_place place bl (dies code) v e = let x : v ≡ fault code place = cc in rw x (unfold place_of in refl)

  strike : (at : ℕ) (bl : List Section) (s : State G.P) (b : ℕ) (bs : List ℕ) (v : Verdict)
      → ((bl : List Section) (s : State G.P) → run G (suc at) (reads bl s) bs ≡ stuck v → Struck G (suc at) (reads bl s) bs v)
      → (x : Run G.P) → next G (suc at) (reads bl s) b ≡ x → run G (suc at) x bs ≡ stuck v → Struck G at (reads bl s) (b ∷ bs) v
  unfolding run next
  strike at bl s b bs v ih (stuck w) q e =
      let k = stuck_run G (suc at) w bs in
      let y : w ≡ v = cc in
      let q' : settled G (suc at) bl (step G s b) ≡ stuck v = q ∙ ap stuck y in
      record {
        k = 1;
        fits = omega arith;
        place = settled_place (suc at) bl (step G s b) v q' ∙ omega arith;
        then = q';
        before = λ n h. (let z : n ≡ 0 = omega arith in rw z tt);
      }
  strike at bl s b bs v ih (reads c u) q e =
      let i = ih c u e in
      record {
        k = suc i.k;
        fits = omega (arith, i.fits);
        place = i.place ∙ omega arith;
        then = ap (λ x. run G (suc at) x (take i.k bs)) q ∙ i.then;
        before = λ n h. earlier c u i.k i.before q n h;
      }
    where
      earlier : (c : List Section) (u : State G.P) (k : ℕ) → ((q : ℕ) → q < k → ReadsOn (run G (suc at) (reads c u) (take q bs)))
          → next G (suc at) (reads bl s) b ≡ reads c u → (n : ℕ) → n < suc k → ReadsOn (run G at (reads bl s) (take n (b ∷ bs)))
      earlier c u k f q zero h = tt
      earlier c u k f q (suc n) h = subst (λ x. ReadsOn (run G (suc at) x (take n bs))) (sym q) (f n (omega arith))

  struck : (at : ℕ) (bl : List Section) (s : State G.P) (bs : List ℕ) (v : Verdict) → run G at (reads bl s) bs ≡ stuck v → Struck G at (reads bl s) bs v
  unfolding run
  struck at bl s [] v e = let z : ◌≡◌ {A = ℕ} 0 1 = cc in absurd (omega arith)
  struck at bl s (b ∷ bs) v e = strike at bl s b bs v (λ c u. struck (suc at) c u bs v) (next G (suc at) (reads bl s) b) refl e

  -- what follows does not matter: the same sayings and the same verdict for every continuation
  pub last_word : (bl : List Section) (x t : List ℕ) (v : Verdict) → Inside G bl x v
      → ((read G bl (x ++ t)).verdict ≡ v) × ((read G bl (x ++ t)).said ≡ (read G bl x).said)
  unfolding Inside
  last_word bl x t v e =
      let r0 = fresh_run G bl in
      let a = run_append G 0 (length x) r0 x t (omega arith) in
      let l = lists_append G 0 0 (length x) r0 x t (omega arith) in
      let o = began G 0 0 r0 x in
      let k = stuck_run G (length x) v t in
      let m = stuck_lists G o (length x) v t in
      let f : run G 0 r0 (x ++ t) ≡ stuck v = cc in
      let n : lists G o (length x) (run G 0 r0 x) t ≡ [] = cc in (
        ap (λ r. r.verdict) (read_is G bl (x ++ t)) ∙ rw f (unfold finished in refl),
        ap (λ r. r.said) (read_is G bl (x ++ t)) ∙ l ∙ ap (λ z. lists G 0 0 r0 x ++ z) n ∙ append-nil _ ∙ sym (ap (λ r. r.said) (read_is G bl x)),
      )

  not_both : (r : Run G.P) (v : Verdict) → ReadsOn r → r ≡ stuck v → ⊥
  not_both (reads bl s) v h e = let z : ◌≡◌ {A = ℕ} 0 1 = cc in omega arith
  not_both (stuck w) v h e = h

  pub first_fault : (bl : List Section) (bytes : List ℕ) (code : Code) (p : ℕ) → Inside G bl bytes (fault code p) → FirstFault G bl bytes code p
  unfolding Inside place_of
  first_fault bl bytes code p e =
      let s = struck 0 bl (in_type fresh G.start) bytes (fault code p) e in
      let z : p ≡ s.k = omega (arith, s.place) in
      let th : run G 0 (fresh_run G bl) (take p bytes) ≡ stuck (fault code p) = ap (λ k. run G 0 (fresh_run G bl) (take k bytes)) z ∙ s.then in
      record {
        within = omega (arith, s.fits, z);
        there = th;
        same = λ t. (last_word bl (take p bytes) t (fault code p) th).0;
        first = λ q v h i. not_both (run G 0 (fresh_run G bl) (take q bytes)) v (s.before q (omega (arith, z, h))) i;
      }

  -- where nothing is settled inside, the verdict is the end rule's, at the end
  pub end_rule : (bl : List Section) (bytes : List ℕ) {c : List Section} {s : State G.P} → run G 0 (fresh_run G bl) bytes ≡ reads c s
      → (read G bl bytes).verdict ≡ finish G (length bytes) s
  end_rule bl bytes e = ap (λ r. r.verdict) (read_is G bl bytes) ∙ rw e (unfold finished in refl)

  end_place : (e : End) (at : ℕ) (code : Code) (p : ℕ) → ended e at ≡ fault code p → p ≡ at
  unfolding ended
  end_place complete at code p e = let z : ◌≡◌ {A = ℕ} 0 1 = cc in absurd (omega arith)
  end_place (lacking c) at code p e = cc

  finish_place : (at : ℕ) (s : State G.P) (code : Code) (p : ℕ) → finish G at s ≡ fault code p → p ≡ at
  unfolding finish
  finish_place at (in_type fresh q) code p e = end_place (G.end q) at code p e
  finish_place at (in_type (need k v) q) code p e = cc
  finish_place at (in_length t g q) code p e = cc
  finish_place at (in_payload u k left q) code p e = cc
  finish_place at (due t q) code p e = let z : ◌≡◌ {A = ℕ} 0 1 = cc in absurd (omega arith)

  early : (at : ℕ) (r : Run G.P) (code : Code) (p : ℕ) → finished G at r ≡ fault code p → p < at → r ≡ stuck (fault code p)
  unfolding finished
  early at (reads bl s) code p e h = let x = finish_place at s code p e in absurd (omega arith)
  early at (stuck v) code p e h = ap stuck e

  -- a fault before the end is inside the stream
  pub early_inside : (bl : List Section) (bytes : List ℕ) (code : Code) (p : ℕ) → (read G bl bytes).verdict ≡ fault code p → p < length bytes → Inside G bl bytes (fault code p)
  unfolding Inside
  early_inside bl bytes code p e h = early (length bytes) (run G 0 (fresh_run G bl) bytes) code p (sym (ap (λ r. r.verdict) (read_is G bl bytes)) ∙ e) h

  inside_of : (bl : List Section) (x : List ℕ) (code : Code) (p : ℕ) (r : Run G.P) → run G 0 (fresh_run G bl) x ≡ r
      → ((t : List ℕ) → (read G bl (x ++ t)).verdict ≡ fault code p) → r ≡ stuck (fault code p)
  unfolding finished Inside run next place_of
  inside_of bl x code p (stuck v) e f =
      let a : (read G bl x).verdict ≡ fault code p = rw (append-nil x) at (f []) in
      let w = ap (λ r. r.verdict) (read_is G bl x) in
      let y : finished G (length x) (run G 0 (fresh_run G bl) x) ≡ v = ap (finished G (length x)) e in
      ap stuck (sym y ∙ sym w ∙ a)
  inside_of bl x code p (reads c s) e f =
      let a : (read G bl x).verdict ≡ fault code p = rw (append-nil x) at (f []) in
      let z : p ≡ length x = finish_place (length x) s code p (sym (end_rule bl x e) ∙ a) in
      let l = length-append x (0 ∷ []) in
      let i : run G 0 (fresh_run G bl) (x ++ (0 ∷ [])) ≡ stuck (fault code p) = early_inside bl (x ++ (0 ∷ [])) code p (f (0 ∷ [])) (omega arith) in
      let ra = run_append G 0 (length x) (fresh_run G bl) x (0 ∷ []) (omega arith) in
      let n : settled G (suc (length x)) c (step G s 0) ≡ stuck (fault code p) = ap (λ r. run G (length x) r (0 ∷ [])) (sym e) ∙ sym ra ∙ i in
      let q : p ≡ suc (length x) = settled_place (suc (length x)) c (step G s 0) (fault code p) n in
      absurd (omega arith)

  -- in the words of the definition alone: a fault is inside the stream exactly if it is the verdict of every continuation
  pub inside_means : (bl : List Section) (x : List ℕ) (code : Code) (p : ℕ) → Inside G bl x (fault code p) ↔ ((t : List ℕ) → (read G bl (x ++ t)).verdict ≡ fault code p)
  unfolding Inside
  inside_means bl x code p = (λ e t. (last_word bl x t (fault code p) e).0, λ f. inside_of bl x code p (run G 0 (fresh_run G bl) x) refl f)

-- ---- and it depends on the sections due by then, and on no others

module _ (G : Grammar) where
  none_taken : (at : ℕ) (bs : List ℕ) (code : Code) (place : ℕ) (c : Code) (p : ℕ) (sections : List Section) → run G at (stuck (fault c p)) bs ≡ stuck (fault code place)
      → Due G at (λ l. stuck (fault c p)) bs code place sections
  none_taken at bs code place c p sections e = record { taken = []; left = sections; are = refl; same = λ others. e }

  resumed_due : (at : ℕ) (bs : List ℕ) (code : Code) (place : ℕ) → Finds G at bs code place → (sections : List Section) (n : Next G.P)
      → run G at (resumed G at sections n) bs ≡ stuck (fault code place) → Due G at (λ l. resumed G at l n) bs code place sections
  unfolding resumed
  resumed_due at bs code place ih sections (stop c) e = none_taken at bs code place c at sections e
  resumed_due at bs code place ih sections (go p) e = ih (between p) sections e

  supplied_due : (at : ℕ) (bs : List ℕ) (code : Code) (place : ℕ) → Finds G at bs code place → (s : State G.P) (sections : List Section)
      → run G at (supplied G at sections s) bs ≡ stuck (fault code place) → Due G at (λ l. supplied G at l s) bs code place sections
  unfolding supplied
  supplied_due at bs code place ih (in_type g p) sections e = ih (in_type g p) sections e
  supplied_due at bs code place ih (in_length t g p) sections e = ih (in_length t g p) sections e
  supplied_due at bs code place ih (in_payload u k left p) sections e = ih (in_payload u k left p) sections e
  supplied_due at bs code place ih (due t p) [] e = let k = stuck_run G at (waits at) bs in let z : ◌≡◌ {A = ℕ} 0 1 = cc in absurd (omega arith)
  supplied_due at bs code place ih (due t p) (c ∷ sections) e =
      let d = resumed_due at bs code place ih sections (G.given t p c) e in
      record { taken = c ∷ d.taken; left = d.left; are = ap (λ l. c ∷ l) d.are; same = d.same }

  settled_due : (at : ℕ) (bs : List ℕ) (code : Code) (place : ℕ) → Finds G at bs code place → (o : Outcome G.P) (sections : List Section)
      → run G at (settled G at sections o) bs ≡ stuck (fault code place) → Due G at (λ l. settled G at l o) bs code place sections
  unfolding settled
  settled_due at bs code place ih (lives s) sections e = supplied_due at bs code place ih s sections e
  settled_due at bs code place ih (dies c) sections e = none_taken at bs code place c at sections e

  finds : (bs : List ℕ) (at : ℕ) (code : Code) (place : ℕ) → Finds G at bs code place
  unfolding run next
  finds [] at code place s sections e = let z : ◌≡◌ {A = ℕ} 0 1 = cc in absurd (omega arith)
  finds (b ∷ bs) at code place s sections e =
      let d = settled_due (suc at) bs code place (finds bs (suc at) code place) (step G s b) sections e in
      record { taken = d.taken; left = d.left; are = d.are; same = d.same }

  -- THE SECTIONS DUE BY A FAULT decide it: those behind them may be any others
  pub due_by : (sections : List Section) (bytes : List ℕ) (code : Code) (p : ℕ) → Inside G sections bytes (fault code p)
      → (taken : List Section) × (left : List Section) × (sections ≡ taken ++ left) × ((others : List Section) → Inside G (taken ++ others) bytes (fault code p))
  unfolding Inside
  due_by sections bytes code p e = let d = finds bytes 0 code p (in_type fresh G.start) sections e in (d.taken, d.left, d.are, d.same)
