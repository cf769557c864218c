-- What is read further on in a stream is the same, with every place further on. For every grammar. Assumes nothing.
use Rattle.std.specs.Prelude.{◌≡◌, length}
use Rattle.std.proofs.Math.Path.{refl, ap}
use Rattle.std.proofs.Common.{sym, ◌∙◌}
use Prim.Native.Nat.{ℕ, zero, suc, ◌+◌}
use native.Mathlib.Omega.{arith}
use mathlib.Core.List.{List, [], ◌∷◌, ◌++◌, map}
use Rattle.rules.specs.Block.{Section}
use Rattle.rules.specs.Reading.{Kept, Use, Ruling, refuse, accept, content, skipped, section, kept, Next, stop, go, Grammar, Saying, header, Reading, put, read_from, read, told, ended, End, complete, lacking}
use Rattle.meaning.specs.Machine.{fresh, need, Fed, going, value, fed, State, in_type, in_length, in_payload, due, Outcome, lives, dies, keep, step, judged_says, over_says, left_says, rule_says, size_says, says, finish, Run, reads, stuck, resumed, supplied, settled, next, tells, finished, begins, reading, fresh_run}
use Rattle.meaning.proofs.Bridge.{by_bytes_from, by_bytes}
use Rattle.meaning.specs.Shift.{later_verdict, shift, later, later_run}

map_join : {A B : Type 0} (f : A → B) (x y : List A) → map f (x ++ y) ≡ map f x ++ map f y
map_join f [] y = refl
map_join f (a ∷ x) y = ap (λ l. f a ∷ l) (map_join f x y)

shift_put : (k : ℕ) (x : List Saying) (r : Reading) → shift k (put x r) ≡ put (map (later k) x) (shift k r)
unfolding shift put
shift_put k x r = let e = map_join (later k) x r.said in rw e

told_shift : (k : ℕ) (u : Use) (b : ℕ) → told u (b ∷ []) ≡ map (later k) (told u (b ∷ []))
unfolding told later
told_shift k content b = refl
told_shift k skipped b = refl
told_shift k (section t) b = refl
told_shift k (kept t) b = refl

ended_later : (k at : ℕ) (e : End) → ended e (k + at) ≡ later_verdict k (ended e at)
unfolding ended later_verdict
ended_later k at complete = refl
ended_later k at (lacking code) = refl

module _ (G : Grammar) (k : ℕ) where
  resumed_later : (at : ℕ) (bl : List Section) (n : Next G.P) → resumed G (k + at) bl n ≡ later_run G k (resumed G at bl n)
  unfolding resumed later_run later_verdict
  resumed_later at bl (stop code) = refl
  resumed_later at bl (go p) = refl

  supplied_later : (at : ℕ) (bl : List Section) (s : State G.P) → supplied G (k + at) bl s ≡ later_run G k (supplied G at bl s)
  unfolding supplied later_run later_verdict
  supplied_later at bl (in_type g p) = refl
  supplied_later at bl (in_length t g p) = refl
  supplied_later at bl (in_payload u sofar left p) = refl
  supplied_later at [] (due t p) = refl
  supplied_later at (b ∷ bl) (due t p) = resumed_later at bl (G.given t p b)

  settled_later : (at : ℕ) (bl : List Section) (o : Outcome G.P) → settled G (k + at) bl o ≡ later_run G k (settled G at bl o)
  unfolding settled later_run later_verdict
  settled_later at bl (lives s) = supplied_later at bl s
  settled_later at bl (dies code) = refl

  next_later : (at : ℕ) (r : Run G.P) (b : ℕ) → next G (k + at) (later_run G k r) b ≡ later_run G k (next G at r b)
  unfolding next later_run
  next_later at (reads bl s) b = settled_later at bl (step G s b)
  next_later at (stuck v) b = refl

  judged_later : (t : Kept) (x : List ℕ) (n : Next G.P) → judged_says G t x n ≡ map (later k) (judged_says G t x n)
  unfolding judged_says later
  judged_later t x (stop code) = refl
  judged_later t x (go p) = refl

  left_later : (u : Use) (x : List ℕ) (l : ℕ) (p : G.P) → left_says G u x l p ≡ map (later k) (left_says G u x l p)
  unfolding left_says over_says
  left_later content x zero p = refl
  left_later skipped x zero p = refl
  left_later (section t) x zero p = refl
  left_later (kept t) x zero p = judged_later t x (G.judged t p x)
  left_later u x (suc l) p = refl

  rule_later : (at place t len : ℕ) (r : Ruling G.P) → rule_says G (k + at) (k + place) t len r ≡ map (later k) (rule_says G at place t len r)
  unfolding rule_says later
  rule_later at place t len (refuse code) = refl
  rule_later at place t len (accept u p) = ap (λ l. header (record { at = k + at; from = k + place; type = t; len = len }) u ∷ l) (left_later u [] len p)

  size_later : (o place t : ℕ) (p : G.P) (x : Fed) → size_says G (k + o) (k + place) t p x ≡ map (later k) (size_says G o place t p x)
  unfolding size_says
  size_later o place t p (going g) = refl
  size_later o place t p (value len) = rule_later o place t len (G.rule p t len)

  tells_later : (o place : ℕ) (r : Run G.P) (b : ℕ) → tells G (k + o) (k + place) (later_run G k r) b ≡ map (later k) (tells G o place r b)
  unfolding tells says later_run
  tells_later o place (reads bl (in_type g p)) b = refl
  tells_later o place (reads bl (in_length t g p)) b = size_later o place t p (fed g b)
  tells_later o place (reads bl (in_payload u sofar left p)) b =
      let x = told_shift k u b in let y = left_later u (keep u sofar b) left p in
      let e = map_join (later k) (told u (b ∷ [])) (left_says G u (keep u sofar b) left p) in rw (e, ← x, ← y)
  tells_later o place (reads bl (due t p)) b = refl
  tells_later o place (stuck v) b = refl

  begins_later : (o place : ℕ) (r : Run G.P) → begins G (k + o) (k + place) (later_run G k r) ≡ k + begins G o place r
  unfolding begins later_run
  begins_later o place (reads bl (in_type fresh p)) = refl
  begins_later o place (reads bl (in_type (need n v) p)) = refl
  begins_later o place (reads bl (in_length t g p)) = refl
  begins_later o place (reads bl (in_payload u sofar left p)) = refl
  begins_later o place (reads bl (due t p)) = refl
  begins_later o place (stuck v) = refl

  finished_later : (at : ℕ) (r : Run G.P) → finished G (k + at) (later_run G k r) ≡ later_verdict k (finished G at r)
  unfolding finished finish later_run later_verdict
  finished_later at (reads bl (in_type fresh p)) = ended_later k at (G.end p)
  finished_later at (reads bl (in_type (need n v) p)) = refl
  finished_later at (reads bl (in_length t g p)) = refl
  finished_later at (reads bl (in_payload u sofar left p)) = refl
  finished_later at (reads bl (due t p)) = refl
  finished_later at (stuck v) = refl

  -- THE SHIFT LAW: what is read k bytes further on is the same, with every place k further on
  pub reading_shifts : (o at : ℕ) (r : Run G.P) (bs : List ℕ) → reading G (k + o) (k + at) (later_run G k r) bs ≡ shift k (reading G o at r bs)
  unfolding reading
  reading_shifts o at r [] = unfold shift in ap (λ v. record { said = []; verdict = v }) (finished_later at r)
  reading_shifts o at r (b ∷ bs) =
      let e : suc (k + at) ≡ k + suc at = omega arith in
      let q = next G (suc at) r b in
      let i = reading_shifts (begins G o (suc at) q) (suc at) q bs in
      let n = next_later (suc at) r b in
      let t = tells_later o (suc at) r b in
      let g = begins_later o (suc at) q in
      rw (e, n, t, g, i) (sym (shift_put k _ _))

-- so frames from an offset on mean what they mean at the start of a stream, with every place further on
pub read_from_shifts : (G : Grammar) (at total : ℕ) (bl : List Section) (bs : List ℕ) → at + length bs ≡ total → read_from G at total bl bs ≡ shift at (read G bl bs)
unfolding later_run
read_from_shifts G at total bl bs e =
    let z : at + 0 ≡ at = omega arith in
    sym (by_bytes_from G at total bl bs e) ∙ (rw z at (reading_shifts G at 0 0 (fresh_run G bl) bs)) ∙ ap (shift at) (by_bytes G bl bs)
