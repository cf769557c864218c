-- The reading a byte at a time is the reading of the whole: the two definitions agree on every stream, for every grammar. Assumes nothing.
use Rattle.std.specs.Prelude.{◌≡◌, Bool, true, false, ltb, take, drop}
use Rattle.std.proofs.Math.Path.{refl, sym, ap}
use Rattle.std.proofs.Common.{◌∙◌, ltb→lt, nltb→le}
use Prim.Native.Nat.{ℕ, zero, suc, ◌+◌, ◌*◌, ◌%◌, ◌≤◌, ◌<◌}
use native.Mathlib.Omega.{arith}
use mathlib.Core.List.{List, [], ◌∷◌, ◌++◌, append-nil, append_assoc}
use Rattle.std.proofs.Math.ListN.{length, length-drop}
use Rattle.rules.specs.Integers.{Int, cut, got, more, extra, integer}
use Rattle.rules.specs.Frames.{Frames, frame, in_payload as in_frame, frames_up_to, frames_from}
use Rattle.rules.specs.Block.{Section}
use Rattle.rules.specs.Reading.{Kept, Use, content, skipped, section, kept, Ruling, refuse, accept, Next, stop, go, Grammar, Verdict, fault, waits, Saying, header, refused, frame_kept, Reading, ending, put, told, Onward, stops, waiting, on, left_by, completed, judge, read_from, read}
use Rattle.meaning.specs.IntegerLaws.{integer_length}
use Rattle.meaning.specs.Machine.{fresh, after, fed, in_length, between, answered, typed, keep, over, with_left, ruled, sized, step, judged_says, over_says, left_says, rule_says, size_says, says, finish, reads, stuck, resumed, supplied, settled, next, tells, finished, begins, reading, fresh_run}
use Rattle.meaning.specs.Bridge.{resume, after_type, after_length, carried_on, Agree}

module _ where
  pub put_put : (x y : List Saying) (r : Reading) → put x (put y r) ≡ put (x ++ y) r
  unfolding put
  put_put x y r = simp append_assoc

  pub put_nil : (r : Reading) → put [] r ≡ r
  unfolding put
  put_nil r = refl

  pub told_cons : (u : Use) (b : ℕ) (bs : List ℕ) → told u (b ∷ bs) ≡ told u (b ∷ []) ++ told u bs
  unfolding told
  told_cons content b bs = refl
  told_cons skipped b bs = refl
  told_cons (section t) b bs = refl
  told_cons (kept t) b bs = refl

  pub told_nil : (u : Use) → told u [] ≡ []
  unfolding told
  told_nil content = refl
  told_nil skipped = refl
  told_nil (section t) = refl
  told_nil (kept t) = refl

module _ (G : Grammar) where
  stuck_reads : (o at : ℕ) (v : Verdict) (bs : List ℕ) → reading G o at (stuck v) bs ≡ ending v
  unfolding reading finished put next tells begins
  stuck_reads o at v [] = refl
  stuck_reads o at v (b ∷ bs) = stuck_reads o (suc at) v bs

  module _ (total : ℕ) where
    type_reads : (o : ℕ) (p : G.P) (bl : List Section) (k v at : ℕ) (bs : List ℕ) → at + length bs ≡ total
        → resume G o at (supplied G at bl (typed p (after k v))) bs ≡ after_type G total o p bl (more k v at bs)
    unfolding reading finish finished put next step settled supplied tells says begins typed after fed more after_type
    type_reads o p bl zero v at bs e = refl
    type_reads o p bl (suc k) v at [] e = ap (λ n. ending (fault G.cut n)) (omega arith)
    type_reads o p bl (suc k) v at (b ∷ bs) e = type_reads o p bl k (v * 256 + b) (suc at) bs (omega arith)

    length_reads : (o t : ℕ) (p : G.P) (bl : List Section) (k v at : ℕ) (bs : List ℕ) → at + length bs ≡ total
        → put (size_says G o at t p (after k v)) (resume G o at (settled G at bl (sized G t p (after k v))) bs) ≡ after_length G total o t p bl (more k v at bs)
    unfolding reading finish finished put next step settled supplied tells says begins sized size_says after fed more after_length
    length_reads o t p bl zero v at bs e = refl
    length_reads o t p bl (suc k) v at [] e = ap (λ n. ending (fault G.cut n)) (omega arith)
    length_reads o t p bl (suc k) v at (b ∷ bs) e = length_reads o t p bl k (v * 256 + b) (suc at) bs (omega arith)

    -- a payload that the bytes cut short
    short_reads : (o : ℕ) (u : Use) (k : List ℕ) (q : G.P) (bl : List Section) (l at : ℕ) (bs : List ℕ) → at + length bs ≡ total → length bs < l
        → put (left_says G u k l q) (resume G o at (settled G at bl (with_left G u k l q)) bs) ≡ put (told u bs) (ending (fault G.cut total))
    unfolding reading finish finished put next step settled supplied tells says begins with_left left_says
    short_reads o u k q bl zero at bs e h = absurd (omega arith)
    short_reads o u k q bl (suc l) at [] e h = let t = told_nil u in let n : at ≡ total = omega arith in rw (t, n)
    short_reads o u k q bl (suc l) at (b ∷ bs) e h =
        sym (put_put (told u (b ∷ [])) _ _) ∙ ap (put (told u (b ∷ []))) (short_reads o u (keep u k b) q bl l (suc at) bs (omega arith) (omega arith))
        ∙ put_put (told u (b ∷ [])) (told u bs) _ ∙ ap (λ x. put x (ending (fault G.cut total))) (sym (told_cons u b bs))

    kept_over : (o : ℕ) (f : Kept) (k : List ℕ) (bl : List Section) (at : ℕ) (bs : List ℕ) (x : Next G.P)
        → put (judged_says G f k x) (resume G o at (settled G at bl (answered x)) bs) ≡ carried_on G total at bs (left_by G bl (frame_kept f k ∷ []) x)
    unfolding judged_says answered settled supplied left_by carried_on begins
    kept_over o f k bl at bs (stop code) = put_nil _ ∙ stuck_reads o at (fault code at) bs
    kept_over o f k bl at bs (go p) = refl

    due_over : (o : ℕ) (bl : List Section) (at : ℕ) (bs : List ℕ) (x : Next G.P) → resume G o at (resumed G at bl x) bs ≡ carried_on G total at bs (left_by G bl [] x)
    unfolding resumed left_by carried_on begins
    due_over o bl at bs (stop code) = stuck_reads o at (fault code at) bs
    due_over o bl at bs (go p) = sym (put_nil _)

    over_reads : (o : ℕ) (u : Use) (k : List ℕ) (q : G.P) (bl : List Section) (at : ℕ) (bs : List ℕ)
        → put (over_says G u k q) (resume G o at (settled G at bl (over G u k q)) bs) ≡ carried_on G total at bs (completed G u q k bl)
    unfolding over over_says completed settled supplied carried_on begins
    over_reads o content k q bl at bs = refl
    over_reads o skipped k q bl at bs = refl
    over_reads o (section t) k q [] at bs = put_nil _ ∙ stuck_reads o at (waits at) bs
    over_reads o (section t) k q (b ∷ bl) at bs = put_nil _ ∙ due_over o bl at bs (G.given t q b)
    over_reads o (kept f) k q bl at bs = kept_over o f k bl at bs (G.judged f q k)

    completed_keep : (u : Use) (q : G.P) (k : List ℕ) (b : ℕ) (xs : List ℕ) (bl : List Section)
        → completed G u q (keep u k b ++ xs) bl ≡ completed G u q (k ++ (b ∷ xs)) bl
    unfolding completed keep
    completed_keep content q k b xs bl = refl
    completed_keep skipped q k b xs bl = refl
    completed_keep (section t) q k b xs [] = refl
    completed_keep (section t) q k b xs (c ∷ bl) = refl
    completed_keep (kept t) q k b xs bl = let e = append_assoc k (b ∷ []) xs in rw e

    full_reads : (o : ℕ) (u : Use) (k : List ℕ) (q : G.P) (bl : List Section) (l at to : ℕ) (bs : List ℕ) → at + l ≡ to → l ≤ length bs
        → put (left_says G u k l q) (resume G o at (settled G at bl (with_left G u k l q)) bs)
        ≡ put (told u (take l bs)) (carried_on G total to (drop l bs) (completed G u q (k ++ take l bs) bl))
    unfolding reading next step settled supplied tells says begins with_left left_says
    full_reads o u k q bl zero at to bs e h =
        let t = told_nil u in let n : at ≡ to = omega arith in let a = append-nil k in rw (t, n, a) (over_reads o u k q bl to bs ∙ sym (put_nil _))
    full_reads o u k q bl (suc l) at to [] e h = absurd (omega arith)
    full_reads o u k q bl (suc l) at to (b ∷ bs) e h =
        let c = completed_keep u q k b (take l bs) bl in
        put_nil _ ∙ sym (put_put (told u (b ∷ [])) _ _)
        ∙ ap (put (told u (b ∷ []))) (full_reads o u (keep u k b) q bl l (suc at) to bs (omega arith) (omega arith))
        ∙ put_put (told u (b ∷ [])) (told u (take l bs)) _ ∙ rw (c, told_cons u b (take l bs))

    onward_reads : {f : ℕ} → Agree G total f → (x : Onward G.P) (to : ℕ) (bs : List ℕ) → length bs ≤ f → to + length bs ≡ total
        → carried_on G total to bs x ≡ (elim x [ stops code ↦ ending (fault code to) | waiting ↦ ending (waits to) | on r rest xs ↦ put xs (judge G total r rest (frames_up_to f to bs)) ])
    unfolding carried_on
    onward_reads ih (stops code) to bs h e = refl
    onward_reads ih waiting to bs h e = refl
    onward_reads ih (on r rest xs) to bs h e = ap (put xs) (ih to bs r rest h e)

    -- behind a header: refused, or the payload, cut or not, and what follows it
    cut_reads : (o : ℕ) (p : G.P) (bl : List Section) (t len from : ℕ) (pay : List ℕ) → from + length pay ≡ total → length pay < len
        → (r : Ruling G.P) → G.rule p t len ≡ r
        → after_length G total o t p bl (got len from pay) ≡ judge G total p bl (in_frame (record { at = o; from = from; type = t; len = len }) pay)
    unfolding after_length judge rule_says ruled settled begins
    cut_reads o p bl t len from pay e h (refuse code) q = rw (q, judge) (ap (put (refused (record { at = o; from = from; type = t; len = len }) ∷ [])) (stuck_reads o from (fault code from) pay))
    cut_reads o p bl t len from pay e h (accept u r) q =
        let hd = header (record { at = o; from = from; type = t; len = len }) u ∷ [] in
        rw (q, judge) (sym (put_put hd _ _) ∙ ap (put hd) (short_reads o u [] r bl len from pay e h) ∙ put_put hd _ _)

    frame_reads : {f : ℕ} → Agree G total f → (o : ℕ) (p : G.P) (bl : List Section) (t len from : ℕ) (pay : List ℕ) → length pay ≤ f → from + length pay ≡ total → len ≤ length pay
        → (r : Ruling G.P) → G.rule p t len ≡ r
        → after_length G total o t p bl (got len from pay)
        ≡ judge G total p bl (frame (record { at = o; from = from; type = t; len = len }) (take len pay) (frames_up_to f (from + len) (drop len pay)))
    unfolding after_length judge rule_says ruled settled begins
    frame_reads ih o p bl t len from pay hf e h (refuse code) q = rw (q, judge) (ap (put (refused (record { at = o; from = from; type = t; len = len }) ∷ [])) (stuck_reads o from (fault code from) pay))
    frame_reads ih o p bl t len from pay hf e h (accept u r) q =
        let l = length-drop len pay in
        let hd = header (record { at = o; from = from; type = t; len = len }) u ∷ [] in
        let rest = onward_reads ih (completed G u r (take len pay) bl) (from + len) (drop len pay) (omega arith) (omega arith) in
        rw (q, judge) (sym (put_put hd _ _)
        ∙ ap (put hd) (full_reads o u [] r bl len from (from + len) pay refl h ∙ ap (put (told u (take len pay))) rest) ∙ put_put hd _ _)

    payload_reads : {f : ℕ} → Agree G total f → (o : ℕ) (p : G.P) (bl : List Section) (t len from : ℕ) (pay : List ℕ) → length pay ≤ f → from + length pay ≡ total
        → (x : Bool) → ltb (length pay) len ≡ x
        → after_length G total o t p bl (got len from pay) ≡ judge G total p bl (elim x [
          | true ↦ in_frame (record { at = o; from = from; type = t; len = len }) pay
          | false ↦ frame (record { at = o; from = from; type = t; len = len }) (take len pay) (frames_up_to f (from + len) (drop len pay))
        ])
    payload_reads ih o p bl t len from pay hf e true x = cut_reads o p bl t len from pay e (ltb→lt (length pay) len (rw x tt)) (G.rule p t len) refl
    payload_reads ih o p bl t len from pay hf e false x = frame_reads ih o p bl t len from pay hf e (nltb→le (length pay) len (rw x tt)) (G.rule p t len) refl

    length_starts : (o t : ℕ) (p : G.P) (bl : List Section) (at : ℕ) (bs : List ℕ) → at + length bs ≡ total
        → reading G o at (reads bl (in_length t fresh p)) bs ≡ after_length G total o t p bl (integer at bs)
    unfolding reading finish finished next step tells says fed integer after_length
    length_starts o t p bl at [] e = ap (λ n. ending (fault G.cut n)) (omega arith)
    length_starts o t p bl at (b ∷ bs) e = length_reads o t p bl (extra b) (b % 64) (suc at) bs (omega arith)

    type_starts : (p : G.P) (bl : List Section) (at b : ℕ) (bs : List ℕ) → at + length (b ∷ bs) ≡ total
        → reading G at at (reads bl (between p)) (b ∷ bs) ≡ after_type G total at p bl (integer at (b ∷ bs))
    unfolding reading next step settled tells says fed put integer
    type_starts p bl at b bs e = type_reads at p bl (extra b) (b % 64) (suc at) bs (omega arith)

    second_reads : {f : ℕ} → Agree G total f → (o : ℕ) (p : G.P) (bl : List Section) (t here : ℕ) (rest : List ℕ) → length rest ≤ f → here + length rest ≡ total
        → (x : Int) → integer here rest ≡ x
        → after_length G total o t p bl x ≡ judge G total p bl (elim x [
          | cut ↦ Frames.in_header
          | got len from pay ↦ elim (ltb (length pay) len) [
            | true ↦ in_frame (record { at = o; from = from; type = t; len = len }) pay
            | false ↦ frame (record { at = o; from = from; type = t; len = len }) (take len pay) (frames_up_to f (from + len) (drop len pay))
          ]
        ])
    unfolding after_length judge
    second_reads ih o p bl t here rest hf e cut x = refl
    second_reads ih o p bl t here rest hf e (got len from pay) x =
        let l = integer_length here rest x in
        payload_reads ih o p bl t len from pay (omega arith) (omega arith) (ltb (length pay) len) refl

    first_reads : {f : ℕ} → Agree G total f → (p : G.P) (bl : List Section) (at b : ℕ) (bs : List ℕ) → length bs ≤ f → at + length (b ∷ bs) ≡ total
        → (x : Int) → integer at (b ∷ bs) ≡ x → after_type G total at p bl x ≡ judge G total p bl (frames_up_to (suc f) at (b ∷ bs))
    unfolding after_type judge frames_up_to
    first_reads ih p bl at b bs hf e cut x = rw (x, frames_up_to) refl
    first_reads ih p bl at b bs hf e (got t here rest) x =
        let l = integer_length at (b ∷ bs) x in
        let n : here + length rest ≡ total = omega arith in
        rw (x, frames_up_to) (length_starts at t p bl here rest n ∙ second_reads ih at p bl t here rest (omega arith) n (integer here rest) refl)

    pub bridge : (fuel : ℕ) → Agree G total fuel
    unfolding frames_up_to judge
    bridge zero at [] p bl h e = let n : at ≡ total = omega arith in rw n (unfold reading finished finish in refl)
    bridge zero at (b ∷ bs) p bl h e = absurd (omega arith)
    bridge (suc f) at [] p bl h e = let n : at ≡ total = omega arith in rw n (unfold reading finished finish in refl)
    bridge (suc f) at (b ∷ bs) p bl h e =
        type_starts p bl at b bs e ∙ first_reads (bridge f) p bl at b bs (omega arith) e (integer at (b ∷ bs)) refl

-- frames from an offset on
pub by_bytes_from : (G : Grammar) (at total : ℕ) (bl : List Section) (bs : List ℕ) → at + length bs ≡ total
    → reading G at at (fresh_run G bl) bs ≡ read_from G at total bl bs
unfolding read_from frames_from
by_bytes_from G at total bl bs e = bridge G total (length bs) at bs G.start bl (omega arith) e

-- DEMAND 2 (the definition's half): a byte at a time, the same sayings and verdict as the whole reading.
pub by_bytes : (G : Grammar) (bl : List Section) (bs : List ℕ) → reading G 0 0 (fresh_run G bl) bs ≡ read G bl bs
unfolding read
by_bytes G bl bs = by_bytes_from G 0 (length bs) bl bs (omega arith)
