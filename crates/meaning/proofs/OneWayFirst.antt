-- A FAULT OF A ONE-WAY STREAM'S BYTES is the last word: what follows does not matter; and where the stream was not refused there is none among its
-- bytes. Assumes nothing.
use Rattle.std.proofs.Math.Path.{◌≡◌, refl, sym, ap}
use Rattle.std.proofs.Common.{◌∙◌, subst}
use Prim.Native.Nat.{ℕ, suc, ◌+◌}
use native.Mathlib.Omega.{arith}
use mathlib.Core.List.{List, [], ◌∷◌, ◌++◌, append-nil, append_assoc}
use Rattle.std.specs.Prelude.{Bool, true, false}
use Rattle.std.proofs.Math.ListN.{length, length-append}
use Rattle.rules.specs.Numbers.{Code, of_connection, stream_creation_error}
use Rattle.rules.specs.Text.{is_one_of, lookup}
use Rattle.rules.specs.Reading.{Saying, Verdict, whole, fault, waits, ended}
use Rattle.rules.specs.Integers.{Int, cut, got, more, integer}
use Rattle.rules.specs.Control.{Control, unset, control}
use Rattle.rules.specs.OneWay.{encoder, decoder, Kind, a_control, a_qpack, skipped, Typed, refuse, is, once, type_rule, typed, behind_type, one_way_read}
use Rattle.meaning.specs.IntegerLaws.{integer_length, integer_append}
use Rattle.meaning.specs.Machine.{Prog, fresh, need, State, in_type, in_length, in_payload, due, Outcome, between, supplied, settled, finish, finished, run, next, fresh_run, step}
use Rattle.meaning.proofs.Cut.{run_append, read_from_is}
use Rattle.meaning.specs.TextLaws.{lookup_view, lookup_absent}
use Rattle.meaning.specs.First.{place_of}
use Rattle.meaning.proofs.First.{stuck_run}
use Rattle.meaning.specs.OneWayFeed.{OneState, lives, dies, Call, nothing_done, calls}
use Rattle.meaning.specs.OneWays.{resumed, Holds, h_type, h_refused, h_control, h_died, h_qpack, h_skipped}
use Rattle.meaning.proofs.OneWays.{calls_hold, first_holds}
use Rattle.meaning.specs.OneWayFirst.{verdict_on, RefusedToo, SameToo, FaultAt, Struck, NoFault, Alike}

-- ---- DEFINITION

module _ (seen : List ℕ) where
  -- ---- one fault only

  no_more : (x more : List ℕ) → length (x ++ more) ≡ length x → more ≡ []
  no_more x [] e = refl
  no_more x (b ∷ more) e = let l = length-append x (b ∷ more) in absurd (omega arith)

  same_fault : (v : Verdict) (j k : Code) (p q : ℕ) → v ≡ fault j p → v ≡ fault k q → (j ≡ k) × (p ≡ q)
  same_fault v j k p q e f = (cc, cc)

  -- a fault of the bytes is one of all that begins with them
  pub goes_on : (k : Code) (place : ℕ) (x more : List ℕ) → FaultAt seen k place x → FaultAt seen k place (x ++ more)
  goes_on k place x more f = λ rest. rw (append_assoc x more rest) (f (more ++ rest))

  -- no two are brought at different bytes
  pub one_fault : (j k : Code) (w more : List ℕ) → Struck seen j w → Struck seen k (w ++ more) → (j ≡ k) × (more ≡ [])
  one_fault j k w more a b =
      let x = w ++ more in
      let c : verdict_on (one_way_read seen x) ≡ fault k (length x) = rw (append-nil x) at (b []) in
      let s = same_fault (verdict_on (one_way_read seen x)) j k (length w) (length x) (a more) c in
      (s.0, no_more w more (sym s.1))

  -- ---- what is reached

  -- frames behind a type, whatever follows them
  control_verdict : (bytes more : List ℕ) {t at : ℕ} {rest : List ℕ} → integer 0 bytes ≡ got t at rest → type_rule seen t ≡ is a_control
      → verdict_on (one_way_read seen (bytes ++ more)) ≡ finished control (length (bytes ++ more)) (run control (length bytes) (run control at (fresh_run control []) rest) more)
  unfolding one_way_read behind_type typed verdict_on
  control_verdict bytes more {t} {at} {rest} e r =
      let all = bytes ++ more in
      let i = integer_length 0 bytes e in
      let n : at + length rest ≡ length bytes = omega arith in
      let g = integer_append 0 bytes more e in
      let j = integer_length 0 all g in
      let m : at + length (rest ++ more) ≡ length all = omega arith in
      rw (g, behind_type, r) (ap (λ x. x.verdict) (read_from_is control at (length all) [] (rest ++ more) m) ∙ ap (finished control (length all)) (run_append control at (length bytes) (fresh_run control []) rest more n))

  struck : {bytes : List ℕ} {frames : List Saying} {qpack : List ℕ} {heads : ℕ} {code : Code} → Holds seen bytes frames qpack heads (dies code) → Struck seen code bytes
  unfolding one_way_read behind_type typed verdict_on settled finished
  struck {bytes} (h_refused e r f q n) = λ more. (let g = integer_append 0 bytes more e in rw (g, behind_type, r) refl)
  struck {bytes} {code = code} (h_died e r c q) = λ more. (
      let k = stuck_run control (length bytes) (fault code (length bytes)) more in
      control_verdict bytes more e r ∙ ap (λ x. finished control (length (bytes ++ more)) (run control (length bytes) x more)) (sym c.state) ∙ ap (finished control (length (bytes ++ more))) k)

  -- ---- and none

  -- a verdict that ends here, or that the byte before brought, is here
  here : (n : ℕ) (o : Outcome Control) → place_of (finished control n (settled control n [] o)) ≡ n
  unfolding settled supplied finished finish ended place_of
  here n (Outcome.dies code) = refl
  here n (Outcome.lives (in_type fresh c)) = refl
  here n (Outcome.lives (in_type (need k v) c)) = refl
  here n (Outcome.lives (in_length t g c)) = refl
  here n (Outcome.lives (in_payload u k left c)) = refl
  here n (Outcome.lives (due t c)) = refl

  fault_here : (n : ℕ) (o : Outcome Control) (code : Code) (place : ℕ) → finished control n (settled control n [] o) ≡ fault code place → place ≡ n
  fault_here n o code place e = sym (ap place_of e ∙ unfold place_of in refl) ∙ here n o

  -- so one byte more moves it
  moves_on : (n : ℕ) (s : State Control) (code : Code) (place : ℕ) → finished control (suc n) (run control n (settled control n [] (Outcome.lives s)) (0 ∷ [])) ≡ fault code place → place ≡ suc n
  unfolding settled supplied run next
  moves_on n (in_type g c) code place e = fault_here (suc n) (step control (in_type g c) 0) code place e
  moves_on n (in_length t g c) code place e = fault_here (suc n) (step control (in_length t g c) 0) code place e
  moves_on n (in_payload u k left c) code place e = fault_here (suc n) (step control (in_payload u k left c) 0) code place e
  moves_on n (due t c) code place e = let z : waits n ≡ fault code place = unfold finished in e in let y : ◌≡◌ {A = ℕ} 0 1 = cc in absurd (omega arith)

  not_whole : (code : Code) (place : ℕ) → whole ≡ fault code place → ⊥
  not_whole code place e = let z : ◌≡◌ {A = ℕ} 0 1 = cc in omega arith

  no_bytes : (g : Prog) (at : ℕ) → resumed g at [] ≡ cut
  unfolding resumed integer more
  no_bytes fresh at = refl
  no_bytes (need k v) at = refl

  -- of these bytes alone
  alone : (code : Code) (place : ℕ) (bytes : List ℕ) → FaultAt seen code place bytes → verdict_on (one_way_read seen bytes) ≡ fault code place
  alone code place bytes f = rw (append-nil bytes) at (f [])

  control_unhurt : (bytes : List ℕ) (s : State Control) {t at : ℕ} {rest : List ℕ} → integer 0 bytes ≡ got t at rest → type_rule seen t ≡ is a_control
      → settled control (length bytes) [] (Outcome.lives s) ≡ run control at (fresh_run control []) rest → NoFault seen bytes
  unfolding run
  control_unhurt bytes s e r c code place x =
      let n = length bytes in
      let l = length-append bytes (0 ∷ []) in
      let m : length (bytes ++ (0 ∷ [])) ≡ suc n = omega arith in
      let a = ap (finished control n) c ∙ sym (rw (append-nil bytes) at (control_verdict bytes [] e r)) ∙ alone code place bytes x in
      let b = ap (λ z. finished control (suc n) (run control n z (0 ∷ []))) c ∙ sym (rw m at (control_verdict bytes (0 ∷ []) e r)) ∙ x (0 ∷ []) in
      let y = fault_here n (Outcome.lives s) code place a in
      let z = moves_on n s code place b in
      omega arith

  unhurt : {bytes : List ℕ} {frames : List Saying} {qpack : List ℕ} {heads : ℕ} {s : OneState} → Holds seen bytes frames qpack heads (lives s) → NoFault seen bytes
  unfolding one_way_read behind_type typed verdict_on
  unhurt {bytes} (h_type {g = g} h f q n) = λ code place x. (
      let e : integer 0 bytes ≡ cut = rw (append-nil bytes) at (h [] ∙ no_bytes g (length bytes)) in
      not_whole code place (rw (e, behind_type) at (alone code place bytes x)))
  unhurt {bytes} (h_control {s = s} e r c q) = control_unhurt bytes s e r c.state
  unhurt {bytes} (h_qpack e r f n) = λ code place x. not_whole code place (rw (e, behind_type, r) at (alone code place bytes x))
  unhurt {bytes} (h_skipped e r f q n) = λ code place x. not_whole code place (rw (e, behind_type, r) at (alone code place bytes x))

  -- ---- whatever the feeds

  -- A STREAM THAT WAS REFUSED was so for a fault that the last byte consumed brings
  pub calls_struck : (cs : List Call) (code : Code) → (calls seen nothing_done cs).after ≡ dies code → Struck seen code (calls seen nothing_done cs).bytes
  calls_struck cs code e =
      let d = calls seen nothing_done cs in struck (subst (Holds seen d.bytes d.frames d.qpack d.heads) e (calls_hold seen nothing_done cs (first_holds seen)))

  -- and ONE THAT WAS NOT has none among its bytes
  pub calls_unhurt : (cs : List Call) (s : OneState) → (calls seen nothing_done cs).after ≡ lives s → NoFault seen (calls seen nothing_done cs).bytes
  calls_unhurt cs s e =
      let d = calls seen nothing_done cs in unhurt (subst (Holds seen d.bytes d.frames d.qpack d.heads) e (calls_hold seen nothing_done cs (first_holds seen)))

-- ---- the types that came before matter for the type alone

once_fresh : (seen : List ℕ) (t n : ℕ) (k : Kind) → RefusedToo seen t (once [] n k)
unfolding once is_one_of
once_fresh seen t n k = tt

push_refused : (seen : List ℕ) (t : ℕ) → t ≡ 1 → type_rule seen t ≡ refuse (of_connection stream_creation_error)
unfolding type_rule lookup
push_refused seen t e = rw e refl

refused_too : (seen : List ℕ) (t : ℕ) → RefusedToo seen t (type_rule [] t)
refused_too seen t =
    unfold type_rule in (lookup_view t (RefusedToo seen t) _ (is skipped) ((λ e. once_fresh seen t 0 a_control), ((λ e. push_refused seen t e), ((λ e. once_fresh seen t 2 (a_qpack encoder)), ((λ e. once_fresh seen t 3 (a_qpack decoder)), tt)))) (λ a. tt))

once_too : (seen : List ℕ) (t n : ℕ) (k : Kind) → type_rule [] t ≡ is k → SameToo t (once seen n k)
unfolding once
once_too seen t n k e = go (is_one_of seen n)
  where
    go : (x : Bool) → SameToo t (elim x [ true ↦ refuse (of_connection stream_creation_error) | false ↦ is k ])
    go true = tt
    go false = e

rows : (type_rule [] 0 ≡ is a_control) × (type_rule [] 2 ≡ is (a_qpack encoder)) × (type_rule [] 3 ≡ is (a_qpack decoder))
unfolding type_rule lookup once is_one_of
rows = (refl, refl, refl)

same_too : (seen : List ℕ) (t : ℕ) → SameToo t (type_rule seen t)
unfolding type_rule
same_too seen t =
    lookup_view t (SameToo t) _ (is skipped)
    ((λ e. once_too seen t 0 a_control (rw e rows.0)), ((λ e. tt), ((λ e. once_too seen t 2 (a_qpack encoder) (rw e rows.1)), ((λ e. once_too seen t 3 (a_qpack decoder) (rw e rows.2)), tt))))
    (λ a. lookup_absent t _ (is skipped) a)

module _ (seen w : List ℕ) (j k : Code) (place : ℕ) (struck-there : Struck seen j w) (fault-alone : FaultAt [] k place w) where
  -- the last of the bytes is the type's
  at_type : {t at : ℕ} {rest : List ℕ} → integer 0 w ≡ got t at rest → at ≡ length w → rest ≡ []
  at_type {rest = []} e n = refl
  at_type {at = at} {rest = b ∷ rest} e n = let i = integer_length 0 w e in absurd (omega arith)

  when_refused : {t at : ℕ} {rest : List ℕ} (c : Code) → integer 0 w ≡ got t at rest → (j ≡ c) × (length w ≡ at) → (x : Typed) → type_rule [] t ≡ x → RefusedToo seen t x → type_rule seen t ≡ refuse c → Alike seen w j k place struck-there fault-alone
  unfolding one_way_read behind_type typed verdict_on settled supplied run
  when_refused {t} {at} c e h (refuse code) r q y =
      let d : refuse c ≡ refuse code = sym y ∙ q in
      let g : fault code at ≡ fault k place = rw (e, behind_type, r) at (alone [] k place w fault-alone) in
      (cc, cc)
  when_refused {t} {at} c e h (is a_control) r q y = absurd (control_unhurt [] w (between unset) (e ∙ ap (got t at) (at_type e (sym h.1))) r refl k place fault-alone)
  when_refused c e h (is (a_qpack x)) r q y = absurd (not_whole [] k place (rw (e, behind_type, r) at (alone [] k place w fault-alone)))
  when_refused c e h (is skipped) r q y = absurd (not_whole [] k place (rw (e, behind_type, r) at (alone [] k place w fault-alone)))

  by_type : {t at : ℕ} {rest : List ℕ} → integer 0 w ≡ got t at rest → (y : Typed) → type_rule seen t ≡ y → SameToo t y → Alike seen w j k place struck-there fault-alone
  unfolding one_way_read behind_type typed verdict_on
  by_type {t} {at} e (refuse c) y q =
      let g : fault c at ≡ fault j (length w) = rw (e, behind_type, y) at (alone seen j (length w) w struck-there) in
      when_refused c e (cc, cc) (type_rule [] t) refl (refused_too seen t) y
  by_type {t} {at} e (is kind) y q =
      let a = rw (e, behind_type, y) at (alone seen j (length w) w struck-there) in
      let b = rw (e, behind_type, q) at (alone [] k place w fault-alone) in
      let s = same_fault [] _ j k (length w) place a b in
      (s.0, sym s.1)

  by_integer : (x : Int) → integer 0 w ≡ x → Alike seen w j k place struck-there fault-alone
  unfolding one_way_read behind_type verdict_on
  by_integer cut e = absurd (not_whole seen j (length w) (rw (e, behind_type) at (alone seen j (length w) w struck-there)))
  by_integer (got t at rest) e = by_type e (type_rule seen t) refl (same_too seen t)

  -- A STREAM REFUSED WHERE SOME TYPES CAME BEFORE, whose bytes have a fault of their own: it is the same one
  pub same_alone : (j ≡ k) × (place ≡ length w)
  same_alone = by_integer (integer 0 w) refl
