-- The numbers that the code gives headers are those of the rules: a law for each answer. Assumes nothing.
use Rattle.std.specs.Prelude.{◌≡◌, Bool, ◌||◌, eqb}
use Rattle.std.proofs.Math.Path.{refl, ap}
use Rattle.std.proofs.Common.{◌∙◌, lt-ltb, le-ltb, ne_eqb}
use Prim.Native.Nat.{ℕ, zero, suc, ◌+◌, ◌≤◌, ◌<◌}
use native.Mathlib.Omega.{arith}
use Rattle.std.proofs.Math.Bool.{true, false}
use Rattle.std.proofs.Math.Option.{none, some}
use Rattle.std.proofs.Math.Dec.{ltb}
use Rattle.rules.specs.Numbers.{FRAME-UNEXPECTED, FRAME-ERROR, EXCESSIVE-LOAD, MISSING-SETTINGS, REQUEST-CANCELLED, MESSAGE-ERROR, of_stream, of_connection, request_cancelled, message_error, frame_unexpected, frame_error, excessive_load, missing_settings}
use Rattle.rules.specs.Reading.{Kept, refuse, accept, Ruling}
use Rattle.rules.specs.Message.{content_limit, Message, opening, body, trailed}
use Rattle.rules.specs.Request.{headers_limit, rule as request_rule}
use Rattle.rules.specs.Control.{Control, unset, set, no_settings, settings_limit, one_integer, rule_for, rule as control_rule}
use Rattle.rules.specs.Legal.{Unknown}
use Rattle.meaning.specs.Hom.{map_ruling}
use Rattle.meaning.specs.MessageLaws.{Fits, carry_goes}
use Rattle.meaning.specs.RequestLaws.{rule_unknown, rule_data, rule_header, rule_trailers, rule_forbidden, rule_thirteen, rule_early_data, rule_late_data, rule_past_stated, rule_past_limit, rule_long_header, rule_long_trailers, rule_third}
use Rattle.meaning.specs.ControlLaws.{first_is_settings, control_forbidden, control_unknown, type_of, integer_kind, control_integer, first_fits, first_long}
use Rattle.frames.specs.Modes.{USE-SKIPPED, USE-CONTENT, USE-HEADER-SECTION, USE-TRAILERS, USE-SETTINGS, OPENING, BODY, TRAILED, UNSET}
use Rattle.frames.specs.Both.{of_request, of_control, rule}
use Rattle.frames.specs.Uses.{stated_of, place_of, kept_number, use_number, number_of}

-- a ruling of the request rules, or of the control rules, by its number
request_number : (m : Message) (t len : ℕ) (r : Ruling Message) → request_rule m t len ≡ r → number_of r ≡ number_of (rule (of_request m) t len)
unfolding rule number_of map_ruling
request_number m t len (refuse code) e = rw e refl
request_number m t len (accept u q) e = rw e refl

control_number : (c : Control) (t len : ℕ) (r : Ruling Control) → control_rule c t len ≡ r → number_of r ≡ number_of (rule (of_control c) t len)
unfolding rule number_of map_ruling
control_number c t len (refuse code) e = rw e refl
control_number c t len (accept u q) e = rw e refl

-- ---- DATA behind the header section

stated_none : (has stated : ℕ) → has ≡ 0 → stated_of has stated ≡ none
unfolding stated_of
stated_none has stated e = rw e refl

stated_some : (has stated : ℕ) → (has ≡ 0 → ⊥) → stated_of has stated ≡ some stated
unfolding stated_of
stated_some zero stated n = absurd (n refl)
stated_some (suc h) stated n = refl

module _ (has stated sum len : ℕ) where
  pub past_limit : has ≡ 0 → 1_048_576 < sum + len → REQUEST-CANCELLED ≡ number_of (rule (place_of BODY has stated sum) 0 len)
  unfolding place_of number_of content_limit
  past_limit z h = let e = stated_none has stated z in rw e (request_number (body none sum) 0 len (refuse (of_stream request_cancelled)) (rule_past_limit sum len h))

  pub in_limit : has ≡ 0 → sum + len ≤ 1_048_576 → USE-CONTENT ≡ number_of (rule (place_of BODY has stated sum) 0 len)
  unfolding place_of number_of use_number content_limit Fits
  in_limit z h = let e = stated_none has stated z in rw e (request_number (body none sum) 0 len _ (rule_data (body none sum) len (carry_goes none sum len h)))

  pub past_stated : (has ≡ 0 → ⊥) → stated < sum + len → MESSAGE-ERROR ≡ number_of (rule (place_of BODY has stated sum) 0 len)
  unfolding place_of number_of
  past_stated n h = let e = stated_some has stated n in rw e (request_number (body (some stated) sum) 0 len (refuse (of_stream message_error)) (rule_past_stated stated sum len h))

  pub in_stated : (has ≡ 0 → ⊥) → sum + len ≤ stated → USE-CONTENT ≡ number_of (rule (place_of BODY has stated sum) 0 len)
  unfolding place_of number_of use_number Fits
  in_stated n h = let e = stated_some has stated n in rw e (request_number (body (some stated) sum) 0 len _ (rule_data (body (some stated) sum) len (carry_goes (some stated) sum len h)))

-- ---- the first column

-- what holds of the three phases of a request
phases : (P : ℕ → Type 0) → P OPENING → P BODY → P TRAILED → (phase : ℕ) → phase < UNSET → P phase
phases P a b c zero h = a
phases P a b c (suc zero) h = b
phases P a b c (suc (suc zero)) h = c
phases P a b c (suc (suc (suc k))) h = absurd (omega arith)

abbrev Number : (phase has stated sum t len number : ℕ) → Type 0
Number phase has stated sum t len number = number ≡ number_of (rule (place_of phase has stated sum) t len)

module _ (has stated sum len : ℕ) where
  pub not_data : (phase t : ℕ) → phase < UNSET → t ≡ 0 → (phase ≡ BODY → ⊥) → Number phase has stated sum t len FRAME-UNEXPECTED
  unfolding place_of number_of
  not_data phase t h z n = rw z (phases (λ x. (x ≡ BODY → ⊥) → Number x has stated sum 0 len FRAME-UNEXPECTED)
      (λ n. request_number opening 0 len (refuse (of_connection frame_unexpected)) (rule_early_data len))
      (λ n. absurd (n refl))
      (λ n. request_number (trailed (stated_of has stated) sum) 0 len (refuse (of_connection frame_unexpected)) (rule_late_data (stated_of has stated) sum len)) phase h n)

  pub third : (phase t : ℕ) → phase ≡ TRAILED → t ≡ 1 → Number phase has stated sum t len FRAME-UNEXPECTED
  unfolding place_of number_of
  third phase t e z = rw (e, z) (request_number (trailed (stated_of has stated) sum) 1 len (refuse (of_connection frame_unexpected)) (rule_third (stated_of has stated) sum len))

  pub too_long : (phase t : ℕ) → phase < UNSET → t ≡ 1 → (phase ≡ TRAILED → ⊥) → 16_384 < len → Number phase has stated sum t len EXCESSIVE-LOAD
  unfolding place_of number_of headers_limit
  too_long phase t h z n l = rw z (phases (λ x. (x ≡ TRAILED → ⊥) → Number x has stated sum 1 len EXCESSIVE-LOAD)
      (λ n. request_number opening 1 len (refuse (of_connection excessive_load)) (rule_long_header len l))
      (λ n. request_number (body (stated_of has stated) sum) 1 len (refuse (of_connection excessive_load)) (rule_long_trailers (stated_of has stated) sum len l))
      (λ n. absurd (n refl)) phase h n)

  pub a_header : (phase t : ℕ) → phase ≡ OPENING → t ≡ 1 → len ≤ 16_384 → Number phase has stated sum t len USE-HEADER-SECTION
  unfolding place_of number_of use_number headers_limit
  a_header phase t e z l = rw (e, z) (request_number opening 1 len _ (rule_header len l))

  pub a_trailer : (phase t : ℕ) → phase < UNSET → t ≡ 1 → (phase ≡ TRAILED → ⊥) → (phase ≡ OPENING → ⊥) → len ≤ 16_384 → Number phase has stated sum t len USE-TRAILERS
  unfolding place_of number_of use_number headers_limit
  a_trailer phase t h z n o l = let e : phase ≡ BODY = omega arith in rw (e, z) (request_number (body (stated_of has stated) sum) 1 len _ (rule_trailers (stated_of has stated) sum len l))

  -- whatever the place
  any_request : (t number : ℕ) → ((m : Message) → number ≡ number_of (rule (of_request m) t len)) → (phase : ℕ) → phase < UNSET → Number phase has stated sum t len number
  unfolding place_of
  any_request t number f = phases (λ x. Number x has stated sum t len number) (f opening) (f (body (stated_of has stated) sum)) (f (trailed (stated_of has stated) sum))

  pub low : (phase t : ℕ) → phase < UNSET → (t ≡ 0 → ⊥) → (t ≡ 1 → ⊥) → t < 10 → Number phase has stated sum t len FRAME-UNEXPECTED
  unfolding number_of
  low phase t h n0 n1 l = any_request t FRAME-UNEXPECTED (λ m. request_number m t len (refuse (of_connection frame_unexpected)) (rule_forbidden m t len (omega arith) l)) phase h

  pub thirteen : (phase t : ℕ) → phase < UNSET → t ≡ 13 → Number phase has stated sum t len FRAME-UNEXPECTED
  unfolding number_of
  thirteen phase t h e = rw e (any_request 13 FRAME-UNEXPECTED (λ m. request_number m 13 len (refuse (of_connection frame_unexpected)) (rule_thirteen m len)) phase h)

  pub other : (phase t : ℕ) → phase < UNSET → 10 ≤ t → (t ≡ 13 → ⊥) → Number phase has stated sum t len USE-SKIPPED
  unfolding number_of use_number Unknown
  other phase t h l n = any_request t USE-SKIPPED (λ m. request_number m t len _ (rule_unknown m t len (l, n))) phase h

-- ---- the second column

unfoldable pub one_of : (len number : ℕ) → ℕ
one_of len number = elim (eqb len 0 || ltb 8 len) [ true ↦ FRAME-ERROR | false ↦ number ]

pub one_empty : (len number : ℕ) → len ≡ 0 → FRAME-ERROR ≡ one_of len number
unfolding one_of
one_empty len number e = rw e refl

pub one_long : (len number : ℕ) → (len ≡ 0 → ⊥) → 8 < len → FRAME-ERROR ≡ one_of len number
unfolding one_of
one_long len number n h =
    let a = ne_eqb len 0 n in
    let b = lt-ltb 8 len h in
    let e : (eqb len 0 || ltb 8 len) ≡ true = rw (a, b) refl in
    rw (e, one_of)

pub one_fits : (len number : ℕ) → (len ≡ 0 → ⊥) → len ≤ 8 → number ≡ one_of len number
unfolding one_of
one_fits len number n h =
    let a = ne_eqb len 0 n in
    let b = le-ltb 8 len h in
    let e : (eqb len 0 || ltb 8 len) ≡ false = rw (a, b) refl in
    rw (e, one_of)

module _ (len : ℕ) where
  set_place : (phase : ℕ) → UNSET ≤ phase → (phase ≡ UNSET → ⊥) → place_of phase 0 0 0 ≡ of_control (set no_settings none none)
  unfolding place_of
  set_place zero h n = absurd (omega arith)
  set_place (suc zero) h n = absurd (omega arith)
  set_place (suc (suc zero)) h n = absurd (omega arith)
  set_place (suc (suc (suc zero))) h n = absurd (n refl)
  set_place (suc (suc (suc (suc k)))) h n = refl

  pub first_long_number : (phase t : ℕ) → phase ≡ UNSET → t ≡ 4 → 256 < len → Number phase 0 0 0 t len EXCESSIVE-LOAD
  unfolding place_of number_of settings_limit
  first_long_number phase t e z h = rw (e, z) (control_number unset 4 len (refuse (of_connection excessive_load)) (first_long len h))

  pub first_number : (phase t : ℕ) → phase ≡ UNSET → t ≡ 4 → len ≤ 256 → Number phase 0 0 0 t len USE-SETTINGS
  unfolding place_of number_of use_number kept_number settings_limit
  first_number phase t e z h = rw (e, z) (control_number unset 4 len _ (first_fits len h))

  pub not_settings : (phase t : ℕ) → phase ≡ UNSET → (t ≡ 4 → ⊥) → Number phase 0 0 0 t len MISSING-SETTINGS
  unfolding place_of number_of
  not_settings phase t e n = rw e (control_number unset t len (refuse (of_connection missing_settings)) (first_is_settings t len (ne_eqb t 4 n)))

  integer_number : (k : Kept) (c : Control) (number : ℕ) → number ≡ kept_number k → (x : Bool)
      → (elim x as (λ y. ℕ) [ true ↦ FRAME-ERROR | false ↦ number ]) ≡ number_of {P = Control} (elim x as (λ y. Ruling Control) [ true ↦ refuse (of_connection frame_error) | false ↦ accept (Rattle.rules.specs.Reading.kept k) c ])
  unfolding number_of use_number
  integer_number k c number e true = refl
  integer_number k c number e false = e

  pub integer_frame : (k : Kept) (phase t number : ℕ) → integer_kind k ≡ one_integer k → UNSET ≤ phase → (phase ≡ UNSET → ⊥) → t ≡ type_of k → number ≡ kept_number k
      → Number phase 0 0 0 t len (one_of len number)
  unfolding one_of rule_for
  integer_frame k phase t number ik h n z e =
      let c = set no_settings none none in
      let p = set_place phase h n in
      rw (p, z) (integer_number k c number e (eqb len 0 || ltb 8 len)
      ∙ control_number c (type_of k) len _ (control_integer no_settings none none len k ∙ ap (λ x. rule_for x c len) ik))

  pub control_low : (phase t : ℕ) → UNSET ≤ phase → (phase ≡ UNSET → ⊥) → (t ≡ 7 → ⊥) → (t ≡ 3 → ⊥) → t < 10 → Number phase 0 0 0 t len FRAME-UNEXPECTED
  unfolding number_of
  control_low phase t h n n7 n3 l =
      let p = set_place phase h n in
      rw p (control_number (set no_settings none none) t len (refuse (of_connection frame_unexpected)) (control_forbidden no_settings none none len t l n3 n7))

  pub control_other : (phase t : ℕ) → UNSET ≤ phase → (phase ≡ UNSET → ⊥) → 10 ≤ t → (t ≡ 13 → ⊥) → Number phase 0 0 0 t len USE-SKIPPED
  unfolding number_of use_number Unknown
  control_other phase t h n l n13 =
      let p = set_place phase h n in
      rw p (control_number (set no_settings none none) t len _ (control_unknown no_settings none none len t (l, n13)))

pub control_place : (phase has stated sum t len : ℕ) → UNSET ≤ phase → number_of (rule (place_of phase 0 0 0) t len) ≡ number_of (rule (place_of phase has stated sum) t len)
unfolding place_of
control_place zero has stated sum t len h = absurd (omega arith)
control_place (suc zero) has stated sum t len h = absurd (omega arith)
control_place (suc (suc zero)) has stated sum t len h = absurd (omega arith)
control_place (suc (suc (suc zero))) has stated sum t len h = refl
control_place (suc (suc (suc (suc k)))) has stated sum t len h = refl

pub is_data : (has stated sum len phase t : ℕ) → phase ≡ BODY → t ≡ 0 → number_of (rule (place_of BODY has stated sum) 0 len) ≡ number_of (rule (place_of phase has stated sum) t len)
is_data has stated sum len phase t e z = rw (e, z) refl
