-- How the lowest broken check is the rules' reason, and how an answer's reading is what the rules say. Assumes nothing.
use Prim.Native.Nat.{ℕ, zero, suc, ◌<◌}
use Rattle.std.proofs.Math.Path.{◌≡◌, refl, sym, ap}
use Rattle.std.proofs.Common.{◌∙◌, subst, arith, lit<, ltb-false}
use mathlib.Core.List.{List, [], ◌∷◌}
use Rattle.std.specs.Prelude.{Bool, cond, ◌||◌, ◌&&◌, length, get_or}
use Rattle.std.proofs.Math.Bool.{true, false, not}
use Rattle.std.proofs.Math.Option.{Option, none, some}
use Rattle.std.proofs.Math.Dec.{ltb, eqb}
use Rattle.rules.specs.Text.{ascii, any, same}
use Rattle.rules.specs.Numbers.{code_number}
use Rattle.rules.specs.Block.{Section, Lines, unreadable, readable, lines}
use Rattle.rules.specs.Section as rules
use Rattle.rules.specs.Section.{Reason, code_of, Check, Judgement, refused, sound, Head, is_empty, begins, holds, is_upload, uploads, uploading, decimal, decimal_from, named, has, value_of, method_of, stated_in, unless, first_broken, good_path, size, size_limit, length_limit, size_check, bytes_check, unknown_check, repeated_check, late_check, in_trailers_check, connection_check, te_check, method_check, no_method_check, repeated_length_check, length_in_trailers_check, digits_check, length_above_check, repeated_host_check, connect_check, present_check, scheme_check, path_check, authority_check, empty_check, differ_check, at_check, length_check, upload_check, header_checks, trailer_checks, header_section}
use Rattle.fields.specs.Laws.{empty_is}
use Rattle.fields.specs.Walk.{part, is_readable, held}
use Rattle.fields.specs.Lines.{held_is}
use Rattle.fields.specs.Decimal.{capped, capped_below, past}
use Rattle.std.specs.Prelude.{is_some, IsSome}
use Rattle.std.specs.Option.{unwrap_or}
use Rattle.rules.specs.Block.{Line}
use Rattle.section.specs.declared.Name.{Name}
use Rattle.section.specs.declared.Span.{Span}
use Rattle.section.specs.declared.Facts.{Facts}
use Rattle.rules.specs.Named.{reason_named, reason_back}
use Rattle.rules.specs.declared.reasons.Reason.{Reason as NamedReason}
use Rattle.rules.specs.declared.reasons.Reason.TheVariants as reason
use Rattle.std.specs.Prelude.{Option as Maybe, Some, None, Ok, Err}
use Rattle.section.specs.declared.Fault.{Fault}
use Rattle.section.specs.declared.Fault.TheVariants as fault
use Rattle.section.specs.declared.Sound.{Sound}
use Rattle.section.specs.Checks.{checks, lowest, found, lower_of, fill, and_then, told, first_in, first_told, found_some, found_none}
use Rattle.section.specs.Names.{method, scheme, authority, path, host, content_length, name_at}
use Rattle.section.specs.Finding.{first, from_of, to_of}
use Rattle.section.specs.Facts.{row_of, facts_of, walked, place_by, span, span_of, number_in, place_in, length_in, from_in, to_in, value_at, value_in, value_first, there_is}
use Rattle.section.specs.Places.{within, in_block, bytes_are, holds_by}
use Rattle.section.specs.Answer.{HeaderAnswer, TrailerAnswer, method_name, length_name, method_line, stated_of, header_answer_by, header_answer, trailer_answer_by, trailer_answer, judged_number, header_number, trailer_number}

-- ---- what each check says, in its place

unfoldable pub header_row : Section → List Bool
header_row s =
    size_check.broken s
    ∷ bytes_check.broken s
    ∷ unknown_check.broken s ∷ repeated_check.broken s ∷ late_check.broken s ∷ false
    ∷ connection_check.broken s ∷ te_check.broken s
    ∷ method_check.broken s ∷ no_method_check.broken s
    ∷ repeated_length_check.broken s ∷ false ∷ digits_check.broken s ∷ length_above_check.broken s
    ∷ repeated_host_check.broken s
    ∷ connect_check.broken s
    ∷ present_check.broken s
    ∷ scheme_check.broken s
    ∷ path_check.broken s
    ∷ authority_check.broken s ∷ empty_check.broken s ∷ differ_check.broken s ∷ at_check.broken s
    ∷ length_check.broken s
    ∷ upload_check.broken s
    ∷ []

unfoldable pub trailer_row : Section → List Bool
trailer_row s =
    size_check.broken s
    ∷ bytes_check.broken s
    ∷ unknown_check.broken s ∷ repeated_check.broken s ∷ late_check.broken s ∷ in_trailers_check.broken s
    ∷ connection_check.broken s ∷ te_check.broken s
    ∷ method_check.broken s ∷ false
    ∷ repeated_length_check.broken s ∷ length_in_trailers_check.broken s ∷ digits_check.broken s ∷ length_above_check.broken s
    ∷ repeated_host_check.broken s
    ∷ false ∷ false ∷ false ∷ false ∷ false ∷ false ∷ false ∷ false ∷ false ∷ false
    ∷ []

-- ---- the checks that the lines do not settle by themselves

unfoldable pub by_places : Facts → Maybe NamedReason
by_places f =
    lower_of
    (lower_of
    (lower_of
    (lower_of f.first reason.TooLarge (ltb size_limit f.size))
    reason.NoMethod (not (is_some f.method)))
    reason.NoSchemeOrPath (not (is_some f.scheme && is_some f.path)))
    reason.LengthPastLimit (ltb length_limit (unwrap_or f.stated 0))

unfoldable pub is_http : List ℕ → Bool
is_http v = same v (ascii "http") || same v (ascii "https")

unfoldable pub is_path : (path method : List ℕ) → Bool
is_path p m = begins (eqb 0x2f) p || (same (ascii "*") p && same (ascii "OPTIONS") m)

unfoldable pub sends_content : (method : List ℕ) → Bool
sends_content m = (same m (ascii "PUT") || same m (ascii "POST")) || same m (ascii "PATCH")

unfoldable pub by_request : (method scheme path : List ℕ) (stated : Bool) (first : Maybe NamedReason) → Maybe NamedReason
by_request m h p t n =
    lower_of
    (lower_of
    (lower_of
    (lower_of n reason.Connect (same (ascii "CONNECT") m))
    reason.OtherScheme (not (is_http h)))
    reason.BadPath (not (is_path p m)))
    reason.NoLength (sends_content m && not t)

unfoldable pub by_authority : (authority : List ℕ) (given : Bool) (host : List ℕ) (hosted : Bool) (first : Maybe NamedReason) → Maybe NamedReason
by_authority a ta h th n =
    lower_of
    (lower_of
    (lower_of
    (lower_of n reason.NoAuthority (not (ta || th)))
    reason.EmptyAuthority ((ta && eqb (length a) 0) || (th && eqb (length h) 0)))
    reason.AuthoritiesDiffer ((ta && th) && not (same a h)))
    reason.AtInAuthority (any (eqb 0x40) a)

unfoldable pub by_trailers : Facts → Maybe NamedReason
by_trailers f = lower_of (lower_of (lower_of f.first reason.TooLarge (ltb size_limit f.size)) reason.PseudoInTrailers f.pseudo) reason.LengthInTrailers (is_some f.stated)

-- ---- a name is there where it has a value

abbrev is_there : Option (List ℕ) → Bool
is_there none = false
is_there (some v) = true

abbrev value_got : Option Line → Option (List ℕ)
value_got none = none
value_got (some l) = some l.value

module _ (name : List ℕ) where
  first_value : (s : Section) → value_of name s ≡ value_got (first (named name) s)
  unfolding first value_of
  first_value [] = refl
  first_value (l ∷ s) = go (named name l) (first_value s)
    where
      go : (t : Bool) → value_of name s ≡ value_got (first (named name) s)
          → ◌≡◌ {A = Option (List ℕ)} (elim t [ true ↦ some l.value | false ↦ value_of name s ]) (value_got (cond t (some l) (first (named name) s)))
      go true ih = refl
      go false ih = ih

  value_is : {A : Type 0} (pick : Line → A) (s : Section) → is_some (place_by pick (first (named name) s)) ≡ is_there (value_of name s)
  value_is pick s = go (first (named name) s) ∙ ap is_there (sym (first_value s))
    where
      go : (o : Option Line) → is_some (place_by pick o) ≡ is_there (value_got o)
      go none = refl
      go (some l) = refl

empty_is_so : (o : Option (List ℕ)) → (is_there o && eqb (length (method_of o)) 0) ≡ holds is_empty o
unfolding holds method_of
empty_is_so none = refl
empty_is_so (some v) = sym (empty_is v)

differ_so : (o p : Option (List ℕ)) → ((is_there o && is_there p) && not (same (method_of o) (method_of p))) ≡ holds (λ a. holds (λ h. not (same a h)) p) o
unfolding holds method_of
differ_so none p = refl
differ_so (some a) none = refl
differ_so (some a) (some h) = refl

module _ (s : Section) where
  abbrev there : Name → Bool
  there k = is_some (place_in s (name_at k))

  large : ltb size_limit (facts_of s).size ≡ size_check.broken s
  unfolding facts_of size_check size_limit
  large = past size_limit (size s) (lit< tt)

  no_method : not (is_some (facts_of s).method) ≡ no_method_check.broken s
  unfolding facts_of no_method_check
  no_method = ap not (there_is span_of (name_at method) s)

  no_place : not (is_some (facts_of s).scheme && is_some (facts_of s).path) ≡ present_check.broken s
  unfolding facts_of present_check
  no_place = rw (there_is span_of (name_at scheme) s, there_is span_of (name_at path) s)

  stated_value : unwrap_or (length_in s) 0 ≡ capped (decimal (value_at s content_length))
  unfolding decimal decimal_from capped
  stated_value = go (first (named (name_at content_length)) s) ∙ ap (λ v. capped (decimal v)) (sym (value_first (name_at content_length) s))
    where
      go : (o : Option Line) → unwrap_or (place_by number_in o) 0 ≡ capped (decimal (value_in o))
      go none = refl
      go (some l) = refl

  too_long : ltb length_limit (unwrap_or (facts_of s).stated 0) ≡ length_check.broken s
  unfolding facts_of length_check length_limit decimal decimal_from
  too_long = ap (ltb length_limit) stated_value ∙ past length_limit (decimal (value_at s content_length)) (lit< tt) ∙ holds_by (λ v. ltb length_limit (decimal v)) (value_of (name_at content_length) s) refl

  connects : same (ascii "CONNECT") (value_at s method) ≡ connect_check.broken s
  unfolding connect_check ascii same
  connects = holds_by (same (ascii "CONNECT")) (value_of (name_at method) s) refl

  other_scheme : not (is_http (value_at s scheme)) ≡ scheme_check.broken s
  unfolding scheme_check is_http ascii same
  other_scheme = ap not (holds_by (λ v. same v (ascii "http") || same v (ascii "https")) (value_of (name_at scheme) s) refl)

  bad_path : not (is_path (value_at s path) (value_at s method)) ≡ path_check.broken s
  unfolding path_check good_path is_path ascii same begins
  bad_path =
      rw (holds_by (begins (eqb 0x2f)) (value_of (name_at path) s) refl, holds_by (same (ascii "*")) (value_of (name_at path) s) refl, holds_by (same (ascii "OPTIONS")) (value_of (name_at method) s) refl)

  -- a method that is not there is none of the three
  sends_content_lem : (o : Option (List ℕ)) → sends_content (method_of o) ≡ holds is_upload o
  unfolding sends_content is_upload uploads holds method_of any ascii same
  sends_content_lem none = refl
  sends_content_lem (some m) = three (same m (ascii "PUT")) (same m (ascii "POST")) (same m (ascii "PATCH"))
    where
      three : (a b c : Bool) → ((a || b) || c) ≡ (a || (b || (c || false)))
      three true b c = refl
      three false true c = refl
      three false false true = refl
      three false false false = refl

  no_length : (sends_content (value_at s method) && not (is_some (length_in s))) ≡ upload_check.broken s
  unfolding upload_check uploading
  no_length = rw (sends_content_lem (value_of (name_at method) s), there_is number_in (name_at content_length) s)

  no_authority : not (there authority || there host) ≡ authority_check.broken s
  unfolding authority_check
  no_authority = rw (there_is span_of (name_at authority) s, there_is span_of (name_at host) s)

  empties : ((there authority && eqb (length (value_at s authority)) 0) || (there host && eqb (length (value_at s host)) 0)) ≡ empty_check.broken s
  unfolding empty_check
  empties = rw (value_is (name_at authority) span_of s, value_is (name_at host) span_of s, empty_is_so (value_of (name_at authority) s), empty_is_so (value_of (name_at host) s))

  differs : ((there authority && there host) && not (same (value_at s authority) (value_at s host))) ≡ differ_check.broken s
  unfolding differ_check
  differs = rw (value_is (name_at authority) span_of s, value_is (name_at host) span_of s) (differ_so (value_of (name_at authority) s) (value_of (name_at host) s))

  at_sign : any (eqb 0x40) (value_at s authority) ≡ at_check.broken s
  unfolding at_check any
  at_sign = holds_by (any (eqb 0x40)) (value_of (name_at authority) s) refl

  first_is : (facts_of s).first ≡ found (lowest (row_of s))
  unfolding facts_of
  first_is = refl

  pub header_lowest : by_authority (value_at s authority) (there authority) (value_at s host) (there host)
      (by_request (value_at s method) (value_at s scheme) (value_at s path) (is_some (length_in s)) (by_places (facts_of s)))
      ≡ found (lowest (header_row s))
  unfolding by_authority by_request by_places header_row row_of fill
  header_lowest =
      and_then _ reason.AtInAuthority (at_check.broken s)
      (and_then _ reason.AuthoritiesDiffer (differ_check.broken s)
      (and_then _ reason.EmptyAuthority (empty_check.broken s)
      (and_then _ reason.NoAuthority (authority_check.broken s)
      (and_then _ reason.NoLength (upload_check.broken s)
      (and_then _ reason.BadPath (path_check.broken s)
      (and_then _ reason.OtherScheme (scheme_check.broken s)
      (and_then _ reason.Connect (connect_check.broken s)
      (and_then _ reason.LengthPastLimit (length_check.broken s)
      (and_then _ reason.NoSchemeOrPath (present_check.broken s)
      (and_then _ reason.NoMethod (no_method_check.broken s)
      (and_then (row_of s) reason.TooLarge (size_check.broken s) first_is
      (lit< tt) refl large)
      (lit< tt) refl no_method)
      (lit< tt) refl no_place)
      (lit< tt) refl too_long)
      (lit< tt) refl connects)
      (lit< tt) refl other_scheme)
      (lit< tt) refl bad_path)
      (lit< tt) refl no_length)
      (lit< tt) refl no_authority)
      (lit< tt) refl empties)
      (lit< tt) refl differs)
      (lit< tt) refl at_sign

  in_trailers : (facts_of s).pseudo ≡ in_trailers_check.broken s
  unfolding facts_of in_trailers_check
  in_trailers = refl

  stated_there : is_some (facts_of s).stated ≡ length_in_trailers_check.broken s
  unfolding facts_of length_in_trailers_check
  stated_there = there_is number_in (name_at content_length) s

  trailer_lowest : by_trailers (facts_of s) ≡ found (lowest (trailer_row s))
  unfolding by_trailers trailer_row row_of fill
  trailer_lowest =
      and_then _ reason.LengthInTrailers (length_in_trailers_check.broken s)
      (and_then _ reason.PseudoInTrailers (in_trailers_check.broken s)
      (and_then (row_of s) reason.TooLarge (size_check.broken s) first_is (lit< tt) refl large)
      (lit< tt) refl in_trailers)
      (lit< tt) refl stated_there

  -- so the number says the rules' reason
  header_first : first_broken header_checks s ≡ told checks (lowest (header_row s))
  unfolding first_broken header_checks checks header_row first_in
  header_first = first_told checks (header_row s) refl

  trailer_first : first_broken trailer_checks s ≡ told checks (lowest (trailer_row s))
  unfolding first_broken trailer_checks checks trailer_row first_in
  trailer_first = first_told checks (trailer_row s) refl

  -- where no check is broken, each one passed
  passed : (cs : List Check) (i : ℕ) (d : Check) → i < length cs → first_broken cs s ≡ none → (get_or cs i d).broken s ≡ false
  unfolding first_broken
  passed [] i d h e = absurd (omega arith)
  passed (c ∷ cs) zero d h e = go (c.broken s) e
    where
      go : (t : Bool) → ◌≡◌ {A = Option Reason} (elim t [ true ↦ some c.reason | false ↦ first_broken cs s ]) none → t ≡ false
      go true f = let z : ◌≡◌ {A = ℕ} 0 1 = cc in absurd (omega arith)
      go false f = refl
  passed (c ∷ cs) (suc i) d h e = passed cs i d (omega arith) (go (c.broken s) e)
    where
      go : (t : Bool) → ◌≡◌ {A = Option Reason} (elim t [ true ↦ some c.reason | false ↦ first_broken cs s ]) none → first_broken cs s ≡ none
      go true f = let z : ◌≡◌ {A = ℕ} 0 1 = cc in absurd (omega arith)
      go false f = f

  pub length_passed : first_broken header_checks s ≡ none → length_check.broken s ≡ false
  unfolding header_checks
  length_passed e = passed header_checks 21 length_check (lit< tt) e

  -- and a sound upload states its length
  pub upload_states : first_broken header_checks s ≡ none → uploading s ≡ true → (n : ℕ) × (stated_in (value_of length_name s) ≡ some n)
  unfolding header_checks upload_check stated_in
  upload_states e u =
      let b : (uploading s && not (has length_name s)) ≡ false = passed header_checks 22 upload_check (lit< tt) e in
      let t : not (has length_name s) ≡ false = rw u at b in
      by (value_of length_name s) (ap not (sym (value_is length_name number_in s) ∙ there_is number_in length_name s) ∙ t)
    where
      by : (o : Option (List ℕ)) → not (is_there o) ≡ false → (n : ℕ) × (stated_in o ≡ some n)
      by none t = let z : ◌≡◌ {A = ℕ} 0 1 = cc in absurd (omega arith)
      by (some v) t = (decimal v, refl)

-- the length that a section states, within the limit, is kept as it is
stated_is : (s : Section) → length_check.broken s ≡ false → (facts_of s).stated ≡ stated_of (stated_in (value_of length_name s))
unfolding facts_of length_check length_limit holds stated_in
stated_is s e = rw (first_value length_name s) (go (first (named length_name) s) (sym (ap (holds (λ v. ltb length_limit (decimal v))) (first_value length_name s)) ∙ e))
  where
    go : (o : Option Line) → holds (λ v. ltb length_limit (decimal v)) (value_got o) ≡ false → place_by number_in o ≡ stated_of (stated_in (value_got o))
    go none e = refl
    go (some l) e = let h = ltb-false length_limit (decimal l.value) e in ap Some (capped_below (decimal l.value) (omega arith))

-- where a method is kept, it is where the answer says
ends_are : (o : Option Line) (p : Span) → place_by span_of o ≡ Some p → (from_of o ≡ p.from) × (to_of o ≡ p.to)
unfolding from_of to_of
ends_are none p e = let z : ◌≡◌ {A = ℕ} 0 1 = cc in absurd (omega arith)
ends_are (some l) p e = let g : span_of l ≡ p = cc in (ap (λ (q : Span). q.from) g, ap (λ (q : Span). q.to) g)

-- ---- the answer is the rules' own

-- what a sound header section says
abbrev pub says : Section → Head
says s = record { method = method_of (value_of method_name s); stated = stated_in (value_of length_name s) }

module _ (s : Section) where
  by_first : {o : Option Reason} → first_broken header_checks s ≡ o → header_answer_by s (unless o (says s)) ≡ header_answer (readable s)
  unfolding header_answer header_section
  by_first e = sym (ap (λ x. header_answer_by s (unless x (says s))) e)

  by_first' : {o : Option Reason} → first_broken trailer_checks s ≡ o → trailer_answer_by (unless o tt) ≡ trailer_answer (readable s)
  unfolding trailer_answer rules.trailers
  by_first' e = sym (ap (λ x. trailer_answer_by (unless x tt)) e)

  module _ (r : NamedReason) where
    pub header_refused : Some r ≡ found (lowest (header_row s)) → Err (fault.Refused r) ≡ header_answer (readable s)
    unfolding header_answer_by unless
    header_refused e = let f = found_some _ r e in ap (λ x. Err (fault.Refused x)) (sym f.1) ∙ by_first (header_first s ∙ f.0)

    pub trailers_refused : Some r ≡ by_trailers (facts_of s) → Err (fault.Refused r) ≡ trailer_answer (readable s)
    unfolding trailer_answer_by unless
    trailers_refused e = let f = found_some _ r (e ∙ trailer_lowest s) in ap (λ x. Err (fault.Refused x)) (sym f.1) ∙ by_first' (trailer_first s ∙ f.0)

  -- a sound header section has a method
  pub method_is : None ≡ found (lowest (header_row s)) → (f : Facts) → f ≡ facts_of s → IsSome f.method
  unfolding header_checks
  method_is e f is =
      go f.method (ap (λ (g : Facts). not (is_some g.method)) is ∙ no_method s ∙ passed s header_checks 8 no_method_check (lit< tt) (header_first s ∙ found_none _ e))
    where
      go : (o : Maybe Span) → not (is_some o) ≡ false → IsSome o
      go None h = let z : ◌≡◌ {A = ℕ} 0 1 = cc in absurd (omega arith)
      go (Some p) h = refl

  pub header_sound : None ≡ found (lowest (header_row s)) → (f : Facts) → f ≡ facts_of s → (p : Span) → f.method ≡ Some p
      → Ok (record { method = p; stated = f.stated }) ≡ header_answer (readable s)
  unfolding header_answer_by unless method_line facts_of
  header_sound e f is p there =
      let none-broken = header_first s ∙ found_none _ e in
      let ends = ends_are (first (named method_name) s) p (sym (ap (λ (g : Facts). g.method) is) ∙ there) in
      let sounds : ℕ → ℕ → Maybe ℕ → HeaderAnswer = λ (a b : ℕ) (t : Maybe ℕ). Ok (record { method = span a b; stated = t }) in
      ap (sounds p.from p.to) (ap (λ (g : Facts). g.stated) is ∙ stated_is s (length_passed s none-broken))
      ∙ ap (λ a. sounds a p.to (stated_of (stated_in (value_of length_name s)))) (sym ends.0)
      ∙ ap (λ b. sounds (from_in s method_name) b (stated_of (stated_in (value_of length_name s)))) (sym ends.1)
      ∙ by_first none-broken

  pub trailers_sound : None ≡ by_trailers (facts_of s) → Ok tt ≡ trailer_answer (readable s)
  unfolding trailer_answer_by unless
  trailers_sound e = by_first' (trailer_first s ∙ found_none _ (e ∙ trailer_lowest s))

  -- an answer is a refusal with its reason's name, or it is sound
  pub header_by_cases : (P : HeaderAnswer → Judgement Head → Type 0) → ((r : Reason) → P (Err (fault.Refused (reason_named r))) (refused r))
      → ((h : Head) → P (header_answer_by s (sound h)) (sound h)) → P (header_answer (readable s)) (header_section s)
  unfolding header_answer header_section header_answer_by unless
  header_by_cases P p q = go (first_broken header_checks s) refl
    where
      go : (o : Option Reason) → first_broken header_checks s ≡ o → P (header_answer_by s (unless o (says s))) (unless o (says s))
      go none e = q (says s)
      go (some r) e = p r

  pub trailers_by_cases : (P : TrailerAnswer → Judgement (Unit {0}) → Type 0) → ((r : Reason) → P (Err (fault.Refused (reason_named r))) (refused r))
      → P (Ok tt) (sound tt) → P (trailer_answer (readable s)) (rules.trailers s)
  unfolding trailer_answer rules.trailers trailer_answer_by unless
  trailers_by_cases P p q = go (first_broken trailer_checks s) refl
    where
      go : (o : Option Reason) → first_broken trailer_checks s ≡ o → P (trailer_answer_by (unless o tt)) (unless o tt)
      go none e = q
      go (some r) e = p r

  pub header_number_lem : header_number (header_answer (readable s)) ≡ judged_number (header_section s)
  unfolding header_number judged_number header_answer_by
  header_number_lem = header_by_cases (λ a j. header_number a ≡ judged_number j) (λ r. ap (λ x. code_number (code_of x)) (reason_back r)) (λ h. refl)

  pub trailer_number_lem : trailer_number (trailer_answer (readable s)) ≡ judged_number (rules.trailers s)
  unfolding trailer_number judged_number
  trailer_number_lem = trailers_by_cases (λ a j. trailer_number a ≡ judged_number j) (λ r. ap (λ x. code_number (code_of x)) (reason_back r)) refl

-- the walk's answer is a fault where the block is unreadable
pub header_unread : (x : Lines) {e : Fault} → Err e ≡ walked x → Err e ≡ header_answer x
unfolding walked header_answer
header_unread (unreadable f) e = cc
header_unread (readable s) e = let z : ◌≡◌ {A = ℕ} 0 1 = cc in absurd (omega arith)

pub trailers_unread : (x : Lines) {e : Fault} → Err e ≡ walked x → Err e ≡ trailer_answer x
unfolding walked trailer_answer
trailers_unread (unreadable f) e = cc
trailers_unread (readable s) e = let z : ◌≡◌ {A = ℕ} 0 1 = cc in absurd (omega arith)

-- else it has the facts of all its lines
pub walked_all : (block : List ℕ) {f : Facts} → Ok f ≡ walked (lines block) → (lines block ≡ readable (held block)) × (f ≡ facts_of (held block))
unfolding walked
walked_all block {f} = go (lines block) refl
  where
    go : (x : Lines) → lines block ≡ x → Ok f ≡ walked x → (x ≡ readable (held block)) × (f ≡ facts_of (held block))
    go (unreadable g) p e = let z : ◌≡◌ {A = ℕ} 0 1 = cc in absurd (omega arith)
    go (readable s) p e =
        let there : readable s ≡ readable (held block) = sym p ∙ held_is block (ap is_readable p) in
        let same_section : s ≡ held block = cc in
        let facts : f ≡ facts_of s = cc in
        (there, facts ∙ ap facts_of same_section)

-- what was kept of a name lies in the block
pub lies : (block : List ℕ) (f : Facts) → f ≡ facts_of (held block) → (get : Facts → Maybe Span) (k : Name) → get (facts_of (held block)) ≡ place_in (held block) (name_at k)
    → within block (get f)
lies block f is get k e = subst (within block) (sym (ap get is ∙ e)) (in_block (name_at k) block)

-- the bytes that a sound answer names are the method
pub method_named : (block : List ℕ) (s : Section) (h : Head) {a : Sound} → lines block ≡ readable s → header_section s ≡ sound h
    → header_answer (lines block) ≡ Ok a → part a.method.from a.method.to block ≡ h.method
unfolding header_answer header_answer_by method_line header_section unless
method_named block s h {a = r} e f g =
    let there-sound : ◌≡◌ {A = HeaderAnswer} (Ok (record { method = span (from_in s method_name) (to_in s method_name); stated = stated_of h.stated })) (Ok r) = sym (ap header_answer e ∙ ap (header_answer_by s) f) ∙ g in
    let place : span (from_in s method_name) (to_in s method_name) ≡ r.method = cc in
    let b : from_in s method_name ≡ r.method.from = ap (λ (p : Span). p.from) place in
    let c : to_in s method_name ≡ r.method.to = ap (λ (p : Span). p.to) place in
    let there : readable s ≡ readable (held block) = sym e ∙ held_is block (ap is_readable e) in
    let d : s ≡ held block = cc in
    rw (← b, ← c, d) (bytes_are method_name block ∙ ap (λ x. method_of (value_of method_name x)) (sym d) ∙ go (first_broken header_checks s) f)
  where
    go : (o : Option Reason) → ◌≡◌ {A = Judgement Head} (unless o (says s)) (sound h) → (says s).method ≡ h.method
    go none q = cc
    go (some r) q = let z : ◌≡◌ {A = ℕ} 0 1 = cc in absurd (omega arith)
