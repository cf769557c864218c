-- What one walk of the lines collects: what the rules say of the lines so far; and what one line more makes of it. Assumes nothing.
use Rattle.std.specs.Prelude.{ℕ, ◌+◌, ◌<◌, ◌≡◌, Bool, ◌||◌, ◌&&◌, ltb, eqb}
use Rattle.std.proofs.Math.Path.{refl, sym, ap}
use Rattle.std.proofs.Common.{◌∙◌, lit<}
use mathlib.Core.List.{List, [], ◌∷◌, ◌++◌}
use Rattle.std.proofs.Math.Bool.{true, false, cond, not}
use Rattle.std.proofs.Math.Option.{Option, none, some}
use native.Mathlib.Omega.{arith}
use Rattle.std.proofs.Math.ListN.{length}
use Rattle.rules.specs.Text.{ascii, any, all, same}
use Rattle.rules.specs.Integers.{largest}
use Rattle.rules.specs.Classes.{is_token, is_digit}
use Rattle.rules.specs.Block.{Line, Section}
use Rattle.rules.specs.Section.{is_empty, begins, named, line_with, has, repeated, value_of, method_of, decimal, decimal_from, pseudo_fields, connection_fields, is_pseudo, line_size, size, bad_name, is_bad_value, pseudo_behind_plain, bytes_check, unknown_check, repeated_check, late_check, connection_check, te_check, method_check, repeated_length_check, digits_check, length_above_check, repeated_host_check}
use Rattle.fields.specs.Bytes.{bad_name_bytes, bad_value_bytes}
use Rattle.fields.specs.Decimal.{capped, past, capped_plus}
use Rattle.rules.specs.Block.{Lines, unreadable, readable}
use Rattle.rules.specs.declared.reasons.Reason.{Reason}
use Rattle.rules.specs.declared.reasons.Reason.TheVariants as reason
use Rattle.std.specs.Prelude.{Option as Maybe, None, Result, Ok, Err}
use Rattle.section.specs.declared.Fault.{Fault}
use Rattle.section.specs.declared.Fault.TheVariants as fault
use Rattle.std.specs.Prelude.{is_some, Some}
use Rattle.std.specs.Option.{option_or}
use Rattle.section.specs.declared.Name.{Name}
use Rattle.section.specs.declared.Name.TheVariants as name
use Rattle.section.specs.declared.Span.{Span}
use Rattle.section.specs.declared.Facts.{Facts}
use Rattle.section.specs.Checks.{checks, told, lowest, found, number_of, lower_of, put, push}
use Rattle.section.specs.Names.{method, scheme, authority, path, host, content_length, te, connection, unknown, plain, by_kind, is, pseudo_name, name_at, is_one_name, name_of, text_told, connection_told, pseudo_told, unknown_told}
use Rattle.section.specs.Finding.{first, value_from, value_to, from_of, to_of}

-- ---- of the lines so far

abbrev is_plain : Line → Bool
is_plain l = not (is_pseudo l)

-- the checks that the lines settle by themselves, in their places
unfoldable pub row_of : Section → List Bool
row_of s =
    false
    ∷ bytes_check.broken s
    ∷ unknown_check.broken s ∷ repeated_check.broken s ∷ late_check.broken s ∷ false
    ∷ connection_check.broken s ∷ te_check.broken s
    ∷ method_check.broken s ∷ false
    ∷ repeated_length_check.broken s ∷ false ∷ digits_check.broken s ∷ length_above_check.broken s
    ∷ repeated_host_check.broken s
    ∷ false ∷ false ∷ false ∷ false ∷ false ∷ false ∷ false ∷ false ∷ false ∷ false
    ∷ []

-- what is kept of the first line of a name
abbrev pub place_by : {A : Type 0} → (Line → A) → Option Line → Maybe A
place_by pick none = None
place_by pick (some l) = Some (pick l)

abbrev pub span : (from to : ℕ) → Span
span a b = record { from = a; to = b }

abbrev pub span_of : Line → Span
span_of l = span (value_from l) (value_to l)

abbrev pub number_in : Line → ℕ
number_in l = capped (decimal l.value)

-- where its value is; and the number of the first Content-Length
abbrev pub place_in : Section → (name : List ℕ) → Maybe Span
place_in s name = place_by span_of (first (named name) s)

abbrev pub length_in : Section → Maybe ℕ
length_in s = place_by number_in (first (named (name_at content_length)) s)

abbrev pub from_in : Section → (name : List ℕ) → ℕ
from_in s name = from_of (first (named name) s)

abbrev pub to_in : Section → (name : List ℕ) → ℕ
to_in s name = to_of (first (named name) s)

-- the value of the first line; nothing where there is none
abbrev pub value_at : Section → (k : Name) → List ℕ
value_at s k = method_of (value_of (name_at k) s)

abbrev pub value_in : Option Line → List ℕ
value_in none = []
value_in (some l) = l.value

abbrev facts : (size : ℕ) (first : Maybe Reason) (pseudo plain : Bool) (method scheme authority path host : Maybe Span) (stated : Maybe ℕ) → Facts
facts z n p q m h a t o d = record { size = z; first = n; pseudo = p; plain = q; method = m; scheme = h; authority = a; path = t; host = o; stated = d }

unfoldable pub facts_of : Section → Facts
facts_of s =
    facts (capped (size s)) (found (lowest (row_of s))) (any is_pseudo s) (any is_plain s)
    (place_in s (name_at method)) (place_in s (name_at scheme)) (place_in s (name_at authority)) (place_in s (name_at path)) (place_in s (name_at host))
    (length_in s)

abbrev pub no_facts : Facts
no_facts = facts 0 None false false None None None None None None

-- ---- one line more, by what its name is; what is there stays

abbrev pub is_bad_method : List ℕ → Bool
is_bad_method v = is_empty v || not (all is_token v)

abbrev pub is_no_digits : List ℕ → Bool
is_no_digits v = is_empty v || not (all is_digit v)

abbrev pub is_other_te : List ℕ → Bool
is_other_te v = not (same v (ascii "trailers"))

-- a pseudo-field
abbrev pub pseudo_by : Facts → (check : Reason) (broken : Bool) → Facts
pseudo_by f i t = facts f.size (lower_of (lower_of f.first i t) reason.LatePseudo f.plain) true f.plain f.method f.scheme f.authority f.path f.host f.stated

-- another field
abbrev pub plain_by : Facts → (first : Maybe Reason) → Facts
plain_by f n = facts f.size n f.pseudo true f.method f.scheme f.authority f.path f.host f.stated

abbrev known_first : Facts → (there : Bool) → Maybe Reason
known_first f t = lower_of (lower_of f.first reason.RepeatedPseudo t) reason.LatePseudo f.plain

abbrev length_first : Facts → (value : List ℕ) → Maybe Reason
length_first f v =
    lower_of (lower_of (lower_of f.first reason.RepeatedLength (is_some f.stated)) reason.NoDigits (is_no_digits v)) reason.LengthAbove (ltb largest (capped (decimal v)))

-- a Content-Length
abbrev pub length_by : Facts → (value : List ℕ) → Facts
length_by f v = facts f.size (length_first f v) f.pseudo true f.method f.scheme f.authority f.path f.host (option_or f.stated (Some (capped (decimal v))))

unfoldable pub note_by : Name → Facts → (value : List ℕ) → Span → Facts
note_by name.Method f v p =
    facts f.size (lower_of (known_first f (is_some f.method)) reason.BadMethod (is_bad_method v)) true f.plain (option_or f.method (Some p)) f.scheme f.authority f.path f.host f.stated
note_by name.Scheme f v p = facts f.size (known_first f (is_some f.scheme)) true f.plain f.method (option_or f.scheme (Some p)) f.authority f.path f.host f.stated
note_by name.Authority f v p = facts f.size (known_first f (is_some f.authority)) true f.plain f.method f.scheme (option_or f.authority (Some p)) f.path f.host f.stated
note_by name.Path f v p = facts f.size (known_first f (is_some f.path)) true f.plain f.method f.scheme f.authority (option_or f.path (Some p)) f.host f.stated
note_by name.Host f v p =
    facts f.size (lower_of f.first reason.RepeatedHost (is_some f.host)) f.pseudo true f.method f.scheme f.authority f.path (option_or f.host (Some p)) f.stated
note_by name.Length f v p = length_by f v
note_by name.Te f v p = plain_by f (lower_of f.first reason.OtherTe (is_other_te v))
note_by name.Connection f v p = plain_by f (lower_of f.first reason.ConnectionField true)
note_by name.Unknown f v p = pseudo_by f reason.UnknownPseudo true
note_by name.Plain f v p = plain_by f f.first

-- its bytes and its size too
abbrev with_bytes : Facts → (name value : List ℕ) → (size : ℕ) → Facts
with_bytes g n v z =
    facts z (lower_of g.first reason.BadBytes (bad_name_bytes n || bad_value_bytes v)) g.pseudo g.plain g.method g.scheme g.authority g.path g.host g.stated

unfoldable pub line_step : Facts → (name value : List ℕ) → Span → Facts
line_step f n v p = with_bytes (note_by (name_of n) f v p) n v (capped (f.size + (length n + length v + 32)))

-- ---- what the rules say of one line more

four : (a b c d : Bool) → ((a || b) || (c || d)) ≡ ((a || c) || (b || d))
four true b c d = refl
four false true true d = refl
four false true false d = refl
four false false c d = refl

-- some line has one of the names where one of the names has some line
swap : (names : List (List ℕ)) (s : Section) → any (λ l. is_one_name names l.name) s ≡ any (λ name. has name s) names
unfolding any has named
swap names [] = sym (none_has names)
  where
    none_has : (ns : List (List ℕ)) → any (λ name. has name []) ns ≡ false
    none_has [] = refl
    none_has (n ∷ ns) = none_has ns
swap names (l ∷ s) = ap (λ t. is_one_name names l.name || t) (swap names s) ∙ sym (split names)
  where
    split : (ns : List (List ℕ)) → any (λ name. has name (l ∷ s)) ns ≡ (is_one_name ns l.name || any (λ name. has name s) ns)
    split [] = refl
    split (n ∷ ns) = ap (λ t. (same l.name n || has n s) || t) (split ns) ∙ four (same l.name n) (has n s) (is_one_name ns l.name) (any (λ name. has name s) ns)

abbrev kept_by : {A : Type 0} → Bool → (old : Maybe A) (new : A) → Maybe A
kept_by true old new = option_or old (Some new)
kept_by false old new = old

same_facts : {z : ℕ} {n m : Maybe Reason} {p q : Bool} {b c d e g : Maybe Span} {x : Maybe ℕ} → n ≡ m → facts z n p q b c d e g x ≡ facts z m p q b c d e g x
same_facts {z} {p} {q} {b} {c} {d} {e} {g} {x} = ap (λ (n : Maybe Reason). facts z n p q b c d e g x)

module _ (l : Line) where
  abbrev more : Section → Section
  more s = s ++ (l ∷ [])

  any_more : (test : Line → Bool) (s : Section) → any test (more s) ≡ (test l || any test s)
  unfolding any
  any_more test [] = refl
  any_more test (m ∷ s) = ap (λ t. test m || t) (any_more test s) ∙ go (test m) (test l) (any test s)
    where
      go : (a b c : Bool) → (a || (b || c)) ≡ (b || (a || c))
      go true true c = refl
      go true false c = refl
      go false b c = refl

  size_more : (s : Section) → size (more s) ≡ size s + (length l.name + length l.value + 32)
  unfolding size line_size
  size_more [] = omega arith
  size_more (m ∷ s) = omega (arith, size_more s)

  repeated_more : (name : List ℕ) (s : Section) → repeated name (more s) ≡ ((named name l && has name s) || repeated name s)
  unfolding repeated has any
  repeated_more name [] = go (named name l)
    where
      go : (t : Bool) → ((t && false) || false) ≡ ((t && false) || false)
      go t = refl
  repeated_more name (m ∷ s) =
      ap (λ t. (named name m && t) || repeated name (more s)) (any_more (named name) s) ∙ ap (λ t. (named name m && (named name l || has name s)) || t) (repeated_more name s)
      ∙ go (named name m) (named name l) (has name s) (repeated name s)
    where
      go : (m l h r : Bool) → ((m && (l || h)) || ((l && h) || r)) ≡ ((l && (m || h)) || ((m && h) || r))
      go true true h r = refl
      go true false h r = refl
      go false true h r = refl
      go false false h r = refl

  -- of one of the names
  one_more : (names : List (List ℕ)) (s : Section) → any (λ name. repeated name (more s)) names
      ≡ (any (λ name. named name l && has name s) names || any (λ name. repeated name s) names)
  unfolding any
  one_more [] s = refl
  one_more (n ∷ ns) s =
      ap (λ t. t || any (λ name. repeated name (more s)) ns) (repeated_more n s) ∙ ap (λ t. ((named n l && has n s) || repeated n s) || t) (one_more ns s)
      ∙ four (named n l && has n s) (repeated n s) (any (λ name. named name l && has name s) ns) (any (λ name. repeated name s) ns)

  late_more : (s : Section) → pseudo_behind_plain (more s) ≡ ((is_pseudo l && any is_plain s) || pseudo_behind_plain s)
  unfolding pseudo_behind_plain any
  late_more [] = go (is_pseudo l)
    where
      go : (t : Bool) → ((not t && false) || false) ≡ ((t && false) || false)
      go true = refl
      go false = refl
  late_more (m ∷ s) =
      ap (λ t. (not (is_pseudo m) && t) || pseudo_behind_plain (more s)) (any_more is_pseudo s) ∙ ap (λ t. (not (is_pseudo m) && (is_pseudo l || any is_pseudo s)) || t) (late_more s)
      ∙ go (is_pseudo m) (is_pseudo l) (any is_pseudo s) (any is_plain s) (pseudo_behind_plain s)
    where
      go : (m l p q r : Bool) → ((not m && (l || p)) || ((l && q) || r)) ≡ ((l && (not m || q)) || ((not m && p) || r))
      go true true p q r = refl
      go true false p q r = refl
      go false true p q r = refl
      go false false p q r = refl

  has_more : (names : List (List ℕ)) (s : Section) → any (λ name. has name (more s)) names ≡ (is_one_name names l.name || any (λ name. has name s) names)
  has_more names s = sym (swap names (more s)) ∙ any_more (λ m. is_one_name names m.name) s ∙ ap (λ t. is_one_name names l.name || t) (swap names s)

  -- what is kept of the first line that passes a test
  first_more : {A : Type 0} (pick : Line → A) (test : Line → Bool) (s : Section)
      → place_by pick (first test (more s)) ≡ kept_by (test l) (place_by pick (first test s)) (pick l)
  unfolding first
  first_more pick test [] = go (test l)
    where
      go : (t : Bool) → place_by pick (cond t (some l) none) ≡ kept_by t None (pick l)
      go true = refl
      go false = refl
  first_more pick test (m ∷ s) = go (test m) (first_more pick test s)
    where
      stays : (t : Bool) → Some (pick m) ≡ kept_by t (Some (pick m)) (pick l)
      stays true = refl
      stays false = refl

      go : (t : Bool) → place_by pick (first test (more s)) ≡ kept_by (test l) (place_by pick (first test s)) (pick l)
          → place_by pick (cond t (some m) (first test (more s))) ≡ kept_by (test l) (place_by pick (cond t (some m) (first test s))) (pick l)
      go true ih = stays (test l)
      go false ih = ih

-- the value of a name is its first line's
pub value_first : (name : List ℕ) (s : Section) → method_of (value_of name s) ≡ value_in (first (named name) s)
unfolding first value_of method_of
value_first name [] = refl
value_first name (l ∷ s) = go (named name l) (value_first name s)
  where
    go : (t : Bool) → method_of (value_of name s) ≡ value_in (first (named name) s)
        → method_of (elim t [ true ↦ some l.value | false ↦ value_of name s ]) ≡ value_in (cond t (some l) (first (named name) s))
    go true ih = refl
    go false ih = ih

-- and what is kept of a name is there where the name is
pub there_is : {A : Type 0} (pick : Line → A) (name : List ℕ) (s : Section) → is_some (place_by pick (first (named name) s)) ≡ has name s
unfolding first has any
there_is pick name [] = refl
there_is pick name (l ∷ s) = go (named name l) (there_is pick name s)
  where
    go : (t : Bool) → is_some (place_by pick (first (named name) s)) ≡ has name s → is_some (place_by pick (cond t (some l) (first (named name) s))) ≡ (t || has name s)
    go true ih = refl
    go false ih = ih

there_or : (name : List ℕ) (s : Section) → is_some (place_in s name) ≡ (has name s || false)
there_or name s = there_is span_of name s ∙ go (has name s)
  where
    go : (t : Bool) → t ≡ (t || false)
    go true = refl
    go false = refl

-- ---- so one line more is a step of what is collected

-- what the rules ask of a name
pub record Asked : Type 0 where
  pub unknown : Bool
  pub pseudo : Bool
  pub connection : Bool
  pub te : Bool
  pub method : Bool
  pub scheme : Bool
  pub authority : Bool
  pub path : Bool
  pub host : Bool
  pub length : Bool

abbrev asks : (unknown pseudo connection te method scheme authority path host length : Bool) → Asked
asks u p c t m s a h o l = record { unknown = u; pseudo = p; connection = c; te = t; method = m; scheme = s; authority = a; path = h; host = o; length = l }

-- in the rules' words, and by what the name is
abbrev asked_of : List ℕ → Asked
asked_of n =
    asks (begins (eqb 0x3a) n && not (is_one_name pseudo_fields n)) (begins (eqb 0x3a) n) (is_one_name connection_fields n) (same n (name_at te))
    (same n (name_at method)) (same n (name_at scheme)) (same n (name_at authority)) (same n (name_at path)) (same n (name_at host)) (same n (name_at content_length))

abbrev asked_by : Name → Asked
asked_by k =
    asks (is k unknown) (pseudo_name k) (is k connection) (is k te) (is k method) (is k scheme) (is k authority) (is k path) (is k host) (is k content_length)

asked_is : (n : List ℕ) → asked_of n ≡ asked_by (name_of n)
asked_is n =
    rw (unknown_told n, pseudo_told n, connection_told n, text_told n te refl, text_told n method refl, text_told n scheme refl, text_told n authority refl, text_told n path refl, text_told n host refl, text_told n content_length refl)

abbrev above_largest : List ℕ → Bool
above_largest v = ltb largest (decimal v)

module _ (s : Section) (l : Line) where
  abbrev again : Asked → Bool
  again q =
      (q.method && has (name_at method) s) || ((q.scheme && has (name_at scheme) s) || ((q.authority && has (name_at authority) s) || ((q.path && has (name_at path) s) || false)))

  abbrev row_by : Asked → List Bool
  row_by q =
      false
      ∷ ((bad_name l || is_bad_value l) || bytes_check.broken s)
      ∷ (q.unknown || unknown_check.broken s) ∷ (again q || repeated_check.broken s) ∷ ((q.pseudo && any is_plain s) || late_check.broken s) ∷ false
      ∷ (q.connection || connection_check.broken s) ∷ ((q.te && is_other_te l.value) || te_check.broken s)
      ∷ ((q.method && is_bad_method l.value) || method_check.broken s) ∷ false
      ∷ ((q.length && has (name_at content_length) s) || repeated_length_check.broken s) ∷ false
      ∷ ((q.length && is_no_digits l.value) || digits_check.broken s) ∷ ((q.length && above_largest l.value) || length_above_check.broken s)
      ∷ ((q.host && has (name_at host) s) || repeated_host_check.broken s)
      ∷ false ∷ false ∷ false ∷ false ∷ false ∷ false ∷ false ∷ false ∷ false ∷ false
      ∷ []

  row_more : row_of (more l s) ≡ row_by (asked_of l.name)
  unfolding row_of bytes_check unknown_check repeated_check late_check connection_check te_check method_check repeated_length_check digits_check length_above_check repeated_host_check line_with named is_pseudo pseudo_fields any
  row_more =
      rw (any_more l (λ m. bad_name m || is_bad_value m) s, any_more l (λ m. is_pseudo m && not (any (λ name. named name m) pseudo_fields)) s, one_more l pseudo_fields s, late_more l s, has_more l connection_fields s, any_more l (λ m. named (name_at te) m && is_other_te m.value) s, any_more l (λ m. named (name_at method) m && is_bad_method m.value) s, repeated_more l (name_at content_length) s, any_more l (λ m. named (name_at content_length) m && is_no_digits m.value) s, any_more l (λ m. named (name_at content_length) m && above_largest m.value) s, repeated_more l (name_at host) s)

  abbrev kept_place : Bool → Name → Maybe Span
  kept_place t k = kept_by t (place_in s (name_at k)) (span_of l)

  abbrev after : Asked → Facts
  after q =
      facts (capped (size s + (length l.name + length l.value + 32))) (found (lowest (row_by q))) (q.pseudo || any is_pseudo s) (not q.pseudo || any is_plain s)
      (kept_place q.method method) (kept_place q.scheme scheme) (kept_place q.authority authority) (kept_place q.path path) (kept_place q.host host)
      (kept_by q.length (length_in s) (number_in l))

  place_more : (k : Name) → place_in (more l s) (name_at k) ≡ kept_place (named (name_at k) l) k
  place_more k = first_more l span_of (named (name_at k)) s

  length_more : length_in (more l s) ≡ kept_by (named (name_at content_length) l) (length_in s) (number_in l)
  length_more = first_more l number_in (named (name_at content_length)) s

  more_is : facts_of (more l s) ≡ after (asked_of l.name)
  unfolding facts_of named is_pseudo
  more_is =
      rw (size_more l s, row_more, any_more l is_pseudo s, any_more l is_plain s, place_more method, place_more scheme, place_more authority, place_more path, place_more host, length_more)

  -- by each of the ten kinds
  abbrev Steps : Name → Type 0
  Steps k = with_bytes (note_by k (facts_of s) l.value (span_of l)) l.name l.value (capped (size s + (length l.name + length l.value + 32))) ≡ after (asked_by k)

  -- the checks that a kind may break, and bad bytes
  abbrev bad : Bool
  bad = bad_name_bytes l.name || bad_value_bytes l.value

  bad_too : {n : Maybe Reason} (bs : List Bool) → n ≡ found (lowest bs) → 1 < length bs → lower_of n reason.BadBytes bad ≡ found (lowest (put (number_of reason.BadBytes) bad bs))
  bad_too bs e h = push bs reason.BadBytes bad e h refl

  -- a request pseudo-field
  known_row : (u : Bool) → List Bool
  known_row u = put (number_of reason.LatePseudo) (any is_plain s) (put (number_of reason.RepeatedPseudo) u (row_of s))

  known : (u : Bool) {t : Bool} → t ≡ u → lower_of (lower_of (found (lowest (row_of s))) reason.RepeatedPseudo t) reason.LatePseudo (any is_plain s) ≡ found (lowest (known_row u))
  unfolding row_of put known_row
  known u e = push _ reason.LatePseudo (any is_plain s) (push (row_of s) reason.RepeatedPseudo u refl (lit< tt) e) (lit< tt) refl

  step_method : Steps method
  unfolding facts_of note_by row_of put known_row bad_name_bytes bad_value_bytes bad_name is_bad_value is_pseudo
  step_method = same_facts (bad_too _ (push _ reason.BadMethod (is_bad_method l.value) (known _ (there_or (name_at method) s)) (lit< tt) refl) (lit< tt))

  step_scheme : Steps scheme
  unfolding facts_of note_by row_of put known_row bad_name_bytes bad_value_bytes bad_name is_bad_value is_pseudo
  step_scheme = same_facts (bad_too _ (known _ (there_or (name_at scheme) s)) (lit< tt))

  step_authority : Steps authority
  unfolding facts_of note_by row_of put known_row bad_name_bytes bad_value_bytes bad_name is_bad_value is_pseudo
  step_authority = same_facts (bad_too _ (known _ (there_or (name_at authority) s)) (lit< tt))

  step_path : Steps path
  unfolding facts_of note_by row_of put known_row bad_name_bytes bad_value_bytes bad_name is_bad_value is_pseudo
  step_path = same_facts (bad_too _ (known _ (there_or (name_at path) s)) (lit< tt))

  step_host : Steps host
  unfolding facts_of note_by row_of put bad_name_bytes bad_value_bytes bad_name is_bad_value is_pseudo
  step_host = same_facts (bad_too _ (push (row_of s) reason.RepeatedHost _ refl (lit< tt) (there_is span_of (name_at host) s)) (lit< tt))

  step_length : Steps content_length
  unfolding facts_of note_by row_of put bad_name_bytes bad_value_bytes bad_name is_bad_value is_pseudo largest
  step_length =
      same_facts
      (bad_too _
      (push _ reason.LengthAbove (above_largest l.value)
      (push _ reason.NoDigits (is_no_digits l.value) (push (row_of s) reason.RepeatedLength _ refl (lit< tt) (there_is number_in (name_at content_length) s)) (lit< tt) refl)
      (lit< tt)
      (past largest (decimal l.value) (lit< tt)))
      (lit< tt))

  step_te : Steps te
  unfolding facts_of note_by row_of put bad_name_bytes bad_value_bytes bad_name is_bad_value is_pseudo
  step_te = same_facts (bad_too _ (push (row_of s) reason.OtherTe (is_other_te l.value) refl (lit< tt) refl) (lit< tt))

  step_connection : Steps connection
  unfolding facts_of note_by row_of put bad_name_bytes bad_value_bytes bad_name is_bad_value is_pseudo
  step_connection = same_facts (bad_too _ (push (row_of s) reason.ConnectionField true refl (lit< tt) refl) (lit< tt))

  step_unknown : Steps unknown
  unfolding facts_of note_by row_of put bad_name_bytes bad_value_bytes bad_name is_bad_value is_pseudo
  step_unknown = same_facts (bad_too _ (push _ reason.LatePseudo (any is_plain s) (push (row_of s) reason.UnknownPseudo true refl (lit< tt) refl) (lit< tt) refl) (lit< tt))

  step_plain : Steps plain
  unfolding facts_of note_by row_of put bad_name_bytes bad_value_bytes bad_name is_bad_value is_pseudo
  step_plain = same_facts (bad_too (row_of s) refl (lit< tt))

  pub step_is : line_step (facts_of s) l.name l.value (span_of l) ≡ facts_of (s ++ (l ∷ []))
  unfolding line_step facts_of
  step_is =
      ap (λ z. with_bytes (note_by (name_of l.name) (facts_of s) l.value (span_of l)) l.name l.value z) (capped_plus (size s) (length l.name + length l.value + 32))
      ∙ by_kind Steps step_method step_scheme step_authority step_path step_host step_length step_te step_connection step_unknown step_plain (name_of l.name)
      ∙ sym (more_is ∙ ap after (asked_is l.name))

pub none_yet : no_facts ≡ facts_of []
unfolding facts_of row_of lowest found told checks size any first from_of to_of value_of method_of decimal decimal_from capped bytes_check unknown_check repeated_check late_check connection_check te_check method_check repeated_length_check digits_check length_above_check repeated_host_check line_with has repeated pseudo_behind_plain pseudo_fields connection_fields
none_yet = refl

-- what the walk answers
unfoldable pub walked : Lines → Result Facts Fault
walked (unreadable f) = Err fault.Unreadable
walked (readable s) = Ok (facts_of s)
