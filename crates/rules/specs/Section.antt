-- Header sections and trailers (document 01, "Requests"; document 02, Q-1 and Q-2): checks in document 01's order, of which the first broken one is the reason.
-- Assumes nothing.
use Rattle.std.specs.Prelude.{ℕ, ◌+◌, ◌-◌, ◌*◌, List, [], ◌∷◌, Bool, true, false, not, ◌||◌, ◌&&◌, ltb, eqb, length}
use Rattle.std.proofs.Math.Option.{Option, none, some}
use Rattle.rules.specs.Text.{ascii, any, all, same}
use Rattle.rules.specs.Numbers.{Code, of_stream, request_rejected, message_error}
use Rattle.rules.specs.Integers.{largest}
use Rattle.rules.specs.Block.{Line, Section}
use Rattle.rules.specs.Classes.{is_digit, is_token, is_name, is_value, is_blank}

-- ---- lines

unfoldable pub is_empty : List ℕ → Bool
is_empty [] = true
is_empty (b ∷ bs) = false

unfoldable pub begins : (ℕ → Bool) → List ℕ → Bool
begins test [] = false
begins test (b ∷ bs) = test b

unfoldable pub ends : (ℕ → Bool) → List ℕ → Bool
ends test [] = false
ends test (b ∷ []) = test b
ends test (b ∷ c ∷ bs) = ends test (c ∷ bs)

unfoldable pub named : List ℕ → Line → Bool
named name l = same l.name name

unfoldable pub line_with : (name : List ℕ) → (List ℕ → Bool) → Section → Bool
line_with name test s = any (λ l. named name l && test l.value) s

unfoldable pub has : (name : List ℕ) → Section → Bool
has name s = any (named name) s

unfoldable pub repeated : (name : List ℕ) → Section → Bool
repeated name [] = false
repeated name (l ∷ s) = (named name l && has name s) || repeated name s

-- the value of the first line of a name
unfoldable pub value_of : (name : List ℕ) → Section → Option (List ℕ)
value_of name [] = none
value_of name (l ∷ s) = elim (named name l) [ true ↦ some l.value | false ↦ value_of name s ]

-- what a test says of a value; absent passes none
unfoldable pub holds : (List ℕ → Bool) → Option (List ℕ) → Bool
holds test none = false
holds test (some v) = test v

-- a value in decimal
unfoldable pub decimal_from : ℕ → List ℕ → ℕ
decimal_from v [] = v
decimal_from v (d ∷ ds) = decimal_from (v * 10 + (d - 0x30)) ds

unfoldable pub decimal : List ℕ → ℕ
decimal v = decimal_from 0 v

-- ---- names

abbrev :method : List ℕ
:method = ascii ":method"

abbrev :scheme : List ℕ
:scheme = ascii ":scheme"

abbrev :authority : List ℕ
:authority = ascii ":authority"

abbrev :path : List ℕ
:path = ascii ":path"

abbrev host : List ℕ
host = ascii "host"

abbrev content_length : List ℕ
content_length = ascii "content-length"

-- the request pseudo-fields
unfoldable pub pseudo_fields : List (List ℕ)
pseudo_fields = :method ∷ :scheme ∷ :authority ∷ :path ∷ []

unfoldable pub connection_fields : List (List ℕ)
connection_fields = ascii "connection" ∷ ascii "keep-alive" ∷ ascii "proxy-connection" ∷ ascii "transfer-encoding" ∷ ascii "upgrade" ∷ []

-- a name that begins with a colon
unfoldable pub is_pseudo : Line → Bool
is_pseudo l = begins (eqb 0x3a) l.name

-- ---- a section's size is its name and value bytes together, and 32 for each line (RFC 9114, 4.2.2; document 02, Q-2)

unfoldable pub line_size : Line → ℕ
line_size l = length l.name + length l.value + 32

unfoldable pub size : Section → ℕ
size [] = 0
size (l ∷ s) = line_size l + size s

unfoldable pub size_limit : ℕ
size_limit = 16_384

-- ---- the checks: each says when it is broken

pub data Reason : Type 0 where
  too_large : Reason
  bad_bytes : Reason
  unknown_pseudo repeated_pseudo late_pseudo pseudo_in_trailers : Reason
  connection_field : Reason
  other_te : Reason
  bad_method no_method : Reason
  repeated_length length_in_trailers no_digits length_above : Reason
  repeated_host : Reason
  connect : Reason
  no_scheme_or_path : Reason
  other_scheme : Reason
  bad_path : Reason
  no_authority empty_authority authorities_differ at_in_authority : Reason
  length_past_limit : Reason
  no_length : Reason

-- its number: the place of its check in document 01's order (`section/Checks.checks`)
abbrev pub reason_number : Reason → ℕ
reason_number too_large = 0
reason_number bad_bytes = 1
reason_number unknown_pseudo = 2
reason_number repeated_pseudo = 3
reason_number late_pseudo = 4
reason_number pseudo_in_trailers = 5
reason_number connection_field = 6
reason_number other_te = 7
reason_number bad_method = 8
reason_number no_method = 9
reason_number repeated_length = 10
reason_number length_in_trailers = 11
reason_number no_digits = 12
reason_number length_above = 13
reason_number repeated_host = 14
reason_number connect = 15
reason_number no_scheme_or_path = 16
reason_number other_scheme = 17
reason_number bad_path = 18
reason_number no_authority = 19
reason_number empty_authority = 20
reason_number authorities_differ = 21
reason_number at_in_authority = 22
reason_number length_past_limit = 23
reason_number no_length = 24

pub record Check : Type 0 where
  pub reason : Reason
  pub broken : Section → Bool

abbrev check : Reason → (Section → Bool) → Check
check r b = record { reason = r; broken = b }

unfoldable pub size_check : Check
size_check = check too_large (λ s. ltb size_limit (size s))

-- names are non-empty tokens without capitals, or begin with a colon; values hold their bytes, with no blank at an end
unfoldable pub bad_name : Line → Bool
bad_name l = not (is_pseudo l) && (is_empty l.name || not (all is_name l.name))

unfoldable pub is_bad_value : Line → Bool
is_bad_value l = not (all is_value l.value) || begins is_blank l.value || ends is_blank l.value

unfoldable pub bytes_check : Check
bytes_check = check bad_bytes (any (λ l. bad_name l || is_bad_value l))

-- pseudo-fields
unfoldable pub unknown_check : Check
unknown_check = check unknown_pseudo (any (λ l. is_pseudo l && not (any (λ name. named name l) pseudo_fields)))

unfoldable pub repeated_check : Check
repeated_check = check repeated_pseudo (λ s. any (λ name. repeated name s) pseudo_fields)

unfoldable pub pseudo_behind_plain : Section → Bool
pseudo_behind_plain [] = false
pseudo_behind_plain (l ∷ s) = (not (is_pseudo l) && any is_pseudo s) || pseudo_behind_plain s

unfoldable pub late_check : Check
late_check = check late_pseudo pseudo_behind_plain

unfoldable pub in_trailers_check : Check
in_trailers_check = check pseudo_in_trailers (any is_pseudo)

-- fields of the connection; `te` other than `trailers`
unfoldable pub connection_check : Check
connection_check = check connection_field (λ s. any (λ name. has name s) connection_fields)

unfoldable pub te_check : Check
te_check = check other_te (line_with (ascii "te") (λ v. not (same v (ascii "trailers"))))

-- an empty or non-token `:method`, or in a header section none
unfoldable pub method_check : Check
method_check = check bad_method (line_with :method (λ v. is_empty v || not (all is_token v)))

unfoldable pub no_method_check : Check
no_method_check = check no_method (λ s. not (has :method s))

-- Content-Length
unfoldable pub repeated_length_check : Check
repeated_length_check = check repeated_length (repeated content_length)

unfoldable pub length_in_trailers_check : Check
length_in_trailers_check = check length_in_trailers (has content_length)

unfoldable pub digits_check : Check
digits_check = check no_digits (line_with content_length (λ v. is_empty v || not (all is_digit v)))

unfoldable pub length_above_check : Check
length_above_check = check length_above (line_with content_length (λ v. ltb largest (decimal v)))

unfoldable pub repeated_host_check : Check
repeated_host_check = check repeated_host (repeated host)

-- from here on a header section alone
unfoldable pub connect_check : Check
connect_check = check connect (λ s. holds (same (ascii "CONNECT")) (value_of :method s))

unfoldable pub present_check : Check
present_check = check no_scheme_or_path (λ s. not (has :scheme s && has :path s))

unfoldable pub scheme_check : Check
scheme_check = check other_scheme (λ s. not (holds (λ v. same v (ascii "http") || same v (ascii "https")) (value_of :scheme s)))

-- `:path` begins with `/`; `*` is fine with OPTIONS
unfoldable pub good_path : Section → Bool
good_path s = holds (begins (eqb 0x2f)) (value_of :path s)
    || (holds (same (ascii "*")) (value_of :path s) && holds (same (ascii "OPTIONS")) (value_of :method s))

unfoldable pub path_check : Check
path_check = check bad_path (λ s. not (good_path s))

unfoldable pub authority_check : Check
authority_check = check no_authority (λ s. not (has :authority s || has host s))

unfoldable pub empty_check : Check
empty_check = check empty_authority (λ s. holds is_empty (value_of :authority s) || holds is_empty (value_of host s))

unfoldable pub differ_check : Check
differ_check = check authorities_differ (λ s. holds (λ a. holds (λ h. not (same a h)) (value_of host s)) (value_of :authority s))

unfoldable pub at_check : Check
at_check = check at_in_authority (λ s. holds (any (eqb 0x40)) (value_of :authority s))

unfoldable pub length_limit : ℕ
length_limit = 1_048_576

unfoldable pub length_check : Check
length_check = check length_past_limit (λ s. holds (λ v. ltb length_limit (decimal v)) (value_of content_length s))

-- an upload states its length (document 02, Q-1)
unfoldable pub uploads : List (List ℕ)
uploads = ascii "PUT" ∷ ascii "POST" ∷ ascii "PATCH" ∷ []

unfoldable pub is_upload : (method : List ℕ) → Bool
is_upload method = any (same method) uploads

unfoldable pub uploading : Section → Bool
uploading s = holds is_upload (value_of :method s)

unfoldable pub upload_check : Check
upload_check = check no_length (λ s. uploading s && not (has content_length s))

-- ---- the order

unfoldable pub header_checks : List Check
header_checks =
    size_check
    ∷ bytes_check
    ∷ unknown_check ∷ repeated_check ∷ late_check
    ∷ connection_check ∷ te_check
    ∷ method_check ∷ no_method_check
    ∷ repeated_length_check ∷ digits_check ∷ length_above_check
    ∷ repeated_host_check
    ∷ connect_check
    ∷ present_check
    ∷ scheme_check
    ∷ path_check
    ∷ authority_check ∷ empty_check ∷ differ_check ∷ at_check
    ∷ length_check
    ∷ upload_check
    ∷ []

-- (in trailers a pseudo-field and Content-Length are refused in any case; the checks of them before and behind give the reason)
unfoldable pub trailer_checks : List Check
trailer_checks =
    size_check
    ∷ bytes_check
    ∷ unknown_check ∷ repeated_check ∷ late_check ∷ in_trailers_check
    ∷ connection_check ∷ te_check
    ∷ method_check
    ∷ repeated_length_check ∷ length_in_trailers_check ∷ digits_check ∷ length_above_check
    ∷ repeated_host_check
    ∷ []

-- what a reason makes of a request: it is malformed, or one that we do not serve
pub data Fate : Type 0 where
  malformed unserved : Fate

unfoldable pub fate_of : Reason → Fate
fate_of too_large = malformed
fate_of bad_bytes = malformed
fate_of unknown_pseudo = malformed
fate_of repeated_pseudo = malformed
fate_of late_pseudo = malformed
fate_of pseudo_in_trailers = malformed
fate_of connection_field = malformed
fate_of other_te = malformed
fate_of bad_method = malformed
fate_of no_method = malformed
fate_of repeated_length = malformed
fate_of length_in_trailers = malformed
fate_of no_digits = malformed
fate_of length_above = malformed
fate_of repeated_host = malformed
fate_of connect = unserved
fate_of no_scheme_or_path = malformed
fate_of other_scheme = unserved
fate_of bad_path = malformed
fate_of no_authority = malformed
fate_of empty_authority = malformed
fate_of authorities_differ = malformed
fate_of at_in_authority = malformed
fate_of length_past_limit = unserved
fate_of no_length = unserved

abbrev pub fate_code : Fate → Code
fate_code malformed = of_stream message_error
fate_code unserved = of_stream request_rejected

unfoldable pub code_of : Reason → Code
code_of r = fate_code (fate_of r)

-- ---- the judgement

unfoldable pub first_broken : List Check → Section → Option Reason
first_broken [] s = none
first_broken (c ∷ cs) s = elim (c.broken s) [ true ↦ some c.reason | false ↦ first_broken cs s ]

-- what a sound header section says
pub record Head : Type 0 where
  pub method : List ℕ
  pub stated : Option ℕ  -- its Content-Length

pub data Judgement (A : Type 0) : Type 0 where
  refused : Reason → Judgement A
  sound : A → Judgement A

unfoldable pub unless : {A : Type 0} → Option Reason → A → Judgement A
unless none a = sound a
unless (some r) a = refused r

unfoldable pub method_of : Option (List ℕ) → List ℕ
method_of none = []
method_of (some v) = v

unfoldable pub stated_in : Option (List ℕ) → Option ℕ
stated_in none = none
stated_in (some v) = some (decimal v)

unfoldable pub header_section : Section → Judgement Head
header_section s = unless (first_broken header_checks s) (record { method = method_of (value_of :method s); stated = stated_in (value_of content_length s) })

unfoldable pub trailers : Section → Judgement (Unit {0})
trailers s = unless (first_broken trailer_checks s) tt
