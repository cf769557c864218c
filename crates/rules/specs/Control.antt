-- A client's control stream (document 01, "Frames"): the frame table's second column, SETTINGS pair by pair, GOAWAY, MAX_PUSH_ID
-- and CANCEL_PUSH. Assumes nothing.
use Rattle.std.specs.Prelude.{ℕ, zero, suc, List, [], ◌∷◌, Bool, true, false, ◌||◌, ltb, eqb, length}
use Rattle.std.proofs.Math.Option.{Option, none, some}
use Rattle.rules.specs.Numbers.{of_connection, closed_critical_stream, frame_unexpected, frame_error, excessive_load, id_error, settings_error, missing_settings}
use Rattle.rules.specs.Text.{is_one_of, lookup}
use Rattle.rules.specs.Integers.{Int, cut, got, integer}
use Rattle.rules.specs.Reading.{Kept, settings, goaway, max_push_id, cancel_push, skipped, kept, Ruling, refuse, accept, Next, stop, go, lacking, Grammar}

-- ---- SETTINGS

-- what is kept of them
pub record Settings : Type 0 where
  pub section_size : Option ℕ  -- identifier 6; absent means unlimited
  pub table_capacity : ℕ  -- identifier 1 (QPACK); absent means 0
  pub blocked_streams : ℕ  -- identifier 7 (QPACK); absent means 0

unfoldable pub no_settings : Settings
no_settings = record { section_size = none; table_capacity = 0; blocked_streams = 0 }

-- others, 0 among them, are ignored
unfoldable pub set_to : (identifier value : ℕ) → Settings → Settings
set_to i v s =
    elim (eqb i 6) [
      | true ↦ record { section_size = some v; table_capacity = s.table_capacity; blocked_streams = s.blocked_streams }
      | false ↦
          elim (eqb i 1) [
            | true ↦ record { section_size = s.section_size; table_capacity = v; blocked_streams = s.blocked_streams }
            | false ↦
                elim (eqb i 7) [ true ↦ record { section_size = s.section_size; table_capacity = s.table_capacity; blocked_streams = v } | false ↦ s ]
          ]
    ]

unfoldable pub reserved_identifiers : List ℕ
reserved_identifiers = 2 ∷ 3 ∷ 4 ∷ 5 ∷ []

-- The payload is an identifier and value followed by a shorter payload, or nothing. Pair by pair: a cut pair; an identifier reserved,
-- or seen before. `fuel` bounds the number of pairs: a pair takes two bytes or more, so the number of bytes is enough.
unfoldable pub pairs : (fuel : ℕ) → (seen : List ℕ) → Settings → (payload : List ℕ) → Next Settings
pairs zero seen s payload = go s
pairs (suc fuel) seen s [] = go s
pairs (suc fuel) seen s (b ∷ bs) =
    elim (integer 0 (b ∷ bs)) [
      | cut ↦ stop (of_connection frame_error)
      | got identifier at rest ↦ elim (integer 0 rest) [
        | cut ↦ stop (of_connection frame_error)
        | got value to shorter ↦ elim (is_one_of reserved_identifiers identifier || is_one_of seen identifier) [
          | true ↦ stop (of_connection settings_error)
          | false ↦ pairs fuel (identifier ∷ seen) (set_to identifier value s) shorter
        ]
      ]
    ]

unfoldable pub settings_of : (payload : List ℕ) → Next Settings
settings_of payload = pairs (length payload) [] no_settings payload

-- ---- the stream

-- where it is: no SETTINGS yet, or what is kept of what has come
pub data Control : Type 0 where
  unset : Control
  set : Settings → (goaway max_push_id : Option ℕ) → Control

unfoldable pub settings_limit : ℕ
settings_limit = 256

-- the frame table, second column, behind SETTINGS
pub data Kind : Type 0 where
  forbidden : Kind
  one_integer : Kept → Kind  -- 0x0108 for CANCEL_PUSH comes once its integer is read
  unknown : Kind

unfoldable pub column : List (ℕ × Kind)
column =
    (0, forbidden)
    ∷ (1, forbidden)
    ∷ (4, forbidden)
    ∷ (3, one_integer cancel_push)
    ∷ (7, one_integer goaway)
    ∷ (13, one_integer max_push_id)
    ∷ (5, forbidden)
    ∷ (2, forbidden)
    ∷ (6, forbidden)
    ∷ (8, forbidden)
    ∷ (9, forbidden)
    ∷ []

-- one integer takes 1 to 8 bytes
unfoldable pub rule_for : Kind → Control → (len : ℕ) → Ruling Control
rule_for forbidden c len = refuse (of_connection frame_unexpected)
rule_for (one_integer k) c len = elim (eqb len 0 || ltb 8 len) [ true ↦ refuse (of_connection frame_error) | false ↦ accept (kept k) c ]
rule_for unknown c len = accept skipped c

-- a first frame other than SETTINGS is 0x010a, before all else
unfoldable pub first_rule : (type len : ℕ) → Ruling Control
first_rule t len = elim (eqb t 4) [
  | false ↦ refuse (of_connection missing_settings)
  | true ↦ elim (ltb settings_limit len) [ true ↦ refuse (of_connection excessive_load) | false ↦ accept (kept settings) unset ]
]

unfoldable pub rule : Control → (type len : ℕ) → Ruling Control
rule unset t len = first_rule t len
rule (set s g m) t len = rule_for (lookup column unknown t) (set s g m) len

-- the integer that is the whole of a payload
unfoldable pub only : Int → Option ℕ
only cut = none
only (got v at []) = some v
only (got v at (b ∷ rest)) = none

unfoldable pub above : ℕ → Option ℕ → Bool
above v none = false
above v (some earlier) = ltb earlier v

unfoldable pub below : ℕ → Option ℕ → Bool
below v none = false
below v (some earlier) = ltb v earlier

-- a client's GOAWAY above an earlier one; a MAX_PUSH_ID below an earlier one; we promise no push that could be cancelled
unfoldable pub after_goaway : Settings → (goaway max_push_id : Option ℕ) → (id : ℕ) → Next Control
after_goaway s g m id = elim (above id g) [ true ↦ stop (of_connection id_error) | false ↦ go (set s (some id) m) ]

unfoldable pub after_max_push : Settings → (goaway max_push_id : Option ℕ) → (id : ℕ) → Next Control
after_max_push s g m id = elim (below id m) [ true ↦ stop (of_connection id_error) | false ↦ go (set s g (some id)) ]

-- (SETTINGS is kept only as the first frame, so it is not asked of here)
unfoldable pub after_integer : Kept → Settings → (goaway max_push_id : Option ℕ) → Option ℕ → Next Control
after_integer k s g m none = stop (of_connection frame_error)
after_integer settings s g m (some id) = stop (of_connection frame_unexpected)
after_integer goaway s g m (some id) = after_goaway s g m id
after_integer max_push_id s g m (some id) = after_max_push s g m id
after_integer cancel_push s g m (some id) = stop (of_connection id_error)

unfoldable pub after_settings : Next Settings → Next Control
after_settings (stop code) = stop code
after_settings (go s) = go (set s none none)

unfoldable pub judged : Kept → Control → (payload : List ℕ) → Next Control
judged k unset payload = after_settings (settings_of payload)
judged k (set s g m) payload = after_integer k s g m (only (integer 0 payload))

-- It may never end. (No section is due on it, so what `given` would say is never asked.)
abbrev pub control : Grammar
control = record {
  P = Control;
  start = unset;
  rule = rule;
  given = λ t c s. go c;
  judged = judged;
  end = λ c. lacking (of_connection closed_critical_stream);
  cut = of_connection closed_critical_stream;
}

-- ---- what a kept frame reports to the host

pub data Told : Type 0 where
  told_settings : Settings → Told
  told_goaway : (push_id : ℕ) → Told
  told_max_push_id : (push_id : ℕ) → Told
  told_nothing : Told

unfoldable pub settings_in : Next Settings → Told
settings_in (stop code) = told_nothing
settings_in (go s) = told_settings s

unfoldable pub id_in : (ℕ → Told) → Option ℕ → Told
id_in f none = told_nothing
id_in f (some id) = f id

unfoldable pub tells : Kept → (payload : List ℕ) → Told
tells settings payload = settings_in (settings_of payload)
tells goaway payload = id_in told_goaway (only (integer 0 payload))
tells max_push_id payload = id_in told_max_push_id (only (integer 0 payload))
tells cancel_push payload = told_nothing
