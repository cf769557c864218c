-- What the code says of a header: what its payload is for, or the code that refuses it; and the number of that, in Uses. Assumes nothing.
use Rattle.std.specs.Prelude.{false, ◌≡◌, refl, ◌<◌, ℕ, zero, suc, ◌≤◌, Option, Some, None, Result, Ok, Err}
use Rattle.std.proofs.Common.{sym, ap, ◌∙◌, arith, lit≤}
use Rattle.rules.specs.Numbers.{code_number, coded}
use Rattle.rules.specs.Numbers as rules
use Rattle.rules.specs.Named.{code_of}
use Rattle.rules.specs.Reading as reading
use Rattle.rules.specs.declared.codes.Code.{Code}
use Rattle.rules.specs.declared.codes.Code.TheVariants as code
use Rattle.meaning.specs.NumberLaws.{code_high, coded_back}
use Rattle.frames.specs.Modes.{USE-SKIPPED, USE-CONTENT, USE-HEADER-SECTION, USE-TRAILERS, USE-SETTINGS, USE-GOAWAY, USE-MAX-PUSH-ID, USE-CANCEL-PUSH, NO-USE, paying, mode_number}
use Rattle.frames.specs.Both.{rule}
use Rattle.frames.specs.Uses.{passes_of, stated_of, place_of, number_of, Stands, a_place, any_set}
use Rattle.frames.specs.declared.Use.{Use}
use Rattle.frames.specs.declared.Halt.{Halt}
use Rattle.frames.specs.declared.Use.TheVariants.{Skipped, Content, HeaderSection, Trailers, Settings, Goaway, MaxPushId, CancelPush}

-- ---- a use

abbrev pub use_of : Use → reading.Use
use_of Skipped = reading.skipped
use_of Content = reading.content
use_of HeaderSection = reading.section reading.header_section
use_of Trailers = reading.section reading.trailers
use_of Settings = reading.kept reading.settings
use_of Goaway = reading.kept reading.goaway
use_of MaxPushId = reading.kept reading.max_push_id
use_of CancelPush = reading.kept reading.cancel_push

-- the mode of its payload
abbrev pub mode_in : Use → ℕ
mode_in u = mode_number (paying (use_of u))

-- ---- the numbers

abbrev pub use_in : Use → ℕ
use_in Skipped = USE-SKIPPED
use_in Content = USE-CONTENT
use_in HeaderSection = USE-HEADER-SECTION
use_in Trailers = USE-TRAILERS
use_in Settings = USE-SETTINGS
use_in Goaway = USE-GOAWAY
use_in MaxPushId = USE-MAX-PUSH-ID
use_in CancelPush = USE-CANCEL-PUSH

-- of a whole header
abbrev pub ruled_in : Result Use Code → ℕ
ruled_in (Ok u) = use_in u
ruled_in (Err c) = code_number (code_of c)

-- of a header that may not be whole, or not allowed
abbrev pub wanted_in : Option (Result Use Code) → ℕ
wanted_in None = NO-USE
wanted_in (Some r) = ruled_in r

abbrev pub halt_at : (at left : ℕ) → Option (Result Use Code) → (rest : ℕ) → Halt
halt_at at left wanted rest = record { at = at; left = left; wanted = wanted; rest = rest }

-- ---- laws

use_in_small : (u : Use) → use_in u ≤ USE-CANCEL-PUSH
use_in_small Skipped = lit≤ tt
use_in_small Content = lit≤ tt
use_in_small HeaderSection = lit≤ tt
use_in_small Trailers = lit≤ tt
use_in_small Settings = lit≤ tt
use_in_small Goaway = lit≤ tt
use_in_small MaxPushId = lit≤ tt
use_in_small CancelPush = lit≤ tt

pub ruled_not_none : (r : Result Use Code) → ruled_in r ≡ NO-USE → ⊥
ruled_not_none (Ok u) e = let h = use_in_small u in omega arith
ruled_not_none (Err c) e = let h = code_high (code_of c) in omega arith

pub use_none : (u : Use) → use_in u ≡ NO-USE → ⊥
use_none u = ruled_not_none (Ok u)

pub refusal_none : (c : Code) → code_number (code_of c) ≡ NO-USE → ⊥
refusal_none c = ruled_not_none (Err c)

-- a refusal is not passed
passes_high : (left number room : ℕ) → USE-CANCEL-PUSH < number → passes_of left number room ≡ false
unfolding passes_of
passes_high left zero room h = absurd (omega arith)
passes_high left (suc zero) room h = absurd (omega arith)
passes_high left (suc (suc k)) room h = refl

pub refusal_passes : (left : ℕ) (c : Code) (room : ℕ) → passes_of left (code_number (code_of c)) room ≡ false
refusal_passes left c room = passes_high left (code_number (code_of c)) room (let h = code_high (code_of c) in omega arith)

-- a number is of one answer
use_back : ℕ → Use
use_back zero = Skipped
use_back (suc zero) = Content
use_back (suc (suc zero)) = HeaderSection
use_back (suc (suc (suc zero))) = Trailers
use_back (suc (suc (suc (suc zero)))) = Settings
use_back (suc (suc (suc (suc (suc zero))))) = Goaway
use_back (suc (suc (suc (suc (suc (suc zero)))))) = MaxPushId
use_back (suc (suc (suc (suc (suc (suc (suc k))))))) = CancelPush

use_one : (u : Use) → use_back (use_in u) ≡ u
unfolding use_back
use_one Skipped = refl
use_one Content = refl
use_one HeaderSection = refl
use_one Trailers = refl
use_one Settings = refl
use_one Goaway = refl
use_one MaxPushId = refl
use_one CancelPush = refl

code_back : rules.Code → Code
code_back (rules.of_connection rules.stream_creation_error) = code.StreamCreationError
code_back (rules.of_connection rules.closed_critical_stream) = code.ClosedCriticalStream
code_back (rules.of_connection rules.frame_unexpected) = code.FrameUnexpected
code_back (rules.of_connection rules.frame_error) = code.FrameError
code_back (rules.of_connection rules.excessive_load) = code.ExcessiveLoad
code_back (rules.of_connection rules.id_error) = code.IdError
code_back (rules.of_connection rules.settings_error) = code.SettingsError
code_back (rules.of_connection rules.missing_settings) = code.MissingSettings
code_back (rules.of_stream rules.request_rejected) = code.RequestRejected
code_back (rules.of_stream rules.request_cancelled) = code.RequestCancelled
code_back (rules.of_stream rules.request_incomplete) = code.RequestIncomplete
code_back (rules.of_stream rules.message_error) = code.MessageError

code_one : (c : Code) → code_back (code_of c) ≡ c
unfolding code_back
code_one code.StreamCreationError = refl
code_one code.ClosedCriticalStream = refl
code_one code.FrameUnexpected = refl
code_one code.FrameError = refl
code_one code.ExcessiveLoad = refl
code_one code.IdError = refl
code_one code.SettingsError = refl
code_one code.MissingSettings = refl
code_one code.RequestRejected = refl
code_one code.RequestCancelled = refl
code_one code.RequestIncomplete = refl
code_one code.MessageError = refl

pub ruled_one : (r q : Result Use Code) → ruled_in r ≡ ruled_in q → r ≡ q
ruled_one (Ok u) (Ok v) e = ap Ok (sym (use_one u) ∙ ap use_back e ∙ use_one v)
ruled_one (Ok u) (Err c) e = let l = use_in_small u in let h = code_high (code_of c) in absurd (omega arith)
ruled_one (Err c) (Ok u) e = let l = use_in_small u in let h = code_high (code_of c) in absurd (omega arith)
ruled_one (Err c) (Err d) e = ap Err (sym (code_one c) ∙ ap code_back (sym (coded_back (code_of c)) ∙ ap coded e ∙ coded_back (code_of d)) ∙ code_one d)

-- ---- a stated length, as the cells' two numbers have it

abbrev pub stated_in : (has stated : ℕ) → Option ℕ
stated_in zero n = None
stated_in (suc h) n = Some n

abbrev pub has_in : Option ℕ → ℕ
has_in None = 0
has_in (Some n) = 1

abbrev pub length_in : Option ℕ → ℕ
length_in None = 0
length_in (Some n) = n

-- the place is the same
pub place_back : (phase has stated sum : ℕ) → place_of phase (has_in (stated_in has stated)) (length_in (stated_in has stated)) sum ≡ place_of phase has stated sum
unfolding place_of stated_of
place_back zero has n m = refl
place_back (suc zero) zero n m = refl
place_back (suc zero) (suc h) n m = refl
place_back (suc (suc zero)) zero n m = refl
place_back (suc (suc zero)) (suc h) n m = refl
place_back (suc (suc (suc zero))) has n m = refl
place_back (suc (suc (suc (suc k)))) has n m = refl

pub stands_back : (has stated sum : ℕ) {phase : ℕ} {p : _} → Stands has stated sum phase p → Stands (has_in (stated_in has stated)) (length_in (stated_in has stated)) sum phase p
stands_back has stated sum (a_place {phase = ph}) = let e = place_back ph has stated sum in rw (← e) a_place
stands_back has stated sum (any_set k i) = any_set k i

-- the same ruling
pub ruled_back : (phase has stated sum t l : ℕ) {ph m k : ℕ} {st : Option ℕ} → ph ≡ phase → st ≡ stated_in has stated → m ≡ sum → k ≡ number_of (rule (place_of ph (has_in st) (length_in st) m) t l) → k ≡ number_of (rule (place_of phase has stated sum) t l)
ruled_back phase has stated sum t l a b d e = rw (a, b, d) at e ∙ ap (λ p. number_of (rule p t l)) (place_back phase has stated sum)
