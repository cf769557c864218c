-- What each answer says in the rules' words; two answers that say the same are the same. Assumes nothing.
use Rattle.std.specs.Prelude.{◌≡◌, refl, ℕ, Option as Maybe, Some, None, Result, Ok, Err}
use Rattle.std.proofs.Common.{ap, sym, ◌∙◌}
use Rattle.std.proofs.Math.Option.{Option, none, some}
use Rattle.rules.specs.Control.{Settings}
use Rattle.meaning.specs.NumberLaws.{Numbered, stops, goes}
use Rattle.control.specs.declared.settings.Settings as kept
use Rattle.rules.specs.Numbers as rules
use Rattle.rules.specs.Numbers.{code_number, coded, code_in, named, named_in, rows, number_of, of_stream, of_connection}
use Rattle.rules.specs.Named.{code_of}
use Rattle.rules.specs.declared.codes.Code.{Code}
use Rattle.rules.specs.declared.codes.Code.TheVariants as code

abbrev pub size_is : Maybe ℕ → Option ℕ
size_is None = none
size_is (Some n) = some n

abbrev pub settings_is : kept.Settings → Settings
settings_is s = record { section_size = size_is s.size; table_capacity = s.capacity; blocked_streams = s.blocked }

abbrev pub judged_is : Result kept.Settings Code → Numbered Settings
judged_is (Err c) = stops (code_number (code_of c))
judged_is (Ok s) = goes (settings_is s)

abbrev pub single_is : Maybe ℕ → Option ℕ
single_is None = none
single_is (Some v) = some v

-- ---- one answer each

code_back : rules.Code → Code
code_back (of_stream rules.request_rejected) = code.RequestRejected
code_back (of_stream rules.request_cancelled) = code.RequestCancelled
code_back (of_stream rules.request_incomplete) = code.RequestIncomplete
code_back (of_stream rules.message_error) = code.MessageError
code_back (of_connection rules.stream_creation_error) = code.StreamCreationError
code_back (of_connection rules.closed_critical_stream) = code.ClosedCriticalStream
code_back (of_connection rules.frame_unexpected) = code.FrameUnexpected
code_back (of_connection rules.frame_error) = code.FrameError
code_back (of_connection rules.excessive_load) = code.ExcessiveLoad
code_back (of_connection rules.id_error) = code.IdError
code_back (of_connection rules.settings_error) = code.SettingsError
code_back (of_connection rules.missing_settings) = code.MissingSettings

code_same : (c : Code) → code_back (coded (code_number (code_of c))) ≡ c
unfolding code_back coded code_in named named_in rows number_of
code_same code.StreamCreationError = refl
code_same code.ClosedCriticalStream = refl
code_same code.FrameUnexpected = refl
code_same code.FrameError = refl
code_same code.ExcessiveLoad = refl
code_same code.IdError = refl
code_same code.SettingsError = refl
code_same code.MissingSettings = refl
code_same code.RequestRejected = refl
code_same code.RequestCancelled = refl
code_same code.RequestIncomplete = refl
code_same code.MessageError = refl

code_one : (c d : Code) → code_number (code_of c) ≡ code_number (code_of d) → c ≡ d
code_one c d e = sym (code_same c) ∙ ap (λ n. code_back (coded n)) e ∙ code_same d

size_one : (x y : Maybe ℕ) → size_is x ≡ size_is y → x ≡ y
size_one None None e = refl
size_one None (Some n) e = cc
size_one (Some m) None e = cc
size_one (Some m) (Some n) e = cc

abbrev built : Maybe ℕ → (capacity blocked : ℕ) → kept.Settings
built s c b = record { size = s; capacity = c; blocked = b }

pub settings_one : (x y : kept.Settings) → settings_is x ≡ settings_is y → x ≡ y
settings_one x y e =
    ap (λ s. built s x.capacity x.blocked) (size_one x.size y.size (ap (λ (z : Settings). z.section_size) e))
    ∙ ap (λ c. built y.size c x.blocked) (ap (λ (z : Settings). z.table_capacity) e)
    ∙ ap (λ b. built y.size y.capacity b) (ap (λ (z : Settings). z.blocked_streams) e)

pub judged_one : (x y : Result kept.Settings Code) → judged_is x ≡ judged_is y → x ≡ y
judged_one (Err c) (Err d) e = ap Err (code_one c d (cc))
judged_one (Err c) (Ok t) e = cc
judged_one (Ok s) (Err d) e = cc
judged_one (Ok s) (Ok t) e = let i = settings_one s t (cc) in cc

pub single_one : (x y : Maybe ℕ) → single_is x ≡ single_is y → x ≡ y
single_one (Some v) (Some w) e = cc
single_one (Some v) None e = cc
single_one None (Some w) e = cc
single_one None None e = refl
