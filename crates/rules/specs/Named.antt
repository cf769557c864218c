-- The code's names for refusals and reasons, in the rules' words (Numbers, Section). Assumes nothing.
use Rattle.std.specs.Prelude.{ℕ, ◌≡◌}
use Rattle.std.proofs.Math.Path.{refl, ap}
use Rattle.std.proofs.Common.{◌∙◌}
use Rattle.rules.specs.Numbers.{House, Code, code_number, not_open, not_next, no_record, section_due, no_section, unreadable, room_short, bad_value, other_row, of_stream, of_connection, request_rejected, request_cancelled, request_incomplete, message_error, stream_creation_error, closed_critical_stream, frame_unexpected, frame_error, excessive_load, id_error, settings_error, missing_settings}
use Rattle.rules.specs.Section.{Reason, too_large, bad_bytes, unknown_pseudo, repeated_pseudo, late_pseudo, pseudo_in_trailers, connection_field, other_te, bad_method, no_method, repeated_length, length_in_trailers, no_digits, length_above, repeated_host, connect, no_scheme_or_path, other_scheme, bad_path, no_authority, empty_authority, authorities_differ, at_in_authority, length_past_limit, no_length}
use Rattle.rules.specs.declared.codes.House as declared-house
use Rattle.rules.specs.declared.codes.House.TheVariants as house
use Rattle.rules.specs.declared.codes.Code as declared-code
use Rattle.rules.specs.declared.codes.Code.TheVariants as code
use Rattle.rules.specs.declared.reasons.Reason as declared-reason
use Rattle.rules.specs.declared.reasons.Reason.TheVariants as reason

abbrev pub house_of : declared-house.House → House
house_of house.NotOpen = not_open
house_of house.NotNext = not_next
house_of house.NoRecord = no_record
house_of house.SectionDue = section_due
house_of house.NoSection = no_section
house_of house.Unreadable = unreadable
house_of house.RoomShort = room_short
house_of house.BadValue = bad_value
house_of house.OtherRow = other_row

abbrev pub code_of : declared-code.Code → Code
code_of code.StreamCreationError = of_connection stream_creation_error
code_of code.ClosedCriticalStream = of_connection closed_critical_stream
code_of code.FrameUnexpected = of_connection frame_unexpected
code_of code.FrameError = of_connection frame_error
code_of code.ExcessiveLoad = of_connection excessive_load
code_of code.IdError = of_connection id_error
code_of code.SettingsError = of_connection settings_error
code_of code.MissingSettings = of_connection missing_settings
code_of code.RequestRejected = of_stream request_rejected
code_of code.RequestCancelled = of_stream request_cancelled
code_of code.RequestIncomplete = of_stream request_incomplete
code_of code.MessageError = of_stream message_error

-- and the name of each
abbrev pub code_named : Code → declared-code.Code
code_named (of_connection stream_creation_error) = code.StreamCreationError
code_named (of_connection closed_critical_stream) = code.ClosedCriticalStream
code_named (of_connection frame_unexpected) = code.FrameUnexpected
code_named (of_connection frame_error) = code.FrameError
code_named (of_connection excessive_load) = code.ExcessiveLoad
code_named (of_connection id_error) = code.IdError
code_named (of_connection settings_error) = code.SettingsError
code_named (of_connection missing_settings) = code.MissingSettings
code_named (of_stream request_rejected) = code.RequestRejected
code_named (of_stream request_cancelled) = code.RequestCancelled
code_named (of_stream request_incomplete) = code.RequestIncomplete
code_named (of_stream message_error) = code.MessageError

pub code_back : (c : Code) → code_of (code_named c) ≡ c
code_back (of_connection stream_creation_error) = refl
code_back (of_connection closed_critical_stream) = refl
code_back (of_connection frame_unexpected) = refl
code_back (of_connection frame_error) = refl
code_back (of_connection excessive_load) = refl
code_back (of_connection id_error) = refl
code_back (of_connection settings_error) = refl
code_back (of_connection missing_settings) = refl
code_back (of_stream request_rejected) = refl
code_back (of_stream request_cancelled) = refl
code_back (of_stream request_incomplete) = refl
code_back (of_stream message_error) = refl

pub number_named : (c : Code) {r : declared-code.Code} {n : ℕ} → r ≡ code_named c → n ≡ code_number (code_of r) → n ≡ code_number c
number_named c e f = f ∙ ap (λ x. code_number (code_of x)) e ∙ ap code_number (code_back c)

abbrev pub reason_of : declared-reason.Reason → Reason
reason_of reason.TooLarge = too_large
reason_of reason.BadBytes = bad_bytes
reason_of reason.UnknownPseudo = unknown_pseudo
reason_of reason.RepeatedPseudo = repeated_pseudo
reason_of reason.LatePseudo = late_pseudo
reason_of reason.PseudoInTrailers = pseudo_in_trailers
reason_of reason.ConnectionField = connection_field
reason_of reason.OtherTe = other_te
reason_of reason.BadMethod = bad_method
reason_of reason.NoMethod = no_method
reason_of reason.RepeatedLength = repeated_length
reason_of reason.LengthInTrailers = length_in_trailers
reason_of reason.NoDigits = no_digits
reason_of reason.LengthAbove = length_above
reason_of reason.RepeatedHost = repeated_host
reason_of reason.Connect = connect
reason_of reason.NoSchemeOrPath = no_scheme_or_path
reason_of reason.OtherScheme = other_scheme
reason_of reason.BadPath = bad_path
reason_of reason.NoAuthority = no_authority
reason_of reason.EmptyAuthority = empty_authority
reason_of reason.AuthoritiesDiffer = authorities_differ
reason_of reason.AtInAuthority = at_in_authority
reason_of reason.LengthPastLimit = length_past_limit
reason_of reason.NoLength = no_length

-- and the name of each
abbrev pub reason_named : Reason → declared-reason.Reason
reason_named too_large = reason.TooLarge
reason_named bad_bytes = reason.BadBytes
reason_named unknown_pseudo = reason.UnknownPseudo
reason_named repeated_pseudo = reason.RepeatedPseudo
reason_named late_pseudo = reason.LatePseudo
reason_named pseudo_in_trailers = reason.PseudoInTrailers
reason_named connection_field = reason.ConnectionField
reason_named other_te = reason.OtherTe
reason_named bad_method = reason.BadMethod
reason_named no_method = reason.NoMethod
reason_named repeated_length = reason.RepeatedLength
reason_named length_in_trailers = reason.LengthInTrailers
reason_named no_digits = reason.NoDigits
reason_named length_above = reason.LengthAbove
reason_named repeated_host = reason.RepeatedHost
reason_named connect = reason.Connect
reason_named no_scheme_or_path = reason.NoSchemeOrPath
reason_named other_scheme = reason.OtherScheme
reason_named bad_path = reason.BadPath
reason_named no_authority = reason.NoAuthority
reason_named empty_authority = reason.EmptyAuthority
reason_named authorities_differ = reason.AuthoritiesDiffer
reason_named at_in_authority = reason.AtInAuthority
reason_named length_past_limit = reason.LengthPastLimit
reason_named no_length = reason.NoLength

pub reason_back : (r : Reason) → reason_of (reason_named r) ≡ r
reason_back too_large = refl
reason_back bad_bytes = refl
reason_back unknown_pseudo = refl
reason_back repeated_pseudo = refl
reason_back late_pseudo = refl
reason_back pseudo_in_trailers = refl
reason_back connection_field = refl
reason_back other_te = refl
reason_back bad_method = refl
reason_back no_method = refl
reason_back repeated_length = refl
reason_back length_in_trailers = refl
reason_back no_digits = refl
reason_back length_above = refl
reason_back repeated_host = refl
reason_back connect = refl
reason_back no_scheme_or_path = refl
reason_back other_scheme = refl
reason_back bad_path = refl
reason_back no_authority = refl
reason_back empty_authority = refl
reason_back authorities_differ = refl
reason_back at_in_authority = refl
reason_back length_past_limit = refl
reason_back no_length = refl
