-- Laws of document 01's numbers (rules/Numbers): each name is read back from its number, and each number from its name. Assumes nothing.
use Rattle.std.specs.Prelude.{◌≡◌, ℕ, ◌<◌, List, [], ◌∷◌, Bool, true, false, eqb}
use Rattle.std.proofs.Math.Path.{refl}
use Rattle.std.proofs.Common.{sym, eqb→eq, lit<}
use Rattle.rules.specs.Reading.{Next, stop, go}
use Rattle.rules.specs.Numbers.{not_open, not_next, no_record, section_due, no_section, unreadable, room_short, bad_value, other_row, House, request_rejected, request_cancelled, request_incomplete, message_error, stream_creation_error, closed_critical_stream, frame_unexpected, frame_error, excessive_load, id_error, settings_error, missing_settings, Code, of_stream, of_connection, Answer, accepted, refusal, fault, other, house_number, code_number, number_of, rows, named_in, named, code_in, coded}

-- ---- a case for each row

-- what holds of each row whose number this is
abbrev pub EachRow : (n : ℕ) → (Answer → Type 0) → List Answer → Type 0
EachRow n P [] = Unit {0}
EachRow n P (a ∷ rest) = (n ≡ number_of a → P a) × EachRow n P rest

match : (n : ℕ) (P : Answer → Type 0) (a : Answer) {or : Answer} → (n ≡ number_of a → P a) → P or → (x : Bool) → eqb n (number_of a) ≡ x → P (elim x [ true ↦ a | false ↦ or ])
match n P a this or true e = this (eqb→eq n (number_of a) (rw e tt))
match n P a this or false e = or

pub name_view : (n : ℕ) (P : Answer → Type 0) (list : List Answer) → EachRow n P list → P (other n) → P (named_in list n)
unfolding named_in
name_view n P [] each none = none
name_view n P (a ∷ rest) each none = match n P a each.0 (name_view n P rest each.1 none) (eqb n (number_of a)) refl

-- ---- numbers and names

exact_in : (n : ℕ) (list : List Answer) → number_of (named_in list n) ≡ n
unfolding named_in
exact_in n [] = unfold number_of in refl
exact_in n (a ∷ rest) = match n (λ b. number_of b ≡ n) a (λ e. sym e) (exact_in n rest) (eqb n (number_of a)) refl

-- A NUMBER is its name's
pub named_exact : (n : ℕ) → number_of (named n) ≡ n
unfolding named
named_exact n = exact_in n (accepted ∷ rows)

-- A NAME is read back from its number
pub refusal_named : (h : House) → named (house_number h) ≡ refusal h
unfolding named named_in rows number_of
refusal_named not_open = refl
refusal_named not_next = refl
refusal_named no_record = refl
refusal_named section_due = refl
refusal_named no_section = refl
refusal_named unreadable = refl
refusal_named room_short = refl
refusal_named bad_value = refl
refusal_named other_row = refl

pub fault_named : (c : Code) → named (code_number c) ≡ fault c
unfolding named named_in rows number_of
fault_named (of_stream request_rejected) = refl
fault_named (of_stream request_cancelled) = refl
fault_named (of_stream request_incomplete) = refl
fault_named (of_stream message_error) = refl
fault_named (of_connection stream_creation_error) = refl
fault_named (of_connection closed_critical_stream) = refl
fault_named (of_connection frame_unexpected) = refl
fault_named (of_connection frame_error) = refl
fault_named (of_connection excessive_load) = refl
fault_named (of_connection id_error) = refl
fault_named (of_connection settings_error) = refl
fault_named (of_connection missing_settings) = refl

pub coded_back : (c : Code) → coded (code_number c) ≡ c
unfolding coded code_in
coded_back c = rw (fault_named c) refl

-- no code is the number of an acceptance or of the house
pub code_high : (c : Code) → 9 < code_number c
code_high (of_stream request_rejected) = lit< tt
code_high (of_stream request_cancelled) = lit< tt
code_high (of_stream request_incomplete) = lit< tt
code_high (of_stream message_error) = lit< tt
code_high (of_connection stream_creation_error) = lit< tt
code_high (of_connection closed_critical_stream) = lit< tt
code_high (of_connection frame_unexpected) = lit< tt
code_high (of_connection frame_error) = lit< tt
code_high (of_connection excessive_load) = lit< tt
code_high (of_connection id_error) = lit< tt
code_high (of_connection settings_error) = lit< tt
code_high (of_connection missing_settings) = lit< tt

-- ---- a judgement, its code by its number

pub data Numbered (P : Type 0) : Type 0 where
  stops : (number : ℕ) → Numbered P
  goes : P → Numbered P

unfoldable pub numbered : {P : Type 0} → Next P → Numbered P
numbered (stop code) = stops (code_number code)
numbered (go p) = goes p

-- ---- how far a code reaches

abbrev pub OfStream : Code → Type 0
OfStream (of_stream f) = Unit {0}
OfStream (of_connection f) = ⊥

abbrev pub OfConnection : Code → Type 0
OfConnection (of_stream f) = ⊥
OfConnection (of_connection f) = Unit {0}
