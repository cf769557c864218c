-- What a connection fault does: the code is kept, all else is as before (document 01's last table). Assumes nothing.
use Rattle.std.specs.Prelude.{◌≡◌, ℕ, ◌≤◌, ◌∷◌, Bool, true, false, ◌⊎◌}
use Rattle.std.proofs.Math.Path.{refl, sym}
use Rattle.std.proofs.Common.{ap, ◌∙◌, arith, inl, inr}
use Rattle.std.proofs.Math.Option.{Option, none, some}
use Rattle.rules.specs.Numbers.{ConnectionFault, stream_creation_error, closed_critical_stream, frame_unexpected, frame_error, excessive_load, id_error, settings_error, missing_settings, StreamFault, of_stream, of_connection, Answer, accepted, refusal, fault, other, code_number, number_of, rows, named, Leaves, nothing_altered, id_unspent, untouched, record_freed, code_kept, house_leaves, leaves}
use Rattle.meaning.specs.NumberLaws.{name_view, named_exact, fault_named, code_high}
use Rattle.connection.specs.declared.doors.Doors.{Doors}
use Rattle.connection.specs.declared.Connection.{Connection}
use Rattle.connection.specs.Halves.{with_doors}

-- document 01's last table says which numbers are kept
unfoldable pub keeps : Option Leaves → Bool
keeps none = false
keeps (some nothing_altered) = false
keeps (some id_unspent) = false
keeps (some untouched) = false
keeps (some record_freed) = false
keeps (some code_kept) = true

-- as before, but for the code
abbrev pub coded : (code : ℕ) → Doors → Doors
coded code d = record { code = code; requests = d.requests; oneways = d.oneways; goaways = d.goaways; goaway = d.goaway }

abbrev pub with_code : (code : ℕ) → Connection → Connection
with_code code c = with_doors c (coded code c.doors)

unfoldable pub kept_if : Bool → (code : ℕ) → Doors → Doors
kept_if true code d = coded code d
kept_if false code d = d

-- THE DOORS THAT A NUMBER LEAVES
abbrev pub code_in : Doors → (number : ℕ) → Doors
code_in d n = kept_if (keeps (leaves (named n))) n d

-- THE CONNECTION THAT A NUMBER LEAVES
abbrev pub code_kept_in : Connection → (number : ℕ) → Connection
code_kept_in c n = with_doors c (code_in c.doors n)

-- ---- laws

-- the number of a connection fault
abbrev pub Fault : ℕ → Type 0
Fault n = (f : ConnectionFault) × (n ≡ code_number (of_connection f))

-- a number is a connection fault's, or it is not
pub faulty : (n : ℕ) → Fault n ⊎ (Fault n → ⊥)
unfolding number_of
faulty n = by (named n) (named_exact n) (λ f e. ap named e ∙ fault_named (of_connection f))
  where
    by : (a : Answer) → number_of a ≡ n → ((f : ConnectionFault) → n ≡ code_number (of_connection f) → a ≡ fault (of_connection f)) → Fault n ⊎ (Fault n → ⊥)
    by accepted e back = inr (λ x. (let q = back x.0 x.1 in let z : ◌≡◌ {A = ℕ} 0 1 = cc in omega arith))
    by (refusal h) e back = inr (λ x. (let q = back x.0 x.1 in let z : ◌≡◌ {A = ℕ} 0 1 = cc in omega arith))
    by (fault (of_stream f)) e back = inr (λ x. (let q = back x.0 x.1 in let z : ◌≡◌ {A = ℕ} 0 1 = cc in omega arith))
    by (fault (of_connection f)) e back = inl (f, sym e)
    by (other m) e back = inr (λ x. (let q = back x.0 x.1 in let z : ◌≡◌ {A = ℕ} 0 1 = cc in omega arith))

no_fault : (n : ℕ) → (Fault n → ⊥) → keeps (leaves (named n)) ≡ false
unfolding named rows number_of leaves house_leaves keeps
no_fault n none_is =
    name_view n (λ a. keeps (leaves a) ≡ false) (accepted ∷ rows)
    ((λ e. refl), ((λ e. refl), ((λ e. refl), ((λ e. refl), ((λ e. refl), ((λ e. refl), ((λ e. refl), ((λ e. refl), ((λ e. refl), ((λ e. refl), ((λ e. refl), ((λ e. refl), ((λ e. refl), ((λ e. refl), ((λ e. absurd (none_is (stream_creation_error, e))), ((λ e. absurd (none_is (closed_critical_stream, e))), ((λ e. absurd (none_is (frame_unexpected, e))), ((λ e. absurd (none_is (frame_error, e))), ((λ e. absurd (none_is (excessive_load, e))), ((λ e. absurd (none_is (id_error, e))), ((λ e. absurd (none_is (settings_error, e))), ((λ e. absurd (none_is (missing_settings, e))), tt))))))))))))))))))))))
    refl

-- each of the numbers that are kept, and no other
pub keeps_one : (f : ConnectionFault) (n : ℕ) → n ≡ code_number (of_connection f) → true ≡ keeps (leaves (named n))
unfolding keeps leaves
keeps_one f n e = let q = fault_named (of_connection f) in rw (e, q) refl

pub keeps_none : (n : ℕ) → (Fault n → ⊥) → false ≡ keeps (leaves (named n))
keeps_none n h = sym (no_fault n h)

module _ (d : Doors) (n : ℕ) where
  pub kept_so : {b : Bool} {e : Doors} → b ≡ keeps (leaves (named n)) → b ≡ true → e ≡ coded n d → e ≡ code_in d n
  unfolding kept_if
  kept_so e t q = let k = sym e ∙ t in rw k q

  pub kept_not : {b : Bool} → b ≡ keeps (leaves (named n)) → b ≡ false → d ≡ code_in d n
  unfolding kept_if
  kept_not e f = let k = sym e ∙ f in rw k refl

module _ (c : Connection) (n : ℕ) where
  pub kept_fault : Fault n → with_code n c ≡ code_kept_in c n
  kept_fault (f, e) = ap (with_doors c) (kept_so c.doors n (keeps_one f n e) refl refl)

  pub kept_none : (Fault n → ⊥) → c ≡ code_kept_in c n
  kept_none h = ap (with_doors c) (kept_not c.doors n (keeps_none n h) refl)

  -- 0 and the house's numbers keep nothing
  pub kept_small : n ≤ 9 → c ≡ code_kept_in c n
  kept_small l = kept_none (λ x. (let h = code_high (of_connection x.0) in let e = x.1 in omega arith))

module _ (c : Connection) where
  pub connection_keeps : (f : ConnectionFault) → code_kept_in c (code_number (of_connection f)) ≡ with_code (code_number (of_connection f)) c
  connection_keeps f = sym (kept_fault c (code_number (of_connection f)) (f, refl))

  pub stream_keeps_none : (f : StreamFault) → code_kept_in c (code_number (of_stream f)) ≡ c
  unfolding kept_if keeps leaves
  stream_keeps_none f = let e = fault_named (of_stream f) in rw e refl
