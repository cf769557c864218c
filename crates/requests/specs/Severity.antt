-- Which numbers free a record: document 01's last table. Assumes nothing.
use Rattle.std.specs.Prelude.{◌≡◌, refl, ℕ, zero, suc, ◌+◌, ◌-◌, ◌≤◌, ◌∷◌, false}
use Rattle.std.proofs.Common.{sym, ◌∙◌, arith}
use Rattle.rules.specs.Numbers.{REQUEST-REJECTED, REQUEST-CANCELLED, REQUEST-INCOMPLETE, MESSAGE-ERROR, StreamFault, request_rejected, request_cancelled, request_incomplete, message_error, ConnectionFault, of_stream, of_connection, accepted, code_number, number_of, rows, named, house_leaves, leaves}
use Rattle.meaning.specs.NumberLaws.{name_view, fault_named}
use Rattle.record.specs.declared.Record.{Record}
use Rattle.record.specs.Row.{free_record}
use Rattle.requests.specs.Reply.{frees, freed_if, left_by}

-- ---- by name

-- A STREAM FAULT FREES THE RECORD
pub stream_frees : (f : StreamFault) (r : Record) → left_by (code_number (of_stream f)) r ≡ free_record
unfolding freed_if frees leaves
stream_frees f r = let e = fault_named (of_stream f) in rw e refl

-- a connection fault leaves it as it was
pub connection_leaves : (f : ConnectionFault) (r : Record) → left_by (code_number (of_connection f)) r ≡ r
unfolding freed_if frees leaves
connection_leaves f r = let e = fault_named (of_connection f) in rw e refl

-- ---- by number

abbrev pub NoStreamFault : ℕ → Type 0
NoStreamFault n = (n ≡ REQUEST-REJECTED → ⊥) × (n ≡ REQUEST-CANCELLED → ⊥) × (n ≡ REQUEST-INCOMPLETE → ⊥) × (n ≡ MESSAGE-ERROR → ⊥)

kept_by : (n : ℕ) → NoStreamFault n → frees (leaves (named n)) ≡ false
unfolding named rows number_of leaves house_leaves frees
kept_by n other =
    name_view n (λ a. frees (leaves a) ≡ false) (accepted ∷ rows)
    ((λ e. refl), ((λ e. refl), ((λ e. refl), ((λ e. refl), ((λ e. refl), ((λ e. refl), ((λ e. refl), ((λ e. refl), ((λ e. refl), ((λ e. refl), ((λ e. absurd (other.0 e)), ((λ e. absurd (other.1 e)), ((λ e. absurd (other.2 e)), ((λ e. absurd (other.3 e)), ((λ e. refl), ((λ e. refl), ((λ e. refl), ((λ e. refl), ((λ e. refl), ((λ e. refl), ((λ e. refl), ((λ e. refl), tt))))))))))))))))))))))
    refl

module _ (r : Record) {a : Record} where
  freed : (f : StreamFault) (n : ℕ) → n ≡ code_number (of_stream f) → a ≡ free_record → a ≡ left_by n r
  freed f n e q = rw e (q ∙ sym (stream_frees f r))

  pub freed_between : (n : ℕ) → REQUEST-REJECTED ≤ n → n ≤ MESSAGE-ERROR → a ≡ free_record → a ≡ left_by n r
  freed_between n l h q = by (n - REQUEST-REJECTED) (omega arith)
    where
      by : (k : ℕ) → n ≡ REQUEST-REJECTED + k → a ≡ left_by n r
      by zero e = freed request_rejected n (omega arith) q
      by (suc zero) e = freed request_cancelled n (omega arith) q
      by (suc (suc zero)) e = freed request_incomplete n (omega arith) q
      by (suc (suc (suc zero))) e = freed message_error n (omega arith) q
      by (suc (suc (suc (suc k)))) e = absurd (omega arith)

-- ANY OTHER NUMBER LEAVES IT AS IT WAS
pub left_alone : (r : Record) (n : ℕ) → NoStreamFault n → r ≡ left_by n r
unfolding freed_if
left_alone r n other = let e = kept_by n other in rw e refl
