-- A stream's type in numbers: which types came before, and the kind, or the code, that the rule answers. Assumes nothing.
use Rattle.std.specs.Prelude.{◌≡◌, List, [], ◌∷◌, ◌++◌, Result, Ok, Err}
use Rattle.std.proofs.Math.Path.{refl}
use Rattle.std.proofs.Common.{arith}
use Prim.Native.Nat.{ℕ, zero, suc}
use borrow.Author.Tests.{ne_eqb}
use Rattle.rules.specs.declared.codes.Code as declared-code
use Rattle.rules.specs.declared.codes.Code.TheVariants as code
use Rattle.rules.specs.Named.{code_of}
use Rattle.rules.specs.Text.{is_one_of, lookup}
use Rattle.rules.specs.OneWay.{encoder, decoder, Kind, a_control, a_qpack, skipped, Typed, refuse, is, once, type_rule}
use Rattle.oneway.specs.declared.Seen.{Seen}
use Rattle.record.specs.Kinds.{CONTROL, ENCODER, DECODER, SKIPPED}

-- a type that came, unless this is 0
unfoldable pub came : (times type : ℕ) → List ℕ
came zero t = []
came (suc n) t = t ∷ []

-- the types that came before
unfoldable pub types_of : (control encoder decoder : ℕ) → List ℕ
types_of c e d = came c 0 ++ (came e 2 ++ came d 3)

abbrev pub seen_of : Seen → List ℕ
seen_of s = types_of s.control s.encoder s.decoder

abbrev pub kind_number : Kind → ℕ
kind_number a_control = CONTROL
kind_number (a_qpack encoder) = ENCODER
kind_number (a_qpack decoder) = DECODER
kind_number skipped = SKIPPED

-- the code's answer for a type, and the rule's: a kind's number, or the code that refuses it
abbrev pub KindOf : Result ℕ declared-code.Code → Typed → Type 0
KindOf (Ok n) (refuse x) = ⊥
KindOf (Ok n) (is k) = n ≡ kind_number k
KindOf (Err e) (refuse x) = x ≡ code_of e
KindOf (Err e) (is k) = ⊥

unfoldable pub once_of : (times kind : ℕ) → Result ℕ declared-code.Code
once_of zero kind = Ok kind
once_of (suc n) kind = Err code.StreamCreationError

-- ---- laws: one for each row of the rule

control_type : (c e d : ℕ) → KindOf (once_of c CONTROL) (type_rule (types_of c e d) 0)
unfolding once_of type_rule types_of came once is_one_of lookup
control_type zero zero zero = refl
control_type zero zero (suc d) = refl
control_type zero (suc e) zero = refl
control_type zero (suc e) (suc d) = refl
control_type (suc c) e d = refl

encoder_type : (c e d : ℕ) → KindOf (once_of e ENCODER) (type_rule (types_of c e d) 2)
unfolding once_of type_rule types_of came once is_one_of lookup
encoder_type zero zero zero = refl
encoder_type zero zero (suc d) = refl
encoder_type zero (suc e) d = refl
encoder_type (suc c) zero zero = refl
encoder_type (suc c) zero (suc d) = refl
encoder_type (suc c) (suc e) d = refl

decoder_type : (c e d : ℕ) → KindOf (once_of d DECODER) (type_rule (types_of c e d) 3)
unfolding once_of type_rule types_of came once is_one_of lookup
decoder_type zero zero zero = refl
decoder_type zero zero (suc d) = refl
decoder_type zero (suc e) zero = refl
decoder_type zero (suc e) (suc d) = refl
decoder_type (suc c) zero zero = refl
decoder_type (suc c) zero (suc d) = refl
decoder_type (suc c) (suc e) zero = refl
decoder_type (suc c) (suc e) (suc d) = refl

module _ (t : ℕ) (s : Seen) where
  abbrev Kinds : Result ℕ declared-code.Code → Type 0
  Kinds r = KindOf r (type_rule (seen_of s) t)

  pub kind_control : {r : Result ℕ declared-code.Code} → t ≡ 0 → r ≡ once_of s.control CONTROL → Kinds r
  kind_control e f = rw (f, e) (control_type s.control s.encoder s.decoder)

  pub kind_push : t ≡ 1 → Kinds (Err code.StreamCreationError)
  unfolding type_rule lookup
  kind_push e = rw e refl

  pub kind_encoder : {r : Result ℕ declared-code.Code} → t ≡ 2 → r ≡ once_of s.encoder ENCODER → Kinds r
  kind_encoder e f = rw (f, e) (encoder_type s.control s.encoder s.decoder)

  pub kind_decoder : {r : Result ℕ declared-code.Code} → t ≡ 3 → r ≡ once_of s.decoder DECODER → Kinds r
  kind_decoder e f = rw (f, e) (decoder_type s.control s.encoder s.decoder)

  pub kind_other : (t ≡ 0 → ⊥) → (t ≡ 1 → ⊥) → (t ≡ 2 → ⊥) → (t ≡ 3 → ⊥) → Kinds (Ok SKIPPED)
  unfolding type_rule lookup
  kind_other n0 n1 n2 n3 =
      let a = ne_eqb t 0 n0 in let b = ne_eqb t 1 n1 in let c = ne_eqb t 2 n2 in let d = ne_eqb t 3 n3 in rw (a, b, c, d, type_rule, lookup) refl

-- ---- a control stream comes once

once_else : (n k : ℕ) → (k ≡ CONTROL → ⊥) → KindOf (once_of n k) (is a_control) → ⊥
unfolding once_of
once_else zero k h e = h e
once_else (suc n) k h e = e

once_none : (n : ℕ) → KindOf (once_of n CONTROL) (is a_control) → n ≡ 0
unfolding once_of
once_none zero e = refl
once_none (suc n) e = absurd e

pub control_first : (s : Seen) (t : ℕ) → type_rule (seen_of s) t ≡ is a_control → s.control ≡ 0
control_first s zero q = once_none s.control (rw q at (control_type s.control s.encoder s.decoder))
control_first s (suc zero) q = absurd (rw q at (kind_push 1 s refl))
control_first s (suc (suc zero)) q = absurd (once_else s.encoder ENCODER (λ x. omega arith) (rw q at (encoder_type s.control s.encoder s.decoder)))
control_first s (suc (suc (suc zero))) q = absurd (once_else s.decoder DECODER (λ x. omega arith) (rw q at (decoder_type s.control s.encoder s.decoder)))
control_first s (suc (suc (suc (suc t)))) q =
    let k : KindOf (Ok SKIPPED) (type_rule (seen_of s) (suc (suc (suc (suc t))))) = kind_other _ s (λ x. omega arith) (λ x. omega arith) (λ x. omega arith) (λ x. omega arith) in
    let z : SKIPPED ≡ CONTROL = rw q at k in absurd (omega arith)
