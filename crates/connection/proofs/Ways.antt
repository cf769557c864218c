-- Laws of a start. Assumes nothing.
use Rattle.std.specs.Prelude.{◌≡◌, refl, ℕ, Ok, Err}
use Rattle.std.proofs.Common.{ap, ◌∙◌}
use borrow.Author.Tests.{eq-eqb, ne_eqb}
use Rattle.rules.specs.declared.codes.House.TheVariants.{OtherRow}
use Rattle.record.specs.declared.Record.{Record}
use Rattle.record.specs.Row.{free_record}
use Rattle.connection.specs.declared.Connection.{Connection}
use Rattle.connection.specs.Turned.{fresh_connection, started_of, begun_as, begun_of, swept_of}

pub started_fresh : (len : ℕ) {d : Connection} → len ≡ 24 → d ≡ fresh_connection → Ok d ≡ started_of len
unfolding started_of
started_fresh len e q = let x = eq-eqb len 24 e in ap Ok q ∙ rw (x, started_of) refl

pub started_other : (len : ℕ) → (len ≡ 24 → ⊥) → Err OtherRow ≡ started_of len
unfolding started_of
started_other len n = let x = ne_eqb len 24 n in rw (x, started_of) refl

pub begun_fresh : (c : Connection) (len : ℕ) {d : Connection} → len ≡ 24 → d ≡ fresh_connection → record { number = 0; conn = d } ≡ begun_of c len
begun_fresh c len e q = ap (begun_as c) (started_fresh len e q)

pub begun_other : (c : Connection) (len : ℕ) → (len ≡ 24 → ⊥) → record { number = 9; conn = c } ≡ begun_of c len
begun_other c len n = ap (begun_as c) (started_other len n)

module _ (len : ℕ) (r : Record) {q : Record} where
  pub swept_free : len ≡ 24 → q ≡ free_record → q ≡ swept_of len r
  unfolding swept_of
  swept_free e f = let x = eq-eqb len 24 e in f ∙ rw (x, swept_of) refl

  pub swept_other : (len ≡ 24 → ⊥) → q ≡ r → q ≡ swept_of len r
  unfolding swept_of
  swept_other n f = let x = ne_eqb len 24 n in f ∙ rw (x, swept_of) refl
