-- The pair that a start leaves. Assumes nothing.
use Rattle.std.specs.Prelude.{◌≡◌, refl, ℕ, zero, suc, List, [], ◌∷◌, map, length}
use Rattle.std.proofs.Common.{sym, ap, ◌∙◌, arith, inl}
use Rattle.std.proofs.lemmas.List.{length-map}
use Rattle.record.specs.declared.Record.{Record}
use Rattle.record.specs.Row.{free_record}
use Rattle.connection.specs.declared.Connection.{Connection}
use Rattle.connection.specs.Turned.{begun_of, swept_of}
use Rattle.connection.specs.Pair.{at, Paired}
use Rattle.connection.proofs.Ways.{begun_fresh, swept_free}

all_free : (n : ℕ) → n ≡ 24 → (rows : List Record) (i : ℕ) → at (map (swept_of n) rows) i ≡ free_record
all_free n e [] i = refl
all_free n e (r ∷ rows) zero = sym (swept_free n r e refl)
all_free n e (r ∷ rows) (suc i) = all_free n e rows i

-- IT HOLDS AFTER A START
pub start_pair : (c : Connection) (rows : List Record) → length rows ≡ 24 → Paired (begun_of c (length rows)).conn (map (swept_of (length rows)) rows)
start_pair c rows e = rw (← begun_fresh c (length rows) e refl) (record {
  long = length-map rows (swept_of (length rows)) ∙ e;
  known = λ i. inl (all_free (length rows) e rows i);
  spent = λ i. rw (all_free (length rows) e rows i) (record { request = λ z. absurd (omega arith); one_way = λ z. absurd (omega arith) });
  distinct = λ i j a b h. absurd (a (ap (λ x. x.kind) (all_free (length rows) e rows i)));
  control = λ i z h. (let y = ap (λ x. x.kind) (all_free (length rows) e rows i) in omega arith);
  single = λ i j z h. (let y = ap (λ x. x.kind) (all_free (length rows) e rows i) in absurd (omega arith));
})
