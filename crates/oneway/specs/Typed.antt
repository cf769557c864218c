-- A stream's type, read a byte at a time to its end or the piece's. Assumes nothing.
use Rattle.std.specs.Prelude.{◌≡◌, ℕ, suc, ◌+◌, ◌≤◌, ◌<◌, List, [], ◌∷◌, length, drop, get_or, Result, Ok, Err}
use Rattle.std.proofs.Common.{refl, sym, ap, ◌∙◌, zero-add, add-one, arith, drop-cons}
use Rattle.std.proofs.Math.ListN.{drop_of_length-le}
use Rattle.rules.specs.OneWay.{type_rule}
use Rattle.meaning.specs.Machine.{Prog, Fed, going, value, fed}
use Rattle.meaning.specs.OneWayFeed.{OneFeeding, also, typed_feed, type_feed}
use Rattle.varint.specs.declared.Part.{Part}
use Rattle.varint.specs.ByByte.{Step}
use Rattle.std.specs.declared.ops.ControlFlow.TheVariants.{Continue, Break}
use Rattle.varint.specs.ByByte.{part, prog, read_as, step_reads, Good, Stepped}

-- so many type bytes before what follows
unfoldable pub one_past : (bytes : ℕ) → OneFeeding → OneFeeding
one_past k f = record { used = k + f.used; heads = f.heads; event = f.event; after = f.after }

pub one_past_none : (f : OneFeeding) → one_past 0 f ≡ f
unfolding one_past
one_past_none f = let a = zero-add f.used in rw a

one_past_past : (k j : ℕ) (f : OneFeeding) → one_past k (one_past j f) ≡ one_past (k + j) f
unfolding one_past
one_past_past k j f = let a : k + (j + f.used) ≡ (k + j) + f.used = omega arith in rw a

also_is : (f : OneFeeding) → also f ≡ one_past 1 f
unfolding also one_past
also_is f = let a : suc f.used ≡ 1 + f.used = omega arith in rw a

-- a type that is whole, and what follows it from `next` on; or what the whole piece leaves of one
pub record TypeWhole (s : List ℕ) (acc due t next : ℕ) : Type 0 where
  pub is : (seen : List ℕ) (allow : ℕ) → type_feed seen allow (prog due acc) s ≡ one_past next (typed_feed allow (type_rule seen t) (drop next s))
  pub within : next ≤ length s

pub record TypeCut (s : List ℕ) (acc due : ℕ) (p : Part) : Type 0 where
  pub is : (seen : List ℕ) (allow : ℕ) → type_feed seen allow (prog due acc) s ≡ one_past (length s) (type_feed seen allow (prog p.due p.acc) [])
  pub good : Good p

abbrev pub TypeRead : (s : List ℕ) (acc due : ℕ) → Result (ℕ × ℕ) Part → Type 0
TypeRead s acc due (Ok w) = TypeWhole s acc due w.0 w.1
TypeRead s acc due (Err p) = TypeCut s acc due p

-- ---- one byte

module _ (seen : List ℕ) (allow : ℕ) (g : Prog) (b : ℕ) (bs : List ℕ) where
  byte_more : {h : Prog} → fed g b ≡ going h → type_feed seen allow g (b ∷ bs) ≡ one_past 1 (type_feed seen allow h bs)
  unfolding type_feed
  byte_more {h} e = rw (e, type_feed) (also_is (type_feed seen allow h bs))

  byte_done : {t : ℕ} → fed g b ≡ value t → type_feed seen allow g (b ∷ bs) ≡ one_past 1 (typed_feed allow (type_rule seen t) bs)
  unfolding type_feed
  byte_done {t} e = rw (e, type_feed) (also_is (typed_feed allow (type_rule seen t) bs))

-- ---- byte by byte

-- so far: p is what was read of the type in the bytes up to i
pub record OnType (s : List ℕ) (acc due i : ℕ) (p : Part) : Type 0 where
  pub is : (seen : List ℕ) (allow : ℕ) → type_feed seen allow (prog due acc) s ≡ one_past i (type_feed seen allow (prog p.due p.acc) (drop i s))
  pub within : i ≤ length s
  pub good : Good p

pub type_begins : (s : List ℕ) (acc due : ℕ) → Good (part acc due) → OnType s acc due 0 (part acc due)
type_begins s acc due g = record { is = λ seen allow. sym (one_past_none _); within = omega arith; good = g }

module _ (s : List ℕ) (acc due i : ℕ) (p : Part) (o : OnType s acc due i p) where
  module _ (l : i < length s) {r : Step} (st : Stepped p (get_or s i 0) r) where
    here : (x : Fed) → read_as r ≡ x → fed (prog p.due p.acc) (get_or s i 0) ≡ x
    here x e = sym (step_reads p (get_or s i 0)) ∙ ap read_as (sym st.is) ∙ e

    -- the byte at i, and what follows it
    byte : (seen : List ℕ) (allow : ℕ) (f : OneFeeding) → type_feed seen allow (prog p.due p.acc) (get_or s i 0 ∷ drop (suc i) s) ≡ one_past 1 f
        → type_feed seen allow (prog due acc) s ≡ one_past (i + 1) f
    byte seen allow f e =
        let d = drop-cons s i 0 l in
        o.is seen allow ∙ ap (λ x. one_past i (type_feed seen allow (prog p.due p.acc) x)) d ∙ ap (one_past i) e ∙ one_past_past i 1 f

    at_next : (f : List ℕ → OneFeeding) → one_past (i + 1) (f (drop (suc i) s)) ≡ one_past (i + 1) (f (drop (i + 1) s))
    at_next f = ap (λ n. one_past (i + 1) (f (drop n s))) (sym (add-one i))

    pub type_on : {q : Part} → r ≡ Continue q → OnType s acc due (i + 1) q
    unfolding read_as
    type_on {q} e =
        let k = rw e at st.good in
        record {
          is = λ seen allow. byte seen allow _ (byte_more seen allow _ _ _ (here (going (prog q.due q.acc)) (ap read_as e))) ∙ at_next (λ x. type_feed seen allow (prog q.due q.acc) x);
          within = omega arith;
          good = k;
        }

    pub type_whole : {t : ℕ} → r ≡ Break t → TypeWhole s acc due t (i + 1)
    unfolding read_as
    type_whole {t} e = record {
      is = λ seen allow. byte seen allow _ (byte_done seen allow _ _ _ (here (value t) (ap read_as e))) ∙ at_next (λ x. typed_feed allow (type_rule seen t) x);
      within = omega arith;
    }

  pub type_ends : length s ≤ i → TypeCut s acc due p
  type_ends n = record {
    is = λ seen allow. o.is seen allow ∙ (let w = o.within in let l : i ≡ length s = omega arith in let d : drop i s ≡ [] = drop_of_length-le s {i = i} n in rw (d, l) refl);
    good = o.good;
  }
