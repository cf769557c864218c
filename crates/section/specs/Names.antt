-- What a name is to the rules: found once, by its length and the names of that length; and each test of the rules on a name, by what was found. Assumes nothing.
use Rattle.std.specs.Prelude.{ℕ, Bool, cond, ◌||◌, ◌&&◌, length, get_or}
use Rattle.std.proofs.Math.Path.{◌≡◌, refl, ap}
use Rattle.std.proofs.Common.{sym, ◌∙◌, subst, arith, eqb-true, eq-eqb, ne_eqb}
use mathlib.Core.List.{List, [], ◌∷◌}
use Rattle.std.proofs.Math.Bool.{true, false, not}
use Rattle.std.proofs.Math.Dec.{eqb}
use Rattle.rules.specs.Text.{ascii, any, same}
use Rattle.rules.specs.Section.{begins, pseudo_fields, connection_fields}
use Rattle.section.specs.declared.Name.{Name}
use Rattle.section.specs.declared.Name.TheVariants as name

-- ---- ten kinds of names; the first six are those whose first line is kept

abbrev pub method : Name
method = name.Method

abbrev pub scheme : Name
scheme = name.Scheme

abbrev pub authority : Name
authority = name.Authority

abbrev pub path : Name
path = name.Path

abbrev pub host : Name
host = name.Host

abbrev pub content_length : Name
content_length = name.Length

abbrev pub te : Name
te = name.Te

abbrev pub connection : Name
connection = name.Connection

abbrev pub unknown : Name
unknown = name.Unknown

abbrev pub plain : Name
plain = name.Plain

-- what holds of each of the ten
pub by_kind : (P : Name → Type 0) → P method → P scheme → P authority → P path → P host → P content_length → P te → P connection → P unknown → P plain
    → (k : Name) → P k
by_kind P a b c d e f g h i j name.Method = a
by_kind P a b c d e f g h i j name.Scheme = b
by_kind P a b c d e f g h i j name.Authority = c
by_kind P a b c d e f g h i j name.Path = d
by_kind P a b c d e f g h i j name.Host = e
by_kind P a b c d e f g h i j name.Length = f
by_kind P a b c d e f g h i j name.Te = g
by_kind P a b c d e f g h i j name.Connection = h
by_kind P a b c d e f g h i j name.Unknown = i
by_kind P a b c d e f g h i j name.Plain = j

-- their order, and whether two are one
abbrev number_of : Name → ℕ
number_of name.Method = 0
number_of name.Scheme = 1
number_of name.Authority = 2
number_of name.Path = 3
number_of name.Host = 4
number_of name.Length = 5
number_of name.Te = 6
number_of name.Connection = 7
number_of name.Unknown = 8
number_of name.Plain = 9

abbrev pub is : Name → Name → Bool
is a b = eqb (number_of a) (number_of b)

named : ℕ → Name
named n = get_or (method ∷ scheme ∷ authority ∷ path ∷ host ∷ content_length ∷ te ∷ connection ∷ unknown ∷ plain ∷ []) n plain

named_back : (k : Name) → named (number_of k) ≡ k
unfolding named
named_back name.Method = refl
named_back name.Scheme = refl
named_back name.Authority = refl
named_back name.Path = refl
named_back name.Host = refl
named_back name.Length = refl
named_back name.Te = refl
named_back name.Connection = refl
named_back name.Unknown = refl
named_back name.Plain = refl

is_true : (a b : Name) → is a b ≡ true → a ≡ b
is_true a b e = sym (named_back a) ∙ ap named (eqb-true (number_of a) (number_of b) e) ∙ named_back b

true_is : (a b : Name) → a ≡ b → is a b ≡ true
true_is a b e = eq-eqb (number_of a) (number_of b) (ap number_of e)

-- a pseudo-field, known or not
abbrev pub pseudo_name : Name → Bool
pseudo_name name.Method = true
pseudo_name name.Scheme = true
pseudo_name name.Authority = true
pseudo_name name.Path = true
pseudo_name name.Host = false
pseudo_name name.Length = false
pseudo_name name.Te = false
pseudo_name name.Connection = false
pseudo_name name.Unknown = true
pseudo_name name.Plain = false

-- the first seven kinds have one name each
abbrev pub name_at : Name → List ℕ
name_at name.Method = ascii ":method"
name_at name.Scheme = ascii ":scheme"
name_at name.Authority = ascii ":authority"
name_at name.Path = ascii ":path"
name_at name.Host = ascii "host"
name_at name.Length = ascii "content-length"
name_at name.Te = ascii "te"
name_at name.Connection = []
name_at name.Unknown = []
name_at name.Plain = []

abbrev pub has_text : Name → Bool
has_text name.Method = true
has_text name.Scheme = true
has_text name.Authority = true
has_text name.Path = true
has_text name.Host = true
has_text name.Length = true
has_text name.Te = true
has_text name.Connection = false
has_text name.Unknown = false
has_text name.Plain = false

-- one of these names
abbrev pub is_one_name : List (List ℕ) → List ℕ → Bool
is_one_name names v = any (λ name. same v name) names

unfoldable pub other_name : List ℕ → Name
other_name n = cond (begins (eqb 0x3a) n) unknown plain

unfoldable pub one_name : (text : List ℕ) → Name → List ℕ → Name
one_name text k n = cond (same n text) k (other_name n)

unfoldable pub of_seven : List ℕ → Name
of_seven n = cond (same n (ascii ":method")) method (cond (same n (ascii ":scheme")) scheme (one_name (ascii "upgrade") connection n))

unfoldable pub of_ten : List ℕ → Name
of_ten n = cond (same n (ascii ":authority")) authority (cond (same n (ascii "connection")) connection (one_name (ascii "keep-alive") connection n))

unfoldable pub long_by : (length : ℕ) → List ℕ → Name
long_by m n =
    cond (eqb m 14) (one_name (ascii "content-length") content_length n)
    (cond (eqb m 16) (one_name (ascii "proxy-connection") connection n)
    (cond (eqb m 17) (one_name (ascii "transfer-encoding") connection n)
    (other_name n)))

unfoldable pub long_name : List ℕ → Name
long_name n = long_by (length n) n

unfoldable pub name_by : (length : ℕ) → List ℕ → Name
name_by m n =
    cond (eqb m 7) (of_seven n)
    (cond (eqb m 10) (of_ten n)
    (cond (eqb m 5) (one_name (ascii ":path") path n)
    (cond (eqb m 4) (one_name (ascii "host") host n)
    (cond (eqb m 2) (one_name (ascii "te") te n)
    (long_name n)))))

unfoldable pub name_of : List ℕ → Name
name_of n = name_by (length n) n

-- the length that was found is the name's
pub of_length : (by : ℕ → List ℕ → Name) (n : List ℕ) {m : ℕ} {r : Name} → length n ≡ m → r ≡ by m n → r ≡ by (length n) n
of_length by n e f = f ∙ ap (λ k. by k n) (sym e)

pub no_long : (n : List ℕ) {r : Name} → (length n ≡ 14 → ⊥) → (length n ≡ 16 → ⊥) → (length n ≡ 17 → ⊥) → r ≡ other_name n → r ≡ long_name n
unfolding long_name long_by
no_long n a b c p = rw (ne_eqb (length n) 14 a, ne_eqb (length n) 16 b, ne_eqb (length n) 17 c) p

pub no_short : (n : List ℕ) {r : Name} → (length n ≡ 7 → ⊥) → (length n ≡ 10 → ⊥) → (length n ≡ 5 → ⊥) → (length n ≡ 4 → ⊥) → (length n ≡ 2 → ⊥)
    → r ≡ long_name n → r ≡ name_of n
unfolding name_of name_by
no_short n a b c d e p = rw (ne_eqb (length n) 7 a, ne_eqb (length n) 10 b, ne_eqb (length n) 5 c, ne_eqb (length n) 4 d, ne_eqb (length n) 2 e) p

-- ---- what is found of a name holds of it

abbrev textual : Name → List ℕ → Bool
textual name.Method v = same v (name_at name.Method)
textual name.Scheme v = same v (name_at name.Scheme)
textual name.Authority v = same v (name_at name.Authority)
textual name.Path v = same v (name_at name.Path)
textual name.Host v = same v (name_at name.Host)
textual name.Length v = same v (name_at name.Length)
textual name.Te v = same v (name_at name.Te)
textual name.Connection v = is_one_name connection_fields v
textual name.Unknown v = true
textual name.Plain v = true

textual_is : (k : Name) (v : List ℕ) → has_text k ≡ true → textual k v ≡ same v (name_at k)
textual_is name.Method v h = refl
textual_is name.Scheme v h = refl
textual_is name.Authority v h = refl
textual_is name.Path v h = refl
textual_is name.Host v h = refl
textual_is name.Length v h = refl
textual_is name.Te v h = refl
textual_is name.Connection v h = let z : ◌≡◌ {A = ℕ} 0 1 = cc in absurd (omega arith)
textual_is name.Unknown v h = let z : ◌≡◌ {A = ℕ} 0 1 = cc in absurd (omega arith)
textual_is name.Plain v h = let z : ◌≡◌ {A = ℕ} 0 1 = cc in absurd (omega arith)

-- what is found holds of the name
abbrev Holds : List ℕ → Name → Type 0
Holds n k = (textual k n ≡ true) × (begins (eqb 0x3a) n ≡ pseudo_name k)

same_is : (a b : List ℕ) → same a b ≡ true → a ≡ b
unfolding same
same_is [] [] e = refl
same_is [] (y ∷ b) e = let z : ◌≡◌ {A = ℕ} 0 1 = cc in absurd (omega arith)
same_is (x ∷ a) [] e = let z : ◌≡◌ {A = ℕ} 0 1 = cc in absurd (omega arith)
same_is (x ∷ a) (y ∷ b) e = go (eqb x y) refl e (same_is a b)
  where
    go : (t : Bool) → eqb x y ≡ t → (t && same a b) ≡ true → (same a b ≡ true → a ≡ b) → x ∷ a ≡ y ∷ b
    go true f g ih = let p : x ≡ y = eqb-true x y f in let q : a ≡ b = ih g in cc
    go false f g ih = let z : ◌≡◌ {A = ℕ} 0 1 = cc in absurd (omega arith)

-- each of the seven is found for what it is
own : (k : Name) → has_text k ≡ true → name_of (name_at k) ≡ k
unfolding name_of name_by long_name long_by of_seven of_ten one_name other_name ascii same begins
own name.Method h = refl
own name.Scheme h = refl
own name.Authority h = refl
own name.Path h = refl
own name.Host h = refl
own name.Length h = refl
own name.Te h = refl
own name.Connection h = let z : ◌≡◌ {A = ℕ} 0 1 = cc in absurd (omega arith)
own name.Unknown h = let z : ◌≡◌ {A = ℕ} 0 1 = cc in absurd (omega arith)
own name.Plain h = let z : ◌≡◌ {A = ℕ} 0 1 = cc in absurd (omega arith)

module _ (n : List ℕ) where
  in_other : Holds n (other_name n)
  unfolding other_name
  in_other = go (begins (eqb 0x3a) n) refl
    where
      go : (t : Bool) → begins (eqb 0x3a) n ≡ t → Holds n (cond t unknown plain)
      go true e = (refl, e)
      go false e = (refl, e)

  in_test : (text : List ℕ) (k rest : Name) → Holds text k → Holds n rest → Holds n (cond (same n text) k rest)
  in_test text k rest h r = go (same n text) refl
    where
      go : (t : Bool) → same n text ≡ t → Holds n (cond t k rest)
      go true e = subst (λ (x : List ℕ). Holds x k) (sym (same_is n text e)) h
      go false e = r

  in_one : (text : List ℕ) (k : Name) → Holds text k → Holds n (one_name text k n)
  unfolding one_name
  in_one text k h = in_test text k (other_name n) h in_other

  in_cond : (t : Bool) (a b : Name) → Holds n a → Holds n b → Holds n (cond t a b)
  in_cond true a b p q = p
  in_cond false a b p q = q

  holds_so : Holds n (name_of n)
  unfolding name_of name_by long_name long_by of_seven of_ten ascii same any begins connection_fields
  holds_so =
      in_cond (eqb (length n) 7) _ _
      (in_test (ascii ":method") method _ (refl, refl) (in_test (ascii ":scheme") scheme _ (refl, refl) (in_one (ascii "upgrade") connection (refl, refl))))
      (in_cond (eqb (length n) 10) _ _
      (in_test (ascii ":authority") authority _ (refl, refl) (in_test (ascii "connection") connection _ (refl, refl) (in_one (ascii "keep-alive") connection (refl, refl))))
      (in_cond (eqb (length n) 5) _ _ (in_one (ascii ":path") path (refl, refl))
      (in_cond (eqb (length n) 4) _ _ (in_one (ascii "host") host (refl, refl))
      (in_cond (eqb (length n) 2) _ _ (in_one (ascii "te") te (refl, refl))
      (in_cond (eqb (length n) 14) _ _ (in_one (ascii "content-length") content_length (refl, refl))
      (in_cond (eqb (length n) 16) _ _ (in_one (ascii "proxy-connection") connection (refl, refl))
      (in_cond (eqb (length n) 17) _ _ (in_one (ascii "transfer-encoding") connection (refl, refl))
      in_other)))))))

  -- ---- each test, by what was found

  by_told : (k : Name) (t : Bool) → (t ≡ true → name_of n ≡ k) → (name_of n ≡ k → t ≡ true) → t ≡ is (name_of n) k
  by_told k true to from = sym (true_is (name_of n) k (to refl))
  by_told k false to from = go (is (name_of n) k) refl
    where
      go : (u : Bool) → is (name_of n) k ≡ u → false ≡ u
      go true e = from (is_true (name_of n) k e)
      go false e = refl

  told_so : (k : Name) → name_of n ≡ k → textual k n ≡ true
  told_so k e = (subst (Holds n) e holds_so).0

  pub text_told : (k : Name) → has_text k ≡ true → same n (name_at k) ≡ is (name_of n) k
  text_told k h =
      by_told k (same n (name_at k)) (λ g. ap name_of (same_is n (name_at k) g) ∙ own k h) (λ g. sym (textual_is k n h) ∙ told_so k g)

  all_so : List (List ℕ) → Type 0
  all_so [] = Unit {0}
  all_so (x ∷ xs) = (name_of x ≡ connection) × all_so xs

  one_of : (names : List (List ℕ)) → all_so names → any (λ name. same n name) names ≡ true → name_of n ≡ connection
  unfolding any all_so
  one_of [] a e = let z : ◌≡◌ {A = ℕ} 0 1 = cc in absurd (omega arith)
  one_of (x ∷ xs) a e = go (same n x) refl e (one_of xs a.1)
    where
      go : (t : Bool) → same n x ≡ t → (t || any (λ name. same n name) xs) ≡ true → (any (λ name. same n name) xs ≡ true → name_of n ≡ connection)
          → name_of n ≡ connection
      go true f g ih = ap name_of (same_is n x f) ∙ a.0
      go false f g ih = ih g

  pub connection_told : is_one_name connection_fields n ≡ is (name_of n) connection
  unfolding name_of name_by long_name long_by of_seven of_ten one_name other_name ascii same begins connection_fields all_so
  connection_told = by_told connection (is_one_name connection_fields n) (one_of connection_fields (refl, (refl, (refl, (refl, (refl, tt)))))) (told_so connection)

  pub pseudo_told : begins (eqb 0x3a) n ≡ pseudo_name (name_of n)
  pseudo_told = holds_so.1

  pub unknown_told : (begins (eqb 0x3a) n && not (is_one_name pseudo_fields n)) ≡ is (name_of n) unknown
  unfolding pseudo_fields any
  unknown_told =
      rw (pseudo_told, text_told method refl, text_told scheme refl, text_told authority refl, text_told path refl)
      (by_kind (λ k. (pseudo_name k && not (is k method || (is k scheme || (is k authority || (is k path || false))))) ≡ is k unknown) refl refl refl refl refl refl refl refl refl refl (name_of n))
