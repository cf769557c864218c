-- Laws of the control rules (rules, Control), so that no one else opens them. Assumes nothing.
use Rattle.std.specs.Prelude.{◌≡◌, ℕ, zero, suc, ◌≤◌, ◌<◌, List, [], ◌∷◌, Bool, true, false, ◌||◌, ltb, eqb, length}
use Rattle.std.proofs.Math.Path.{refl}
use Rattle.std.proofs.Common.{arith, nltb→le, ltb-false, lt-ltb, le-ltb, ne_eqb}
use Rattle.std.proofs.Math.Option.{Option, some}
use Rattle.rules.specs.Numbers.{Code, of_connection, frame_unexpected, frame_error, excessive_load, id_error, settings_error, missing_settings, ConnectionFault}
use Rattle.rules.specs.Text.{is_one_of, lookup}
use Rattle.rules.specs.Integers.{Int, cut, got, integer}
use Rattle.rules.specs.Reading.{Kept, settings, goaway, max_push_id, cancel_push, content, skipped, section, kept, Ruling, refuse, accept, Next, stop, go}
use Rattle.rules.specs.Control.{Settings, set_to, reserved_identifiers, pairs, Control, unset, set, settings_limit, Kind, forbidden, one_integer, unknown, column, rule_for, first_rule, rule, above, below, after_goaway, after_max_push}
use Rattle.rules.specs.Legal.{Unknown}
use Rattle.meaning.specs.TextLaws.{lookup_absent}
use Rattle.meaning.specs.IntegerLaws.{integer_length}

-- ---- the rule answers one of these: nothing of a control stream is content or a section

pub data ControlView (c : Control) : Ruling Control → Type 0 where
  v_refused : {f : ConnectionFault} → ControlView c (refuse (of_connection f))
  v_skipped : ControlView c (accept skipped c)
  v_kept : {k : Kept} → ControlView c (accept (kept k) c)

-- whichever way a test goes
either : {c : Control} (x : Bool) {a b : Ruling Control} → ControlView c a → ControlView c b → ControlView c (elim x [ true ↦ a | false ↦ b ])
either true a b = a
either false a b = b

kind_view : (k : Kind) (c : Control) (len : ℕ) → ControlView c (rule_for k c len)
unfolding rule_for
kind_view forbidden c len = v_refused
kind_view (one_integer k) c len = either (eqb len 0 || ltb 8 len) v_refused v_kept
kind_view unknown c len = v_skipped

pub control_view : (c : Control) (t len : ℕ) → ControlView c (rule c t len)
unfolding rule first_rule
control_view unset t len = either (eqb t 4) (either (ltb settings_limit len) v_refused v_kept) v_refused
control_view (set s g m) t len = kind_view (lookup column unknown t) (set s g m) len

-- ---- what is kept has an end

-- a ruling that keeps a payload keeps one of this length at most
abbrev pub KeptWithin : (most len : ℕ) → Ruling Control → Type 0
KeptWithin most len (refuse code) = Unit {0}
KeptWithin most len (accept content c) = Unit {0}
KeptWithin most len (accept skipped c) = Unit {0}
KeptWithin most len (accept (section t) c) = Unit {0}
KeptWithin most len (accept (kept k) c) = len ≤ most

limit_if : (most len : ℕ) (x : Bool) (code : Code) (r : Ruling Control) → (x ≡ false → KeptWithin most len r) → KeptWithin most len (elim x [ true ↦ refuse code | false ↦ r ])
limit_if most len true code r h = tt
limit_if most len false code r h = h refl

either_false : (a b : Bool) → (a || b) ≡ false → b ≡ false
either_false true b e = let z : ◌≡◌ {A = ℕ} 0 1 = cc in absurd (omega arith)
either_false false b e = e

kind_limit : (k : Kind) (c : Control) (len : ℕ) → KeptWithin settings_limit len (rule_for k c len)
unfolding rule_for settings_limit
kind_limit forbidden c len = tt
kind_limit (one_integer k) c len =
    limit_if 256 len (eqb len 0 || ltb 8 len) (of_connection frame_error) (accept (kept k) c) (λ e. (let h = ltb-false 8 len (either_false (eqb len 0) (ltb 8 len) e) in omega arith))
kind_limit unknown c len = tt

first_limit : (t len : ℕ) (x : Bool) → KeptWithin settings_limit len (elim x [
  | false ↦ refuse (of_connection missing_settings)
  | true ↦ elim (ltb settings_limit len) [ true ↦ refuse (of_connection excessive_load) | false ↦ accept (kept settings) unset ]
])
first_limit t len false = tt
first_limit t len true = limit_if settings_limit len (ltb settings_limit len) (of_connection excessive_load) (accept (kept settings) unset) (λ e. ltb-false settings_limit len e)

-- SETTINGS OF 256 BYTES AT MOST, and one integer of 8: a control stream keeps no more
pub control_limit : (c : Control) (t len : ℕ) → KeptWithin settings_limit len (rule c t len)
unfolding rule first_rule
control_limit unset t len = first_limit t len (eqb t 4)
control_limit (set s g m) t len = kind_limit (lookup column unknown t) (set s g m) len

pub settings_limit_is : settings_limit ≡ 256
unfolding settings_limit
settings_limit_is = refl

-- ---- more laws

-- a first frame other than SETTINGS is missing_settings, whatever its type and length
pub first_is_settings : (t len : ℕ) → eqb t 4 ≡ false → rule unset t len ≡ refuse (of_connection missing_settings)
unfolding rule first_rule
first_is_settings t len e = rw (e, first_rule)

-- what an accepted GOAWAY and MAX_PUSH_ID leave
not_above : (s : Settings) (g v : ℕ) (m : Option ℕ) (x : Bool) → ltb g v ≡ x → (c : Control)
    → (elim x as (λ y. Next Control) [ true ↦ stop (of_connection id_error) | false ↦ go (set s (some v) m) ]) ≡ go c → (v ≤ g) × (c ≡ set s (some v) m)
not_above s g v m true e c q = let z : ◌≡◌ {A = ℕ} 0 1 = cc in absurd (omega arith)
not_above s g v m false e c q = (nltb→le g v (rw e tt), cc)

pub goaway_falls : (s : Settings) (g : ℕ) (m : Option ℕ) (v : ℕ) (c : Control) → after_goaway s (some g) m v ≡ go c → (v ≤ g) × (c ≡ set s (some v) m)
unfolding after_goaway above
goaway_falls s g m v c q = not_above s g v m (ltb g v) refl c q

not_below : (s : Settings) (g : Option ℕ) (v m : ℕ) (x : Bool) → ltb v m ≡ x → (c : Control)
    → (elim x as (λ y. Next Control) [ true ↦ stop (of_connection id_error) | false ↦ go (set s g (some v)) ]) ≡ go c → (m ≤ v) × (c ≡ set s g (some v))
not_below s g v m true e c q = let z : ◌≡◌ {A = ℕ} 0 1 = cc in absurd (omega arith)
not_below s g v m false e c q = (nltb→le v m (rw e tt), cc)

pub max_push_rises : (s : Settings) (g : Option ℕ) (m v : ℕ) (c : Control) → after_max_push s g (some m) v ≡ go c → (m ≤ v) × (c ≡ set s g (some v))
unfolding after_max_push below
max_push_rises s g m v c q = not_below s g v m (ltb v m) refl c q

-- the fuel never runs out: more than the number of bytes changes nothing
abbrev Enough : (f g : ℕ) → Type 0
Enough f g = (seen : List ℕ) (s : Settings) (bs : List ℕ) → length bs ≤ f → length bs ≤ g → pairs f seen s bs ≡ pairs g seen s bs

enough_seen : (f g : ℕ) (seen : List ℕ) (s : Settings) (i v : ℕ) (bs : List ℕ) → Enough f g → length bs ≤ f → length bs ≤ g → (x : Bool)
    → ◌≡◌ {A = Next Settings} (elim x [ true ↦ stop (of_connection settings_error) | false ↦ pairs f (i ∷ seen) (set_to i v s) bs ]) (elim x [ true ↦ stop (of_connection settings_error) | false ↦ pairs g (i ∷ seen) (set_to i v s) bs ])
enough_seen f g seen s i v bs ih h k true = refl
enough_seen f g seen s i v bs ih h k false = ih (i ∷ seen) (set_to i v s) bs h k

enough_value : (f g : ℕ) (seen : List ℕ) (s : Settings) (i : ℕ) (rest : List ℕ) → Enough f g → length rest ≤ f → length rest ≤ g → (x : Int) → integer 0 rest ≡ x
    → ◌≡◌ {A = Next Settings} (elim x [ cut ↦ stop (of_connection frame_error) | got v to shorter ↦ elim (is_one_of reserved_identifiers i || is_one_of seen i) [ true ↦ stop (of_connection settings_error) | false ↦ pairs f (i ∷ seen) (set_to i v s) shorter ] ])
    (elim x [ cut ↦ stop (of_connection frame_error) | got v to shorter ↦ elim (is_one_of reserved_identifiers i || is_one_of seen i) [ true ↦ stop (of_connection settings_error) | false ↦ pairs g (i ∷ seen) (set_to i v s) shorter ] ])
enough_value f g seen s i rest ih h k cut e = refl
enough_value f g seen s i rest ih h k (got v to shorter) e =
    let l = integer_length 0 rest e in enough_seen f g seen s i v shorter ih (omega arith) (omega arith) (is_one_of reserved_identifiers i || is_one_of seen i)

enough_pair : (f g : ℕ) (seen : List ℕ) (s : Settings) (b : ℕ) (bs : List ℕ) → Enough f g → length bs ≤ f → length bs ≤ g → (x : Int) → integer 0 (b ∷ bs) ≡ x
    → pairs (suc f) seen s (b ∷ bs) ≡ pairs (suc g) seen s (b ∷ bs)
unfolding pairs
enough_pair f g seen s b bs ih h k cut e = rw (e, pairs) refl
enough_pair f g seen s b bs ih h k (got i at rest) e =
    let l = integer_length 0 (b ∷ bs) e in rw (e, pairs) (enough_value f g seen s i rest ih (omega arith) (omega arith) (integer 0 rest) refl)

pub pairs_enough : (f g : ℕ) → Enough f g
unfolding pairs
pairs_enough zero zero seen s bs h k = refl
pairs_enough zero (suc g) seen s [] h k = refl
pairs_enough zero (suc g) seen s (b ∷ bs) h k = absurd (omega arith)
pairs_enough (suc f) zero seen s [] h k = refl
pairs_enough (suc f) zero seen s (b ∷ bs) h k = absurd (omega arith)
pairs_enough (suc f) (suc g) seen s [] h k = refl
pairs_enough (suc f) (suc g) seen s (b ∷ bs) h k = enough_pair f g seen s b bs (pairs_enough f g) (omega arith) (omega arith) (integer 0 (b ∷ bs)) refl

-- ---- each frame behind SETTINGS, and the first

unfoldable pub type_of : Kept → ℕ
type_of settings = 4
type_of goaway = 7
type_of max_push_id = 13
type_of cancel_push = 3

-- a second SETTINGS is forbidden
unfoldable pub integer_kind : Kept → Kind
integer_kind settings = forbidden
integer_kind goaway = one_integer goaway
integer_kind max_push_id = one_integer max_push_id
integer_kind cancel_push = one_integer cancel_push

forbidden_row : (t : ℕ) → t < 10 → (t ≡ 3 → ⊥) → (t ≡ 7 → ⊥) → lookup column unknown t ≡ forbidden
unfolding lookup column
forbidden_row zero l n3 n7 = refl
forbidden_row (suc zero) l n3 n7 = refl
forbidden_row (suc (suc zero)) l n3 n7 = refl
forbidden_row (suc (suc (suc zero))) l n3 n7 = absurd (n3 refl)
forbidden_row (suc (suc (suc (suc zero)))) l n3 n7 = refl
forbidden_row (suc (suc (suc (suc (suc zero))))) l n3 n7 = refl
forbidden_row (suc (suc (suc (suc (suc (suc zero)))))) l n3 n7 = refl
forbidden_row (suc (suc (suc (suc (suc (suc (suc zero))))))) l n3 n7 = absurd (n7 refl)
forbidden_row (suc (suc (suc (suc (suc (suc (suc (suc zero)))))))) l n3 n7 = refl
forbidden_row (suc (suc (suc (suc (suc (suc (suc (suc (suc zero))))))))) l n3 n7 = refl
forbidden_row (suc (suc (suc (suc (suc (suc (suc (suc (suc (suc k)))))))))) l n3 n7 = absurd (omega arith)

module _ (s : Settings) (g m : Option ℕ) (len : ℕ) where
  pub control_forbidden : (t : ℕ) → t < 10 → (t ≡ 3 → ⊥) → (t ≡ 7 → ⊥) → rule (set s g m) t len ≡ refuse (of_connection frame_unexpected)
  unfolding rule rule_for
  control_forbidden t l n3 n7 = let e = forbidden_row t l n3 n7 in rw e

  pub control_unknown : (t : ℕ) → Unknown t → rule (set s g m) t len ≡ accept skipped (set s g m)
  unfolding rule rule_for column Unknown
  control_unknown t u =
      let e = lookup_absent t column unknown
      ((λ e. omega arith), ((λ e. omega arith), ((λ e. omega arith), ((λ e. omega arith), ((λ e. omega arith), (u.1, ((λ e. omega arith), ((λ e. omega arith), ((λ e. omega arith), ((λ e. omega arith), ((λ e. omega arith), tt))))))))))) in
      rw e

  -- CANCEL_PUSH, GOAWAY and MAX_PUSH_ID are the rows 3, 7 and 13
  pub control_integer : (k : Kept) → rule (set s g m) (type_of k) len ≡ rule_for (integer_kind k) (set s g m) len
  unfolding rule lookup column type_of integer_kind
  control_integer settings = refl
  control_integer goaway = refl
  control_integer max_push_id = refl
  control_integer cancel_push = refl

pub integer_fits : (k : Kept) (c : Control) (len : ℕ) → 0 < len → len ≤ 8 → rule_for (one_integer k) c len ≡ accept (kept k) c
unfolding rule_for
integer_fits k c len h l =
    let a = ne_eqb len 0 (λ e. omega arith) in
    let b = le-ltb 8 len l in
    let e : (eqb len 0 || ltb 8 len) ≡ false = rw (a, b) refl in
    rw (e, rule_for)

pub integer_empty : (k : Kept) (c : Control) → rule_for (one_integer k) c 0 ≡ refuse (of_connection frame_error)
unfolding rule_for
integer_empty k c = refl

pub integer_long : (k : Kept) (c : Control) (len : ℕ) → 8 < len → rule_for (one_integer k) c len ≡ refuse (of_connection frame_error)
unfolding rule_for
integer_long k c len h =
    let a = ne_eqb len 0 (λ e. omega arith) in
    let b = lt-ltb 8 len h in
    let e : (eqb len 0 || ltb 8 len) ≡ true = rw (a, b) refl in
    rw (e, rule_for)

pub first_fits : (len : ℕ) → len ≤ settings_limit → rule unset 4 len ≡ accept (kept settings) unset
unfolding rule first_rule
first_fits len h = let e = le-ltb settings_limit len h in rw (e, first_rule)

pub first_long : (len : ℕ) → settings_limit < len → rule unset 4 len ≡ refuse (of_connection excessive_load)
unfolding rule first_rule
first_long len h = let e = lt-ltb settings_limit len h in rw (e, first_rule)
