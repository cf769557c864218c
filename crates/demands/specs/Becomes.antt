-- WHAT A ONE-WAY STREAM BECOMES: it becomes one of a type that may come once only where none of that type came before. Assumes nothing.
use Rattle.std.specs.Prelude.{◌≡◌, ℕ, Bool}
use Rattle.std.proofs.Math.Path.{refl}
use mathlib.Core.List.{List, [], ◌∷◌}
use Rattle.std.proofs.Math.Bool.{true, false}
use Rattle.std.proofs.Math.Option.{Option, none, some, none-ne-some, some-injective}
use Rattle.rules.specs.Numbers.{of_connection, stream_creation_error}
use Rattle.rules.specs.Text.{is_one_of}
use Rattle.rules.specs.Control.{Control}
use Rattle.rules.specs.OneWay as W
use Rattle.rules.specs.OneWay.{encoder, decoder}
use Rattle.meaning.specs.TextLaws.{lookup_view}
use Rattle.meaning.specs.Machine as M
use Rattle.meaning.specs.OneWayFeed as O

-- a type that may come once
pub data Once : Type 0 where
  as_control : Once
  as_encoder : Once
  as_decoder : Once

unfoldable pub is_for : O.OneState → Option Once
is_for (O.in_stream_type g) = none
is_for (O.in_control s) = some as_control
is_for (O.in_qpack encoder) = some as_encoder
is_for (O.in_qpack decoder) = some as_decoder
is_for O.in_skipped = none

unfoldable pub type_number : Once → ℕ
type_number as_control = 0
type_number as_encoder = 2
type_number as_decoder = 3

-- it becomes what none came for before
module _ (seen : List ℕ) where
  abbrev pub Unseen : O.OneOutcome → Type 0
  Unseen (O.lives s) = (c : Once) → is_for s ≡ some c → is_one_of seen (type_number c) ≡ false
  Unseen (O.dies n) = Unit {0}

  abbrev UnseenType : W.Typed → Type 0
  UnseenType (W.refuse n) = Unit {0}
  UnseenType (W.is W.a_control) = is_one_of seen 0 ≡ false
  UnseenType (W.is (W.a_qpack encoder)) = is_one_of seen 2 ≡ false
  UnseenType (W.is (W.a_qpack decoder)) = is_one_of seen 3 ≡ false
  UnseenType (W.is W.skipped) = Unit {0}

  once_unseen : (t : ℕ) (k : W.Kind) → (is_one_of seen t ≡ false → UnseenType (W.is k)) → UnseenType (W.once seen t k)
  unfolding W.once
  once_unseen t k l = go (is_one_of seen t) refl
    where
      go : (x : Bool) → is_one_of seen t ≡ x → UnseenType (elim x [ true ↦ W.refuse (of_connection stream_creation_error) | false ↦ W.is k ])
      go true e = tt
      go false e = l e

  rule_unseen : (t : ℕ) → UnseenType (W.type_rule seen t)
  unfolding W.type_rule
  rule_unseen t = lookup_view t UnseenType _ (W.is W.skipped)
      ((λ e. once_unseen 0 W.a_control (λ x. x)), ((λ e. tt), ((λ e. once_unseen 2 (W.a_qpack encoder) (λ x. x)), ((λ e. once_unseen 3 (W.a_qpack decoder) (λ x. x)), tt)))) (λ a. tt)

  for_one : (c d : Once) → some d ≡ some c → is_one_of seen (type_number d) ≡ false → is_one_of seen (type_number c) ≡ false
  for_one c d e h = rw (← (some-injective d c e)) h

  control_unseen : is_one_of seen 0 ≡ false → (o : M.Outcome Control) → Unseen (O.controlled o)
  unfolding O.controlled is_for type_number
  control_unseen h (M.lives x) = λ c e. for_one c as_control e (unfold type_number in h)
  control_unseen h (M.dies n) = tt

  qpack_unseen : (q : W.Qpack) → UnseenType (W.is (W.a_qpack q)) → (piece : List ℕ) → Unseen (O.qpack_feed q piece).after
  unfolding O.qpack_feed O.halt is_for
  qpack_unseen encoder h [] = λ c e. for_one c as_encoder e (unfold type_number in h)
  qpack_unseen encoder h (b ∷ bs) = λ c e. for_one c as_encoder e (unfold type_number in h)
  qpack_unseen decoder h [] = λ c e. for_one c as_decoder e (unfold type_number in h)
  qpack_unseen decoder h (b ∷ bs) = λ c e. for_one c as_decoder e (unfold type_number in h)

  module _ (allow : ℕ) where
    typed_unseen : (x : W.Typed) (piece : List ℕ) → UnseenType x → Unseen (O.typed_feed allow x piece).after
    unfolding O.typed_feed O.kind_feed O.halt O.of_control is_for
    typed_unseen (W.refuse n) piece h = tt
    typed_unseen (W.is W.a_control) piece h = control_unseen h _
    typed_unseen (W.is (W.a_qpack q)) piece h = qpack_unseen q h piece
    typed_unseen (W.is W.skipped) piece h = λ c e. absurd (none-ne-some c e)

    byte_unseen : (bs : List ℕ) → ((g : M.Prog) → Unseen (O.type_feed seen allow g bs).after) → (x : M.Fed)
        → Unseen (elim x as (λ y. O.OneFeeding) [ M.going g ↦ O.type_feed seen allow g bs | M.value t ↦ O.typed_feed allow (W.type_rule seen t) bs ]).after
    byte_unseen bs ih (M.going g) = ih g
    byte_unseen bs ih (M.value t) = typed_unseen (W.type_rule seen t) bs (rule_unseen t)

    pub type_unseen : (piece : List ℕ) (g : M.Prog) → Unseen (O.type_feed seen allow g piece).after
    unfolding O.type_feed O.halt O.also is_for
    type_unseen [] g = λ c e. absurd (none-ne-some c e)
    type_unseen (b ∷ bs) g = byte_unseen bs (type_unseen bs) (M.fed g b)
