-- A payload is refused with the code of a connection fault. Assumes nothing.
use Rattle.std.specs.Prelude.{ℕ, zero, suc, List, [], ◌∷◌, Bool, true, false, ◌||◌, length}
use Rattle.std.proofs.Math.Option.{Option, none, some}
use Rattle.rules.specs.Numbers.{of_connection, frame_error, id_error, settings_error}
use Rattle.rules.specs.Text.{is_one_of}
use Rattle.rules.specs.Integers.{Int, cut, got, integer}
use Rattle.rules.specs.Reading.{Kept as Payload, settings, goaway, max_push_id, cancel_push, Next, stop, go}
use Rattle.rules.specs.Control.{Settings, set_to, reserved_identifiers, pairs, no_settings, settings_of, Control, unset, set, only, above, below, after_goaway, after_max_push, after_integer, after_settings, judged}
use Rattle.meaning.specs.NumberLaws.{OfConnection}
use Rattle.meaning.specs.FeedUses.{JudgesWithin}

within_if : {A : Type 0} (x : Bool) (a b : Next A) → JudgesWithin OfConnection a → JudgesWithin OfConnection b → JudgesWithin {P = A} OfConnection (elim x [ true ↦ a | false ↦ b ])
within_if true a b h k = h
within_if false a b h k = k

abbrev Pairs : (fuel : ℕ) → Type 0
Pairs f = (seen : List ℕ) (s : Settings) (bs : List ℕ) → JudgesWithin OfConnection (pairs f seen s bs)

value_within : (f : ℕ) (seen : List ℕ) (s : Settings) (i : ℕ) → Pairs f → (x : Int)
    → JudgesWithin {P = Settings} OfConnection (elim x [ cut ↦ stop (of_connection frame_error) | got v to shorter ↦ elim (is_one_of reserved_identifiers i || is_one_of seen i) [ true ↦ stop (of_connection settings_error) | false ↦ pairs f (i ∷ seen) (set_to i v s) shorter ] ])
value_within f seen s i ih cut = tt
value_within f seen s i ih (got v to shorter) = within_if (is_one_of reserved_identifiers i || is_one_of seen i) (stop (of_connection settings_error)) (pairs f (i ∷ seen) (set_to i v s) shorter) tt (ih (i ∷ seen) (set_to i v s) shorter)

pairs_within : (f : ℕ) → Pairs f
unfolding pairs
pairs_within zero seen s bs = tt
pairs_within (suc f) seen s [] = tt
pairs_within (suc f) seen s (b ∷ bs) = pair (integer 0 (b ∷ bs)) (pairs_within f)
  where
    pair : (x : Int) → Pairs f → JudgesWithin {P = Settings} OfConnection (elim x [
      | cut ↦ stop (of_connection frame_error)
      | got i at rest ↦ elim (integer 0 rest) [ cut ↦ stop (of_connection frame_error) | got v to shorter ↦ elim (is_one_of reserved_identifiers i || is_one_of seen i) [ true ↦ stop (of_connection settings_error) | false ↦ pairs f (i ∷ seen) (set_to i v s) shorter ] ]
    ])
    pair cut ih = tt
    pair (got i at rest) ih = value_within f seen s i ih (integer 0 rest)

settings_within : (n : Next Settings) → JudgesWithin OfConnection n → JudgesWithin OfConnection (after_settings n)
unfolding after_settings
settings_within (stop code) h = h
settings_within (go s) h = tt

integer_within : (f : Payload) (s : Settings) (g m o : Option ℕ) → JudgesWithin OfConnection (after_integer f s g m o)
unfolding after_integer after_goaway after_max_push
integer_within f s g m none = tt
integer_within settings s g m (some id) = tt
integer_within goaway s g m (some id) = within_if (above id g) (stop (of_connection id_error)) (go (set s (some id) m)) tt tt
integer_within max_push_id s g m (some id) = within_if (below id m) (stop (of_connection id_error)) (go (set s g (some id))) tt tt
integer_within cancel_push s g m (some id) = tt

-- A REFUSED PAYLOAD HAS THE CODE of a connection fault
pub judged_within : (f : Payload) (p : Control) (payload : List ℕ) → JudgesWithin OfConnection (judged f p payload)
unfolding judged settings_of
judged_within f unset payload = settings_within (settings_of payload) (pairs_within (length payload) [] no_settings payload)
judged_within f (set s g m) payload = integer_within f s g m (only (integer 0 payload))
