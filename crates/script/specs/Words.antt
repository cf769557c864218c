-- The words of a script's line, and what is known of a line that was read. Assumes nothing.
use Rattle.std.specs.Prelude.{ℕ, ◌+◌, ◌-◌, ◌≤◌, ◌<◌, ◌/◌, ◌%◌, ◌≡◌, List, [], ◌∷◌, true, false, ltb, length, take, drop, Option, Some, None, IfSome, cond, eqb}
use Rattle.listing.specs.Text.{decimal}
use Rattle.script.specs.declared.Word.{Word}
use Rattle.script.specs.declared.Line.{Line}
use Rattle.script.specs.declared.Verb.{Verb}
use Rattle.script.specs.declared.Verb.TheVariants.{Start, Open, Feed, Give, End, Reset, State, Value, Goaway, Write}
use Rattle.script.specs.declared.Writing.{Writing}

-- a byte as a decimal digit
abbrev pub DigitIs : (b : ℕ) → Option ℕ → Type 0
DigitIs b r = IfSome r (λ d. (d < 10) × (b ≡ 48 + d))

-- a hexadecimal digit
unfoldable pub hex_digit : ℕ → ℕ
hex_digit n = elim (ltb n 10) [ true ↦ 48 + n | false ↦ 87 + n ]

abbrev pub HalfIs : (b : ℕ) → Option ℕ → Type 0
HalfIs b r = IfSome r (λ d. (d < 16) × (b ≡ hex_digit d))

-- bytes, two digits each
unfoldable pub hexes : List ℕ → List ℕ
hexes [] = []
hexes (b ∷ bs) = hex_digit (b / 16) ∷ hex_digit (b % 16) ∷ hexes bs

-- the word for bytes: `-` for none
unfoldable pub hex_word : List ℕ → List ℕ
hex_word [] = 45 ∷ []
hex_word (b ∷ bs) = hexes (b ∷ bs)

-- the word from a place up to another
abbrev pub between : List ℕ → (at next : ℕ) → List ℕ
between s at next = take (next - at) (drop at s)

pub record Spelt (s : List ℕ) (at value next : ℕ) : Type 0 where
  pub on : at < next
  pub within : next ≤ length s
  pub word : between s at next ≡ decimal value

abbrev pub NumberAt : List ℕ → (at : ℕ) → Option (Word ℕ) → Type 0
NumberAt s at r = IfSome r (λ w. Spelt s at w.value w.next)

pub record Decoded (s : List ℕ) (at count next : ℕ) (after : List ℕ) : Type 0 where
  pub on : at < next
  pub within : next ≤ length s
  pub fits : count ≤ length after
  pub word : between s at next ≡ hex_word (take count after)

pub record BytesAt (s : List ℕ) (at : ℕ) (before : List ℕ) (r : Option (Word ℕ)) (after : List ℕ) : Type 0 where
  pub same : length after ≡ length before
  pub is : IfSome r (λ w. Decoded s at w.value w.next after)

-- the verb that a letter means
unfoldable pub verb_of : ℕ → Option Verb
verb_of letter =
    cond (eqb letter 83) (Some Start)
    (cond (eqb letter 79) (Some Open)
    (cond (eqb letter 70) (Some Feed)
    (cond (eqb letter 72) (Some Give)
    (cond (eqb letter 69) (Some End)
    (cond (eqb letter 82) (Some Reset)
    (cond (eqb letter 68) (Some State)
    (cond (eqb letter 86) (Some Value)
    (cond (eqb letter 71) (Some Goaway)
    (cond (eqb letter 87) (Some (Write Writing.Header))
    (cond (eqb letter 73) (Some (Write Writing.IntegerFrame))
    (cond (eqb letter 78) (Some (Write Writing.Integer))
    (cond (eqb letter 67) (Some (Write Writing.Opening)) None))))))))))))

-- a place of the list behind another
abbrev pub Leads : List ℕ → (at next : ℕ) → Type 0
Leads s at next = (at ≤ next) × (next ≤ length s)

abbrev pub Behind : List ℕ → (at : ℕ) → Option ℕ → Type 0
Behind s at r = IfSome r (λ next. (next ≡ at + 1) × (next ≤ length s))

abbrev pub ValuesAt : List ℕ → (at : ℕ) → Option (Word (List ℕ)) → Type 0
ValuesAt s at r = IfSome r (λ w. Leads s at w.next)

-- what is known of a line that was read: it leads on, its buffer has 64 bytes at most, and its bytes lie within the scratch room
pub record Holds (at : ℕ) (l : Line) (after : List ℕ) : Type 0 where
  pub room : l.room ≤ 64
  pub count : l.count ≤ length after
  pub row : IfSome l.row (λ n. n ≤ 32)
  pub on : at < l.next

pub record LineAt (at : ℕ) (before : List ℕ) (r : Option Line) (after : List ℕ) : Type 0 where
  pub same : length after ≡ length before
  pub line : IfSome r (λ l. Holds at l after)
