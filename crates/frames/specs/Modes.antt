-- Names of what the code holds as numbers: where a stream is inside a frame (a mode), what a payload is for (a use), where it is between two
-- frames (a phase). A mode has its number in `mode_number` and is read back by `mode_of` and `mode_view`. Assumes nothing.
use Rattle.std.specs.Prelude.{◌≡◌, refl, Bool, true, false, ◌⊎◌, ltb}
use Rattle.std.proofs.Common.{ap, ◌∙◌, arith, inl, inr, ⊎_elim, ltb-true, ltb-false}
use Prim.Native.Nat.{ℕ, zero, suc, ◌≤◌, ◌<◌}
use Rattle.rules.specs.Reading.{Part, header_section, trailers, Kept, settings, goaway, max_push_id, cancel_push, Use, content, skipped, section, kept}

-- ---- modes

pub data Mode : Type 0 where
  typing : Mode  -- in a frame's type, or between two frames
  sizing : Mode  -- in the length behind a type
  paying : Use → Mode  -- in a payload
  waiting : Part → Mode  -- a section is due

-- each number as the code has it, under the same name
abbrev pub IN-TYPE : ℕ
IN-TYPE = 0

abbrev pub IN-LENGTH : ℕ
IN-LENGTH = 1

abbrev pub IN-SKIPPED : ℕ
IN-SKIPPED = 2

abbrev pub IN-CONTENT : ℕ
IN-CONTENT = 3

abbrev pub IN-HEADER-SECTION : ℕ
IN-HEADER-SECTION = 4

abbrev pub IN-TRAILERS : ℕ
IN-TRAILERS = 5

abbrev pub HEADER-SECTION-DUE : ℕ
HEADER-SECTION-DUE = 6

abbrev pub TRAILERS-DUE : ℕ
TRAILERS-DUE = 7

abbrev pub IN-SETTINGS : ℕ
IN-SETTINGS = 8

abbrev pub IN-GOAWAY : ℕ
IN-GOAWAY = 9

abbrev pub IN-MAX-PUSH-ID : ℕ
IN-MAX-PUSH-ID = 10

abbrev pub IN-CANCEL-PUSH : ℕ
IN-CANCEL-PUSH = 11

abbrev pub mode_number : Mode → ℕ
mode_number typing = IN-TYPE
mode_number sizing = IN-LENGTH
mode_number (paying skipped) = IN-SKIPPED
mode_number (paying content) = IN-CONTENT
mode_number (paying (section header_section)) = IN-HEADER-SECTION
mode_number (paying (section trailers)) = IN-TRAILERS
mode_number (waiting header_section) = HEADER-SECTION-DUE
mode_number (waiting trailers) = TRAILERS-DUE
mode_number (paying (kept settings)) = IN-SETTINGS
mode_number (paying (kept goaway)) = IN-GOAWAY
mode_number (paying (kept max_push_id)) = IN-MAX-PUSH-ID
mode_number (paying (kept cancel_push)) = IN-CANCEL-PUSH

-- THE VIEW: the mode that a number is; above the last one, the last one
unfoldable pub mode_of : (number : ℕ) → Mode
mode_of zero = typing
mode_of (suc zero) = sizing
mode_of (suc (suc zero)) = paying skipped
mode_of (suc (suc (suc zero))) = paying content
mode_of (suc (suc (suc (suc zero)))) = paying (section header_section)
mode_of (suc (suc (suc (suc (suc zero))))) = paying (section trailers)
mode_of (suc (suc (suc (suc (suc (suc zero)))))) = waiting header_section
mode_of (suc (suc (suc (suc (suc (suc (suc zero))))))) = waiting trailers
mode_of (suc (suc (suc (suc (suc (suc (suc (suc zero)))))))) = paying (kept settings)
mode_of (suc (suc (suc (suc (suc (suc (suc (suc (suc zero))))))))) = paying (kept goaway)
mode_of (suc (suc (suc (suc (suc (suc (suc (suc (suc (suc zero)))))))))) = paying (kept max_push_id)
mode_of (suc (suc (suc (suc (suc (suc (suc (suc (suc (suc (suc k))))))))))) = paying (kept cancel_push)

pub data IsMode : ℕ → Type 0 where
  is_mode : (m : Mode) → IsMode (mode_number m)

pub mode_view : (number : ℕ) → number ≤ IN-CANCEL-PUSH → IsMode number
mode_view zero h = is_mode typing
mode_view (suc zero) h = is_mode sizing
mode_view (suc (suc zero)) h = is_mode (paying skipped)
mode_view (suc (suc (suc zero))) h = is_mode (paying content)
mode_view (suc (suc (suc (suc zero)))) h = is_mode (paying (section header_section))
mode_view (suc (suc (suc (suc (suc zero))))) h = is_mode (paying (section trailers))
mode_view (suc (suc (suc (suc (suc (suc zero)))))) h = is_mode (waiting header_section)
mode_view (suc (suc (suc (suc (suc (suc (suc zero))))))) h = is_mode (waiting trailers)
mode_view (suc (suc (suc (suc (suc (suc (suc (suc zero)))))))) h = is_mode (paying (kept settings))
mode_view (suc (suc (suc (suc (suc (suc (suc (suc (suc zero))))))))) h = is_mode (paying (kept goaway))
mode_view (suc (suc (suc (suc (suc (suc (suc (suc (suc (suc zero)))))))))) h = is_mode (paying (kept max_push_id))
mode_view (suc (suc (suc (suc (suc (suc (suc (suc (suc (suc (suc zero))))))))))) h = is_mode (paying (kept cancel_push))
mode_view (suc (suc (suc (suc (suc (suc (suc (suc (suc (suc (suc (suc k)))))))))))) h = absurd (omega arith)

pub mode_back : (m : Mode) → mode_of (mode_number m) ≡ m
unfolding mode_of
mode_back typing = refl
mode_back sizing = refl
mode_back (paying skipped) = refl
mode_back (paying content) = refl
mode_back (paying (section header_section)) = refl
mode_back (paying (section trailers)) = refl
mode_back (waiting header_section) = refl
mode_back (waiting trailers) = refl
mode_back (paying (kept settings)) = refl
mode_back (paying (kept goaway)) = refl
mode_back (paying (kept max_push_id)) = refl
mode_back (paying (kept cancel_push)) = refl

pub of_mode : {number : ℕ} (m : Mode) → number ≡ mode_number m → mode_of number ≡ m
of_mode m e = ap mode_of e ∙ mode_back m

pub kept_high : (k : Kept) → IN-SETTINGS ≤ mode_number (paying (kept k))
kept_high settings = omega arith
kept_high goaway = omega arith
kept_high max_push_id = omega arith
kept_high cancel_push = omega arith

-- a payload comes behind a header, and is not a section that is due
pub paying_late : (u : Use) → (IN-SKIPPED ≤ mode_number (paying u)) × (mode_number (paying u) ≡ HEADER-SECTION-DUE → ⊥) × (mode_number (paying u) ≡ TRAILERS-DUE → ⊥)
paying_late skipped = (omega arith, (λ e. omega arith), λ e. omega arith)
paying_late content = (omega arith, (λ e. omega arith), λ e. omega arith)
paying_late (section header_section) = (omega arith, (λ e. omega arith), λ e. omega arith)
paying_late (section trailers) = (omega arith, (λ e. omega arith), λ e. omega arith)
paying_late (kept settings) = (omega arith, (λ e. omega arith), λ e. omega arith)
paying_late (kept goaway) = (omega arith, (λ e. omega arith), λ e. omega arith)
paying_late (kept max_push_id) = (omega arith, (λ e. omega arith), λ e. omega arith)
paying_late (kept cancel_push) = (omega arith, (λ e. omega arith), λ e. omega arith)

-- ---- modes by the ranges that the code compares

-- what holds of a section that is due, of a kept payload, of all but a kept payload, of any payload
module _ (P : Mode → Type 0) where
  pub at_waiting : ((t : Part) → P (waiting t)) → (number : ℕ) → HEADER-SECTION-DUE ≤ number → number < IN-SETTINGS → P (mode_of number)
  at_waiting f number l h = by (mode_view number (omega arith)) l h
    where
      by : {n : ℕ} → IsMode n → HEADER-SECTION-DUE ≤ n → n < IN-SETTINGS → P (mode_of n)
      by (is_mode (waiting t)) l h = let e = mode_back (waiting t) in rw e (f t)
      by (is_mode typing) l h = absurd (omega arith)
      by (is_mode sizing) l h = absurd (omega arith)
      by (is_mode (paying skipped)) l h = absurd (omega arith)
      by (is_mode (paying content)) l h = absurd (omega arith)
      by (is_mode (paying (section header_section))) l h = absurd (omega arith)
      by (is_mode (paying (section trailers))) l h = absurd (omega arith)
      by (is_mode (paying (kept k))) l h = let z = kept_high k in absurd (omega arith)

  pub at_kept : ((k : Kept) → P (paying (kept k))) → (number : ℕ) → IN-SETTINGS ≤ number → P (mode_of number)
  unfolding mode_of
  at_kept f (suc (suc (suc (suc (suc (suc (suc (suc zero)))))))) l = f settings
  at_kept f (suc (suc (suc (suc (suc (suc (suc (suc (suc zero))))))))) l = f goaway
  at_kept f (suc (suc (suc (suc (suc (suc (suc (suc (suc (suc zero)))))))))) l = f max_push_id
  at_kept f (suc (suc (suc (suc (suc (suc (suc (suc (suc (suc (suc k))))))))))) l = f cancel_push
  at_kept f zero l = absurd (omega arith)
  at_kept f (suc zero) l = absurd (omega arith)
  at_kept f (suc (suc zero)) l = absurd (omega arith)
  at_kept f (suc (suc (suc zero))) l = absurd (omega arith)
  at_kept f (suc (suc (suc (suc zero)))) l = absurd (omega arith)
  at_kept f (suc (suc (suc (suc (suc zero))))) l = absurd (omega arith)
  at_kept f (suc (suc (suc (suc (suc (suc zero)))))) l = absurd (omega arith)
  at_kept f (suc (suc (suc (suc (suc (suc (suc zero))))))) l = absurd (omega arith)

  pub at_unkept : P typing → P sizing → P (paying skipped) → P (paying content) → ((t : Part) → P (paying (section t))) → ((t : Part) → P (waiting t)) → (number : ℕ) → number < IN-SETTINGS → P (mode_of number)
  at_unkept a b c d e f number h = by (mode_view number (omega arith)) h
    where
      by : {n : ℕ} → IsMode n → n < IN-SETTINGS → P (mode_of n)
      by (is_mode typing) h = unfold mode_of in a
      by (is_mode sizing) h = unfold mode_of in b
      by (is_mode (paying skipped)) h = unfold mode_of in c
      by (is_mode (paying content)) h = unfold mode_of in d
      by (is_mode (paying (section t))) h = let z = mode_back (paying (section t)) in rw z (e t)
      by (is_mode (paying (kept k))) h = let z = kept_high k in absurd (omega arith)
      by (is_mode (waiting t)) h = let z = mode_back (waiting t) in rw z (f t)

  pub at_payload : ((u : Use) → P (paying u)) → (number : ℕ) → IN-SKIPPED ≤ number → (number ≡ HEADER-SECTION-DUE → ⊥) → (number ≡ TRAILERS-DUE → ⊥) → P (mode_of number)
  unfolding mode_of
  at_payload f zero l x y = absurd (omega arith)
  at_payload f (suc zero) l x y = absurd (omega arith)
  at_payload f (suc (suc zero)) l x y = f skipped
  at_payload f (suc (suc (suc zero))) l x y = f content
  at_payload f (suc (suc (suc (suc zero)))) l x y = f (section header_section)
  at_payload f (suc (suc (suc (suc (suc zero))))) l x y = f (section trailers)
  at_payload f (suc (suc (suc (suc (suc (suc zero)))))) l x y = absurd (x refl)
  at_payload f (suc (suc (suc (suc (suc (suc (suc zero))))))) l x y = absurd (y refl)
  at_payload f (suc (suc (suc (suc (suc (suc (suc (suc k)))))))) l x y = at_kept (λ x. f (kept x)) (suc (suc (suc (suc (suc (suc (suc (suc k)))))))) (omega arith)

kept_or_not : (number : ℕ) → number < IN-SETTINGS ⊎ IN-SETTINGS ≤ number
kept_or_not number = by (ltb number IN-SETTINGS) refl
  where
    by : (x : Bool) → ltb number IN-SETTINGS ≡ x → number < IN-SETTINGS ⊎ IN-SETTINGS ≤ number
    by true e = inl (ltb-true number IN-SETTINGS e)
    by false e = inr (ltb-false number IN-SETTINGS e)

-- any mode, and one of which something holds that does not of a kept payload
pub at_any : (P : Mode → Type 0) → P typing → P sizing → P (paying skipped) → P (paying content) → ((t : Part) → P (paying (section t))) → ((t : Part) → P (waiting t)) → (number : ℕ)
    → (IN-SETTINGS ≤ number → (k : Kept) → P (paying (kept k))) → P (mode_of number)
at_any P a b c d e f number g = ⊎_elim (at_unkept P a b c d e f number) (λ l. at_kept P (g l) number l) (kept_or_not number)

pub not_kept : (P : Mode → Type 0) → ((k : Kept) → P (paying (kept k)) → ⊥) → (number : ℕ) → P (mode_of number) → number ≤ TRAILERS-DUE
not_kept P f number p = ⊎_elim (λ l. omega arith) (λ l. absurd (at_kept (λ m. P m → ⊥) f number l p)) (kept_or_not number)

-- ---- uses: their numbers are given in Uses, and read back there

abbrev pub USE-SKIPPED : ℕ
USE-SKIPPED = 0

abbrev pub USE-CONTENT : ℕ
USE-CONTENT = 1

abbrev pub USE-HEADER-SECTION : ℕ
USE-HEADER-SECTION = 2

abbrev pub USE-TRAILERS : ℕ
USE-TRAILERS = 3

abbrev pub USE-SETTINGS : ℕ
USE-SETTINGS = 4

abbrev pub USE-GOAWAY : ℕ
USE-GOAWAY = 5

abbrev pub USE-MAX-PUSH-ID : ℕ
USE-MAX-PUSH-ID = 6

abbrev pub USE-CANCEL-PUSH : ℕ
USE-CANCEL-PUSH = 7

abbrev pub NO-USE : ℕ
NO-USE = 9

-- ---- phases: a place is read from its numbers by Uses.place_of

abbrev pub OPENING : ℕ
OPENING = 0

abbrev pub BODY : ℕ
BODY = 1

abbrev pub TRAILED : ℕ
TRAILED = 2

abbrev pub UNSET : ℕ
UNSET = 3

abbrev pub SET : ℕ
SET = 4
