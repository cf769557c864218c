-- Edges of Legal: what is legal, by its own constructors, and what cannot be. Assumes nothing.
use Rattle.std.specs.Prelude.{◌≡◌, refl, ℕ, ◌≤◌, List, [], ◌∷◌}
use Rattle.std.proofs.Common.{arith, lit<, lit≤}
use Rattle.std.proofs.Math.Option.{Option, none, some}
use Rattle.rules.specs.Block.{Section}
use Rattle.rules.specs.Frames.{Header, Frames, Frames.none as no_more, in_header, in_payload, frame}
use Rattle.rules.specs.Message.{content_limit}
use Rattle.rules.specs.Request.{Rules, all_sound, headers_limit}
use Rattle.rules.specs.Legal.{Unknown, AddsUp, Unknowns, Rest, Legal}

-- ---- unknown types: all but 0 to 9 and 13

pub ten : Unknown 10
unfolding Unknown
ten = (lit< tt, λ e. (let z : ◌≡◌ {A = ℕ} 10 13 = e in omega arith))

pub thirteen_is_known : Unknown 13 → ⊥
unfolding Unknown
thirteen_is_known u = u.1 refl

pub nine_is_known : Unknown 9 → ⊥
unfolding Unknown
nine_is_known u = let h = u.0 in omega arith

-- ---- sums

pub at_the_limit : AddsUp none 1_048_576
unfolding AddsUp content_limit
at_the_limit = lit≤ tt

pub past_the_limit : AddsUp none 1_048_577 → ⊥
unfolding AddsUp content_limit
past_the_limit a = omega arith

pub one_less : AddsUp (some 3) 2 → ⊥
unfolding AddsUp
one_less a = omega arith

pub one_more : AddsUp (some 3) 4 → ⊥
unfolding AddsUp
one_more a = omega arith

-- ---- frames

abbrev head : (type len : ℕ) → Header
head type len = record { at = 0; from = 0; type = type; len = len }

abbrev three : Rules
three = all_sound (some 3)

-- unknown, HEADERS, DATA of 3, unknown, HEADERS, unknown
pub all_of_it : Legal three ([] ∷ [] ∷ [])
    (frame (head 33 0) [] (frame (head 1 0) [] (frame (head 0 3) (0x61 ∷ 0x62 ∷ 0x63 ∷ []) (frame (head 10 0) [] (frame (head 1 16_384) [] (frame (head 14 0) [] no_more))))))
unfolding Unknown AddsUp headers_limit all_sound
all_of_it =
    Legal.unknown (lit< tt, λ e. (let z : ◌≡◌ {A = ℕ} 33 13 = e in omega arith))
    (Legal.headers refl (lit≤ tt) refl
    (Rest.data· refl
    (Rest.unknown (lit< tt, λ e. (let z : ◌≡◌ {A = ℕ} 10 13 = e in omega arith))
    (Rest.trailers refl (lit≤ tt) refl refl
    (Unknowns.unknown (lit< tt, λ e. (let z : ◌≡◌ {A = ℕ} 14 13 = e in omega arith)) Unknowns.end)))))

-- two sections and no DATA are header section and trailers
pub two_sections : Legal (all_sound none) ([] ∷ [] ∷ []) (frame (head 1 0) [] (frame (head 1 0) [] no_more))
unfolding AddsUp headers_limit content_limit all_sound
two_sections = Legal.headers refl (lit≤ tt) refl (Rest.trailers refl (lit≤ tt) refl (lit≤ tt) Unknowns.end)

-- ---- and what cannot be, whatever the sections

abbrev IsFrame : Frames → Type 0
IsFrame no_more = ⊥
IsFrame in_header = ⊥
IsFrame (in_payload h part) = ⊥
IsFrame (frame h payload fs) = Unit {0}

-- no frame, or a cut one
pub begins_with_a_frame : (R : Rules) {sections : List Section} {fs : Frames} → Legal R sections fs → IsFrame fs
begins_with_a_frame R (Legal.unknown u l) = tt
begins_with_a_frame R (Legal.headers z l e r) = tt

pub no_data_first : (R : Rules) {sections : List Section} {fs : Frames} → Legal R sections (frame (head 0 0) [] fs) → ⊥
unfolding Unknown
no_data_first R (Legal.unknown u l) = let h = u.0 in omega arith
no_data_first R (Legal.headers z l e r) = let h : ◌≡◌ {A = ℕ} 0 1 = z in omega arith

pub no_long_headers : (R : Rules) {sections : List Section} {fs : Frames} → Legal R sections (frame (head 1 16_385) [] fs) → ⊥
unfolding Unknown headers_limit
no_long_headers R (Legal.unknown u l) = let h = u.0 in omega arith
no_long_headers R (Legal.headers z l e r) = let h : 16_385 ≤ 16_384 = l in omega arith

-- behind trailers neither DATA nor a third section
pub nothing_behind_trailers : (R : Rules) {stated : Option ℕ} {sum : ℕ} {sections : List Section} (type : ℕ) → type ≤ 1
    → Rest R stated sum sections (frame (head 1 0) [] (frame (head type 0) [] no_more)) → ⊥
unfolding Unknown
nothing_behind_trailers R type h (Rest.unknown u r) = let k = u.0 in omega arith
nothing_behind_trailers R type h (Rest.data· z r) = let k : ◌≡◌ {A = ℕ} 1 0 = z in omega arith
nothing_behind_trailers R type h (Rest.trailers z l t a (Unknowns.unknown u r)) = let k = u.0 in omega arith
