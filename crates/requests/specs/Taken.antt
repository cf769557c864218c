-- A section given to a stream, in numbers: the answer, and that it is the rules' own. Assumes nothing.
use Rattle.std.specs.Prelude.{◌≡◌, ℕ, zero, suc, ◌≤◌, ◌^◌, List, Bool, true, false, eqb, ltb, Result, Ok, Err}
use Rattle.std.proofs.Math.Path.{refl, ap}
use Rattle.std.proofs.Common.{sym, ◌∙◌, subst, arith}
use Rattle.std.proofs.Math.Option.{Option, none, some}
use borrow.Author.Tests.{le-ltb, eq-eqb, ne_eqb}
use Rattle.rules.specs.Numbers.{NO-SECTION, UNREADABLE, FRAME-UNEXPECTED, code_number}
use Rattle.rules.specs.Block.{Section, readable, lines}
use Rattle.rules.specs.Reading.{header_section, trailers, Next, stop, go}
use Rattle.rules.specs.Message.{Message, opening, body, trailed, heads, trails}
use Rattle.rules.specs.Request.{Header, Trailer, document, code_of, next_of, headed_by, trailed_by, given}
use Rattle.rules.specs.Request as request
use Rattle.meaning.specs.Machine.{between}
use Rattle.varint.specs.ByByte.{prog, fresh_good}
use Rattle.section.specs.declared.Fault.{Fault}
use Rattle.section.specs.declared.Fault.TheVariants as fault
use Rattle.section.specs.declared.Sound.{Sound}
use Rattle.section.specs.Answer.{HeaderAnswer, TrailerAnswer, header_answer, trailer_answer, header_number, read_stated}
use Rattle.section.specs.Request.{as_header, as_trailer, header_of, trailer_of, header_is, trailer_is, stated_within}
use Rattle.frames.specs.Modes.{IN-TYPE, HEADER-SECTION-DUE, TRAILERS-DUE, OPENING, BODY, TRAILED, mode_of}
use Rattle.frames.specs.declared.Cells.{Cells}
use Rattle.frames.specs.Both.{Place, of_request, of_control}
use Rattle.frames.specs.Uses.{stated_of, place_of, Stands, a_place, any_set}
use Rattle.frames.specs.Heads.{head_state}
use Rattle.frames.specs.Answers.{mode_state, state_of, StandsIn, Sane}

-- ---- where a stream goes on

abbrev pub cells_at : (phase has stated sum : ℕ) → Cells
cells_at phase has stated sum = record { mode = IN-TYPE; acc = 0; due = 0; ftype = 0; phase = phase; has = has; stated = stated; sum = sum }

unfoldable pub body_cells : Option ℕ → Cells
body_cells none = cells_at BODY 0 0 0
body_cells (some n) = cells_at BODY 1 n 0

abbrev pub trailed_cells : Cells → Cells
trailed_cells c = cells_at TRAILED c.has c.stated c.sum

-- ---- the answer

-- a section is taken in its place alone: the header section at the opening, trailers behind the body
unfoldable pub in_place : (here : Bool) → Cells → Result Cells ℕ
in_place true next = Ok next
in_place false next = Err FRAME-UNEXPECTED

unfoldable pub headed_as : Cells → Option Header → Result Cells ℕ
headed_as c none = Err UNREADABLE
headed_as c (some (request.Header.bad code)) = Err (code_number code)
headed_as c (some (request.Header.good stated)) = in_place (eqb c.phase OPENING) (body_cells stated)

unfoldable pub trailed_as : Cells → Option Trailer → Result Cells ℕ
trailed_as c none = Err UNREADABLE
trailed_as c (some (request.Trailer.bad code)) = Err (code_number code)
trailed_as c (some request.Trailer.good) = in_place (eqb c.phase BODY) (trailed_cells c)

-- none is due on a control stream, nor in any mode but two
unfoldable pub given_of : Cells → List ℕ → Result Cells ℕ
given_of c block = elim (ltb TRAILED c.phase) [ true ↦ Err NO-SECTION | false ↦ elim (eqb c.mode HEADER-SECTION-DUE) [ true ↦ headed_as c (header_of (lines block)) | false ↦ elim (eqb c.mode TRAILERS-DUE) [ true ↦ trailed_as c (trailer_of (lines block)) | false ↦ Err NO-SECTION ] ] ]

-- ---- laws: the answer

module _ (c : Cells) (block : List ℕ) where
  module _ (h : c.phase ≤ TRAILED) where
    pub given_header : c.mode ≡ HEADER-SECTION-DUE → {r : Result Cells ℕ} → r ≡ headed_as c (header_of (lines block)) → r ≡ given_of c block
    unfolding given_of
    given_header e q = let x = le-ltb TRAILED c.phase h in let y = eq-eqb c.mode HEADER-SECTION-DUE e in rw (x, y, given_of) q

    pub given_trailers : c.mode ≡ TRAILERS-DUE → {r : Result Cells ℕ} → r ≡ trailed_as c (trailer_of (lines block)) → r ≡ given_of c block
    unfolding given_of
    given_trailers e q =
        let x = le-ltb TRAILED c.phase h in let y = ne_eqb c.mode HEADER-SECTION-DUE (λ f. omega (arith, e, f)) in let z = eq-eqb c.mode TRAILERS-DUE e in rw (x, y, z, given_of) q

    pub given_undue : (c.mode ≡ HEADER-SECTION-DUE → ⊥) → (c.mode ≡ TRAILERS-DUE → ⊥) → Err NO-SECTION ≡ given_of c block
    unfolding given_of
    given_undue e f = let x = le-ltb TRAILED c.phase h in let y = ne_eqb c.mode HEADER-SECTION-DUE e in let z = ne_eqb c.mode TRAILERS-DUE f in rw (x, y, z, given_of) refl

in_place_lem : (next : Cells) (here : Bool) → here ≡ true → Ok next ≡ in_place here next
unfolding in_place
in_place_lem next true e = refl
in_place_lem next false e = cc

out_of_place : (next : Cells) (here : Bool) → here ≡ false → Err FRAME-UNEXPECTED ≡ in_place here next
unfolding in_place
out_of_place next false e = refl
out_of_place next true e = cc

module _ (c : Cells) (block : List ℕ) (a : HeaderAnswer) (met : a ≡ header_answer (lines block)) where
  abbrev Headed : Result Cells ℕ → Type 0
  Headed r = r ≡ headed_as c (header_of (lines block))

  header_as : {b : HeaderAnswer} → a ≡ b → headed_as c (as_header b) ≡ headed_as c (header_of (lines block))
  header_as e = ap (λ x. headed_as c (as_header x)) (sym e ∙ met) ∙ ap (headed_as c) (header_is (lines block))

  pub header_fault : {f : Fault} {n : ℕ} → a ≡ Err f → n ≡ header_number (Err f) → Headed (Err n)
  unfolding headed_as as_header header_number
  header_fault {f = fault.Unreadable} e g = ap Err g ∙ header_as e
  header_fault {f = fault.Refused r} e g = ap Err g ∙ header_as e

  module _ {s : Sound} (e : a ≡ Ok s) where
    pub header_taken : {next : Cells} → c.phase ≡ OPENING → next ≡ body_cells (read_stated s.stated) → Headed (Ok next)
    unfolding headed_as as_header
    header_taken f g = ap Ok g ∙ in_place_lem (body_cells (read_stated s.stated)) (eqb c.phase OPENING) (eq-eqb c.phase OPENING f) ∙ header_as e

    pub header_late : (c.phase ≡ OPENING → ⊥) → Headed (Err FRAME-UNEXPECTED)
    unfolding headed_as as_header
    header_late f = out_of_place (body_cells (read_stated s.stated)) (eqb c.phase OPENING) (ne_eqb c.phase OPENING f) ∙ header_as e

module _ (c : Cells) (block : List ℕ) (a : TrailerAnswer) (met : a ≡ trailer_answer (lines block)) where
  abbrev Trailed : Result Cells ℕ → Type 0
  Trailed r = r ≡ trailed_as c (trailer_of (lines block))

  trailer_as : {b : TrailerAnswer} → a ≡ b → trailed_as c (as_trailer b) ≡ trailed_as c (trailer_of (lines block))
  trailer_as e = ap (λ x. trailed_as c (as_trailer x)) (sym e ∙ met) ∙ ap (trailed_as c) (trailer_is (lines block))

  pub trailer_fault : {f : Fault} {n : ℕ} → a ≡ Err f → n ≡ header_number (Err f) → Trailed (Err n)
  unfolding trailed_as as_trailer header_number
  trailer_fault {f = fault.Unreadable} e g = ap Err g ∙ trailer_as e
  trailer_fault {f = fault.Refused r} e g = ap Err g ∙ trailer_as e

  module _ (e : a ≡ Ok tt) where
    pub trailer_taken : {next : Cells} → c.phase ≡ BODY → next ≡ trailed_cells c → Trailed (Ok next)
    unfolding trailed_as as_trailer
    trailer_taken f g = ap Ok g ∙ in_place_lem (trailed_cells c) (eqb c.phase BODY) (eq-eqb c.phase BODY f) ∙ trailer_as e

    pub trailer_late : (c.phase ≡ BODY → ⊥) → Trailed (Err FRAME-UNEXPECTED)
    unfolding trailed_as as_trailer
    trailer_late f = out_of_place (trailed_cells c) (eqb c.phase BODY) (ne_eqb c.phase BODY f) ∙ trailer_as e

-- ---- it is the rules' own

-- an answer says this of the rules' next message: the code; or it is accepted, and the stream is between two frames at that message
unfoldable pub Says : Result Cells ℕ → Next Message → Type 0
Says r (stop code) = r ≡ Err (code_number code)
Says r (go m) = (d : Cells) × (r ≡ Ok d) × StandsIn d (of_request m) × ((p : Place) (k : List ℕ) → state_of d p k ≡ between p) × Sane d

-- the messages that numbers mean
data Message-at (h n s : ℕ) : (phase : ℕ) → Message → Type 0 where
  at_opening : Message-at h n s OPENING opening
  at_body : Message-at h n s BODY (body (stated_of h n) s)
  at_trailers : Message-at h n s TRAILED (trailed (stated_of h n) s)

of_place : (h n s phase : ℕ) (m : Message) → place_of phase h n s ≡ of_request m → Message-at h n s phase m
unfolding place_of
of_place h n s zero m e = let f : opening ≡ m = cc in subst (Message-at h n s OPENING) f at_opening
of_place h n s (suc zero) m e = let f : body (stated_of h n) s ≡ m = cc in subst (Message-at h n s BODY) f at_body
of_place h n s (suc (suc zero)) m e = let f : trailed (stated_of h n) s ≡ m = cc in subst (Message-at h n s TRAILED) f at_trailers
of_place h n s (suc (suc (suc zero))) m e = let z : ◌≡◌ {A = ℕ} 0 1 = cc in absurd (omega arith)
of_place h n s (suc (suc (suc (suc k)))) m e = let z : ◌≡◌ {A = ℕ} 0 1 = cc in absurd (omega arith)

stands_at : (h n s : ℕ) {phase : ℕ} {p : Place} (m : Message) → Stands h n s phase p → p ≡ of_request m → Message-at h n s phase m
stands_at h n s m (a_place {phase = phase}) e = of_place h n s phase m e
stands_at h n s m (any_set {p = of_request m'} k i) e = absurd i
stands_at h n s m (any_set {p = of_control c} k i) e = let z : ◌≡◌ {A = ℕ} 0 1 = cc in absurd (omega arith)

fresh_between : (phase h n s : ℕ) (p : Place) (k : List ℕ) → state_of (cells_at phase h n s) p k ≡ between p
unfolding mode_state mode_of head_state prog
fresh_between phase h n s p k = refl

sane_at : (phase h n s : ℕ) → n ≤ 2 ^ 62 → s ≤ 2 ^ 62 → Sane (cells_at phase h n s)
sane_at phase h n s a b = record {
  modes = omega arith;
  header = λ l. fresh_good;
  small = omega arith;
  type = omega arith;
  some = λ x y z. absurd (omega arith);
  sums = b;
  stateds = a;
}

header_good : (stated : Option ℕ) → ((n : ℕ) → stated ≡ some n → n ≤ 2 ^ 62) → {h n s phase : ℕ} {m : Message} → Message-at h n s phase m
    → Says (in_place (eqb phase OPENING) (body_cells stated)) (next_of (heads stated m))
unfolding Says in_place body_cells next_of heads code_of place_of stated_of
header_good none w at_opening = (_, refl, a_place, fresh_between BODY 0 0 0, sane_at BODY 0 0 0 (omega arith) (omega arith))
header_good (some n) w at_opening = (_, refl, a_place, fresh_between BODY 1 n 0, sane_at BODY 1 n 0 (w n refl) (omega arith))
header_good stated w at_body = refl
header_good stated w at_trailers = refl

trailer_good : {h n s phase : ℕ} {m : Message} → n ≤ 2 ^ 62 → s ≤ 2 ^ 62 → Message-at h n s phase m
    → Says (in_place (eqb phase BODY) (cells_at TRAILED h n s)) (next_of (trails m))
unfolding Says in_place next_of trails code_of place_of
trailer_good a b at_opening = refl
trailer_good {h} {n} {s} a b at_body = (_, refl, a_place, fresh_between TRAILED h n s, sane_at TRAILED h n s a b)
trailer_good a b at_trailers = refl

module _ (c : Cells) (m : Message) (st : StandsIn c (of_request m)) where
  by_header : (s : Section) (h : Header) → document.header s ≡ h → Says (headed_as c (some h)) (headed_by h m)
  unfolding Says headed_as headed_by
  by_header s (request.Header.bad code) e = refl
  by_header s (request.Header.good stated) e = header_good stated (stated_within s stated e) (stands_at c.has c.stated c.sum m st refl)

  by_trailer : Sane c → (t : Trailer) → Says (trailed_as c (some t)) (trailed_by t m)
  unfolding Says trailed_as trailed_by
  by_trailer sane (request.Trailer.bad code) = refl
  by_trailer sane request.Trailer.good = trailer_good sane.stateds sane.sums (stands_at c.has c.stated c.sum m st refl)

  -- A HEADER SECTION GIVEN, and TRAILERS, answer what the rules do
  pub header_says : (s : Section) → Says (headed_as c (header_of (readable s))) (given document header_section m s)
  unfolding header_of given
  header_says s = by_header s (document.header s) refl

  pub trailer_says : Sane c → (s : Section) → Says (trailed_as c (trailer_of (readable s))) (given document trailers m s)
  unfolding trailer_of given
  trailer_says sane s = by_trailer sane (document.trailer s)
