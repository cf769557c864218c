-- `listing::ruled_line` meets its contract: one law of specs, Ruled, for each answer of the frame table. Assumes nothing.
use Rattle.std.proofs.Common.{ℕ, min, ◌≡◌, ◌<◌, ◌≤◌, ◌⊎◌, ◌∙◌, refl, sym, ap, arith, Option, Some, Result, Ok}
use Rattle.std.proofs.lemmas.Grind.{common_steps}
use Rattle.rules.specs.Named.{code_of}
use Rattle.rules.specs.declared.codes.Code.{Code}
use Rattle.meaning.specs.NumberLaws.{code_high}
use Rattle.frames.specs.declared.Use.{Use}
use Rattle.frames.specs.declared.Use.TheVariants.{Skipped, Content, HeaderSection, Trailers, Settings, Goaway, MaxPushId, CancelPush}
use Rattle.frames.specs.Both.{rule}
use Rattle.frames.specs.Uses.{place_of, number_of}
use Rattle.frames.specs.Wants.{use_in, ruled_in}
use Rattle.listing.specs.declared.Phase.{Phase}
use Rattle.listing.specs.Lines.{phase_number}
use Rattle.listing.specs.Ruled.{line_skipped, line_content, line_header_section, line_trailers, line_refused, never_kept, content_fits}
use Rattle.listing.proofs.Phases.{listed}
use Rattle.listing.proofs.ruled_line.Goals as goal
use Rattle.listing.proofs.ruled_line.Goals.{in-Skipped, in-Content, in-HeaderSection, in-Trailers}

-- the table's number, by the place's phase and the capped sum
known : (sum ftype len : ℕ) {at : Option Phase} {phase : Phase} {n number least : ℕ} → n ≡ number_of (rule (place_of number 0 0 least) ftype len) → number ≡ phase_number (Some phase) → at ≡ Some phase
    → least ≡ min sum 1_048_577 → n ≡ number_of (rule (place_of (phase_number at) 0 0 (min sum 1_048_577)) ftype len)
known sum ftype len n p e l = rw (e, ← p, ← l) n

of_use : {r : Result Use Code} {u v : Use} → r ≡ Ok u → u ≡ v → ruled_in r ≡ use_in v
of_use e f = ap ruled_in e ∙ ap use_in f

-- the uses of a control stream
kept : (u : Use) → (u ≡ Settings) ⊎ (u ≡ Goaway) ⊎ (u ≡ MaxPushId) ⊎ (u ≡ CancelPush) → (4 ≤ use_in u) × (use_in u ≤ 9)
kept Skipped h = grind (arith, common_steps)
kept Content h = grind (arith, common_steps)
kept HeaderSection h = grind (arith, common_steps)
kept Trailers h = grind (arith, common_steps)
kept Settings h = (omega arith, omega arith)
kept Goaway h = (omega arith, omega arith)
kept MaxPushId h = (omega arith, omega arith)
kept CancelPush h = (omega arith, omega arith)

pub overflow_add-usage : goal.overflow_add-usage
overflow_add-usage c =
    let a = c.args in
    let h = listed a.phase c.requires.0 in
    record { fits = omega (arith, content_fits a.p a.from a.ftype a.len _ (omega (arith, h)) (known _ _ _ c.rule.ensures c.number.ensures c.requires.0 c.min.ensures) (of_use c.in-Ok.is c.in-Content.is)) }

pub unreachable-requires : goal.unreachable-requires
unreachable-requires c =
    let a = c.args in
    let h = listed a.phase c.requires.0 in
    let k = never_kept a.p a.from a.ftype a.len _ (omega (arith, h)) (known _ _ _ c.rule.ensures c.number.ensures c.requires.0 c.min.ensures) in
    let e = of_use c.in-Ok.is refl in
    let u = kept c.in-Ok.purpose c.in-Settings.is in
    absurd (omega (arith, k (omega (arith, e, u)), e, u))

pub returns-in-Err : goal.returns-in-Err
returns-in-Err c =
    let a = c.args in
    let h = listed a.phase c.requires.0 in
    let e : ruled_in c.rule.result ≡ c.number-in-Err.result = ap ruled_in c.in-Err.is ∙ sym c.number-in-Err.ensures in
    let k = code_high (code_of c.in-Err.code) in
    rw e at (line_refused a.p a.from a.ftype a.len _ (omega (arith, h)) (known _ _ _ c.rule.ensures c.number.ensures c.requires.0 c.min.ensures) (omega (arith, e, c.number-in-Err.ensures, k)))

pub returns : goal.returns
returns c =
    let a = c.args in
    let l = listed a.phase c.requires.0 in
    let h : phase_number a.p.phase < 3 = omega (arith, l) in
    let k = known a.p.sum a.ftype a.len c.rule.ensures c.number.ensures c.requires.0 c.min.ensures in
    elim c.match-purpose.branch [
      | in-Skipped w ↦ rw w.usage-is (line_skipped a.p a.from a.ftype a.len _ h k (of_use c.in-Ok.is w.in-Skipped.is))
      | in-Content w ↦ rw w.usage-is (line_content a.p a.from a.ftype a.len _ h k (of_use c.in-Ok.is w.in-Content.is))
      | in-HeaderSection w ↦ rw w.usage-is (line_header_section a.p a.from a.ftype a.len _ h k (of_use c.in-Ok.is w.in-HeaderSection.is))
      | in-Trailers w ↦ rw w.usage-is (line_trailers a.p a.from a.ftype a.len _ h k (of_use c.in-Ok.is w.in-Trailers.is))
    ]
