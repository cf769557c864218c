-- Laws of the end. Assumes nothing.
use Rattle.std.specs.Prelude.{◌≡◌, ℕ, ◌≤◌, []}
use Rattle.std.proofs.Math.Path.{refl, ap}
use Rattle.std.proofs.Common.{sym, ◌∙◌, arith}
use Rattle.rules.specs.Reading.{Verdict, whole, fault, waits}
use Rattle.rules.specs.Request.{document, request}
use Rattle.meaning.specs.NumberLaws.{code_high}
use Rattle.meaning.specs.Machine.{finish}
use Rattle.frames.specs.Modes.{TRAILED}
use Rattle.frames.specs.declared.Cells.{Cells}
use Rattle.frames.specs.Both.{of_request}
use Rattle.frames.specs.Apart.{message, state_carried}
use Rattle.frames.specs.End.{verdict_number, end_of, Ends, request_end}
use Rattle.record.specs.declared.Record.{Record}
use Rattle.record.specs.Row.{free_record}
use Rattle.record.specs.Sound.{cells_in, own_place}
use Rattle.requests.specs.declared.Reply.{Reply}
use Rattle.requests.specs.Reply.{Open, state_in, reply, refused, left_by, ended_by, ended_as, Answered, opened}
use Rattle.requests.specs.Severity.{left_alone}
use Rattle.requests.specs.Answered.{own_stands}

module _ (r : Record) (n : ℕ) where
  by_whole : (v : Verdict) → n ≡ verdict_number v → n ≡ 0 → reply 0 11 0 0 0 0 free_record ≡ ended_by r v
  unfolding verdict_number ended_by
  by_whole whole e z = refl
  by_whole (fault code place) e z = let h = code_high code in absurd (omega arith)
  by_whole (waits place) e z = absurd (omega arith)

  by_code : (v : Verdict) → n ≡ verdict_number v → (n ≡ 0 → ⊥) → refused n (left_by n r) ≡ ended_by r v
  unfolding verdict_number ended_by
  by_code whole e z = absurd (z e)
  by_code (fault code place) e z = ap (λ x. refused x (left_by x r)) e
  by_code (waits place) e z = ap (λ x. refused x (left_by x r)) e ∙ ap (refused 4) (sym (left_alone r 4 ((λ x. omega arith), (λ x. omega arith), (λ x. omega arith), (λ x. omega arith))))

module _ (r : Record) (o : Open r) where
  pub phase_low : (cells_in r).phase ≤ TRAILED
  phase_low = o.sound.fit.shaped.request_phase o.kind

  end_number : {n : ℕ} {d : Cells} → d ≡ cells_in r → Ends d n → n ≡ verdict_number (finish (request document) 0 (state_in r))
  end_number {n} q x = let c = cells_in r in let e : Ends c n = rw q at x in
      e (of_request (message (own_place c))) [] (own_stands c phase_low)
      ∙ ap end_of (sym (state_carried of_request c.mode c.acc c.due c.ftype (message (own_place c)) [])) ∙ request_end document 0 (state_in r)

  pub end_whole : {n : ℕ} {a : Reply} {q : Record} {d : Cells} → d ≡ cells_in r → Ends d n → n ≡ 0 → q ≡ free_record → a ≡ reply 0 11 0 0 0 0 q → Answered r (ended_as r) a
  end_whole {n} w e z f g = opened o (g ∙ ap (reply 0 11 0 0 0 0) f ∙ by_whole r n (finish (request document) 0 (state_in r)) (end_number w e) z)

  pub end_code : {n : ℕ} {a : Reply} {q : Record} {d : Cells} → d ≡ cells_in r → Ends d n → (n ≡ 0 → ⊥) → q ≡ left_by n r → a ≡ refused n q → Answered r (ended_as r) a
  end_code {n} w e z f g = opened o (g ∙ ap (refused n) f ∙ by_code r n (finish (request document) 0 (state_in r)) (end_number w e) z)
