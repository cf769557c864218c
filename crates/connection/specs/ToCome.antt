-- WHAT IS STILL TO COME OF A RECORD: of an open request that states a Content-Length, the content that is not here yet. (Document 02's Q-4 asks for its
-- total; nothing else looks at it.) Assumes nothing.
use Rattle.std.specs.Prelude.{◌≡◌, refl, ℕ, zero, suc, ◌+◌, ◌-◌, [], ◌∷◌, map}
use Rattle.std.proofs.Math.Option.{none, some}
use Rattle.rules.specs.Reading.{header_section, content, skipped, section, kept}
use Rattle.rules.specs.Message.{Message, opening, body, trailed}
use Rattle.meaning.specs.Machine.{State, in_type, in_length, in_payload, due, between}
use Rattle.record.specs.declared.Record.{Record}
use Rattle.requests.specs.Reply.{state_in}

-- DATA counts in the sum at its header; what is left of its payload is not here yet
unfoldable pub promised : Message → (left : ℕ) → ℕ
promised opening left = 0
promised (body none sum) left = 0
promised (body (some n) sum) left = (n - sum) + left
promised (trailed none sum) left = 0
promised (trailed (some n) sum) left = n - sum

unfoldable pub still_in : State Message → ℕ
still_in (in_type g m) = promised m 0
still_in (in_length t g m) = promised m 0
still_in (in_payload content k left m) = promised m (suc left)
still_in (in_payload skipped k left m) = promised m 0
still_in (in_payload (section t) k left m) = promised m 0
still_in (in_payload (kept f) k left m) = promised m 0
still_in (due t m) = promised m 0

-- kind 1: a request
unfoldable pub still_for : (kind : ℕ) → Record → ℕ
still_for zero r = 0
still_for (suc zero) r = still_in (state_in r)
still_for (suc (suc n)) r = 0

abbrev pub still_to_come : Record → ℕ
still_to_come r = still_for r.kind r

-- of a request that states 5: before any DATA; behind the header of DATA of 3; with two of those three here; between frames with 3 here; all here
pub counted : map still_in (between (body (some 5) 0) ∷ in_payload content [] 2 (body (some 5) 3) ∷ in_payload content [] 0 (body (some 5) 3) ∷ between (body (some 5) 3) ∷ between (body (some 5) 5)
    ∷ due header_section opening ∷ between (body none 7) ∷ []) ≡ 5 ∷ 5 ∷ 3 ∷ 2 ∷ 0 ∷ 0 ∷ 0 ∷ []
unfolding still_in promised
counted = refl
