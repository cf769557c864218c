-- A request keeps no payload: what its feed says and leaves. Assumes nothing.
use Rattle.std.specs.Prelude.{◌≡◌, refl, ℕ, List, []}
use Rattle.std.proofs.Common.{subst}
use Rattle.rules.specs.Numbers.{Code}
use Rattle.rules.specs.Reading.{Kept, Use, content, skipped, section, kept, Ruling}
use Rattle.rules.specs.Message.{Message}
use Rattle.rules.specs.Request.{Rules, request}
use Rattle.meaning.specs.Machine.{State, lives}
use Rattle.meaning.specs.Feed.{taken, Feeding, feed}
use Rattle.meaning.specs.RequestLaws.{RuleView, r_refused, r_skipped, r_content, r_header, r_trailers, rule_view}
use Rattle.meaning.specs.FeedUses.{Uses, NotKept, RulesWithin, StateWithin, OutcomeWithin, EventWithin, feed_within}

-- nothing is kept of a payload that is handed over or skipped
abbrev Handed : Uses
Handed content k l = k ≡ []
Handed skipped k l = k ≡ []
Handed (section t) k l = k ≡ []
Handed (kept f) k l = ⊥

clear : (u : Use) → NotKept u → (k : List ℕ) (l : ℕ) → Handed u k l → (n : ℕ) → Handed u [] n
clear content i k l h n = refl
clear skipped i k l h n = refl
clear (section t) i k l h n = refl
clear (kept f) i k l h n = absurd i

abbrev pub Plain : {P : Type 0} → State P → Type 0
Plain s = StateWithin Handed s

abbrev Any : Code → Type 0
Any code = Unit {0}

pub record Plainly (f : Feeding Message) : Type 0 where
  pub untold : (k : Kept) (payload : List ℕ) → f.event ≡ taken k payload → ⊥
  pub plain : (s : State Message) → f.after ≡ lives s → Plain s

viewed : (t len : ℕ) (m : Message) {r : Ruling Message} → RuleView t len m r → RulesWithin Handed Any len r
viewed t len m r_refused = tt
viewed t len m (r_skipped u) = refl
viewed t len m (r_content z e) = refl
viewed t len m (r_header z l) = refl
viewed t len m (r_trailers z l) = refl

-- A REQUEST'S FEED KEEPS NOTHING
pub plain_feed : (R : Rules) (n : ℕ) (s : State Message) → Plain s → (bs : List ℕ) → Plainly (feed (request R) n s bs)
plain_feed R n s h bs =
    let w = feed_within (request R) Handed Any clear (λ f k b l h. absurd h) (λ m t len. viewed t len m (rule_view m t len)) (λ k m payload. tt) n s h bs in
    record {
      untold = λ k payload e. subst (EventWithin Handed) e w.event;
      plain = λ t e. subst (OutcomeWithin Handed Any) e w.after;
    }
