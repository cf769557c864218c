-- A run, line by line. Assumes nothing.
use Rattle.std.specs.Prelude.{Option, Some, None, ℕ, suc, ◌-◌, ◌<◌, ◌≡◌, refl, List, length}
use Rattle.std.proofs.Common.{arith}
use Rattle.listing.specs.declared.room.Text.{Text}
use Rattle.replaying.specs.Plays.{Lined, Runs}
use Rattle.replaying.specs.declared.Step.{Step}

-- WHAT A LINE LEAVES AND PRINTS; where the run goes on, it leads on within the script
pub record StepAt (script : List ℕ) (step : Step) (before room : List ℕ) (r : Option Step) (after : List ℕ) (text : Text) : Type 0 where
  pub same : length after ≡ length before
  pub line : Lined (Runs script step.at step.pair before after r) room 0 text
  pub inside : (on : Step) → r ≡ Some on → step.at < length script
  pub leads : (on : Step) → r ≡ Some on → step.at < on.at

pub stops : {script : List ℕ} {step : Step} {before after room : List ℕ} {r : Option Step} {text : Text} → r ≡ None → length after ≡ length before → Lined (Runs script step.at step.pair before after r) room 0 text
    → StepAt script step before room r after text
stops o s l = record { same = s; line = l; inside = λ on h. absurd (none_is o h); leads = λ on h. absurd (none_is o h) }
  where
    none_is : {r : Option Step} {on : Step} → r ≡ None → r ≡ Some on → ⊥
    none_is o h = cc

pub leads_to : {s on : Step} {at : ℕ} → at < s.at → Some s ≡ Some on → at < on.at
leads_to {s} {on} h e = let k : s ≡ on = cc in rw (← k) h

-- how much of the script is to come
abbrev pub to_come : List ℕ → Option Step → ℕ
to_come script None = 0
to_come script (Some step) = suc (length script - step.at)

pub falls : {script : List ℕ} {step : Step} {before room after : List ℕ} {text : Text} (r : Option Step) → StepAt script step before room r after text → to_come script r < to_come script (Some step)
falls None s = omega arith
falls (Some on) s = let i = s.inside on refl in let l = s.leads on refl in omega arith
