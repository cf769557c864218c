-- The answer to a complete payload is the rules' own: what a control stream keeps then, and what it reports to the host. Assumes nothing.
use Rattle.std.specs.Prelude.{◌≡◌, List, Bool, ltb}
use Rattle.std.proofs.Math.Path.{refl, subst}
use Rattle.std.proofs.Common.{sym}
use Prim.Native.Nat.{ℕ, zero, suc}
use Rattle.std.proofs.Math.Bool.{true, false}
use Rattle.std.proofs.Math.Option.{Option, none, some}
use Rattle.rules.specs.Numbers.{ID-ERROR, code_number}
use Rattle.rules.specs.Integers.{integer}
use Rattle.rules.specs.Reading.{Kept as Payload, settings, goaway, max_push_id, cancel_push, Next, stop, go}
use Rattle.rules.specs.Control.{Settings, settings_of, Control, unset, set, only, above, below, after_goaway, after_max_push, after_integer, after_settings, judged, Told, told_settings, told_goaway, told_max_push_id, told_nothing, settings_in, id_in, tells}
use Rattle.wire.specs.declared.ids.PushId.{PushId}
use Rattle.frames.specs.Modes.{mode_of}
use Rattle.frames.specs.Answers.{mode_kept, kept_at}
use Rattle.meaning.specs.NumberLaws.{numbered}
use Rattle.control.specs.declared.Kept.{Kept}
use Rattle.control.specs.declared.Verdict.{Verdict}
use Rattle.control.specs.Judged.{push_id, refusal, limits_of, settings_verdict, goaway_taken, max_push_taken, unless, goaway_of, max_push_of, id_of, integer_of, payload_of, judged_of}

-- ---- what the numbers mean

unfoldable pub some_if : (has value : ℕ) → Option ℕ
some_if zero v = none
some_if (suc h) v = some v

abbrev pub limits_is : Kept → Settings
limits_is k = record { section_size = some_if k.limited k.size; table_capacity = k.capacity; blocked_streams = k.blocked }

unfoldable pub control_at : (is_set : ℕ) → Kept → Control
control_at zero k = unset
control_at (suc n) k = set (limits_is k) (some_if k.goaways k.goaway.0) (some_if k.pushes k.push.0)

-- where a control stream is that keeps this
abbrev pub control_of : Kept → Control
control_of k = control_at k.set k

-- event 8 settings, 9 a client's GOAWAY, 10 MAX_PUSH_ID, else none
unfoldable pub told_at : (event : ℕ) → PushId → Kept → Told
told_at (suc (suc (suc (suc (suc (suc (suc (suc zero)))))))) id k = told_settings (limits_is k)
told_at (suc (suc (suc (suc (suc (suc (suc (suc (suc zero))))))))) id k = told_goaway id.0
told_at (suc (suc (suc (suc (suc (suc (suc (suc (suc (suc n)))))))))) id k = told_max_push_id id.0
told_at zero id k = told_nothing
told_at (suc zero) id k = told_nothing
told_at (suc (suc zero)) id k = told_nothing
told_at (suc (suc (suc zero))) id k = told_nothing
told_at (suc (suc (suc (suc zero)))) id k = told_nothing
told_at (suc (suc (suc (suc (suc zero))))) id k = told_nothing
told_at (suc (suc (suc (suc (suc (suc zero)))))) id k = told_nothing
told_at (suc (suc (suc (suc (suc (suc (suc zero))))))) id k = told_nothing

-- an answer says this of the rules' next place: the code, all as it was and nothing reported; or 0, that place, and what the payload reports
unfoldable pub Says : Kept → (told : Told) → Verdict → Next Control → Type 0
Says k told r (stop code) = r ≡ refusal (code_number code) k
Says k told r (go c) = (r.number ≡ 0) × (control_of r.kept ≡ c) × (told_at r.event r.id r.kept ≡ told)

-- ---- SETTINGS

limits_back : (o : Option ℕ) (c b : ℕ) → (control_of (limits_of o c b) ≡ set (record { section_size = o; table_capacity = c; blocked_streams = b }) none none)
    × (told_at 8 (push_id 0) (limits_of o c b) ≡ told_settings (record { section_size = o; table_capacity = c; blocked_streams = b }))
unfolding limits_of control_at some_if told_at
limits_back none c b = (refl, refl)
limits_back (some n) c b = (refl, refl)

settings_say : (k : Kept) (n : Next Settings) → Says k (settings_in n) (settings_verdict k (numbered n)) (after_settings n)
unfolding numbered Says settings_verdict after_settings settings_in
settings_say k (stop code) = refl
settings_say k (go s) = let q = limits_back s.section_size s.table_capacity s.blocked_streams in (refl, q.0, q.1)

-- ---- one integer

module _ (k : Kept) where
  abbrev goaway_kept : Option ℕ
  goaway_kept = some_if k.goaways k.goaway.0

  abbrev max_push_kept : Option ℕ
  max_push_kept = some_if k.pushes k.push.0

module _ (k : Kept) (id : ℕ) where
  goaway_say : (has : ℕ) (bad : Bool) → ltb k.goaway.0 id ≡ bad
      → Says k (told_goaway id) (unless has bad (goaway_taken k (push_id id)) (refusal ID-ERROR k)) (after_goaway (limits_is k) (some_if has k.goaway.0) (max_push_kept k) id)
  unfolding Says unless after_goaway above some_if control_at told_at
  goaway_say zero bad e = (refl, refl, refl)
  goaway_say (suc has) true e = rw (e, after_goaway, above, some_if) refl
  goaway_say (suc has) false e = rw (e, after_goaway, above, some_if) (refl, refl, refl)

  max_push_say : (has : ℕ) (bad : Bool) → ltb id k.push.0 ≡ bad
      → Says k (told_max_push_id id) (unless has bad (max_push_taken k (push_id id)) (refusal ID-ERROR k)) (after_max_push (limits_is k) (goaway_kept k) (some_if has k.push.0) id)
  unfolding Says unless after_max_push below some_if control_at told_at
  max_push_say zero bad e = (refl, refl, refl)
  max_push_say (suc has) true e = rw (e, after_max_push, below, some_if) refl
  max_push_say (suc has) false e = rw (e, after_max_push, below, some_if) (refl, refl, refl)

  -- what such a payload reports
  unfoldable id_told : Payload → Told
  id_told settings = told_nothing
  id_told goaway = told_goaway id
  id_told max_push_id = told_max_push_id id
  id_told cancel_push = told_nothing

  cancel_say : (told : Told) → Says k told (refusal ID-ERROR k) (after_integer cancel_push (limits_is k) (goaway_kept k) (max_push_kept k) (some id))
  unfolding Says after_integer
  cancel_say told = refl

  id_say : (which : ℕ) → Says k (id_told (kept_at which)) (id_of which k (push_id id)) (after_integer (kept_at which) (limits_is k) (goaway_kept k) (max_push_kept k) (some id))
  unfolding id_told mode_kept mode_of id_of
  id_say zero = cancel_say told_nothing
  id_say (suc zero) = cancel_say told_nothing
  id_say (suc (suc zero)) = cancel_say told_nothing
  id_say (suc (suc (suc zero))) = cancel_say told_nothing
  id_say (suc (suc (suc (suc zero)))) = cancel_say told_nothing
  id_say (suc (suc (suc (suc (suc zero))))) = cancel_say told_nothing
  id_say (suc (suc (suc (suc (suc (suc zero)))))) = cancel_say told_nothing
  id_say (suc (suc (suc (suc (suc (suc (suc zero))))))) = cancel_say told_nothing
  id_say (suc (suc (suc (suc (suc (suc (suc (suc zero)))))))) = unfold Says after_integer in refl
  id_say (suc (suc (suc (suc (suc (suc (suc (suc (suc zero))))))))) = unfold goaway_of after_integer in goaway_say k.goaways (ltb k.goaway.0 id) refl
  id_say (suc (suc (suc (suc (suc (suc (suc (suc (suc (suc zero)))))))))) = unfold max_push_of after_integer in max_push_say k.pushes (ltb id k.push.0) refl
  id_say (suc (suc (suc (suc (suc (suc (suc (suc (suc (suc (suc n))))))))))) = cancel_say told_nothing

unfoldable told_in : (k : Kept) → Payload → Option ℕ → Told
told_in k f none = told_nothing
told_in k f (some id) = id_told k id f

integer_say : (k : Kept) (which : ℕ) (o : Option ℕ)
    → Says k (told_in k (kept_at which) o) (integer_of which k o) (after_integer (kept_at which) (limits_is k) (goaway_kept k) (max_push_kept k) o)
unfolding told_in integer_of
integer_say k which none = unfold Says after_integer in refl
integer_say k which (some id) = id_say k id which

-- ---- THE ANSWER IS THE RULES' OWN

module _ (k : Kept) (payload : List ℕ) where
  -- of SETTINGS, before which nothing else is kept
  pub settings_judged : (which : ℕ) → k.set ≡ 0 → Says k (tells settings payload) (judged_of which k payload) (judged (kept_at which) (control_of k) payload)
  unfolding tells payload_of judged control_at
  settings_judged which e =
      subst (λ s. Says k (tells settings payload) (payload_of s which k payload) (judged (kept_at which) (control_at s k) payload)) (sym e) (settings_say k (settings_of payload))

  same_told : (f : Payload) (o : Option ℕ) → (f ≡ settings → ⊥) → only (integer 0 payload) ≡ o → told_in k f o ≡ tells f payload
  unfolding told_in id_told tells id_in
  same_told settings o n e = absurd (n refl)
  same_told goaway none n e = rw e refl
  same_told goaway (some id) n e = rw e refl
  same_told max_push_id none n e = rw e refl
  same_told max_push_id (some id) n e = rw e refl
  same_told cancel_push none n e = refl
  same_told cancel_push (some id) n e = refl

  integer_at : (n which : ℕ) → Says k (told_in k (kept_at which) (only (integer 0 payload))) (payload_of (suc n) which k payload) (judged (kept_at which) (control_at (suc n) k) payload)
  unfolding payload_of judged control_at
  integer_at n which = integer_say k which (only (integer 0 payload))

  -- of GOAWAY, MAX_PUSH_ID and CANCEL_PUSH, behind SETTINGS
  pub integer_judged : (which n : ℕ) → k.set ≡ suc n → (kept_at which ≡ settings → ⊥) → Says k (tells (kept_at which) payload) (judged_of which k payload) (judged (kept_at which) (control_of k) payload)
  integer_judged which n e s =
      let t = same_told (kept_at which) (only (integer 0 payload)) s refl in
      let at = subst (λ x. Says k x (payload_of (suc n) which k payload) (judged (kept_at which) (control_at (suc n) k) payload)) t (integer_at n which) in
      subst (λ s. Says k (tells (kept_at which) payload) (payload_of s which k payload) (judged (kept_at which) (control_at s k) payload)) (sym e) at

  -- of any payload, something is reported
  pub judged_says : (which : ℕ) → (told : Told) × Says k told (judged_of which k payload) (judged (kept_at which) (control_of k) payload)
  judged_says which = by k.set refl
    where
      by : (n : ℕ) → k.set ≡ n → (told : Told) × Says k told (judged_of which k payload) (judged (kept_at which) (control_of k) payload)
      by zero e = (tells settings payload, settings_judged which e)
      by (suc n) e =
          let told = told_in k (kept_at which) (only (integer 0 payload)) in
          (told, subst (λ s. Says k told (payload_of s which k payload) (judged (kept_at which) (control_at s k) payload)) (sym e) (integer_at n which))
