-- A control stream's complete payload judged, in numbers: the answer. Assumes nothing.
use Rattle.std.specs.Prelude.{◌≡◌, List, Bool, true, false, ltb, Option as Maybe, Some, None, Result, Ok, Err, is_some, unwrap_or}
use Rattle.std.proofs.Math.Path.{refl, ap}
use Rattle.std.proofs.Common.{sym, ◌∙◌, lt-ltb, le-ltb}
use Prim.Native.Nat.{ℕ, zero, suc, ◌<◌, ◌≤◌}
use Rattle.std.proofs.Math.Option.{Option, none, some}
use Rattle.rules.specs.Numbers.{FRAME-UNEXPECTED, FRAME-ERROR, ID-ERROR}
use Rattle.rules.specs.Integers.{integer}
use Rattle.rules.specs.Control.{Settings, settings_of, only}
use Rattle.wire.specs.declared.ids.PushId.{PushId}
use Rattle.control.specs.declared.settings.Settings as kept-settings
use Rattle.rules.specs.declared.codes.Code.{Code}
use Rattle.rules.specs.Numbers.{code_number}
use Rattle.rules.specs.Named.{code_of}
use Rattle.meaning.specs.NumberLaws.{Numbered, stops, goes, numbered}
use Rattle.control.specs.Answers.{size_is, settings_is, judged_is, single_is}
use Rattle.control.specs.declared.Kept.{Kept}
use Rattle.control.specs.declared.Verdict.{Verdict}

abbrev pub push_id : ℕ → PushId
push_id n = record { 0 = n }

-- ---- the answer

abbrev pub refusal : (number : ℕ) → Kept → Verdict
refusal number k = record { number = number; event = 0; id = push_id 0; kept = k }

abbrev pub settled : (limited size capacity blocked : ℕ) → Kept
settled limited size capacity blocked =
    record { set = 1; limited = limited; size = size; capacity = capacity; blocked = blocked; goaways = 0; goaway = push_id 0; pushes = 0; push = push_id 0 }

unfoldable pub limits_of : Option ℕ → (capacity blocked : ℕ) → Kept
limits_of none c b = settled 0 0 c b
limits_of (some n) c b = settled 1 n c b

abbrev pub settings_kept : Settings → Kept
settings_kept s = limits_of s.section_size s.table_capacity s.blocked_streams

unfoldable pub settings_verdict : Kept → Numbered Settings → Verdict
settings_verdict k (stops number) = refusal number k
settings_verdict k (goes s) = record { number = 0; event = 8; id = push_id 0; kept = settings_kept s }

abbrev pub goaway_taken : Kept → PushId → Verdict
goaway_taken k id = record {
  number = 0;
  event = 9;
  id = id;
  kept = record {
    set = 1;
    limited = k.limited;
    size = k.size;
    capacity = k.capacity;
    blocked = k.blocked;
    goaways = 1;
    goaway = id;
    pushes = k.pushes;
    push = k.push;
  };
}

abbrev pub max_push_taken : Kept → PushId → Verdict
max_push_taken k id = record {
  number = 0;
  event = 10;
  id = id;
  kept = record {
    set = 1;
    limited = k.limited;
    size = k.size;
    capacity = k.capacity;
    blocked = k.blocked;
    goaways = k.goaways;
    goaway = k.goaway;
    pushes = 1;
    push = id;
  };
}

-- a fault, if a test on an ID that has come says so
unfoldable pub unless : (has : ℕ) (bad : Bool) → (good refused : Verdict) → Verdict
unless zero bad good refused = good
unless (suc h) true good refused = refused
unless (suc h) false good refused = good

unfoldable pub goaway_of : Kept → PushId → Verdict
goaway_of k id = unless k.goaways (ltb k.goaway.0 id.0) (goaway_taken k id) (refusal ID-ERROR k)

unfoldable pub max_push_of : Kept → PushId → Verdict
max_push_of k id = unless k.pushes (ltb id.0 k.push.0) (max_push_taken k id) (refusal ID-ERROR k)

-- 8 SETTINGS, 9 GOAWAY, 10 MAX_PUSH_ID, else CANCEL_PUSH
unfoldable pub id_of : (which : ℕ) → Kept → PushId → Verdict
id_of (suc (suc (suc (suc (suc (suc (suc (suc zero)))))))) k id = refusal FRAME-UNEXPECTED k
id_of (suc (suc (suc (suc (suc (suc (suc (suc (suc zero))))))))) k id = goaway_of k id
id_of (suc (suc (suc (suc (suc (suc (suc (suc (suc (suc zero)))))))))) k id = max_push_of k id
id_of (suc (suc (suc (suc (suc (suc (suc (suc (suc (suc (suc n))))))))))) k id = refusal ID-ERROR k
id_of zero k id = refusal ID-ERROR k
id_of (suc zero) k id = refusal ID-ERROR k
id_of (suc (suc zero)) k id = refusal ID-ERROR k
id_of (suc (suc (suc zero))) k id = refusal ID-ERROR k
id_of (suc (suc (suc (suc zero)))) k id = refusal ID-ERROR k
id_of (suc (suc (suc (suc (suc zero))))) k id = refusal ID-ERROR k
id_of (suc (suc (suc (suc (suc (suc zero)))))) k id = refusal ID-ERROR k
id_of (suc (suc (suc (suc (suc (suc (suc zero))))))) k id = refusal ID-ERROR k

unfoldable pub integer_of : (which : ℕ) → Kept → Option ℕ → Verdict
integer_of which k none = refusal FRAME-ERROR k
integer_of which k (some id) = id_of which k (push_id id)

unfoldable pub payload_of : (set which : ℕ) → Kept → List ℕ → Verdict
payload_of zero which k payload = settings_verdict k (numbered (settings_of payload))
payload_of (suc n) which k payload = integer_of which k (only (integer 0 payload))

-- THE ANSWER to a complete payload
abbrev pub judged_of : (which : ℕ) → Kept → List ℕ → Verdict
judged_of which k payload = payload_of k.set which k payload

-- ---- laws: a law for each way out

-- 1 where something is there
abbrev pub one_if : Bool → ℕ
one_if true = 1
one_if false = 0

pub kept_is : (s : kept-settings.Settings) {limited : ℕ} → limited ≡ one_if (is_some s.size) → settled limited (unwrap_or s.size 0) s.capacity s.blocked ≡ settings_kept (settings_is s)
kept_is s e = rw e (by s.size)
  where
    by : (o : Maybe ℕ) → settled (one_if (is_some o)) (unwrap_or o 0) s.capacity s.blocked ≡ limits_of (size_is o) s.capacity s.blocked
    by None = unfold limits_of in refl
    by (Some n) = unfold limits_of in refl

module _ (k : Kept) (payload : List ℕ) (a : Result kept-settings.Settings Code) (met : judged_is a ≡ numbered (settings_of payload)) where
  pub settings_refused : {c : Code} {r : Verdict} → a ≡ Err c → r ≡ refusal (code_number (code_of c)) k → r ≡ settings_verdict k (numbered (settings_of payload))
  unfolding settings_verdict
  settings_refused e f = f ∙ ap (λ x. settings_verdict k (judged_is x)) (sym e) ∙ ap (settings_verdict k) met

  pub settings_kept_lem : {s : kept-settings.Settings} {q : Kept} → a ≡ Ok s → q ≡ settings_kept (settings_is s)
      → ◌≡◌ {A = Verdict} (record { number = 0; event = 8; id = push_id 0; kept = q }) (settings_verdict k (numbered (settings_of payload)))
  unfolding settings_verdict
  settings_kept_lem e f = ap (λ x. record { number = 0; event = 8; id = push_id 0; kept = x }) f ∙ ap (λ x. settings_verdict k (judged_is x)) (sym e) ∙ ap (settings_verdict k) met

module _ (has : ℕ) (bad : Bool) (good refused : Verdict) where
  unless_none : has ≡ 0 → good ≡ unless has bad good refused
  unfolding unless
  unless_none e = rw e refl

  unless_good : bad ≡ false → good ≡ unless has bad good refused
  unfolding unless
  unless_good e = by has
    where
      by : (h : ℕ) → good ≡ unless h bad good refused
      by zero = refl
      by (suc h) = rw e refl

  unless_bad : (has ≡ 0 → ⊥) → bad ≡ true → refused ≡ unless has bad good refused
  unfolding unless
  unless_bad n e = by has n
    where
      by : (h : ℕ) → (h ≡ 0 → ⊥) → refused ≡ unless h bad good refused
      by zero z = absurd (z refl)
      by (suc h) z = rw e refl

module _ (k : Kept) (id : PushId) {r : Verdict} where
  pub goaway_first : k.goaways ≡ 0 → r ≡ goaway_taken k id → r ≡ goaway_of k id
  unfolding goaway_of
  goaway_first e f = f ∙ unless_none k.goaways _ _ _ e

  pub goaway_above : (k.goaways ≡ 0 → ⊥) → k.goaway.0 < id.0 → r ≡ refusal ID-ERROR k → r ≡ goaway_of k id
  unfolding goaway_of
  goaway_above n h f = f ∙ unless_bad k.goaways _ _ _ n (lt-ltb _ _ h)

  pub goaway_lower : id.0 ≤ k.goaway.0 → r ≡ goaway_taken k id → r ≡ goaway_of k id
  unfolding goaway_of
  goaway_lower h f = f ∙ unless_good k.goaways _ _ _ (le-ltb _ _ h)

  pub max_push_first : k.pushes ≡ 0 → r ≡ max_push_taken k id → r ≡ max_push_of k id
  unfolding max_push_of
  max_push_first e f = f ∙ unless_none k.pushes _ _ _ e

  pub max_push_below : (k.pushes ≡ 0 → ⊥) → id.0 < k.push.0 → r ≡ refusal ID-ERROR k → r ≡ max_push_of k id
  unfolding max_push_of
  max_push_below n h f = f ∙ unless_bad k.pushes _ _ _ n (lt-ltb _ _ h)

  pub max_push_higher : k.push.0 ≤ id.0 → r ≡ max_push_taken k id → r ≡ max_push_of k id
  unfolding max_push_of
  max_push_higher h f = f ∙ unless_good k.pushes _ _ _ (le-ltb _ _ h)

  pub id_goaway : (which : ℕ) → which ≡ 9 → r ≡ goaway_of k id → r ≡ id_of which k id
  unfolding id_of
  id_goaway which e f = f ∙ rw e refl

  pub id_max_push : (which : ℕ) → which ≡ 10 → r ≡ max_push_of k id → r ≡ id_of which k id
  unfolding id_of
  id_max_push which e f = f ∙ rw e refl

  pub id_settings : (which : ℕ) → which ≡ 8 → r ≡ refusal FRAME-UNEXPECTED k → r ≡ id_of which k id
  unfolding id_of
  id_settings which e f = f ∙ rw e refl

  pub id_cancel : (which : ℕ) → (which ≡ 9 → ⊥) → (which ≡ 10 → ⊥) → (which ≡ 8 → ⊥) → r ≡ refusal ID-ERROR k → r ≡ id_of which k id
  unfolding id_of
  id_cancel zero a b d f = f
  id_cancel (suc zero) a b d f = f
  id_cancel (suc (suc zero)) a b d f = f
  id_cancel (suc (suc (suc zero))) a b d f = f
  id_cancel (suc (suc (suc (suc zero)))) a b d f = f
  id_cancel (suc (suc (suc (suc (suc zero))))) a b d f = f
  id_cancel (suc (suc (suc (suc (suc (suc zero)))))) a b d f = f
  id_cancel (suc (suc (suc (suc (suc (suc (suc zero))))))) a b d f = f
  id_cancel (suc (suc (suc (suc (suc (suc (suc (suc zero)))))))) a b d f = absurd (d refl)
  id_cancel (suc (suc (suc (suc (suc (suc (suc (suc (suc zero))))))))) a b d f = absurd (a refl)
  id_cancel (suc (suc (suc (suc (suc (suc (suc (suc (suc (suc zero)))))))))) a b d f = absurd (b refl)
  id_cancel (suc (suc (suc (suc (suc (suc (suc (suc (suc (suc (suc n))))))))))) a b d f = f

module _ (which : ℕ) (k : Kept) (payload : List ℕ) (a : Maybe ℕ) (met : single_is a ≡ only (integer 0 payload)) {r : Verdict} where
  pub integer_not : a ≡ None → r ≡ refusal FRAME-ERROR k → r ≡ integer_of which k (only (integer 0 payload))
  unfolding integer_of
  integer_not e f = f ∙ ap (λ x. integer_of which k (single_is x)) (sym e) ∙ ap (integer_of which k) met

  pub integer_is : {v : ℕ} → a ≡ Some v → r ≡ id_of which k (push_id v) → r ≡ integer_of which k (only (integer 0 payload))
  unfolding integer_of
  integer_is e f = f ∙ ap (λ x. integer_of which k (single_is x)) (sym e) ∙ ap (integer_of which k) met

module _ (which : ℕ) (k : Kept) (payload : List ℕ) {r : Verdict} where
  pub judged_settings : k.set ≡ 0 → r ≡ settings_verdict k (numbered (settings_of payload)) → r ≡ judged_of which k payload
  unfolding payload_of
  judged_settings e f = f ∙ rw e refl

  pub judged_integer : (k.set ≡ 0 → ⊥) → r ≡ integer_of which k (only (integer 0 payload)) → r ≡ judged_of which k payload
  unfolding payload_of
  judged_integer n f = f ∙ by k.set n
    where
      by : (s : ℕ) → (s ≡ 0 → ⊥) → integer_of which k (only (integer 0 payload)) ≡ payload_of s which k payload
      by zero z = absurd (z refl)
      by (suc m) z = refl
