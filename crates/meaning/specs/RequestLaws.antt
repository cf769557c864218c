-- Laws of the request rules (rules, Request), so that no one else opens them. Assumes nothing.
use Rattle.std.specs.Prelude.{◌≡◌, refl, ℕ, zero, suc, ◌+◌, ◌≤◌, ◌<◌, Bool, true, false, ltb}
use Rattle.std.proofs.Common.{zero-le, arith, lt-ltb, ltb→lt, nltb→le}
use Rattle.std.proofs.Math.Option.{Option, none, some}
use Rattle.rules.specs.Numbers.{Code, of_stream, of_connection, request_cancelled, message_error, frame_unexpected, excessive_load}
use Rattle.rules.specs.Text.{lookup}
use Rattle.rules.specs.Reading.{header_section, trailers, content, skipped, section, Ruling, refuse, accept}
use Rattle.rules.specs.Message.{content_limit, Message, opening, body, trailed, Step, goes, refuses, sum_to, carries}
use Rattle.rules.specs.Request.{Kind, data·, headers, forbidden, unknown, column, kind_of, code_of, headers_limit, within_limit, data_rule, headers_rule, rule_for, rule}
use Rattle.rules.specs.Legal.{Unknown}
use Rattle.meaning.specs.TextLaws.{Absent, lookup_view, lookup_absent}

-- ---- a type is one of these

data KindView (t : ℕ) : Kind → Type 0 where
  k_data : t ≡ 0 → KindView t data·
  k_headers : t ≡ 1 → KindView t headers
  k_forbidden : KindView t forbidden
  k_unknown : Unknown t → KindView t unknown

up : {k t : ℕ} → k ≤ t → (t ≡ k → ⊥) → suc k ≤ t
up h d = omega arith

-- the rows of the column are the types 0 to 9 and 13
unknown_of : (t : ℕ) → Absent t column → Unknown t
unfolding Unknown column
unknown_of t (n0, (n1, (n4, (n3, (n7, (n13, (n5, (n2, (n6, (n8, (n9, done))))))))))) =
    (up (up (up (up (up (up (up (up (up (up zero-le n0) n1) n2) n3) n4) n5) n6) n7) n8) n9, n13)

absent_of : (t : ℕ) → Unknown t → Absent t column
unfolding Unknown column
absent_of t u =
    ((λ e. omega arith), ((λ e. omega arith), ((λ e. omega arith), ((λ e. omega arith), ((λ e. omega arith), (u.1, ((λ e. omega arith), ((λ e. omega arith), ((λ e. omega arith), ((λ e. omega arith), ((λ e. omega arith), tt)))))))))))

kind_view : (t : ℕ) → KindView t (kind_of t)
unfolding kind_of column
kind_view t = lookup_view t (KindView t) column unknown
    (k_data, (k_headers, ((λ e. k_forbidden), ((λ e. k_forbidden), ((λ e. k_forbidden), ((λ e. k_forbidden), ((λ e. k_forbidden), ((λ e. k_forbidden), ((λ e. k_forbidden), ((λ e. k_forbidden), ((λ e. k_forbidden), tt)))))))))))
    (λ a. k_unknown (unknown_of t a))

-- ---- the rule answers one of these

pub data RuleView (t len : ℕ) : Message → Ruling Message → Type 0 where
  r_refused : {m : Message} {code : Code} → RuleView t len m (refuse code)
  r_skipped : {m : Message} → Unknown t → RuleView t len m (accept skipped m)
  r_content : {m q : Message} → t ≡ 0 → carries len m ≡ goes q → RuleView t len m (accept content q)
  r_header : t ≡ 1 → len ≤ headers_limit → RuleView t len opening (accept (section header_section) opening)
  r_trailers : {stated : Option ℕ} {sum : ℕ} → t ≡ 1 → len ≤ headers_limit
      → RuleView t len (body stated sum) (accept (section trailers) (body stated sum))

data_view : (t len : ℕ) (m : Message) → t ≡ 0 → (s : Step) → carries len m ≡ s → RuleView t len m (data_rule s)
unfolding data_rule
data_view t len m z (goes q) e = r_content z e
data_view t len m z (refuses r) e = r_refused

header_view : (t len : ℕ) → t ≡ 1 → (x : Bool) → ltb headers_limit len ≡ x
    → RuleView t len opening (elim x [ true ↦ refuse (of_connection excessive_load) | false ↦ accept (section header_section) opening ])
header_view t len z true e = r_refused
header_view t len z false e = r_header z (nltb→le headers_limit len (rw e tt))

trailer_view : (t len : ℕ) (stated : Option ℕ) (sum : ℕ) → t ≡ 1 → (x : Bool) → ltb headers_limit len ≡ x
    → RuleView t len (body stated sum) (elim x [ true ↦ refuse (of_connection excessive_load) | false ↦ accept (section trailers) (body stated sum) ])
trailer_view t len stated sum z true e = r_refused
trailer_view t len stated sum z false e = r_trailers z (nltb→le headers_limit len (rw e tt))

headers_view : (t len : ℕ) (m : Message) → t ≡ 1 → RuleView t len m (headers_rule len m)
unfolding headers_rule within_limit
headers_view t len opening z = header_view t len z (ltb headers_limit len) refl
headers_view t len (body stated sum) z = trailer_view t len stated sum z (ltb headers_limit len) refl
headers_view t len (trailed stated sum) z = r_refused

kind_rule : (m : Message) (t len : ℕ) {k : Kind} → KindView t k → RuleView t len m (rule_for k m len)
unfolding rule_for
kind_rule m t len (k_data z) = data_view t len m z (carries len m) refl
kind_rule m t len (k_headers z) = headers_view t len m z
kind_rule m t len k_forbidden = r_refused
kind_rule m t len (k_unknown u) = r_skipped u

pub rule_view : (m : Message) (t len : ℕ) → RuleView t len m (rule m t len)
unfolding rule
rule_view m t len = kind_rule m t len (kind_view t)

-- and back
pub rule_unknown : (m : Message) (t len : ℕ) → Unknown t → rule m t len ≡ accept skipped m
unfolding rule kind_of rule_for
rule_unknown m t len u = let e = lookup_absent t column unknown (absent_of t u) in rw e

pub rule_data : {q : Message} (m : Message) (len : ℕ) → carries len m ≡ goes q → rule m 0 len ≡ accept content q
unfolding rule kind_of lookup column rule_for data_rule
rule_data m len e = rw e

short_enough : (len : ℕ) → len ≤ headers_limit → (x : Bool) → ltb headers_limit len ≡ x → x ≡ false
short_enough len h true e = let l = ltb→lt headers_limit len (rw e tt) in absurd (omega arith)
short_enough len h false e = refl

pub rule_header : (len : ℕ) → len ≤ headers_limit → rule opening 1 len ≡ accept (section header_section) opening
unfolding rule kind_of lookup column rule_for headers_rule within_limit
rule_header len h = let e = short_enough len h (ltb headers_limit len) refl in rw (e, within_limit)

pub rule_trailers : (stated : Option ℕ) (sum len : ℕ) → len ≤ headers_limit → rule (body stated sum) 1 len ≡ accept (section trailers) (body stated sum)
unfolding rule kind_of lookup column rule_for headers_rule within_limit
rule_trailers stated sum len h = let e = short_enough len h (ltb headers_limit len) refl in rw (e, within_limit)

-- ---- and what is refused

forbidden_kind : (t : ℕ) → 2 ≤ t → t < 10 → kind_of t ≡ forbidden
unfolding kind_of lookup column
forbidden_kind zero h l = absurd (omega arith)
forbidden_kind (suc zero) h l = absurd (omega arith)
forbidden_kind (suc (suc zero)) h l = refl
forbidden_kind (suc (suc (suc zero))) h l = refl
forbidden_kind (suc (suc (suc (suc zero)))) h l = refl
forbidden_kind (suc (suc (suc (suc (suc zero))))) h l = refl
forbidden_kind (suc (suc (suc (suc (suc (suc zero)))))) h l = refl
forbidden_kind (suc (suc (suc (suc (suc (suc (suc zero))))))) h l = refl
forbidden_kind (suc (suc (suc (suc (suc (suc (suc (suc zero)))))))) h l = refl
forbidden_kind (suc (suc (suc (suc (suc (suc (suc (suc (suc zero))))))))) h l = refl
forbidden_kind (suc (suc (suc (suc (suc (suc (suc (suc (suc (suc k)))))))))) h l = absurd (omega arith)

pub rule_forbidden : (m : Message) (t len : ℕ) → 2 ≤ t → t < 10 → rule m t len ≡ refuse (of_connection frame_unexpected)
unfolding rule rule_for
rule_forbidden m t len h l = let e = forbidden_kind t h l in rw e

pub rule_thirteen : (m : Message) (len : ℕ) → rule m 13 len ≡ refuse (of_connection frame_unexpected)
unfolding rule kind_of lookup column rule_for
rule_thirteen m len = refl

pub rule_early_data : (len : ℕ) → rule opening 0 len ≡ refuse (of_connection frame_unexpected)
unfolding rule kind_of lookup column rule_for data_rule carries code_of
rule_early_data len = refl

pub rule_late_data : (stated : Option ℕ) (sum len : ℕ) → rule (trailed stated sum) 0 len ≡ refuse (of_connection frame_unexpected)
unfolding rule kind_of lookup column rule_for data_rule carries code_of
rule_late_data stated sum len = refl

pub rule_past_stated : (n sum len : ℕ) → n < sum + len → rule (body (some n) sum) 0 len ≡ refuse (of_stream message_error)
unfolding rule kind_of lookup column rule_for data_rule carries sum_to code_of
rule_past_stated n sum len h = let e = lt-ltb n (sum + len) h in rw (e, sum_to)

pub rule_past_limit : (sum len : ℕ) → content_limit < sum + len → rule (body none sum) 0 len ≡ refuse (of_stream request_cancelled)
unfolding rule kind_of lookup column rule_for data_rule carries sum_to code_of
rule_past_limit sum len h = let e = lt-ltb content_limit (sum + len) h in rw (e, sum_to)

long_enough : (len : ℕ) (r : Ruling Message) → headers_limit < len → within_limit len r ≡ refuse (of_connection excessive_load)
unfolding within_limit
long_enough len r h = let e = lt-ltb headers_limit len h in rw (e, within_limit)

pub rule_long_header : (len : ℕ) → headers_limit < len → rule opening 1 len ≡ refuse (of_connection excessive_load)
unfolding rule kind_of lookup column rule_for headers_rule
rule_long_header len h = long_enough len _ h

pub rule_long_trailers : (stated : Option ℕ) (sum len : ℕ) → headers_limit < len → rule (body stated sum) 1 len ≡ refuse (of_connection excessive_load)
unfolding rule kind_of lookup column rule_for headers_rule
rule_long_trailers stated sum len h = long_enough len _ h

pub rule_third : (stated : Option ℕ) (sum len : ℕ) → rule (trailed stated sum) 1 len ≡ refuse (of_connection frame_unexpected)
unfolding rule kind_of lookup column rule_for headers_rule code_of
rule_third stated sum len = refl
