-- The line of a whole header, from the frame table in numbers (streams, Uses). Assumes nothing.
use Rattle.std.specs.Prelude.{ℕ, zero, suc, ◌+◌, ◌≤◌, ◌<◌, ◌^◌, min, ◌≡◌, refl, Bool, true, false, ltb}
use Rattle.std.proofs.Common.{sym, ◌∙◌, arith, ltb→lt, nltb→le, lt-ltb, le-ltb}
use Rattle.std.proofs.Math.Path.{ap}
use Rattle.std.proofs.Math.Option.{none}
use Rattle.rules.specs.Numbers.{of_connection, excessive_load, code_number}
use Rattle.rules.specs.Frames.{Header}
use Rattle.rules.specs.Reading.{section, trailers, Ruling, refuse, accept}
use Rattle.rules.specs.Message.{Message, opening, body, trailed, past_limit, goes, refuses, carries, sum_to, content_limit}
use Rattle.rules.specs.Request.{Kind, data·, headers, forbidden, unknown, kind_of, headers_limit, within_limit, data_rule, headers_rule, rule_for, rule}
use Rattle.meaning.specs.Hom.{map_ruling}
use Rattle.meaning.specs.FrameLaws.{head}
use Rattle.meaning.specs.NumberLaws.{code_high}
use Rattle.meaning.specs.RequestLaws.{RuleView, r_refused, r_skipped, r_content, r_header, r_trailers, rule_view}
use Rattle.frames.specs.Modes.{USE-SKIPPED, USE-CONTENT, USE-HEADER-SECTION, USE-TRAILERS}
use Rattle.frames.specs.Both.{of_request}
use Rattle.frames.specs.Both as both
use Rattle.frames.specs.Uses.{stated_of, place_of, use_number, number_of, data_lawful}
use Rattle.listing.specs.Lines.{phase_number, place, message_of, after, usage_of, line_of, ruled_line}
use Rattle.listing.specs.declared.Place.{Place}
use Rattle.listing.specs.declared.Usage.TheVariants.{Skipped, Content, HeaderSection, Trailers}
use Rattle.std.specs.Prelude.{Some}
use Rattle.listing.specs.declared.Phase.TheVariants.{Body, Trailed}
use Rattle.listing.specs.declared.Line.{Line}
use Rattle.listing.specs.declared.Line.TheVariants.{Frame, Refused}

-- ---- the table's number is the rule's, a sum past the limit on content being as good as any other

abbrev capped : ℕ → ℕ
capped sum = min sum 1_048_577

number_map : {P Q : Type 0} (f : P → Q) (r : Ruling P) → number_of (map_ruling f r) ≡ number_of r
unfolding number_of map_ruling
number_map f (refuse code) = refl
number_map f (accept u p) = refl

past : (sum len : ℕ) → ltb content_limit (capped sum + len) ≡ ltb content_limit (sum + len)
unfolding content_limit
past sum len = go (ltb 1_048_576 (sum + len)) refl
  where
    go : (x : Bool) → ltb 1_048_576 (sum + len) ≡ x → ltb 1_048_576 (capped sum + len) ≡ x
    go true e = let l = ltb→lt 1_048_576 (sum + len) (rw e tt) in lt-ltb 1_048_576 (capped sum + len) (omega arith)
    go false e = let l = nltb→le 1_048_576 (sum + len) (rw e tt) in le-ltb 1_048_576 (capped sum + len) (omega arith)

data_number : (a b : ℕ) (x y : Bool) → x ≡ y → number_of (data_rule (elim x [ true ↦ refuses past_limit | false ↦ goes (body none a) ]))
    ≡ number_of (data_rule (elim y [ true ↦ refuses past_limit | false ↦ goes (body none b) ]))
unfolding data_rule number_of
data_number a b true true e = refl
data_number a b false false e = refl
data_number a b true false e = let z : ◌≡◌ {A = ℕ} 0 1 = cc in absurd (omega arith)
data_number a b false true e = let z : ◌≡◌ {A = ℕ} 0 1 = cc in absurd (omega arith)

trailers_number : (a b : ℕ) (x : Bool) → number_of {P = Message} (elim x [ true ↦ refuse (of_connection excessive_load) | false ↦ accept (section trailers) (body none a) ])
    ≡ number_of {P = Message} (elim x [ true ↦ refuse (of_connection excessive_load) | false ↦ accept (section trailers) (body none b) ])
unfolding number_of
trailers_number a b true = refl
trailers_number a b false = refl

body_number : (k : Kind) (sum len : ℕ) → number_of (rule_for k (body none (capped sum)) len) ≡ number_of (rule_for k (body none sum) len)
unfolding rule_for carries sum_to headers_rule within_limit number_of
body_number data· sum len = data_number (capped sum + len) (sum + len) (ltb content_limit (capped sum + len)) (ltb content_limit (sum + len)) (past sum len)
body_number headers sum len = trailers_number (capped sum) sum (ltb headers_limit len)
body_number forbidden sum len = refl
body_number unknown sum len = refl

trailed_number : (k : Kind) (a b len : ℕ) → number_of (rule_for k (trailed none a) len) ≡ number_of (rule_for k (trailed none b) len)
unfolding rule_for carries headers_rule data_rule number_of
trailed_number data· a b len = refl
trailed_number headers a b len = refl
trailed_number forbidden a b len = refl
trailed_number unknown a b len = refl

capped_number : (phase sum t len : ℕ) → number_of (rule (message_of phase (capped sum)) t len) ≡ number_of (rule (message_of phase sum) t len)
unfolding message_of rule
capped_number zero sum t len = refl
capped_number (suc zero) sum t len = body_number (kind_of t) sum len
capped_number (suc (suc k)) sum t len = trailed_number (kind_of t) (capped sum) sum len

as_request : (phase sum t len : ℕ) → phase < 3 → number_of (both.rule (place_of phase 0 0 sum) t len) ≡ number_of (rule (message_of phase sum) t len)
unfolding both.rule place_of stated_of message_of
as_request zero sum t len h = number_map of_request (rule opening t len)
as_request (suc zero) sum t len h = number_map of_request (rule (body none sum) t len)
as_request (suc (suc zero)) sum t len h = number_map of_request (rule (trailed none sum) t len)
as_request (suc (suc (suc k))) sum t len h = absurd (omega arith)

-- ---- the line by its number

unfoldable pub line_by : Place → Header → (number : ℕ) → Line
line_by p h zero = Frame h.at h.type h.len Skipped (place (h.from + h.len) p.phase p.sum)
line_by p h (suc zero) = Frame h.at h.type h.len Content (place (h.from + h.len) p.phase (p.sum + h.len))
line_by p h (suc (suc zero)) = Frame h.at h.type h.len HeaderSection (place (h.from + h.len) (Some Body) 0)
line_by p h (suc (suc (suc zero))) = Frame h.at h.type h.len Trailers (place (h.from + h.len) (Some Trailed) p.sum)
line_by p h (suc (suc (suc (suc k)))) = Refused h.from (suc (suc (suc (suc k))))

line_high : (p : Place) (h : Header) (k : ℕ) → 4 ≤ k → line_by p h k ≡ Refused h.from k
unfolding line_by
line_high p h zero l = absurd (omega arith)
line_high p h (suc zero) l = absurd (omega arith)
line_high p h (suc (suc zero)) l = absurd (omega arith)
line_high p h (suc (suc (suc zero))) l = absurd (omega arith)
line_high p h (suc (suc (suc (suc k)))) l = refl

line_view : (p : Place) (h : Header) {t len : ℕ} {m : Message} {r : Ruling Message} → RuleView t len m r → line_by p h (number_of r) ≡ line_of p h r
unfolding number_of use_number line_by line_of usage_of after
line_view p h (r_refused {code = code}) = line_high p h (code_number code) (let l = code_high code in omega arith)
line_view p h (r_skipped u) = refl
line_view p h (r_content z e) = refl
line_view p h (r_header z l) = refl
line_view p h (r_trailers z l) = refl

high_view : {t len : ℕ} {m : Message} {r : Ruling Message} → RuleView t len m r → 4 ≤ number_of r → 9 < number_of r
unfolding number_of use_number
high_view (r_refused {code = code}) l = code_high code
high_view (r_skipped u) l = absurd (omega arith)
high_view (r_content z e) l = absurd (omega arith)
high_view (r_header z l) h = absurd (omega arith)
high_view (r_trailers z l) h = absurd (omega arith)

module _ (p : Place) (from t len number : ℕ) (phase : phase_number p.phase < 3) (known : number ≡ number_of (both.rule (place_of (phase_number p.phase) 0 0 (capped p.sum)) t len)) where
  is : number ≡ number_of (rule (message_of (phase_number p.phase) p.sum) t len)
  is = known ∙ as_request (phase_number p.phase) (capped p.sum) t len phase ∙ capped_number (phase_number p.phase) p.sum t len

  by_number : (k : ℕ) → number ≡ k → line_by p (head p.at from t len) k ≡ ruled_line p (head p.at from t len)
  unfolding ruled_line
  by_number k e = ap (line_by p (head p.at from t len)) (sym e ∙ is) ∙ line_view p (head p.at from t len) (rule_view (message_of (phase_number p.phase) p.sum) t len)

  pub line_skipped : number ≡ USE-SKIPPED → Frame p.at t len Skipped (place (from + len) p.phase p.sum) ≡ ruled_line p (head p.at from t len)
  line_skipped e = unfold line_by in by_number USE-SKIPPED e

  pub line_content : number ≡ USE-CONTENT → Frame p.at t len Content (place (from + len) p.phase (p.sum + len)) ≡ ruled_line p (head p.at from t len)
  line_content e = unfold line_by in by_number USE-CONTENT e

  pub line_header_section : number ≡ USE-HEADER-SECTION → Frame p.at t len HeaderSection (place (from + len) (Some Body) 0) ≡ ruled_line p (head p.at from t len)
  line_header_section e = unfold line_by in by_number USE-HEADER-SECTION e

  pub line_trailers : number ≡ USE-TRAILERS → Frame p.at t len Trailers (place (from + len) (Some Trailed) p.sum) ≡ ruled_line p (head p.at from t len)
  line_trailers e = unfold line_by in by_number USE-TRAILERS e

  pub line_refused : 4 ≤ number → Refused from number ≡ ruled_line p (head p.at from t len)
  line_refused l = sym (line_high p (head p.at from t len) number l) ∙ by_number number refl

  -- a request keeps no payload
  pub never_kept : 4 ≤ number → 9 < number
  never_kept l = let e = is in omega (arith, high_view (rule_view (message_of (phase_number p.phase) p.sum) t len))

  -- the sum stays small
  pub content_fits : number ≡ USE-CONTENT → p.sum + len ≤ 2 ^ 62
  content_fits e = (data_lawful (phase_number p.phase) 0 0 p.sum t len (omega arith) (as_request (phase_number p.phase) p.sum t len phase ∙ sym is ∙ e)).1
