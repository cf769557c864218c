-- Places and rulings in numbers, as the code holds them. Assumes nothing.
use Rattle.std.specs.Prelude.{◌≡◌, refl, ℕ, zero, suc, ◌+◌, ◌≤◌, ◌<◌, ◌^◌, Bool, true, false, ◌||◌, leb, eqb}
use Rattle.std.proofs.Common.{sym, ap, ◌∙◌, arith, lit≤}
use Rattle.std.proofs.Math.Option.{Option, none, some}
use Rattle.std.proofs.Math.Dec.{ltb}
use Rattle.rules.specs.Numbers.{Code, of_connection, frame_error, code_number, coded}
use Rattle.rules.specs.Text.{lookup}
use Rattle.rules.specs.Reading.{header_section, trailers, Kept, settings, goaway, max_push_id, cancel_push, Use, content, skipped, section, kept, Ruling, refuse, accept}
use Rattle.rules.specs.Message.{content_limit, Message, opening, body, trailed, Step, goes, carries}
use Rattle.rules.specs.Control.{Control, unset, set, no_settings, Kind, forbidden, one_integer, unknown, column, rule_for, rule as control_rule}
use Rattle.meaning.specs.Hom.{map_ruling}
use Rattle.meaning.specs.RequestLaws.{RuleView, r_refused, r_skipped, r_content, r_header, r_trailers, rule_view}
use Rattle.meaning.specs.MessageLaws.{Fits, CarryView, c_refused, c_goes, carry_view}
use Rattle.meaning.specs.ControlLaws.{ControlView, v_refused, v_skipped, v_kept, control_view}
use Rattle.meaning.specs.NumberLaws.{coded_back, code_high}
use Rattle.frames.specs.Modes.{USE-SKIPPED, USE-CONTENT, USE-HEADER-SECTION, USE-TRAILERS, USE-SETTINGS, USE-GOAWAY, USE-MAX-PUSH-ID, USE-CANCEL-PUSH, NO-USE, BODY}
use Rattle.frames.specs.Both.{Place, of_request, of_control, rule}

-- ---- a place

unfoldable pub stated_of : (has stated : ℕ) → Option ℕ
stated_of zero n = none
stated_of (suc h) n = some n

-- a place that four numbers mean; of a control stream behind SETTINGS, any one
unfoldable pub place_of : (phase has stated sum : ℕ) → Place
place_of zero h n m = of_request opening
place_of (suc zero) h n m = of_request (body (stated_of h n) m)
place_of (suc (suc zero)) h n m = of_request (trailed (stated_of h n) m)
place_of (suc (suc (suc zero))) h n m = of_control unset
place_of (suc (suc (suc (suc k)))) h n m = of_control (set no_settings none none)

abbrev IsSet : Place → Type 0
IsSet (of_request m) = ⊥
IsSet (of_control unset) = ⊥
IsSet (of_control (set s g m)) = Unit {0}

-- numbers that mean a place
pub data Stands (has stated sum : ℕ) : (phase : ℕ) → Place → Type 0 where
  a_place : {phase : ℕ} → Stands has stated sum phase (place_of phase has stated sum)
  any_set : {p : Place} (k : ℕ) → IsSet p → Stands has stated sum (suc (suc (suc (suc k)))) p

-- ---- a ruling

unfoldable pub kept_number : Kept → ℕ
kept_number settings = USE-SETTINGS
kept_number goaway = USE-GOAWAY
kept_number max_push_id = USE-MAX-PUSH-ID
kept_number cancel_push = USE-CANCEL-PUSH

unfoldable pub use_number : Use → ℕ
use_number skipped = USE-SKIPPED
use_number content = USE-CONTENT
use_number (section header_section) = USE-HEADER-SECTION
use_number (section trailers) = USE-TRAILERS
use_number (kept k) = kept_number k

unfoldable pub number_of : {P : Type 0} → Ruling P → ℕ
number_of (refuse code) = code_number code
number_of (accept u p) = use_number u

-- where a place is once a frame of this use is accepted
unfoldable pub with_data : (len : ℕ) → Place → Place
with_data len (of_request opening) = of_request opening
with_data len (of_request (body stated sum)) = of_request (body stated (sum + len))
with_data len (of_request (trailed stated sum)) = of_request (trailed stated sum)
with_data len (of_control c) = of_control c

unfoldable pub ruling_at : Place → (number len : ℕ) → Ruling Place
ruling_at p zero len = accept skipped p
ruling_at p (suc zero) len = accept content (with_data len p)
ruling_at p (suc (suc zero)) len = accept (section header_section) p
ruling_at p (suc (suc (suc zero))) len = accept (section trailers) p
ruling_at p (suc (suc (suc (suc zero)))) len = accept (kept settings) p
ruling_at p (suc (suc (suc (suc (suc zero))))) len = accept (kept goaway) p
ruling_at p (suc (suc (suc (suc (suc (suc zero)))))) len = accept (kept max_push_id) p
ruling_at p (suc (suc (suc (suc (suc (suc (suc zero))))))) len = accept (kept cancel_push) p
ruling_at p (suc (suc (suc (suc (suc (suc (suc (suc k)))))))) len = refuse (coded (suc (suc (suc (suc (suc (suc (suc (suc k)))))))))

pub high_back : (p : Place) (n len : ℕ) → USE-CANCEL-PUSH < n → ruling_at p n len ≡ refuse (coded n)
unfolding ruling_at
high_back p zero len h = absurd (omega arith)
high_back p (suc zero) len h = absurd (omega arith)
high_back p (suc (suc zero)) len h = absurd (omega arith)
high_back p (suc (suc (suc zero))) len h = absurd (omega arith)
high_back p (suc (suc (suc (suc zero)))) len h = absurd (omega arith)
high_back p (suc (suc (suc (suc (suc zero))))) len h = absurd (omega arith)
high_back p (suc (suc (suc (suc (suc (suc zero)))))) len h = absurd (omega arith)
high_back p (suc (suc (suc (suc (suc (suc (suc zero))))))) len h = absurd (omega arith)
high_back p (suc (suc (suc (suc (suc (suc (suc (suc k)))))))) len h = refl

pub refuse_back : (p : Place) (code : Code) (len : ℕ) → ruling_at p (code_number code) len ≡ refuse code
refuse_back p code len = high_back p (code_number code) len (let h = code_high code in omega arith) ∙ ap refuse (coded_back code)

data_back : (len : ℕ) (m q : Message) → CarryView len m (goes q) → with_data len (of_request m) ≡ of_request q
unfolding with_data
data_back len (body stated sum) q (c_goes f) = refl
data_back len opening q x' = elim x' [ ]
data_back len (trailed stated sum) q x'' = elim x'' [ ]

request_back : (t len : ℕ) (m : Message) {r : Ruling Message} → RuleView t len m r → map_ruling of_request r ≡ ruling_at (of_request m) (number_of (map_ruling of_request r)) len
unfolding number_of use_number ruling_at map_ruling
request_back t len m (r_refused {code = code}) = sym (refuse_back (of_request m) code len)
request_back t len m (r_skipped u) = refl
request_back t len m (r_content {q = q} z e) = ap (accept content) (sym (data_back len m q (rw e at (carry_view len m))))
request_back t len m (r_header z l) = refl
request_back t len m (r_trailers z l) = refl

kept_back : (k : Kept) (p : Place) (len : ℕ) → ruling_at p (kept_number k) len ≡ accept (kept k) p
unfolding kept_number ruling_at
kept_back settings p len = refl
kept_back goaway p len = refl
kept_back max_push_id p len = refl
kept_back cancel_push p len = refl

control_back : (c : Control) (len : ℕ) {r : Ruling Control} → ControlView c r → map_ruling of_control r ≡ ruling_at (of_control c) (number_of (map_ruling of_control r)) len
unfolding number_of use_number ruling_at map_ruling
control_back c len (v_refused {f = f}) = sym (refuse_back (of_control c) (of_connection f) len)
control_back c len v_skipped = refl
control_back c len (v_kept {k = k}) = sym (kept_back k (of_control c) len)

-- A RULING IS ITS NUMBER
pub ruling_back : (p : Place) (t len : ℕ) → rule p t len ≡ ruling_at p (number_of (rule p t len)) len
unfolding rule
ruling_back (of_request m) t len = request_back t len m (rule_view m t len)
ruling_back (of_control c) t len = control_back c len (control_view c t len)

-- a use has a small number
pub use_small : (u : Use) → use_number u ≤ USE-CANCEL-PUSH
unfolding use_number kept_number
use_small content = lit≤ tt
use_small skipped = lit≤ tt
use_small (section header_section) = lit≤ tt
use_small (section trailers) = lit≤ tt
use_small (kept settings) = lit≤ tt
use_small (kept goaway) = lit≤ tt
use_small (kept max_push_id) = lit≤ tt
use_small (kept cancel_push) = lit≤ tt

-- and no ruling that of none
request_not_none : (t len : ℕ) (m : Message) {r : Ruling Message} → RuleView t len m r → number_of (map_ruling of_request r) ≡ NO-USE → ⊥
unfolding number_of map_ruling
request_not_none t len m (r_refused {code = code}) e = let h = code_high code in omega arith
request_not_none t len m (r_skipped u) e = let h = use_small skipped in omega arith
request_not_none t len m (r_content z c) e = let h = use_small content in omega arith
request_not_none t len m (r_header z l) e = let h = use_small (section header_section) in omega arith
request_not_none t len m (r_trailers z l) e = let h = use_small (section trailers) in omega arith

control_not_none : (c : Control) {r : Ruling Control} → ControlView c r → number_of (map_ruling of_control r) ≡ NO-USE → ⊥
unfolding number_of map_ruling
control_not_none c (v_refused {f = f}) e = let h = code_high (of_connection f) in omega arith
control_not_none c v_skipped e = let h = use_small skipped in omega arith
control_not_none c (v_kept {k = k}) e = let h = use_small (kept k) in omega arith

pub not_none : (p : Place) (t len : ℕ) → number_of (rule p t len) ≡ NO-USE → ⊥
unfolding rule
not_none (of_request m) t len e = request_not_none t len m (rule_view m t len) e
not_none (of_control c) t len e = control_not_none c (control_view c t len) e

-- behind SETTINGS the rule does not look at what was kept
integer_same : (k : Kept) (c d : Control) (x : Bool)
    → number_of (map_ruling of_control (elim x [ true ↦ refuse (of_connection frame_error) | false ↦ accept (kept k) c ])) ≡ number_of (map_ruling of_control (elim x [ true ↦ refuse (of_connection frame_error) | false ↦ accept (kept k) d ]))
unfolding number_of map_ruling
integer_same k c d true = refl
integer_same k c d false = refl

kind_same : (k : Kind) (c d : Control) (len : ℕ) → number_of (map_ruling of_control (rule_for k c len)) ≡ number_of (map_ruling of_control (rule_for k d len))
unfolding rule_for number_of map_ruling
kind_same forbidden c d len = refl
kind_same (one_integer k) c d len = unfold number_of map_ruling in integer_same k c d (eqb len 0 || ltb 8 len)
kind_same unknown c d len = refl

pub number_stands : {has stated sum phase : ℕ} {p : Place} (t len : ℕ) → Stands has stated sum phase p → number_of (rule p t len) ≡ number_of (rule (place_of phase has stated sum) t len)
unfolding rule control_rule place_of
number_stands t len a_place = refl
number_stands t len (any_set {p = of_request m} k i) = absurd i
number_stands t len (any_set {p = of_control unset} k i) = absurd i
number_stands t len (any_set {p = of_control (set s g m)} k i) = kind_same (lookup column unknown t) (set s g m) (set no_settings none none) len

-- ---- what is passed: a skipped payload that is all there, and empty DATA

unfoldable pub passes_of : (left number room : ℕ) → Bool
passes_of left zero room = leb left room
passes_of left (suc zero) room = eqb left 0
passes_of left (suc (suc k)) room = false

pub passes_other : (left number room : ℕ) → (number ≡ USE-SKIPPED → ⊥) → (number ≡ USE-CONTENT → ⊥) → false ≡ passes_of left number room
unfolding passes_of
passes_other left zero room a b = absurd (a refl)
passes_other left (suc zero) room a b = absurd (b refl)
passes_other left (suc (suc k)) room a b = refl

pub passes_skip : (left number room : ℕ) → number ≡ USE-SKIPPED → leb left room ≡ passes_of left number room
unfolding passes_of
passes_skip left number room e = rw e refl

pub passes_data : (left number room : ℕ) → number ≡ USE-CONTENT → eqb left 0 ≡ passes_of left number room
unfolding passes_of
passes_data left number room e = rw e refl

-- ---- DATA is accepted only behind the header section, within what is stated or the limit

within_stated : (has stated total : ℕ) → Fits (stated_of has stated) total → stated ≤ 2 ^ 62 → total ≤ 2 ^ 62
unfolding Fits stated_of content_limit
within_stated zero stated total f h = omega arith
within_stated (suc k) stated total f h = omega arith

fits_move : (len : ℕ) {x y : Option ℕ} {u v : ℕ} → x ≡ y → u ≡ v → Fits y (v + len) → Fits x (u + len)
fits_move len a b f = rw (a, b) f

data_request : (t len : ℕ) (m : Message) {r : Ruling Message} → RuleView t len m r → number_of (map_ruling of_request r) ≡ USE-CONTENT → (q : Message) × (carries len m ≡ goes q)
unfolding number_of use_number map_ruling
data_request t len m (r_refused {code = code}) e = let h = code_high code in absurd (omega arith)
data_request t len m (r_skipped u) e = absurd (omega arith)
data_request t len m (r_content {q = q} z c) e = (q, c)
data_request t len m (r_header z l) e = absurd (omega arith)
data_request t len m (r_trailers z l) e = absurd (omega arith)

kept_no_content : (k : Kept) → kept_number k ≡ USE-CONTENT → ⊥
unfolding kept_number
kept_no_content settings e = omega arith
kept_no_content goaway e = omega arith
kept_no_content max_push_id e = omega arith
kept_no_content cancel_push e = omega arith

no_data : (c : Control) {r : Ruling Control} → ControlView c r → number_of (map_ruling of_control r) ≡ USE-CONTENT → ⊥
unfolding number_of use_number map_ruling
no_data c (v_refused {f = f}) e = let h = code_high (of_connection f) in omega arith
no_data c v_skipped e = omega arith
no_data c (v_kept {k = k}) e = kept_no_content k e

carried : (len : ℕ) {m q : Message} {s : Step} → CarryView len m s → s ≡ goes q → (stated : Option ℕ) × (sum : ℕ) × (m ≡ body stated sum) × Fits stated (sum + len)
carried len c_refused e = let z : ◌≡◌ {A = ℕ} 0 1 = cc in absurd (omega arith)
carried len (c_goes {stated = st} {sum = su} f) e = (st, su, refl, f)

pub data_lawful : (phase has stated sum t len : ℕ) → stated ≤ 2 ^ 62 → number_of (rule (place_of phase has stated sum) t len) ≡ USE-CONTENT → (phase ≡ BODY) × (sum + len ≤ 2 ^ 62)
unfolding rule place_of
data_lawful zero has stated sum t len h e =
    let d = data_request t len opening (rule_view opening t len) e in
    let k = carried len (carry_view len opening) d.1 in
    let z : ◌≡◌ {A = ℕ} 0 1 = cc k.2 in absurd (omega arith)
data_lawful (suc zero) has stated sum t len h e =
    let d = data_request t len (body (stated_of has stated) sum) (rule_view (body (stated_of has stated) sum) t len) e in
    let k = carried len (carry_view len (body (stated_of has stated) sum)) d.1 in
    let a : stated_of has stated ≡ k.0 = cc k.2 in
    let b : sum ≡ k.1 = cc k.2 in
    (refl, within_stated has stated (sum + len) (fits_move len a b k.3) h)
data_lawful (suc (suc zero)) has stated sum t len h e =
    let d = data_request t len (trailed (stated_of has stated) sum) (rule_view (trailed (stated_of has stated) sum) t len) e in
    let k = carried len (carry_view len (trailed (stated_of has stated) sum)) d.1 in
    let z : ◌≡◌ {A = ℕ} 0 1 = cc k.2 in absurd (omega arith)
data_lawful (suc (suc (suc zero))) has stated sum t len h e = absurd (no_data unset (control_view unset t len) e)
data_lawful (suc (suc (suc (suc k)))) has stated sum t len h e = absurd (no_data (set no_settings none none) (control_view (set no_settings none none) t len) e)
