-- A call on an open one-way stream: what the core answers, and what it leaves of the connection, is what the trace's stream does. Assumes nothing.
use Rattle.std.proofs.Math.Path.{◌≡◌, refl, ap}
use Rattle.std.proofs.Common.{sym, ◌∙◌, inl, inr}
use Rattle.std.specs.Prelude.{ℕ, zero, suc, ◌-◌, ◌≤◌, Bool, ◌⊎◌}
use Rattle.std.proofs.Math.Decide.{ℕ_discrete}
use native.Mathlib.Omega.{arith}
use mathlib.Core.List.{List, [], ◌∷◌}
use Rattle.std.proofs.Math.Bool.{true, false}
use Rattle.std.proofs.Math.Option.{Option, none, some}
use Rattle.std.proofs.Math.ListN.{get_or}
use Rattle.record.specs.Kinds.{CONTROL}
use Rattle.rules.specs.Numbers.{no_section, ConnectionFault, closed_critical_stream, of_connection, code_number, Code, of_stream, id_error}
use Rattle.rules.specs.Integers.{integer}
use Rattle.rules.specs.Reading.{Kept as Payload, settings, goaway, max_push_id, cancel_push, kept, Next, stop, go}
use Rattle.rules.specs.Control.{Settings, settings_of, Control, unset, set, control, only, above, below, after_goaway, after_max_push, after_integer, after_settings, judged, told_goaway, told_max_push_id, settings_in, id_in, tells}
use Rattle.rules.specs.OneWay.{Qpack, encoder, decoder, a_control, a_qpack, skipped, Typed, refuse, is, type_rule}
use Rattle.meaning.specs.Machine as M
use Rattle.meaning.specs.Machine.{State, Outcome}
use Rattle.meaning.specs.Feed as F
use Rattle.meaning.specs.OneWayFeed as O
use Rattle.meaning.specs.OneWayFeed.{OneState, OneOutcome, OneEvent, OneFeeding}
use Rattle.rules.specs.Calls.{Own, fed, Out, step, fault, of_fed, of_closed, map_out, act₁, telling, held, Held, keeping, act_on}
use Rattle.frames.specs.declared.Cells.{Cells}
use Rattle.record.specs.declared.Record.{Record}
use Rattle.record.specs.Row.{length_of, place_in, one_way_record, free_record}
use Rattle.record.specs.Sound.{cells_in}
use Rattle.oneway.specs.Types as types
use Rattle.oneway.specs.Types.{types_of}
use Rattle.oneway.specs.Stands.{one_state_at}
use Rattle.oneway.specs.Closed.{closes}
use Rattle.control.specs.Rules.{control_at, control_of}
use Rattle.oneway.specs.declared.calls.Side.{Side}
use Rattle.oneway.specs.declared.calls.Heard.{Heard}
use Rattle.oneway.specs.Mirror.{kept_numbers, side_after}
use Rattle.oneway.specs.Heard as side
use Rattle.oneway.specs.Heard.{Heeds, place_here, sofar_here, state_here, taken_number, value_in, frame_event, frame_value, type_number, feeding, fed_here, closed_by}
use Rattle.oneway.specs.Back.{set_back}
use Rattle.connection.specs.declared.Own.{Own as CoreOwn}
use Rattle.connection.specs.declared.Connection.{Connection}
use Rattle.connection.specs.Halves.{side_in, with_side}
use Rattle.connection.specs.Turned.{by_own, told, turn, one_way_as, StaysOn, overheard}
use Rattle.connection.specs.Leavings.{Standing, controls, others, standing, control_once, control_kind}
use Rattle.connection.specs.Pair.{Paired}
use Rattle.demands.specs.Streams as streams
use Rattle.demands.specs.Streams.{conn_code, Keeps, types_in, kept_by, type_of, notice_of, frames_event, one_event, heard_by, close_of}
use Rattle.meaning.specs.NumberLaws.{OfConnection}
use Rattle.demands.specs.Codes.{one_way_listed}
use Rattle.demands.specs.Means.{slot_at, slot_of, is_there, keeps_of, conn_of, own_of, noticed, reported, report_of}
use Rattle.demands.specs.Suits.{OutcomeSuits, Judged, EventSuits, ControlFits, ControlSuits, control_suits}
use Rattle.demands.specs.Settles.{Comes, refuses, steps, leaves, kills}
use Rattle.demands.specs.Asked.{by_each, code_none, code_house, code_kept}

-- ---- what a one-way stream is reading fits where it is

abbrev pub OneSuits : OneState → Type 0
OneSuits (O.in_stream_type g) = Unit {0}
OneSuits (O.in_control s) = ControlSuits s
OneSuits (O.in_qpack q) = Unit {0}
OneSuits O.in_skipped = Unit {0}

abbrev pub OneAfter : OneOutcome → Type 0
OneAfter (O.lives s) = OneSuits s
OneAfter (O.dies code) = Unit {0}

-- a payload reported was judged good
abbrev pub TakenSo : (k : Payload) → (payload : List ℕ) → OneOutcome → Type 0
TakenSo k payload o = (x : Outcome Control) × (o ≡ O.controlled x) × Judged control ControlFits k payload x

abbrev pub OneTells : OneEvent → OneOutcome → Type 0
OneTells (O.of_frames F.quiet) o = Unit {0}
OneTells (O.of_frames (F.section_bytes len last)) o = ⊥
OneTells (O.of_frames (F.content_bytes len)) o = ⊥
OneTells (O.of_frames (F.taken k payload)) o = TakenSo k payload o
OneTells (O.qpack_bytes q len) o = Unit {0}

pub record OneFed (f : OneFeeding) : Type 0 where
  pub event : OneTells f.event f.after
  pub after : OneAfter f.after

frames_tell : (e : F.Event) (x : Outcome Control) → EventSuits control ControlFits e x → OneTells (O.of_frames e) (O.controlled x)
frames_tell F.quiet x h = tt
frames_tell (F.section_bytes len last) x (t, (p, h)) = h
frames_tell (F.content_bytes len) x (p, h) = h
frames_tell (F.taken k payload) x h = (x, refl, h)

frames_after : (x : Outcome Control) → OutcomeSuits control ControlFits x → OneAfter (O.controlled x)
unfolding O.controlled
frames_after (M.lives s) h = h
frames_after (M.dies code) h = tt

control_fed : (allow : ℕ) (s : State Control) → ControlSuits s → (piece : List ℕ) → OneFed (O.of_control (F.feed control allow s piece))
unfolding O.of_control
control_fed allow s h piece = let f = F.feed control allow s piece in let w = control_suits allow s h piece in
    record { event = frames_tell f.event f.after w.event; after = frames_after f.after w.after }

qpack_fed : (q : Qpack) (piece : List ℕ) → OneFed (O.qpack_feed q piece)
unfolding O.qpack_feed O.halt
qpack_fed q [] = record { event = tt; after = tt }
qpack_fed q (b ∷ bs) = record { event = tt; after = tt }

typed_fed : (allow : ℕ) (t : Typed) (piece : List ℕ) → OneFed (O.typed_feed allow t piece)
unfolding O.typed_feed O.kind_feed O.halt
typed_fed allow (refuse code) piece = record { event = tt; after = tt }
typed_fed allow (is a_control) piece = control_fed allow (M.between unset) tt piece
typed_fed allow (is (a_qpack q)) piece = qpack_fed q piece
typed_fed allow (is skipped) piece = record { event = tt; after = tt }

also_fed : (f : OneFeeding) → OneFed f → OneFed (O.also f)
unfolding O.also
also_fed f h = record { event = h.event; after = h.after }

module _ (seen : List ℕ) (allow : ℕ) where
  type_fed : (piece : List ℕ) (g : M.Prog) → OneFed (O.type_feed seen allow g piece)
  unfolding O.type_feed O.halt
  type_fed [] g = record { event = tt; after = tt }
  type_fed (b ∷ bs) g = also_fed _ (by (type_fed bs) (M.fed g b))
    where
      by : ((g : M.Prog) → OneFed (O.type_feed seen allow g bs)) → (x : M.Fed) → OneFed (elim x [ M.going g' ↦ O.type_feed seen allow g' bs | M.value t ↦ O.typed_feed allow (type_rule seen t) bs ])
      by on (M.going g') = on g'
      by on (M.value t) = typed_fed allow (type_rule seen t) bs

  -- A ONE-WAY STREAM'S FEED
  pub one_suits : (s : OneState) → OneSuits s → (piece : List ℕ) → OneFed (O.feed seen allow s piece)
  unfolding O.feed O.kind_feed O.typed_feed
  one_suits (O.in_stream_type g) h piece = type_fed piece g
  one_suits (O.in_control s) h piece = control_fed allow s h piece
  one_suits (O.in_qpack q) h piece = qpack_fed q piece
  one_suits O.in_skipped h piece = typed_fed allow (is skipped) piece

-- ---- what it reports

settings_told : (u h : ℕ) (n : Next Settings) (next : Control) → after_settings n ≡ go next → told 0 8 0 0 u h 0 ≡ reported u h (notice_of (settings_in n))
unfolding after_settings settings_in notice_of reported noticed
settings_told u h (stop code) next e = let z : ◌≡◌ {A = ℕ} 0 1 = cc in absurd (omega arith)
settings_told u h (go s) next e = refl

module _ (u h : ℕ) (s : Settings) (g m : Option ℕ) (next : Control) where
  goaway_told : (o : Option ℕ) → after_integer goaway s g m o ≡ go next → told 0 9 0 0 u h (kept_numbers next).goaway.0 ≡ reported u h (notice_of (id_in told_goaway o))
  unfolding after_integer after_goaway id_in notice_of reported noticed kept_numbers length_of
  goaway_told none e = let z : ◌≡◌ {A = ℕ} 0 1 = cc in absurd (omega arith)
  goaway_told (some id) e = ap (told 0 9 0 0 u h) (by (above id g) e)
    where
      by : (x : Bool) → ◌≡◌ {A = Next Control} (elim x [ true ↦ stop (of_connection id_error) | false ↦ go (set s (some id) m) ]) (go next) → (kept_numbers next).goaway.0 ≡ id
      by true e = let z : ◌≡◌ {A = ℕ} 0 1 = cc in absurd (omega arith)
      by false e = let q : set s (some id) m ≡ next = cc in rw (← q) refl

  push_told : (o : Option ℕ) → after_integer max_push_id s g m o ≡ go next → told 0 10 0 0 u h (kept_numbers next).push.0 ≡ reported u h (notice_of (id_in told_max_push_id o))
  unfolding after_integer after_max_push id_in notice_of reported noticed kept_numbers length_of
  push_told none e = let z : ◌≡◌ {A = ℕ} 0 1 = cc in absurd (omega arith)
  push_told (some id) e = ap (told 0 10 0 0 u h) (by (below id m) e)
    where
      by : (x : Bool) → ◌≡◌ {A = Next Control} (elim x [ true ↦ stop (of_connection id_error) | false ↦ go (set s g (some id)) ]) (go next) → (kept_numbers next).push.0 ≡ id
      by true e = let z : ◌≡◌ {A = ℕ} 0 1 = cc in absurd (omega arith)
      by false e = let q : set s g (some id) ≡ next = cc in rw (← q) refl

  never_cancelled : (o : Option ℕ) → after_integer cancel_push s g m o ≡ go next → ⊥
  unfolding after_integer
  never_cancelled none e = let z : ◌≡◌ {A = ℕ} 0 1 = cc in omega arith
  never_cancelled (some id) e = let z : ◌≡◌ {A = ℕ} 0 1 = cc in omega arith

judged_told : (u h : ℕ) (k : Payload) (place next : Control) (payload : List ℕ) → ControlFits (kept k) place → judged k place payload ≡ go next
    → told 0 (taken_number k) 0 0 u h (value_in k (kept_numbers next)) ≡ reported u h (notice_of (tells k payload))
unfolding judged taken_number value_in tells
judged_told u h settings place next payload f e = settings_told u h (settings_of payload) next (rw f at e)
judged_told u h goaway unset next payload f e = absurd f
judged_told u h goaway (set s g m) next payload f e = goaway_told u h s g m next (only (integer 0 payload)) e
judged_told u h max_push_id unset next payload f e = absurd f
judged_told u h max_push_id (set s g m) next payload f e = push_told u h s g m next (only (integer 0 payload)) e
judged_told u h cancel_push unset next payload f e = absurd f
judged_told u h cancel_push (set s g m) next payload f e = absurd (never_cancelled u h s g m next (only (integer 0 payload)) e)

-- the event and its value are the notice
frames_told : (u h : ℕ) (d : Side) (e : F.Event) (x : OneState) → OneTells (O.of_frames e) (O.lives x) → told 0 (frame_event e) 0 0 u h (frame_value e (side_after d x).kept) ≡ reported u h (frames_event e)
unfolding frame_event frame_value frames_event reported
frames_told u h d F.quiet x w = refl
frames_told u h d (F.section_bytes len last) x w = refl
frames_told u h d (F.content_bytes len) x w = refl
frames_told u h d (F.taken k payload) x (o, q, j) =
    let z : x ≡ O.in_control (M.between j.next) = controlled_is (q ∙ ap O.controlled j.left) in
    rw z (unfold side_after place_in in judged_told u h k j.place j.next payload j.fits j.is)
  where
    controlled_is : {y : OneState} {s : State Control} → O.lives y ≡ O.controlled (M.lives s) → y ≡ O.in_control s
    controlled_is e = unfold O.controlled in cc

type_number_lem : (q : Qpack) → type_number q ≡ type_of q
unfolding type_number type_of
type_number_lem encoder = refl
type_number_lem decoder = refl

-- ---- what the connection keeps

came_same : (n t : ℕ) → streams.came (is_there n) t ≡ types.came n t
unfolding streams.came is_there types.came
came_same zero t = refl
came_same (suc n) t = refl

types_same : (d : Side) → types_in (keeps_of d) ≡ types_of d.control d.encoder d.decoder
unfolding types_in types_of
types_same d = let a = came_same d.control 0 in let b = came_same d.encoder 2 in let c = came_same d.decoder 3 in rw (a, b, c) refl

pub said_back : (p : Control) → control_of (kept_numbers p) ≡ p
unfolding control_at kept_numbers
said_back unset = refl
said_back (set s g m) = set_back s g m

place_same : (s : State Control) → place_in s ≡ streams.place_in s
unfolding place_in streams.place_in
place_same (M.in_type g p) = refl
place_same (M.in_length t g p) = refl
place_same (M.in_payload u k left p) = refl
place_same (M.due t p) = refl

kept_same : (d : Side) (x : OneState) → keeps_of (side_after d x) ≡ kept_by (keeps_of d) x
unfolding side_after kept_by is_there
kept_same d (O.in_stream_type g) = refl
kept_same d (O.in_control s) = ap (λ y. record { control = true; encoder = is_there d.encoder; decoder = is_there d.decoder; said = y }) (said_back (place_in s) ∙ place_same s)
kept_same d (O.in_qpack encoder) = refl
kept_same d (O.in_qpack decoder) = refl
kept_same d O.in_skipped = refl

-- ---- the record, and the others

pub two_slot : (d : Side) (q : Record) (k : ℕ) → 2 ≤ k → slot_at k d q ≡ held q.id (telling (state_here q d))
unfolding slot_at
two_slot d q zero l = absurd (omega arith)
two_slot d q (suc zero) l = absurd (omega arith)
two_slot d q (suc (suc k)) l = refl

same_slot : (d e : Side) (q : Record) → state_here q d ≡ state_here q e → (k : ℕ) → slot_at k d q ≡ slot_at k e q
unfolding slot_at
same_slot d e q h zero = refl
same_slot d e q h (suc zero) = refl
same_slot d e q h (suc (suc k)) = ap (λ x. held q.id (telling x)) h

standing_id : {id : ℕ} {q : Record} {x : OneState} → Standing id q x → q.id ≡ id
standing_id (controls i k) = i
standing_id (others i l n) = i

-- a stream that is no control stream looks at nothing that is kept
blind : (c : Cells) (p q : Control) (l m : List ℕ) (k : ℕ) → ¬ (k ≡ 3) → one_state_at k c p l ≡ one_state_at k c q m
unfolding one_state_at
blind c p q l m zero n = refl
blind c p q l m (suc zero) n = refl
blind c p q l m (suc (suc zero)) n = refl
blind c p q l m (suc (suc (suc zero))) n = absurd (n refl)
blind c p q l m (suc (suc (suc (suc zero)))) n = refl
blind c p q l m (suc (suc (suc (suc (suc zero))))) n = refl
blind c p q l m (suc (suc (suc (suc (suc (suc k)))))) n = refl

module _ {c : Connection} {rows : List Record} (p : Paired c rows) (at : ℕ) (r : Record) (was : r ≡ get_or rows at free_record) (allow : ℕ) (piece : List ℕ) where
  abbrev d : Side
  d = side_in c

  -- A STEP OF ONE STREAM leaves what the other records say
  others_say : (x : OneState) → (feeding d allow piece (state_here r d)).after ≡ O.lives x → (j : ℕ) → ¬ (j ≡ at) → state_here (get_or rows j free_record) (side_after d x) ≡ state_here (get_or rows j free_record) d
  unfolding side_after
  others_say (O.in_stream_type g) f j n = refl
  others_say (O.in_qpack encoder) f j n = refl
  others_say (O.in_qpack decoder) f j n = refl
  others_say O.in_skipped f j n = refl
  others_say (O.in_control s) f j n = let q = get_or rows j free_record in let e = side_after d (O.in_control s) in
      by (ℕ_discrete q.kind CONTROL) (control_once c.side.control c.side.encoder c.side.decoder allow (state_here r d) piece f)
    where
      by : Dec ((get_or rows j free_record).kind ≡ CONTROL) → (c.side.control ≡ 0) ⊎ ((y : State Control) × (state_here r d ≡ O.in_control y))
          → state_here (get_or rows j free_record) (side_after d (O.in_control s)) ≡ state_here (get_or rows j free_record) d
      by (yes k) (inl z) = absurd (p.control j k z)
      by (yes k) (inr (y, z)) = absurd (n (p.single j at k (sym (ap (λ x. x.kind) was) ∙ control_kind (cells_in r) (place_here r d) (sofar_here r d) r.kind z)))
      by (no k) z = let q = get_or rows j free_record in let e = side_after d (O.in_control s) in blind (cells_in q) (place_here q e) (place_here q d) (sofar_here q e) (sofar_here q d) q.kind k

  pub others_stand : (x : OneState) → (feeding d allow piece (state_here r d)).after ≡ O.lives x → (j : ℕ) → ¬ (j ≡ at) → slot_of (side_after d x) (get_or rows j free_record) ≡ slot_of d (get_or rows j free_record)
  others_stand x f j n = let q = get_or rows j free_record in same_slot (side_after d x) d q (others_say x f j n) q.kind

-- ---- the calls

module _ (c : Connection) (rows : List Record) (p : Paired c rows) (at : ℕ) (r : Record) (was : r ≡ get_or rows at free_record) (allow : ℕ) (piece : List ℕ) where
  abbrev here : Side
  here = side_in c

  abbrev state : OneState
  state = state_here r here

  abbrev Both : Type 0
  Both = record { state : OneState; kept : Keeps }

  abbrev heeds : Both → Held streams.streams
  heeds x = record { stream = telling x.state; kept = x.kept }

  abbrev Told : Heard → Out Both → Type 0
  Told a o = Comes c rows at r.id r (overheard c a) (map_out heeds o)

  kill_comes : (k : ConnectionFault) (u h : ℕ) → Told (side.heard (code_number (of_connection k)) 0 0 0 u h 0 r here) (fault (of_connection k) u h)
  unfolding map_out report_of
  kill_comes k u h = kills (code_kept c r (told (code_number (of_connection k)) 0 0 0 u h 0) k)

  dies_comes : (n : Code) (u h : ℕ) → OfConnection n → Told (side.heard (code_number n) 0 0 0 u h 0 r here) (fault n u h)
  dies_comes (of_stream k) u h o = absurd o
  dies_comes (of_connection k) u h o = kill_comes k u h

  module _ (x : OneState) (f : (feeding here allow piece state).after ≡ O.lives x) (stays : Heeds (one_way_record r.id x) × (state_here (one_way_record r.id x) (side_after here x) ≡ x)) where
    slot_after : slot_of (side_after here x) (one_way_record r.id x) ≡ held r.id (telling x)
    slot_after = let q = one_way_record r.id x in
        two_slot (side_after here x) q q.kind stays.0.kind ∙ ap (λ y. held q.id (telling y)) stays.1 ∙ ap (λ y. held y (telling x)) (standing_id (standing r.id x))

    conn_after : conn_of (with_side c (side_after here x)) ≡ keeping (kept_by (keeps_of here) x) (conn_of c)
    unfolding keeping
    conn_after = ap (λ y. record { dead = (conn_of c).dead; next_request = c.doors.requests; next_oneway = c.doors.oneways; limit = (conn_of c).limit; kept = y }) (kept_same here x)

    step_comes : (u h : ℕ) (e : OneEvent) (ev from len val : ℕ) → told 0 ev from len u h val ≡ reported u h (one_event u e)
        → Told (side.heard 0 ev from len u h val (one_way_record r.id x) (side_after here x)) (step (fed u h (one_event u e)) (record { state = x; kept = kept_by (keeps_of here) x }))
    unfolding map_out report_of
    step_comes u h e ev from len val q = let w = with_side c (side_after here x) in let row = one_way_record r.id x in
        steps w row (code_none w row (told 0 ev from len u h val) 0 refl ∙ ap (turn w row) q) slot_after conn_after (others_stand p at r was allow piece x f)

  said_comes : (u h : ℕ) (e : OneEvent) (o : OneOutcome) → (feeding here allow piece state).after ≡ o → OneTells e o → ((x : OneState) → o ≡ O.lives x → Heeds (side.said_by r here u h e o).row × (state_here (side.said_by r here u h e o).row (side.said_by r here u h e o).side ≡ x))
      → ((n : Code) → o ≡ O.dies n → OfConnection n) → Told (side.said_by r here u h e o) (of_fed (heard_by (keeps_of here) u h e o))
  unfolding side.said_by of_fed heard_by one_event reported noticed
  said_comes u h (O.of_frames e) (O.dies n) f w s l = dies_comes n u h (l n refl)
  said_comes u h (O.qpack_bytes q len) (O.dies n) f w s l = dies_comes n u h (l n refl)
  said_comes u h (O.of_frames e) (O.lives x) f w s l = step_comes x f (s x refl) u h (O.of_frames e) (frame_event e) 0 0 (frame_value e (side_after here x).kept) (frames_told u h here e x w)
  said_comes u h (O.qpack_bytes q len) (O.lives x) f w s l = step_comes x f (s x refl) u h (O.qpack_bytes q len) 7 (u - len) len (type_number q) (ap (λ y. told 0 7 (u - len) len u h y) (type_number_lem q))

  close_comes : (s : OneState) → Told (closed_by r here (closes s)) (of_closed (close_of s))
  unfolding closes close_of closed_by of_closed map_out report_of
  close_comes (O.in_stream_type g) = leaves (code_none c free_record (told 0 12 0 0 0 0 0) 0 refl)
  close_comes (O.in_control s) = kill_comes closed_critical_stream 0 0
  close_comes (O.in_qpack q) = kill_comes closed_critical_stream 0 0
  close_comes O.in_skipped = leaves (code_none c free_record (told 0 12 0 0 0 0 0) 0 refl)

  fed_comes : OneSuits state → StaysOn CoreOwn.Feed allow piece r here (fed_here r here allow piece state) → Told (fed_here r here allow piece state) (of_fed (streams.heard_of (keeps_of here) (O.feed (types_in (keeps_of here)) allow state piece)))
  fed_comes fits stays =
      let f = feeding here allow piece state in
      let q = types_same here in
      rw q (said_comes f.used f.heads f.event f.after refl (one_suits (types_of c.side.control c.side.encoder c.side.decoder) allow state fits piece).event (stays refl) (λ n e. one_way_listed (types_of c.side.control c.side.encoder c.side.decoder) allow state piece n e))

  -- ---- EVERY CALL

  pub one_way_comes : OneSuits state → (own : CoreOwn) → StaysOn own allow piece r here (one_way_as own allow piece r here state)
      → Comes c rows at r.id r (overheard c (one_way_as own allow piece r here state)) (act_on (conn_of c).kept (telling state) (own_of own allow piece))
  unfolding act_on act₁ by_own
  one_way_comes fits own stays =
      by_each (λ (a : Heard) (x : Own streams.streams). Comes c rows at r.id r (overheard c a) (act_on (conn_of c).kept (telling state) x)) own
      (λ z. fed_comes fits (rw z at stays))
      (unfold map_out in refuses (code_house c r (told 5 0 0 0 0 0 0) no_section))
      (close_comes state)
      (close_comes state)
