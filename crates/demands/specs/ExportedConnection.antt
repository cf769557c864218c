-- WHAT EACH CALL LEAVES OF THE CONNECTION'S RECORD, OF THE EXPORTED FUNCTIONS: after a call that is accepted, all of it; and at every moment of a run, every
-- number that it keeps of the client, those that say nothing too. Exported says what `Every` is. Assumes nothing.
use Rattle.std.specs.Prelude.{◌≡◌, refl, ℕ, zero, suc, ◌%◌, ◌≤◌, ◌<◌, List, [], ◌∷◌, ◌++◌, Bool, true, false, ◌⊎◌, ltb, length, get_or, set}
use Rattle.std.proofs.Common.{sym, ap, ◌∙◌, subst, arith, inl, inr}
use Rattle.std.proofs.Math.Decide.{ℕ_discrete}
use Rattle.std.proofs.Math.Option.{Option, none, some}
use Rattle.rules.specs.Numbers.{ROOM-SHORT, BAD-VALUE}
use Rattle.rules.specs.Integers.{written}
use Rattle.rules.specs.Control.{Control, unset}
use Rattle.rules.specs.OneWay.{encoder, decoder}
use Rattle.rules.specs.Writer.{Write, refused, wrote, into, integer_frame, write_integer_frame, bad_goaway, write_goaway}
use Rattle.rules.specs.Calls.{feed, section, end, reset, Call, start, open', on, goaway, fresh, trace}
use Rattle.meaning.specs.NumberLaws.{code_high}
use Rattle.meaning.specs.OneWayFeed as O
use Rattle.meaning.specs.OneWayFeed.{OneState, OneEvent, OneOutcome, in_stream_type, in_control, in_qpack, in_skipped}
use Rattle.record.specs.Kinds.{REQUEST, UNTYPED}
use Rattle.record.specs.declared.Record.{Record}
use Rattle.record.specs.Row.{place_in, one_way_record, free_record}
use Rattle.requests.specs.Reply.{state_in}
use Rattle.control.specs.declared.Kept.{Kept}
use Rattle.control.specs.Judged.{push_id}
use Rattle.control.specs.Rules.{control_of}
use Rattle.oneway.specs.declared.calls.Side.{Side}
use Rattle.oneway.specs.declared.calls.Heard.{Heard}
use Rattle.oneway.specs.Mirror.{nothing_said, kept_numbers, side_after}
use Rattle.oneway.specs.Heard.{state_here, feeding, said_by, closed_by}
use Rattle.oneway.specs.Closed.{closes}
use Rattle.connection.specs.declared.doors.Doors.{Doors}
use Rattle.connection.specs.declared.doors.Opening.{Opening}
use Rattle.connection.specs.declared.Call.{Call as CoreCall}
use Rattle.connection.specs.declared.Own.{Own as CoreOwn}
use Rattle.connection.specs.declared.Connection.{Connection}
use Rattle.connection.specs.declared.Report.{Report}
use Rattle.connection.specs.declared.Found.{Found}
use Rattle.connection.specs.declared.Turn.{Turn}
use Rattle.connection.specs.declared.Written.{Written}
use Rattle.connection.specs.Openings.{next_request, next_one_way}
use Rattle.connection.specs.OpeningWays as ways
use Rattle.connection.specs.Goaway.{sent_in, gone_away, sending_of, write_of}
use Rattle.connection.specs.Halves.{stream_id, with_doors, side_in, with_side}
use Rattle.connection.specs.Faults.{code_kept_in, kept_small}
use Rattle.connection.specs.Leavings.{Heeded, goes_on, same, freed, one_way_left}
use Rattle.connection.specs.Whose.{open_not_on, one_own}
use Rattle.connection.specs.Turned.{fresh_connection, free_at, by_own, request_as, one_way_as, overheard, Turned, other_row, dead, opens, not_open, request, one_way, gone_by}
use Rattle.calls.specs.Promises.{Started, Stepped, SaidGoaway}
use Rattle.demands.specs.Streams.{streams}
use Rattle.demands.specs.Overheard.{said_back}
use Rattle.demands.specs.Demands.{Calls}
use Rattle.demands.specs.Runs.{Seen, Does, starts, opens_one, feeds, gives, ends, resets, goes_away, number_in}
use Rattle.demands.specs.Host.{Run, begun, then_called, meant}
use Rattle.demands.specs.Said.{told_in, said_is_told}
use Rattle.demands.specs.Exports.{CallSays}
use Rattle.demands.specs.InMemory.{fed_by}
use Rattle.demands.specs.ExportedRecords.{FirstOf, first_of, starts_anew}

-- ---- DEFINITION: what an accepted call leaves of the connection's record

-- an opening: the next ID of its kind is four higher, and nothing else is altered
abbrev pub SpendsNext : (id : ℕ) (c c' : Connection) → Type 0
SpendsNext id c c' = ((id % 4 ≡ 0) × (c' ≡ with_doors c (next_request c.doors))) ⊎ ((id % 4 ≡ 2) × (c' ≡ with_doors c (next_one_way c.doors)))

-- a feed of a one-way stream with this record: it goes on in a state, its record holds that state, and of the connection only the side is altered, as that
-- state leaves it
pub record FedOneWay (allow : ℕ) (piece : List ℕ) (c : Connection) (r r' : Record) (c' : Connection) : Type 0 where
  pub kind : UNTYPED ≤ r.kind
  pub state : OneState
  pub goes_on : (feeding c.side allow piece (state_here r c.side)).after ≡ O.lives state
  pub holds : r' ≡ one_way_record r.id state
  pub left : c' ≡ with_side c (side_after c.side state)

-- a feed: of a request it alters nothing of the connection
abbrev pub FedLeaves : (allow : ℕ) (piece : List ℕ) (c : Connection) (r r' : Record) (c' : Connection) → Type 0
FedLeaves allow piece c r r' c' = ((r.kind ≡ REQUEST) × (c' ≡ c)) ⊎ FedOneWay allow piece c r r' c'

abbrev pub LeavesFed : (id allow : ℕ) (piece : List ℕ) (c : Connection) (rows : List Record) (c' : Connection) (rows' : List Record) → Type 0
LeavesFed id allow piece c rows c' rows' = (at : ℕ) × FirstOf id rows at × ((r' : Record) × (rows' ≡ set rows at r') × FedLeaves allow piece c (get_or rows at free_record) r' c')

abbrev pub LeavesConnection : Call streams → (c : Connection) (rows : List Record) (c' : Connection) (rows' : List Record) → Type 0
LeavesConnection start c rows c' rows' = c' ≡ fresh_connection
LeavesConnection (open' id) c rows c' rows' = SpendsNext id c c'
LeavesConnection (on id (feed allow piece)) c rows c' rows' = LeavesFed id allow piece c rows c' rows'
LeavesConnection (on id (section block)) c rows c' rows' = c' ≡ c
LeavesConnection (on id end) c rows c' rows' = c' ≡ c
LeavesConnection (on id reset) c rows c' rows' = c' ≡ c
LeavesConnection (goaway id room) c rows c' rows' = c' ≡ with_doors c (gone_away c.doors (stream_id id))

-- as instances, none of these is left: one-way streams next at 7, behind the opening of 2; our GOAWAY of 8 kept as 9; no note of a QPACK encoder stream that
-- has its type; kept bytes that a feed of a request has written over
next_at_seven : (rows rows' : List Record) → ¬ (LeavesConnection (open' 2) fresh_connection rows (with_doors fresh_connection (record { code = 0; requests = 0; oneways = 7; goaways = 0; goaway = stream_id 0 })) rows')
next_at_seven rows rows' (inl x) = let z = x.0 in omega arith
next_at_seven rows rows' (inr x) = let z = ap (λ y. y.doors.oneways) x.1 in omega arith

kept_as_nine : (c : Connection) (rows rows' : List Record) (room : ℕ) → ¬ (LeavesConnection (goaway 8 room) c rows (with_doors c (gone_away c.doors (stream_id 9))) rows')
kept_as_nine c rows rows' room e = let z = ap (λ y. y.doors.goaway.0) e in omega arith

not_noted : {allow : ℕ} {piece : List ℕ} {c c' : Connection} {r r' : Record} (x : FedOneWay allow piece c r r' c') → x.state ≡ in_qpack encoder → ¬ (c'.side.encoder ≡ 0)
unfolding side_after
not_noted {c = c} x e n = let z = ap (λ y. y.side.encoder) x.left ∙ ap (λ s. (side_after c.side s).encoder) e in omega arith

written_over : {allow : ℕ} {piece : List ℕ} {c c' : Connection} {r r' : Record} → r.kind ≡ REQUEST → ¬ (c'.side.bytes ≡ c.side.bytes) → ¬ (FedLeaves allow piece c r r' c')
written_over k n (inl x) = n (ap (λ y. y.side.bytes) x.1)
written_over k n (inr x) = let l = x.kind in omega arith

-- ---- each call's own answer

opened_doors : {d : Doors} {id free : ℕ} {o : Opening} → ways.Went d id free o → o.number ≡ 0 → ((id % 4 ≡ 0) × (o.doors ≡ next_request d)) ⊎ ((id % 4 ≡ 2) × (o.doors ≡ next_one_way d))
opened_doors (ways.refused n z) e = absurd (z e)
opened_doors (ways.barred a b) e = absurd (omega arith)
opened_doors (ways.a_request a b l f) e = inl (a, refl)
opened_doors (ways.a_one_way a b l f) e = inr (a, refl)

-- a number of 0 keeps no code
zero_keeps : (c : Connection) (n : ℕ) → n ≡ 0 → code_kept_in c n ≡ c
zero_keeps c n e = sym (kept_small c n (omega arith))

-- a one-way stream that is fed
record Goes (r : Record) (d : Side) (o : OneOutcome) (a : Heard) : Type 0 where
  after : OneState
  is : o ≡ O.lives after
  row : a.row ≡ one_way_record r.id after
  side : a.side ≡ side_after d after

said_goes : (r : Record) (d : Side) (u h : ℕ) (e : OneEvent) (o : OneOutcome) → (said_by r d u h e o).number ≡ 0 → Goes r d o (said_by r d u h e o)
unfolding said_by
said_goes r d u h (O.of_frames e) (O.dies n) z = let k = code_high n in absurd (omega arith)
said_goes r d u h (O.qpack_bytes q len) (O.dies n) z = let k = code_high n in absurd (omega arith)
said_goes r d u h (O.of_frames e) (O.lives s) z = record { after = s; is = refl; row = refl; side = refl }
said_goes r d u h (O.qpack_bytes q len) (O.lives s) z = record { after = s; is = refl; row = refl; side = refl }

fed_goes : (r : Record) (d : Side) (allow : ℕ) (piece : List ℕ) (s : OneState) → (one_way_as CoreOwn.Feed allow piece r d s).number ≡ 0 → Goes r d (feeding d allow piece s).after (one_way_as CoreOwn.Feed allow piece r d s)
unfolding by_own
fed_goes r d allow piece s z = let f = feeding d allow piece s in said_goes r d f.used f.heads f.event f.after z

closed_side : (r : Record) (d : Side) (n : ℕ) → (closed_by r d n).side ≡ d
unfolding closed_by
closed_side r d zero = refl
closed_side r d (suc n) = refl

-- a section, the end or a reset leaves the side
rests_side : (own : CoreOwn) → fed_by (CoreCall.On own) ≡ 0 → (allow : ℕ) (piece : List ℕ) (r : Record) (d : Side) (s : OneState) → (one_way_as own allow piece r d s).side ≡ d
unfolding by_own
rests_side CoreOwn.Feed e allow piece r d s = absurd (omega arith)
rests_side CoreOwn.Give e allow piece r d s = refl
rests_side CoreOwn.End e allow piece r d s = closed_side r d (closes s)
rests_side CoreOwn.Reset e allow piece r d s = closed_side r d (closes s)

-- ---- the turn

number_of : {t u : Turn} → t.report.number ≡ 0 → t ≡ u → u.report.number ≡ 0
number_of z q = sym (ap (λ y. y.report.number) q) ∙ z

module _ {c : Connection} {f : Found} {id allow : ℕ} {piece : List ℕ} {t : Turn} (z : t.report.number ≡ 0) where
  turned_spends : Turned c f CoreCall.Open id allow piece t → SpendsNext id c t.conn
  turned_spends (other_row n q) = let e = number_of z q in absurd (omega arith)
  turned_spends (dead l n q) = absurd (n (number_of z q))
  turned_spends (opens v e q) = by (opened_doors (ways.went c.doors id (free_at f.at)) (number_of z q)) (ap (λ y. y.conn) q)
    where
      by : {d : Doors} → ((id % 4 ≡ 0) × (d ≡ next_request c.doors)) ⊎ ((id % 4 ≡ 2) × (d ≡ next_one_way c.doors)) → t.conn ≡ with_doors c d → SpendsNext id c t.conn
      by (inl x) w = inl (x.0, w ∙ ap (with_doors c) x.1)
      by (inr x) w = inr (x.0, w ∙ ap (with_doors c) x.1)
  turned_spends (not_open v n s q) = absurd (open_not_on refl n)
  turned_spends (request v n l o q s) = absurd (open_not_on refl n)
  turned_spends (one_way v n l h q s) = absurd (open_not_on refl n)

  turned_fed : Turned c f (CoreCall.On CoreOwn.Feed) id allow piece t → (f.at < 24) × FedLeaves allow piece c f.row t.row t.conn
  turned_fed (other_row n q) = let e = number_of z q in absurd (omega arith)
  turned_fed (dead l n q) = absurd (n (number_of z q))
  turned_fed (opens v e q) = absurd (open_not_on e refl)
  turned_fed (not_open v n s q) = let e = number_of z q in absurd (omega arith)
  turned_fed (request {own} v n l o q s) = (l, inl (o.kind, ap (λ y. y.conn) q ∙ zero_keeps c (request_as own allow piece f.row (state_in f.row)).number (number_of z q)))
  turned_fed (one_way v n l h q' s) =
      let x = state_here f.row (side_in c) in
      let a = one_way_as CoreOwn.Feed allow piece f.row (side_in c) x in
      let q : t ≡ overheard c a = q' ∙ ap (λ w. overheard c (one_way_as w allow piece f.row (side_in c) x)) (sym (one_own refl n)) in
      let g = fed_goes f.row (side_in c) allow piece x (number_of z q) in (
        l,
        inr (record {
          kind = h.kind;
          state = g.after;
          goes_on = g.is;
          holds = ap (λ y. y.row) q ∙ g.row;
          left = ap (λ y. y.conn) q ∙ zero_keeps (with_side c a.side) a.number (number_of z q) ∙ ap (with_side c) g.side;
        }),
      )

  turned_rests : {call : CoreCall} → fed_by call ≡ 0 → {own : CoreOwn} → call ≡ CoreCall.On own → Turned c f call id allow piece t → t.conn ≡ c
  turned_rests k b (other_row n q) = ap (λ y. y.conn) q
  turned_rests k b (dead l n q) = ap (λ y. y.conn) q
  turned_rests k b (opens v e q) = absurd (open_not_on e b)
  turned_rests k b (not_open v n s q) = ap (λ y. y.conn) q
  turned_rests k b (request {own} v n l o q s) = ap (λ y. y.conn) q ∙ zero_keeps c (request_as own allow piece f.row (state_in f.row)).number (number_of z q)
  turned_rests k b (one_way {own} v n l h q s) =
      let x = state_here f.row (side_in c) in
      let a = one_way_as own allow piece f.row (side_in c) x in
      ap (λ y. y.conn) q ∙ zero_keeps (with_side c a.side) a.number (number_of z q) ∙ ap (with_side c) (rests_side own (sym (ap fed_by n) ∙ k) allow piece f.row (side_in c) x)

-- ---- the call

accepted : {c : Connection} {rows : List Record} {call : CoreCall} {id allow : ℕ} {piece : List ℕ} {c' : Connection} {rows' : List Record} {r : Report} (m : Stepped c rows call id allow piece c' rows' r) → r.number ≡ 0 → m.turn.report.number ≡ 0
accepted m z = sym (ap (λ y. y.number) m.answered) ∙ z

fed_leaves : {c : Connection} {rows : List Record} {id allow : ℕ} {piece : List ℕ} {c' : Connection} {rows' : List Record} {r : Report} → length rows ≡ 24 → Stepped c rows (CoreCall.On CoreOwn.Feed) id allow piece c' rows' r → r.number ≡ 0
    → LeavesFed id allow piece c rows c' rows'
fed_leaves {c} {rows} {id} {allow} {piece} {c'} {rows'} long m z =
    let u = turned_fed (accepted m z) m.turned in
    let l = u.0 in
    let v : FedLeaves allow piece c m.found.row m.turn.row c' = subst (FedLeaves allow piece c m.found.row m.turn.row) (sym m.conn_left) u.1 in
    (m.found.at, first_of refl m.is_found (omega arith), (m.turn.row, m.rows_left, subst (λ y. FedLeaves allow piece c y m.turn.row c') m.is_found.row v))

-- our GOAWAY: no refusal has the number 0
abbrev NotZero : Write → Type 0
NotZero (refused n) = ¬ (n ≡ 0)
NotZero (wrote bytes) = Unit {0}

into_not_zero : (room : ℕ) (o : Option (List ℕ)) → NotZero (into room o)
unfolding into
into_not_zero room none = λ e. omega arith
into_not_zero room (some bytes) = by (ltb room (length bytes))
  where
    by : (x : Bool) → NotZero (elim x [ true ↦ refused ROOM-SHORT | false ↦ wrote bytes ])
    by true = λ e. omega arith
    by false = tt

goaway_not_zero : (sent : Option ℕ) (room id : ℕ) → NotZero (write_goaway sent room id)
unfolding write_goaway write_integer_frame
goaway_not_zero sent room id = by (bad_goaway sent id)
  where
    by : (x : Bool) → NotZero (elim x [ true ↦ refused BAD-VALUE | false ↦ into room (integer_frame 7 (written id)) ])
    by true = λ e. omega arith
    by false = into_not_zero room (integer_frame 7 (written id))

write_not_zero : (code : ℕ) (d : Doors) (id room : ℕ) → NotZero (write_of code d id room)
unfolding write_of
write_not_zero zero d id room = goaway_not_zero (sent_in d) room id
write_not_zero (suc c) d id room = λ e. omega arith

gone_doors : (d : Doors) (id : ℕ) (w : Write) → NotZero w → (sending_of d (stream_id id) w).number ≡ 0 → (sending_of d (stream_id id) w).doors ≡ gone_away d (stream_id id)
unfolding sending_of
gone_doors d id (refused n) x e = absurd (x e)
gone_doors d id (wrote bytes) x e = refl

said_leaves : {c c' : Connection} {id : ℕ} {room room' : List ℕ} {w : Written} → SaidGoaway c id room c' room' w → w.number ≡ 0 → c' ≡ with_doors c (gone_away c.doors (stream_id id))
said_leaves {c} {id = id} {room = room} m z =
    let d = c.doors in
    let w = write_of d.code d id (length room) in
    let g = m.goes.is ∙ ap gone_by m.goes.sends.answers in
    m.conn_left ∙ ap (λ y. with_doors c y.doors) g ∙ ap (with_doors c) (gone_doors d id w (write_not_zero d.code d id (length room)) (sym (ap (λ y. y.written.number) g) ∙ sym (ap (λ y. y.number) m.answered) ∙ z))

pub leaves_connection : {c : Connection} {rows : List Record} {k : Call streams} {x : Seen} {c' : Connection} {rows' : List Record} → Does c rows k x c' rows' → length rows ≡ 24 → number_in x ≡ 0 → LeavesConnection k c rows c' rows'
unfolding number_in
leaves_connection (starts m) long z = ((starts_anew m).anew long).1
leaves_connection {c} (opens_one {id = id} m) long z = subst (SpendsNext id c) (sym m.conn_left) (turned_spends (accepted m z) m.turned)
leaves_connection (feeds m) long z = fed_leaves long m z
leaves_connection (gives m) long z = m.conn_left ∙ turned_rests (accepted m z) refl refl m.turned
leaves_connection (ends m) long z = m.conn_left ∙ turned_rests (accepted m z) refl refl m.turned
leaves_connection (resets m) long z = m.conn_left ∙ turned_rests (accepted m z) refl refl m.turned
leaves_connection (goes_away m) long z = said_leaves m z

-- AFTER A CALL THAT IS ACCEPTED, whatever memory is lent with a row of 24
abbrev pub LeavesTheConnection : CallSays
LeavesTheConnection c rows k x c' rows' = length rows ≡ 24 → number_in x ≡ 0 → LeavesConnection k c rows c' rows'

-- ---- WHAT THE CONNECTION'S RECORD KEEPS OF THE CLIENT, every number of it

-- numbers that are written from something that a client can have said
abbrev Spelled : Kept → Type 0
Spelled k = (p : Control) × (k ≡ kept_numbers p)

after_written : (d : Side) (s : OneState) → Spelled d.kept → Spelled (side_after d s).kept
unfolding side_after
after_written d (in_stream_type g) h = h
after_written d (in_control s) h = (place_in s, refl)
after_written d (in_qpack encoder) h = h
after_written d (in_qpack decoder) h = h
after_written d in_skipped h = h

side_written : {a b : Side} → a ≡ b → Spelled b.kept → Spelled a.kept
side_written e h = subst (λ y. Spelled y.kept) (sym e) h

heeded_written : {r : Record} {d : Side} {own : CoreOwn} {allow : ℕ} {piece : List ℕ} {s : OneState} {a : Heard} → Heeded r d own allow piece s a → Spelled d.kept → Spelled a.side.kept
heeded_written {d = d} (goes_on z x f e q) h = side_written q (after_written d x h)
heeded_written (same e q) h = side_written q h
heeded_written (freed e q) h = side_written q h

-- every call keeps them so
turned_written : {c : Connection} {f : Found} {call : CoreCall} {id allow : ℕ} {piece : List ℕ} {t : Turn} → Turned c f call id allow piece t → Spelled c.side.kept → Spelled t.conn.side.kept
turned_written (other_row n q) h = side_written (ap (λ y. y.conn.side) q) h
turned_written (dead l n q) h = side_written (ap (λ y. y.conn.side) q) h
turned_written (opens v e q) h = side_written (ap (λ y. y.conn.side) q) h
turned_written (not_open v n s q) h = side_written (ap (λ y. y.conn.side) q) h
turned_written (request v n l o q s) h = side_written (ap (λ y. y.conn.side) q) h
turned_written {c} {f} {allow = allow} {piece = piece} (one_way {own} v n l o q s) h =
    side_written (ap (λ y. y.conn.side) q) (heeded_written (one_way_left f.row (side_in c) own allow piece (state_here f.row (side_in c))) h)

stepped_written : {c : Connection} {rows : List Record} {call : CoreCall} {id allow : ℕ} {piece : List ℕ} {c' : Connection} {rows' : List Record} {r : Report} → Stepped c rows call id allow piece c' rows' r → Spelled c.side.kept → Spelled c'.side.kept
stepped_written m h = side_written (ap (λ y. y.side) m.conn_left) (turned_written m.turned h)

fresh_written : {c : Connection} → c ≡ fresh_connection → Spelled c.side.kept
unfolding kept_numbers
fresh_written e = (unset, ap (λ y. y.side.kept) e)

started_written : {c : Connection} {rows : List Record} {n : ℕ} {c' : Connection} {rows' : List Record} → Started c rows c' rows' n → Spelled c.side.kept → Spelled c'.side.kept
started_written {rows = rows} {c' = c'} m h = by (ℕ_discrete (length rows) 24)
  where
    by : Dec (length rows ≡ 24) → Spelled c'.side.kept
    by (yes long) = fresh_written ((starts_anew m).anew long).1
    by (no other) = side_written (ap (λ y. y.side) ((starts_anew m).refused other).1) h

does_written : {c : Connection} {rows : List Record} {k : Call streams} {x : Seen} {c' : Connection} {rows' : List Record} → Does c rows k x c' rows' → Spelled c.side.kept → Spelled c'.side.kept
does_written (starts m) h = started_written m h
does_written (opens_one m) h = stepped_written m h
does_written (feeds m) h = stepped_written m h
does_written (gives m) h = stepped_written m h
does_written (ends m) h = stepped_written m h
does_written (resets m) h = stepped_written m h
does_written (goes_away m) h = side_written (ap (λ y. y.side) m.conn_left) h

run_written : {ks : Calls} {xs : List Seen} {c : Connection} {rows : List Record} → Run ks xs c rows → Spelled c.side.kept
run_written (begun long (starts m)) = fresh_written ((starts_anew m).anew long).1
run_written (then_called r m) = does_written m (run_written r)

-- AT EVERY MOMENT OF A RUN: the numbers of what the notices have reported since the last start
pub kept_by_run : {ks : Calls} {xs : List Seen} {c : Connection} {rows : List Record} → Run ks xs c rows → c.side.kept ≡ kept_numbers (told_in (trace fresh ks))
kept_by_run {ks} r =
    let w = run_written r in
    let told = ap (λ p. p.conn.kept.said) (meant r).holds ∙ said_is_told ks in
    w.1 ∙ ap kept_numbers (sym (said_back w.0) ∙ ap control_of (sym w.1) ∙ told)

abbrev pub KeepsExactly : CallSays
KeepsExactly c rows k x c' rows' = (ks : Calls) (xs : List Seen) → Run ks xs c rows → c'.side.kept ≡ kept_numbers (told_in (trace fresh (ks ++ (k ∷ []))))

-- and before any settings every one of them is 0
abbrev pub KeepsNothingYet : CallSays
KeepsNothingYet c rows k x c' rows' = (ks : Calls) (xs : List Seen) → Run ks xs c rows → told_in (trace fresh (ks ++ (k ∷ []))) ≡ unset → c'.side.kept ≡ nothing_said

pub none_yet : {ks : Calls} {xs : List Seen} {c : Connection} {rows : List Record} → Run ks xs c rows → told_in (trace fresh ks) ≡ unset → c.side.kept ≡ nothing_said
unfolding kept_numbers
none_yet r e = kept_by_run r ∙ ap kept_numbers e

-- as an instance: not these, which say that no settings have come beside a limit, a GOAWAY and a MAX_PUSH_ID
rubbish : ¬ (record { set = 0; limited = 1; size = 1; capacity = 4_096; blocked = 100; goaways = 1; goaway = push_id 0; pushes = 1; push = push_id 0 } ≡ nothing_said)
rubbish e = let z = ap (λ y. y.limited) e in omega arith
