-- DEMAND 1 over traces: every call is answered; a refusal has a number of document 01's table and no event, and leaves the connection and each
-- stream as the table says. And openings, exactly. (That every call returns, whatever is lent, is the promise of the calls themselves: board, and
-- no `requires`.) Assumes nothing.
use Rattle.std.specs.Prelude.{◌≡◌, refl, ℕ, List, true, false, ◌↔◌}
use Rattle.std.proofs.Common.{sym, subst, ◌∙◌, arith}
use Rattle.std.proofs.Math.Option.{Option, none, some}
use Rattle.rules.specs.Reading.{waits, ended}
use Rattle.rules.specs.Message.{Message, Ended, all_come, lacks, ends}
use Rattle.rules.specs.Request.{document, request, end_of_ended}
use Rattle.rules.specs.Numbers as table
use Rattle.rules.specs.Numbers.{House, house_number, StreamFault, request_rejected, ConnectionFault, Code, of_stream, of_connection, code_number}
use Rattle.meaning.specs.NumberLaws.{refusal_named, fault_named}
use Rattle.meaning.specs.Machine.{need, State, in_type, in_length, in_payload, due, finish}
use Rattle.meaning.specs.Machine as machine
use Rattle.rules.specs.Calls.{Event, quiet, Own, done, fed, Kind, kind_of, free, Row, Pair, Call, open', on, Answer, gave, left, house, code, spend, killed, fresh, call, lent, run, trace}
use Rattle.traces.specs.Row.{Replaced}
use Rattle.traces.specs.Went.{pair}
use Rattle.rules.specs.Shown.{ledger, next_in, MayOpen}
use Rattle.traces.specs.Leaves as L
use Rattle.traces.specs.Leaves.{Leaves}
use Rattle.traces.specs.Alone as A
use Rattle.traces.specs.Alone.{Later}
use Rattle.traces.specs.Opening as O
use Rattle.traces.specs.Lowest as N
use Rattle.traces.specs.Lowest.{Lowest}
use Rattle.demands.specs.Streams.{is_due, streams}

-- ---- numbers

-- 0: accepted
unfoldable pub number_of : Answer → ℕ
number_of (gave g) = 0
number_of (left l) = 0
number_of (house h) = house_number h
number_of (code k u h) = code_number k

-- what the table says of a refusal, by its kind
unfoldable pub severity_of : Answer → Option table.Severity
severity_of (gave g) = none
severity_of (left l) = none
severity_of (house h) = some table.house
severity_of (code (of_stream k) u h) = some table.stream
severity_of (code (of_connection k) u h) = some table.connection

-- the table's last column
unfoldable pub leaves_of : Answer → Option table.Leaves
leaves_of (gave g) = none
leaves_of (left l) = none
leaves_of (house h) = some (table.house_leaves h)
leaves_of (code (of_stream k) u h) = some table.record_freed
leaves_of (code (of_connection k) u h) = some table.code_kept

-- EACH REFUSAL HAS A NUMBER OF THE TABLE, is as grave as its row says, and has that row's last column; 0 is no row's
pub in_table : (a : Answer) → (table.severity (table.named (number_of a)) ≡ severity_of a) × (table.leaves (table.named (number_of a)) ≡ leaves_of a)
unfolding severity_of leaves_of number_of table.severity table.leaves
in_table (gave g) = (unfold table.named table.named_in table.rows table.number_of in (refl, refl))
in_table (left l) = (unfold table.named table.named_in table.rows table.number_of in (refl, refl))
in_table (house h) = let e = refusal_named h in rw e (refl, refl)
in_table (code (of_stream k) u h) = let e = fault_named (of_stream k) in rw e (refl, refl)
in_table (code (of_connection k) u h) = let e = fault_named (of_connection k) in rw e (refl, refl)

-- THE VERDICT WAITS ONLY WHILE A SECTION IS DUE, and then an end is answered before it is asked for: Streams, ended_by, never answers a wait
pub waits_while_due : (at : ℕ) (s : State Message) {place : ℕ} → finish (request document) at s ≡ waits place → is_due s ≡ true
unfolding finish is_due ended end_of_ended
waits_while_due at (in_type machine.fresh m) {place} e = by (ends m) e
  where
    by : (x : Ended) → ended (end_of_ended x) at ≡ waits place → false ≡ true
    by all_come e = let z : ◌≡◌ {A = ℕ} 0 1 = cc in absurd (omega arith)
    by (lacks r) e = let z : ◌≡◌ {A = ℕ} 0 1 = cc in absurd (omega arith)
waits_while_due at (in_type (need k v) m) e = let z : ◌≡◌ {A = ℕ} 0 1 = cc in absurd (omega arith)
waits_while_due at (in_length t g m) e = let z : ◌≡◌ {A = ℕ} 0 1 = cc in absurd (omega arith)
waits_while_due at (in_payload u k rest m) e = let z : ◌≡◌ {A = ℕ} 0 1 = cc in absurd (omega arith)
waits_while_due at (due t m) e = refl

-- NO REFUSAL GIVES AN EVENT
unfoldable pub event_in : Answer → Event
event_in (gave done) = quiet
event_in (gave (fed u h e)) = e
event_in (left l) = quiet
event_in (house n) = quiet
event_in (code k u h) = quiet

pub silent : (a : Answer) (s : table.Severity) → severity_of a ≡ some s → event_in a ≡ quiet
unfolding event_in severity_of
silent (gave g) s e = let z : ◌≡◌ {A = ℕ} 0 1 = cc in absurd (omega arith)
silent (left l) s e = refl
silent (house n) s e = refl
silent (code k u h) s e = refl

-- ---- what a call leaves

-- DEMAND 1: document 01's table, stated apart (traces, Leaves), holds of every call of every trace
pub demand_1 : (cs : List (Call streams)) (c : Call streams) → Leaves (run fresh cs) c (call c (run fresh cs)).answer (call c (run fresh cs)).after
demand_1 cs c = L.leaves c (run fresh cs)

-- and of every call as it is lent, whatever the pair and however long the row: 9 among the answers
pub demand_1_lent : (c : Call streams) (p : Pair streams) → Leaves p c (lent c p).answer (lent c p).after
demand_1_lent c p = L.leaves_lent c p

-- what each word of the table's last column means of a call on a pair, and its answer
pub data LeavesBy (p : Pair streams) : table.Leaves → Call streams → Answer → Pair streams → Type 0 where
  as_it_was : {c : Call streams} {a : Answer} → LeavesBy p table.nothing_altered c a p
  id_unspent : {c : Call streams} {a : Answer} → LeavesBy p table.id_unspent c a p
  untouched : {c : Call streams} {a : Answer} → LeavesBy p table.untouched c a p
  freed : {id : ℕ} {o : Own streams} {a : Answer} {row : Row streams} → Replaced id free p.row row → LeavesBy p table.record_freed (on id o) a (pair p.conn row)
  spent : {id : ℕ} {k : Kind} {a : Answer} → kind_of id ≡ some k → LeavesBy p table.record_freed (open' id) a (pair (spend k p.conn) p.row)
  code_kept : {c : Call streams} {k : ConnectionFault} {u h : ℕ} {p' : Pair streams} → p' ≡ pair (killed k p.conn) p.row → LeavesBy p table.code_kept c (code (of_connection k) u h) p'

house_leaves_lem : (p : Pair streams) (c : Call streams) (h : House) → LeavesBy p (table.house_leaves h) c (house h) p
unfolding table.house_leaves
house_leaves_lem p c table.not_open = as_it_was
house_leaves_lem p c table.not_next = as_it_was
house_leaves_lem p c table.no_record = id_unspent
house_leaves_lem p c table.section_due = as_it_was
house_leaves_lem p c table.no_section = as_it_was
house_leaves_lem p c table.unreadable = as_it_was
house_leaves_lem p c table.room_short = untouched
house_leaves_lem p c table.bad_value = as_it_was
house_leaves_lem p c table.other_row = as_it_was

module _ {p p' : Pair streams} {c : Call streams} {a : Answer} (l : table.Leaves) where
  one_word : (x : table.Leaves) → some x ≡ some l → LeavesBy p x c a p' → LeavesBy p l c a p'
  one_word x e h = let q : x ≡ l = cc in subst (λ y. LeavesBy p y c a p') q h

by_column : {p p' : Pair streams} {c : Call streams} {a : Answer} (l : table.Leaves) → leaves_of a ≡ some l → Leaves p c a p' → LeavesBy p l c a p'
unfolding leaves_of
by_column {p} {c = c} l e (L.nothing_altered {h = h}) = one_word l (table.house_leaves h) e (house_leaves_lem p c h)
by_column l e (L.record_freed q) = one_word l table.record_freed e (freed q)
by_column l e (L.only_spent q) = one_word l table.record_freed e (spent q)
by_column l e (L.code_kept q) = one_word l table.code_kept e (code_kept q)
by_column l e L.accepted = let z : ◌≡◌ {A = ℕ} 0 1 = cc in absurd (omega arith)
by_column l e L.accepted_last = let z : ◌≡◌ {A = ℕ} 0 1 = cc in absurd (omega arith)

-- AS THE TABLE SAYS: a call answered with a number of the table leaves what that row's last column says
pub as_the_table_says : (cs : List (Call streams)) (c : Call streams) (l : table.Leaves) → table.leaves (table.named (number_of (call c (run fresh cs)).answer)) ≡ some l
    → LeavesBy (run fresh cs) l c (call c (run fresh cs)).answer (call c (run fresh cs)).after
as_the_table_says cs c l e = by_column l (sym (in_table (call c (run fresh cs)).answer).1 ∙ e) (demand_1 cs c)

pub lent_as_the_table_says : (c : Call streams) (p : Pair streams) (l : table.Leaves) → table.leaves (table.named (number_of (lent c p).answer)) ≡ some l → LeavesBy p l c (lent c p).answer (lent c p).after
lent_as_the_table_says c p l e = by_column l (sym (in_table (lent c p).answer).1 ∙ e) (demand_1_lent c p)

-- DEAD STAYS DEAD: each later call but start gives the code, and leaves all as it was
pub dead_stays : (c : Call streams) (p : Pair streams) (k : ConnectionFault) → Later c → p.conn.dead ≡ some k → call c p ≡ record { answer = code (of_connection k) 0 0; after = p }
dead_stays c p k l e = A.dead_stays c p k l e

-- ---- openings

-- OPENING EXACTLY: accepted exactly if document 01's five conditions hold, read from the trace alone
pub opening_exactly : (id : ℕ) (cs : List (Call streams)) → ((call (open' id) (run fresh cs)).answer ≡ gave done) ↔ MayOpen (ledger (trace fresh cs)) id
opening_exactly id cs = O.opening_exactly id cs

-- and the next ID is the lowest of its kind that no trace of the stream shows as opened
pub lowest_exactly : (k : Kind) (id : ℕ) (cs : List (Call streams)) → ((kind_of id ≡ some k) × (id ≡ next_in k (ledger (trace fresh cs)))) ↔ Lowest k (trace fresh cs) id
lowest_exactly k id cs = N.lowest_exactly k id cs
