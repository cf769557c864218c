-- A HOST'S RUN: a start on a row of 24, and calls of the exported functions, each on what the one before has left. What the host has seen is the trace of
-- the same calls, and what it holds means what the trace leaves. Assumes nothing.
use Rattle.std.specs.Prelude.{◌≡◌, refl, ℕ, List, [], ◌∷◌, ◌++◌, map, true, false, length}
use Rattle.std.proofs.Common.{sym, ap, subst, ◌∙◌, arith}
use Rattle.std.proofs.Math.Decide.{ℕ_discrete}
use Rattle.std.proofs.lemmas.List.{map-append}
use Rattle.std.proofs.Math.Option.{some}
use Rattle.rules.specs.Events.{NOTHING, WHOLE}
use Rattle.rules.specs.Numbers as table
use Rattle.rules.specs.Numbers.{of_stream, of_connection}
use Rattle.rules.specs.Calls.{qpack_bytes, settings, client_goaway, max_push_id, quiet, section_bytes, content_bytes, notice, Own, end, done, fed, whole, freed, request, kind_of, Pair, Call, start, open', on, goaway, Answer, gave, left, house, code, call, run, fresh, trace}
use Rattle.traces.specs.Row.{pick_yes}
use Rattle.rules.specs.Shown as shown_by
use Rattle.rules.specs.Shown.{View, running, ended, if_running, mine, view_from, view}
use Rattle.record.specs.declared.Record.{Record}
use Rattle.connection.specs.declared.Connection.{Connection}
use Rattle.connection.specs.declared.Report.{Report}
use Rattle.connection.specs.declared.Written.{Written}
use Rattle.calls.specs.Promises.{SaidGoaway}
use Rattle.demands.specs.Streams.{streams}
use Rattle.demands.specs.Demands.{Calls}
use Rattle.demands.specs.Refusals.{number_of, leaves_of, in_table, LeavesBy, as_the_table_says}
use Rattle.demands.specs.Means.{pair_of, noticed, reported, report_of, written_of}
use Rattle.demands.specs.Stands.{Stands}
use Rattle.demands.specs.Steps.{started_fresh, started_stands}
use Rattle.demands.specs.Runs.{Seen, a_number, a_report, a_written, seen_of, seen_in, Does, starts, goes_away, does_so, number_in, report_seen}
use Rattle.demands.specs.Only.{EndsWhole, whole_only}

-- ks are the calls since the start, xs is what the host has seen of them, and c and rows are what it holds now
pub data Run : Calls → List Seen → Connection → List Record → Type 0 where
  begun : {c₀ : Connection} {rows₀ : List Record} {n : ℕ} {c : Connection} {rows : List Record} → length rows₀ ≡ 24 → Does c₀ rows₀ start (a_number n) c rows → Run [] [] c rows
  then_called : {ks : Calls} {xs : List Seen} {c : Connection} {rows : List Record} {k : Call streams} {x : Seen} {c' : Connection} {rows' : List Record}
      → Run ks xs c rows → Does c rows k x c' rows' → Run (ks ++ (k ∷ [])) (xs ++ (x ∷ [])) c' rows'

-- what a stream has shown of them
abbrev pub shows : (id : ℕ) → Calls → View streams
shows id ks = view id (trace fresh ks)

-- ---- what it means

run_last : (p : Pair streams) (ks : Calls) (k : Call streams) → run p (ks ++ (k ∷ [])) ≡ (call k (run p ks)).after
unfolding run
run_last p [] k = refl
run_last p (j ∷ ks) k = run_last (call j p).after ks k

trace_last : (p : Pair streams) (ks : Calls) (k : Call streams) → trace p (ks ++ (k ∷ [])) ≡ trace p ks ++ (record { asked = k; answer = (call k (run p ks)).answer } ∷ [])
unfolding run trace
trace_last p [] k = refl
trace_last p (j ∷ ks) k = ap (λ t. record { asked = j; answer = (call j p).answer } ∷ t) (trace_last (call j p).after ks k)

pub record Meant (ks : Calls) (xs : List Seen) (c : Connection) (rows : List Record) : Type 0 where
  pub holds : pair_of c rows ≡ run fresh ks
  pub saw : xs ≡ map seen_in (trace fresh ks)
  pub stands : Stands c rows

pub meant : {ks : Calls} {xs : List Seen} {c : Connection} {rows : List Record} → Run ks xs c rows → Meant ks xs c rows
unfolding run trace
meant (begun long (starts m)) = record { holds = started_fresh long m; saw = refl; stands = started_stands long m }
meant (then_called {ks = ks} {xs = xs} {c = c} {rows = rows} {k = k} {x = x} r m) =
    let s = meant r in
    let d = does_so s.stands m in
    record {
      holds = d.after ∙ ap (λ p. (call k p).after) s.holds ∙ sym (run_last fresh ks k);
      saw = ap (λ y. y ++ (x ∷ [])) s.saw ∙ ap (λ y. map seen_in (trace fresh ks) ++ (y ∷ [])) (d.seen ∙ ap (λ p. seen_of k (call k p).answer) s.holds)
          ∙ sym (ap (map seen_in) (trace_last fresh ks k) ∙ map-append seen_in (trace fresh ks) _);
      stands = d.stands;
    }

one_written : {p q : Written} → a_written p ≡ a_written q → p ≡ q
one_written e = cc

-- a call on what a run has left answers as the trace's next call, and leaves what it leaves
module _ {ks : Calls} {xs : List Seen} {c : Connection} {rows : List Record} (r : Run ks xs c rows) where
  pub leaves : {k : Call streams} {x : Seen} {c' : Connection} {rows' : List Record} → Does c rows k x c' rows' → pair_of c' rows' ≡ (call k (run fresh ks)).after
  leaves {k} m = let s = meant r in (does_so s.stands m).after ∙ ap (λ p. (call k p).after) s.holds

  pub answers : {k : Call streams} {x : Seen} {c' : Connection} {rows' : List Record} → Does c rows k x c' rows' → x ≡ seen_of k (call k (run fresh ks)).answer
  answers {k} m = let s = meant r in (does_so s.stands m).seen ∙ ap (λ p. seen_of k (call k p).answer) s.holds

  pub reports : (k : Call streams) {p : Report} {c' : Connection} {rows' : List Record} → Does c rows k (a_report p) c' rows' → p ≡ report_of (call k (run fresh ks)).answer
  reports k m = report_seen k (call k (run fresh ks)).answer (answers m)

  pub sends : {id : ℕ} {room : List ℕ} {p : Written} {c' : Connection} {room' : List ℕ} → SaidGoaway c id room c' room' p → p ≡ written_of id (call (goaway id (length room)) (run fresh ks)).answer
  unfolding seen_of
  sends m = one_written (answers (goes_away m))

-- ---- refusals: nothing is handed over, and what is left is what the table says

pub report_number : (a : Answer) → (report_of a).number ≡ number_of a
unfolding report_of reported noticed number_of
report_number (gave done) = refl
report_number (gave (fed u h quiet)) = refl
report_number (gave (fed u h (section_bytes from len true))) = refl
report_number (gave (fed u h (section_bytes from len false))) = refl
report_number (gave (fed u h (content_bytes from len))) = refl
report_number (gave (fed u h (notice (qpack_bytes type from len)))) = refl
report_number (gave (fed u h (notice (settings size capacity blocked)))) = refl
report_number (gave (fed u h (notice (client_goaway id)))) = refl
report_number (gave (fed u h (notice (max_push_id id)))) = refl
report_number (left whole) = refl
report_number (left freed) = refl
report_number (house n) = refl
report_number (code k u h) = refl

written_number : (id : ℕ) (a : Answer) → (written_of id a).number ≡ number_of a
unfolding written_of number_of
written_number id (gave g) = refl
written_number id (left l) = refl
written_number id (house n) = refl
written_number id (code k u h) = refl

number_seen : (k : Call streams) (a : Answer) → number_in (seen_of k a) ≡ number_of a
unfolding number_in seen_of
number_seen start a = report_number a
number_seen (open' id) a = report_number a
number_seen (on id o) a = report_number a
number_seen (goaway id room) a = written_number id a

-- no event, no part, no value, no byte counted as written
abbrev pub HandsNothing : Seen → Type 0
HandsNothing (a_number n) = Unit {0}
HandsNothing (a_report r) = (r.event ≡ NOTHING) × (r.start ≡ 0) × (r.len ≡ 0) × (r.value ≡ 0)
HandsNothing (a_written w) = w.count ≡ 0

report_nothing : (a : Answer) → ¬ (number_of a ≡ 0) → HandsNothing (a_report (report_of a))
unfolding report_of number_of
report_nothing (gave g) n = absurd (n refl)
report_nothing (left l) n = absurd (n refl)
report_nothing (house h) n = (refl, refl, refl, refl)
report_nothing (code k u h) n = (refl, refl, refl, refl)

written_nothing : (id : ℕ) (a : Answer) → ¬ (number_of a ≡ 0) → HandsNothing (a_written (written_of id a))
unfolding written_of number_of
written_nothing id (gave g) n = absurd (n refl)
written_nothing id (left l) n = absurd (n refl)
written_nothing id (house h) n = refl
written_nothing id (code k u h) n = refl

nothing_seen : (k : Call streams) (a : Answer) → ¬ (number_of a ≡ 0) → HandsNothing (seen_of k a)
unfolding seen_of
nothing_seen start a n = tt
nothing_seen (open' id) a n = report_nothing a n
nothing_seen (on id o) a n = report_nothing a n
nothing_seen (goaway id room) a n = written_nothing id a n

word_of : (a : Answer) → ¬ (number_of a ≡ 0) → (l : table.Leaves) × (leaves_of a ≡ some l)
unfolding number_of leaves_of
word_of (gave g) n = absurd (n refl)
word_of (left l) n = absurd (n refl)
word_of (house h) n = (table.house_leaves h, refl)
word_of (code (of_stream k) u h) n = (table.record_freed, refl)
word_of (code (of_connection k) u h) n = (table.code_kept, refl)

-- the number has a row in document 01's table, and of the pair that the memory means that is left which the row's last column says
pub record AsTheTableSays (c : Connection) (rows : List Record) (k : Call streams) (x : Seen) (c' : Connection) (rows' : List Record) : Type 0 where
  pub answer : Answer
  pub seen_so : x ≡ seen_of k answer
  pub word : table.Leaves
  pub of_row : table.leaves (table.named (number_in x)) ≡ some word
  pub leaves : LeavesBy (pair_of c rows) word k answer (pair_of c' rows')

module _ {ks : Calls} {xs : List Seen} {c : Connection} {rows : List Record} (r : Run ks xs c rows) {k : Call streams} {x : Seen} {c' : Connection} {rows' : List Record} (m : Does c rows k x c' rows') where
  pub refused_so : ¬ (number_in x ≡ 0) → HandsNothing x × AsTheTableSays c rows k x c' rows'
  refused_so z =
      let s = meant r in
      let d = does_so s.stands m in
      let p = pair_of c rows in
      let a = (call k p).answer in
      let q : x ≡ seen_of k a = d.seen in
      let i : number_in x ≡ number_of a = ap number_in q ∙ number_seen k a in
      let n : ¬ (number_of a ≡ 0) = λ e. z (i ∙ e) in
      let v = word_of a n in
      let e : table.leaves (table.named (number_of a)) ≡ some v.0 = (in_table a).1 ∙ v.1 in
      let t : LeavesBy p v.0 k a (call k p).after = subst (λ y. LeavesBy y v.0 k (call k y).answer (call k y).after) (sym s.holds) (as_the_table_says ks k v.0 (subst (λ y. table.leaves (table.named (number_of (call k y).answer)) ≡ some v.0) s.holds e)) in (
        subst HandsNothing (sym q) (nothing_seen k a n),
        record {
          answer = a;
          seen_so = q;
          word = v.0;
          of_row = ap (λ y. table.leaves (table.named y)) i ∙ e;
          leaves = subst (LeavesBy p v.0 k a) (sym d.after) t;
        },
      )

-- ---- whole

-- event 11
abbrev pub SaysWhole : Seen → Type 0
SaysWhole (a_number n) = ⊥
SaysWhole (a_report r) = r.event ≡ WHOLE
SaysWhole (a_written w) = ⊥

event_eleven : (a : Answer) → (report_of a).event ≡ WHOLE → a ≡ left whole
unfolding report_of reported noticed
event_eleven (gave done) e = absurd (omega arith)
event_eleven (gave (fed u h quiet)) e = absurd (omega arith)
event_eleven (gave (fed u h (section_bytes from len true))) e = absurd (omega arith)
event_eleven (gave (fed u h (section_bytes from len false))) e = absurd (omega arith)
event_eleven (gave (fed u h (content_bytes from len))) e = absurd (omega arith)
event_eleven (gave (fed u h (notice (qpack_bytes type from len)))) e = absurd (omega arith)
event_eleven (gave (fed u h (notice (settings size capacity blocked)))) e = absurd (omega arith)
event_eleven (gave (fed u h (notice (client_goaway id)))) e = absurd (omega arith)
event_eleven (gave (fed u h (notice (max_push_id id)))) e = absurd (omega arith)
event_eleven (left whole) e = refl
event_eleven (left freed) e = absurd (omega arith)
event_eleven (house n) e = absurd (omega arith)
event_eleven (code k u h) e = absurd (omega arith)

pub whole_seen : (k : Call streams) (a : Answer) → SaysWhole (seen_of k a) → a ≡ left whole
unfolding seen_of
whole_seen start a e = absurd e
whole_seen (open' id) a e = event_eleven a e
whole_seen (on id o) a e = event_eleven a e
whole_seen (goaway id room) a e = absurd e

pub seen_whole : (ks : Calls) (k : Call streams) → EndsWhole ks k → SaysWhole (seen_of k (call k (run fresh ks)).answer)
unfolding seen_of report_of
seen_whole ks k w = subst (λ a. SaysWhole (seen_of k a)) (sym ((whole_only ks k).1 w)) (subst (λ j. SaysWhole (seen_of j (left whole))) (sym w.ends) refl)

-- ---- a stream after one call more

pub view_last : (id : ℕ) (v : View streams) (p : Pair streams) (ks : Calls) (k : Call streams) → view_from id v (trace p (ks ++ (k ∷ []))) ≡ shown_by.seen id k (call k (run p ks)).answer (view_from id v (trace p ks))
unfolding view_from trace run
view_last id v p [] k = refl
view_last id v p (j ∷ ks) k = view_last id (shown_by.seen id j (call j p).answer v) (call j p).after ks k

runs_mine : (id : ℕ) (o : Own streams) (a : Answer) (v : View streams) → v.fate ≡ running → shown_by.seen id (on id o) a v ≡ mine o a v.shown
unfolding shown_by.seen if_running
runs_mine id o a v e = pick_yes (ℕ_discrete id id) _ _ refl ∙ (rw e)

-- an end that is answered as whole: the stream is ended, and has shown what it had
pub ends_so : (id : ℕ) (ks : Calls) → (shows id ks).fate ≡ running → (call (on id end) (run fresh ks)).answer ≡ left whole → shows id (ks ++ (on id end ∷ [])) ≡ record { fate = ended; shown = (shows id ks).shown }
unfolding view mine
ends_so id ks e q = view_last id _ fresh ks (on id end) ∙ runs_mine id end _ (shows id ks) e ∙ ap (λ a. mine end a (shows id ks).shown) q

-- a call on this stream that reported whole
pub record WholeAt (id : ℕ) (ks : Calls) : Type 0 where
  pub asks : kind_of id ≡ some request
  pub ends : shows id (ks ++ (on id end ∷ [])) ≡ record { fate = ended; shown = (shows id ks).shown }

one_id : {i j : ℕ} → ◌≡◌ {A = Call streams} (on i end) (on j end) → i ≡ j
one_id e = cc

pub whole_at : {ks : Calls} {xs : List Seen} {c : Connection} {rows : List Record} {id : ℕ} {p : Report} {c' : Connection} {rows' : List Record}
    → Run ks xs c rows → Does c rows (on id end) (a_report p) c' rows' → p.event ≡ WHOLE → WholeAt id ks
whole_at {ks} {id = id} r m e =
    let a = event_eleven (call (on id end) (run fresh ks)).answer (sym (ap (λ y. y.event) (reports r (on id end) m)) ∙ e) in
    let w = (whole_only ks (on id end)).0 a in
    let i = one_id w.ends in
    record { asks = subst (λ j. kind_of j ≡ some request) (sym i) w.asks; ends = ends_so id ks (subst (λ j. (shows j ks).fate ≡ running) (sym i) w.runs) a }
