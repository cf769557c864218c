-- WHAT EVERY CALL REPORTS, OF THE EXPORTED FUNCTIONS: behind any run of calls, on any stream, whether it runs or not, and on a dead connection (Others, Only,
-- Demands; Exported says what `Every` and `OfFeed` are, and has openings and our GOAWAY). Each says what the report itself is. Assumes nothing.
use Rattle.std.specs.Prelude.{◌≡◌, refl, ℕ, List, [], Bool, true, false}
use Rattle.std.proofs.Common.{sym, ap, subst, ◌∙◌, arith, true≢false}
use Rattle.std.proofs.Math.Option.{Option, none, some, none-ne-some}
use Rattle.rules.specs.Numbers as table
use Rattle.rules.specs.Numbers.{NOT-OPEN, not_open, section_due, no_section, unreadable, ConnectionFault, of_connection}
use Rattle.rules.specs.Block.{lines}
use Rattle.rules.specs.OneWay.{one_way_read}
use Rattle.meaning.specs.NumberLaws.{refusal_named, code_high}
use Rattle.rules.specs.Calls.{freed, Own, feed, section, end, reset, Kind, request, one_way, kind_of, Stream, find, on, Answer, gave, left, house, code, call, run, fresh, trace}
use Rattle.rules.specs.Shown.{View, running, Ledger, ledger}
use Rattle.traces.specs.Sound.{sound_run, sound_fresh}
use Rattle.traces.specs.Alone.{Later}
use Rattle.traces.specs.Opening.{tallies}
use Rattle.traces.specs.Demands.{waits, end_answer}
use Rattle.record.specs.declared.Record.{Record}
use Rattle.connection.specs.declared.Connection.{Connection}
use Rattle.connection.specs.declared.Report.{Report}
use Rattle.demands.specs.Streams.{is_readable, streams}
use Rattle.demands.specs.OneWayReads.{fault_by, close_answer}
use Rattle.demands.specs.Demands.{Calls}
use Rattle.demands.specs.Refusals.{number_of}
use Rattle.demands.specs.Means.{report_of}
use Rattle.demands.specs.Runs.{Seen, a_report, seen_of, OfHouse, Does}
use Rattle.demands.specs.Only.{not_held, running_is_held, shut, shut_exactly}
use Rattle.demands.specs.Others as others
use Rattle.demands.specs.Others.{NotHouse, verdict_in, Answers, is_dead, is_shut, feed_waits, feed_reads, section_undue, section_unread, section_read, end_judged, reset_done, Answers₁}
use Rattle.demands.specs.Host.{Run, shows, reports, report_number}
use Rattle.demands.specs.Exports.{CallSays, StreamSays, FeedSays, GiveSays}

-- ---- EVERY CALL: what a host sees of it is what the definitions answer to it
abbrev pub AsTraced : CallSays
AsTraced c rows k x c' rows' = (ks : Calls) (xs : List Seen) → Run ks xs c rows → x ≡ seen_of k (call k (run fresh ks)).answer

-- ON A DEAD CONNECTION, every call but start: its code, and nothing else
abbrev pub DeadSays : CallSays
DeadSays c rows k x c' rows' = (ks : Calls) (xs : List Seen) → Run ks xs c rows → (f : ConnectionFault) → (ledger (trace fresh ks)).dead ≡ some f → Later k → x ≡ seen_of k (code (of_connection f) 0 0)

-- ---- A CALL ON A STREAM

-- a request stream that runs, with a section due (the verdict on what it has shown is that it waits) or not
abbrev pub RequestSays : View streams → Own streams → Report → Type 0
RequestSays v (feed allow piece) r = (verdict_in v ≡ waits → r ≡ report_of (house section_due)) × (¬ (verdict_in v ≡ waits) → ¬ OfHouse r.number)
RequestSays v (section b) r =
    (¬ (verdict_in v ≡ waits) → r ≡ report_of (house no_section))
    × (verdict_in v ≡ waits → is_readable (lines b) ≡ false → r ≡ report_of (house unreadable))
    × (verdict_in v ≡ waits → is_readable (lines b) ≡ true → ¬ OfHouse r.number)
RequestSays v end r = r ≡ report_of (end_answer (verdict_in v))
RequestSays v reset r = r ≡ report_of (left freed)

-- a one-way stream that runs: its end and its reset are as its bytes say
abbrev pub OneWaySays : View streams → Own streams → Report → Type 0
OneWaySays v (feed allow piece) r = ¬ OfHouse r.number
OneWaySays v (section b) r = r ≡ report_of (house no_section)
OneWaySays v end r = r ≡ report_of (close_answer (fault_by (one_way_read [] v.shown.bytes)))
OneWaySays v reset r = r ≡ report_of (close_answer (fault_by (one_way_read [] v.shown.bytes)))

-- and any stream: 1 if it does not run, or is no client's; 1 only then
pub record Says (ks : Calls) (id : ℕ) (o : Own streams) (r : Report) : Type 0 where
  pub on_dead : (f : ConnectionFault) → (ledger (trace fresh ks)).dead ≡ some f → r ≡ report_of (code (of_connection f) 0 0)
  pub on_shut : (ledger (trace fresh ks)).dead ≡ none → ¬ ((shows id ks).fate ≡ running) → r ≡ report_of (house not_open)
  pub on_neither : (ledger (trace fresh ks)).dead ≡ none → kind_of id ≡ none → r ≡ report_of (house not_open)
  pub only_shut : (k : Kind) → kind_of id ≡ some k → r.number ≡ NOT-OPEN → ¬ ((shows id ks).fate ≡ running)
  pub on_request : kind_of id ≡ some request → (shows id ks).fate ≡ running → RequestSays (shows id ks) o r
  pub on_one_way : kind_of id ≡ some one_way → (shows id ks).fate ≡ running → OneWaySays (shows id ks) o r

-- ---- it is so

no_house : (a : Answer) → NotHouse a → ¬ OfHouse (report_of a).number
unfolding number_of
no_house a n h = by a n (subst OfHouse (report_number a) h)
  where
    by : (a : Answer) → NotHouse a → OfHouse (number_of a) → ⊥
    by (gave g) n h = omega arith
    by (left l) n h = omega arith
    by (house x) n h = n
    by (code k u w) n h = let l = code_high k in omega arith

-- 1 is one answer's
one_is : (a : Answer) → (report_of a).number ≡ NOT-OPEN → a ≡ house not_open
unfolding number_of table.named table.named_in table.rows table.number_of
one_is a e = by a (sym (report_number a) ∙ e)
  where
    by : (a : Answer) → number_of a ≡ NOT-OPEN → a ≡ house not_open
    by (gave g) e = absurd (omega arith)
    by (left l) e = absurd (omega arith)
    by (house x) e = let q : table.refusal x ≡ table.refusal not_open = sym (refusal_named x) ∙ ap table.named e in cc
    by (code k u h) e = let l = code_high k in absurd (omega arith)

readable_once : {x : Bool} {A : Type 0} → x ≡ true → x ≡ false → A
readable_once e f = absurd (true≢false (sym e ∙ f))

module _ {l : Ledger} {v : View streams} (d : l.dead ≡ none) (n : v.fate ≡ running) where
  request_says : {o : Own streams} {a : Answer} → Answers l v o a → RequestSays v o (report_of a)
  request_says (is_dead {k = k} e) = absurd (none-ne-some k (sym d ∙ e))
  request_says (is_shut e m) = absurd (m n)
  request_says (feed_waits x w) = (λ y. refl, λ m. absurd (m w))
  request_says (feed_reads {a = a} x m h) = (λ w. absurd (m w), λ y. no_house a h)
  request_says (section_undue x m) = (λ y. refl, λ w. absurd (m w), λ w. absurd (m w))
  request_says (section_unread x w e) = (λ m. absurd (m w), λ y f. refl, λ y f. readable_once f e)
  request_says (section_read {a = a} x w e h) = (λ m. absurd (m w), λ y f. readable_once e f, λ y f. no_house a h)
  request_says (end_judged x) = refl
  request_says (reset_done x) = refl

  one_way_says : {o : Own streams} {a : Answer} → Answers₁ l v o a → OneWaySays v o (report_of a)
  one_way_says (others.Answers₁.is_dead {k = k} e) = absurd (none-ne-some k (sym d ∙ e))
  one_way_says (others.Answers₁.is_shut e m) = absurd (m n)
  one_way_says (others.Answers₁.feed_reads {a = a} x h) = no_house a h
  one_way_says (others.Answers₁.section_undue x) = refl
  one_way_says (others.Answers₁.end_judged x) = refl
  one_way_says (others.Answers₁.reset_judged x) = refl

module _ (ks : Calls) (id : ℕ) (o : Own streams) where
  -- the connection of a stream that runs is alive
  lives : (k : Kind) → kind_of id ≡ some k → (shows id ks).fate ≡ running → (ledger (trace fresh ks)).dead ≡ none
  lives k q n = (tallies ks).dead ∙ (running_is_held ks id k q n).0

  -- no record holds an ID that is no client's
  none_held : kind_of id ≡ none → (x : Option (Stream streams)) → find id (run fresh ks).row ≡ x → find id (run fresh ks).row ≡ none
  none_held q none f = f
  none_held q (some x) f = let s = (sound_run ks fresh sound_fresh).below id x f in absurd (none-ne-some s.kind (sym q ∙ s.is))

  says : Says ks id o (report_of (call (on id o) (run fresh ks)).answer)
  says = record {
    on_dead = λ f d. ap (λ y. report_of y.answer) (others.dead_stays ks (on id o) f tt d);
    on_shut = λ d n. ap (λ y. report_of y.answer) (shut ks id o d n);
    on_neither = λ d q. ap (λ y. report_of y.answer) (not_held (run fresh ks) id o (sym (tallies ks).dead ∙ d) (none_held q (find id (run fresh ks).row) refl));
    only_shut = λ k q e n. (shut_exactly ks id k o q (lives k q n)).0 (one_is (call (on id o) (run fresh ks)).answer e) n;
    on_request = λ q n. request_says (lives request q n) n (others.answers_exactly id q ks o);
    on_one_way = λ q n. one_way_says (lives one_way q n) n (others.one_way_answers id q ks o);
  }

-- ---- OF EACH FUNCTION

pub so : {ks : Calls} {xs : List Seen} {c : Connection} {rows : List Record} {id : ℕ} {o : Own streams} {r : Report} {c' : Connection} {rows' : List Record} → Run ks xs c rows → Does c rows (on id o) (a_report r) c' rows' → Says ks id o r
so {ks} {id = id} {o = o} s m = subst (Says ks id o) (sym (reports s (on id o) m)) (says ks id o)

abbrev pub FeedAnswered : FeedSays
FeedAnswered c rows id piece allow r c' rows' = (ks : Calls) (xs : List Seen) → Run ks xs c rows → Says ks id (feed allow piece) r

abbrev pub GiveAnswered : GiveSays
GiveAnswered c rows id block r c' rows' = (ks : Calls) (xs : List Seen) → Run ks xs c rows → Says ks id (section block) r

abbrev pub EndAnswered : StreamSays
EndAnswered c rows id r c' rows' = (ks : Calls) (xs : List Seen) → Run ks xs c rows → Says ks id end r

abbrev pub ResetAnswered : StreamSays
ResetAnswered c rows id r c' rows' = (ks : Calls) (xs : List Seen) → Run ks xs c rows → Says ks id reset r
