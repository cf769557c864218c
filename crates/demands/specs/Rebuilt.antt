-- WHAT A HOST SEES: the content and the section bytes that it puts together from its pieces and the reports' `start` and `len` are what the trace shows of the
-- stream; those of the header section come first. A call that is lent a row of another length has its place between others. Assumes nothing.
use Rattle.std.specs.Prelude.{◌≡◌, ℕ, zero, suc, true, false, ◌||◌, eqb, length}
use Rattle.std.proofs.Math.Path.{refl, sym, ap}
use Rattle.std.proofs.Common.{◌∙◌, subst, arith, length-append}
use Rattle.std.proofs.Math.Decide.{ℕ_discrete}
use mathlib.Core.List.{List, [], ◌∷◌, ◌++◌, append-nil}
use Rattle.std.proofs.Math.Option.{Option, none, some}
use Rattle.rules.specs.Numbers.{ConnectionFault, not_open, other_row, of_stream, of_connection}
use Rattle.rules.specs.Reading.{header_section, trailers, content, skipped, section as for-section, kept, Saying, header, refused as refused-header, section_byte, content_byte, frame_kept, section_bytes_of, header_bytes}
use Rattle.rules.specs.Calls.{qpack_bytes, settings, client_goaway, max_push_id, Event, quiet, section_bytes, content_bytes, notice, part, content_in, section_in, done, fed, whole, freed, Own, feed, section, end, reset, pick, Kind, request, one_way, kind_of, Pair, Call, start, open', on, goaway, Answer, gave, left, house, code, same, call, run, fresh, trace}
use Rattle.rules.specs.Shown as shown_by
use Rattle.rules.specs.Shown.{Shown, Fate, unopened, spent, running, ended, dropped, refused, lost, View, nothing, plus_feed, plus_bytes, plus_section, fedly, mine, if_running, elsewhere, opened, restarted, unseen, view_from, view, ledger}
use Rattle.traces.specs.Lowest.{Used, lowest_exactly}
use Rattle.traces.specs.Follow.{Agrees, open_still, over, agrees, not_running}
use Rattle.traces.specs.Story.{Asks, Story, story}
use Rattle.traces.specs.Story as asks
use Rattle.traces.specs.Oneways.{Says, Story₁, story₁}
use Rattle.traces.specs.Oneways as tells
use Rattle.record.specs.declared.Record.{Record}
use Rattle.connection.specs.declared.Connection.{Connection}
use Rattle.connection.specs.declared.Report.{Report}
use Rattle.demands.specs.Streams.{streams}
use Rattle.demands.specs.Reading.{reading_of}
use Rattle.demands.specs.Moves.{alone}
use Rattle.demands.specs.LongerStreams.{header_of}
use Rattle.demands.specs.Demands.{Calls, demand_2}
use Rattle.demands.specs.Means.{noticed, reported, report_of}
use Rattle.demands.specs.Only.{shut}
use Rattle.demands.specs.Others.{dead_stays, IsNext, Opens, is_dead, another_id, is_barred, is_full, is_opened, opens_exactly}
use Rattle.demands.specs.Runs.{Seen, a_number, a_report, a_written, seen_of, Does, starts, opens_one, feeds, gives, ends, resets, goes_away, number_in, nine, start_nine}
use Rattle.demands.specs.Host.{Run, begun, then_called, shows, answers, view_last}

-- ---- DEFINITION: what a host puts together

pub data Which : Type 0 where
  the_content the_sections : Which

-- the part of the piece that a report names: event 1 is content, 2 and 3 are section bytes
unfoldable pub named_by : Which → Report → (piece : List ℕ) → List ℕ
named_by the_content r piece = elim (eqb r.event 1) [ true ↦ part r.start r.len piece | false ↦ [] ]
named_by the_sections r piece = elim (eqb r.event 2 || eqb r.event 3) [ true ↦ part r.start r.len piece | false ↦ [] ]

unfoldable pub in_report : Which → Seen → (piece : List ℕ) → List ℕ
in_report w (a_number n) piece = []
in_report w (a_report r) piece = named_by w r piece
in_report w (a_written x) piece = []

-- a start that is accepted begins anew
unfoldable pub anew : (number : ℕ) → List ℕ → List ℕ
anew zero so_far = []
anew (suc n) so_far = so_far

-- a call, and what was reported of it: a feed of this stream adds the part that is named
unfoldable pub with_call : Which → (id : ℕ) → Call streams → Seen → (so_far : List ℕ) → List ℕ
with_call w id start x s = anew (number_in x) s
with_call w id (open' i) x s = s
with_call w id (on i (feed allow piece)) x s = pick (ℕ_discrete i id) (s ++ in_report w x piece) s
with_call w id (on i (section b)) x s = s
with_call w id (on i end) x s = s
with_call w id (on i reset) x s = s
with_call w id (goaway i room) x s = s

unfoldable pub rebuilt_from : Which → (id : ℕ) → (so_far : List ℕ) → Calls → List Seen → List ℕ
rebuilt_from w id s [] xs = s
rebuilt_from w id s (k ∷ ks) [] = s
rebuilt_from w id s (k ∷ ks) (x ∷ xs) = rebuilt_from w id (with_call w id k x s) ks xs

abbrev pub rebuilt : Which → (id : ℕ) → Calls → List Seen → List ℕ
rebuilt w id ks xs = rebuilt_from w id [] ks xs

-- what the trace shows of the stream
abbrev pub shown_of : Which → Shown streams → List ℕ
shown_of the_content s = s.content
shown_of the_sections s = s.blocks

-- ---- one call

abbrev in_event : Which → Event → List ℕ → List ℕ
in_event the_content e piece = content_in e piece
in_event the_sections e piece = section_in e piece

event_named : (w : Which) (u h : ℕ) (e : Event) (piece : List ℕ) → named_by w (reported u h e) piece ≡ in_event w e piece
unfolding named_by reported noticed content_in section_in
event_named the_content u h quiet piece = refl
event_named the_content u h (section_bytes from len true) piece = refl
event_named the_content u h (section_bytes from len false) piece = refl
event_named the_content u h (content_bytes from len) piece = refl
event_named the_content u h (notice (qpack_bytes type from len)) piece = refl
event_named the_content u h (notice (settings size capacity blocked)) piece = refl
event_named the_content u h (notice (client_goaway id)) piece = refl
event_named the_content u h (notice (max_push_id id)) piece = refl
event_named the_sections u h quiet piece = refl
event_named the_sections u h (section_bytes from len true) piece = refl
event_named the_sections u h (section_bytes from len false) piece = refl
event_named the_sections u h (content_bytes from len) piece = refl
event_named the_sections u h (notice (qpack_bytes type from len)) piece = refl
event_named the_sections u h (notice (settings size capacity blocked)) piece = refl
event_named the_sections u h (notice (client_goaway id)) piece = refl
event_named the_sections u h (notice (max_push_id id)) piece = refl

-- a feed of a stream that runs
fed_adds : (w : Which) (allow : ℕ) (piece : List ℕ) (a : Answer) (s : Shown streams) → shown_of w s ++ named_by w (report_of a) piece ≡ shown_of w (mine (feed allow piece) a s).shown
unfolding mine fedly plus_feed plus_bytes report_of
fed_adds the_content allow piece (gave done) s = unfold named_by in append-nil s.content
fed_adds the_content allow piece (gave (fed u h e)) s = ap (λ y. s.content ++ y) (event_named the_content u h e piece)
fed_adds the_content allow piece (left whole) s = unfold named_by in append-nil s.content
fed_adds the_content allow piece (left freed) s = unfold named_by in append-nil s.content
fed_adds the_content allow piece (house n) s = unfold named_by in append-nil s.content
fed_adds the_content allow piece (code k u h) s = unfold named_by in append-nil s.content
fed_adds the_sections allow piece (gave done) s = unfold named_by in append-nil s.blocks
fed_adds the_sections allow piece (gave (fed u h e)) s = ap (λ y. s.blocks ++ y) (event_named the_sections u h e piece)
fed_adds the_sections allow piece (left whole) s = unfold named_by in append-nil s.blocks
fed_adds the_sections allow piece (left freed) s = unfold named_by in append-nil s.blocks
fed_adds the_sections allow piece (house n) s = unfold named_by in append-nil s.blocks
fed_adds the_sections allow piece (code k u h) s = unfold named_by in append-nil s.blocks

-- a section, an end and a reset hand nothing over
section_adds : (w : Which) (b : List ℕ) (a : Answer) (s : Shown streams) → shown_of w (mine (section b) a s).shown ≡ shown_of w s
unfolding mine plus_section
section_adds the_content b (gave g) s = refl
section_adds the_content b (left l) s = refl
section_adds the_content b (house n) s = refl
section_adds the_content b (code k u h) s = refl
section_adds the_sections b (gave g) s = refl
section_adds the_sections b (left l) s = refl
section_adds the_sections b (house n) s = refl
section_adds the_sections b (code k u h) s = refl

end_adds : (a : Answer) (s : Shown streams) → (mine end a s).shown ≡ s
unfolding mine
end_adds (gave g) s = refl
end_adds (left whole) s = refl
end_adds (left freed) s = refl
end_adds (house n) s = refl
end_adds (code k u h) s = refl

reset_adds : (a : Answer) (s : Shown streams) → (mine reset a s).shown ≡ s
unfolding mine
reset_adds (gave g) s = refl
reset_adds (left l) s = refl
reset_adds (house n) s = refl
reset_adds (code k u h) s = refl

if_adds : (w : Which) (f : Fate) (s : Shown streams) (v : View streams) → shown_of w v.shown ≡ shown_of w s → shown_of w (if_running f s v).shown ≡ shown_of w s
unfolding if_running
if_adds w unopened s v e = refl
if_adds w spent s v e = refl
if_adds w running s v e = e
if_adds w ended s v e = refl
if_adds w dropped s v e = refl
if_adds w (refused k) s v e = refl
if_adds w lost s v e = refl

-- nor does a call elsewhere
elsewhere_adds : (a : Answer) (v : View streams) → (elsewhere a v).shown ≡ v.shown
unfolding elsewhere
elsewhere_adds (gave g) v = refl
elsewhere_adds (left l) v = refl
elsewhere_adds (house n) v = refl
elsewhere_adds (code (of_stream k) u h) v = refl
elsewhere_adds (code (of_connection k) u h) v = refl

refusal_named : (w : Which) (piece : List ℕ) → named_by w (report_of (house not_open)) piece ≡ []
unfolding named_by report_of
refusal_named the_content piece = refl
refusal_named the_sections piece = refl

code_named : (w : Which) (k : ConnectionFault) (piece : List ℕ) → named_by w (report_of (code (of_connection k) 0 0)) piece ≡ []
unfolding named_by report_of
code_named the_content k piece = refl
code_named the_sections k piece = refl

-- a feed of a stream that does not run names nothing
quiet_answer : (ks : Calls) (id : ℕ) (o : Own streams) (w : Which) (piece : List ℕ) → ¬ ((shows id ks).fate ≡ running) → named_by w (report_of (call (on id o) (run fresh ks)).answer) piece ≡ []
quiet_answer ks id o w piece n = by (ledger (trace fresh ks)).dead refl
  where
    by : (d : Option ConnectionFault) → (ledger (trace fresh ks)).dead ≡ d → named_by w (report_of (call (on id o) (run fresh ks)).answer) piece ≡ []
    by none e = ap (λ r. named_by w (report_of r.answer) piece) (shut ks id o e n) ∙ refusal_named w piece
    by (some k) e = ap (λ r. named_by w (report_of r.answer) piece) (dead_stays ks (on id o) k tt e) ∙ code_named w k piece

is_running : (f : Fate) → Dec (f ≡ running)
is_running unopened = no (λ e. not_running unopened tt e)
is_running spent = no (λ e. not_running spent tt e)
is_running running = yes refl
is_running ended = no (λ e. not_running ended tt e)
is_running dropped = no (λ e. not_running dropped tt e)
is_running (refused k) = no (λ e. not_running (refused k) tt e)
is_running lost = no (λ e. not_running lost tt e)

module _ (w : Which) (ks : Calls) (id allow : ℕ) (piece : List ℕ) where
  feed_adds : Dec ((shows id ks).fate ≡ running) → let a = (call (on id (feed allow piece)) (run fresh ks)).answer in let v = shows id ks in
      shown_of w v.shown ++ named_by w (report_of a) piece ≡ shown_of w (if_running v.fate v.shown (mine (feed allow piece) a v.shown)).shown
  unfolding if_running
  feed_adds (yes e) = let v = shows id ks in fed_adds w allow piece (call (on id (feed allow piece)) (run fresh ks)).answer v.shown ∙ rw e refl
  feed_adds (no n) =
      let v = shows id ks in
      let a = (call (on id (feed allow piece)) (run fresh ks)).answer in
      ap (λ y. shown_of w v.shown ++ y) (quiet_answer ks id (feed allow piece) w piece n) ∙ append-nil (shown_of w v.shown) ∙ sym (by v.fate n)
    where
      by : (f : Fate) → ¬ (f ≡ running) → shown_of w (if_running f (shows id ks).shown (mine (feed allow piece) (call (on id (feed allow piece)) (run fresh ks)).answer (shows id ks).shown)).shown ≡ shown_of w (shows id ks).shown
      by unopened m = refl
      by spent m = refl
      by running m = absurd (m refl)
      by ended m = refl
      by dropped m = refl
      by (refused k) m = refl
      by lost m = refl

-- ---- a stream that is opened has shown nothing before

story_clean : {f : Fate} {s : Shown streams} → Story f s → ¬ Used f → s ≡ nothing
story_clean asks.not_yet n = refl
story_clean asks.never n = absurd (n tt)
story_clean (asks.to_the_end t d e) n = absurd (n tt)
story_clean (asks.given_up t) n = absurd (n tt)
story_clean (asks.cut_off t) n = absurd (n tt)
story_clean (asks.bad_feed t d e) n = absurd (n tt)
story_clean (asks.bad_section t d y e) n = absurd (n tt)
story_clean (asks.bad_end t d e) n = absurd (n tt)

story₁_clean : {f : Fate} {s : Shown streams} → Story₁ alone f s → ¬ Used f → s ≡ nothing
story₁_clean tells.not_yet n = refl
story₁_clean tells.never n = absurd (n tt)
story₁_clean (tells.cut_off t) n = absurd (n tt)
story₁_clean (tells.closed t e) n = absurd (n tt)
story₁_clean (tells.closed_critical t e) n = absurd (n tt)
story₁_clean (tells.bad_feed t e) n = absurd (n tt)
story₁_clean (tells.second_of_type t e) n = absurd (n tt)

clean : (id : ℕ) (k : Kind) → kind_of id ≡ some k → (ks : Calls) → ¬ Used (shows id ks).fate → (shows id ks).shown ≡ nothing
clean id request q ks n = by (agrees story id ks q) n
  where
    by : {p : Pair streams} {v : View streams} → Agrees Asks Story id p v → ¬ Used v.fate → v.shown ≡ nothing
    by (open_still a t f) n = absurd (n tt)
    by (over t g) n = story_clean t n
clean id one_way q ks n = by (agrees (story₁ alone) id ks q) n
  where
    by : {p : Pair streams} {v : View streams} → Agrees (Says alone) (Story₁ alone) id p v → ¬ Used v.fate → v.shown ≡ nothing
    by (open_still a t f) n = absurd (n tt)
    by (over t g) n = story₁_clean t n

next_clean : (ks : Calls) (id : ℕ) {k : Kind} → IsNext (ledger (trace fresh ks)) id k → (shows id ks).shown ≡ nothing
next_clean ks id {k} n = clean id k n.is ks ((lowest_exactly k id ks).0 (n.is, n.next)).not_yet

open_adds : (ks : Calls) (id : ℕ) (a : Answer) → Opens (ledger (trace fresh ks)) id a → (opened a (shows id ks)).shown ≡ (shows id ks).shown
unfolding opened
open_adds ks id a (is_dead d) = refl
open_adds ks id a (another_id d n) = refl
open_adds ks id a (is_barred d n b) = sym (next_clean ks id n)
open_adds ks id a (is_full d n b l) = refl
open_adds ks id a (is_opened d n b l) = sym (next_clean ks id n)

-- ---- every call

picked : {P : Type 0} (d : Dec P) (x y : View streams) (s : Shown streams) → (P → x.shown ≡ s) → y.shown ≡ s → (pick d x y).shown ≡ s
unfolding pick
picked (yes p) x y s e f = e p
picked (no n) x y s e f = f

picked_of : (w : Which) {P : Type 0} (d : Dec P) (x y : View streams) (s : Shown streams) → (P → shown_of w x.shown ≡ shown_of w s) → y.shown ≡ s → shown_of w (pick d x y).shown ≡ shown_of w s
unfolding pick
picked_of w (yes p) x y s e f = e p
picked_of w (no n) x y s e f = ap (shown_of w) f

step_adds : (w : Which) (id : ℕ) (ks : Calls) (k : Call streams) → let a = (call k (run fresh ks)).answer in let v = shows id ks in
    with_call w id k (seen_of k a) (shown_of w v.shown) ≡ shown_of w (shown_by.seen id k a v).shown
unfolding with_call shown_by.seen
step_adds the_content id ks start = unfold seen_of call same report_of number_in anew restarted unseen nothing in refl
step_adds the_sections id ks start = unfold seen_of call same report_of number_in anew restarted unseen nothing in refl
step_adds w id ks (open' i) =
    let a = (call (open' i) (run fresh ks)).answer in
    let v = shows id ks in
    sym (ap (shown_of w) (picked (ℕ_discrete i id) (opened a v) (elsewhere a v) v.shown (λ e. open_adds ks id a (subst (λ j. Opens (ledger (trace fresh ks)) j a) e (opens_exactly ks i))) (elsewhere_adds a v)))
step_adds w id ks (on i (feed allow piece)) = by (ℕ_discrete i id)
  where
    by : (d : Dec (i ≡ id)) → let a = (call (on i (feed allow piece)) (run fresh ks)).answer in let v = shows id ks in
        pick d (shown_of w v.shown ++ in_report w (seen_of (on i (feed allow piece)) a) piece) (shown_of w v.shown)
        ≡ shown_of w (pick d (if_running v.fate v.shown (mine (feed allow piece) a v.shown)) (elsewhere a v)).shown
    by (yes e) = unfold pick in_report seen_of in (rw e (feed_adds w ks id allow piece (is_running (shows id ks).fate)))
    by (no n) = unfold pick in sym (ap (shown_of w) (elsewhere_adds (call (on i (feed allow piece)) (run fresh ks)).answer (shows id ks)))
step_adds w id ks (on i (section b)) =
    let a = (call (on i (section b)) (run fresh ks)).answer in
    let v = shows id ks in
    sym (picked_of w (ℕ_discrete i id) (if_running v.fate v.shown (mine (section b) a v.shown)) (elsewhere a v) v.shown (λ e. if_adds w v.fate v.shown (mine (section b) a v.shown) (section_adds w b a v.shown)) (elsewhere_adds a v))
step_adds w id ks (on i end) =
    let a = (call (on i end) (run fresh ks)).answer in
    let v = shows id ks in
    sym (picked_of w (ℕ_discrete i id) (if_running v.fate v.shown (mine end a v.shown)) (elsewhere a v) v.shown (λ e. if_adds w v.fate v.shown (mine end a v.shown) (ap (shown_of w) (end_adds a v.shown))) (elsewhere_adds a v))
step_adds w id ks (on i reset) =
    let a = (call (on i reset) (run fresh ks)).answer in
    let v = shows id ks in
    sym (picked_of w (ℕ_discrete i id) (if_running v.fate v.shown (mine reset a v.shown)) (elsewhere a v) v.shown (λ e. if_adds w v.fate v.shown (mine reset a v.shown) (ap (shown_of w) (reset_adds a v.shown))) (elsewhere_adds a v))
step_adds w id ks (goaway i room) = sym (ap (shown_of w) (elsewhere_adds (call (goaway i room) (run fresh ks)).answer (shows id ks)))

-- ---- every run

same_length : {ks : Calls} {xs : List Seen} {c : Connection} {rows : List Record} → Run ks xs c rows → length ks ≡ length xs
same_length (begun l m) = refl
same_length (then_called {ks = ks} {xs = xs} {k = k} {x = x} r m) = let i = same_length r in let a = length-append ks (k ∷ []) in let b = length-append xs (x ∷ []) in omega arith

rebuilt_last : (w : Which) (id : ℕ) (s : List ℕ) (ks : Calls) (xs : List Seen) (k : Call streams) (x : Seen) → length ks ≡ length xs
    → rebuilt_from w id s (ks ++ (k ∷ [])) (xs ++ (x ∷ [])) ≡ with_call w id k x (rebuilt_from w id s ks xs)
unfolding rebuilt_from
rebuilt_last w id s [] [] k x e = refl
rebuilt_last w id s [] (y ∷ xs) k x e = absurd (omega arith)
rebuilt_last w id s (j ∷ ks) [] k x e = absurd (omega arith)
rebuilt_last w id s (j ∷ ks) (y ∷ xs) k x e = rebuilt_last w id (with_call w id j y s) ks xs k x (omega arith)

-- REBUILT: from the pieces and the reports of a run, the content, and the section bytes, that the trace shows of a stream
pub rebuilt_is : {ks : Calls} {xs : List Seen} {c : Connection} {rows : List Record} → Run ks xs c rows → (w : Which) (id : ℕ) → rebuilt w id ks xs ≡ shown_of w (shows id ks).shown
unfolding rebuilt_from view view_from trace unseen nothing
rebuilt_is (begun l m) the_content id = refl
rebuilt_is (begun l m) the_sections id = refl
rebuilt_is (then_called {ks = ks} {xs = xs} {k = k} {x = x} r m) w id =
    rebuilt_last w id [] ks xs k x (same_length r) ∙ ap (with_call w id k x) (rebuilt_is r w id) ∙ ap (λ y. with_call w id k y (shown_of w (shows id ks).shown)) (answers r m)
    ∙ step_adds w id ks k ∙ ap (λ (v : View streams). shown_of w v.shown) (sym (view_last id unseen fresh ks k))

-- ---- the header section

-- section bytes are the header section's, then the trailers'
trailing : (xs : List Saying) → (rest : List ℕ) × (section_bytes_of xs ≡ header_bytes xs ++ rest)
unfolding section_bytes_of header_bytes
trailing [] = ([], refl)
trailing (header h content ∷ xs) = trailing xs
trailing (header h skipped ∷ xs) = trailing xs
trailing (header h (for-section header_section) ∷ xs) = trailing xs
trailing (header h (for-section trailers) ∷ xs) = (section_bytes_of xs, refl)
trailing (header h (kept k) ∷ xs) = trailing xs
trailing (refused-header h ∷ xs) = trailing xs
trailing (section_byte b ∷ xs) = let i = trailing xs in (i.0, ap (λ l. b ∷ l) i.1)
trailing (content_byte b ∷ xs) = trailing xs
trailing (frame_kept k p ∷ xs) = trailing xs

-- HEADER SECTION: its bytes, as demand 3 speaks of them, are the first of those that a host puts together
pub header_first : {ks : Calls} {xs : List Seen} {c : Connection} {rows : List Record} → Run ks xs c rows → (id : ℕ) → kind_of id ≡ some request
    → let s = (shows id ks).shown in (later : List ℕ) × (rebuilt the_sections id ks xs ≡ (header_of s.bytes s.sections).bytes ++ later)
header_first {ks} r id q =
    let s = (shows id ks).shown in
    let i = trailing (reading_of s.bytes s.sections).said in
    (i.0, rebuilt_is r the_sections id ∙ (demand_2 id q ks).shows.blocks ∙ i.1)

-- ---- a row of another length, between other calls

-- every call but our GOAWAY is lent the row
abbrev pub LentRow : Call streams → Type 0
LentRow start = Unit {0}
LentRow (open' id) = Unit {0}
LentRow (on id o) = Unit {0}
LentRow (goaway id room) = ⊥

-- NINE: lent such a row, a call answers 9 and alters neither record
pub nine_so : {c : Connection} {rows : List Record} {k : Call streams} {x : Seen} {c' : Connection} {rows' : List Record} → LentRow k → ¬ (length rows ≡ 24) → Does c rows k x c' rows'
    → (c' ≡ c) × (rows' ≡ rows) × (x ≡ seen_of k (house other_row))
unfolding seen_of
nine_so l n (starts m) = let u = start_nine n m in (u.0, u.1, ap a_number u.2)
nine_so l n (opens_one m) = let u = nine n m in (u.0, u.1, ap a_report u.2)
nine_so l n (feeds m) = let u = nine n m in (u.0, u.1, ap a_report u.2)
nine_so l n (gives m) = let u = nine n m in (u.0, u.1, ap a_report u.2)
nine_so l n (ends m) = let u = nine n m in (u.0, u.1, ap a_report u.2)
nine_so l n (resets m) = let u = nine n m in (u.0, u.1, ap a_report u.2)
nine_so l n (goes_away m) = absurd l

-- a run in which, between its calls, others are lent some row that is not of 24
pub data RunBetween : Calls → List Seen → Connection → List Record → Type 0 where
  begins : {ks : Calls} {xs : List Seen} {c : Connection} {rows : List Record} → Run ks xs c rows → RunBetween ks xs c rows
  goes_on : {ks : Calls} {xs : List Seen} {c : Connection} {rows : List Record} {k : Call streams} {x : Seen} {c' : Connection} {rows' : List Record}
      → RunBetween ks xs c rows → Does c rows k x c' rows' → RunBetween (ks ++ (k ∷ [])) (xs ++ (x ∷ [])) c' rows'
  with_other : {ks : Calls} {xs : List Seen} {c : Connection} {rows : List Record} {k : Call streams} {x : Seen} {c' : Connection} {others others' : List Record}
      → RunBetween ks xs c rows → LentRow k → ¬ (length others ≡ 24) → Does c others k x c' others' → RunBetween ks xs c' rows

-- it is the run of the calls that were lent 24
pub run_between : {ks : Calls} {xs : List Seen} {c : Connection} {rows : List Record} → RunBetween ks xs c rows → Run ks xs c rows
run_between (begins r) = r
run_between (goes_on b m) = then_called (run_between b) m
run_between {ks} {xs} {rows = rows} (with_other b l n m) = subst (λ c. Run ks xs c rows) (sym (nine_so l n m).0) (run_between b)
