-- WRONG REPORTS, and wrong memory left: what is refused, at a run (the bytes of a write: in any), by what the theorems say of the exported functions (ExportedStops, ExportedAnswers,
-- ExportedRecords, Exported). Assumes nothing.
use Rattle.std.specs.Prelude.{◌≡◌, refl, ℕ, ◌≤◌, List, [], ◌∷◌, true, false, length, take}
use Rattle.std.proofs.Common.{sym, ap, subst, ◌∙◌, arith, take_at}
use Rattle.std.proofs.Math.Option.{Option, some}
use Rattle.rules.specs.Numbers.{NOT-OPEN, REQUEST-REJECTED, FRAME-UNEXPECTED, frame_unexpected}
use Rattle.rules.specs.Integers.{extra, more, integer}
use Rattle.rules.specs.Frames.{Frames.none as no_more, Frames.frame as a_frame, in_payload, frames_up_to, frames_from}
use Rattle.rules.specs.Message.{body}
use Rattle.rules.specs.Calls.{qpack_bytes, settings, client_goaway, max_push_id, Event, quiet, section_bytes, content_bytes, notice, fed, feed, section, request, one_way, kind_of, asking, Stream, find, open', on, gave}
use Rattle.rules.specs.Shown.{running, ledger, ledger_from, noted, dies, opens, counts, blank}
use Rattle.meaning.specs.Machine.{between}
use Rattle.meaning.specs.FrameLaws.{head}
use Rattle.meaning.specs.WriterLaws.{FrameBack}
use Rattle.record.specs.declared.Record.{Record}
use Rattle.record.specs.Row.{request_record}
use Rattle.requests.specs.Opens.{state_back}
use Rattle.connection.specs.declared.Connection.{Connection}
use Rattle.connection.specs.declared.Report.{Report}
use Rattle.connection.specs.Faults.{with_code}
use Rattle.connection.specs.Turned.{told, numbered}
use Rattle.demands.specs.Streams.{streams}
use Rattle.demands.specs.Demands.{Calls}
use Rattle.demands.specs.Means.{slot_at, noticed, reported, report_of}
use Rattle.demands.specs.Runs.{Seen, a_number, a_report, a_written, seen_of, number_in}
use Rattle.demands.specs.Host.{Run, answers}
use Rattle.demands.specs.Host as host
use Rattle.demands.specs.Instances.{shows, unstated, block, headed}
use Rattle.demands.specs.RunInMemory.{one_open, one_spent, frame, fed_so, opened_run, dead_run}
use Rattle.demands.specs.ExportedStops.{RequestStops, OneWayStops}
use Rattle.demands.specs.Exported.{GoawayRead}
use Rattle.demands.specs.ExportedAnswers.{AsTraced, FeedAnswered, ResetAnswered}
use Rattle.demands.specs.ExportedRecords.{LeavesAsTraced}

-- ---- SEVEN ZEROS to a feed that is given a byte and an allowance of 1 or more

-- they report no event, no byte and no header
zeros_quiet : (u h : ℕ) (e : Event) → numbered 0 ≡ report_of (gave (fed u h e)) → e ≡ quiet
unfolding report_of reported noticed
zeros_quiet u h quiet q = refl
zeros_quiet u h (content_bytes from len) q = let z = ap (λ r. r.event) q in absurd (omega arith)
zeros_quiet u h (section_bytes from len true) q = let z = ap (λ r. r.event) q in absurd (omega arith)
zeros_quiet u h (section_bytes from len false) q = let z = ap (λ r. r.event) q in absurd (omega arith)
zeros_quiet u h (notice (qpack_bytes type from len)) q = let z = ap (λ r. r.event) q in absurd (omega arith)
zeros_quiet u h (notice (settings size capacity blocked)) q = let z = ap (λ r. r.event) q in absurd (omega arith)
zeros_quiet u h (notice (client_goaway id)) q = let z = ap (λ r. r.event) q in absurd (omega arith)
zeros_quiet u h (notice (max_push_id id)) q = let z = ap (λ r. r.event) q in absurd (omega arith)

module _ {ks : Calls} {xs : List Seen} {c : Connection} {rows : List Record} (s : Run ks xs c rows) (id : ℕ) (n : (host.shows id ks).fate ≡ running) (piece : List ℕ) (allow : ℕ) (l : 1 ≤ allow) (some_byte : 1 ≤ length piece)
    (c' : Connection) (rows' : List Record) where
  -- of any request stream that runs
  pub zeros_break : kind_of id ≡ some request → ¬ (RequestStops c rows id piece allow (numbered 0) c' rows')
  zeros_break q p = let f = p ks xs s q n refl in let z = (f.so.2 (zeros_quiet 0 0 f.event f.read_as) (omega arith)).spent in omega arith

  -- and of any one-way stream
  pub zeros_break₁ : kind_of id ≡ some one_way → ¬ (OneWayStops c rows id piece allow (numbered 0) c' rows')
  zeros_break₁ q p = let f = p ks xs s q n refl in let z = (f.so.2 (zeros_quiet 0 0 f.event f.read_as) (omega arith)).spent in omega arith

-- so of DATA with three bytes, in any run of these calls; and of a frame of unknown type, in the run in memory
pub zeros_for_content : {xs : List Seen} {c : Connection} {rows : List Record} → Run (open' 0 ∷ on 0 (feed 5 (0x01 ∷ 0x01 ∷ 0x00 ∷ [])) ∷ on 0 (section block) ∷ []) xs c rows → (c' : Connection) (rows' : List Record)
    → ¬ (RequestStops c rows 0 (0x00 ∷ 0x03 ∷ 0x61 ∷ 0x62 ∷ 0x63 ∷ []) 5 (numbered 0) c' rows')
unfolding shows block
zeros_for_content s c' rows' = zeros_break s 0 refl (0x00 ∷ 0x03 ∷ 0x61 ∷ 0x62 ∷ 0x63 ∷ []) 5 (omega arith) (omega arith) c' rows' refl

pub zeros_for_frame : (c' : Connection) (rows' : List Record) → ¬ (RequestStops one_spent one_open 0 frame 1 (numbered 0) c' rows')
unfolding shows
zeros_for_frame c' rows' = zeros_break opened_run 0 refl frame 1 (omega arith) (omega arith) c' rows' refl

-- ---- A HEADER READ AND NOT COUNTED, at the same frame
heads_in : Seen → ℕ
heads_in (a_number n) = 0
heads_in (a_report r) = r.heads
heads_in (a_written w) = 0

pub not_counted : (c' : Connection) (rows' : List Record) → ¬ (AsTraced one_spent one_open (on 0 (feed 1 frame)) (a_report (told 0 0 0 0 2 0 0)) c' rows')
unfolding heads_in
not_counted c' rows' p = let z = ap heads_in (p _ _ opened_run ∙ sym (answers opened_run fed_so)) in omega arith

-- ---- AN UPLOAD WITHOUT A LENGTH accepted at its section (document 02, Q-1), in any run of an opening and HEADERS
pub unstated_accepted : {xs : List Seen} {c : Connection} {rows : List Record} → Run headed xs c rows → (c' : Connection) (rows' : List Record) → ¬ (AsTraced c rows (on 0 (section unstated)) (a_report (numbered 0)) c' rows')
unfolding shows unstated headed seen_of report_of heads_in number_in
unstated_accepted {xs} s c' rows' p = let z : 0 ≡ REQUEST-REJECTED = ap number_in (p headed xs s) in omega arith

-- ---- A RESET OF AN OPEN REQUEST, reported as not open
pub reset_as_one : (c' : Connection) (rows' : List Record) → ¬ (ResetAnswered one_spent one_open 0 (numbered NOT-OPEN) c' rows')
unfolding shows report_of
reset_as_one c' rows' p = let z = ap (λ r. r.event) ((p _ _ opened_run).on_request refl refl) in omega arith

-- ---- A FEED ON A DEAD CONNECTION, reported with the number 0, whatever else it says
pub dead_as_zero : (piece : List ℕ) (allow : ℕ) (r : Report) (c' : Connection) (rows' : List Record) → r.number ≡ 0 → ¬ (FeedAnswered (with_code FRAME-UNEXPECTED one_spent) one_open 0 piece allow r c' rows')
unfolding shows ledger ledger_from noted dies opens counts blank report_of
dead_as_zero piece allow r c' rows' e p = let z = ap (λ r. r.number) ((p _ _ dead_run).on_dead frame_unexpected refl) in omega arith

-- ---- A RECORD LEFT WITH ANOTHER LENGTH than the 3 that the section behind HEADERS has stated, in any run of these calls
pub states_another : {xs : List Seen} {c : Connection} {rows : List Record} → Run headed xs c rows → (x : Seen) (c' : Connection) (rest : List Record) (n : ℕ) → ¬ (n ≡ 3)
    → ¬ (LeavesAsTraced c rows (on 0 (section block)) x c' (request_record 0 (between (body (some n) 0)) ∷ rest))
unfolding shows block headed slot_at
states_another {xs} s x c' rest n other p =
    let held = ap (λ y. some (asking y)) (sym (state_back 0 (between (body (some n) 0)) tt)) in
    let e : ◌≡◌ {A = Option (Stream streams)} (some (asking (between (body (some n) 0)))) (some (asking (between (body (some 3) 0)))) = held ∙ ap (λ q. find 0 q.row) (p headed xs s) in
    other cc

-- ---- OUR GOAWAY OF ID 0 left as 40 07 01, a header alone: its payload would be the 00 that lay behind it in the room
pub header_as_goaway : (c c' : Connection) → ¬ (GoawayRead c 0 (0xAA ∷ 0xAA ∷ 0xAA ∷ 0x00 ∷ 0xC0 ∷ []) (record { number = 0; count = 3 }) c' (0x40 ∷ 0x07 ∷ 0x01 ∷ 0x00 ∷ 0xC0 ∷ []))
unfolding frames_from frames_up_to integer more extra
header_as_goaway c c' p =
    let f = p refl in
    let same : f.0 ≡ 0x40 ∷ 0x07 ∷ 0x01 ∷ [] = sym (take_at f.0 (0x00 ∷ 0xC0 ∷ []) 3 (sym f.1)) ∙ sym (ap (take 3) f.2) in
    let back = subst (λ bytes. FrameBack 0 7 0 bytes []) same (f.3 []) in
    let e : in_payload (head 0 3 7 1) [] ≡ a_frame (head 0 back.from 7 (length back.payload)) back.payload no_more = back.reads in
    let z : ◌≡◌ {A = ℕ} 0 1 = cc in
    omega arith
