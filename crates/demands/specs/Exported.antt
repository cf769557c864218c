-- THE DEMANDS OF THE EXPORTED FUNCTIONS THEMSELVES. `Every` says of the seven functions that make calls, and `OfEnd` and its like of one function: every
-- call, whatever it is lent and passed, returns, and then this holds (Exports, from each function's own theorem). A run is the calls that a host has made
-- so far (Host). Assumes nothing.
use Rattle.std.specs.Prelude.{◌≡◌, refl, ℕ, ◌+◌, ◌≤◌, ◌<◌, List, [], ◌∷◌, ◌++◌, map, ◌↔◌, length, take, drop}
use Rattle.std.proofs.Common.{sym, ap, subst, ◌∙◌, arith}
use Rattle.std.proofs.Math.Option.{some}
use Rattle.rules.specs.Events.{SETTINGS, WHOLE}
use Rattle.rules.specs.Integers.{integer, got}
use Rattle.rules.specs.Frames.{frame, frames_from}
use Rattle.meaning.specs.FrameLaws.{head}
use Rattle.meaning.specs.IntegerLaws.{Bytes}
use Rattle.rules.specs.Numbers.{NO-SECTION, SECTION-DUE, UNREADABLE, OTHER-ROW, Code, of_stream, code_number}
use Rattle.rules.specs.Calls.{feed, section, end, request, one_way, kind_of, find, on, Answer, call, run, fresh, trace}
use Rattle.rules.specs.Shown.{View, running, ended, refused, ledger}
use Rattle.traces.specs.Alone.{Aside}
use Rattle.traces.specs.Demands.{Tells, Struck, end_answer, all_refused}
use Rattle.traces.specs.Progress.{Moves, awaits, faulty, moved, Takes, not_due, not_readable, unfit, taken}
use Rattle.varint.specs.Write.{Wrote}
use Rattle.varint.specs.Shortest.{size_of}
use Rattle.record.specs.declared.Record.{Record}
use Rattle.connection.specs.declared.Connection.{Connection}
use Rattle.connection.specs.declared.Report.{Report}
use Rattle.calls.specs.Promises.{Fed, Given, Ended, written_of}
use Rattle.demands.specs.Streams.{streams}
use Rattle.demands.specs.Reading.{reading}
use Rattle.demands.specs.LongerStreams.{first_of, stated_by, header_of, Added}
use Rattle.demands.specs.OneWayReads.{Heard}
use Rattle.demands.specs.Demands as over-traces
use Rattle.demands.specs.Demands.{Calls}
use Rattle.demands.specs.Refusals.{number_of}
use Rattle.demands.specs.Means as means
use Rattle.demands.specs.Means.{pair_of, report_of}
use Rattle.demands.specs.Only.{EndsWhole}
use Rattle.demands.specs.Others.{verdict_in, Opens, Sends}
use Rattle.demands.specs.Runs.{Seen, seen_in, feeds, gives, number_in, Refuses, ToldSettings}
use Rattle.demands.specs.Writes as writes
use Rattle.demands.specs.Writes.{BeginsFrame, Ends, EitherAbove, twelve, OpensControl}
use Rattle.demands.specs.Host.{Run, shows, reports, report_number, HandsNothing, AsTheTableSays, SaysWhole, WholeAt}
use Rattle.demands.specs.Exports.{CallSays, StartSays, StreamSays, FeedSays, GiveSays, GoawaySays, FrameSays, RoomSays}

-- ---- runs: every start on a row of 24 begins one, and every call of every function carries it on

abbrev pub Begins : StartSays
Begins c rows n c' rows' = length rows ≡ 24 → Run [] [] c' rows'

abbrev pub CarriesOn : CallSays
CarriesOn c rows k x c' rows' = (ks : Calls) (xs : List Seen) → Run ks xs c rows → Run (ks ++ (k ∷ [])) (xs ++ (x ∷ [])) c' rows'

-- ---- DEMAND 1

-- A REFUSAL, any number but 0: nothing is handed over, the number is in document 01's table, and what is left is what its row says
abbrev pub RefusesSo : CallSays
RefusesSo c rows k x c' rows' = (ks : Calls) (xs : List Seen) → Run ks xs c rows → ¬ (number_in x ≡ 0) → HandsNothing x × AsTheTableSays c rows k x c' rows'

-- and on any memory: a number of the house, or the code of a dead connection, alters no byte of it
abbrev pub AltersNothing : CallSays
AltersNothing c rows k x c' rows' = Refuses c k x → (c' ≡ c) × (rows' ≡ rows)

-- nor, with any number but 0, of the room that our GOAWAY is lent
abbrev pub RoomStays : GoawaySays
RoomStays c id room r c' room' = ¬ (r.number ≡ 0) → (c' ≡ c) × (room' ≡ room)

-- OTHER STREAMS: no call but start touches the record of a stream that it does not name
abbrev pub OthersStay : CallSays
OthersStay c rows k x c' rows' = (ks : Calls) (xs : List Seen) → Run ks xs c rows → (id : ℕ) → Aside id k → find id (pair_of c' rows').row ≡ find id (pair_of c rows).row

-- ---- DEMAND 2

-- AT EVERY MOMENT: what was seen is the trace of the calls; what each request stream has shown of it is the definition's reading of its bytes and
-- sections, its fate their verdict; and what each one-way stream has reported is what its bytes mean
abbrev pub Reads : CallSays
Reads c rows k x c' rows' = (ks : Calls) (xs : List Seen) → Run ks xs c rows → let ls = ks ++ (k ∷ []) in
    (xs ++ (x ∷ []) ≡ map seen_in (trace fresh ls)) × ((id : ℕ) → kind_of id ≡ some request → Tells reading (shows id ls)) × ((id : ℕ) → kind_of id ≡ some one_way → Heard (shows id ls))

-- WHOLE EXACTLY IF LEGAL: event 11 is reported exactly by an end of a request stream that runs and whose bytes and sections are legal
abbrev pub WholeIfLegal : CallSays
WholeIfLegal c rows k x c' rows' = (ks : Calls) (xs : List Seen) → Run ks xs c rows → SaysWhole x ↔ EndsWhole ks k

-- AN END is answered by the verdict: whole, 4 while a section is due, or the first fault's code
abbrev pub EndsByVerdict : StreamSays
EndsByVerdict c rows id r c' rows' = (ks : Calls) (xs : List Seen) → Run ks xs c rows → kind_of id ≡ some request → (shows id ks).fate ≡ running → r ≡ report_of (end_answer (verdict_in (shows id ks)))

-- THE FIRST FAULT DECIDES: a feed is answered by 4 exactly while a section is due, by a code only for a fault that the last byte used brings, and else
-- there is none among the bytes; given a byte and an allowance of 1 or more, one or more is used
abbrev pub FeedsByBytes : FeedSays
FeedsByBytes c rows id piece allow r c' rows' = (ks : Calls) (xs : List Seen) → Run ks xs c rows → kind_of id ≡ some request → (shows id ks).fate ≡ running
    → (a : Answer) × (r ≡ report_of a) × Moves reading (shows id ks).shown allow piece a

pub fed_so : (c : Connection) (rows : List Record) (id : ℕ) (piece : List ℕ) (allow : ℕ) (r : Report) (c' : Connection) (rows' : List Record) → Fed c rows id piece allow c' rows' r → FeedsByBytes c rows id piece allow r c' rows'
fed_so c rows id piece allow r c' rows' m ks xs s q e = let k = on id (feed allow piece) in ((call k (run fresh ks)).answer, reports s k (feeds m), over-traces.progress id q ks allow piece e)

-- a section by 5, 6, the code of a fault that it brings, or accepted
abbrev pub GivesBySection : GiveSays
GivesBySection c rows id block r c' rows' = (ks : Calls) (xs : List Seen) → Run ks xs c rows → kind_of id ≡ some request → (shows id ks).fate ≡ running
    → (a : Answer) × (r ≡ report_of a) × Takes reading (shows id ks).shown block a

pub given_so : (c : Connection) (rows : List Record) (id : ℕ) (block : List ℕ) (r : Report) (c' : Connection) (rows' : List Record) → Given c rows id block c' rows' r → GivesBySection c rows id block r c' rows'
given_so c rows id block r c' rows' m ks xs s q e = let k = on id (section block) in ((call k (run fresh ks)).answer, reports s k (gives m), over-traces.section_exactly id q ks block e)

-- ANY CUTTING: every request stream of every run, in whatever pieces and with whatever allowances, that used these bytes or more with these sections so far
-- is refused with this number at this byte
pub record RefusedAt (number : ℕ) (bytes : List ℕ) (v : View streams) : Type 0 where
  pub code : Code
  pub numbered : code_number code ≡ number
  pub fate : v.fate ≡ refused code
  pub place : v.shown.bytes ≡ bytes

abbrev pub Everywhere : (number : ℕ) (bytes : List ℕ) (sections : List (List ℕ)) → Type 0
Everywhere number bytes sections = (ks : Calls) (xs : List Seen) (c : Connection) (rows : List Record) → Run ks xs c rows → (id : ℕ) → kind_of id ≡ some request → (more : List ℕ) (others : List (List ℕ))
    → (shows id ks).shown.bytes ≡ bytes ++ more → (shows id ks).shown.sections ≡ sections ++ others → RefusedAt number bytes (shows id ks)

everywhere : (k : Code) (bytes : List ℕ) (sections : List (List ℕ)) → Struck reading k bytes sections → Everywhere (code_number k) bytes sections
everywhere k bytes sections h ks xs c rows s id q more others e f =
    let u = all_refused reading k bytes sections h (shows id ks) (over-traces.demand_2 id q ks) more others e f in
    record { code = k; numbered = refl; fate = u.0; place = u.1 }

-- a feed that is answered with a code
abbrev pub FeedsAlike : FeedSays
FeedsAlike c rows id piece allow r c' rows' = (ks : Calls) (xs : List Seen) → Run ks xs c rows → kind_of id ≡ some request → (shows id ks).fate ≡ running → OTHER-ROW < r.number
    → let s = (shows id ks).shown in Everywhere r.number (s.bytes ++ take r.used piece) s.sections

pub fed_alike : (v : View streams) (piece : List ℕ) (allow : ℕ) (r : Report) (a : Answer) → r ≡ report_of a → Moves reading v.shown allow piece a → OTHER-ROW < r.number
    → Everywhere r.number (v.shown.bytes ++ take r.used piece) v.shown.sections
unfolding report_of number_of
fed_alike v piece allow r a q (awaits x) l = let z : r.number ≡ SECTION-DUE = ap (λ y. y.number) q in absurd (omega arith)
fed_alike v piece allow r a q (faulty {k = k} {u = u} {h = h} x struck) l = subst (λ (y : Report). Everywhere y.number (v.shown.bytes ++ take y.used piece) v.shown.sections) (sym q) (everywhere k (v.shown.bytes ++ take u piece) v.shown.sections struck)
fed_alike v piece allow r a q (moved x n p) l = let z : r.number ≡ 0 = ap (λ y. y.number) q ∙ report_number a in absurd (omega arith)

-- and a section
abbrev pub GivesAlike : GiveSays
GivesAlike c rows id block r c' rows' = (ks : Calls) (xs : List Seen) → Run ks xs c rows → kind_of id ≡ some request → (shows id ks).fate ≡ running → OTHER-ROW < r.number
    → let s = (shows id ks).shown in Everywhere r.number s.bytes (s.sections ++ (block ∷ []))

pub given_alike : (v : View streams) (block : List ℕ) (r : Report) (a : Answer) → r ≡ report_of a → Takes reading v.shown block a → OTHER-ROW < r.number
    → Everywhere r.number v.shown.bytes (v.shown.sections ++ (block ∷ []))
unfolding report_of
given_alike v block r a q (not_due x) l = let z : r.number ≡ NO-SECTION = ap (λ y. y.number) q in absurd (omega arith)
given_alike v block r a q (not_readable x y) l = let z : r.number ≡ UNREADABLE = ap (λ y. y.number) q in absurd (omega arith)
given_alike v block r a q (unfit {k = k} x y struck) l = subst (λ (y : Report). Everywhere y.number v.shown.bytes (v.shown.sections ++ (block ∷ []))) (sym q) (everywhere (of_stream k) v.shown.bytes (v.shown.sections ++ (block ∷ [])) struck)
given_alike v block r a q (taken x y n) l = let z : r.number ≡ 0 = ap (λ y. y.number) q in absurd (omega arith)

-- SETTINGS that a feed reports (event 8) are those that the connection's record then holds
abbrev pub HoldsSettings : FeedSays
HoldsSettings c rows id piece allow r c' rows' = (ks : Calls) (xs : List Seen) → Run ks xs c rows → r.event ≡ SETTINGS → ToldSettings (on id (feed allow piece)) (pair_of c rows) c' r

-- ---- DEMAND 3

-- HALF AN UPLOAD IS NEVER WHOLE: where an end reports whole on a stream that states n, n bytes of content were handed over
abbrev pub NotHalf : StreamSays
NotHalf c rows id r c' rows' = (ks : Calls) (xs : List Seen) → Run ks xs c rows → r.event ≡ WHOLE → (n : ℕ) → let s = (shows id ks).shown in stated_by n (first_of s.sections) → length s.content ≡ n

pub not_half : {id : ℕ} {ks : Calls} → WholeAt id ks → (n : ℕ) → let s = (shows id ks).shown in stated_by n (first_of s.sections) → length s.content ≡ n
not_half {id} {ks} w n =
    subst (λ (v : View streams). v.fate ≡ ended → stated_by n (first_of v.shown.sections) → length v.shown.content ≡ n) w.ends (over-traces.half_an_upload id w.asks (ks ++ (on id end ∷ [])) n) refl

-- LONGER STREAMS: where an end here and an end in this run or another both report whole, the longer stream beginning with all the bytes of the shorter, their
-- header sections decoding alike and stating a Content-Length: the same header section, the same content, and nothing added but what may be
abbrev pub AddsNothing : StreamSays
AddsNothing c rows i r c' rows' = (ks : Calls) (xs : List Seen) → Run ks xs c rows → r.event ≡ WHOLE
    → (ls : Calls) (ys : List Seen) (d : Connection) (row : List Record) → Run ls ys d row → (j : ℕ) (p : Report) (d' : Connection) (row' : List Record) → Ended d row j d' row' p → p.event ≡ WHOLE
    → (n : ℕ) (more : List ℕ) → let s = (shows i ks).shown in let t = (shows j ls).shown in t.bytes ≡ s.bytes ++ more → first_of s.sections ≡ first_of t.sections → stated_by n (first_of s.sections)
    → (header_of s.bytes s.sections ≡ header_of t.bytes t.sections) × (s.content ≡ t.content) × Added s.bytes more t.sections

pub adds_nothing : {i j : ℕ} {ks ls : Calls} → WholeAt i ks → WholeAt j ls → (n : ℕ) (more : List ℕ) → let s = (shows i ks).shown in let t = (shows j ls).shown in
    t.bytes ≡ s.bytes ++ more → first_of s.sections ≡ first_of t.sections → stated_by n (first_of s.sections)
    → (header_of s.bytes s.sections ≡ header_of t.bytes t.sections) × (s.content ≡ t.content) × Added s.bytes more t.sections
adds_nothing {i} {j} {ks} {ls} a b n more =
    subst (λ (w : View streams). let s = (shows i ks).shown in let t = w.shown in
    w.fate ≡ ended → t.bytes ≡ s.bytes ++ more → first_of s.sections ≡ first_of t.sections → stated_by n (first_of s.sections)
    → (header_of s.bytes s.sections ≡ header_of t.bytes t.sections) × (s.content ≡ t.content) × Added s.bytes more t.sections) b.ends
    (subst (λ (v : View streams). let s = v.shown in let w = shows j (ls ++ (on j end ∷ [])) in let t = w.shown in
    v.fate ≡ ended → w.fate ≡ ended → t.bytes ≡ s.bytes ++ more → first_of s.sections ≡ first_of t.sections → stated_by n (first_of s.sections)
    → (header_of s.bytes s.sections ≡ header_of t.bytes t.sections) × (s.content ≡ t.content) × Added s.bytes more t.sections) a.ends
    (over-traces.demand_3 i j a.asks b.asks (ks ++ (on i end ∷ [])) (ls ++ (on j end ∷ [])) n more) refl) refl

-- ---- openings, and our GOAWAY: every answer there is, with the condition of each, read from the calls made

abbrev pub OpensBy : StreamSays
OpensBy c rows id r c' rows' = (ks : Calls) (xs : List Seen) → Run ks xs c rows → (a : Answer) × (r ≡ report_of a) × Opens (ledger (trace fresh ks)) id a

abbrev pub SendsBy : GoawaySays
SendsBy c id room r c' room' = (ks : Calls) (xs : List Seen) (rows : List Record) → Run ks xs c rows → (a : Answer) × (r ≡ means.written_of id a) × Sends (ledger (trace fresh ks)) id (length room) a

-- ---- FRAMES WE WRITE are read back as those same frames, in their shortest form; and how a write ends

-- a header, whatever payload of its length and whatever else is sent behind it
abbrev pub HeaderRead : FrameSays
HeaderRead type len room r room' = r.number ≡ 0 → (payload rest : List ℕ) → length payload ≡ len
    → (bytes : List ℕ) × (r.count ≡ length bytes) × (room' ≡ bytes ++ drop r.count room) × (frames_from 0 (bytes ++ (payload ++ rest)) ≡ frame (head 0 r.count type len) payload (frames_from (r.count + len) rest))

abbrev pub HeaderShortest : FrameSays
HeaderShortest type len room r room' = r.number ≡ 0 → (bs : List ℕ) (from : ℕ) (payload : List ℕ) → Bytes bs → writes.first_of (frames_from 0 bs) ≡ some (head 0 from type len, payload) → r.count ≤ from

abbrev pub HeaderEnds : FrameSays
HeaderEnds type len room r room' = (a : Wrote) × (r ≡ written_of a) × Ends (EitherAbove type len) (size_of type + size_of len) room a room'

-- an integer frame, whatever is sent behind it
abbrev pub IntegerFrameRead : FrameSays
IntegerFrameRead type value room r room' = r.number ≡ 0 → BeginsFrame type value r.count room room'

abbrev pub IntegerFrameShortest : FrameSays
IntegerFrameShortest type value room r room' = r.number ≡ 0 → (bs : List ℕ) (from len : ℕ) (payload : List ℕ) → Bytes bs → writes.first_of (frames_from 0 bs) ≡ some (head 0 from type len, payload)
    → (next : ℕ) (rest : List ℕ) → integer 0 payload ≡ got value next rest → r.count ≤ from + next

abbrev pub IntegerFrameEnds : FrameSays
IntegerFrameEnds type value room r room' = (a : Wrote) × (r ≡ written_of a) × Ends (EitherAbove type value) (size_of type + 1 + size_of value) room a room'

-- our control opening
abbrev pub OpeningRead : RoomSays
OpeningRead room r room' = r.number ≡ 0 → (r.count ≡ 12) × (room' ≡ twelve ++ drop 12 room) × OpensControl twelve

abbrev pub OpeningEnds : RoomSays
OpeningEnds room r room' = (a : Wrote) × (r ≡ written_of a) × Ends ⊥ 12 room a room'

-- our GOAWAY, whatever is sent behind it
abbrev pub GoawayRead : GoawaySays
GoawayRead c id room r c' room' = r.number ≡ 0 → BeginsFrame 7 id r.count room room'

abbrev pub GoawayShortest : GoawaySays
GoawayShortest c id room r c' room' = r.number ≡ 0 → (bs : List ℕ) (from len : ℕ) (payload : List ℕ) → Bytes bs → writes.first_of (frames_from 0 bs) ≡ some (head 0 from 7 len, payload)
    → (next : ℕ) (rest : List ℕ) → integer 0 payload ≡ got id next rest → r.count ≤ from + next
