-- WRONG SERVERS: document 01 names five that a promise must shut out. Each is defined here, and breaks what is promised at a concrete input; so do
-- three more; and our own keeps it. Assumes nothing.
use Rattle.std.specs.Prelude.{◌≡◌, refl, ℕ, List, [], ◌∷◌, ◌↔◌, length}
use Rattle.std.proofs.Common.{sym, ap, ◌∙◌, arith}
use Rattle.std.proofs.Math.Option.{some}
use Rattle.rules.specs.Numbers.{not_open, section_due, request_incomplete, frame_unexpected, Code, of_stream, of_connection}
use Rattle.rules.specs.Calls.{quiet, content_in, section_in, done, fed, Left, whole, feed, section, end, reset, pick, over, request, kind_of, Call, start, open', on, goaway, Answer, gave, left, house, code, Entry, Pair, fresh, call, run, trace}
use Rattle.std.proofs.Math.Decide.{ℕ_discrete}
use Rattle.rules.specs.Shown.{Shown, running, nothing, fedly, plus_feed, mine, if_running, unseen, view, view_from, seen, opened, ledger, ledger_from, blank, next_in, barred_in, MayOpen}
use Rattle.traces.specs.Demands.{is_legal, bad, waits, Tells, end_answer}
use Rattle.traces.specs.Progress.{Moves, awaits, faulty, moved, Takes}
use Rattle.rules.specs.Worked.{answer}
use Rattle.meaning.specs.Feeds.{headers_in}
use Rattle.meaning.specs.First.{place_of}
use Rattle.demands.specs.Streams.{stream_code, conn_code, streams}
use Rattle.demands.specs.Reading.{sections_of, verdict_by, reading}
use Rattle.demands.specs.Demands.{demand_2, end_exactly, progress, section_exactly}
use Rattle.demands.specs.Refusals.{opening_exactly}

-- ---- any server

-- what it answers to a call, and how it goes on
pub record Server : Type 1 where
  pub State : Type 0
  pub begins : State
  pub answers : State → Call streams → Answer
  pub goes_on : State → Call streams → State

module _ (S : Server) where
  unfoldable pub traced_from : S.State → List (Call streams) → List (Entry streams)
  traced_from s [] = []
  traced_from s (c ∷ cs) = record { asked = c; answer = S.answers s c } ∷ traced_from (S.goes_on s c) cs

  abbrev pub traced : List (Call streams) → List (Entry streams)
  traced cs = traced_from S.begins cs

  unfoldable pub after : S.State → List (Call streams) → S.State
  after s [] = s
  after s (c ∷ cs) = after (S.goes_on s c) cs

  -- the answer to one more call
  abbrev pub next : List (Call streams) → Call streams → Answer
  next cs c = S.answers (after S.begins cs) c

  -- WHAT IS PROMISED of request streams: openings exactly; at every moment what the definition says of the bytes and sections so far; feeds and
  -- sections answered as it says; an end answered by the verdict
  pub record Promised : Type 0 where
    pub opens : (cs : List (Call streams)) (id : ℕ) → (next cs (open' id) ≡ gave done) ↔ MayOpen (ledger (traced cs)) id
    pub tells : (cs : List (Call streams)) (id : ℕ) → kind_of id ≡ some request → Tells reading (view id (traced cs))
    pub moves : (cs : List (Call streams)) (id : ℕ) → kind_of id ≡ some request → (view id (traced cs)).fate ≡ running
        → (allow : ℕ) (piece : List ℕ) → Moves reading (view id (traced cs)).shown allow piece (next cs (on id (feed allow piece)))
    pub takes : (cs : List (Call streams)) (id : ℕ) → kind_of id ≡ some request → (view id (traced cs)).fate ≡ running
        → (block : List ℕ) → Takes reading (view id (traced cs)).shown block (next cs (on id (section block)))
    pub ends : (cs : List (Call streams)) (id : ℕ) → kind_of id ≡ some request → (view id (traced cs)).fate ≡ running
        → next cs (on id end) ≡ end_answer (reading.verdict (view id (traced cs)).shown.bytes (view id (traced cs)).shown.sections)

-- ---- OUR OWN KEEPS IT

abbrev pub ours : Server
ours = record { State = Pair streams; begins = fresh; answers = λ p c. (call c p).answer; goes_on = λ p c. (call c p).after }

pub same_trace : (p : Pair streams) (cs : List (Call streams)) → traced_from ours p cs ≡ trace p cs
unfolding traced_from trace
same_trace p [] = refl
same_trace p (c ∷ cs) = ap (λ t. record { asked = c; answer = (call c p).answer } ∷ t) (same_trace (call c p).after cs)

same_run : (p : Pair streams) (cs : List (Call streams)) → after ours p cs ≡ run p cs
unfolding after run
same_run p [] = refl
same_run p (c ∷ cs) = same_run (call c p).after cs

pub same_next : (cs : List (Call streams)) (c : Call streams) → next ours cs c ≡ (call c (run fresh cs)).answer
same_next cs c = ap (λ p. (call c p).answer) (same_run fresh cs)

pub ours_meets : Promised ours
ours_meets = record {
  opens = λ cs id. rw (same_trace fresh cs, same_next cs (open' id)) (opening_exactly id cs);
  tells = λ cs id q. rw (same_trace fresh cs) (demand_2 id q cs);
  moves = λ cs id q e allow piece. rw (same_trace fresh cs, same_next cs (on id (feed allow piece))) (progress id q cs allow piece (rw (same_trace fresh cs) at e));
  takes = λ cs id q e block. rw (same_trace fresh cs, same_next cs (on id (section block))) (section_exactly id q cs block (rw (same_trace fresh cs) at e));
  ends = λ cs id q e. rw (same_trace fresh cs, same_next cs (on id end)) (end_exactly id q cs (rw (same_trace fresh cs) at e));
}

-- ---- servers without a memory, by what they answer to a feed and to an end

abbrev simply : (to-open : Answer) (to-feed : List ℕ → Answer) (to_end : Answer) → Call streams → Answer
simply o f e start = gave done
simply o f e (open' id) = o
simply o f e (on id (feed allow piece)) = f piece
simply o f e (on id (section b)) = gave done
simply o f e (on id end) = e
simply o f e (on id reset) = left Left.freed
simply o f e (goaway id room) = gave done

abbrev simple : (to-open : Answer) (to-feed : List ℕ → Answer) (to_end : Answer) → Server
simple o f e = record { State = Unit {0}; begins = tt; answers = λ s c. simply o f e c; goes_on = λ s c. tt }

-- it takes every byte, and says nothing of it
abbrev takes_all : List ℕ → Answer
takes_all piece = gave (fed (length piece) 0 quiet)

-- ---- 1. IT REFUSES EVERYTHING

abbrev pub refuses_everything : Server
refuses_everything = record { State = Unit {0}; begins = tt; answers = λ s c. house not_open; goes_on = λ s c. tt }

may_open : MayOpen (ledger {M = streams} []) 0
unfolding ledger ledger_from blank kind_of pick ℕ_discrete next_in barred_in over
may_open = record { alive = refl; kind = request; is = refl; next = refl; low = omega arith; clear = refl; room = omega arith }

pub refuses_breaks : Promised refuses_everything → ⊥
unfolding traced_from after
refuses_breaks p = let e = (p.opens [] 0).1 may_open in let z : ◌≡◌ {A = ℕ} 0 1 = cc in omega arith

-- ---- 2. IT CALLS EVERY STREAM WHOLE

abbrev pub calls_whole : Server
calls_whole = simple (gave done) takes_all (left whole)

not_legal : (k : Code) → bad k ≡ is_legal → ⊥
not_legal k e = let z : ◌≡◌ {A = ℕ} 0 1 = cc in omega arith

-- of no bytes
empty_means : reading.verdict [] [] ≡ bad (of_stream request_incomplete)
unfolding answer verdict_by sections_of stream_code
empty_means = refl

pub whole_breaks : Promised calls_whole → ⊥
unfolding kind_of pick ℕ_discrete view view_from traced_from seen opened unseen nothing if_running mine
whole_breaks p = not_legal (of_stream request_incomplete) (sym empty_means ∙ (p.tells (open' 0 ∷ on 0 end ∷ []) 0 refl).if_whole refl)

-- ---- 3. IT CONSUMES NOTHING

abbrev pub consumes_nothing : Server
consumes_nothing = simple (gave done) (λ piece. gave (fed 0 0 quiet)) (left whole)

abbrev one_open : List (Call streams)
one_open = open' 0 ∷ []

no_move : (s : Shown streams) → Moves reading s 1 (0 ∷ []) (gave (fed 0 0 quiet)) → ⊥
no_move s (moved w n l) = let k = l (omega arith) (omega arith) in omega arith

pub nothing_breaks : Promised consumes_nothing → ⊥
unfolding kind_of pick ℕ_discrete view view_from traced_from seen opened after
nothing_breaks p = no_move _ (p.moves one_open 0 refl refl 1 (0 ∷ []))

-- ---- 4. IT SETTLES THE VERDICT IN ITS FIRST FEED and idles later: no header section came with it

abbrev pub settles_early : Server
settles_early = simple (gave done) takes_all (code (of_stream request_incomplete) 0 0)

abbrev later_data : List (Call streams)
later_data = open' 0 ∷ on 0 (feed 1 []) ∷ on 0 (feed 1 (0x00 ∷ 0x00 ∷ [])) ∷ on 0 end ∷ []

other_code : bad (of_connection frame_unexpected) ≡ bad (of_stream request_incomplete) → ⊥
other_code e = let z : ◌≡◌ {A = ℕ} 0 1 = cc in omega arith

-- of an empty DATA frame
data_means : reading.verdict (0x00 ∷ 0x00 ∷ []) [] ≡ bad (of_connection frame_unexpected)
unfolding answer verdict_by sections_of conn_code
data_means = refl

pub early_breaks : Promised settles_early → ⊥
unfolding kind_of pick ℕ_discrete view view_from traced_from seen opened unseen nothing if_running mine fedly plus_feed content_in section_in
early_breaks p = other_code (sym data_means ∙ (p.tells later_data 0 refl).if_refused (of_stream request_incomplete) refl)

-- ---- 5. IT INVENTS A HEADER COUNT

abbrev pub invents_headers : Server
invents_headers = simple (gave done) (λ piece. gave (fed (length piece) 2 quiet)) (left whole)

abbrev one_frame : List (Call streams)
one_frame = open' 0 ∷ on 0 (feed 1 (0x21 ∷ 0x00 ∷ [])) ∷ []

-- of an empty frame of unknown type
frame_heads : reading.heads (0x21 ∷ 0x00 ∷ []) [] ≡ 1
unfolding answer sections_of headers_in
frame_heads = refl

pub headers_breaks : Promised invents_headers → ⊥
unfolding kind_of pick ℕ_discrete view view_from traced_from seen opened unseen nothing if_running mine fedly plus_feed content_in section_in
headers_breaks p = let e : 2 ≡ reading.heads (0x21 ∷ 0x00 ∷ []) [] = (p.tells one_frame 0 refl).shows.heads in let f = frame_heads in omega arith

-- ---- 6. IT ANSWERS 4 TO EVERY FEED

abbrev pub always_four : Server
always_four = simple (gave done) (λ piece. house section_due) (code (of_stream request_incomplete) 0 0)

never_due : bad (of_stream request_incomplete) ≡ waits → ⊥
never_due e = let z : ◌≡◌ {A = ℕ} 0 1 = cc in omega arith

no_four : Moves reading nothing 1 (0 ∷ []) (house section_due) → ⊥
unfolding nothing
no_four (awaits w) = never_due (sym empty_means ∙ w)

pub four_breaks : Promised always_four → ⊥
unfolding kind_of pick ℕ_discrete view view_from traced_from seen opened after
four_breaks p = no_four (p.moves one_open 0 refl refl 1 (0 ∷ []))

-- ---- 7. IT JUDGES AT ONCE, as if the stream had ended with its first feed

abbrev pub judges_at_once : Server
judges_at_once = simple (gave done) (λ piece. code (of_stream request_incomplete) 0 0) (code (of_stream request_incomplete) 0 0)

-- an empty DATA frame would have another fault
not_at_once : Moves reading nothing 1 (0 ∷ []) (code (of_stream request_incomplete) 0 0) → ⊥
unfolding nothing
not_at_once (faulty w x) = other_code (sym data_means ∙ (x [] (0x00 ∷ 0x00 ∷ [])).0)

pub once_breaks : Promised judges_at_once → ⊥
unfolding kind_of pick ℕ_discrete view view_from traced_from seen opened after
once_breaks p = not_at_once (p.moves one_open 0 refl refl 1 (0 ∷ []))

-- ---- 8. IT TELLS A FAULT LATE, at the end

abbrev pub tells_late : Server
tells_late = simple (gave done) takes_all (code (of_connection frame_unexpected) 0 0)

abbrev data_and_more : List (Call streams)
data_and_more = open' 0 ∷ on 0 (feed 2 (0x00 ∷ 0x00 ∷ 0x21 ∷ [])) ∷ on 0 end ∷ []

-- the second byte brings it
data_place : reading.place (0x00 ∷ 0x00 ∷ 0x21 ∷ []) [] ≡ 2
unfolding answer place_of sections_of
data_place = refl

pub late_breaks : Promised tells_late → ⊥
unfolding kind_of pick ℕ_discrete view view_from traced_from seen opened unseen nothing if_running mine fedly plus_feed content_in section_in
late_breaks p = let e : reading.place (0x00 ∷ 0x00 ∷ 0x21 ∷ []) [] ≡ 3 = (p.tells data_and_more 0 refl).at_its_place (of_connection frame_unexpected) refl in let f = data_place in omega arith
