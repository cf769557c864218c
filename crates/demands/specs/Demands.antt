-- THE DEMANDS over traces, for the streams of document 01. Calls and answers alone are in the statements: no row and no connection record (but in
-- `follows` and `mirrored`, which compare with the pair of the definitions). A trace holds any calls on any streams, in any order, with any starts
-- among them. Assumes nothing.
use Rattle.std.specs.Prelude.{◌≡◌, refl, ℕ, List, [], ◌++◌, ◌↔◌, length}
use Rattle.std.proofs.Common.{ap, ◌∙◌}
use Rattle.std.proofs.Math.Option.{some}
use Rattle.rules.specs.Numbers.{Code}
use Rattle.rules.specs.Frames.{frames_from}
use Rattle.rules.specs.Request.{document}
use Rattle.rules.specs.Control.{Control}
use Rattle.rules.specs.Legal.{Legal}
use Rattle.rules.specs.OneWay.{one_way_read}
use Rattle.meaning.specs.Whole.{whole_iff_legal}
use Rattle.rules.specs.Calls.{Own, feed, section, end, reset, request, one_way, kind_of, Call, on, fresh, call, run, trace}
use Rattle.rules.specs.Shown.{running, ended, refused, view}
use Rattle.traces.specs.Follow.{Agrees}
use Rattle.traces.specs.Oneways.{Says, Story₁, follows₁}
use Rattle.traces.specs.Kept as K
use Rattle.traces.specs.Demands as D
use Rattle.traces.specs.Demands.{is_legal, Struck, Tells, end_answer, Settled, SameInput, SameOutput}
use Rattle.traces.specs.Progress as P
use Rattle.traces.specs.Progress.{Moves, Takes, Brings, then}
use Rattle.demands.specs.Streams.{streams}
use Rattle.demands.specs.Reading.{sections_of, reading_of, verdict_by, reading}
use Rattle.demands.specs.Reads.{reads}
use Rattle.demands.specs.LongerStreams.{first_of, stated_by, header_of, Added, is_whole, longer}
use Rattle.demands.specs.Moves.{feed_gets_on, alone, told_by, untold, steps}
use Rattle.demands.specs.OneWayReads as One
use Rattle.demands.specs.OneWayReads.{Heard, fault_by, close_answer}
use Rattle.demands.specs.ToTheEnd.{Shared, serve, EndsSo, serves_to_the_end, one_way_to_the_end}

abbrev pub Calls : Type 0
Calls = List (Call streams)

-- DEMAND 2: at every moment of every trace, what a request stream has shown (content, section bytes, frame headers) is the reading of the bytes
-- consumed and the sections accepted; a fault, or whole, is their verdict, a fault at the last of the bytes; and a stream that was not refused, one
-- that runs among them, has no fault in its bytes
pub demand_2 : (id : ℕ) → kind_of id ≡ some request → (cs : Calls) → Tells reading (view id (trace fresh cs))
demand_2 id q cs = D.demand_2 reading reads id q cs

-- AN END is answered by the verdict: whole exactly if the bytes and sections are legal
pub end_exactly : (id : ℕ) → kind_of id ≡ some request → (cs : Calls) → let v = view id (trace fresh cs) in
    v.fate ≡ running → (call (on id end) (run fresh cs)).answer ≡ end_answer (reading.verdict v.shown.bytes v.shown.sections)
end_exactly id q cs e = D.end_exactly reading reads id q cs e

-- and legal is what document 01 calls so, said apart from the reading
pub legal_exactly : (bytes : List ℕ) (blocks : List (List ℕ)) → (reading.verdict bytes blocks ≡ is_legal) ↔ Legal document (sections_of blocks) (frames_from 0 bytes)
legal_exactly bytes blocks =
    let w = whole_iff_legal document (sections_of blocks) bytes in
    (λ e. w.0 (is_whole (reading_of bytes blocks).verdict e), λ l. ap verdict_by (w.1 l) ∙ unfold verdict_by in refl)

-- THE BRIDGE: two streams, in one trace or two, that consumed the same bytes with the same sections: the same content, section bytes and
-- headers, and, once settled, the same fate
pub two_traces : (i j : ℕ) → kind_of i ≡ some request → kind_of j ≡ some request → (cs ds : Calls) → let v = view i (trace fresh cs) in let w = view j (trace fresh ds) in
    SameInput v.shown w.shown → SameOutput v.shown w.shown × (Settled v.fate → Settled w.fate → v.fate ≡ w.fate)
two_traces i j p q cs ds e = D.two_traces reading reads i j p q cs ds e

-- DEMAND 3: two streams, in one trace or two, both ended as whole, the longer beginning with all the bytes of the shorter, their header sections
-- decoding alike and stating a Content-Length: the same header section and the same content, and nothing added but what may be
pub demand_3 : (i j : ℕ) → kind_of i ≡ some request → kind_of j ≡ some request → (cs ds : Calls) (n : ℕ) (more : List ℕ)
    → let v = view i (trace fresh cs) in let w = view j (trace fresh ds) in
    v.fate ≡ ended → w.fate ≡ ended → w.shown.bytes ≡ v.shown.bytes ++ more
    → first_of v.shown.sections ≡ first_of w.shown.sections → stated_by n (first_of v.shown.sections)
    → (header_of v.shown.bytes v.shown.sections ≡ header_of w.shown.bytes w.shown.sections) × (v.shown.content ≡ w.shown.content) × Added v.shown.bytes more w.shown.sections
demand_3 i j p q cs ds n more x y e k st = D.demand_3 reading reads longer i j p q cs ds n more x y e k st

-- HALF AN UPLOAD is never whole: a stream that states n and ends as whole has shown n bytes of content
pub half_an_upload : (id : ℕ) → kind_of id ≡ some request → (cs : Calls) (n : ℕ) → let v = view id (trace fresh cs) in
    v.fate ≡ ended → stated_by n (first_of v.shown.sections) → length v.shown.content ≡ n
half_an_upload id p cs n x st = D.half_an_upload reading reads longer id p cs n x st

-- A FEED of a stream that runs is answered by 4 exactly while a section is due, and by a code only if the bytes consumed brought that fault; else
-- there is none among them; and PROGRESS: with an allowance of at least 1 and a byte, it consumed one or more
pub progress : (id : ℕ) → kind_of id ≡ some request → (cs : Calls) (allow : ℕ) (piece : List ℕ) → let v = view id (trace fresh cs) in
    v.fate ≡ running → Moves reading v.shown allow piece (call (on id (feed allow piece)) (run fresh cs)).answer
progress id q cs allow piece e = P.progress reading reads feed_gets_on id q cs allow piece e

-- A SECTION given to a stream that runs: 5 if none is due, else 6 if it is unreadable, else the code of a fault that it brings, or accepted
pub section_exactly : (id : ℕ) → kind_of id ≡ some request → (cs : Calls) (block : List ℕ) → let v = view id (trace fresh cs) in
    v.fate ≡ running → Takes reading v.shown block (call (on id (section block)) (run fresh cs)).answer
section_exactly id q cs block e = P.section_exactly reading reads id q cs block e

-- A REFUSAL OF A FEED OR A SECTION is for a fault of the bytes, which the last one consumed brings, whatever would follow it
pub of_the_bytes : (id : ℕ) → kind_of id ≡ some request → (cs : Calls) → (view id (trace fresh cs)).fate ≡ running → (o : Own streams) → Brings o → (k : Code) → let x = then id cs o in
    x.fate ≡ refused k → Struck reading k x.shown.bytes x.shown.sections
of_the_bytes id q cs e o b k f = P.of_the_bytes reading reads feed_gets_on id q cs e o b k f

-- ANY CUTTING: where one stream was refused so, every stream, in this trace or another, in whatever pieces and with whatever allowances, that consumed
-- those bytes or more with the same sections so far is refused with the same code at the same byte
pub any_cutting : (i j : ℕ) → kind_of i ≡ some request → kind_of j ≡ some request → (cs ds : Calls) (o : Own streams) (k : Code) (more : List ℕ) (others : List (List ℕ))
    → let x = then i cs o in let w = view j (trace fresh ds) in
    (view i (trace fresh cs)).fate ≡ running → Brings o → x.fate ≡ refused k → w.shown.bytes ≡ x.shown.bytes ++ more → w.shown.sections ≡ x.shown.sections ++ others
    → (w.fate ≡ refused k) × (w.shown.bytes ≡ x.shown.bytes)
any_cutting i j p q cs ds o k more others e b f g h = P.any_cutting reading reads feed_gets_on i j p q cs ds o k more others e b f g h

-- and none that consumed fewer is refused by a feed or a section: if it were, nothing would be lacking
pub not_before : (i j : ℕ) → kind_of i ≡ some request → kind_of j ≡ some request → (cs ds : Calls) (o a : Own streams) (k l : Code) (more : List ℕ) (others : List (List ℕ))
    → let x = then i cs o in let w = then j ds a in
    (view i (trace fresh cs)).fate ≡ running → Brings o → x.fate ≡ refused k → (view j (trace fresh ds)).fate ≡ running → Brings a
    → x.shown.bytes ≡ w.shown.bytes ++ more → x.shown.sections ≡ w.shown.sections ++ others → w.fate ≡ refused l → (l ≡ k) × (more ≡ [])
not_before i j p q cs ds o a k l more others e b f e' b' g h f' = P.not_before reading reads feed_gets_on i j p q cs ds o a k l more others e b f e' b' g h f'

-- A ONE-WAY STREAM came where its own bytes lead, or was refused as the second of its type
pub follows : (id : ℕ) → kind_of id ≡ some one_way → (cs : Calls) → Agrees (Says alone) (Story₁ alone) id (run fresh cs) (view id (trace fresh cs))
follows id q cs = follows₁ alone id q cs

-- WHAT IS KEPT is what the one control stream reported
pub mirrored : (cs : Calls) → K.Mirrored streams Control (λ k. k.said) (λ k. k.control) told_by (run fresh cs)
mirrored cs = K.mirrored streams Control (λ k. k.said) (λ k. k.control) told_by untold steps cs

-- ---- one-way streams, and progress to the end

-- DEMAND 2 FOR ONE-WAY STREAMS: at every moment of every trace, what a one-way stream has reported (settings, GOAWAY, MAX_PUSH_ID), the QPACK bytes
-- handed over and the headers counted are what the bytes consumed mean, and so is its fate
pub one_way_reads : (id : ℕ) → kind_of id ≡ some one_way → (cs : Calls) → Heard (view id (trace fresh cs))
one_way_reads id q cs = One.one_way_reads id q cs

-- while it runs, an end or a reset is answered as its bytes say: freed without fault, or the fault of closing
pub closes_exactly : (id : ℕ) → kind_of id ≡ some one_way → (cs : Calls) → let v = view id (trace fresh cs) in let a = close_answer (fault_by (one_way_read [] v.shown.bytes)) in
    v.fate ≡ running → ((call (on id end) (run fresh cs)).answer ≡ a) × ((call (on id reset) (run fresh cs)).answer ≡ a)
closes_exactly id q cs e = One.closes_exactly id q cs e

-- PROGRESS TO THE END: from wherever a request stream runs, a host that offers the rest with an allowance of at least 1, and a readable block
-- where one is due, whatever it calls on other streams between, has every byte consumed or meets a fault in at most as many feeds as bytes
pub to_the_end : (id : ℕ) → kind_of id ≡ some request → (cs : Calls) → (view id (trace fresh cs)).fate ≡ running → (h : Shared streams id) (rest : List ℕ)
    → EndsSo (serve streams id h (length rest) (run fresh cs) rest)
to_the_end id q cs e h rest = serves_to_the_end id q cs e h rest

-- and so of a one-way stream
pub one_way_end : (id : ℕ) → kind_of id ≡ some one_way → (cs : Calls) → (view id (trace fresh cs)).fate ≡ running → (h : Shared streams id) (rest : List ℕ)
    → EndsSo (serve streams id h (length rest) (run fresh cs) rest)
one_way_end id q cs e h rest = one_way_to_the_end id q cs e h rest
