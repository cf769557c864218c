-- WRONG STOPS: three servers that are ours but for where a feed stops. Each breaks what is promised of stops (Stops) at a concrete input, and our own keeps it.
-- Assumes nothing.
use Rattle.std.specs.Prelude.{◌≡◌, refl, ℕ, zero, suc, ◌+◌, ◌-◌, ◌≤◌, ◌<◌, List, [], ◌∷◌, ◌++◌, length, take, drop}
use Rattle.std.proofs.Common.{sym, ◌∙◌, arith}
use Rattle.std.proofs.Math.Option.{Option, none, some}
use Rattle.rules.specs.Worked.{answer}
use Rattle.rules.specs.Reading.{Reading}
use Rattle.rules.specs.OneWay as W
use Rattle.rules.specs.Calls.{settings, notices_in, told_by, Event, quiet, section_bytes, content_bytes, notice, Fed, goes, faults, done, fed, feed, section, end, reset, request, one_way, kind_of, Pair, Call, start, open', on, goaway, Answer, gave, left, house, code, Result, fresh, call}
use Rattle.rules.specs.Shown.{running, view}
use Rattle.traces.specs.Oneways.{Both}
use Rattle.demands.specs.Streams.{notice_of, streams}
use Rattle.demands.specs.Reading.{sections_of, reading_of, reading}
use Rattle.demands.specs.OneWayReads.{notices_of, notices_by}
use Rattle.demands.specs.Servers.{Server, traced_from, traced, after, next, ours, same_trace, same_next}
use Rattle.demands.specs.Instances.{shows, just_open, block}
use Rattle.demands.specs.OneWayInstances.{opened_two}
use Rattle.demands.specs.WrongOneWays.{Feeds, feeding, calling, ours_but}
use Rattle.demands.specs.Allowed.{last_end}
use Rattle.demands.specs.Stops.{ComesInTime, AtAllowance, AtAllowance₁, OnePayload, notices_in_time, held_by_allowance, held_by_allowance₁, within_one_payload}

module _ (S : Server) where
  -- WHAT IS PROMISED of where accepted feeds stop
  pub record PromisedStops : Type 0 where
    pub in_time : (cs : List (Call streams)) (id : ℕ) → kind_of id ≡ some one_way → (view id (traced S cs)).fate ≡ running → (allow used heads : ℕ) (piece : List ℕ) (e : Event)
        → next S cs (on id (feed allow piece)) ≡ gave (fed used heads e) → ComesInTime (view id (traced S cs)).shown used piece e
    pub held : (cs : List (Call streams)) (id : ℕ) → kind_of id ≡ some request → (view id (traced S cs)).fate ≡ running → (allow used heads : ℕ) (piece : List ℕ)
        → next S cs (on id (feed allow piece)) ≡ gave (fed used heads quiet) → used < length piece → let s = (view id (traced S cs)).shown in AtAllowance allow heads (s.bytes ++ take used piece) s.sections
    pub held₁ : (cs : List (Call streams)) (id : ℕ) → kind_of id ≡ some one_way → (view id (traced S cs)).fate ≡ running → (allow used heads : ℕ) (piece : List ℕ)
        → next S cs (on id (feed allow piece)) ≡ gave (fed used heads quiet) → used < length piece → AtAllowance₁ allow heads ((view id (traced S cs)).shown.bytes ++ take used piece)
    pub one_payload : (cs : List (Call streams)) (id : ℕ) → kind_of id ≡ some request → (view id (traced S cs)).fate ≡ running → (allow used heads : ℕ) (piece : List ℕ) (e : Event)
        → next S cs (on id (feed allow piece)) ≡ gave (fed used heads e) → OnePayload (view id (traced S cs)).shown used piece e

-- ---- OUR OWN KEEPS IT

pub ours_stops : PromisedStops ours
ours_stops = record {
  in_time = λ cs id k n allow u h piece e q.
      rw (same_trace fresh cs) (notices_in_time id k cs allow u h piece e (rw (same_trace fresh cs) at n) (sym (same_next cs (on id (feed allow piece))) ∙ q));
  held = λ cs id k n allow u h piece q l.
      rw (same_trace fresh cs) (held_by_allowance id k cs allow u h piece (rw (same_trace fresh cs) at n) (sym (same_next cs (on id (feed allow piece))) ∙ q) l);
  held₁ = λ cs id k n allow u h piece q l.
      rw (same_trace fresh cs) (held_by_allowance₁ id k cs allow u h piece (rw (same_trace fresh cs) at n) (sym (same_next cs (on id (feed allow piece))) ∙ q) l);
  one_payload = λ cs id k n allow u h piece e q.
      rw (same_trace fresh cs) (within_one_payload id k cs allow u h piece e (rw (same_trace fresh cs) at n) (sym (same_next cs (on id (feed allow piece))) ∙ q));
}

-- ---- 1. A CONTROL FEED READS ON PAST ITS NOTICE, if nothing more is to be reported

abbrev joined : (used heads : ℕ) → Event → Both streams → Fed (Both streams) → Fed (Both streams)
joined u h e y (goes u' h' quiet y') = goes (u + u') (h + h') e y'
joined u h e y (goes u' h' (section_bytes from len last) y') = goes u h e y
joined u h e y (goes u' h' (content_bytes from len) y') = goes u h e y
joined u h e y (goes u' h' (notice what) y') = goes u h e y
joined u h e y (faults k u' h') = goes u h e y

abbrev read_on : (allow : ℕ) (piece : List ℕ) → Fed (Both streams) → Fed (Both streams)
read_on allow piece (goes u h e y) = joined u h e y (streams.feed₁ y.kept y.state (allow - h) (drop u piece))
read_on allow piece (faults k u h) = faults k u h

abbrev pub past_its_notice : Feeds
past_its_notice k w allow piece = read_on allow piece (streams.feed₁ k w allow piece)

-- SETTINGS, and two frames of an unknown type
abbrev settings_and_more : List ℕ
settings_and_more = 0x00 ∷ 0x04 ∷ 0x00 ∷ 0x21 ∷ 0x00 ∷ 0x21 ∷ 0x00 ∷ []

told_already : notices_by (W.one_way_read [] (take 6 settings_and_more)) ≡ settings none 0 0 ∷ []
unfolding answer notices_by notices_of notices_in notice_of told_by
told_already = refl

-- to compute with: what this server shows and answers
unfoldable computed : ℕ
unfolding opened_two feeding calling traced_from after
computed = 0

pub past_breaks : PromisedStops (ours_but past_its_notice) → ⊥
unfolding computed
past_breaks p =
    let w = p.in_time (open' 2 ∷ []) 2 refl refl 5 7 3 settings_and_more (notice (settings none 0 0)) refl in
    let e : notices_by (W.one_way_read [] (take 6 settings_and_more)) ≡ [] = w.1 in
    let d = sym told_already ∙ e in
    let z : ◌≡◌ {A = ℕ} 0 1 = cc in
    omega arith

-- ---- 2. WITH AN ALLOWANCE OF 0 IT CONSUMES NOTHING, not even what is free

abbrev starved : Call streams → Call streams
starved start = start
starved (open' id) = open' id
starved (on id (feed zero piece)) = on id (feed zero [])
starved (on id (feed (suc n) piece)) = on id (feed (suc n) piece)
starved (on id (section b)) = on id (section b)
starved (on id end) = on id end
starved (on id reset) = on id reset
starved (goaway id room) = goaway id room

abbrev pub starves : Server
starves = record { State = Pair streams; begins = fresh; answers = λ p c. (call (starved c) p).answer; goes_on = λ p c. (call (starved c) p).after }

-- behind the header of a frame of an unknown type: two payload bytes are to come
two_to_come : last_end 0 (reading_of (0x21 ∷ 0x02 ∷ []) []).said ≡ 4
unfolding answer sections_of last_end
two_to_come = refl

pub starves_payloads : PromisedStops starves → ⊥
unfolding shows just_open traced_from after
starves_payloads p =
    let w = p.held (open' 0 ∷ on 0 (feed 5 (0x21 ∷ 0x02 ∷ [])) ∷ []) 0 refl refl 0 0 0 (0x61 ∷ 0x62 ∷ []) refl (omega arith) in
    let l : last_end 0 (reading_of (0x21 ∷ 0x02 ∷ []) []).said ≤ 2 = w.payloads_come in
    let e = two_to_come in
    omega arith

no_type : (r : Reading) → W.one_way_read [] [] ≡ W.of_control r → ⊥
unfolding answer
no_type r e = let z : ◌≡◌ {A = ℕ} 0 1 = cc in omega arith

pub starves_types : PromisedStops starves → ⊥
unfolding computed
starves_types p = let w = p.held₁ (open' 2 ∷ []) 2 refl refl 0 0 0 (0x00 ∷ []) refl (omega arith) in no_type w.said w.is_control

-- ---- 3. ONE PART OVER TWO DATA FRAMES: it hands over as many bytes as both carry, the last ones used

abbrev used_in : Answer → ℕ
used_in (gave done) = 0
used_in (gave (fed u h e)) = u
used_in (left l) = 0
used_in (house n) = 0
used_in (code k u h) = 0

abbrev heads_in : Answer → ℕ
heads_in (gave done) = 0
heads_in (gave (fed u h e)) = h
heads_in (left l) = 0
heads_in (house n) = 0
heads_in (code k u h) = 0

-- content, if that is what was handed over
abbrev content_of : Answer → Option ℕ
content_of (gave done) = none
content_of (gave (fed u h quiet)) = none
content_of (gave (fed u h (section_bytes from len last))) = none
content_of (gave (fed u h (content_bytes from len))) = some len
content_of (gave (fed u h (notice what))) = none
content_of (left l) = none
content_of (house n) = none
content_of (code k u h) = none

abbrev both : (a b : Result streams) → Option ℕ → Option ℕ → Result streams
both a b none y = a
both a b (some x) none = a
both a b (some x) (some y) = let u = used_in a.answer + used_in b.answer in record { answer = gave (fed u (heads_in a.answer + heads_in b.answer) (content_bytes (u - (x + y)) (x + y))); after = b.after }

abbrev twice : (id allow : ℕ) (piece : List ℕ) → Result streams → Result streams
twice id allow piece a = let b = call (on id (feed (allow - heads_in a.answer) (drop (used_in a.answer) piece))) a.after in both a b (content_of a.answer) (content_of b.answer)

abbrev merging : Call streams → Pair streams → Result streams
merging start p = call start p
merging (open' id) p = call (open' id) p
merging (on id (feed allow piece)) p = twice id allow piece (call (on id (feed allow piece)) p)
merging (on id (section b)) p = call (on id (section b)) p
merging (on id end) p = call (on id end) p
merging (on id reset) p = call (on id reset) p
merging (goaway id room) p = call (goaway id room) p

abbrev pub merges : Server
merges = record { State = Pair streams; begins = fresh; answers = λ p c. (merging c p).answer; goes_on = λ p c. (merging c p).after }

-- the two bytes of the first frame
abbrev two_frames : List ℕ
two_frames = 0x00 ∷ 0x02 ∷ 0x00 ∷ 0x01 ∷ 0x00 ∷ 0x01 ∷ 0x63 ∷ []

first_carried : reading.carried (0x01 ∷ 0x01 ∷ 0x00 ∷ take 4 two_frames) (block ∷ []) ≡ 0x00 ∷ 0x01 ∷ []
unfolding answer sections_of shows block
first_carried = refl

pub merges_breaks : PromisedStops merges → ⊥
unfolding shows block traced_from after
merges_breaks p =
    let e : reading.carried (0x01 ∷ 0x01 ∷ 0x00 ∷ take 4 two_frames) (block ∷ []) ≡ []
    = (p.one_payload (open' 0 ∷ on 0 (feed 5 (0x01 ∷ 0x01 ∷ 0x00 ∷ [])) ∷ on 0 (section block) ∷ []) 0 refl refl 5 7 2 two_frames (content_bytes 4 3) refl).0 in
    let d = sym first_carried ∙ e in
    let z : ◌≡◌ {A = ℕ} 0 1 = cc in
    omega arith
