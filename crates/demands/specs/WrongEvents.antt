-- WRONG EVENTS: four servers that are ours but for what a feed hands over or how far it reads. Each breaks what is promised of events (Events, Allowed) at a
-- concrete input, and our own keeps it, with instances computed. Assumes nothing.
use Rattle.std.specs.Prelude.{◌≡◌, refl, ℕ, zero, suc, ◌+◌, ◌≤◌, List, [], ◌∷◌, ◌++◌, take}
use Rattle.std.proofs.Common.{sym, ◌∙◌, arith}
use Rattle.std.proofs.Math.Option.{Option, none, some}
use Rattle.rules.specs.Worked.{answer}
use Rattle.meaning.specs.OneWayFeed as O
use Rattle.rules.specs.Calls.{qpack_bytes, settings, client_goaway, max_push_id, Event, quiet, section_bytes, content_bytes, notice, done, fed, feed, section, end, reset, act₁, Kind, request, one_way, kind_of, Pair, Call, start, open', on, goaway, Answer, gave, left, house, code, fresh, call, trace}
use Rattle.rules.specs.Shown.{running, view}
use Rattle.demands.specs.Streams.{types_in, came, one_event, heard_by, type_of, streams}
use Rattle.demands.specs.Reading.{sections_of, reading_of}
use Rattle.demands.specs.Servers.{Server, traced_from, traced, after, next, ours, same_trace, same_next}
use Rattle.demands.specs.Instances.{shows, just_open, block}
use Rattle.demands.specs.Events.{RequestEvent, OneWayEvent, shown_by, request_events, one_way_events}
use Rattle.demands.specs.Allowed.{last_end, NoFurther, no_further_header}

module _ (S : Server) where
  -- WHAT IS PROMISED of the events of feeds that are accepted, and of their headers
  pub record Promised : Type 0 where
    pub of_requests : (cs : List (Call streams)) (id : ℕ) → kind_of id ≡ some request → (view id (traced S cs)).fate ≡ running → (allow used heads : ℕ) (piece : List ℕ) (e : Event)
        → next S cs (on id (feed allow piece)) ≡ gave (fed used heads e) → RequestEvent (view id (traced S cs)).shown used piece e
    pub of_one_ways : (cs : List (Call streams)) (id : ℕ) → kind_of id ≡ some one_way → (view id (traced S cs)).fate ≡ running → (allow used heads : ℕ) (piece : List ℕ) (e : Event)
        → next S cs (on id (feed allow piece)) ≡ gave (fed used heads e) → OneWayEvent (shown_by ((view id (traced S cs)).shown.bytes ++ take used piece)) piece e
    pub no_further : (cs : List (Call streams)) (id : ℕ) → kind_of id ≡ some request → (view id (traced S cs)).fate ≡ running → (allow used heads : ℕ) (piece : List ℕ) (e : Event)
        → next S cs (on id (feed allow piece)) ≡ gave (fed used heads e) → heads ≡ allow → 1 ≤ used
        → let s = (view id (traced S cs)).shown in NoFurther (s.bytes ++ take used piece) s.sections

-- ---- OUR OWN KEEPS IT

pub ours_meets : Promised ours
ours_meets = record {
  of_requests = λ cs id k n allow u h piece e q.
      rw (same_trace fresh cs) (request_events id k cs allow u h piece e (rw (same_trace fresh cs) at n) (sym (same_next cs (on id (feed allow piece))) ∙ q));
  of_one_ways = λ cs id k n allow u h piece e q.
      rw (same_trace fresh cs) (one_way_events id k cs allow u h piece e (rw (same_trace fresh cs) at n) (sym (same_next cs (on id (feed allow piece))) ∙ q));
  no_further = λ cs id k n allow u h piece e q z l.
      rw (same_trace fresh cs) (no_further_header id k cs allow u h piece e (rw (same_trace fresh cs) at n) (sym (same_next cs (on id (feed allow piece))) ∙ q) z l);
}

-- three bytes of content; the last byte of a section; and a header where one was allowed, the next not begun
pub content_handed : RequestEvent (view 0 (trace fresh (open' 0 ∷ on 0 (feed 5 (0x01 ∷ 0x01 ∷ 0x00 ∷ [])) ∷ on 0 (section block) ∷ []))).shown 5 (0x00 ∷ 0x03 ∷ 0x61 ∷ 0x62 ∷ 0x63 ∷ []) (content_bytes 2 3)
unfolding shows block
content_handed = request_events 0 refl (open' 0 ∷ on 0 (feed 5 (0x01 ∷ 0x01 ∷ 0x00 ∷ [])) ∷ on 0 (section block) ∷ []) 5 5 1 (0x00 ∷ 0x03 ∷ 0x61 ∷ 0x62 ∷ 0x63 ∷ []) (content_bytes 2 3) refl refl

pub header_held : NoFurther (0x21 ∷ 0x00 ∷ []) []
unfolding shows just_open
header_held = no_further_header 0 refl just_open 1 2 1 (0x21 ∷ 0x00 ∷ 0x21 ∷ []) quiet refl refl refl (omega arith)

-- two bytes of a QPACK encoder's stream, behind its type
abbrev one_way_open : List (Call streams)
one_way_open = open' 2 ∷ []

abbrev encoder_bytes : List ℕ
encoder_bytes = 0x02 ∷ 0x61 ∷ 0x62 ∷ []

pub qpack_handed : OneWayEvent (shown_by encoder_bytes) encoder_bytes (notice (qpack_bytes 2 1 2))
unfolding shows act₁ heard_by O.feed O.type_feed O.also O.typed_feed types_in came O.kind_feed O.qpack_feed one_event type_of
qpack_handed = one_way_events 2 refl one_way_open 0 3 0 encoder_bytes (notice (qpack_bytes 2 1 2)) refl refl

-- ---- 1 AND 2. IT SPEAKS WHERE A REQUEST STREAM HAS NOTHING TO HAND OVER: a notice of a control stream, or an empty part of content

-- another event for none
abbrev instead_of : (used : ℕ) (other : ℕ → Event) → Event → Event
instead_of u x quiet = x u
instead_of u x (section_bytes from len last) = section_bytes from len last
instead_of u x (content_bytes from len) = content_bytes from len
instead_of u x (notice n) = notice n

abbrev saying : (ℕ → Event) → Answer → Answer
saying x (gave done) = gave done
saying x (gave (fed u h e)) = gave (fed u h (instead_of u x e))
saying x (left l) = left l
saying x (house n) = house n
saying x (code k u h) = code k u h

abbrev of_kind : Option Kind → (request_says one_way_says : Answer) → Answer
of_kind none a b = b
of_kind (some request) a b = a
of_kind (some one_way) a b = b

abbrev spoken : (ℕ → Event) → Call streams → Answer → Answer
spoken x start a = a
spoken x (open' id) a = a
spoken x (on id o) a = of_kind (kind_of id) (saying x a) a
spoken x (goaway id room) a = a

abbrev speaking : (ℕ → Event) → Server
speaking x = record { State = Pair streams; begins = fresh; answers = λ p c. spoken x c (call c p).answer; goes_on = λ p c. (call c p).after }

abbrev pub tells_of_pushes : Server
tells_of_pushes = speaking (λ u. notice (max_push_id 0))

pub pushes_break : Promised tells_of_pushes → ⊥
unfolding shows just_open traced_from after
pushes_break p = p.of_requests just_open 0 refl refl 1 1 0 (0x21 ∷ []) (notice (max_push_id 0)) refl

-- (at a frame of unknown type, and at every other feed with no event)
abbrev pub hands_nothing_over : Server
hands_nothing_over = speaking (λ u. content_bytes u 0)

pub empty_breaks : Promised hands_nothing_over → ⊥
unfolding shows just_open traced_from after
empty_breaks p = let l : 1 ≤ 0 = p.of_requests just_open 0 refl refl 1 2 1 (0x21 ∷ 0x00 ∷ []) (content_bytes 2 0) refl in omega arith

-- ---- 3. IT HANDS OVER QPACK BYTES ONE AT A TIME

-- the piece up to the first byte of a QPACK part
abbrev up_to_first : Event → List ℕ → List ℕ
up_to_first quiet piece = piece
up_to_first (section_bytes from len last) piece = piece
up_to_first (content_bytes from len) piece = piece
up_to_first (notice (qpack_bytes type from len)) piece = take (suc from) piece
up_to_first (notice (settings size capacity blocked)) piece = piece
up_to_first (notice (client_goaway id)) piece = piece
up_to_first (notice (max_push_id id)) piece = piece

abbrev shortened : Answer → List ℕ → List ℕ
shortened (gave done) piece = piece
shortened (gave (fed u h e)) piece = up_to_first e piece
shortened (left l) piece = piece
shortened (house n) piece = piece
shortened (code k u h) piece = piece

abbrev shorter : Pair streams → Call streams → Call streams
shorter p start = start
shorter p (open' id) = open' id
shorter p (on id (feed allow piece)) = on id (feed allow (shortened (call (on id (feed allow piece)) p).answer piece))
shorter p (on id (section b)) = on id (section b)
shorter p (on id end) = on id end
shorter p (on id reset) = on id reset
shorter p (goaway id room) = goaway id room

abbrev pub one_at_a_time : Server
one_at_a_time = record { State = Pair streams; begins = fresh; answers = λ p c. (call (shorter p c) p).answer; goes_on = λ p c. (call (shorter p c) p).after }

pub one_breaks : Promised one_at_a_time → ⊥
unfolding shows traced_from after act₁ heard_by O.feed O.type_feed O.also O.typed_feed types_in came O.kind_feed O.qpack_feed one_event type_of
one_breaks p = let w = p.of_one_ways one_way_open 2 refl refl 0 2 0 encoder_bytes (notice (qpack_bytes 2 1 1)) refl in let e : 1 + 1 ≡ 3 = w.2 in omega arith

-- ---- 4. IT READS A BYTE OF A HEADER THAT IS NOT ALLOWED

abbrev ahead : Call streams → Call streams
ahead start = start
ahead (open' id) = open' id
ahead (on id (feed zero piece)) = on id (feed 1 (take 1 piece))
ahead (on id (feed (suc n) piece)) = on id (feed (suc n) piece)
ahead (on id (section b)) = on id (section b)
ahead (on id end) = on id end
ahead (on id reset) = on id reset
ahead (goaway id room) = goaway id room

abbrev pub reads_ahead : Server
reads_ahead = record { State = Pair streams; begins = fresh; answers = λ p c. (call (ahead c) p).answer; goes_on = λ p c. (call (ahead c) p).after }

-- no header is finished with its first byte
none_finished : last_end 0 (reading_of (0x21 ∷ []) []).said ≡ 0
unfolding answer sections_of last_end
none_finished = refl

pub ahead_breaks : Promised reads_ahead → ⊥
unfolding shows just_open traced_from after
ahead_breaks p = let l : 1 ≤ last_end 0 (reading_of (0x21 ∷ []) []).said = p.no_further just_open 0 refl refl 0 1 0 (0x21 ∷ []) quiet refl refl (omega arith) in let e = none_finished in omega arith
