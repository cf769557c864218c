-- WRONG SERVERS FOR ONE-WAY STREAMS: each is ours but for what it makes of a feed of one-way streams, and breaks what is promised of them at a concrete
-- input; and our own keeps it. Assumes nothing.
use Rattle.std.specs.Prelude.{◌≡◌, refl, ℕ, suc, min, List, [], ◌∷◌, length}
use Rattle.std.proofs.Common.{arith}
use Rattle.std.proofs.Math.Option.{Option, none, some}
use Rattle.rules.specs.Numbers.{closed_critical_stream, missing_settings, of_connection}
use Rattle.rules.specs.Reading.{whole, fault}
use Rattle.rules.specs.OneWay.{one_way_read}
use Rattle.rules.specs.Worked.{answer}
use Rattle.meaning.specs.OneWayFeed as O
use Rattle.meaning.specs.OneWayFirst.{verdict_on, Struck}
use Rattle.rules.specs.Calls.{quiet, fed, Fed, goes, faults, feed, section, end, reset, of_fed, map_out, one_way, kind_of, Stream, asking, telling, Pair, Call, start, open', on, goaway, gave, code, Entry, Result, alive, find, settle, fresh, call}
use Rattle.rules.specs.Shown.{Shown, running, elsewhere, view}
use Rattle.traces.specs.Oneways.{Both}
use Rattle.demands.specs.Streams.{Keeps, streams}
use Rattle.demands.specs.Becomes.{Once, as_control, type_number}
use Rattle.demands.specs.OneWayReads.{type_shown, Heard, fault_by, close_answer}
use Rattle.demands.specs.Demands.{one_way_reads, closes_exactly}
use Rattle.demands.specs.Types.{First, one_of_a_type}
use Rattle.demands.specs.Faults.{of_its_bytes, Moves₁, faulty, moved, Fares₁, one_way_progress, one_way_fares}
use Rattle.demands.specs.SecondOfType.{AtItsType, IsSecondOf, second_at_its_type}
use Rattle.demands.specs.Servers.{Server, traced_from, traced, after, next, ours, same_trace, same_next}
use Rattle.demands.specs.OneWayInstances.{opened_two, struck_at_three, two_open}

-- ---- WHAT IS PROMISED of one-way streams

-- at every moment what the definition says of the bytes so far, and no fault among them unless the stream was refused; feeds answered as they bring
-- it; an end and a reset as they say; one stream of a type, and a second refused at its type
pub record PromisedOneWay (S : Server) : Type 0 where
  pub hears : (cs : List (Call streams)) (id : ℕ) → kind_of id ≡ some one_way → Heard (view id (traced S cs))
  pub fares : (cs : List (Call streams)) (id : ℕ) → kind_of id ≡ some one_way → Fares₁ (view id (traced S cs)).fate (view id (traced S cs)).shown.bytes
  pub moves : (cs : List (Call streams)) (id : ℕ) → kind_of id ≡ some one_way → (view id (traced S cs)).fate ≡ running
      → (allow : ℕ) (piece : List ℕ) → Moves₁ (traced S cs) (view id (traced S cs)).shown allow piece (next S cs (on id (feed allow piece)))
  pub closes : (cs : List (Call streams)) (id : ℕ) → kind_of id ≡ some one_way → (view id (traced S cs)).fate ≡ running → let a = close_answer (fault_by (one_way_read [] (view id (traced S cs)).shown.bytes)) in
      (next S cs (on id end) ≡ a) × (next S cs (on id reset) ≡ a)
  pub once : (cs : List (Call streams)) (c : Once) (f g : First (traced S cs) c) → f.id ≡ g.id
  pub second : (cs : List (Call streams)) (id : ℕ) → kind_of id ≡ some one_way → (view id (traced S cs)).fate ≡ running
      → (allow ends : ℕ) (piece : List ℕ) → let bytes = (view id (traced S cs)).shown.bytes in IsSecondOf (traced S cs) bytes piece ends → AtItsType bytes ends (next S cs (on id (feed allow piece)))

-- OUR OWN KEEPS IT
pub ours_meets_one_way : PromisedOneWay ours
ours_meets_one_way = record {
  hears = λ cs id q. rw (same_trace fresh cs) (one_way_reads id q cs);
  fares = λ cs id q. rw (same_trace fresh cs) (one_way_fares id q cs);
  moves = λ cs id q e allow piece. rw (same_trace fresh cs, same_next cs (on id (feed allow piece))) (one_way_progress id q cs allow piece (rw (same_trace fresh cs) at e));
  closes = λ cs id q e. rw (same_trace fresh cs, same_next cs (on id end), same_next cs (on id reset)) (closes_exactly id q cs (rw (same_trace fresh cs) at e));
  once = λ cs. rw (same_trace fresh cs) (one_of_a_type cs);
  second = λ cs id q e allow ends piece. rw (same_trace fresh cs, same_next cs (on id (feed allow piece))) (second_at_its_type id q cs allow ends piece (rw (same_trace fresh cs) at e));
}

-- ---- ours, but for a feed of a one-way stream

abbrev pub Feeds : Type 0
Feeds = Keeps → O.OneState → (allow : ℕ) (piece : List ℕ) → Fed (Both streams)

module _ (f : Feeds) where
  unfoldable pub feeding : (id allow : ℕ) (piece : List ℕ) → Pair streams → Option (Stream streams) → Result streams
  feeding id allow piece p none = call (on id (feed allow piece)) p
  feeding id allow piece p (some (asking r)) = call (on id (feed allow piece)) p
  feeding id allow piece p (some (telling w)) = alive p.conn.dead p (settle id p (map_out (λ x. record { stream = telling x.state; kept = x.kept }) (of_fed (f p.conn.kept w allow piece))))

  unfoldable pub calling : Call streams → Pair streams → Result streams
  calling start p = call start p
  calling (open' id) p = call (open' id) p
  calling (on id (feed allow piece)) p = feeding id allow piece p (find id p.row)
  calling (on id (section b)) p = call (on id (section b)) p
  calling (on id end) p = call (on id end) p
  calling (on id reset) p = call (on id reset) p
  calling (goaway id room) p = call (goaway id room) p

  abbrev pub ours_but : Server
  ours_but = record { State = Pair streams; begins = fresh; answers = λ p c. (calling c p).answer; goes_on = λ p c. (calling c p).after }

-- to compute with: what a server shows and answers
unfoldable computed : ℕ
unfolding opened_two feeding calling traced_from after
computed = 0

-- ---- 1. IT ANSWERS 0x0104, with no byte used, to any feed of a healthy control stream

abbrev pub critical_control : Feeds
critical_control k (O.in_stream_type g) allow piece = streams.feed₁ k (O.in_stream_type g) allow piece
critical_control k (O.in_control s) allow piece = faults (of_connection closed_critical_stream) 0 0
critical_control k (O.in_qpack q) allow piece = streams.feed₁ k (O.in_qpack q) allow piece
critical_control k O.in_skipped allow piece = streams.feed₁ k O.in_skipped allow piece

-- one type byte more moves the fault of the end
control_moves : Struck [] (of_connection closed_critical_stream) (0x00 ∷ []) → ⊥
unfolding answer verdict_on
control_moves x = let e : fault (of_connection closed_critical_stream) 2 ≡ fault (of_connection closed_critical_stream) 1 = x (0x04 ∷ []) in let z : ◌≡◌ {A = ℕ} 2 1 = cc in omega arith

not_closing : (t : List (Entry streams)) (s : Shown streams) (piece : List ℕ) → s.bytes ≡ 0x00 ∷ [] → Moves₁ t s 1 piece (code (of_connection closed_critical_stream) 0 0) → ⊥
not_closing t s piece e (faulty (of_its_bytes x)) = control_moves (rw e at x)

abbrev control_typed : List (Call streams)
control_typed = open' 2 ∷ on 2 (feed 1 (0x00 ∷ [])) ∷ []

pub control_breaks : PromisedOneWay (ours_but critical_control) → ⊥
unfolding computed
control_breaks p = not_closing _ (view 2 (traced (ours_but critical_control) control_typed)).shown (0x04 ∷ []) refl (p.moves control_typed 2 refl refl 1 (0x04 ∷ []))

-- ---- 2. THE SAME of a healthy QPACK stream

abbrev pub critical_qpack : Feeds
critical_qpack k (O.in_stream_type g) allow piece = streams.feed₁ k (O.in_stream_type g) allow piece
critical_qpack k (O.in_control s) allow piece = streams.feed₁ k (O.in_control s) allow piece
critical_qpack k (O.in_qpack q) allow piece = faults (of_connection closed_critical_stream) 0 0
critical_qpack k O.in_skipped allow piece = streams.feed₁ k O.in_skipped allow piece

-- its bytes are not judged
qpack_clean : Struck [] (of_connection closed_critical_stream) (0x02 ∷ []) → ⊥
unfolding answer verdict_on
qpack_clean x = let e : whole ≡ fault (of_connection closed_critical_stream) 1 = x [] in let z : ◌≡◌ {A = ℕ} 0 1 = cc in omega arith

not_closing_qpack : (t : List (Entry streams)) (s : Shown streams) (piece : List ℕ) → s.bytes ≡ 0x02 ∷ [] → Moves₁ t s 1 piece (code (of_connection closed_critical_stream) 0 0) → ⊥
not_closing_qpack t s piece e (faulty (of_its_bytes x)) = qpack_clean (rw e at x)

abbrev encoder_typed : List (Call streams)
encoder_typed = open' 2 ∷ on 2 (feed 1 (0x02 ∷ [])) ∷ []

pub qpack_breaks : PromisedOneWay (ours_but critical_qpack) → ⊥
unfolding computed
qpack_breaks p = not_closing_qpack _ (view 2 (traced (ours_but critical_qpack) encoder_typed)).shown (0x3f ∷ []) refl (p.moves encoder_typed 2 refl refl 1 (0x3f ∷ []))

-- ---- 3. IT CONSUMES NOTHING of a one-way stream, and says that all is well

abbrev pub stands_still : Feeds
stands_still k w allow piece = goes 0 0 quiet (record { state = w; kept = k })

abbrev just_open : List (Call streams)
just_open = open' 2 ∷ []

no_move : (t : List (Entry streams)) (s : Shown streams) → Moves₁ t s 1 (0x00 ∷ []) (gave (fed 0 0 quiet)) → ⊥
no_move t s (moved n l) = let k = l (omega arith) (omega arith) in omega arith

pub still_breaks : PromisedOneWay (ours_but stands_still) → ⊥
unfolding computed
still_breaks p = no_move _ _ (p.moves just_open 2 refl refl 1 (0x00 ∷ []))

-- ---- 4. ITS FAULTS COME A BYTE LATE, where the piece has one more

unfoldable pub late_by : (most : ℕ) → Fed (Both streams) → Fed (Both streams)
late_by most (goes u h e x) = goes u h e x
late_by most (faults k u h) = faults k (min (suc u) most) h

abbrev pub a_byte_late : Feeds
a_byte_late k w allow piece = late_by (length piece) (streams.feed₁ k w allow piece)

-- an empty DATA frame where SETTINGS should be: the third byte brings the fault
third_byte : Struck [] (of_connection missing_settings) (0x00 ∷ 0x00 ∷ 0x00 ∷ 0x21 ∷ []) → ⊥
unfolding answer verdict_on
third_byte x = let e : fault (of_connection missing_settings) 3 ≡ fault (of_connection missing_settings) 4 = x [] in let z : ◌≡◌ {A = ℕ} 3 4 = cc in omega arith

not_late : (t : List (Entry streams)) (s : Shown streams) (h : ℕ) → s.bytes ≡ [] → Moves₁ t s 9 (0x00 ∷ 0x00 ∷ 0x00 ∷ 0x21 ∷ []) (code (of_connection missing_settings) 4 h) → ⊥
not_late t s h e (faulty (of_its_bytes x)) = third_byte (rw e at x)

pub late_breaks : PromisedOneWay (ours_but a_byte_late) → ⊥
unfolding computed late_by
late_breaks p = not_late _ (view 2 (traced (ours_but a_byte_late) just_open)).shown 1 refl (p.moves just_open 2 refl refl 9 (0x00 ∷ 0x00 ∷ 0x00 ∷ 0x21 ∷ []))

-- ---- 5. IT TAKES EVERY BYTE, and says that all is well

abbrev pub takes_all : Feeds
takes_all k w allow piece = goes (length piece) 0 quiet (record { state = w; kept = k })

not_well : (t : List (Entry streams)) (s : Shown streams) → s.bytes ≡ [] → Moves₁ t s 9 (0x00 ∷ 0x00 ∷ 0x00 ∷ []) (gave (fed 3 0 quiet)) → ⊥
not_well t s e (moved n l) = (rw e at n) (of_connection missing_settings) 3 struck_at_three

pub all_breaks : PromisedOneWay (ours_but takes_all) → ⊥
unfolding computed
all_breaks p = not_well _ (view 2 (traced (ours_but takes_all) just_open)).shown refl (p.moves just_open 2 refl refl 9 (0x00 ∷ 0x00 ∷ 0x00 ∷ []))

-- ---- 6. A SECOND OF ITS TYPE DIES OF ITS OWN LATER FAULT, where it has one in the piece that ends its type

unfoldable pub own_first : (own here : Fed (Both streams)) → Fed (Both streams)
own_first (goes u h e x) y = y
own_first (faults k u h) y = faults k u h

abbrev pub own_fault_first : Feeds
own_fault_first k w allow piece = own_first (streams.feed₁ streams.nothing_kept w allow piece) (streams.feed₁ k w allow piece)

not_its_own : (h : ℕ) → AtItsType [] 1 (code (of_connection missing_settings) 3 h) → ⊥
not_its_own h x = let e = x.answered in let u = x.up_to in let z : 3 ≡ x.used = cc in omega arith

-- beside a control stream that runs, one with an empty DATA frame where SETTINGS should be
pub own_fault_breaks : PromisedOneWay (ours_but own_fault_first) → ⊥
unfolding computed two_open own_first type_shown type_number elsewhere
own_fault_breaks p = not_its_own 1 (p.second two_open 6 refl refl 5 1 (0x00 ∷ 0x00 ∷ 0x00 ∷ [])
    (record { type = as_control; first = record { id = 2; is_one_way = refl; runs = refl; shows = refl }; not_yet = refl; rest = 0x00 ∷ 0x00 ∷ []; comes = refl }))
