-- Calls and the host's memory (document 01): what a call may ask of one stream and be answered; the connection, the row of records, and every call with its numbers in order.
-- The machine of a stream is a parameter: document 01's own is demands/Streams. Assumes nothing.
use Rattle.std.specs.Prelude.{ℕ, ◌+◌, ◌%◌, ◌^◌, List, [], ◌∷◌, map, Bool, true, false, take, drop, length, replicate}
use Rattle.std.proofs.Math.Option.{Option, none, some}
use Rattle.rules.specs.Numbers.{House, section_due, no_section, unreadable, StreamFault, ConnectionFault, Code, of_stream, of_connection, not_open, not_next, no_record, room_short, bad_value, other_row, request_rejected}
use Rattle.rules.specs.Integers.{written}
use Rattle.rules.specs.Writer.{integer_frame, bad_goaway}
use Rattle.std.proofs.Math.Decide.{ℕ_discrete, dec_le, dec_lt}

-- ---- events

-- the part of a piece that begins at `from` and is `len` long
unfoldable pub part : (from len : ℕ) → List ℕ → List ℕ
part from len piece = take len (drop from piece)

-- what a one-way stream reports: a part of a QPACK stream (its type, and where the part is); settings (identifiers 6, 1 and 7); a push ID
pub data Notice : Type 0 where
  qpack_bytes : (type from len : ℕ) → Notice
  settings : (section_size : Option ℕ) (table_capacity blocked_streams : ℕ) → Notice
  client_goaway : (id : ℕ) → Notice
  max_push_id : (id : ℕ) → Notice

-- section bytes and content name a part of the piece
pub data Event : Type 0 where
  quiet : Event
  section_bytes : (from len : ℕ) (last : Bool) → Event
  content_bytes : (from len : ℕ) → Event
  notice : Notice → Event

unfoldable pub content_in : Event → List ℕ → List ℕ
content_in quiet piece = []
content_in (section_bytes from len last) piece = []
content_in (content_bytes from len) piece = part from len piece
content_in (notice what) piece = []

unfoldable pub section_in : Event → List ℕ → List ℕ
section_in quiet piece = []
section_in (section_bytes from len last) piece = part from len piece
section_in (content_bytes from len) piece = []
section_in (notice what) piece = []

-- what a notice reports of itself; a QPACK part is bytes
unfoldable pub told_by : Notice → List Notice
told_by (qpack_bytes type from len) = []
told_by (settings size capacity blocked) = settings size capacity blocked ∷ []
told_by (client_goaway id) = client_goaway id ∷ []
told_by (max_push_id id) = max_push_id id ∷ []

unfoldable pub notices_in : Event → List Notice
notices_in quiet = []
notices_in (section_bytes from len last) = []
notices_in (content_bytes from len) = []
notices_in (notice what) = told_by what

-- a QPACK stream's bytes, each with the type of its stream
unfoldable pub of_type : (type : ℕ) → List ℕ → List (ℕ × ℕ)
of_type type bytes = map (λ b. (type, b)) bytes

unfoldable pub part_by : Notice → List ℕ → List (ℕ × ℕ)
part_by (qpack_bytes type from len) piece = of_type type (part from len piece)
part_by (settings size capacity blocked) piece = []
part_by (client_goaway id) piece = []
part_by (max_push_id id) piece = []

unfoldable pub qpack_in : Event → List ℕ → List (ℕ × ℕ)
qpack_in quiet piece = []
qpack_in (section_bytes from len last) piece = []
qpack_in (content_bytes from len) piece = []
qpack_in (notice what) piece = part_by what piece

-- ---- what the machine of a stream answers, once the house numbers are out of the way

-- a feed: bytes used, headers finished, and either an event and the state after it, or a fault
pub data Fed (X : Type 0) : Type 0 where
  goes : (used heads : ℕ) → Event → X → Fed X
  faults : Code → (used heads : ℕ) → Fed X

-- a section
pub data Given (X : Type 0) : Type 0 where
  sound : X → Given X
  unsound : StreamFault → Given X

-- an end
pub data Ended : Type 0 where
  is_whole : Ended
  broken : Code → Ended

pub record Machine : Type 1 where
  pub Block : Type 0
  pub readable : Block → Bool
  -- a request stream: it knows nothing of the connection
  pub Request : Type 0
  pub new : Request
  pub due : Request → Bool
  pub feed : Request → (allow : ℕ) → (piece : List ℕ) → Fed Request
  pub give : Request → Block → Given Request
  pub finish : Request → Ended
  -- a one-way stream: it reads and alters what the connection keeps
  pub Kept : Type 0
  pub nothing_kept : Kept
  pub Oneway : Type 0
  pub untyped : Oneway
  pub feed₁ : Kept → Oneway → (allow : ℕ) → (piece : List ℕ) → Fed (record { state : Oneway; kept : Kept })
  pub close : Oneway → Option ConnectionFault

-- ---- a call on one stream, and what may come of it

pub data Own (M : Machine) : Type 0 where
  feed : (allow : ℕ) (piece : List ℕ) → Own M
  section : M.Block → Own M
  end : Own M
  reset : Own M

-- what an accepted call gives
pub data Gave : Type 0 where
  done : Gave
  fed : (used heads : ℕ) → Event → Gave

-- what a call gives that the stream does not outlive
pub data Left : Type 0 where
  whole : Left
  freed : Left

-- X is what the stream holds after an accepted call
pub data Out (X : Type 0) : Type 0 where
  refuse : House → Out X  -- nothing altered
  step : Gave → X → Out X  -- accepted
  leave : Left → Out X  -- accepted, and the record is freed
  fault : Code → (used heads : ℕ) → Out X

unfoldable pub of_fed : {X : Type 0} → Fed X → Out X
of_fed (goes used heads event x) = step (fed used heads event) x
of_fed (faults code used heads) = fault code used heads

unfoldable pub of_given : {X : Type 0} → Given X → Out X
of_given (sound x) = step done x
of_given (unsound code) = fault (of_stream code) 0 0

unfoldable pub of_ended : {X : Type 0} → Ended → Out X
of_ended is_whole = leave whole
of_ended (broken code) = fault code 0 0

unfoldable pub of_closed : {X : Type 0} → Option ConnectionFault → Out X
of_closed none = leave freed
of_closed (some code) = fault (of_connection code) 0 0

unfoldable pub map_out : {X Y : Type 0} → (X → Y) → Out X → Out Y
map_out f (refuse h) = refuse h
map_out f (step g x) = step g (f x)
map_out f (leave l) = leave l
map_out f (fault k u h) = fault k u h

unfoldable pub either : {X : Type 0} → Bool → (ifTrue ifFalse : X) → X
either true a b = a
either false a b = b

module _ (M : Machine) where
  -- 4 or 5, then 6, then the protocol
  unfoldable pub act : M.Request → Own M → Out M.Request
  act r (feed allow piece) = either (M.due r) (refuse section_due) (of_fed (M.feed r allow piece))
  act r (section block) = either (M.due r) (either (M.readable block) (of_given (M.give r block)) (refuse unreadable)) (refuse no_section)
  act r end = either (M.due r) (refuse section_due) (of_ended (M.finish r))
  act r reset = leave freed

  unfoldable pub act₁ : M.Kept → M.Oneway → Own M → Out (record { state : M.Oneway; kept : M.Kept })
  act₁ k w (feed allow piece) = of_fed (M.feed₁ k w allow piece)
  act₁ k w (section block) = refuse no_section
  act₁ k w end = of_closed (M.close w)
  act₁ k w reset = of_closed (M.close w)

unfoldable pub pick : {P X : Type 0} → Dec P → (ifSo ifNot : X) → X
pick (yes p) a b = a
pick (no n) a b = b

-- ---- IDs

pub data Kind : Type 0 where
  request one_way : Kind

-- 0, 4, 8.. are requests, 2, 6, 10.. one-way; the others are no client IDs
unfoldable pub kind_of : ℕ → Option Kind
kind_of id = pick (ℕ_discrete (id % 4) 0) (some request) (pick (ℕ_discrete (id % 4) 2) (some one_way) none)

-- ---- our GOAWAY

-- our GOAWAY bars requests from its ID upward
unfoldable pub over : Option ℕ → ℕ → Bool
over none id = false
over (some l) id = pick (dec_le l id) true false

-- how many bytes the writer makes of it
unfoldable pub size_in : Option (List ℕ) → ℕ
size_in none = 0
size_in (some bytes) = length bytes

unfoldable pub goaway_size : ℕ → ℕ
goaway_size id = size_in (integer_frame 7 (written id))

-- ---- the two records

pub data Stream (M : Machine) : Type 0 where
  asking : M.Request → Stream M
  telling : M.Oneway → Stream M

pub data Slot (M : Machine) : Type 0 where
  free : Slot M
  held : (id : ℕ) → Stream M → Slot M

abbrev pub Row : Machine → Type 0
Row M = List (Slot M)

pub record Conn (M : Machine) : Type 0 where
  pub dead : Option ConnectionFault  -- the code of a connection fault
  pub next_request : ℕ
  pub next_oneway : ℕ
  pub limit : Option ℕ  -- our last GOAWAY
  pub kept : M.Kept

pub record Pair (M : Machine) : Type 0 where
  pub conn : Conn M
  pub row : Row M

pub record Held (M : Machine) : Type 0 where
  pub stream : Stream M
  pub kept : M.Kept

-- ---- calls and answers

pub data Call (M : Machine) : Type 0 where
  start : Call M
  open' : (id : ℕ) → Call M
  on : (id : ℕ) → Own M → Call M  -- feed, section, end, reset
  goaway : (id room : ℕ) → Call M

pub data Answer : Type 0 where
  gave : Gave → Answer
  left : Left → Answer
  house : House → Answer
  code : Code → (used heads : ℕ) → Answer

pub record Result (M : Machine) : Type 0 where
  pub answer : Answer
  pub after : Pair M

module _ {M : Machine} where
  -- ---- the connection

  unfoldable pub next_of : Kind → Conn M → ℕ
  next_of request c = c.next_request
  next_of one_way c = c.next_oneway

  unfoldable pub spend : Kind → Conn M → Conn M
  spend request c = record { dead = c.dead; next_request = c.next_request + 4; next_oneway = c.next_oneway; limit = c.limit; kept = c.kept }
  spend one_way c = record { dead = c.dead; next_request = c.next_request; next_oneway = c.next_oneway + 4; limit = c.limit; kept = c.kept }

  unfoldable pub killed : ConnectionFault → Conn M → Conn M
  killed k c = record { dead = some k; next_request = c.next_request; next_oneway = c.next_oneway; limit = c.limit; kept = c.kept }

  unfoldable pub keeping : M.Kept → Conn M → Conn M
  keeping k c = record { dead = c.dead; next_request = c.next_request; next_oneway = c.next_oneway; limit = c.limit; kept = k }

  unfoldable pub limited : ℕ → Conn M → Conn M
  limited id c = record { dead = c.dead; next_request = c.next_request; next_oneway = c.next_oneway; limit = some id; kept = c.kept }

  unfoldable pub barred : Kind → Conn M → ℕ → Bool
  barred request c id = over c.limit id
  barred one_way c id = false

  -- ---- the row

  unfoldable pub find : ℕ → Row M → Option (Stream M)
  find id [] = none
  find id (free ∷ row) = find id row
  find id (held j s ∷ row) = pick (ℕ_discrete j id) (some s) (find id row)

  -- another slot for the record of an ID
  unfoldable pub put : ℕ → Slot M → Row M → Row M
  put id x [] = []
  put id x (free ∷ row) = free ∷ put id x row
  put id x (held j s ∷ row) = pick (ℕ_discrete j id) (x ∷ row) (held j s ∷ put id x row)

  -- the lowest free slot taken
  unfoldable pub behind : Slot M → Option (Row M) → Option (Row M)
  behind x none = none
  behind x (some row) = some (x ∷ row)

  unfoldable pub seat : Slot M → Row M → Option (Row M)
  seat x [] = none
  seat x (free ∷ row) = some (x ∷ row)
  seat x (held j s ∷ row) = behind (held j s) (seat x row)

  -- ---- results

  unfoldable pub same : Answer → Pair M → Result M
  same a p = record { answer = a; after = p }

  unfoldable pub with : Answer → Conn M → Row M → Result M
  with a c row = record { answer = a; after = record { conn = c; row = row } }

  -- a dead connection gives its code
  unfoldable pub alive : Option ConnectionFault → Pair M → Result M → Result M
  alive none p r = r
  alive (some k) p r = same (code (of_connection k) 0 0) p

  -- ---- start

  unfoldable pub fresh : Pair M
  fresh = record {
    conn = record { dead = none; next_request = 0; next_oneway = 2; limit = none; kept = M.nothing_kept };
    row = replicate 24 free;
  }

  -- ---- opening

  unfoldable pub first : Kind → Stream M
  first request = asking M.new
  first one_way = telling M.untyped

  unfoldable pub seated : Kind → Pair M → Option (Row M) → Result M
  seated k p none = same (house no_record) p
  seated k p (some row) = with (gave done) (spend k p.conn) row

  unfoldable pub opening : ℕ → Option Kind → Pair M → Result M
  opening id none p = same (house not_next) p
  opening id (some k) p =
      pick (ℕ_discrete id (next_of k p.conn))
      (pick (dec_lt id (2 ^ 62))
      (either (barred k p.conn id)
      (with (code (of_stream request_rejected) 0 0) (spend k p.conn) p.row)
      (seated k p (seat (held id (first k)) p.row)))
      (same (house not_next) p))
      (same (house not_next) p)

  -- ---- a call on one stream

  unfoldable pub faulted : ℕ → Pair M → Code → (used heads : ℕ) → Result M
  faulted id p (of_stream k) u h = with (code (of_stream k) u h) p.conn (put id free p.row)
  faulted id p (of_connection k) u h = with (code (of_connection k) u h) (killed k p.conn) p.row

  -- what an accepted call leaves of the stream, and of what the connection keeps
  unfoldable pub act_on : M.Kept → Stream M → Own M → Out (Held M)
  act_on k (asking r) o = map_out (λ x. record { stream = asking x; kept = k }) (act M r o)
  act_on k (telling w) o = map_out (λ x. record { stream = telling x.state; kept = x.kept }) (act₁ M k w o)

  unfoldable pub settle : ℕ → Pair M → Out (Held M) → Result M
  settle id p (refuse h) = same (house h) p
  settle id p (step g x) = with (gave g) (keeping x.kept p.conn) (put id (held id x.stream) p.row)
  settle id p (leave l) = with (left l) p.conn (put id free p.row)
  settle id p (fault k u h) = faulted id p k u h

  unfoldable pub acting : ℕ → Own M → Pair M → Option (Stream M) → Result M
  acting id o p none = same (house not_open) p
  acting id o p (some s) = settle id p (act_on p.conn.kept s o)

  -- ---- our GOAWAY: 8, then 7

  unfoldable pub sending : (id room : ℕ) → Pair M → Result M
  sending id room p =
      either (bad_goaway p.conn.limit id)
      (same (house bad_value) p)
      (pick (dec_le (goaway_size id) room) (with (gave done) (limited id p.conn) p.row) (same (house room_short) p))

  -- ---- every call

  unfoldable pub call : Call M → Pair M → Result M
  call start p = same (gave done) fresh
  call (open' id) p = alive p.conn.dead p (opening id (kind_of id) p)
  call (on id o) p = alive p.conn.dead p (acting id o p (find id p.row))
  call (goaway id room) p = alive p.conn.dead p (sending id room p)

  -- with the row as it is lent: another length than 24 comes before all else (our GOAWAY is not lent the row)
  unfoldable pub rowed : Pair M → Result M → Result M
  rowed p r = pick (ℕ_discrete (length p.row) 24) r (same (house other_row) p)

  unfoldable pub lent : Call M → Pair M → Result M
  lent start p = rowed p (call start p)
  lent (open' id) p = rowed p (call (open' id) p)
  lent (on id o) p = rowed p (call (on id o) p)
  lent (goaway id room) p = call (goaway id room) p

  -- ---- schedules and traces

  unfoldable pub run : Pair M → List (Call M) → Pair M
  run p [] = p
  run p (c ∷ cs) = run (call c p).after cs

pub record Entry (M : Machine) : Type 0 where
  pub asked : Call M
  pub answer : Answer

module _ {M : Machine} where
  unfoldable pub trace : Pair M → List (Call M) → List (Entry M)
  trace p [] = []
  trace p (c ∷ cs) = record { asked = c; answer = (call c p).answer } ∷ trace (call c p).after cs
