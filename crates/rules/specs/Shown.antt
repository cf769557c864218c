-- What a host is shown: what one stream shows of a trace, and what a trace says of the connection. Only calls and answers are looked at: no row, no connection record. Assumes nothing.
use Rattle.std.specs.Prelude.{ℕ, suc, ◌+◌, ◌*◌, ◌-◌, ◌<◌, ◌^◌, List, [], ◌∷◌, ◌++◌, take, ◌≡◌, Bool, false}
use Rattle.std.proofs.Math.Decide.{ℕ_discrete}
use Rattle.rules.specs.Numbers.{Code, of_stream, of_connection, ConnectionFault}
use Rattle.rules.specs.Calls.{Notice, Event, content_in, section_in, notices_in, qpack_in, Gave, done, fed, whole, freed, Own, feed, section, end, reset, Machine, pick, Call, start, open', on, goaway, Answer, gave, left, house, code, Entry, Kind, request, one_way, kind_of, over}
use Rattle.std.proofs.Math.Option.{Option, none, some}

-- bytes consumed, sections accepted, section bytes and content handed over, headers finished; and of a one-way stream what it reported (settings,
-- GOAWAY, MAX_PUSH_ID) and its QPACK bytes, each with the type of its stream
pub record Shown (M : Machine) : Type 0 where
  pub bytes : List ℕ
  pub sections : List M.Block
  pub blocks : List ℕ
  pub content : List ℕ
  pub heads : ℕ
  pub notices : List Notice
  pub qpack : List (ℕ × ℕ)

pub data Fate : Type 0 where
  unopened : Fate
  spent : Fate  -- its opening was refused with 0x010b
  running : Fate
  ended : Fate  -- ended, and called whole
  dropped : Fate  -- reset (or a one-way stream ended)
  refused : Code → Fate  -- a fault of its own
  lost : Fate  -- the connection died of another stream

-- the connection died by a call elsewhere
unfoldable pub struck : Fate → Fate
struck unopened = unopened
struck spent = spent
struck running = lost
struck ended = ended
struck dropped = dropped
struck (refused k) = refused k
struck lost = lost

pub record View (M : Machine) : Type 0 where
  pub fate : Fate
  pub shown : Shown M

module _ {M : Machine} where
  unfoldable pub nothing : Shown M
  nothing = record { bytes = []; sections = []; blocks = []; content = []; heads = 0; notices = []; qpack = [] }

  -- a feed: `used` bytes of the piece, and what its event names
  unfoldable pub plus_feed : (used heads : ℕ) → Event → (piece : List ℕ) → Shown M → Shown M
  plus_feed u h e piece s = record {
    bytes = s.bytes ++ take u piece;
    sections = s.sections;
    blocks = s.blocks ++ section_in e piece;
    content = s.content ++ content_in e piece;
    heads = s.heads + h;
    notices = s.notices ++ notices_in e;
    qpack = s.qpack ++ qpack_in e piece;
  }

  -- a feed that met a fault: the bytes up to and including the one that brought it
  unfoldable pub plus_bytes : (used heads : ℕ) → (piece : List ℕ) → Shown M → Shown M
  plus_bytes u h piece s = record {
    bytes = s.bytes ++ take u piece;
    sections = s.sections;
    blocks = s.blocks;
    content = s.content;
    heads = s.heads + h;
    notices = s.notices;
    qpack = s.qpack;
  }

  unfoldable pub plus_section : M.Block → Shown M → Shown M
  plus_section b s = record {
    bytes = s.bytes;
    sections = s.sections ++ (b ∷ []);
    blocks = s.blocks;
    content = s.content;
    heads = s.heads;
    notices = s.notices;
    qpack = s.qpack;
  }

  -- a call elsewhere: a connection fault ends what was running
  unfoldable pub elsewhere : Answer → View M → View M
  elsewhere (gave g) v = v
  elsewhere (left l) v = v
  elsewhere (house h) v = v
  elsewhere (code (of_stream k) u h) v = v
  elsewhere (code (of_connection k) u h) v = record { fate = struck v.fate; shown = v.shown }

  -- a call on the stream itself, while it runs
  unfoldable pub fedly : Gave → (piece : List ℕ) → Shown M → Shown M
  fedly done piece s = s
  fedly (fed u h e) piece s = plus_feed u h e piece s

  unfoldable pub mine : Own M → Answer → Shown M → View M
  mine (feed allow piece) (gave g) s = record { fate = running; shown = fedly g piece s }
  mine (feed allow piece) (left l) s = record { fate = dropped; shown = s }
  mine (feed allow piece) (house h) s = record { fate = running; shown = s }
  mine (feed allow piece) (code k u h) s = record { fate = refused k; shown = plus_bytes u h piece s }
  mine (section b) (gave g) s = record { fate = running; shown = plus_section b s }
  mine (section b) (left l) s = record { fate = dropped; shown = s }
  mine (section b) (house h) s = record { fate = running; shown = s }
  mine (section b) (code k u h) s = record { fate = refused k; shown = plus_section b s }
  mine end (gave g) s = record { fate = running; shown = s }
  mine end (left whole) s = record { fate = ended; shown = s }
  mine end (left freed) s = record { fate = dropped; shown = s }
  mine end (house h) s = record { fate = running; shown = s }
  mine end (code k u h) s = record { fate = refused k; shown = s }
  mine reset (gave g) s = record { fate = running; shown = s }
  mine reset (left l) s = record { fate = dropped; shown = s }
  mine reset (house h) s = record { fate = running; shown = s }
  mine reset (code k u h) s = record { fate = refused k; shown = s }

  -- after its fate is settled nothing counts any more
  unfoldable pub if_running : Fate → Shown M → View M → View M
  if_running unopened s w = record { fate = unopened; shown = s }
  if_running spent s w = record { fate = spent; shown = s }
  if_running running s w = w
  if_running ended s w = record { fate = ended; shown = s }
  if_running dropped s w = record { fate = dropped; shown = s }
  if_running (refused k) s w = record { fate = refused k; shown = s }
  if_running lost s w = record { fate = lost; shown = s }

  unfoldable pub opened : Answer → View M → View M
  opened (gave g) v = record { fate = running; shown = nothing }
  opened (left l) v = v
  opened (house h) v = v
  opened (code (of_stream k) u h) v = record { fate = spent; shown = nothing }
  opened (code (of_connection k) u h) v = v

  unfoldable pub unseen : View M
  unseen = record { fate = unopened; shown = nothing }

  unfoldable pub restarted : Answer → View M → View M
  restarted (gave g) v = unseen
  restarted (left l) v = v
  restarted (house h) v = v
  restarted (code k u h) v = v

  unfoldable pub seen : ℕ → Call M → Answer → View M → View M
  seen id start a v = restarted a v
  seen id (open' i) a v = pick (ℕ_discrete i id) (opened a v) (elsewhere a v)
  seen id (on i o) a v = pick (ℕ_discrete i id) (if_running v.fate v.shown (mine o a v.shown)) (elsewhere a v)
  seen id (goaway i room) a v = elsewhere a v

  -- what stream `id` shows of a trace
  unfoldable pub view_from : ℕ → View M → List (Entry M) → View M
  view_from id v [] = v
  view_from id v (e ∷ t) = view_from id (seen id e.asked e.answer v) t

  unfoldable pub view : ℕ → List (Entry M) → View M
  view id t = view_from id unseen t

pub record Ledger : Type 0 where
  pub dead : Option ConnectionFault
  pub requests : ℕ  -- request IDs opened, barred ones among them
  pub oneways : ℕ
  pub limit : Option ℕ  -- our last GOAWAY
  pub busy : ℕ  -- streams open

unfoldable pub blank : Ledger
blank = record { dead = none; requests = 0; oneways = 0; limit = none; busy = 0 }

unfoldable pub opens : Option Kind → Ledger → Ledger
opens none l = l
opens (some request) l = record { dead = l.dead; requests = suc l.requests; oneways = l.oneways; limit = l.limit; busy = l.busy }
opens (some one_way) l = record { dead = l.dead; requests = l.requests; oneways = suc l.oneways; limit = l.limit; busy = l.busy }

unfoldable pub counts : (busy : ℕ) → Ledger → Ledger
counts n l = record { dead = l.dead; requests = l.requests; oneways = l.oneways; limit = l.limit; busy = n }

unfoldable pub dies : ConnectionFault → Ledger → Ledger
dies k l = record { dead = some k; requests = l.requests; oneways = l.oneways; limit = l.limit; busy = l.busy }

unfoldable pub limits : ℕ → Ledger → Ledger
limits id l = record { dead = l.dead; requests = l.requests; oneways = l.oneways; limit = some id; busy = l.busy }

module _ {M : Machine} where
  unfoldable pub noted : Call M → Answer → Ledger → Ledger
  noted c (house h) l = l
  noted c (code (of_connection k) u h) l = dies k l
  noted start (gave g) l = blank
  noted start (left x) l = l
  noted start (code (of_stream k) u h) l = l
  noted (open' id) (gave g) l = counts (suc l.busy) (opens (kind_of id) l)
  noted (open' id) (left x) l = l
  noted (open' id) (code (of_stream k) u h) l = opens (kind_of id) l
  noted (on id o) (gave g) l = l
  noted (on id o) (left x) l = counts (l.busy - 1) l
  noted (on id o) (code (of_stream k) u h) l = counts (l.busy - 1) l
  noted (goaway id room) (gave g) l = limits id l
  noted (goaway id room) (left x) l = l
  noted (goaway id room) (code (of_stream k) u h) l = l

  unfoldable pub ledger_from : Ledger → List (Entry M) → Ledger
  ledger_from l [] = l
  ledger_from l (e ∷ t) = ledger_from (noted e.asked e.answer l) t

  unfoldable pub ledger : List (Entry M) → Ledger
  ledger t = ledger_from blank t

-- the lowest ID of a kind that is not yet opened
unfoldable pub next_in : Kind → Ledger → ℕ
next_in request l = l.requests * 4
next_in one_way l = l.oneways * 4 + 2

-- our GOAWAY bars requests only
unfoldable pub barred_in : Kind → Ledger → ℕ → Bool
barred_in request l id = over l.limit id
barred_in one_way l id = false

-- document 01's five conditions
pub record MayOpen (l : Ledger) (id : ℕ) : Type 0 where
  pub alive : l.dead ≡ none
  pub kind : Kind
  pub is : kind_of id ≡ some kind
  pub next : id ≡ next_in kind l
  pub low : id < 2 ^ 62
  pub clear : barred_in kind l id ≡ false
  pub room : l.busy < 24
