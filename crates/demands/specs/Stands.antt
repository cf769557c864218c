-- THE INVARIANT of a connection and a row that had the same start: a pair, with no code or a connection fault's, whose streams read what fits their
-- place. Assumes nothing.
use Rattle.std.specs.Prelude.{◌≡◌, refl, ℕ, List, ◌⊎◌, length}
use Rattle.std.proofs.Common.{sym, subst, inl, inr}
use Rattle.rules.specs.Writer.{Write, refused, wrote}
use Rattle.connection.specs.declared.doors.Doors.{Doors}
use Rattle.connection.specs.declared.doors.Opening.{Opening}
use Rattle.connection.specs.OpeningWays.{Went, barred, a_request, a_one_way, went}
use Rattle.connection.specs.OpeningWays as doors
use Rattle.connection.specs.Goaway.{sending_of, write_of}
use Rattle.record.specs.declared.Record.{Record}
use Rattle.requests.specs.Reply.{state_in}
use Rattle.oneway.specs.Heard.{state_here}
use Rattle.connection.specs.declared.Call.{Call as CoreCall}
use Rattle.connection.specs.declared.Connection.{Connection}
use Rattle.connection.specs.declared.Found.{Found}
use Rattle.connection.specs.declared.Turn.{Turn}
use Rattle.connection.specs.declared.Gone.{Gone}
use Rattle.connection.specs.Halves.{stream_id, doors_in, side_in, with_side}
use Rattle.connection.specs.Faults.{with_code, code_kept_in, Fault, faulty, kept_fault, kept_none}
use Rattle.connection.specs.Turned.{free_at, request_as, one_way_as, Turned, other_row, dead, opens, not_open, request, one_way, GoesAway}
use Rattle.connection.specs.Pair.{Paired}
use Rattle.demands.specs.Means.{pair_of}
use Rattle.demands.specs.Suited.{RowSuits}

-- alive, or dead of a connection fault
abbrev pub Coded : ℕ → Type 0
Coded n = (n ≡ 0) ⊎ Fault n

pub record Stands (c : Connection) (rows : List Record) : Type 0 where
  pub paired : Paired c rows
  pub coded : Coded c.doors.code
  pub suits : RowSuits (pair_of c rows).row

-- ---- the code

kept_coded : (c : Connection) (n : ℕ) → Coded c.doors.code → Coded (code_kept_in c n).doors.code
kept_coded c n h = subst (λ x. Coded x.doors.code) (kept_by (faulty n)) (by (faulty n))
  where
    after : (Fault n ⊎ (Fault n → ⊥)) → Connection
    after (inl f) = with_code n c
    after (inr other) = c

    kept_by : (x : Fault n ⊎ (Fault n → ⊥)) → after x ≡ code_kept_in c n
    kept_by (inl f) = kept_fault c n f
    kept_by (inr other) = kept_none c n other

    by : (x : Fault n ⊎ (Fault n → ⊥)) → Coded (after x).doors.code
    by (inl f) = inr f
    by (inr other) = h

opened_code : {d : Doors} {id free : ℕ} {o : Opening} → Went d id free o → o.doors.code ≡ d.code
opened_code (doors.refused n z) = refl
opened_code (barred m e) = refl
opened_code (a_request m e l f) = refl
opened_code (a_one_way m e l f) = refl

-- EVERY CALL KEEPS IT
pub turned_coded : {c : Connection} {f : Found} {call : CoreCall} {id allow : ℕ} {piece : List ℕ} {t : Turn} → Coded c.doors.code → Turned c f call id allow piece t → Coded t.conn.doors.code
turned_coded h (other_row n q) = rw q h
turned_coded h (dead l n q) = rw q h
turned_coded {c} {f} {id = id} h (opens v e q) = rw q (subst Coded (sym (opened_code (went (doors_in c) id (free_at f.at)))) h)
turned_coded h (not_open v n s q) = rw q h
turned_coded {c} {f} {allow = allow} {piece = piece} h (request {own} v n l o q s) = rw q (kept_coded c (request_as own allow piece f.row (state_in f.row)).number h)
turned_coded {c} {f} {allow = allow} {piece = piece} h (one_way {own} v n l o q s) = let a = one_way_as own allow piece f.row (side_in c) (state_here f.row (side_in c)) in rw q (kept_coded (with_side c a.side) a.number h)

gone_coded : (d : Doors) (id : ℕ) (w : Write) → (sending_of d (stream_id id) w).doors.code ≡ d.code
unfolding sending_of
gone_coded d id (refused n) = refl
gone_coded d id (wrote bytes) = refl

pub goaway_coded : {d : Doors} {id : ℕ} {before after : List ℕ} {r : Gone} → GoesAway d id before r after → Coded d.code → Coded r.doors.code
goaway_coded {d} {id} {before} g h = rw g.is (rw g.sends.answers (subst Coded (sym (gone_coded d id (write_of d.code d id (length before)))) h))
