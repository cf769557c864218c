-- Our GOAWAY: what the core writes and answers is what the trace's call does. Assumes nothing.
use Rattle.std.specs.Prelude.{◌≡◌, List, Bool}
use Rattle.std.proofs.Math.Path.{refl, ap}
use Rattle.std.proofs.Common.{sym, ◌∙◌, subst, arith, inl, inr}
use Prim.Native.Nat.{ℕ, zero, suc, ◌^◌, ◌≤◌, ◌<◌}
use Rattle.std.proofs.Math.Decide.{dec_le}
use Rattle.std.proofs.Math.Bool.{true, false}
use Rattle.std.proofs.Math.Option.{Option, none, some}
use Rattle.std.proofs.Math.ListN.{length}
use borrow.Author.Tests.{lt-ltb, le-ltb}
use Rattle.rules.specs.Numbers.{ROOM-SHORT, BAD-VALUE, room_short, bad_value, ConnectionFault, of_connection, code_number}
use Rattle.rules.specs.Integers.{written, largest}
use Rattle.rules.specs.Writer.{Write, refused, wrote, into, integer_frame, write_integer_frame, bad_goaway, write_goaway}
use Rattle.rules.specs.Calls.{done, either, pick, size_in, goaway_size, Pair, Result, goaway, gave, house, code, limited, same, with, alive, sending, call}
use Rattle.record.specs.declared.Record.{Record}
use Rattle.connection.specs.Goaway.{sent_as, sending_of, write_of}
use Rattle.connection.specs.declared.Connection.{Connection}
use Rattle.connection.specs.declared.Written.{Written}
use Rattle.connection.specs.Halves.{stream_id, doors_in, with_doors, side_in}
use Rattle.connection.specs.Turned.{gone_by}
use Rattle.connection.specs.Pair.{goaway_pair}
use Rattle.calls.specs.Promises.{SaidGoaway}
use Rattle.demands.specs.Streams.{streams}
use Rattle.meaning.specs.NumberLaws.{code_high}
use Rattle.meaning.specs.WriterLaws.{may_send}
use Rattle.demands.specs.Means.{row_of, dead_by, conn_of, pair_of, written_of}
use Rattle.demands.specs.Settles.{dead_by_lem, alive_call}
use Rattle.demands.specs.Suited.{RowSuits, suits_call}
use Rattle.demands.specs.Stands.{Coded, Stands, goaway_coded}
use Rattle.demands.specs.Writes.{EitherAbove, frame_above}

-- ---- the call

-- OUR GOAWAY IS THE TRACE'S
pub record SentSo (c : Connection) (rows : List Record) (id room : ℕ) (c' : Connection) (w : Written) : Type 0 where
  pub after : pair_of c' rows ≡ (call (goaway id room) (pair_of c rows)).after
  pub answer : w ≡ written_of id (call (goaway id room) (pair_of c rows)).answer

module _ (c : Connection) (rows : List Record) (id room : ℕ) where
  abbrev p : Pair streams
  p = pair_of c rows

  -- what the writer's answer comes to
  record Writes (w : Write) (y : Result streams) : Type 0 where
    after : pair_of (with_doors c (sending_of (doors_in c) (stream_id id) w).doors) rows ≡ y.after
    answer : record { number = (sending_of (doors_in c) (stream_id id) w).number; count = (sending_of (doors_in c) (stream_id id) w).count } ≡ written_of id y.answer

  bad_so : Writes (refused BAD-VALUE) (same (house bad_value) p)
  unfolding sending_of same written_of
  bad_so = record { after = refl; answer = refl }

  short_so : Writes (refused ROOM-SHORT) (same (house room_short) p)
  unfolding sending_of same written_of
  short_so = record { after = refl; answer = refl }

  wrote_so : (bytes : List ℕ) → length bytes ≡ goaway_size id → Writes (wrote bytes) (with (gave done) (limited id (conn_of c)) (row_of (side_in c) rows))
  unfolding sending_of with written_of limited sent_as
  wrote_so bytes l = record { after = refl; answer = ap (λ n. record { number = 0; count = n }) l }

  dead_so : (k : ConnectionFault) → Writes (refused (code_number (of_connection k))) (same (code (of_connection k) 0 0) p)
  unfolding sending_of same written_of
  dead_so k = record { after = refl; answer = refl }

  -- a frame whose ID is below 2^62 can be written
  room_so : id < 2 ^ 62 → (o : Option (List ℕ)) → integer_frame 7 (written id) ≡ o → (d : Dec (goaway_size id ≤ room))
      → Writes (into room o) (pick d (with (gave done) (limited id (conn_of c)) (row_of (side_in c) rows)) (same (house room_short) p))
  unfolding into pick goaway_size size_in largest
  room_so h none e d = by (frame_above 7 id (written id) refl e)
    where
      by : EitherAbove 7 id → Writes (into room none) (pick d (with (gave done) (limited id (conn_of c)) (row_of (side_in c) rows)) (same (house room_short) p))
      by (inl l) = absurd (omega arith)
      by (inr l) = absurd (omega arith)
  room_so h (some bytes) e (yes l) = let n : goaway_size id ≡ length bytes = ap size_in e in let x = le-ltb room (length bytes) (omega arith) in rw (x, into) (wrote_so bytes (sym n))
  room_so h (some bytes) e (no l) = let n : goaway_size id ≡ length bytes = ap size_in e in let x = lt-ltb room (length bytes) (omega arith) in rw (x, into) short_so

  live_so : Writes (write_goaway (conn_of c).limit room id) (sending id room p)
  unfolding write_goaway write_integer_frame sending either
  live_so = by (bad_goaway (conn_of c).limit id) refl
    where
      by : (b : Bool) → bad_goaway (conn_of c).limit id ≡ b → Writes (elim b [ true ↦ refused BAD-VALUE | false ↦ write_integer_frame room 7 id ])
          (either b (same (house bad_value) p) (pick (dec_le (goaway_size id) room) (with (gave done) (limited id (conn_of c)) (row_of (side_in c) rows)) (same (house room_short) p)))
      by true e = bad_so
      by false e = room_so ((may_send (conn_of c).limit id).0 e).low (integer_frame 7 (written id)) refl (dec_le (goaway_size id) room)

  writes_so : Coded c.doors.code → Writes (write_of c.doors.code (doors_in c) id room) (call (goaway id room) p)
  unfolding call write_of
  writes_so (inl e) = let q = alive_call c e p (sending id room p) in rw q (subst (λ n. Writes (write_of n (doors_in c) id room) (sending id room p)) (sym e) live_so)
  writes_so (inr (k, e)) =
      let q : alive (dead_by c.doors.code) p (sending id room p) ≡ same (code (of_connection k) 0 0) p = ap (λ x. alive x p (sending id room p)) (ap dead_by e ∙ dead_by_lem k) ∙ (unfold alive in refl) in
      rw q (subst (λ w. Writes w (same (code (of_connection k) 0 0) p)) (by (code_number (of_connection k)) (code_high (of_connection k)) ∙ ap (λ n. write_of n (doors_in c) id room) (sym e)) (dead_so k))
    where
      by : (n : ℕ) → 9 < n → refused n ≡ write_of n (doors_in c) id room
      by zero h = absurd (omega arith)
      by (suc n) h = refl

module _ {c : Connection} {rows : List Record} {id : ℕ} {room : List ℕ} {c' : Connection} {room' : List ℕ} {w : Written} (s : Stands c rows) (m : SaidGoaway c id room c' room' w) where
  pub said_traced : SentSo c rows id (length room) c' w
  said_traced =
      let x = writes_so c rows id (length room) s.coded in
      let a = m.goes.is in
      let b = m.goes.sends.answers in
      record {
        after = ap (λ y. pair_of y rows) (m.conn_left ∙ ap (λ y. with_doors c y.doors) a) ∙ ap (λ y. pair_of (with_doors c y.doors) rows) b ∙ x.after;
        answer = m.answered ∙ ap (λ y. y.written) a ∙ ap (λ y. (gone_by y).written) b ∙ x.answer;
      }

  pub said_stands : Stands c' rows
  said_stands = record {
    paired = let a = m.conn_left in rw a (goaway_pair m.goes s.paired);
    coded = let a = m.conn_left in rw a (goaway_coded m.goes s.coded);
    suits = subst (λ x. RowSuits x.row) (sym said_traced.after) (suits_call (goaway id (length room)) (pair_of c rows) s.suits);
  }
