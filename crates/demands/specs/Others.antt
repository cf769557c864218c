-- OTHER STREAMS, AND THE ORDER OF NUMBERS. No call but start touches another stream's record, and a request stream is what its own calls made of it.
-- And for an opening, a call on a stream and our GOAWAY: every answer there is, with the condition of each, read from the trace. Of an opening and of
-- our GOAWAY the conditions leave one answer only. Assumes nothing.
use Rattle.std.specs.Prelude.{◌≡◌, ℕ, ◌<◌, ◌≤◌, ◌^◌, List, [], ◌∷◌, ◌++◌, Bool}
use Rattle.std.proofs.Math.Path.{refl, ap, subst}
use Rattle.std.proofs.Common.{sym, ◌∙◌, arith, true≢false}
use Rattle.std.proofs.Math.Decide.{ℕ_discrete, dec_le, dec_lt}
use Rattle.std.proofs.Math.Bool.{true, false}
use Rattle.std.proofs.Math.Option.{Option, none, some, none-ne-some, some-injective}
use Rattle.rules.specs.Numbers.{not_open, not_next, no_record, section_due, no_section, unreadable, room_short, bad_value, request_rejected, ConnectionFault, of_stream, of_connection, Code}
use Rattle.rules.specs.Block.{lines}
use Rattle.rules.specs.OneWay.{one_way_read}
use Rattle.rules.specs.Writer.{bad_goaway}
use Rattle.meaning.specs.WriterLaws.{MaySend, may_send}
use Rattle.rules.specs.Calls.{Fed, goes, faults, Given, sound, unsound, done, freed, Own, feed, section, end, reset, Out, refuse, of_fed, of_given, map_out, Machine, act, either, of_closed, act₁, pick, Kind, request, kind_of, goaway_size, asking, held, Row, Pair, Held, Call, open', on, goaway, Answer, gave, left, house, code, Result, next_of, spend, limited, barred, find, seat, same, with, alive, first, seated, faulted, settle, fresh, call, run, trace, one_way, telling, act_on}
use Rattle.rules.specs.Calls as board
use Rattle.rules.specs.Shown.{Shown, running, View, view, Ledger, ledger, next_in, barred_in}
use Rattle.traces.specs.Row.{seat_is, seat_room, room_before}
use Rattle.traces.specs.Sound.{Sound, sound_run, sound_fresh}
use Rattle.traces.specs.Alone.{Aside, NoStart, Later, own, asked, call_on, call_on_asking}
use Rattle.traces.specs.Alone as A
use Rattle.traces.specs.Follow.{Agrees, open_still, over, agrees, not_running}
use Rattle.traces.specs.Story.{Reached, Asks, asks, Story, story, shut as shut-fate}
use Rattle.traces.specs.Oneways.{Both, Reached₁, Story₁, Says, says, story₁}
use Rattle.traces.specs.Opening.{Tallies, tallies, next_same, barred_same}
use Rattle.traces.specs.Demands.{Verdict, waits, end_answer}
use Rattle.demands.specs.Streams.{is_readable, streams}
use Rattle.demands.specs.Reading.{reading}
use Rattle.demands.specs.Reads.{reads}
use Rattle.demands.specs.Moves.{alone}
use Rattle.demands.specs.OneWayReads.{fault_by, code_for, closes_reached, close_answer}
use Rattle.demands.specs.Parts.{never_waits}
use Rattle.demands.specs.Demands.{end_exactly}
use Rattle.demands.specs.Only.{shut}

abbrev Calls : Type 0
Calls = List (Call streams)

-- ---- other streams

-- OTHERS UNTOUCHED: a call that is no start and does not name the stream leaves its record as it was
pub others_untouched : (cs : Calls) (c : Call streams) (id : ℕ) → Aside id c → find id (call c (run fresh cs)).after.row ≡ find id (run fresh cs).row
others_untouched cs c id n = A.others_untouched (run fresh cs) c id n

-- INDEPENDENCE: from an accepted opening on, as long as the connection lives and is not started again, the record of a request stream is what its
-- own calls make of a stream by itself, whatever was called on other streams between
pub independence : (id : ℕ) (before cs : Calls) → kind_of id ≡ some request → (call (open' id) (run fresh before)).answer ≡ gave done → NoStart cs
    → (ledger (trace fresh (before ++ (open' id ∷ cs)))).dead ≡ none → find id (run fresh (before ++ (open' id ∷ cs))).row ≡ asked (A.alone (some streams.new) (own id cs))
independence id before cs q e n d = A.independence id before cs q e n (sym (tallies (before ++ (open' id ∷ cs))).dead ∙ d)

-- DEAD STAYS DEAD: once a trace shows a connection fault, each call but start gives its code and leaves all as it was
pub dead_stays : (cs : Calls) (c : Call streams) (k : ConnectionFault) → Later c → (ledger (trace fresh cs)).dead ≡ some k
    → call c (run fresh cs) ≡ record { answer = code (of_connection k) 0 0; after = run fresh cs }
dead_stays cs c k l d = A.dead_stays c (run fresh cs) k l (sym (tallies cs).dead ∙ d)

-- ---- an opening

-- the next ID of its kind, below 2^62
pub record IsNext (l : Ledger) (id : ℕ) (k : Kind) : Type 0 where
  pub is : kind_of id ≡ some k
  pub next : id ≡ next_in k l
  pub low : id < 2 ^ 62

-- the code of a dead connection; 2; 0x010b; 3; accepted
pub data Opens (l : Ledger) (id : ℕ) : Answer → Type 0 where
  is_dead : {k : ConnectionFault} → l.dead ≡ some k → Opens l id (code (of_connection k) 0 0)
  another_id : l.dead ≡ none → ((k : Kind) → IsNext l id k → ⊥) → Opens l id (house not_next)
  is_barred : l.dead ≡ none → {k : Kind} → IsNext l id k → barred_in k l id ≡ true → Opens l id (code (of_stream request_rejected) 0 0)
  is_full : l.dead ≡ none → {k : Kind} → IsNext l id k → barred_in k l id ≡ false → 24 ≤ l.busy → Opens l id (house no_record)
  is_opened : l.dead ≡ none → {k : Kind} → IsNext l id k → barred_in k l id ≡ false → l.busy < 24 → Opens l id (gave done)

module _ {M : Machine} (p : Pair M) (l : Ledger) (i : Sound p) (t : Tallies p l) (id : ℕ) where
  seats : (k : Kind) → l.dead ≡ none → IsNext l id k → barred_in k l id ≡ false → (o : Option (Row M)) → seat (held id (first k)) p.row ≡ o → Opens l id (seated k p o).answer
  unfolding seated same with
  seats k d n b none q = is_full d n b (by (dec_le 24 l.busy))
    where
      by : Dec (24 ≤ l.busy) → 24 ≤ l.busy
      by (yes m) = m
      by (no m) = let r = seat_room (held id (first k)) p.row (omega (arith, m, t.busy, i.size)) in absurd (none-ne-some r.0 (sym q ∙ r.1))
  seats k d n b (some row) q = is_opened d n b (omega (arith, t.busy, i.size, room_before (seat_is (held id (first k)) p.row row q)))

  abbrev barred_or : Kind → Bool → Result M
  barred_or k b = either b (with (code (of_stream request_rejected) 0 0) (spend k p.conn) p.row) (seated k p (seat (held id (first k)) p.row))

  bars : (k : Kind) → l.dead ≡ none → IsNext l id k → (b : Bool) → barred_in k l id ≡ b → Opens l id (barred_or k b).answer
  unfolding either with
  bars k d n true b = is_barred d n b
  bars k d n false b = seats k d n b (seat (held id (first k)) p.row) refl

  not_it : (k : Kind) → kind_of id ≡ some k → l.dead ≡ none → ((IsNext l id k) → ⊥) → Opens l id (house not_next)
  not_it k e d n = another_id d (λ j w. n (subst (IsNext l id) (some-injective j k (sym w.is ∙ e)) w))

  at_kind : (o : Option Kind) → kind_of id ≡ o → l.dead ≡ none → Opens l id (board.opening id o p).answer
  unfolding board.opening same pick
  at_kind none e d = another_id d (λ k w. none-ne-some k (sym e ∙ w.is))
  at_kind (some k) e d = by (ℕ_discrete id (next_of k p.conn)) (dec_lt id (2 ^ 62))
    where
      same_next : next_of k p.conn ≡ next_in k l
      same_next = next_same k p l t

      by : (m : Dec (id ≡ next_of k p.conn)) (s : Dec (id < 2 ^ 62)) → Opens l id (pick m (pick s (barred_or k (barred k p.conn id)) (same (house not_next) p)) (same (house not_next) p)).answer
      by (yes m) (yes s) = bars k d (record { is = e; next = m ∙ same_next; low = s }) (barred k p.conn id) (sym (barred_same k p l id t))
      by (yes m) (no s) = not_it k e d (λ w. s w.low)
      by (no m) s = not_it k e d (λ w. m (w.next ∙ sym same_next))

  at_opening : Opens l id (call (open' id) p).answer
  unfolding call alive same
  at_opening = by p.conn.dead refl
    where
      by : (d : Option ConnectionFault) → p.conn.dead ≡ d → Opens l id (alive d p (board.opening id (kind_of id) p)).answer
      by none e = at_kind (kind_of id) refl (t.dead ∙ e)
      by (some k) e = is_dead (t.dead ∙ e)

-- AN OPENING, by the trace
pub opens_exactly : (cs : Calls) (id : ℕ) → Opens (ledger (trace fresh cs)) id (call (open' id) (run fresh cs)).answer
opens_exactly cs id = at_opening (run fresh cs) (ledger (trace fresh cs)) (sound_run cs fresh sound_fresh) (tallies cs) id

-- ONE ANSWER: no two of the conditions hold at once
one_kind : {l : Ledger} {id : ℕ} {j k : Kind} → IsNext l id j → IsNext l id k → j ≡ k
one_kind {j = j} {k = k} v w = some-injective j k (sym v.is ∙ w.is)

never_both : {l : Ledger} {id : ℕ} {j k : Kind} → IsNext l id j → IsNext l id k → barred_in j l id ≡ true → barred_in k l id ≡ false → ⊥
never_both {l = l} {id = id} v w b c = true≢false (sym b ∙ ap (λ k. barred_in k l id) (one_kind v w) ∙ c)

not_dead : {x : Option ConnectionFault} {k : ConnectionFault} → x ≡ none → x ≡ some k → ⊥
not_dead {k = k} d e = none-ne-some k (sym d ∙ e)

one_code : {x : Option ConnectionFault} {j k : ConnectionFault} → x ≡ some j → x ≡ some k → code (of_connection j) 0 0 ≡ code (of_connection k) 0 0
one_code {j = j} {k = k} d e = ap (λ x. code (of_connection x) 0 0) (some-injective j k (sym d ∙ e))

pub one_opening : {l : Ledger} {id : ℕ} {a b : Answer} → Opens l id a → Opens l id b → a ≡ b
one_opening (is_dead d) (is_dead e) = one_code d e
one_opening (is_dead d) (another_id e n) = absurd (not_dead e d)
one_opening (is_dead d) (is_barred e n b) = absurd (not_dead e d)
one_opening (is_dead d) (is_full e n b m) = absurd (not_dead e d)
one_opening (is_dead d) (is_opened e n b m) = absurd (not_dead e d)
one_opening (another_id d n) (is_dead e) = absurd (not_dead d e)
one_opening (another_id d n) (another_id e m) = refl
one_opening (another_id d n) (is_barred e {k = k} m b) = absurd (n k m)
one_opening (another_id d n) (is_full e {k = k} m b f) = absurd (n k m)
one_opening (another_id d n) (is_opened e {k = k} m b f) = absurd (n k m)
one_opening (is_barred d n b) (is_dead e) = absurd (not_dead d e)
one_opening (is_barred d {k = k} n b) (another_id e m) = absurd (m k n)
one_opening (is_barred d n b) (is_barred e m c) = refl
one_opening (is_barred d n b) (is_full e m c f) = absurd (never_both n m b c)
one_opening (is_barred d n b) (is_opened e m c f) = absurd (never_both n m b c)
one_opening (is_full d n b f) (is_dead e) = absurd (not_dead d e)
one_opening (is_full d {k = k} n b f) (another_id e m) = absurd (m k n)
one_opening (is_full d n b f) (is_barred e m c) = absurd (never_both m n c b)
one_opening (is_full d n b f) (is_full e m c g) = refl
one_opening (is_full d n b f) (is_opened e m c g) = absurd (omega arith)
one_opening (is_opened d n b f) (is_dead e) = absurd (not_dead d e)
one_opening (is_opened d {k = k} n b f) (another_id e m) = absurd (m k n)
one_opening (is_opened d n b f) (is_barred e m c) = absurd (never_both m n c b)
one_opening (is_opened d n b f) (is_full e m c g) = absurd (omega arith)
one_opening (is_opened d n b f) (is_opened e m c g) = refl

-- ---- our GOAWAY

-- the code of a dead connection; 8; 7; accepted
pub data Sends (l : Ledger) (id room : ℕ) : Answer → Type 0 where
  is_dead : {k : ConnectionFault} → l.dead ≡ some k → Sends l id room (code (of_connection k) 0 0)
  wrong_id : l.dead ≡ none → ¬ MaySend l.limit id → Sends l id room (house bad_value)
  too_long : l.dead ≡ none → MaySend l.limit id → room < goaway_size id → Sends l id room (house room_short)
  is_sent : l.dead ≡ none → MaySend l.limit id → goaway_size id ≤ room → Sends l id room (gave done)

module _ {M : Machine} (p : Pair M) (l : Ledger) (t : Tallies p l) (id room : ℕ) where
  sends : l.dead ≡ none → (b : Bool) → bad_goaway l.limit id ≡ b → (s : Dec (goaway_size id ≤ room))
      → Sends l id room (either b (same (house bad_value) p) (pick s (with (gave done) (limited id p.conn) p.row) (same (house room_short) p))).answer
  unfolding either pick same with
  sends d true b s = wrong_id d ((may_send l.limit id).1 b)
  sends d false b (yes s) = is_sent d ((may_send l.limit id).0 b) s
  sends d false b (no s) = too_long d ((may_send l.limit id).0 b) (omega arith)

  at_sending : Sends l id room (call (goaway id room) p).answer
  unfolding call alive same board.sending
  at_sending = by p.conn.dead refl
    where
      by : (d : Option ConnectionFault) → p.conn.dead ≡ d → Sends l id room (alive d p (board.sending id room p)).answer
      by none e = sends (t.dead ∙ e) (bad_goaway p.conn.limit id) (ap (λ x. bad_goaway x id) t.limit) (dec_le (goaway_size id) room)
      by (some k) e = is_dead (t.dead ∙ e)

-- OUR GOAWAY, by the trace
pub sends_exactly : (cs : Calls) (id room : ℕ) → Sends (ledger (trace fresh cs)) id room (call (goaway id room) (run fresh cs)).answer
sends_exactly cs id room = at_sending (run fresh cs) (ledger (trace fresh cs)) (tallies cs) id room

-- ONE ANSWER here too
pub one_sending : {l : Ledger} {id room : ℕ} {a b : Answer} → Sends l id room a → Sends l id room b → a ≡ b
one_sending (is_dead d) (is_dead e) = one_code d e
one_sending (is_dead d) (wrong_id e n) = absurd (not_dead e d)
one_sending (is_dead d) (too_long e n m) = absurd (not_dead e d)
one_sending (is_dead d) (is_sent e n m) = absurd (not_dead e d)
one_sending (wrong_id d n) (is_dead e) = absurd (not_dead d e)
one_sending (wrong_id d n) (wrong_id e m) = refl
one_sending (wrong_id d n) (too_long e m r) = absurd (n m)
one_sending (wrong_id d n) (is_sent e m r) = absurd (n m)
one_sending (too_long d n r) (is_dead e) = absurd (not_dead d e)
one_sending (too_long d n r) (wrong_id e m) = absurd (m n)
one_sending (too_long d n r) (too_long e m q) = refl
one_sending (too_long d n r) (is_sent e m q) = absurd (omega arith)
one_sending (is_sent d n r) (is_dead e) = absurd (not_dead d e)
one_sending (is_sent d n r) (wrong_id e m) = absurd (m n)
one_sending (is_sent d n r) (too_long e m q) = absurd (omega arith)
one_sending (is_sent d n r) (is_sent e m q) = refl

-- ---- a call on a request stream

abbrev pub NotHouse : Answer → Type 0
NotHouse (gave g) = Unit {0}
NotHouse (left x) = Unit {0}
NotHouse (house h) = ⊥
NotHouse (code k u h) = Unit {0}

abbrev pub verdict_in : View streams → Verdict
verdict_in v = reading.verdict v.shown.bytes v.shown.sections

-- the connection lives, and the stream runs
pub record Runs (l : Ledger) (v : View streams) : Type 0 where
  pub lives : l.dead ≡ none
  pub runs : v.fate ≡ running

-- the code of a dead connection; 1; then, with a section due (the verdict on the bytes and sections so far is that they wait) or not: feed, 4;
-- section, 5, then 6; end, by the verdict; a reset is always accepted
pub data Answers (l : Ledger) (v : View streams) : Own streams → Answer → Type 0 where
  is_dead : {o : Own streams} {k : ConnectionFault} → l.dead ≡ some k → Answers l v o (code (of_connection k) 0 0)
  is_shut : {o : Own streams} → l.dead ≡ none → (v.fate ≡ running → ⊥) → Answers l v o (house not_open)
  feed_waits : {allow : ℕ} {piece : List ℕ} → Runs l v → verdict_in v ≡ waits → Answers l v (feed allow piece) (house section_due)
  feed_reads : {allow : ℕ} {piece : List ℕ} {a : Answer} → Runs l v → (verdict_in v ≡ waits → ⊥) → NotHouse a → Answers l v (feed allow piece) a
  section_undue : {b : List ℕ} → Runs l v → (verdict_in v ≡ waits → ⊥) → Answers l v (section b) (house no_section)
  section_unread : {b : List ℕ} → Runs l v → verdict_in v ≡ waits → is_readable (lines b) ≡ false → Answers l v (section b) (house unreadable)
  section_read : {b : List ℕ} {a : Answer} → Runs l v → verdict_in v ≡ waits → is_readable (lines b) ≡ true → NotHouse a → Answers l v (section b) a
  end_judged : Runs l v → Answers l v end (end_answer (verdict_in v))
  reset_done : Runs l v → Answers l v reset (left freed)

module _ (l : Ledger) (d : l.dead ≡ none) (id : ℕ) (p : Pair streams) where
  module _ (s : Shown streams) (r : streams.Request) (t : Reached s r) where
    abbrev now : View streams
    now = record { fate = running; shown = s }

    abbrev kept_so : streams.Request → Held streams
    kept_so x = record { stream = asking x; kept = p.conn.kept }

    abbrev Then : Own streams → Out streams.Request → Type 0
    Then o x = Answers l now o (settle id p (map_out kept_so x)).answer

    here : Runs l now
    here = record { lives = d; runs = refl }

    no_wait : streams.due r ≡ false → verdict_in now ≡ waits → ⊥
    no_wait e v = never_waits (streams.finish r) (sym (reads.at_end t e) ∙ v)

    at_feed : (allow : ℕ) (piece : List ℕ) (b : Bool) → streams.due r ≡ b → (x : Fed streams.Request) → Then (feed allow piece) (either b (refuse section_due) (of_fed x))
    unfolding settle map_out either of_fed same with faulted
    at_feed allow piece true e x = feed_waits here (reads.while_due t e)
    at_feed allow piece false e (goes u h ev y) = feed_reads here (no_wait e) tt
    at_feed allow piece false e (faults (of_stream k) u h) = feed_reads here (no_wait e) tt
    at_feed allow piece false e (faults (of_connection k) u h) = feed_reads here (no_wait e) tt

    at_section : (b : List ℕ) (x : Bool) → streams.due r ≡ x → (y : Bool) → is_readable (lines b) ≡ y → (g : Given streams.Request)
        → Then (section b) (either x (either y (of_given g) (refuse unreadable)) (refuse no_section))
    unfolding settle map_out either of_given same with faulted
    at_section b true e true y (sound z) = section_read here (reads.while_due t e) y tt
    at_section b true e true y (unsound k) = section_read here (reads.while_due t e) y tt
    at_section b true e false y g = section_unread here (reads.while_due t e) y
    at_section b false e c y g = section_undue here (no_wait e)

    at_own : (call (on id end) p).answer ≡ end_answer (verdict_in now) → (o : Own streams) → call (on id o) p ≡ settle id p (map_out kept_so (act streams r o)) → Answers l now o (call (on id o) p).answer
    unfolding act
    at_own en (feed allow piece) q = rw q (at_feed allow piece (streams.due r) refl (streams.feed r allow piece))
    at_own en (section b) q = rw q (at_section b (streams.due r) refl (is_readable (lines b)) refl (streams.give r b))
    at_own en end q = rw en (end_judged here)
    at_own en reset q = rw q (unfold settle map_out with in reset_done here)

  at_stream : (v : View streams) (o : Own streams) → ((v.fate ≡ running → ⊥) → (call (on id o) p).answer ≡ house not_open)
      → (v.fate ≡ running → (call (on id end) p).answer ≡ end_answer (verdict_in v)) → Agrees Asks Story id p v → Answers l v o (call (on id o) p).answer
  at_stream v o unheld en (over {f = f} t n) = let m = not_running f (shut-fate t) in rw (unheld m) (is_shut d m)
  at_stream v o unheld en (open_still {s = s} a (asks {r = r} t) f) = at_own s r t (en refl) o (call_on_asking p id r o a f)

-- A CALL ON A REQUEST STREAM, by the trace
pub answers_exactly : (id : ℕ) → kind_of id ≡ some request → (cs : Calls) (o : Own streams)
    → Answers (ledger (trace fresh cs)) (view id (trace fresh cs)) o (call (on id o) (run fresh cs)).answer
answers_exactly id q cs o = by (ledger (trace fresh cs)).dead refl
  where
    by : (x : Option ConnectionFault) → (ledger (trace fresh cs)).dead ≡ x → Answers (ledger (trace fresh cs)) (view id (trace fresh cs)) o (call (on id o) (run fresh cs)).answer
    by none e = at_stream (ledger (trace fresh cs)) e id (run fresh cs) (view id (trace fresh cs)) o (λ n. ap (λ r. r.answer) (shut cs id o e n)) (λ r. end_exactly id q cs r) (agrees story id cs q)
    by (some k) e = let z = dead_stays cs (on id o) k tt e in rw z (is_dead e)

-- ---- a call on a one-way stream

-- the code of a dead connection; 1; a feed is never turned away; section, 5; end and reset, as the bytes say
pub data Answers₁ (l : Ledger) (v : View streams) : Own streams → Answer → Type 0 where
  is_dead : {o : Own streams} {k : ConnectionFault} → l.dead ≡ some k → Answers₁ l v o (code (of_connection k) 0 0)
  is_shut : {o : Own streams} → l.dead ≡ none → (v.fate ≡ running → ⊥) → Answers₁ l v o (house not_open)
  feed_reads : {allow : ℕ} {piece : List ℕ} {a : Answer} → Runs l v → NotHouse a → Answers₁ l v (feed allow piece) a
  section_undue : {b : List ℕ} → Runs l v → Answers₁ l v (section b) (house no_section)
  end_judged : Runs l v → Answers₁ l v end (close_answer (fault_by (one_way_read [] v.shown.bytes)))
  reset_judged : Runs l v → Answers₁ l v reset (close_answer (fault_by (one_way_read [] v.shown.bytes)))

module _ (l : Ledger) (d : l.dead ≡ none) (id : ℕ) (p : Pair streams) where
  module _ (s : Shown streams) (w : streams.Oneway) (t : Reached₁ alone s w) where
    abbrev now₁ : View streams
    now₁ = record { fate = running; shown = s }

    abbrev Then₁ : Own streams → Out (Both streams) → Type 0
    Then₁ o x = Answers₁ l now₁ o (settle id p (map_out (λ x. record { stream = telling x.state; kept = x.kept }) x)).answer

    here₁ : Runs l now₁
    here₁ = record { lives = d; runs = refl }

    fed₁ : (allow : ℕ) (piece : List ℕ) (x : Fed (Both streams)) → Then₁ (feed allow piece) (of_fed x)
    unfolding settle map_out of_fed with faulted
    fed₁ allow piece (goes u h e y) = feed_reads here₁ tt
    fed₁ allow piece (faults (of_stream k) u h) = feed_reads here₁ tt
    fed₁ allow piece (faults (of_connection k) u h) = feed_reads here₁ tt

    abbrev Closing : Option Code → Type 0
    Closing x = Answers₁ l now₁ end (close_answer x) × Answers₁ l now₁ reset (close_answer x)

    closed₁ : (x : Option ConnectionFault) → streams.close w ≡ x → Then₁ end (of_closed x) × Then₁ reset (of_closed x)
    unfolding settle map_out of_closed with faulted close_answer code_for
    closed₁ none e = subst Closing (closes_reached t ∙ ap code_for e) (end_judged here₁, reset_judged here₁)
    closed₁ (some k) e = subst Closing (closes_reached t ∙ ap code_for e) (end_judged here₁, reset_judged here₁)

    own₁ : (o : Own streams) → Then₁ o (act₁ streams p.conn.kept w o)
    unfolding act₁
    own₁ (feed allow piece) = fed₁ allow piece (streams.feed₁ p.conn.kept w allow piece)
    own₁ (section b) = unfold settle map_out same in section_undue here₁
    own₁ end = (closed₁ (streams.close w) refl).0
    own₁ reset = (closed₁ (streams.close w) refl).1

  at_stream₁ : (v : View streams) (o : Own streams) → ((v.fate ≡ running → ⊥) → (call (on id o) p).answer ≡ house not_open)
      → Agrees (Says alone) (Story₁ alone) id p v → Answers₁ l v o (call (on id o) p).answer
  unfolding act_on
  at_stream₁ v o unheld (over {f = f} t n) = let m = not_running f ((story₁ alone).shut t) in rw (unheld m) (is_shut d m)
  at_stream₁ v o unheld (open_still {s = s} a (says {w = w} t) f) = rw (call_on p id (telling w) o a f) (own₁ s w t o)

-- A CALL ON A ONE-WAY STREAM, by the trace
pub one_way_answers : (id : ℕ) → kind_of id ≡ some one_way → (cs : Calls) (o : Own streams)
    → Answers₁ (ledger (trace fresh cs)) (view id (trace fresh cs)) o (call (on id o) (run fresh cs)).answer
one_way_answers id q cs o = by (ledger (trace fresh cs)).dead refl
  where
    by : (x : Option ConnectionFault) → (ledger (trace fresh cs)).dead ≡ x → Answers₁ (ledger (trace fresh cs)) (view id (trace fresh cs)) o (call (on id o) (run fresh cs)).answer
    by none e = at_stream₁ (ledger (trace fresh cs)) e id (run fresh cs) (view id (trace fresh cs)) o (λ n. ap (λ r. r.answer) (shut cs id o e n)) (agrees (story₁ alone) id cs q)
    by (some k) e = let z = dead_stays cs (on id o) k tt e in rw z (is_dead e)
