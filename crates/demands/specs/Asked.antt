-- A call on an open request: what the core answers is what the trace's stream does. Assumes nothing.
use Rattle.std.specs.Prelude.{◌≡◌, ℕ, ◌≤◌, List, true, false}
use Rattle.std.proofs.Math.Path.{refl, ap, subst}
use Rattle.std.proofs.Common.{sym, ◌∙◌, arith}
use Rattle.rules.specs.Numbers as numbers
use Rattle.rules.specs.Numbers.{House, house_number, not_open, section_due, no_section, StreamFault, request_rejected, request_cancelled, request_incomplete, message_error, ConnectionFault, Code, of_stream, of_connection, code_number, frame_error}
use Rattle.rules.specs.Block.{Lines, readable, unreadable, lines}
use Rattle.rules.specs.Reading.{Part, Verdict, whole, fault, waits, ended}
use Rattle.rules.specs.Message as message
use Rattle.rules.specs.Message.{Message}
use Rattle.rules.specs.Request as ask
use Rattle.rules.specs.Request.{document, request}
use Rattle.meaning.specs.Machine as M
use Rattle.meaning.specs.Machine.{State, Outcome}
use Rattle.meaning.specs.Feed as F
use Rattle.rules.specs.Calls as trace
use Rattle.rules.specs.Calls.{Own, Gave, done, Out, refuse, step, of_fed, of_given, of_ended, map_out, either, act, asking, held, Held, gave, keeping, act_on}
use Rattle.record.specs.declared.Record.{Record}
use Rattle.record.specs.Row.{request_record, free_record}
use Rattle.requests.specs.declared.Reply.{Reply}
use Rattle.requests.specs.Reply as reply
use Rattle.requests.specs.Reply.{Open, state_in, refused, left_by, unless_due, ended_as}
use Rattle.requests.specs.Plain.{Plain, plain_feed}
use Rattle.requests.specs.Opens.{state_back, open_plain}
use Rattle.requests.specs.Severity.{stream_frees, connection_leaves}
use Rattle.connection.specs.declared.Own.{Own as CoreOwn}
use Rattle.connection.specs.declared.Connection.{Connection}
use Rattle.connection.specs.declared.Report.{Report}
use Rattle.connection.specs.Faults.{with_code, code_kept_in, kept_small, connection_keeps, stream_keeps_none}
use Rattle.connection.specs.Turned.{by_own, told, turn, request_as, replied}
use Rattle.demands.specs.Streams.{stream_code, is_due, event_of, fed_by, is_readable, section_of, given_by, ended_by, streams}
use Rattle.demands.specs.Means.{slot_at, conn_of, own_of, reported, report_of}
use Rattle.demands.specs.Suits.{RequestSuits, Given, given_suits}
use Rattle.demands.specs.Settles.{Comes, refuses, steps, leaves, fails, kills}

-- what holds of each call and its own answer holds of any
module _ {A B : Type 0} (P : A → B → Type 0) {f g e r : A} {f' g' e' r' : B} where
  pub by_each : (own : CoreOwn) → (own ≡ CoreOwn.Feed → P f f') → P g g' → P e e' → P r r' → P (by_own own f g e r) (by_own own f' g' e' r')
  unfolding by_own
  by_each CoreOwn.Feed x y z w = x refl
  by_each CoreOwn.Give x y z w = y
  by_each CoreOwn.End x y z w = z
  by_each CoreOwn.Reset x y z w = w

-- ---- a number, and the connection that it leaves

house_low : (h : House) → house_number h ≤ 9
house_low numbers.not_open = omega arith
house_low numbers.not_next = omega arith
house_low numbers.no_record = omega arith
house_low numbers.section_due = omega arith
house_low numbers.no_section = omega arith
house_low numbers.unreadable = omega arith
house_low numbers.room_short = omega arith
house_low numbers.bad_value = omega arith
house_low numbers.other_row = omega arith

module _ (c : Connection) (q : Record) (p : Report) where
  pub code_none : (n : ℕ) → n ≡ 0 → turn (code_kept_in c n) q p ≡ turn c q p
  code_none n e = ap (λ x. turn x q p) (sym (kept_small c n (omega arith)))

  pub code_house : (h : House) → turn (code_kept_in c (house_number h)) q p ≡ turn c q p
  code_house h = ap (λ x. turn x q p) (sym (kept_small c (house_number h) (house_low h)))

  pub code_kept : (k : ConnectionFault) → turn (code_kept_in c (code_number (of_connection k))) q p ≡ turn (with_code (code_number (of_connection k)) c) q p
  code_kept k = ap (λ x. turn x q p) (connection_keeps c k)

module _ (c : Connection) (rows : List Record) (at : ℕ) (r : Record) where
  abbrev asks : State Message → Held streams
  asks x = record { stream = asking x; kept = (conn_of c).kept }

  abbrev Asked : Reply → Out (State Message) → Type 0
  Asked a o = Comes c rows at r.id r (replied c a) (map_out asks o)

  house_comes : (h : House) → Asked (refused (house_number h) r) (refuse h)
  unfolding map_out
  house_comes h = refuses (code_house c r (told (house_number h) 0 0 0 0 0 0) h)

  -- a fault
  code_comes : (k : Code) (u h : ℕ) → Asked (reply.reply (code_number k) 0 0 0 u h (left_by (code_number k) r)) (trace.fault k u h)
  unfolding map_out report_of
  code_comes (of_stream k) u h = let n = code_number (of_stream k) in let p = told n 0 0 0 u h 0 in fails (ap (λ x. turn x (left_by n r) p) (stream_keeps_none c k) ∙ ap (λ x. turn c x p) (stream_frees k r))
  code_comes (of_connection k) u h = let n = code_number (of_connection k) in let p = told n 0 0 0 u h 0 in kills (code_kept c (left_by n r) p k ∙ ap (λ x. turn (with_code n c) x p) (connection_leaves k r))

  -- a step
  step_comes : (g : Gave) (x : State Message) → Plain x → (e s l u h : ℕ) → told 0 e s l u h 0 ≡ report_of (gave g) → Asked (reply.reply 0 e s l u h (request_record r.id x)) (step g x)
  unfolding map_out keeping slot_at
  step_comes g x plain e s l u h q =
      steps c (request_record r.id x) (code_none c (request_record r.id x) (told 0 e s l u h 0) 0 refl ∙ ap (turn c (request_record r.id x)) q) (ap (λ y. held r.id (asking y)) (state_back r.id x plain)) refl (λ j n. refl)

  -- ---- a feed

  said_comes : (u h : ℕ) (e : F.Event) (o : Outcome Message) → ((x : State Message) → o ≡ M.lives x → Plain x) → Asked (reply.said_by r u h e o) (of_fed (fed_by u h e o))
  unfolding reply.said_by of_fed fed_by event_of report_of reported
  said_comes u h F.quiet (M.dies n) p = code_comes n u h
  said_comes u h (F.content_bytes len) (M.dies n) p = code_comes n u h
  said_comes u h (F.section_bytes len false) (M.dies n) p = code_comes n u h
  said_comes u h (F.section_bytes len true) (M.dies n) p = code_comes n u h
  said_comes u h (F.taken k payload) (M.dies n) p = code_comes n u h
  said_comes u h F.quiet (M.lives x) p = step_comes _ x (p x refl) _ _ _ _ _ refl
  said_comes u h (F.content_bytes len) (M.lives x) p = step_comes _ x (p x refl) _ _ _ _ _ refl
  said_comes u h (F.section_bytes len false) (M.lives x) p = step_comes _ x (p x refl) _ _ _ _ _ refl
  said_comes u h (F.section_bytes len true) (M.lives x) p = step_comes _ x (p x refl) _ _ _ _ _ refl
  said_comes u h (F.taken k payload) (M.lives x) p = step_comes _ x (p x refl) _ _ _ _ _ refl

  -- 4 or 5 comes first
  due_comes : {x y : Reply} (s : State Message) (x' y' : Out (State Message)) → ((t : Part) (m : Message) → s ≡ M.due t m → Asked x x') → Asked y y' → Asked (unless_due s x y) (either (is_due s) x' y')
  unfolding unless_due is_due either
  due_comes (M.in_type g m) x' y' a b = b
  due_comes (M.in_length t g m) x' y' a b = b
  due_comes (M.in_payload u k left m) x' y' a b = b
  due_comes (M.due t m) x' y' a b = a t m refl

  -- ---- a section

  taken_comes : (o : Outcome Message) → Given o → Asked (reply.taken_as r o) (of_given (given_by o))
  unfolding reply.taken_as of_given given_by report_of
  taken_comes (M.dies (of_stream k)) o = unfold stream_code in code_comes (of_stream k) 0 0
  taken_comes (M.dies (of_connection k)) o = absurd o
  taken_comes (M.lives x) (m, e) = step_comes done x (rw e tt) 0 0 0 0 0 refl

  read_comes : (s : State Message) → ((b : _) → Given (M.given (request document) b s)) → (l : Lines) → Asked (reply.read_as r s l) (either (is_readable l) (of_given (given_by (M.given (request document) (section_of l) s))) (refuse numbers.unreadable))
  unfolding reply.read_as is_readable section_of either
  read_comes s g (unreadable f) = house_comes numbers.unreadable
  read_comes s g (readable block) = taken_comes (M.given (request document) block s) (g block)

  -- ---- the end

  abbrev Decided : Verdict → Type 0
  Decided whole = Unit {0}
  Decided (fault code place) = Unit {0}
  Decided (waits place) = ⊥

  verdict_comes : (v : Verdict) → Decided v → Asked (reply.ended_by r v) (of_ended (ended_by v))
  unfolding reply.ended_by of_ended ended_by map_out report_of
  verdict_comes whole d = leaves (code_none c free_record (told 0 11 0 0 0 0 0) 0 refl)
  verdict_comes (fault n place) d = code_comes n 0 0
  verdict_comes (waits place) d = absurd d

  end_comes : (s : State Message) → Asked (ended_as r s) (either (is_due s) (refuse section_due) (of_ended (ended_by (M.finish (request document) 0 s))))
  unfolding is_due either M.finish ended ask.end_of_ended reply.ended_by
  end_comes (M.in_type M.fresh m) = verdict_comes (ended (ask.end_of_ended (message.ends m)) 0) (by (message.ends m))
    where
      by : (e : message.Ended) → Decided (ended (ask.end_of_ended e) 0)
      by message.all_come = tt
      by (message.lacks x) = tt
  end_comes (M.in_type (M.need k v) m) = verdict_comes (fault (of_connection frame_error) 0) tt
  end_comes (M.in_length t g m) = verdict_comes (fault (of_connection frame_error) 0) tt
  end_comes (M.in_payload u k left m) = verdict_comes (fault (of_connection frame_error) 0) tt
  end_comes (M.due t m) = house_comes section_due

  -- ---- EVERY CALL

  pub request_comes : Open r → RequestSuits (state_in r) → (own : CoreOwn) (allow : ℕ) (piece : List ℕ) → Comes c rows at r.id r (replied c (request_as own allow piece r (state_in r))) (act_on (conn_of c).kept (asking (state_in r)) (own_of own allow piece))
  unfolding act_on act map_out report_of
  request_comes o fits own allow piece =
      let s = state_in r in
      let f = F.feed (request document) allow s piece in
      by_each (λ (a : Reply) (x : Own streams). Comes c rows at r.id r (replied c a) (act_on (conn_of c).kept (asking s) x)) own
      (λ z. due_comes s (refuse section_due) (of_fed (fed_by f.used f.heads f.event f.after)) (λ t m e. house_comes section_due) (said_comes f.used f.heads f.event f.after (λ x e. (plain_feed document allow s (open_plain r o) piece).plain x e)))
      (due_comes s (either (is_readable (lines piece)) (of_given (given_by (M.given (request document) (section_of (lines piece)) s))) (refuse numbers.unreadable)) (refuse no_section) (λ t m e. read_comes s (λ b. subst (λ x. Given (M.given (request document) b x)) (sym e) (given_suits t m (subst RequestSuits e fits) b)) (lines piece)) (house_comes no_section))
      (end_comes s)
      (leaves (code_none c free_record (told 0 12 0 0 0 0 0) 0 refl))
