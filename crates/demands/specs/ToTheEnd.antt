-- PROGRESS TO THE END of one request stream: a host that offers the rest again and again, allowing one header or more, and gives a readable block
-- where one is due, has every byte consumed or meets a fault, in at most as many feeds as there are bytes. Assumes nothing.
use Rattle.std.specs.Prelude.{◌≡◌, Bool, length, drop}
use Rattle.std.proofs.Math.Path.{refl}
use Rattle.std.proofs.Common.{sym, ◌∙◌, arith, true≢false}
use Prim.Native.Nat.{ℕ, zero, suc, ◌≤◌}
use mathlib.Core.List.{List, [], ◌∷◌}
use Rattle.std.proofs.Math.Bool.{true, false}
use Rattle.std.proofs.Math.Option.{Option, none, some}
use Rattle.rules.specs.Numbers.{House, no_section, unreadable, section_due, ConnectionFault, Code, of_stream, of_connection}
use Rattle.rules.specs.Block.{lines, lines_from}
use Rattle.rules.specs.Reading.{Next, stop, go}
use Rattle.rules.specs.Message.{Message}
use Rattle.rules.specs.Request.{document, request}
use Rattle.meaning.specs.Machine as M
use Rattle.meaning.specs.OneWayFeed as O
use Rattle.meaning.specs.OneWays.{ReadsOnOne}
use Rattle.meaning.proofs.OneWays.{one_moves}
use Rattle.rules.specs.Calls.{Event, Fed, goes, faults, Given, sound, unsound, feed, section, Gave, done, fed, Left, Out, refuse, step, leave, fault, of_fed, of_given, map_out, Machine, act, act₁, either, request as a_request, one_way, kind_of, Stream, asking, telling, Pair, Held, Call, start, open', on, goaway, Answer, gave, left, house, code, keeping, find, same, with, faulted, settle, act_on, fresh, call, run, trace}
use Rattle.rules.specs.Shown.{Shown, View, running, plus_feed, view}
use Rattle.traces.specs.Row.{find_put_same}
use Rattle.traces.specs.Went.{Alive}
use Rattle.traces.specs.Alone.{Aside, Later, call_on, others_untouched, dead_stays}
use Rattle.traces.specs.Story.{Asks, asks, Story, story, shut}
use Rattle.traces.specs.Follow.{Agrees, open_still, over, agrees, not_running}
use Rattle.traces.specs.Oneways.{Both, Like, goes_alike, faults_alike, second, Reached₁, by_feed, Story₁, Says, says, story₁, follows₁}
use Rattle.demands.specs.Streams.{is_due, is_readable, section_of, given_by, Keeps, types_in, heard_by, streams}
use Rattle.demands.specs.Moves.{feed_gets_on, alone_of, like, alone}
use Rattle.demands.specs.OneWayReads.{reads_on}

-- ---- any machine whose feeds get on, and that waits no more once a section is accepted

drop_le : (k : ℕ) (xs : List ℕ) → length (drop k xs) ≤ length xs
drop_le zero xs = omega arith
drop_le (suc k) [] = omega arith
drop_le (suc k) (x ∷ xs) = let i = drop_le k xs in omega arith

pub drop_less : (u b : ℕ) (bs : List ℕ) → 1 ≤ u → length (drop u (b ∷ bs)) ≤ length bs
drop_less zero b bs l = absurd (omega arith)
drop_less (suc u) b bs l = drop_le u bs

-- what a host does where n feeds are left behind this one: what it allows, and the block that it gives if one is due
pub record Host (M : Machine) : Type 0 where
  pub allows : ℕ → ℕ
  pub block : ℕ → M.Block
  pub one_or_more : (n : ℕ) → 1 ≤ allows n
  pub is_readable_lem : (n : ℕ) → M.readable (block n) ≡ true

pub data Came (M : Machine) : Type 0 where
  consumed : M.Request → Came M  -- every byte
  met : Code → Came M
  turned_away : House → Came M
  gone : Left → Came M
  out_of_feeds : (rest : List ℕ) → Came M

unfoldable pub used_by : Gave → ℕ
used_by done = 0
used_by (fed u h e) = u

module _ (M : Machine) where
  -- a call, and what the host does behind it
  unfoldable pub behind : Out M.Request → (Gave → M.Request → Came M) → Came M
  behind (refuse x) f = turned_away x
  behind (step g r) f = f g r
  behind (leave l) f = gone l
  behind (fault k u h) f = met k

  -- a block where one is due
  unfoldable pub ready : Host M → (n : ℕ) → M.Request → Out M.Request
  ready h n r = either (M.due r) (act M r (section (h.block n))) (step done r)

  unfoldable pub if_any : List ℕ → (none more : Came M) → Came M
  if_any [] x y = x
  if_any (b ∷ bs) x y = y

  -- THE HOST: with so many feeds, from this stream on, with this rest
  unfoldable pub drive : Host M → (feeds : ℕ) → M.Request → (rest : List ℕ) → Came M
  drive h zero r rest = if_any rest (consumed r) (out_of_feeds rest)
  drive h (suc n) r rest =
      if_any rest (consumed r) (behind (ready h n r) (λ g r'. behind (act M r' (feed (h.allows n) rest)) (λ g' r''. drive h n r'' (drop (used_by g') rest))))

  -- every byte is consumed, or a fault is met
  abbrev pub Ends : Came M → Type 0
  Ends (consumed r) = Unit {0}
  Ends (met k) = Unit {0}
  Ends (turned_away h) = ⊥
  Ends (gone l) = ⊥
  Ends (out_of_feeds rest) = ⊥

  module _ (gets_on : (r r' : M.Request) (allow u h b : ℕ) (bs : List ℕ) (e : Event) → M.due r ≡ false → 1 ≤ allow → M.feed r allow (b ∷ bs) ≡ goes u h e r' → 1 ≤ u)
      (goes_on : (r r' : M.Request) (block : M.Block) → M.give r block ≡ sound r' → M.due r ≡ true → M.due r' ≡ false) where
    abbrev Ready : Out M.Request → Type 0
    Ready (refuse x) = ⊥
    Ready (step g r) = M.due r ≡ false
    Ready (leave l) = ⊥
    Ready (fault k u h) = Unit {0}

    given_ready : (r : M.Request) (block : M.Block) (d : Bool) → M.due r ≡ d → (c : Bool) → c ≡ true → (x : Given M.Request) → M.give r block ≡ x
        → Ready (either d (either d (either c (of_given x) (refuse unreadable)) (refuse no_section)) (step done r))
    unfolding either of_given
    given_ready r block true e true y (sound r') q = goes_on r r' block q e
    given_ready r block true e true y (unsound k) q = tt
    given_ready r block true e false y x q = absurd (true≢false (sym y))
    given_ready r block false e c y x q = e

    is_ready : (h : Host M) (n : ℕ) (r : M.Request) → Ready (ready h n r)
    unfolding ready act
    is_ready h n r = given_ready r (h.block n) (M.due r) refl (M.readable (h.block n)) (h.is_readable_lem n) (M.give r (h.block n)) refl

    ends_given : (x : Out M.Request) (f : Gave → M.Request → Came M) → Ready x → ((g : Gave) (r : M.Request) → M.due r ≡ false → Ends (f g r)) → Ends (behind x f)
    unfolding behind
    ends_given (refuse x) f w k = absurd w
    ends_given (step g r) f w k = k g r w
    ends_given (leave l) f w k = absurd w
    ends_given (fault c u h) f w k = tt

    ends_fed : (r : M.Request) (allow b : ℕ) (bs : List ℕ) (f : Gave → M.Request → Came M) → 1 ≤ allow → (d : Bool) → M.due r ≡ d → d ≡ false → (x : Fed M.Request) → M.feed r allow (b ∷ bs) ≡ x
        → ((g : Gave) (r' : M.Request) → 1 ≤ used_by g → Ends (f g r')) → Ends (behind (either d (refuse section_due) (of_fed x)) f)
    unfolding behind either of_fed used_by
    ends_fed r allow b bs f l true e y x q k = absurd (true≢false y)
    ends_fed r allow b bs f l false e y (goes u h ev r') q k = k (fed u h ev) r' (gets_on r r' allow u h b bs ev e l q)
    ends_fed r allow b bs f l false e y (faults c u h) q k = tt

    ends_feed : (r : M.Request) (allow b : ℕ) (bs : List ℕ) (f : Gave → M.Request → Came M) → 1 ≤ allow → M.due r ≡ false
        → ((g : Gave) (r' : M.Request) → 1 ≤ used_by g → Ends (f g r')) → Ends (behind (act M r (feed allow (b ∷ bs))) f)
    unfolding act
    ends_feed r allow b bs f l d k = ends_fed r allow b bs f l (M.due r) refl d (M.feed r allow (b ∷ bs)) refl k

    ends : (h : Host M) (n : ℕ) (r : M.Request) (rest : List ℕ) → length rest ≤ n → Ends (drive h n r rest)
    unfolding drive if_any
    ends h zero r [] l = tt
    ends h (suc n) r [] l = tt
    ends h zero r (b ∷ bs) l = absurd (omega arith)
    ends h (suc n) r (b ∷ bs) l = ends_given (ready h n r) _ (is_ready h n r) (λ g r' w. ends_feed r' (h.allows n) b bs _ (h.one_or_more n) w
        (λ g' r'' m. let s = drop_less (used_by g') b bs m in ends h n r'' (drop (used_by g') (b ∷ bs)) (omega arith)))

    pub to_the_end : (h : Host M) (r : M.Request) (rest : List ℕ) → Ends (drive h (length rest) r rest)
    to_the_end h r rest = ends h (length rest) r rest (omega arith)

-- ---- over traces, with any calls on other streams between

-- what came of it: an answer is there where it was none of these
pub data Served : Type 0 where
  consumed_all : Served
  met_code : Code → Served
  answered : Answer → Served
  feeds_over : Served

-- a block is offered before each feed: 5 says that none is due
unfoldable pub behind_block : Answer → Served → Served
behind_block (gave g) x = x
behind_block (left l) x = answered (left l)
behind_block (house h) x = x
behind_block (code k u h) x = met_code k

unfoldable pub behind_feed : Answer → (Gave → Served) → Served
behind_feed (gave g) f = f g
behind_feed (left l) f = answered (left l)
behind_feed (house h) f = answered (house h)
behind_feed (code k u h) f = met_code k

unfoldable pub any_left : List ℕ → (none more : Served) → Served
any_left [] x y = x
any_left (b ∷ bs) x y = y

abbrev pub EndsSo : Served → Type 0
EndsSo consumed_all = Unit {0}
EndsSo (met_code k) = Unit {0}
EndsSo (answered a) = ⊥
EndsSo feeds_over = ⊥

-- what is asked of one stream by itself: behind a block offered it is ready, and a feed then gets on
module _ (M : Machine) where
  abbrev pub BlockOut : (Ready : Stream M → Type 0) → Stream M → Out (Held M) → Type 0
  BlockOut Ready x (refuse h) = Ready x
  BlockOut Ready x (step g y) = Ready y.stream
  BlockOut Ready x (leave l) = ⊥
  BlockOut Ready x (fault k u h) = Unit {0}

  abbrev pub FeedOut : (Ok : Stream M → Type 0) → Out (Held M) → Type 0
  FeedOut Ok (refuse h) = ⊥
  FeedOut Ok (step g y) = (1 ≤ used_by g) × Ok y.stream
  FeedOut Ok (leave l) = ⊥
  FeedOut Ok (fault k u h) = Unit {0}

  pub record Laws (Ok Ready : Stream M → Type 0) : Type 0 where
    pub on_block : (k : M.Kept) (x : Stream M) (block : M.Block) → M.readable block ≡ true → Ok x → BlockOut Ready x (act_on k x (section block))
    pub on_feed : (k : M.Kept) (x : Stream M) (allow b : ℕ) (bs : List ℕ) → 1 ≤ allow → Ready x → FeedOut Ok (act_on k x (feed allow (b ∷ bs)))

module _ (M : Machine) (id : ℕ) where
  abbrev pub AllAside : List (Call M) → Type 0
  AllAside [] = Unit {0}
  AllAside (c ∷ cs) = Aside id c × AllAside cs

  -- a host of many streams: before each feed of this one it calls what it likes on the others, but no start
  pub record Shared : Type 0 where
    pub host : Host M
    pub others : ℕ → List (Call M)
    pub aside : (n : ℕ) → AllAside (others n)

  unfoldable pub serve : Shared → (feeds : ℕ) → Pair M → (rest : List ℕ) → Served
  serve h zero p rest = any_left rest consumed_all feeds_over
  serve h (suc n) p rest =
      let x = call (on id (section (h.host.block n))) (run p (h.others n)) in
      let y = call (on id (feed (h.host.allows n) rest)) x.after in
      any_left rest consumed_all (behind_block x.answer (behind_feed y.answer (λ g. serve h n y.after (drop (used_by g) rest))))

  module _ (Ok Ready : Stream M → Type 0) where
    -- the stream runs, or the connection is dead
    pub data Stands (p : Pair M) : Type 0 where
      runs : (x : Stream M) → Ok x → Alive p → find id p.row ≡ some x → Stands p
      is_dead : (k : ConnectionFault) → p.conn.dead ≡ some k → Stands p

    later : (c : Call M) → Aside id c → Later c
    later start n = absurd n
    later (open' i) n = tt
    later (on i o) n = tt
    later (goaway i room) n = tt

    stands_by : (p : Pair M) (x : Stream M) → Ok x → (d : Option ConnectionFault) → p.conn.dead ≡ d → find id p.row ≡ some x → Stands p
    stands_by p x w none e f = runs x w e f
    stands_by p x w (some k) e f = is_dead k e

    stands_call : (c : Call M) (p : Pair M) → Aside id c → Stands p → Stands (call c p).after
    stands_call c p n (runs x w a f) = stands_by (call c p).after x w (call c p).after.conn.dead refl (others_untouched p c id n ∙ f)
    stands_call c p n (is_dead k e) = rw (dead_stays c p k (later c n) e) (is_dead k e)

    stands_run : (cs : List (Call M)) (p : Pair M) → AllAside cs → Stands p → Stands (run p cs)
    unfolding run
    stands_run [] p n s = s
    stands_run (c ∷ cs) p n s = stands_run cs (call c p).after n.1 (stands_call c p n.0 s)

    -- it waits for no section
    abbrev SetUp : Pair M → Type 0
    SetUp p = (x : Stream M) × Ready x × Alive p × (find id p.row ≡ some x)

    abbrev AfterBlock : Answer → Pair M → Type 0
    AfterBlock (gave g) p = SetUp p
    AfterBlock (left l) p = ⊥
    AfterBlock (house h) p = SetUp p
    AfterBlock (code k u h) p = Unit {0}

    abbrev AfterFeed : Answer → Pair M → Type 0
    AfterFeed (gave g) p = (1 ≤ used_by g) × Stands p
    AfterFeed (left l) p = ⊥
    AfterFeed (house h) p = ⊥
    AfterFeed (code k u h) p = Unit {0}

    ends_block : (a : Answer) (p : Pair M) (x : Served) → AfterBlock a p → (SetUp p → EndsSo x) → EndsSo (behind_block a x)
    unfolding behind_block
    ends_block (gave g) p x w k = k w
    ends_block (left l) p x w k = absurd w
    ends_block (house h) p x w k = k w
    ends_block (code c u h) p x w k = tt

    ends_call : (a : Answer) (p : Pair M) (f : Gave → Served) → AfterFeed a p → ((g : Gave) → 1 ≤ used_by g → Stands p → EndsSo (f g)) → EndsSo (behind_feed a f)
    unfolding behind_feed
    ends_call (gave g) p f w k = k g w.0 w.1
    ends_call (left l) p f w k = absurd w
    ends_call (house h) p f w k = absurd w
    ends_call (code c u h) p f w k = tt

    block_settled : (p : Pair M) (x : Stream M) → Alive p → find id p.row ≡ some x → (y : Out (Held M)) → BlockOut M Ready x y → AfterBlock (settle id p y).answer (settle id p y).after
    unfolding settle same with faulted keeping
    block_settled p x a f (refuse h) w = (x, w, a, f)
    block_settled p x a f (step g y) w = (y.stream, w, a, find_put_same id y.stream x p.row f)
    block_settled p x a f (leave l) w = absurd w
    block_settled p x a f (fault (of_stream k) u h) w = tt
    block_settled p x a f (fault (of_connection k) u h) w = tt

    feed_settled : (p : Pair M) (x : Stream M) → Alive p → find id p.row ≡ some x → (y : Out (Held M)) → FeedOut M Ok y → AfterFeed (settle id p y).answer (settle id p y).after
    unfolding settle same with faulted keeping
    feed_settled p x a f (refuse h) w = absurd w
    feed_settled p x a f (step g y) w = (w.0, runs y.stream w.1 a (find_put_same id y.stream x p.row f))
    feed_settled p x a f (leave l) w = absurd w
    feed_settled p x a f (fault (of_stream k) u h) w = tt
    feed_settled p x a f (fault (of_connection k) u h) w = tt

    module _ (L : Laws M Ok Ready) where
      block-called : (p : Pair M) (block : M.Block) → M.readable block ≡ true → Stands p → let y = call (on id (section block)) p in AfterBlock y.answer y.after
      block-called p block t (runs x w a f) = rw (call_on p id x (section block) a f) (block_settled p x a f (act_on p.conn.kept x (section block)) (L.on_block p.conn.kept x block t w))
      block-called p block t (is_dead k e) = rw (dead_stays (on id (section block)) p k tt e) tt

      feed-called : (p : Pair M) (allow b : ℕ) (bs : List ℕ) → 1 ≤ allow → SetUp p → let y = call (on id (feed allow (b ∷ bs))) p in AfterFeed y.answer y.after
      feed-called p allow b bs l (x, w, a, f) =
          rw (call_on p id x (feed allow (b ∷ bs)) a f) (feed_settled p x a f (act_on p.conn.kept x (feed allow (b ∷ bs))) (L.on_feed p.conn.kept x allow b bs l w))

      pub serves : (h : Shared) (n : ℕ) (p : Pair M) (rest : List ℕ) → Stands p → length rest ≤ n → EndsSo (serve h n p rest)
      unfolding serve any_left
      serves h zero p [] s l = tt
      serves h (suc n) p [] s l = tt
      serves h zero p (b ∷ bs) s l = absurd (omega arith)
      serves h (suc n) p (b ∷ bs) s l =
          let q = run p (h.others n) in
          let x = call (on id (section (h.host.block n))) q in
          let y = call (on id (feed (h.host.allows n) (b ∷ bs))) x.after in
          ends_block x.answer x.after _ (block-called q (h.host.block n) (h.host.is_readable_lem n) (stands_run (h.others n) p (h.aside n) s)) (λ u.
          ends_call y.answer y.after _ (feed-called x.after (h.host.allows n) b bs (h.host.one_or_more n) u) (λ g m st.
          let z = drop_less (used_by g) b bs m in serves h n y.after (drop (used_by g) (b ∷ bs)) st (omega arith)))

-- ---- a request stream on a connection

pub data Asking (M : Machine) : Stream M → Type 0 where
  an_asking : (r : M.Request) → Asking M (asking r)

pub data NotDue (M : Machine) : Stream M → Type 0 where
  not_due : (r : M.Request) → M.due r ≡ false → NotDue M (asking r)

module _ (M : Machine) (gets_on : (r r' : M.Request) (allow u h b : ℕ) (bs : List ℕ) (e : Event) → M.due r ≡ false → 1 ≤ allow → M.feed r allow (b ∷ bs) ≡ goes u h e r' → 1 ≤ u)
    (goes_on : (r r' : M.Request) (block : M.Block) → M.give r block ≡ sound r' → M.due r ≡ true → M.due r' ≡ false) where
  block_out : (k : M.Kept) (r : M.Request) (block : M.Block) (d : Bool) → M.due r ≡ d → (c : Bool) → c ≡ true → (x : Given M.Request) → M.give r block ≡ x
      → BlockOut M (NotDue M) (asking r) (map_out (λ x. record { stream = asking x; kept = k }) (either d (either c (of_given x) (refuse unreadable)) (refuse no_section)))
  unfolding map_out either of_given
  block_out k r block true e true t (sound r') q = not_due r' (goes_on r r' block q e)
  block_out k r block true e true t (unsound c) q = tt
  block_out k r block true e false t x q = absurd (true≢false (sym t))
  block_out k r block false e c t x q = not_due r e

  feed_out : (k : M.Kept) (r : M.Request) (allow b : ℕ) (bs : List ℕ) → 1 ≤ allow → (d : Bool) → M.due r ≡ d → d ≡ false → (x : Fed M.Request) → M.feed r allow (b ∷ bs) ≡ x
      → FeedOut M (Asking M) (map_out (λ x. record { stream = asking x; kept = k }) (either d (refuse section_due) (of_fed x)))
  unfolding map_out either of_fed used_by
  feed_out k r allow b bs l true e t x q = absurd (true≢false t)
  feed_out k r allow b bs l false e t (goes u h ev r') q = (gets_on r r' allow u h b bs ev e l q, an_asking r')
  feed_out k r allow b bs l false e t (faults c u h) q = tt

  block_acted : (k : M.Kept) (x : Stream M) (block : M.Block) → M.readable block ≡ true → Asking M x → BlockOut M (NotDue M) x (act_on k x (section block))
  unfolding act_on act
  block_acted k x block t (an_asking r) = block_out k r block (M.due r) refl (M.readable block) t (M.give r block) refl

  feed_acted : (k : M.Kept) (x : Stream M) (allow b : ℕ) (bs : List ℕ) → 1 ≤ allow → NotDue M x → FeedOut M (Asking M) (act_on k x (feed allow (b ∷ bs)))
  unfolding act_on act
  feed_acted k x allow b bs l (not_due r d) = feed_out k r allow b bs l (M.due r) refl d (M.feed r allow (b ∷ bs)) refl

  pub asks_on : Laws M (Asking M) (NotDue M)
  asks_on = record { on_block = block_acted; on_feed = feed_acted }

stands_asking : {M : Machine} (id : ℕ) (p : Pair M) (v : View M) → v.fate ≡ running → Agrees Asks Story id p v → Stands M id (Asking M) (NotDue M) p
stands_asking id p v e (over {f = f} t n) = absurd (not_running f (shut t) e)
stands_asking id p v e (open_still a (asks {r = r} t) f) = runs (asking r) (an_asking r) a f

-- ---- the streams of document 01

answered_on : (n : Next Message) {r : M.State Message} → given_by (M.answered n) ≡ sound r → is_due r ≡ false
unfolding given_by M.answered
answered_on (stop n) q = let z : ◌≡◌ {A = ℕ} 0 1 = cc in absurd (omega arith)
answered_on (go p) {r} q = let z : M.between p ≡ r = cc in rw (← z) (unfold is_due in refl)

-- a section that is accepted is waited for no more
waits_no_more : (r r' : M.State Message) (block : List ℕ) → streams.give r block ≡ sound r' → is_due r ≡ true → is_due r' ≡ false
unfolding is_due M.given
waits_no_more (M.in_type g p) r' block q d = absurd (true≢false (sym d))
waits_no_more (M.in_length t g p) r' block q d = absurd (true≢false (sym d))
waits_no_more (M.in_payload u k n p) r' block q d = absurd (true≢false (sym d))
waits_no_more (M.due t p) r' block q d = unfold is_due in answered_on ((request document).given t p (section_of (lines block))) q

-- there are such hosts: one that gives the block of no lines
pub a_host : Host streams
a_host = record { allows = λ n. 1; block = λ n. []; one_or_more = λ n. omega arith; is_readable_lem = λ n. unfold is_readable lines lines_from in refl }

-- PROGRESS TO THE END, of one request stream by itself
pub drives_to_the_end : (h : Host streams) (r : M.State Message) (rest : List ℕ) → Ends streams (drive streams h (length rest) r rest)
drives_to_the_end h r rest = to_the_end streams feed_gets_on waits_no_more h r rest

-- and in every trace, from wherever the stream runs, whatever is called on the others between: a connection that dies is a fault met
pub serves_to_the_end : (id : ℕ) → kind_of id ≡ some a_request → (cs : List (Call streams)) → (view id (trace fresh cs)).fate ≡ running → (h : Shared streams id) (rest : List ℕ)
    → EndsSo (serve streams id h (length rest) (run fresh cs) rest)
serves_to_the_end id q cs e h rest =
    serves streams id (Asking streams) (NotDue streams) (asks_on streams feed_gets_on waits_no_more) h (length rest) (run fresh cs) rest
    (stands_asking id (run fresh cs) (view id (trace fresh cs)) e (agrees story id cs q)) (omega arith)

-- ---- a one-way stream of document 01: no section is ever due on it

-- accepted feeds led to it
abbrev Told : Stream streams → Type 0
Told x = (s : Shown streams) × Says alone s x

heard_used : (k : Keeps) (u₀ h₀ : ℕ) (e₀ : O.OneEvent) (o : O.OneOutcome) {u h : ℕ} {e : Event} {y : Both streams} → heard_by k u₀ h₀ e₀ o ≡ goes u h e y → u₀ ≡ u
unfolding heard_by
heard_used k u₀ h₀ e₀ (O.lives s) q = cc
heard_used k u₀ h₀ e₀ (O.dies n) q = let z : ◌≡◌ {A = ℕ} 0 1 = cc in absurd (omega arith)

one_gets_on : (k : Keeps) (w : O.OneState) (allow b : ℕ) (bs : List ℕ) {u h : ℕ} {e : Event} {y : Both streams} → ReadsOnOne w → 1 ≤ allow → streams.feed₁ k w allow (b ∷ bs) ≡ goes u h e y → 1 ≤ u
one_gets_on k w zero b bs r l q = absurd (omega arith)
one_gets_on k w (suc n) b bs r l q =
    let f = O.feed (types_in k) (suc n) w (b ∷ bs) in
    rw (← (heard_used k f.used f.heads f.event f.after q)) (one_moves (types_in k) n b w bs r)

one_out : (k : Keeps) (s : Shown streams) (w : O.OneState) → Reached₁ alone s w → (allow b : ℕ) (bs : List ℕ) → 1 ≤ allow
    → (x : Fed O.OneState) → alone_of w allow (b ∷ bs) ≡ x → (y : Fed (Both streams)) → streams.feed₁ k w allow (b ∷ bs) ≡ y → Like streams x y
    → FeedOut streams Told (map_out (λ x. record { stream = telling x.state; kept = x.kept }) (of_fed y))
unfolding map_out of_fed used_by
one_out k s w t allow b bs l x e y q (goes_alike {u = u} {h = h} {e = ev}) = (one_gets_on k w allow b bs (reads_on t) l q, (plus_feed u h ev (b ∷ bs) s, says (by_feed t e)))
one_out k s w t allow b bs l x e y q faults_alike = tt
one_out k s w t allow b bs l x e y q second = tt

told_block : (k : Keeps) (x : Stream streams) (block : List ℕ) (s : Shown streams) → Says alone s x → BlockOut streams Told x (act_on k x (section block))
unfolding act_on act₁ map_out
told_block k x block s (says t) = (s, says t)

told_feed : (k : Keeps) (x : Stream streams) (allow b : ℕ) (bs : List ℕ) (s : Shown streams) → 1 ≤ allow → Says alone s x → FeedOut streams Told (act_on k x (feed allow (b ∷ bs)))
unfolding act_on act₁
told_feed k x allow b bs s l (says {w = w} t) = one_out k s w t allow b bs l (alone_of w allow (b ∷ bs)) refl (streams.feed₁ k w allow (b ∷ bs)) refl (like k w allow (b ∷ bs))

tells_on : Laws streams Told Told
tells_on = record { on_block = λ k x block t w. told_block k x block w.0 w.1; on_feed = λ k x allow b bs l w. told_feed k x allow b bs w.0 l w.1 }

stands_told : (id : ℕ) (p : Pair streams) (v : View streams) → v.fate ≡ running → Agrees (Says alone) (Story₁ alone) id p v → Stands streams id Told Told p
stands_told id p v e (over {f = f} t n) = absurd (not_running f ((story₁ alone).shut t) e)
stands_told id p v e (open_still {s = s} {x = x} a t f) = runs x (s, t) a f

pub one_way_to_the_end : (id : ℕ) → kind_of id ≡ some one_way → (cs : List (Call streams)) → (view id (trace fresh cs)).fate ≡ running → (h : Shared streams id) (rest : List ℕ)
    → EndsSo (serve streams id h (length rest) (run fresh cs) rest)
one_way_to_the_end id q cs e h rest =
    serves streams id Told Told tells_on h (length rest) (run fresh cs) rest (stands_told id (run fresh cs) (view id (trace fresh cs)) e (follows₁ alone id q cs)) (omega arith)
