-- What a stream is reading fits the place where it is: for any grammar, and then for requests and for control streams. So a section
-- that is given has its fault on the stream alone, and a kept payload reports what it was kept for. Assumes nothing.
use Rattle.std.specs.Prelude.{◌≡◌, Bool, true, false, ◌||◌, eqb, length}
use Rattle.std.proofs.Math.Path.{refl}
use Prim.Native.Nat.{ℕ, zero, suc, ◌-◌, min}
use mathlib.Core.List.{List, [], ◌∷◌, ◌++◌}
use Rattle.std.proofs.Math.Option.{Option}
use Rattle.std.proofs.Math.Dec.{ltb}
use Rattle.rules.specs.Numbers.{of_connection, frame_error, excessive_load, missing_settings}
use Rattle.rules.specs.Text.{lookup}
use Rattle.rules.specs.Block.{Section}
use Rattle.rules.specs.Reading.{Part, header_section, trailers, Kept, settings, goaway, max_push_id, cancel_push, Use, content, skipped, section, kept, Ruling, refuse, accept, Next, stop, go, Grammar}
use Rattle.rules.specs.Message as message
use Rattle.rules.specs.Message.{Message, opening, body, trailed}
use Rattle.rules.specs.Section as judge
use Rattle.rules.specs.Request as ask
use Rattle.rules.specs.Request.{document, request}
use Rattle.rules.specs.Control as say
use Rattle.rules.specs.Control.{Settings, Control, unset, set, control, settings_limit}
use Rattle.meaning.specs.TextLaws.{lookup_view}
use Rattle.meaning.specs.Machine.{Fed, going, value, fed, State, in_type, in_length, in_payload, due, Outcome, lives, dies, between, answered, typed, over, with_left, given}
use Rattle.meaning.specs.Feed.{Event, quiet, section_bytes, content_bytes, taken, Feeding, halt, also, onward, judged_event, over_event, left_event, behind_header, named, taking, feed}
use Rattle.meaning.specs.NumberLaws.{OfStream}
use Rattle.demands.specs.Codes.{section_of_stream}

-- ---- any grammar

module _ (G : Grammar) (Fits : Use → G.P → Type 0) where
  -- a state: what its payload is for fits its place
  abbrev pub Suits : State G.P → Type 0
  Suits (in_type g p) = Unit {0}
  Suits (in_length t g p) = Unit {0}
  Suits (in_payload u k left p) = Fits u p
  Suits (due t p) = Fits (section t) p

  abbrev pub RuleSuits : Ruling G.P → Type 0
  RuleSuits (refuse code) = Unit {0}
  RuleSuits (accept u p) = Fits u p

  abbrev pub OutcomeSuits : Outcome G.P → Type 0
  OutcomeSuits (lives s) = Suits s
  OutcomeSuits (dies code) = Unit {0}

  -- a payload reported was judged good at a place that fits, and the stream goes on behind it
  pub record Judged (k : Kept) (payload : List ℕ) (o : Outcome G.P) : Type 0 where
    pub place : G.P
    pub next : G.P
    pub fits : Fits (kept k) place
    pub is : G.judged k place payload ≡ go next
    pub left : o ≡ lives (between next)

  abbrev pub EventSuits : Event → Outcome G.P → Type 0
  EventSuits quiet o = Unit {0}
  EventSuits (section_bytes len last) o = (t : Part) × ((p : G.P) × Fits (section t) p)
  EventSuits (content_bytes len) o = (p : G.P) × Fits content p
  EventSuits (taken k payload) o = Judged k payload o

  pub record FeedSuits (f : Feeding G.P) : Type 0 where
    pub event : EventSuits f.event f.after
    pub after : OutcomeSuits f.after

  module _ (rules : (p : G.P) (t len : ℕ) → RuleSuits (G.rule p t len)) where
    halts : (e : Event) (o : Outcome G.P) → EventSuits e o → OutcomeSuits o → FeedSuits (halt e o)
    unfolding halt
    halts e o a b = record { event = a; after = b }

    also_suits : (h : ℕ) (f : Feeding G.P) → FeedSuits f → FeedSuits (also h f)
    unfolding also
    also_suits h f w = record { event = w.event; after = w.after }

    judged_suits : (k : Kept) (p : G.P) (all : List ℕ) (n : Next G.P) → G.judged k p all ≡ n → Fits (kept k) p → (f : State G.P → Feeding G.P) → FeedSuits (onward (judged_event k all n) (answered n) f)
    unfolding onward judged_event answered
    judged_suits k p all (stop code) e i f = halts quiet (dies code) tt tt
    judged_suits k p all (go q) e i f = halts (taken k all) (lives (between q)) (record { place = p; next = q; fits = i; is = e; left = refl }) tt

    module _ (f : State G.P → Feeding G.P) (on : (s : State G.P) → Suits s → FeedSuits (f s)) where
      left-suits : (u : Use) (k : List ℕ) (l : ℕ) (p : G.P) → Fits u p → FeedSuits (onward (left_event G u k l p) (with_left G u k l p) f)
      unfolding onward left_event over_event with_left over
      left-suits content k zero p w = on (between p) tt
      left-suits skipped k zero p w = on (between p) tt
      left-suits (section t) k zero p w = halts (section_bytes 0 true) (lives (due t p)) (t, (p, w)) w
      left-suits (kept x) k zero p w = judged_suits x p k (G.judged x p k) refl w f
      left-suits u k (suc l) p w = on (in_payload u k l p) w

      skip-suits : (l : ℕ) (p : G.P) → Fits skipped p → FeedSuits (onward quiet (with_left G skipped [] l p) f)
      unfolding onward with_left over
      skip-suits zero p w = on (between p) tt
      skip-suits (suc l) p w = on (in_payload skipped [] l p) w

      behind-suits : (len : ℕ) (r : Ruling G.P) → RuleSuits r → FeedSuits (behind_header G len r f)
      unfolding behind_header
      behind-suits len (refuse code) w = halts quiet (dies code) tt tt
      behind-suits len (accept u p) w = left-suits u [] len p w

    content_suits : (j l : ℕ) (p : G.P) → Fits content p → FeedSuits (taking G content j l p)
    unfolding taking named with_left over
    content_suits j zero p w = record { event = (p, w); after = tt }
    content_suits j (suc l) p w = record { event = (p, w); after = w }

    section_suits : (t : Part) (j l : ℕ) (p : G.P) → Fits (section t) p → FeedSuits (taking G (section t) j l p)
    unfolding taking named with_left over
    section_suits t j zero p w = record { event = (t, (p, w)); after = w }
    section_suits t j (suc l) p w = record { event = (t, (p, w)); after = w }

    typed_suits : (p : G.P) (x : Fed) → Suits (typed p x)
    unfolding typed
    typed_suits p (going g) = tt
    typed_suits p (value t) = tt

    length_suits : (n t : ℕ) (p : G.P) (bs : List ℕ) → ((n : ℕ) (s : State G.P) → Suits s → FeedSuits (feed G n s bs)) → (x : Fed) → FeedSuits (elim x [
      | going g ↦ also 0 (feed G (suc n) (in_length t g p) bs)
      | value len ↦ also 1 (behind_header G len (G.rule p t len) (λ s. feed G n s bs))
    ])
    length_suits n t p bs ih (going g) = also_suits 0 _ (ih (suc n) (in_length t g p) tt)
    length_suits n t p bs ih (value len) = also_suits 1 _ (behind-suits (λ s. feed G n s bs) (λ s h. ih n s h) len (G.rule p t len) (rules p t len))

    -- A FEED LEAVES WHAT FITS
    pub feed_suits : (n : ℕ) (s : State G.P) → Suits s → (bs : List ℕ) → FeedSuits (feed G n s bs)
    unfolding feed
    feed_suits n s h [] = halts quiet (lives s) tt h
    feed_suits zero (in_type g p) h (b ∷ bs) = halts quiet (lives (in_type g p)) tt tt
    feed_suits (suc n) (in_type g p) h (b ∷ bs) = also_suits 0 _ (feed_suits (suc n) (typed p (fed g b)) (typed_suits p (fed g b)) bs)
    feed_suits zero (in_length t g p) h (b ∷ bs) = halts quiet (lives (in_length t g p)) tt tt
    feed_suits (suc n) (in_length t g p) h (b ∷ bs) = length_suits n t p bs (λ n s h. feed_suits n s h bs) (fed g b)
    feed_suits n (in_payload content k left p) h (b ∷ bs) = content_suits (min left (length bs)) (left - min left (length bs)) p h
    feed_suits n (in_payload (section t) k left p) h (b ∷ bs) = section_suits t (min left (length bs)) (left - min left (length bs)) p h
    feed_suits n (in_payload skipped k left p) h (b ∷ bs) = also_suits 0 _ (skip-suits (λ s. feed G n s bs) (λ s h. feed_suits n s h bs) left p h)
    feed_suits n (in_payload (kept x) k left p) h (b ∷ bs) = also_suits 0 _ (left-suits (λ s. feed G n s bs) (λ s h. feed_suits n s h bs) (kept x) (k ++ (b ∷ [])) left p h)
    feed_suits n (due t p) h (b ∷ bs) = halts quiet (lives (due t p)) tt h

-- ---- requests

-- a header section is the first, trailers come behind it; nothing is kept
abbrev pub RequestFits : Use → Message → Type 0
RequestFits content m = Unit {0}
RequestFits skipped m = Unit {0}
RequestFits (section header_section) m = m ≡ opening
RequestFits (section trailers) opening = ⊥
RequestFits (section trailers) (body stated sum) = Unit {0}
RequestFits (section trailers) (trailed stated sum) = ⊥
RequestFits (kept k) m = ⊥

abbrev pub RequestSuits : State Message → Type 0
RequestSuits s = Suits (request document) RequestFits s

limit_rule : (x : Bool) (u : Use) (m : Message) → RequestFits u m → RuleSuits (request document) RequestFits (elim x [ true ↦ refuse (of_connection excessive_load) | false ↦ accept u m ])
limit_rule true u m f = tt
limit_rule false u m f = f

kind_rule : (k : ask.Kind) (m : Message) (len : ℕ) → RuleSuits (request document) RequestFits (ask.rule_for k m len)
unfolding ask.rule_for ask.data_rule ask.headers_rule ask.within_limit
kind_rule ask.data· m len = by (message.carries len m)
  where
    by : (s : message.Step) → RuleSuits (request document) RequestFits (ask.data_rule s)
    by (message.goes q) = tt
    by (message.refuses r) = tt
kind_rule ask.headers opening len = limit_rule (ltb ask.headers_limit len) (section header_section) opening refl
kind_rule ask.headers (body stated sum) len = limit_rule (ltb ask.headers_limit len) (section trailers) (body stated sum) tt
kind_rule ask.headers (trailed stated sum) len = tt
kind_rule ask.forbidden m len = tt
kind_rule ask.unknown m len = tt

request_rule : (m : Message) (t len : ℕ) → RuleSuits (request document) RequestFits (ask.rule m t len)
unfolding ask.rule
request_rule m t len = kind_rule (ask.kind_of t) m len

-- A REQUEST'S FEED
pub request_suits : (allow : ℕ) (s : State Message) → RequestSuits s → (piece : List ℕ) → FeedSuits (request document) RequestFits (feed (request document) allow s piece)
request_suits = feed_suits (request document) RequestFits request_rule

-- A SECTION GIVEN where one is due leaves the stream between two frames, or is a fault of the stream alone
abbrev pub Given : Outcome Message → Type 0
Given (lives s) = (m : Message) × (s ≡ between m)
Given (dies code) = OfStream code

given_header : (j : judge.Judgement judge.Head) → Given (answered (ask.headed_by (ask.header_by j) opening))
unfolding ask.headed_by ask.header_by ask.next_of message.heads answered
given_header (judge.refused r) = section_of_stream r
given_header (judge.sound h) = (body h.stated 0, refl)

given_trailers : (j : judge.Judgement (Unit {0})) (stated : Option ℕ) (sum : ℕ) → Given (answered (ask.trailed_by (ask.trailer_by j) (body stated sum)))
unfolding ask.trailed_by ask.trailer_by ask.next_of message.trails answered
given_trailers (judge.refused r) stated sum = section_of_stream r
given_trailers (judge.sound u) stated sum = (trailed stated sum, refl)

pub given_suits : (t : Part) (m : Message) → RequestFits (section t) m → (s : Section) → Given (given (request document) s (due t m))
unfolding given ask.given document
given_suits header_section m f s = rw f (given_header (judge.header_section s))
given_suits trailers opening f s = absurd f
given_suits trailers (body stated sum) f s = given_trailers (judge.trailers s) stated sum
given_suits trailers (trailed stated sum) f s = absurd f

-- ---- control streams

-- SETTINGS is kept as the first frame, the others behind it; nothing is handed over
abbrev pub ControlFits : Use → Control → Type 0
ControlFits content c = ⊥
ControlFits skipped c = Unit {0}
ControlFits (section t) c = ⊥
ControlFits (kept settings) c = c ≡ unset
ControlFits (kept goaway) unset = ⊥
ControlFits (kept goaway) (set s g m) = Unit {0}
ControlFits (kept max_push_id) unset = ⊥
ControlFits (kept max_push_id) (set s g m) = Unit {0}
ControlFits (kept cancel_push) unset = ⊥
ControlFits (kept cancel_push) (set s g m) = Unit {0}

abbrev pub ControlSuits : State Control → Type 0
ControlSuits s = Suits control ControlFits s

abbrev ControlRule : Ruling Control → Type 0
ControlRule r = RuleSuits control ControlFits r

rule_if : (x : Bool) (a b : Ruling Control) → ControlRule a → ControlRule b → ControlRule (elim x [ true ↦ a | false ↦ b ])
rule_if true a b h k = h
rule_if false a b h k = k

-- behind SETTINGS
module _ (s : Settings) (g m : Option ℕ) (t len : ℕ) where
  abbrev Behind : say.Kind → Type 0
  Behind k = ControlRule (say.rule_for k (set s g m) len)

  forbidden_rule : Behind say.forbidden
  unfolding say.rule_for
  forbidden_rule = tt

  integer_rule : (k : Kept) → ControlFits (kept k) (set s g m) → Behind (say.one_integer k)
  unfolding say.rule_for
  integer_rule k f = rule_if (eqb len 0 || ltb 8 len) (refuse (of_connection frame_error)) (accept (kept k) (set s g m)) tt f

  unknown_rule : Behind say.unknown
  unfolding say.rule_for
  unknown_rule = tt

  column_rule : Behind (lookup say.column say.unknown t)
  unfolding say.column
  column_rule = let no = forbidden_rule in
      lookup_view t Behind say.column say.unknown
      ((λ e. no), ((λ e. no), ((λ e. no), ((λ e. integer_rule cancel_push tt), ((λ e. integer_rule goaway tt), ((λ e. integer_rule max_push_id tt), ((λ e. no), ((λ e. no), ((λ e. no), ((λ e. no), ((λ e. no), tt)))))))))))
      (λ a. unknown_rule)

control_rule : (c : Control) (t len : ℕ) → ControlRule (say.rule c t len)
unfolding say.rule say.first_rule
control_rule unset t len = first (eqb t 4)
  where
    first : (x : Bool) → ControlRule (elim x [ false ↦ refuse (of_connection missing_settings) | true ↦ elim (ltb settings_limit len) [ true ↦ refuse (of_connection excessive_load) | false ↦ accept (kept settings) unset ] ])
    first false = tt
    first true = rule_if (ltb settings_limit len) (refuse (of_connection excessive_load)) (accept (kept settings) unset) tt refl
control_rule (set s g m) t len = column_rule s g m t len

-- A CONTROL STREAM'S FEED
pub control_suits : (allow : ℕ) (s : State Control) → ControlSuits s → (piece : List ℕ) → FeedSuits control ControlFits (feed control allow s piece)
control_suits = feed_suits control ControlFits control_rule
