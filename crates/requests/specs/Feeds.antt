-- Laws of a feed: a law for each way out. Assumes nothing.
use Rattle.std.specs.Prelude.{◌≡◌, ◌⊎◌, drop}
use Rattle.std.proofs.Math.Path.{refl}
use Rattle.std.proofs.Common.{sym, ap, ◌∙◌, subst, arith}
use Prim.Native.Nat.{ℕ, zero, suc, ◌-◌, ◌≤◌}
use mathlib.Core.List.{List, [], ◌++◌}
use Rattle.std.proofs.Math.Logic.{inl, inr}
use Rattle.std.proofs.Math.ListN.{take}
use Rattle.rules.specs.Events.{NOTHING, CONTENT}
use Rattle.rules.specs.Numbers.{ACCEPTED, SECTION-DUE, code_number}
use Rattle.rules.specs.Named.{code_of}
use Rattle.rules.specs.declared.codes.Code.{Code}
use Rattle.rules.specs.Reading.{Part}
use Rattle.rules.specs.Message.{Message}
use Rattle.rules.specs.Request.{document, request}
use Rattle.meaning.specs.NumberLaws.{code_high}
use Rattle.meaning.specs.Machine.{State, lives}
use Rattle.meaning.specs.Feed.{taken, Feeding, halt, judged_event, feed}
use Rattle.meaning.specs.FeedLaws.{past}
use Rattle.meaning.specs.Hom.{map_state, map_outcome, map_feeding}
use Rattle.frames.specs.Modes.{HEADER-SECTION-DUE, TRAILERS-DUE, IN-SETTINGS, TRAILED, waiting, mode_number, mode_of, of_mode, at_unkept, at_payload, not_kept}
use Rattle.frames.specs.declared.Cells.{Cells}
use Rattle.frames.specs.declared.Answer.{Answer}
use Rattle.frames.specs.declared.Event as declared-event
use Rattle.frames.specs.declared.Event.TheVariants as event
use Rattle.frames.specs.Both.{Place, of_request, judged}
use Rattle.frames.specs.Uses.{place_of}
use Rattle.frames.specs.Heads.{head_state}
use Rattle.frames.specs.Parts.{judged_as}
use Rattle.frames.specs.Answers.{mode_state, kept_at, state_at, state_of, place_at, event_number, answer_at, Sane, Held, Content as FrameContent}
use Rattle.frames.specs.Fed.{Fed}
use Rattle.frames.specs.Apart.{message, state_carried, request_fed}
use Rattle.record.specs.Kinds.{REQUEST}
use Rattle.record.specs.declared.Record.{Record}
use Rattle.record.specs.Row.{record_from, request_record}
use Rattle.record.specs.Sound.{Fit, cells_in, own_place, stream, Written}
use Rattle.record.specs.Tests.{request_shape}
use Rattle.record.specs.Same.{written_as, written_sound}
use Rattle.record.specs.Body.{Body, content_in, content_written}
use Rattle.requests.specs.declared.Reply.{Reply}
use Rattle.requests.specs.Reply.{Open, state_in, reply, refused, left_by, said_by, said, unless_due, fed_as, Keeps, Content, opened}
use Rattle.requests.specs.Plain.{Plain, Plainly, plain_feed}
use Rattle.requests.specs.Answered.{own_message, own_stands}
use Rattle.requests.specs.Told.{phase_low}

-- ---- a section is due, or not

module _ (a d t : ℕ) (m : Message) (k : List ℕ) (x y : Reply) where
  pub due_so : (w : Part) (mode : ℕ) → mode ≡ mode_number (waiting w) → x ≡ unless_due (state_at mode a d t m k) x y
  unfolding mode_state unless_due
  due_so w mode e = let z = of_mode (waiting w) e in rw z refl

  pub due_not : (mode : ℕ) → (mode ≡ HEADER-SECTION-DUE → ⊥) → (mode ≡ TRAILERS-DUE → ⊥) → y ≡ unless_due (state_at mode a d t m k) x y
  unfolding mode_state mode_of head_state unless_due
  due_not zero l u = refl
  due_not (suc zero) l u = refl
  due_not (suc (suc n)) l u = at_payload (λ z. y ≡ unless_due (mode_state z a d t m k) x y) (λ v. refl) (suc (suc n)) (omega arith) l u

-- ---- modes

pub plain_mode : (mode a d t : ℕ) (m : Message) (k : List ℕ) → mode ≤ TRAILERS-DUE → Plain (state_at mode a d t m k)
unfolding mode_state head_state
plain_mode mode a d t m k h = at_unkept (λ z. Plain (mode_state z a d t m k)) tt tt refl refl (λ x. refl) (λ x. refl) mode (omega arith)

mode_plain : (mode a d t : ℕ) (m : Message) (k : List ℕ) → Plain (state_at mode a d t m k) → mode ≤ TRAILERS-DUE
unfolding mode_state
mode_plain mode a d t m k = not_kept (λ z. Plain (mode_state z a d t m k)) (λ f h. h) mode

-- ---- what an answer says of a request

-- a part that a request hands over; or none
abbrev pub IsPart : declared-event.Event → Type 0
IsPart e = e ≡ event.Content ⊎ (e ≡ event.Section ⊎ e ≡ event.SectionEnd)

abbrev pub IsNoPart : declared-event.Event → Type 0
IsNoPart e = e ≡ event.Nothing ⊎ (((which : ℕ) × (e ≡ event.Kept which)) ⊎ e ≡ event.KeptPart)

abbrev pub NoFault : declared-event.Event → Type 0
NoFault e = (code : Code) → e ≡ event.Fault code → ⊥

pub part_goes : (e : declared-event.Event) → IsPart e → NoFault e
part_goes e (inl q) code f = cc
part_goes e (inr (inl q)) code f = cc
part_goes e (inr (inr q)) code f = cc

pub none_goes : (e : declared-event.Event) → IsNoPart e → NoFault e
none_goes e (inl q) code f = cc
none_goes e (inr (inl q)) code f = let z = q.1 in cc
none_goes e (inr (inr q)) code f = cc

module _ (r : Record) (start len used heads : ℕ) (d : Cells) (m : Message) (k s : List ℕ) where
  abbrev leaves : List ℕ → State Message
  leaves l = map_state message (state_of d (of_request m) l)

  abbrev fed_at : declared-event.Event → Feeding Message
  fed_at e = map_feeding message (answer_at e start len used heads d (of_request m) k s)

  quiet_said : (e : declared-event.Event) → IsNoPart e → ((which : ℕ) → e ≡ event.Kept which → ⊥) → (l : List ℕ) × (reply ACCEPTED NOTHING 0 0 used heads (request_record r.id (leaves l)) ≡ said r (fed_at e))
  unfolding answer_at map_feeding map_outcome said_by
  quiet_said e (inl q) n = (k, rw q refl)
  quiet_said e (inr (inl q)) n = absurd (n q.0 q.1)
  quiet_said e (inr (inr q)) n = (k ++ take len (drop start s), rw q refl)

  part_said : (e : declared-event.Event) → IsPart e → reply ACCEPTED (event_number e) (used - len) len used heads (request_record r.id (leaves k)) ≡ said r (fed_at e)
  unfolding answer_at map_feeding map_outcome said_by
  part_said e (inl q) = rw q refl
  part_said e (inr (inl q)) = rw q refl
  part_said e (inr (inr q)) = rw q refl

  fault_said : (e : declared-event.Event) (code : Code) → e ≡ event.Fault code → let n = code_number (code_of code) in reply n NOTHING 0 0 used heads (left_by n r) ≡ said r (fed_at e)
  unfolding answer_at map_feeding map_outcome said_by
  fault_said e code q = rw q refl

  lives_after : (e : declared-event.Event) → NoFault e → ((which : ℕ) → e ≡ event.Kept which → ⊥) → (l : List ℕ) × ((fed_at e).after ≡ lives (leaves l))
  unfolding answer_at map_feeding map_outcome
  lives_after event.Nothing h f = (k, refl)
  lives_after event.Content h f = (k, refl)
  lives_after event.Section h f = (k, refl)
  lives_after event.SectionEnd h f = (k, refl)
  lives_after (event.Fault code) h f = absurd (h code refl)
  lives_after (event.Kept which) h f = absurd (f which refl)
  lives_after event.KeptPart h f = (k ++ take len (drop start s), refl)

  taken_event : (e : declared-event.Event) (which : ℕ) → e ≡ event.Kept which → (fed_at e).event ≡ taken (kept_at which) (k ++ take len (drop start s))
  unfolding answer_at map_feeding past judged_as halt judged judged_event
  taken_event e which q = rw q refl

-- ---- a feed

low_place : (phase h n s : ℕ) (p : Place) → phase ≤ TRAILED → place_at phase h n s p ≡ place_of phase h n s
unfolding place_at
low_place zero h n s p l = refl
low_place (suc zero) h n s p l = refl
low_place (suc (suc zero)) h n s p l = refl
low_place (suc (suc (suc k))) h n s p l = absurd (omega arith)

held_none : (n : ℕ) → Held n []
held_none zero = tt
held_none (suc n) = refl

-- carried to a message and back
pub row_back : (d : Cells) (m : Message) (l : List ℕ) → map_state of_request (map_state message (state_of d (of_request m) l)) ≡ state_of d (of_request m) l
unfolding message
row_back d m l = ap (map_state of_request) (state_carried message d.mode d.acc d.due d.ftype (of_request m) l) ∙ state_carried of_request d.mode d.acc d.due d.ftype m l

module _ (r : Record) (o : Open r) (d : Cells) (phase : d.phase ≤ TRAILED) (mode : d.mode ≤ TRAILERS-DUE) (sane : Sane d) where
  fit : Fit REQUEST r.id d
  fit = let h = o.sound.fit.shaped in record { sane = sane; shaped = request_shape r.id d h.ids (h.request_id o.kind) phase mode }

  module _ (w : Record) (written : Written (stream REQUEST r.id d) w) where
    pub w_row : (l : List ℕ) → w ≡ request_record r.id (map_state message (state_of d (of_request (message (own_place d))) l))
    w_row l = written_as (stream REQUEST r.id d) w written fit (of_request (message (own_place d))) l (own_stands d phase) ∙ ap (record_from REQUEST r.id) (sym (row_back d (message (own_place d)) l))

    pub w_open : Open w
    w_open = record { sound = written_sound (stream REQUEST r.id d) w fit written; kind = ap (λ x. x.kind) (w_row []) }

module _ (r : Record) (o : Open r) (piece : List ℕ) (allow : ℕ) where
  pub feed_due : {a : Reply} (w : Part) → (cells_in r).mode ≡ mode_number (waiting w) → a ≡ refused SECTION-DUE r → Keeps r (fed_as r allow piece) a
  feed_due {a} w e q = let c = cells_in r in record {
    answers = opened o (q ∙ due_so c.acc c.due c.ftype (message (own_place c)) [] _ _ w c.mode e);
    stays = λ z. (let e : a.number ≡ SECTION-DUE = ap (λ x. x.number) q in absurd (omega arith));
  }

  module _ (header : (cells_in r).mode ≡ HEADER-SECTION-DUE → ⊥) (trailers : (cells_in r).mode ≡ TRAILERS-DUE → ⊥) (ans : Answer) (fed : Fed (cells_in r) piece allow ans) where
    abbrev next : Message
    next = message (own_place ans.cells)

    low : ans.cells.phase ≤ TRAILED
    low = let h = phase_low r o in omega (arith, h, fed.phase)

    abbrev told : Feeding Message
    told = fed_at r ans.start ans.len ans.used ans.heads ans.cells next [] piece ans.event

    fed_is : feed (request document) allow (state_in r) piece ≡ told
    fed_is =
        let c = cells_in r in
        let d = ans.cells in
        request_fed c piece allow ans fed [] (held_none (IN-SETTINGS - c.mode)) document (message (own_place c)) (own_stands c (phase_low r o))
        ∙ ap (λ q. map_feeding message (answer_at ans.event ans.start ans.len ans.used ans.heads d q [] piece))
        (low_place d.phase d.has d.stated d.sum (of_request (message (own_place c))) low ∙ own_message d low)

    plainly : Plainly told
    plainly = let c = cells_in r in
        subst Plainly fed_is (plain_feed document allow (state_in r) (plain_mode c.mode c.acc c.due c.ftype (message (own_place c)) [] (o.sound.fit.shaped.request_mode o.kind)) piece)

    want_is : said r told ≡ fed_as r allow piece (state_in r)
    want_is = let c = cells_in r in ap (said r) (sym fed_is) ∙ due_not c.acc c.due c.ftype (message (own_place c)) [] _ _ c.mode header trailers

    not_taken : (which : ℕ) → ans.event ≡ event.Kept which → ⊥
    not_taken which e = plainly.untold _ _ (taken_event r ans.start ans.len ans.used ans.heads ans.cells next [] piece ans.event which e)

    pub feed_fault : (code : Code) {n : ℕ} {q : Record} → ans.event ≡ event.Fault code → n ≡ code_number (code_of code) → q ≡ left_by n r → Keeps r (fed_as r allow piece) (reply n NOTHING 0 0 ans.used ans.heads q)
    feed_fault code e z f = rw (f, z) (record {
      answers = opened o (fault_said r ans.start ans.len ans.used ans.heads ans.cells next [] piece ans.event code e ∙ want_is);
      stays = λ z. (let h = code_high (code_of code) in absurd (omega arith));
    })

    module _ (goes : NoFault ans.event) where
      low-mode : ans.cells.mode ≤ TRAILERS-DUE
      unfolding message
      low-mode =
          let d = ans.cells in
          let l = lives_after r ans.start ans.len ans.used ans.heads d next [] piece ans.event goes not_taken in
          let e = state_carried message d.mode d.acc d.due d.ftype (of_request next) l.0 in
          mode_plain d.mode d.acc d.due d.ftype next l.0 (subst Plain e (plainly.plain _ l.1))

      pub feed-fit : Fit REQUEST r.id ans.cells
      feed-fit = fit r o ans.cells low low-mode (fed.sane not_taken)

      module _ (w : Record) (written : Written (stream REQUEST r.id ans.cells) w) where
        row : (l : List ℕ) → w ≡ request_record r.id (map_state message (state_of ans.cells (of_request next) l))
        row l = w_row r o ans.cells low low-mode (fed.sane not_taken) w written l

        open-w : Open w
        open-w = w_open r o ans.cells low low-mode (fed.sane not_taken) w written

        pub feed-quiet : IsNoPart ans.event → Keeps r (fed_as r allow piece) (reply ACCEPTED NOTHING 0 0 ans.used ans.heads w)
        feed-quiet h = let l = quiet_said r ans.start ans.len ans.used ans.heads ans.cells next [] piece ans.event h not_taken in record {
          answers = opened o (ap (reply ACCEPTED NOTHING 0 0 ans.used ans.heads) (row l.0) ∙ l.1 ∙ want_is);
          stays = λ z. open-w;
        }

        begins : ans.start ≡ ans.used - ans.len
        begins = let e = fed.part in omega arith

        pub feed-part : IsPart ans.event → Keeps r (fed_as r allow piece) (reply ACCEPTED (event_number ans.event) ans.start ans.len ans.used ans.heads w)
        feed-part h = record {
          answers = opened o
              (ap (λ x. reply ACCEPTED (event_number ans.event) x ans.len ans.used ans.heads w) begins
              ∙ ap (reply ACCEPTED (event_number ans.event) (ans.used - ans.len) ans.len ans.used ans.heads) (row [])
              ∙ part_said r ans.start ans.len ans.used ans.heads ans.cells next [] piece ans.event h ∙ want_is);
          stays = λ z. open-w;
        }

      -- content alters three numbers of the record
      pub feed-content : Body r → FrameContent (cells_in r) ans.cells → ans.event ≡ event.Content → {q : Record} → q ≡ content_in r ans.cells
          → Content r allow piece (reply ACCEPTED CONTENT ans.start ans.len ans.used ans.heads q)
      feed-content b h e q =
          rw q (record {
            accepted = refl;
            keeps = subst (λ x. Keeps r (fed_as r allow piece) (reply ACCEPTED (event_number x) ans.start ans.len ans.used ans.heads (content_in r ans.cells))) e
                (feed-part (content_in r ans.cells) (content_written r b (fed.sane not_taken) h) (inl e));
            alters = refl;
          })
