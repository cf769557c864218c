-- Laws of the calls: a law for each way out. Assumes nothing.
use Rattle.std.proofs.Math.Path.{◌≡◌, refl, ap}
use Rattle.std.proofs.Common.{sym, ◌∙◌, arith}
use Prim.Native.Nat.{ℕ, zero, suc, ◌%◌, ◌≤◌, ◌<◌}
use Rattle.std.specs.Prelude.{List, ◌⊎◌, length}
use Rattle.std.proofs.Math.Logic.{inl, inr}
use borrow.Author.Tests.{lt-ltb, le-ltb}
use Rattle.rules.specs.Reading.{Verdict, whole, fault, waits}
use Rattle.rules.specs.Writer.{Write, refused, wrote}
use Rattle.rules.specs.Message.{Message}
use Rattle.rules.specs.Request.{document}
use Rattle.rules.specs.Request as rules
use Rattle.rules.specs.Numbers.{NOT-OPEN, number_of, rows as answers, named_in, named as answer-named, house_leaves, leaves, REQUEST-REJECTED}
use Rattle.meaning.specs.Machine.{State, finish}
use Rattle.meaning.specs.Hom.{map_state}
use Rattle.meaning.specs.OneWayFeed.{OneState}
use Rattle.varint.specs.ByByte.{part_of}
use Rattle.record.specs.Kinds.{REQUEST, UNTYPED}
use Rattle.record.specs.declared.Record.{Record}
use Rattle.record.specs.Row.{phase_of, stated_in, is_stated, length_of, sum_in, numbers_of, place_in, record_at, one_way_record, no_cells}
use Rattle.wire.specs.declared.ids.StreamId.{StreamId}
use Rattle.requests.specs.declared.Reply.{Reply}
use Rattle.requests.specs.Reply.{Open, state_in, fed_as, given_as, ended_as, ended_by, reset_as, frees, freed_if, Answered, shut, opened, Keeps}
use Rattle.connection.specs.declared.doors.Doors.{Doors}
use Rattle.connection.specs.declared.doors.Opening.{Opening}
use Rattle.connection.specs.Openings.{opened_of}
use Rattle.connection.specs.OpeningWays as doors
use Rattle.connection.specs.OpeningWays.{Went, barred, a_request, a_one_way, went}
use Rattle.connection.specs.Goaway.{Goaway, Sends, sending_of, write_of}
use Rattle.oneway.specs.declared.calls.Side.{Side}
use Rattle.oneway.specs.declared.calls.Heard.{Heard}
use Rattle.oneway.specs.Heard as side
use Rattle.oneway.specs.Heard.{Heeds, HeardAs, FedAs, given_here, closed_here}
use Rattle.connection.specs.declared.Call.{Call}
use Rattle.connection.specs.declared.Own.{Own}
use Rattle.connection.specs.declared.Connection.{Connection}
use Rattle.connection.specs.declared.Report.{Report}
use Rattle.connection.specs.declared.Found.{Found}
use Rattle.connection.specs.declared.Turn.{Turn}
use Rattle.connection.specs.declared.Gone.{Gone}
use Rattle.connection.specs.Whose.{Vacant}
use Rattle.connection.specs.Halves.{stream_id, doors_in, side_in}
use Rattle.connection.specs.Faults.{kept_small}
use Rattle.connection.specs.Turned.{numbered, turn, near, unaltered, first_as, first_record, taken_by, free_at, lets_in, let_in, opens_at, opened_at, by_own, request_as, Asks, replied, one_way_as, Hears, overheard, Alive, Turned, not_open, request, one_way, gone_by, GoesAway}

-- ---- an opening

pub some_at : (at : ℕ) → at < 24 → 1 ≡ free_at at
unfolding free_at
some_at at l = let x = lt-ltb at 24 l in rw (x, free_at) refl

pub none_at : (at : ℕ) → 24 ≤ at → 0 ≡ free_at at
unfolding free_at
none_at at l = let x = le-ltb at 24 l in rw (x, free_at) refl

module _ (id : ℕ) {r : Record} where
  pub first_request : id % 4 ≡ 0 → r ≡ record_at REQUEST id no_cells → r ≡ first_record id
  unfolding first_as numbers_of place_in map_state phase_of stated_in is_stated length_of sum_in part_of
  first_request e q = q ∙ rw e refl

  pub first_one_way : (id % 4 ≡ 0 → ⊥) → r ≡ record_at UNTYPED id no_cells → r ≡ first_record id
  unfolding first_as one_way_record numbers_of place_in phase_of stated_in is_stated length_of sum_in part_of
  first_one_way n q = q ∙ by (id % 4) n
    where
      by : (k : ℕ) → (k ≡ 0 → ⊥) → record_at UNTYPED id no_cells ≡ first_as k id
      by zero z = absurd (z refl)
      by (suc k) z = refl

module _ (id : ℕ) (r : Record) {q : Record} where
  pub taken_first : (n : ℕ) → n ≡ 0 → q ≡ first_record id → q ≡ taken_by n id r
  unfolding taken_by
  taken_first zero e f = f
  taken_first (suc n) e f = absurd (omega arith)

  pub taken_none : (n : ℕ) → (n ≡ 0 → ⊥) → q ≡ r → q ≡ taken_by n id r
  unfolding taken_by
  taken_none zero e f = absurd (e refl)
  taken_none (suc n) e f = f

pub opened_so : (d : Doors) (f : Found) (id : ℕ) {n : ℕ} {o : Opening} {q : Record} {p : Report} → n ≡ free_at f.at → o ≡ opened_of d id n
    → q ≡ taken_by o.number id f.row → p ≡ numbered o.number → near o.doors q p ≡ opens_at d f id
opened_so d f id {n} {o} {q} {p} en eo eq ep =
    ap (λ x. near o.doors x p) eq ∙ ap (near o.doors (taken_by o.number id f.row)) ep ∙ ap (lets_in f id) (eo ∙ ap (opened_of d id) en)

module _ (c : Connection) (f : Found) (id : ℕ) where
  -- AN OPENING THAT IS REFUSED ALTERS NOTHING, unless it was barred
  pub opening_refused : let n = (opened_at c f id).report.number in (n ≡ 0 → ⊥) → (n ≡ REQUEST-REJECTED → ⊥) → opened_at c f id ≡ unaltered n c f
  opening_refused = by (went (doors_in c) id (free_at f.at))
    where
      by : {o : Opening} → Went (doors_in c) id (free_at f.at) o → (o.number ≡ 0 → ⊥) → (o.number ≡ REQUEST-REJECTED → ⊥) → let_in c f id o ≡ unaltered o.number c f
      by (doors.refused n z) x y = ap (λ q. turn c q (numbered n)) (sym (taken_none id f.row n z refl))
      by (barred k e) x y = absurd (y refl)
      by (a_request k e l r) x y = absurd (x refl)
      by (a_one_way k e l r) x y = absurd (x refl)

-- ---- a call on an open stream

module _ (r : Record) (allow : ℕ) (piece : List ℕ) {own : Own} {a : Reply} where
  -- accepted, it is still open
  keeps_on : {want : State Message → Reply} → request_as own allow piece r ≡ want → Keeps r want a → Asks r own allow piece a
  keeps_on e k = record { answers = rw e k.answers; stays = λ z. inl (k.stays z) }

  pub asks_feed : own ≡ Own.Feed → Keeps r (fed_as r allow piece) a → Asks r own allow piece a
  unfolding by_own
  asks_feed e = keeps_on (rw e refl)

  pub asks_give : own ≡ Own.Give → Keeps r (given_as r piece) a → Asks r own allow piece a
  unfolding by_own
  asks_give e = keeps_on (rw e refl)

  pub asks_end : own ≡ Own.End → Answered r (ended_as r) a → Asks r own allow piece a
  unfolding by_own ended_by frees freed_if number_of answers named_in answer-named house_leaves leaves
  asks_end e x = rw e (record { answers = x; stays = left x })
    where
      whole-free : Open r → (v : Verdict) → (ended_by r v).number ≡ 0 → Open (ended_by r v).row ⊎ Vacant (ended_by r v).row
      whole-free o whole z = inr refl
      whole-free o (fault code place) z = inl (rw z o)
      whole-free o (waits place) z = absurd (omega arith)

      left : Answered r (ended_as r) a → a.number ≡ 0 → Open a.row ⊎ Vacant a.row
      left (shut n q) z = let y : a.number ≡ NOT-OPEN = ap (λ x. x.number) q in absurd (omega arith)
      left (opened o q) z = rw q (whole-free o (finish (rules.request document) 0 (state_in r)) (rw q at z))

  pub asks_reset : own ≡ Own.Reset → Answered r (reset_as r) a → Asks r own allow piece a
  unfolding by_own
  asks_reset e x = rw e (record { answers = x; stays = left x })
    where
      left : Answered r (reset_as r) a → a.number ≡ 0 → Open a.row ⊎ Vacant a.row
      left (shut n q) z = let y : a.number ≡ NOT-OPEN = ap (λ x. x.number) q in absurd (omega arith)
      left (opened o q) z = inr (ap (λ x. x.row) q)

module _ (r : Record) (d : Side) (allow : ℕ) (piece : List ℕ) {own : Own} {a : Heard} where
  pub hears_feed : own ≡ Own.Feed → FedAs r d allow piece a → Hears r d own allow piece a
  unfolding by_own
  hears_feed e x = rw e (record { answers = x.answers; stays = λ h z. x.stays h })

  -- no feed
  hears_other : {want : OneState → Heard} → one_way_as own allow piece r d ≡ want → by_own {A = ℕ} own 1 0 0 0 ≡ 0 → HeardAs r d want a → Hears r d own allow piece a
  unfolding by_own
  hears_other e n x = record { answers = rw e x; stays = λ h z. (let y : ◌≡◌ {A = ℕ} 1 0 = rw z at n in absurd (omega arith)) }

  pub hears_give : own ≡ Own.Give → HeardAs r d (given_here r d) a → Hears r d own allow piece a
  unfolding by_own
  hears_give e = hears_other (rw e refl) (rw e refl)

  pub hears_end : own ≡ Own.End → HeardAs r d (closed_here r d) a → Hears r d own allow piece a
  unfolding by_own
  hears_end e = hears_other (rw e refl) (rw e refl)

  pub hears_reset : own ≡ Own.Reset → HeardAs r d (closed_here r d) a → Hears r d own allow piece a
  unfolding by_own
  hears_reset e = hears_other (rw e refl) (rw e refl)

  pub hears_close : (own ≡ Own.End) ⊎ (own ≡ Own.Reset) → HeardAs r d (closed_here r d) a → Hears r d own allow piece a
  hears_close (inl e) = hears_end e
  hears_close (inr e) = hears_reset e

module _ {c : Connection} {f : Found} {call : Call} {own : Own} (id allow : ℕ) {piece : List ℕ} {t : Turn} (live : Alive c.doors f) (n : call ≡ Call.On own) where
  pub past_row : 24 ≤ f.at → t ≡ unaltered NOT-OPEN c f → Turned c f call id allow piece t
  past_row l q = not_open live n (λ w x. absurd (omega arith)) q

  module _ (w : f.at < 24) where
    pub on_request : {a : Reply} → f.row.kind ≡ REQUEST → Asks f.row own allow piece a → t ≡ replied c a → Turned c f call id allow piece t
    on_request {a} k m q = by m.answers
      where
        none : (Open f.row → ⊥) → f.at < 24 → Open f.row ⊎ Heeds f.row → ⊥
        none s x (inl o) = s o
        none s x (inr h) = let z = h.kind in omega arith

        by : Answered f.row (request_as own allow piece f.row) a → Turned c f call id allow piece t
        by (shut s e) = not_open live n (none s) (q ∙ ap (replied c) e ∙ ap (λ x. turn x f.row (numbered NOT-OPEN)) (sym (kept_small c 1 (omega arith))))
        by (opened o e) = request live n w o (q ∙ ap (replied c) e) (rw q m.stays)

    pub on_one_way : {d : Side} {a : Heard} → (f.row.kind ≡ REQUEST → ⊥) → d ≡ side_in c → Hears f.row d own allow piece a → t ≡ overheard c a → Turned c f call id allow piece t
    on_one_way {d} {a} k e h q = by (rw e at h)
      where
        none : (Heeds f.row → ⊥) → f.at < 24 → Open f.row ⊎ Heeds f.row → ⊥
        none s x (inl o) = k o.kind
        none s x (inr h) = s h

        by : Hears f.row (side_in c) own allow piece a → Turned c f call id allow piece t
        by m = go m.answers
          where
            go : HeardAs f.row (side_in c) (one_way_as own allow piece f.row (side_in c)) a → Turned c f call id allow piece t
            go (side.shut s x) = not_open live n (none s) (q ∙ ap (overheard c) x ∙ ap (λ x. turn x f.row (numbered NOT-OPEN)) (sym (kept_small c 1 (omega arith))))
            go (side.opened o x) = one_way live n w o (q ∙ ap (overheard c) x) (rw x at (m.stays o))

-- ---- our GOAWAY

pub goes_so : {d : Doors} {id : ℕ} {before after : List ℕ} {g : Goaway} → Sends d (stream_id id) before g after → GoesAway d id before (gone_by g) after
goes_so {g = g} s = record { sent = g; sends = s; is = refl }

-- it alters its own two fields alone
gone_alone : (d : Doors) (id : StreamId) (w : Write) → let n = (sending_of d id w).doors in n ≡ record { code = d.code; requests = d.requests; oneways = d.oneways; goaways = n.goaways; goaway = n.goaway }
unfolding sending_of
gone_alone d id (refused n) = refl
gone_alone d id (wrote bytes) = refl

pub goes_alone : {d : Doors} {id : ℕ} {before after : List ℕ} {r : Gone} → GoesAway d id before r after
    → r.doors ≡ record { code = d.code; requests = d.requests; oneways = d.oneways; goaways = r.doors.goaways; goaway = r.doors.goaway }
goes_alone {d} {id} {before} g = rw g.is (rw g.sends.answers (gone_alone d (stream_id id) (write_of d.code d id (length before))))
