-- What a call leaves of a record: the same, a free one, or one of the same stream. Assumes nothing.
use Rattle.std.proofs.Math.Path.{◌≡◌, refl}
use Prim.Native.Nat.{ℕ, zero, suc, ◌%◌, ◌≤◌, ◌<◌, ◌^◌}
use native.Mathlib.Omega.{arith}
use mathlib.Core.List.{List, [], ◌∷◌}
use Rattle.std.specs.Prelude.{Bool, ◌⊎◌}
use Rattle.std.proofs.Math.Bool.{true, false}
use Rattle.std.proofs.Math.Logic.{inl, inr}
use Rattle.rules.specs.Block.{Lines, unreadable, readable, lines}
use Rattle.rules.specs.Reading.{Verdict, whole, fault, waits}
use Rattle.rules.specs.Message.{Message}
use Rattle.rules.specs.Request.{document, request}
use Rattle.rules.specs.Control.{Control}
use Rattle.rules.specs.OneWay.{Qpack, encoder, decoder, a_control, a_qpack, skipped, Typed, refuse, is, type_rule}
use Rattle.meaning.specs.Machine.{Prog, fresh, Fed, going, value, fed, State, in_type, in_length, in_payload, due, Outcome, lives, dies, given, finish}
use Rattle.meaning.specs.Feed as F
use Rattle.meaning.specs.OneWayFeed as one
use Rattle.meaning.specs.OneWayFeed.{OneState, in_stream_type, in_control, in_qpack, in_skipped, OneOutcome, OneEvent, of_frames, qpack_bytes}
use Rattle.frames.specs.Modes.{mode_of}
use Rattle.frames.specs.declared.Cells.{Cells}
use Rattle.record.specs.Kinds.{REQUEST, UNTYPED, CONTROL}
use Rattle.record.specs.declared.Record.{Record}
use Rattle.varint.specs.ByByte.{prog, part_of, fresh_good}
use Rattle.frames.specs.Uses.{place_of}
use Rattle.frames.specs.Heads.{head_state}
use Rattle.frames.specs.Answers.{mode_state}
use Rattle.record.specs.Row.{phase_of, stated_in, is_stated, length_of, sum_in, numbers_of, place_in, one_way_record}
use Rattle.record.specs.Tests.{bare_shape, sane_with}
use Rattle.requests.specs.declared.Reply.{Reply}
use Rattle.requests.specs.Reply as reply
use Rattle.requests.specs.Reply.{freed_if}
use Rattle.oneway.specs.Types.{types_of, control_first}
use Rattle.oneway.specs.Stands.{one_state_at}
use Rattle.oneway.specs.Closed.{closes}
use Rattle.oneway.specs.declared.calls.Side.{Side}
use Rattle.oneway.specs.declared.calls.Heard.{Heard}
use Rattle.oneway.specs.Mirror.{side_after}
use Rattle.oneway.specs.Heard as heard
use Rattle.oneway.specs.Heard.{Heeds, feeding, closed_by}
use Rattle.connection.specs.declared.Own.{Own}
use Rattle.connection.specs.Whose.{Vacant}
use Rattle.connection.specs.Turned.{by_own, request_as, one_way_as}

-- what holds of each call's answer holds of any call's
module _ {A : Type 0} (P : A → Type 0) {f g e r : A} where
  pub by_any : (own : Own) → (own ≡ Own.Feed → P f) → P g → P e → P r → P (by_own own f g e r)
  unfolding by_own
  by_any Own.Feed x y z w = x refl
  by_any Own.Give x y z w = y
  by_any Own.End x y z w = z
  by_any Own.Reset x y z w = w

-- ---- of a request's

pub data Left (r : Record) (a : Reply) : Type 0 where
  goes_on : a.number ≡ 0 → a.row.kind ≡ REQUEST → a.row.id ≡ r.id → Left r a
  same : a.row ≡ r → Left r a
  freed : Vacant a.row → Left r a

module _ (r : Record) where
  by_number : {a : Reply} (b : Bool) → a.row ≡ freed_if b r → Left r a
  unfolding freed_if
  by_number true e = freed e
  by_number false e = same e

  said_left : (u h : ℕ) (e : F.Event) (o : Outcome Message) → Left r (reply.said_by r u h e o)
  unfolding reply.said_by
  said_left u h F.quiet (dies code) = by_number _ refl
  said_left u h (F.content_bytes len) (dies code) = by_number _ refl
  said_left u h (F.section_bytes len false) (dies code) = by_number _ refl
  said_left u h (F.section_bytes len true) (dies code) = by_number _ refl
  said_left u h (F.taken k payload) (dies code) = by_number _ refl
  said_left u h F.quiet (lives s) = goes_on refl refl refl
  said_left u h (F.content_bytes len) (lives s) = goes_on refl refl refl
  said_left u h (F.section_bytes len false) (lives s) = goes_on refl refl refl
  said_left u h (F.section_bytes len true) (lives s) = goes_on refl refl refl
  said_left u h (F.taken k payload) (lives s) = goes_on refl refl refl

  due_left : {x y : Reply} → Left r x → Left r y → (s : State Message) → Left r (reply.unless_due s x y)
  unfolding reply.unless_due
  due_left x y (in_type g m) = y
  due_left x y (in_length t g m) = y
  due_left x y (in_payload u k left m) = y
  due_left x y (due t m) = x

  taken_left : (o : Outcome Message) → Left r (reply.taken_as r o)
  unfolding reply.taken_as
  taken_left (dies code) = by_number _ refl
  taken_left (lives s) = goes_on refl refl refl

  read_left : (s : State Message) (l : Lines) → Left r (reply.read_as r s l)
  unfolding reply.read_as
  read_left s (unreadable f) = same refl
  read_left s (readable block) = taken_left (given (request document) block s)

  end_left : (v : Verdict) → Left r (reply.ended_by r v)
  unfolding reply.ended_by
  end_left whole = freed refl
  end_left (fault code place) = by_number _ refl
  end_left (waits place) = same refl

  pub request_left : (own : Own) (allow : ℕ) (piece : List ℕ) (s : State Message) → Left r (request_as own allow piece r s)
  request_left own allow piece s =
      let f = F.feed (request document) allow s piece in
      by_any (Left r) own
      (λ z. due_left (same refl) (said_left f.used f.heads f.event f.after) s)
      (due_left (read_left s (lines piece)) (same refl) s)
      (end_left (finish (request document) 0 s))
      (freed refl)

-- ---- of a one-way stream's: a stream that goes on is where the definition's feed leaves it

pub data Heeded (r : Record) (d : Side) (own : Own) (allow : ℕ) (piece : List ℕ) (s : OneState) (a : Heard) : Type 0 where
  goes_on : own ≡ Own.Feed → (after : OneState) → (feeding d allow piece s).after ≡ one.lives after → a.row ≡ one_way_record r.id after → a.side ≡ side_after d after → Heeded r d own allow piece s a
  same : a.row ≡ r → a.side ≡ d → Heeded r d own allow piece s a
  freed : Vacant a.row → a.side ≡ d → Heeded r d own allow piece s a

module _ (r : Record) (d : Side) (own : Own) (allow : ℕ) (piece : List ℕ) (s : OneState) where
  said_heeded : own ≡ Own.Feed → (u h : ℕ) (e : OneEvent) (o : OneOutcome) → (feeding d allow piece s).after ≡ o → Heeded r d own allow piece s (heard.said_by r d u h e o)
  unfolding heard.said_by
  said_heeded z u h (of_frames e) (one.dies code) q = same refl refl
  said_heeded z u h (qpack_bytes k len) (one.dies code) q = same refl refl
  said_heeded z u h (of_frames e) (one.lives x) q = goes_on z x q refl refl
  said_heeded z u h (qpack_bytes k len) (one.lives x) q = goes_on z x q refl refl

  close_heeded : (n : ℕ) → Heeded r d own allow piece s (closed_by r d n)
  unfolding closed_by
  close_heeded zero = freed refl refl
  close_heeded (suc n) = same refl refl

  pub one_way_left : Heeded r d own allow piece s (one_way_as own allow piece r d s)
  one_way_left =
      let f = feeding d allow piece s in
      by_any (Heeded r d own allow piece s) own
      (λ z. said_heeded z f.used f.heads f.event f.after refl)
      (same refl refl)
      (close_heeded (closes s))
      (close_heeded (closes s))

-- its record is a one-way stream's, of the same ID
pub data Standing (id : ℕ) (r : Record) : OneState → Type 0 where
  controls : {s : State Control} → r.id ≡ id → r.kind ≡ CONTROL → Standing id r (in_control s)
  others : {s : OneState} → r.id ≡ id → UNTYPED ≤ r.kind → (r.kind ≡ CONTROL → ⊥) → Standing id r s

pub standing : (id : ℕ) (s : OneState) → Standing id (one_way_record id s) s
unfolding one_way_record
standing id (in_stream_type g) = others refl (omega arith) (λ e. omega arith)
standing id (in_control s) = controls refl refl
standing id (in_qpack encoder) = others refl (omega arith) (λ e. omega arith)
standing id (in_qpack decoder) = others refl (omega arith) (λ e. omega arith)
standing id in_skipped = others refl (omega arith) (λ e. omega arith)

-- ---- a control stream comes once

module _ (control encoder decoder allow : ℕ) where
  abbrev seen : List ℕ
  seen = types_of control encoder decoder

  qpack_else : (q : Qpack) (piece : List ℕ) {x : State Control} → (one.qpack_feed q piece).after ≡ one.lives (in_control x) → ⊥
  unfolding one.qpack_feed one.halt
  qpack_else q [] e = let z : ◌≡◌ {A = ℕ} 0 1 = cc in omega arith
  qpack_else q (b ∷ bs) e = let z : ◌≡◌ {A = ℕ} 0 1 = cc in omega arith

  by_type : (t : ℕ) (y : Typed) → type_rule seen t ≡ y → (piece : List ℕ) {x : State Control} → (one.typed_feed allow y piece).after ≡ one.lives (in_control x) → control ≡ 0
  unfolding one.typed_feed one.kind_feed one.halt
  by_type t (refuse code) q piece e = let z : ◌≡◌ {A = ℕ} 0 1 = cc in absurd (omega arith)
  by_type t (is a_control) q piece e = control_first (record { control = control; encoder = encoder; decoder = decoder }) t q
  by_type t (is (a_qpack k)) q piece e = absurd (qpack_else k piece e)
  by_type t (is skipped) q piece e = let z : ◌≡◌ {A = ℕ} 0 1 = cc in absurd (omega arith)

  by_piece : (g : Prog) (piece : List ℕ) {x : State Control} → (one.type_feed seen allow g piece).after ≡ one.lives (in_control x) → control ≡ 0
  unfolding one.type_feed one.halt one.also
  by_piece g [] e = let z : ◌≡◌ {A = ℕ} 0 1 = cc in absurd (omega arith)
  by_piece g (b ∷ bs) {x} e = go (λ g' q. by_piece g' bs q) (fed g b) e
    where
      go : ((g' : Prog) → (one.type_feed seen allow g' bs).after ≡ one.lives (in_control x) → control ≡ 0) → (y : Fed) → one.OneFeeding.after (elim y [ going g' ↦ one.type_feed seen allow g' bs | value t ↦ one.typed_feed allow (type_rule seen t) bs ]) ≡ one.lives (in_control x) → control ≡ 0
      go on (going g') q = on g' q
      go on (value t) q = by_type t (type_rule seen t) refl bs q

  -- A FEED THAT LEAVES A CONTROL STREAM began with it, or none had come
  pub control_once : (s : OneState) (piece : List ℕ) {x : State Control} → (one.feed seen allow s piece).after ≡ one.lives (in_control x) → (control ≡ 0) ⊎ ((y : State Control) × (s ≡ in_control y))
  unfolding one.feed one.kind_feed
  control_once (in_stream_type g) piece e = inl (by_piece g piece e)
  control_once (in_control y) piece e = inr (y, refl)
  control_once (in_qpack q) piece e = absurd (qpack_else q piece e)
  control_once in_skipped piece e = let z : ◌≡◌ {A = ℕ} 0 1 = cc in absurd (omega arith)

-- a record that means a control stream is one's
pub control_kind : (c : Cells) (p : Control) (k : List ℕ) (kind : ℕ) {y : State Control} → one_state_at kind c p k ≡ in_control y → kind ≡ CONTROL
unfolding one_state_at
control_kind c p k zero e = let z : ◌≡◌ {A = ℕ} 0 1 = cc in absurd (omega arith)
control_kind c p k (suc zero) e = let z : ◌≡◌ {A = ℕ} 0 1 = cc in absurd (omega arith)
control_kind c p k (suc (suc zero)) e = let z : ◌≡◌ {A = ℕ} 0 1 = cc in absurd (omega arith)
control_kind c p k (suc (suc (suc zero))) e = refl
control_kind c p k (suc (suc (suc (suc zero)))) e = let z : ◌≡◌ {A = ℕ} 0 1 = cc in absurd (omega arith)
control_kind c p k (suc (suc (suc (suc (suc zero))))) e = let z : ◌≡◌ {A = ℕ} 0 1 = cc in absurd (omega arith)
control_kind c p k (suc (suc (suc (suc (suc (suc n)))))) e = let z : ◌≡◌ {A = ℕ} 0 1 = cc in absurd (omega arith)

-- A ONE-WAY STREAM BEGINS OPEN, with nothing read
pub begins_heeding : (id : ℕ) → id < 2 ^ 62 → id % 4 ≡ 2 → Heeds (one_way_record id (in_stream_type fresh))
unfolding one_way_record numbers_of place_in part_of phase_of stated_in is_stated length_of sum_in mode_state mode_of head_state prog place_of
begins_heeding id l e = record {
  sound = record {
    fit = record {
      sane = sane_with _ (omega arith) (omega arith) (omega arith) (omega arith) (omega arith) (λ m. fresh_good) (λ a b d. absurd (omega arith));
      shaped = bare_shape id _ l 2 (omega arith) (omega arith) (λ x. omega arith) e refl refl (λ x. refl);
    };
    own = refl;
  };
  kind = omega arith;
  room = λ x. absurd (omega arith);
}
