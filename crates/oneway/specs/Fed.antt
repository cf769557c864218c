-- One feed of a one-way stream, from its parts: a law for each way it goes. Assumes nothing.
use Rattle.std.specs.Prelude.{◌≡◌, Ok, Err}
use Rattle.std.proofs.Math.Path.{refl, ap}
use Rattle.std.proofs.Common.{sym, ◌∙◌, length-drop}
use Prim.Native.Nat.{ℕ, zero, suc, ◌+◌, ◌-◌, ◌≤◌, ◌<◌}
use Rattle.std.proofs.Math.Nat.{add-zero}
use native.Mathlib.Omega.{arith}
use mathlib.Core.List.{List, [], ◌∷◌}
use Rattle.std.proofs.Math.ListN.{length, drop, drop_of_length-le}
use Rattle.rules.specs.declared.codes.Code.{Code}
use Rattle.rules.specs.Named.{code_of}
use Rattle.rules.specs.Control.{Control, unset, control}
use Rattle.rules.specs.OneWay.{Qpack, encoder, decoder, a_control, a_qpack, skipped, Typed, refuse, is, type_rule}
use Rattle.meaning.specs.Machine.{between}
use Rattle.meaning.specs.Feed as F
use Rattle.meaning.specs.OneWayFeed.{OneFeeding, lives, dies, in_stream_type, in_qpack, qpack_bytes, of_control, halt, qpack_feed, kind_feed, typed_feed, type_feed, feed}
use Rattle.varint.specs.declared.Part.{Part}
use Rattle.varint.specs.ByByte.{part, prog, Good}
use Rattle.frames.specs.Modes.{UNSET, mode_of}
use Rattle.frames.specs.declared.Cells.{Cells}
use Rattle.frames.specs.Both as place
use Rattle.frames.specs.Uses.{place_of, a_place}
use Rattle.frames.specs.Heads.{head_state}
use Rattle.frames.specs.Answers.{mode_state, state_of, StandsIn, Sane}
use Rattle.frames.specs.declared.Event.TheVariants as event
use Rattle.oneway.specs.declared.Event.TheVariants as one
use Rattle.oneway.specs.declared.Seen.{Seen}
use Rattle.oneway.specs.declared.OneWay.{OneWay}
use Rattle.oneway.specs.declared.OneAnswer.{OneAnswer}
use Rattle.oneway.specs.Types.{seen_of, KindOf}
use Rattle.oneway.specs.Stands.{one_state_at, one_state, OneStands, qpack_of, one_answer_at, OneSoundAt, OneSound, cells_of, OneShapeAt, OneShape, StandsAt, Says, OneFed}
use Rattle.oneway.specs.Typed.{one_past, one_past_none, TypeWhole, TypeCut}
use Rattle.oneway.specs.Frames.{frame_sane, frames_stand, frames_from, Controlled}
use Rattle.record.specs.Kinds.{UNTYPED, CONTROL, ENCODER, DECODER, SKIPPED}

abbrev pub untyped : Cells → OneWay
untyped c = record { kind = 2; cells = c }

abbrev pub quiet_at : (to : ℕ) → OneWay → OneAnswer
quiet_at to w = record { event = one.Frames event.Nothing; start = to; len = 0; used = to; heads = 0; stream = w }

-- ---- a QPACK or skipped stream

-- what the definition makes of the rest of a piece, by the kind's number
unfoldable pub bare_feed : (kind : ℕ) → List ℕ → OneFeeding
bare_feed zero rest = kind_feed 0 skipped rest
bare_feed (suc zero) rest = kind_feed 0 skipped rest
bare_feed (suc (suc zero)) rest = kind_feed 0 skipped rest
bare_feed (suc (suc (suc zero))) rest = kind_feed 0 skipped rest
bare_feed (suc (suc (suc (suc zero)))) rest = qpack_feed encoder rest
bare_feed (suc (suc (suc (suc (suc zero))))) rest = qpack_feed decoder rest
bare_feed (suc (suc (suc (suc (suc (suc n)))))) rest = kind_feed 0 skipped rest

abbrev pub Bare : (s : List ℕ) (at : ℕ) → OneWay → OneAnswer → Type 0
Bare s at w r = (before : OneWay) → Says s before (OneShape w) (λ p k. Unit {0}) (λ p k. one_past at (bare_feed w.kind (drop at s))) r

bare_sound : (kind : ℕ) (c : Cells) → ENCODER ≤ kind → OneSoundAt kind c
unfolding OneSoundAt
bare_sound zero c h = absurd (omega arith)
bare_sound (suc zero) c h = absurd (omega arith)
bare_sound (suc (suc zero)) c h = absurd (omega arith)
bare_sound (suc (suc (suc zero))) c h = absurd (omega arith)
bare_sound (suc (suc (suc (suc n)))) c h = tt

stands_bare : (kind : ℕ) (c : Cells) (p : Control) → ENCODER ≤ kind → StandsAt kind c p
unfolding StandsAt
stands_bare zero c p h = absurd (omega arith)
stands_bare (suc zero) c p h = absurd (omega arith)
stands_bare (suc (suc zero)) c p h = absurd (omega arith)
stands_bare (suc (suc (suc zero))) c p h = absurd (omega arith)
stands_bare (suc (suc (suc (suc n)))) c p h = tt

-- a QPACK stream's piece
some_qpack : (q : Qpack) (rest : List ℕ) → 0 < length rest → qpack_feed q rest ≡ record { used = length rest; heads = 0; event = qpack_bytes q (length rest); after = lives (in_qpack q) }
unfolding qpack_feed
some_qpack q [] h = absurd (omega arith)
some_qpack q (b ∷ bs) h = refl

no_qpack : (q : Qpack) (rest : List ℕ) → rest ≡ [] → qpack_feed q rest ≡ halt (lives (in_qpack q))
unfolding qpack_feed
no_qpack q rest e = rw e refl

module _ (s : List ℕ) (at : ℕ) (w : at ≤ length s) (c : Cells) where
  left : length (drop at s) ≡ length s - at
  left = length-drop at s

  skipped_all : (kind : ℕ) (p : Control) (k : List ℕ) → DECODER < kind → one_past at (bare_feed kind (drop at s)) ≡ one_answer_at (one.Frames event.Nothing) (length s) 0 (length s) 0 (record { kind = kind; cells = c }) p k s
  unfolding one_past bare_feed kind_feed one_answer_at one_state_at
  skipped_all zero p k h = absurd (omega arith)
  skipped_all (suc zero) p k h = absurd (omega arith)
  skipped_all (suc (suc zero)) p k h = absurd (omega arith)
  skipped_all (suc (suc (suc zero))) p k h = absurd (omega arith)
  skipped_all (suc (suc (suc (suc zero)))) p k h = absurd (omega arith)
  skipped_all (suc (suc (suc (suc (suc zero))))) p k h = absurd (omega arith)
  skipped_all (suc (suc (suc (suc (suc (suc n)))))) p k h = let e : at + length (drop at s) ≡ length s = omega (arith, left) in rw e refl

  qpack_all : (kind : ℕ) (p : Control) (k : List ℕ) → ENCODER ≤ kind → kind ≤ DECODER → at < length s
      → one_past at (bare_feed kind (drop at s)) ≡ one_answer_at one.Qpack at (length s - at) (length s) 0 (record { kind = kind; cells = c }) p k s
  unfolding one_past bare_feed one_answer_at one_state_at qpack_of
  qpack_all zero p k h l m = absurd (omega arith)
  qpack_all (suc zero) p k h l m = absurd (omega arith)
  qpack_all (suc (suc zero)) p k h l m = absurd (omega arith)
  qpack_all (suc (suc (suc zero))) p k h l m = absurd (omega arith)
  qpack_all (suc (suc (suc (suc zero)))) p k h l m = ap (one_past at) (some_qpack encoder (drop at s) (omega (arith, left))) ∙ (let e : at + length (drop at s) ≡ length s = omega (arith, left) in let f = left in rw (e, f) refl)
  qpack_all (suc (suc (suc (suc (suc zero))))) p k h l m = ap (one_past at) (some_qpack decoder (drop at s) (omega (arith, left))) ∙ (let e : at + length (drop at s) ≡ length s = omega (arith, left) in let f = left in rw (e, f) refl)
  qpack_all (suc (suc (suc (suc (suc (suc n)))))) p k h l m = absurd (omega arith)

  qpack_none : (kind : ℕ) (p : Control) (k : List ℕ) → ENCODER ≤ kind → kind ≤ DECODER → length s ≤ at
      → one_past at (bare_feed kind (drop at s)) ≡ one_answer_at (one.Frames event.Nothing) at 0 at 0 (record { kind = kind; cells = c }) p k s
  unfolding one_past bare_feed one_answer_at one_state_at halt
  qpack_none zero p k h l m = absurd (omega arith)
  qpack_none (suc zero) p k h l m = absurd (omega arith)
  qpack_none (suc (suc zero)) p k h l m = absurd (omega arith)
  qpack_none (suc (suc (suc zero))) p k h l m = absurd (omega arith)
  qpack_none (suc (suc (suc (suc zero)))) p k h l m = ap (one_past at) (no_qpack encoder (drop at s) (drop_of_length-le s {i = at} m)) ∙ (let e = add-zero at in rw e refl)
  qpack_none (suc (suc (suc (suc (suc zero))))) p k h l m = ap (one_past at) (no_qpack decoder (drop at s) (drop_of_length-le s {i = at} m)) ∙ (let e = add-zero at in rw e refl)
  qpack_none (suc (suc (suc (suc (suc (suc n)))))) p k h l m = absurd (omega arith)

module _ (s : List ℕ) (at : ℕ) (w : at ≤ length s) (o : OneWay) where
  pub bare_skipped : {r : OneAnswer} → DECODER < o.kind → r ≡ quiet_at (length s) o → Bare s at o r
  bare_skipped h e b = rw e (record {
    is = λ p k st. skipped_all s at w o.cells o.kind p k h;
    within = omega arith;
    part = omega arith;
    sound = bare_sound o.kind o.cells (omega arith);
    shaped = λ sh. sh;
    plain = λ sh. tt;
    stays = λ code x. cc;
    behind = λ which x. cc;
    held = λ x. cc;
    leaves = λ g p k st. stands_bare o.kind o.cells p (omega arith);
  })

  pub bare_bytes : ENCODER ≤ o.kind → o.kind ≤ DECODER → at < length s
      → Bare s at o (record { event = one.Qpack; start = at; len = length s - at; used = length s; heads = 0; stream = o })
  bare_bytes h l m b = record {
    is = λ p k st. qpack_all s at w o.cells o.kind p k h l m;
    within = omega arith;
    part = omega arith;
    sound = bare_sound o.kind o.cells h;
    shaped = λ sh. sh;
    plain = λ sh. tt;
    stays = λ code x. cc;
    behind = λ which x. cc;
    held = λ x. cc;
    leaves = λ g p k st. stands_bare o.kind o.cells p (omega arith);
  }

  pub bare_none : {r : OneAnswer} → ENCODER ≤ o.kind → o.kind ≤ DECODER → length s ≤ at → r ≡ quiet_at at o → Bare s at o r
  bare_none h l m e b = rw e (record {
    is = λ p k st. qpack_none s at w o.cells o.kind p k h l m;
    within = w;
    part = omega arith;
    sound = bare_sound o.kind o.cells h;
    shaped = λ sh. sh;
    plain = λ sh. tt;
    stays = λ code x. cc;
    behind = λ which x. cc;
    held = λ x. cc;
    leaves = λ g p k st. stands_bare o.kind o.cells p (omega arith);
  })

-- ---- what is sound, by its kind

pub sound_type : (kind : ℕ) (c : Cells) → OneSoundAt kind c → kind ≡ UNTYPED → Good (part c.acc c.due)
unfolding OneSoundAt
sound_type kind c g e = rw e at g

pub sound_control : (kind : ℕ) (c : Cells) → OneSoundAt kind c → kind ≡ CONTROL → Sane c × (UNSET ≤ c.phase)
unfolding OneSoundAt
sound_control kind c g e = rw e at g

pub sound_bare : (kind : ℕ) (c : Cells) → OneSoundAt kind c → (kind ≡ UNTYPED → ⊥) → (kind ≡ CONTROL → ⊥) → ENCODER ≤ kind
unfolding OneSoundAt
sound_bare zero c g n m = absurd g
sound_bare (suc zero) c g n m = absurd g
sound_bare (suc (suc zero)) c g n m = absurd (n refl)
sound_bare (suc (suc (suc zero))) c g n m = absurd (m refl)
sound_bare (suc (suc (suc (suc k)))) c g n m = omega arith

-- ---- a stream whose type is known

bare_state : (kind : ℕ) (c : Cells) (seen : List ℕ) (allow : ℕ) (p : Control) (k rest : List ℕ) → ENCODER ≤ kind → feed seen allow (one_state_at kind c p k) rest ≡ bare_feed kind rest
unfolding one_state_at bare_feed feed kind_feed
bare_state zero c seen allow p k rest h = absurd (omega arith)
bare_state (suc zero) c seen allow p k rest h = absurd (omega arith)
bare_state (suc (suc zero)) c seen allow p k rest h = absurd (omega arith)
bare_state (suc (suc (suc zero))) c seen allow p k rest h = absurd (omega arith)
bare_state (suc (suc (suc (suc zero)))) c seen allow p k rest h = refl
bare_state (suc (suc (suc (suc (suc zero))))) c seen allow p k rest h = refl
bare_state (suc (suc (suc (suc (suc (suc n)))))) c seen allow p k rest h = refl

module _ (o : OneWay) (seen : Seen) (s : List ℕ) (allow : ℕ) where
  pub fed_bare : {r : OneAnswer} → ENCODER ≤ o.kind → Bare s 0 o r → OneFed o seen s allow r
  fed_bare h bare = let b = bare o in record {
    is = λ p k st. bare_state o.kind o.cells (seen_of seen) allow p k s h ∙ sym (one_past_none _) ∙ b.is p k tt;
    within = b.within;
    part = b.part;
    sound = b.sound;
    shaped = b.shaped;
    plain = b.plain;
    stays = b.stays;
    behind = b.behind;
    held = b.held;
    leaves = λ g p k st. b.leaves g p k tt;
  }

  same_kind : (kind : ℕ) → o.kind ≡ kind → ◌≡◌ {A = OneWay} (record { kind = kind; cells = o.cells }) o
  same_kind kind e = ap (λ n. record { kind = n; cells = o.cells }) (sym e)

  control_stands : (kind : ℕ) (p : Control) (k : List ℕ) → kind ≡ CONTROL → OneStands kind o.cells p k → frames_stand o.cells p k
  unfolding OneStands
  control_stands kind p k e st = rw e at st

  control_state : (kind : ℕ) (p : Control) (k : List ℕ) → kind ≡ CONTROL → feed (seen_of seen) allow (one_state_at kind o.cells p k) s ≡ of_control (F.feed control allow (state_of o.cells p k) s)
  unfolding one_state_at feed
  control_state kind p k e = rw e refl

  pub fed_control : {r : OneAnswer} → o.kind ≡ CONTROL → Controlled s 0 o o.cells allow r → OneFed o seen s allow r
  fed_control e b = record {
    is = λ p k st. control_state o.kind p k e ∙ sym (one_past_none _) ∙ b.is p k (control_stands o.kind p k e st);
    within = b.within;
    part = b.part;
    sound = b.sound;
    shaped = λ sh. b.shaped (rw e at sh, sh);
    plain = λ sh. b.plain (rw e at sh, sh);
    stays = b.stays;
    behind = b.behind;
    held = b.held;
    leaves = λ g p k st. b.leaves g p k (control_stands o.kind p k e st);
  }

-- ---- a stream whose type is read

fresh_frames : (k : List ℕ) → state_of (cells_of 0 0 3) unset k ≡ between unset
unfolding mode_state mode_of head_state prog
fresh_frames k = refl

fresh_stands : StandsIn (cells_of 0 0 3) (place.of_control unset)
unfolding place_of
fresh_stands = a_place

fresh_shape : OneShapeAt 3 (cells_of 0 0 3)
unfolding OneShapeAt
fresh_shape = (omega arith, λ h. absurd (omega arith))

-- the code's answer says what follows
refused_feed : (allow : ℕ) (x : Typed) (code : Code) (rest : List ℕ) → KindOf (Err code) x → typed_feed allow x rest ≡ halt (dies (code_of code))
unfolding typed_feed
refused_feed allow (refuse x) code rest e = ap (λ y. halt (dies y)) e
refused_feed allow (is k) code rest e = absurd e

control_feeds : (allow : ℕ) (x : Typed) (kind : ℕ) (rest : List ℕ) → KindOf (Ok kind) x → kind ≡ CONTROL → typed_feed allow x rest ≡ of_control (F.feed control allow (between unset) rest)
unfolding typed_feed kind_feed
control_feeds allow (refuse c) kind rest e h = absurd e
control_feeds allow (is a_control) kind rest e h = refl
control_feeds allow (is (a_qpack encoder)) kind rest e h = absurd (omega arith)
control_feeds allow (is (a_qpack decoder)) kind rest e h = absurd (omega arith)
control_feeds allow (is skipped) kind rest e h = absurd (omega arith)

bare_feeds : (allow : ℕ) (x : Typed) (kind : ℕ) (rest : List ℕ) → KindOf (Ok kind) x → (kind ≡ CONTROL → ⊥) → (typed_feed allow x rest ≡ bare_feed kind rest) × (ENCODER ≤ kind) × (kind ≤ SKIPPED)
unfolding typed_feed kind_feed bare_feed
bare_feeds allow (refuse c) kind rest e n = absurd e
bare_feeds allow (is a_control) kind rest e n = absurd (n e)
bare_feeds allow (is (a_qpack encoder)) kind rest e n = (rw e refl, omega arith, omega arith)
bare_feeds allow (is (a_qpack decoder)) kind rest e n = (rw e refl, omega arith, omega arith)
bare_feeds allow (is skipped) kind rest e n = (rw e refl, omega arith, omega arith)

cut_feed : (seen : List ℕ) (allow a d : ℕ) → type_feed seen allow (prog d a) [] ≡ halt (lives (in_stream_type (prog d a)))
unfolding type_feed
cut_feed seen allow a d = refl

module _ (c : Cells) (seen : Seen) (s : List ℕ) (allow : ℕ) where
  type_state : (f : OneFeeding) (p : Control) (k : List ℕ) → type_feed (seen_of seen) allow (prog c.due c.acc) s ≡ f → feed (seen_of seen) allow (one_state (untyped c) p k) s ≡ f
  unfolding one_state_at feed
  type_state f p k e = e

  pub typed_cut : {e : Part} {d : Cells} {r : OneAnswer} → TypeCut s c.acc c.due e → d ≡ cells_of e.acc e.due 0 → r ≡ quiet_at (length s) (untyped d) → OneFed (untyped c) seen s allow r
  unfolding OneSoundAt OneShapeAt OneStands StandsAt one_past halt one_answer_at one_state_at
  typed_cut {e} q f g = rw (g, f) (record {
    is = λ p k st. type_state _ p k (q.is (seen_of seen) allow) ∙ ended p k;
    within = omega arith;
    part = omega arith;
    sound = q.good;
    shaped = λ sh. refl;
    plain = λ sh. tt;
    stays = λ code x. cc;
    behind = λ which x. cc;
    held = λ x. cc;
    leaves = λ g p k st. st.0;
  })
    where
      ended : (p : Control) (k : List ℕ) → one_past (length s) (type_feed (seen_of seen) allow (prog e.due e.acc) []) ≡ one_answer_at (one.Frames event.Nothing) (length s) 0 (length s) 0 (untyped (cells_of e.acc e.due 0)) p k s
      ended p k = ap (one_past (length s)) (cut_feed (seen_of seen) allow e.acc e.due) ∙ (let y = add-zero (length s) in rw y refl)

  module _ {t next : ℕ} (q : TypeWhole s c.acc c.due t next) where
    known_state : (f : List ℕ → OneFeeding) (p : Control) (k : List ℕ) → typed_feed allow (type_rule (seen_of seen) t) (drop next s) ≡ f (drop next s)
        → feed (seen_of seen) allow (one_state (untyped c) p k) s ≡ one_past next (f (drop next s))
    known_state f p k x = type_state _ p k (q.is (seen_of seen) allow ∙ ap (one_past next) x)

    pub typed_refused : (code : Code) → KindOf (Err code) (type_rule (seen_of seen) t) → Good (part c.acc c.due)
        → OneFed (untyped c) seen s allow (record { event = one.Frames (event.Fault code); start = next; len = 0; used = next; heads = 0; stream = untyped c })
    unfolding OneSoundAt one_past halt one_answer_at
    typed_refused code is-code g = record {
      is = λ p k st. known_state (λ x. halt (dies (code_of code))) p k (refused_feed allow _ code (drop next s) is-code) ∙ refused p k;
      within = q.within;
      part = omega arith;
      sound = g;
      shaped = λ sh. sh;
      plain = λ sh. tt;
      stays = λ other x. refl;
      behind = λ which x. cc;
      held = λ x. cc;
      leaves = λ g p k st. absurd g;
    }
      where
        refused : (p : Control) (k : List ℕ) → one_past next (halt (dies (code_of code))) ≡ one_answer_at (one.Frames (event.Fault code)) next 0 next 0 (untyped c) p k s
        refused p k = let y = add-zero next in rw y refl

    untyped_stands : (p : Control) (k : List ℕ) → OneStands 2 c p k → frames_stand (cells_of 0 0 3) p k
    unfolding OneStands
    untyped_stands p k st = (rw st.0 fresh_stands, st.1)

    is_unset : (p : Control) (k : List ℕ) → OneStands 2 c p k → p ≡ unset
    unfolding OneStands
    is_unset p k st = st.0

    pub frames_ask : {d : Cells} → Good (part c.acc c.due) → d ≡ cells_of 0 0 3 → (next ≤ length s) × Sane d × (UNSET ≤ d.phase) × OneSound (untyped c)
    unfolding OneSoundAt
    frames_ask good f = let g = frame_sane 3 (omega arith) in rw f (q.within, g.0, g.1, good)

    pub typed_control : (kind : ℕ) {d : Cells} {r : OneAnswer} → KindOf (Ok kind) (type_rule (seen_of seen) t) → kind ≡ CONTROL → d ≡ cells_of 0 0 3 → Controlled s next (untyped c) d allow r → OneFed (untyped c) seen s allow r
    typed_control kind {d} {r} is-kind h f b =
        let b' : Controlled s next (untyped c) (cells_of 0 0 3) allow r = rw f at b in
        record {
          is = λ p k st. known_state (λ x. of_control (F.feed control allow (between unset) x)) p k (control_feeds allow _ kind (drop next s) is-kind h)
              ∙ ap (λ x. one_past next (of_control (F.feed control allow x (drop next s)))) (sym (fresh_frames k))
              ∙ ap (λ x. frames_from s next (cells_of 0 0 3) allow x k) (sym (is_unset p k st)) ∙ b'.is p k (untyped_stands p k st);
          within = b'.within;
          part = b'.part;
          sound = b'.sound;
          shaped = λ sh. b'.shaped (fresh_shape, sh);
          plain = λ sh. b'.plain (fresh_shape, sh);
          stays = b'.stays;
          behind = b'.behind;
          held = b'.held;
          leaves = λ g p k st. b'.leaves g p k (untyped_stands p k st);
        }

    pub kind_bare : (kind : ℕ) → KindOf (Ok kind) (type_rule (seen_of seen) t) → (kind ≡ CONTROL → ⊥) → (ENCODER ≤ kind) × (kind ≤ SKIPPED)
    kind_bare kind is-kind n = let b = bare_feeds allow _ kind (drop next s) is-kind n in (b.1, b.2)

    bare_shape : (n : ℕ) (d : Cells) → 4 ≤ n → (6 < n → ⊥) → d ≡ cells_of 0 0 0 → OneShapeAt n d
    unfolding OneShapeAt
    bare_shape zero d l u f = absurd (omega arith)
    bare_shape (suc zero) d l u f = absurd (omega arith)
    bare_shape (suc (suc zero)) d l u f = absurd (omega arith)
    bare_shape (suc (suc (suc zero))) d l u f = absurd (omega arith)
    bare_shape (suc (suc (suc (suc n)))) d l u f = (f, small n u)
      where
        small : (n : ℕ) → (6 < suc (suc (suc (suc n))) → ⊥) → n ≤ 2
        small zero u = omega arith
        small (suc zero) u = omega arith
        small (suc (suc zero)) u = omega arith
        small (suc (suc (suc n))) u = absurd (u (omega arith))

    pub typed_bare : (kind : ℕ) {d : Cells} {r : OneAnswer} → KindOf (Ok kind) (type_rule (seen_of seen) t) → d ≡ cells_of 0 0 0 → (kind ≡ CONTROL → ⊥) → Bare s next (record { kind = kind; cells = d }) r → OneFed (untyped c) seen s allow r
    typed_bare kind {d} is-kind f n bare = let b = bare (untyped c) in let low = kind_bare kind is-kind n in record {
      is = λ p k st. known_state (bare_feed kind) p k (bare_feeds allow _ kind (drop next s) is-kind n).0 ∙ b.is p k tt;
      within = b.within;
      part = b.part;
      sound = b.sound;
      shaped = λ sh. b.shaped (bare_shape kind d low.0 (λ x. omega arith) f);
      plain = λ sh. b.plain (bare_shape kind d low.0 (λ x. omega arith) f);
      stays = b.stays;
      behind = b.behind;
      held = b.held;
      leaves = λ g p k st. b.leaves g p k tt;
    }
