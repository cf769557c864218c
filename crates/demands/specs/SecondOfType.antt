-- A SECOND OF ITS TYPE IS REFUSED AT ITS TYPE: where another stream that runs has shown a type that may come once, a feed within which that type comes
-- whole is answered with 0x0103 at the type's last byte, whatever follows in the piece. Assumes nothing.
use Rattle.std.specs.Prelude.{◌≡◌, refl, ℕ, ◌+◌, List, [], ◌++◌, true, length, take}
use Rattle.std.proofs.Common.{ap, ◌∙◌, subst, arith, length-append, length-take-le}
use Rattle.std.proofs.Math.Option.{some}
use Rattle.rules.specs.Numbers.{stream_creation_error, of_connection}
use Rattle.rules.specs.Text.{is_one_of, lookup}
use Rattle.rules.specs.Integers.{got, integer}
use Rattle.rules.specs.OneWay.{encoder, decoder, Kind, a_control, a_qpack, refuse, once, type_rule, untyped, one_way_read}
use Rattle.rules.specs.Calls.{Fed, feed, of_fed, map_out, act₁, one_way, kind_of, telling, Pair, Call, on, Answer, code, Entry, with, faulted, settle, act_on, fresh, call, run, trace}
use Rattle.rules.specs.Shown.{running, View, view}
use Rattle.traces.specs.Went.{Alive}
use Rattle.traces.specs.Alone.{call_on}
use Rattle.traces.specs.Follow.{Agrees, open_still, over, not_running}
use Rattle.traces.specs.Oneways.{Both, Reached₁, Story₁, Says, says, story₁, follows₁}
use Rattle.demands.specs.Streams.{types_in, streams}
use Rattle.demands.specs.Becomes.{Once, as_control, as_encoder, as_decoder, type_number}
use Rattle.demands.specs.Moves.{alone}
use Rattle.demands.specs.OneWayReads.{untyped_reached, refused_among}
use Rattle.demands.specs.Parts.{Bounded, KeepsTo, parts}
use Rattle.demands.specs.Types.{First, Seen, kept_seen}

-- ---- DEFINITION

-- REFUSED AT ITS TYPE, which ends at this offset of the stream: 0x0103, used up to there, and no header finished
pub record AtItsType (before : List ℕ) (ends : ℕ) (a : Answer) : Type 0 where
  pub used : ℕ
  pub up_to : length before + used ≡ ends
  pub answered : a ≡ code (of_connection stream_creation_error) used 0

-- A SECOND OF A TYPE: no whole type in the bytes before, and with the piece one that a stream of the trace which runs has shown; it ends at this offset
pub record IsSecondOf (t : List (Entry streams)) (before piece : List ℕ) (ends : ℕ) : Type 0 where
  pub type : Once
  pub first : First t type
  pub not_yet : one_way_read [] before ≡ untyped
  pub rest : List ℕ
  pub comes : integer 0 (before ++ piece) ≡ got (type_number type) ends rest

-- ---- a type that came before is refused

came_once : (seen : List ℕ) (n : ℕ) (k : Kind) → is_one_of seen n ≡ true → once seen n k ≡ refuse (of_connection stream_creation_error)
unfolding once
came_once seen n k e = rw (once, e) refl

second_rule : (seen : List ℕ) (c : Once) → is_one_of seen (type_number c) ≡ true → type_rule seen (type_number c) ≡ refuse (of_connection stream_creation_error)
unfolding type_rule lookup type_number
second_rule seen as_control e = came_once seen 0 a_control e
second_rule seen as_encoder e = came_once seen 2 (a_qpack encoder) e
second_rule seen as_decoder e = came_once seen 3 (a_qpack decoder) e

-- ---- a feed

abbrev answer_to : (id : ℕ) (p : Pair streams) → Fed (Both streams) → Answer
answer_to id p x = (settle id p (map_out (λ (x : Both streams). record { stream = telling x.state; kept = x.kept }) (of_fed x))).answer

second_by : (id : ℕ) (t : List (Entry streams)) (allow ends : ℕ) (piece : List ℕ) (p : Pair streams) (v : View streams) → v.fate ≡ running → IsSecondOf t v.shown.bytes piece ends
    → (Alive p → Seen t (types_in p.conn.kept)) → Agrees (Says alone) (Story₁ alone) id p v
    → (u : ℕ) × (length (v.shown.bytes ++ take u piece) ≡ ends) × ((call (on id (feed allow piece)) p).answer ≡ code (of_connection stream_creation_error) u 0)
unfolding act_on act₁
second_by id t allow ends piece p v e n k (over {f = f} x m) = absurd (not_running f ((story₁ alone).shut x) e)
second_by id t allow ends piece p v e n k (open_still {s = s} l (says {w = w} x) g) =
    let kept = p.conn.kept in
    let y = untyped_reached x n.not_yet in
    let r = refused_among s y.0 kept allow piece (of_connection stream_creation_error) (subst (Reached₁ alone s) y.1 x) n.comes (second_rule (types_in kept) n.type ((k l n.type).1 n.first)) in
    (r.0, r.1, ap (λ r. r.answer) (call_on p id (telling w) (feed allow piece) l g) ∙ ap (λ w. answer_to id p (streams.feed₁ kept w allow piece)) y.1 ∙ ap (answer_to id p) r.2 ∙ unfold settle map_out of_fed with faulted in refl)

-- A SECOND OF ITS TYPE IS REFUSED AT ITS TYPE: whatever the trace, the allowance, and the bytes of the piece behind the type
pub second_at_its_type : (id : ℕ) → kind_of id ≡ some one_way → (cs : List (Call streams)) (allow ends : ℕ) (piece : List ℕ) → let v = view id (trace fresh cs) in
    v.fate ≡ running → IsSecondOf (trace fresh cs) v.shown.bytes piece ends → AtItsType v.shown.bytes ends (call (on id (feed allow piece)) (run fresh cs)).answer
second_at_its_type id q cs allow ends piece e n =
    let bytes = (view id (trace fresh cs)).shown.bytes in
    let r = second_by id (trace fresh cs) allow ends piece (run fresh cs) (view id (trace fresh cs)) e n (λ l. kept_seen cs l) (follows₁ alone id q cs) in
    let b : Bounded allow piece r.0 0 = subst (KeepsTo allow piece) r.2 (parts cs id allow piece) in
    let l = length-append bytes (take r.0 piece) in
    let m = length-take-le r.0 piece b.fits in
    record { used = r.0; up_to = omega (arith, r.1); answered = r.2 }
