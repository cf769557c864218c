-- How far the codes of a stream's rules reach: a section's is a stream's fault, a one-way stream's a connection's. Assumes nothing.
use Rattle.std.specs.Prelude.{◌≡◌, refl, ℕ, List, [], ◌∷◌, Bool, true, false}
use Rattle.std.proofs.Common.{sym, ap, subst, ⊎_elim}
use Rattle.rules.specs.Numbers.{Code, of_stream, of_connection, ConnectionFault, stream_creation_error, code_number, coded}
use Rattle.rules.specs.Text.{is_one_of}
use Rattle.rules.specs.Reading.{Kept, Ruling}
use Rattle.rules.specs.Section as S
use Rattle.rules.specs.Control as C
use Rattle.rules.specs.OneWay.{Qpack, encoder, decoder, Kind, a_control, a_qpack, skipped, Typed, refuse as refuse-type, is, once, type_rule}
use Rattle.meaning.specs.NumberLaws.{OfStream, OfConnection, coded_back}
use Rattle.meaning.specs.ControlLaws.{ControlView, v_refused, v_skipped, v_kept, control_view}
use Rattle.meaning.specs.Machine as M
use Rattle.meaning.specs.Feed as F
use Rattle.meaning.specs.FeedUses.{Uses, RulesWithin, JudgesWithin, StateWithin, OutcomeWithin, feed_within}
use Rattle.meaning.specs.TextLaws.{lookup_view}
use Rattle.meaning.specs.OneWayFeed as O
use Rattle.section.specs.Answer.{two_codes}
use Rattle.control.specs.Codes.{judged_within}
use Rattle.demands.specs.Streams.{stream_code, conn_code}

-- ---- a code that reaches so far is its fault's

pub is_of_stream : (k : Code) → OfStream k → k ≡ of_stream (stream_code k)
unfolding stream_code
is_of_stream (of_stream f) o = refl
is_of_stream (of_connection f) o = absurd o

pub is_of_connection : (k : Code) → OfConnection k → k ≡ of_connection (conn_code k)
unfolding conn_code
is_of_connection (of_stream f) o = absurd o
is_of_connection (of_connection f) o = refl

-- a connection fault is read back from its number
pub connection_back : (f : ConnectionFault) → conn_code (coded (code_number (of_connection f))) ≡ f
unfolding conn_code
connection_back f = ap conn_code (coded_back (of_connection f))

-- ---- a request

abbrev Any : Uses
Any u k l = Unit {0}

any_state : {P : Type 0} (s : M.State P) → StateWithin Any s
any_state (M.in_type g p) = tt
any_state (M.in_length t g p) = tt
any_state (M.in_payload u k left p) = tt
any_state (M.due t p) = tt

-- A SECTION that is refused by document 01's rules is a stream's fault
pub section_of_stream : (r : S.Reason) → OfStream (S.code_of r)
section_of_stream r = ⊎_elim (λ e. subst OfStream (sym e) tt) (λ e. subst OfStream (sym e) tt) (two_codes r)

-- ---- a one-way stream

control_rules : (c : C.Control) (t len : ℕ) → RulesWithin Any OfConnection len (C.rule c t len)
control_rules c t len = viewed (control_view c t len)
  where
    viewed : {r : Ruling C.Control} → ControlView c r → RulesWithin Any OfConnection len r
    viewed v_refused = tt
    viewed v_skipped = tt
    viewed v_kept = tt

control_judges : (k : Kept) (c : C.Control) (payload : List ℕ) → JudgesWithin OfConnection (C.judged k c payload)
control_judges = judged_within

-- a one-way stream that dies has a connection's code
abbrev Dies : O.OneOutcome → Type 0
Dies (O.lives s) = Unit {0}
Dies (O.dies code) = OfConnection code

controlled_dies : (o : M.Outcome C.Control) → OutcomeWithin Any OfConnection o → Dies (O.controlled o)
unfolding O.controlled
controlled_dies (M.lives s) w = tt
controlled_dies (M.dies code) w = w

control_dies : (allow : ℕ) (s : M.State C.Control) (piece : List ℕ) → Dies (O.of_control (F.feed C.control allow s piece)).after
unfolding O.of_control
control_dies allow s piece =
    controlled_dies (F.feed C.control allow s piece).after
    (feed_within C.control Any OfConnection (λ u i k l h n. tt) (λ f k b l h. tt) control_rules control_judges allow s (any_state s) piece).after

qpack_lives : (q : Qpack) (piece : List ℕ) → Dies (O.qpack_feed q piece).after
unfolding O.qpack_feed O.halt
qpack_lives q [] = tt
qpack_lives q (b ∷ bs) = tt

kind_dies : (allow : ℕ) (k : Kind) (piece : List ℕ) → Dies (O.kind_feed allow k piece).after
unfolding O.kind_feed
kind_dies allow a_control piece = control_dies allow (M.between C.unset) piece
kind_dies allow (a_qpack q) piece = qpack_lives q piece
kind_dies allow skipped piece = tt

abbrev TypeListed : Typed → Type 0
TypeListed (refuse-type code) = OfConnection code
TypeListed (is k) = Unit {0}

once_listed : (seen : List ℕ) (t : ℕ) (k : Kind) → TypeListed (once seen t k)
unfolding once
once_listed seen t k = go (is_one_of seen t)
  where
    go : (x : Bool) → TypeListed (elim x [ true ↦ refuse-type (of_connection stream_creation_error) | false ↦ is k ])
    go true = tt
    go false = tt

type_listed : (seen : List ℕ) (t : ℕ) → TypeListed (type_rule seen t)
unfolding type_rule
type_listed seen t = lookup_view t TypeListed _ (is skipped) ((λ e. once_listed seen 0 a_control), ((λ e. tt), ((λ e. once_listed seen 2 (a_qpack encoder)), ((λ e. once_listed seen 3 (a_qpack decoder)), tt)))) (λ a. tt)

typed_dies : (allow : ℕ) (x : Typed) (piece : List ℕ) → TypeListed x → Dies (O.typed_feed allow x piece).after
unfolding O.typed_feed O.halt
typed_dies allow (refuse-type code) piece w = w
typed_dies allow (is k) piece w = kind_dies allow k piece

type_byte_dies : (seen : List ℕ) (allow : ℕ) (bs : List ℕ) → ((g : M.Prog) → Dies (O.type_feed seen allow g bs).after) → (x : M.Fed)
    → Dies (elim x as (λ y. O.OneFeeding) [ M.going g ↦ O.type_feed seen allow g bs | M.value t ↦ O.typed_feed allow (type_rule seen t) bs ]).after
type_byte_dies seen allow bs ih (M.going g) = ih g
type_byte_dies seen allow bs ih (M.value t) = typed_dies allow (type_rule seen t) bs (type_listed seen t)

type_dies : (seen : List ℕ) (allow : ℕ) (piece : List ℕ) (g : M.Prog) → Dies (O.type_feed seen allow g piece).after
unfolding O.type_feed O.halt O.also
type_dies seen allow [] g = tt
type_dies seen allow (b ∷ bs) g = type_byte_dies seen allow bs (type_dies seen allow bs) (M.fed g b)

feed_dies : (seen : List ℕ) (allow : ℕ) (w : O.OneState) (piece : List ℕ) → Dies (O.feed seen allow w piece).after
unfolding O.feed
feed_dies seen allow (O.in_stream_type g) piece = type_dies seen allow piece g
feed_dies seen allow (O.in_control s) piece = control_dies allow s piece
feed_dies seen allow (O.in_qpack q) piece = qpack_lives q piece
feed_dies seen allow O.in_skipped piece = kind_dies allow skipped piece

-- A ONE-WAY STREAM'S FEED stops with a connection's code
pub one_way_listed : (seen : List ℕ) (allow : ℕ) (w : O.OneState) (piece : List ℕ) (code : Code) → (O.feed seen allow w piece).after ≡ O.dies code → OfConnection code
one_way_listed seen allow w piece code e = subst Dies e (feed_dies seen allow w piece)
