-- A client's one-way stream (document 01, "Frames"): it begins with a type. Assumes nothing.
use Rattle.std.specs.Prelude.{ℕ, List, [], ◌∷◌, true, false, length}
use Rattle.std.proofs.Math.Option.{Option, none, some}
use Rattle.rules.specs.Numbers.{Code, of_connection, stream_creation_error, closed_critical_stream}
use Rattle.rules.specs.Text.{is_one_of, lookup}
use Rattle.rules.specs.Integers.{Int, cut, got, integer}
use Rattle.rules.specs.Reading.{Verdict, whole, fault, waits, Reading, read_from}
use Rattle.rules.specs.Control.{control}

pub data Qpack : Type 0 where
  encoder decoder : Qpack

pub data Kind : Type 0 where
  a_control : Kind
  a_qpack : Qpack → Kind
  skipped : Kind

pub data Typed : Type 0 where
  refuse : Code → Typed
  is : Kind → Typed

-- a stream that a connection has once: `seen` are the types of those that came before
unfoldable pub once : (seen : List ℕ) (type : ℕ) → Kind → Typed
once seen t k = elim (is_one_of seen t) [ true ↦ refuse (of_connection stream_creation_error) | false ↦ is k ]

unfoldable pub type_rule : (seen : List ℕ) (type : ℕ) → Typed
type_rule seen t =
    lookup
    ((0, once seen 0 a_control)
    ∷ (1, refuse (of_connection stream_creation_error))
    ∷ (2, once seen 2 (a_qpack encoder))
    ∷ (3, once seen 3 (a_qpack decoder))
    ∷ [])
    (is skipped)
    t

-- What such a stream means.
pub data OneWay : Type 0 where
  untyped : OneWay  -- its type has not come whole
  refused : Code → (place : ℕ) → OneWay  -- at the type's last byte
  of_control : Reading → OneWay  -- frames behind the type
  of_qpack : Qpack → (bytes : List ℕ) → OneWay  -- the bytes behind the type
  passed_over : OneWay

unfoldable pub typed : (next total : ℕ) → (rest : List ℕ) → Typed → OneWay
typed next total rest (refuse code) = refused code next
typed next total rest (is a_control) = of_control (read_from control next total [] rest)
typed next total rest (is (a_qpack q)) = of_qpack q rest
typed next total rest (is skipped) = passed_over

unfoldable pub behind_type : (seen : List ℕ) (total : ℕ) → Int → OneWay
behind_type seen total cut = untyped
behind_type seen total (got type next rest) = typed next total rest (type_rule seen type)

-- THE DEFINITION: what a one-way stream of these bytes means
unfoldable pub one_way_read : (seen : List ℕ) → List ℕ → OneWay
one_way_read seen bytes = behind_type seen (length bytes) (integer 0 bytes)

-- Control and QPACK streams may be neither ended nor reset: a control stream's reading says so itself, by its end. The others are freed
-- without fault, even before their type.
unfoldable pub fault_in : Verdict → Option Code
fault_in whole = none
fault_in (fault code place) = some code
fault_in (waits place) = none

unfoldable pub closed : OneWay → Option Code
closed untyped = none
closed (refused code place) = some code
closed (of_control r) = fault_in r.verdict
closed (of_qpack q bytes) = some (of_connection closed_critical_stream)
closed passed_over = none
