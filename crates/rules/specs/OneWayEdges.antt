-- Edges of OneWay: each type in each size, each once, and how a stream may end.
-- Each list is a claim, computed; what it says was worked out by hand from document 01. Assumes nothing.
use Rattle.std.specs.Prelude.{refl, ℕ, List, [], ◌∷◌, ◌++◌, map}
use Rattle.std.proofs.Math.Option.{Option, none, some}
use Prim.Native.String.{String}
use Rattle.rules.specs.Text.{nibble, hex_from, hex}
use Rattle.rules.specs.Reading.{fault}
use Rattle.rules.specs.OneWay.{OneWay, encoder, decoder, untyped, refused as one-way-refused, of_control, of_qpack, passed_over}
use Rattle.rules.specs.Numbers.{number_of, rows, named_in, named, code_in, coded, Code}
use Rattle.rules.specs.Worked.{one_way_stream, closes, one_way_is, closed_with, Worked, answer, Holds, asks}
use Rattle.rules.specs.ControlEdges.{control_behind}

abbrev one_way : (seen : List ℕ) → OneWay → (streams : List String) → List Worked
one_way seen o streams = map (λ s. asks (one_way_stream seen (hex s)) (one_way_is o)) streams

abbrev closing : (seen : List ℕ) → Option Code → (streams : List String) → List Worked
closing seen code streams = map (λ s. asks (closes seen (hex s)) (closed_with code)) streams

abbrev ended_control : (place : ℕ) → OneWay
ended_control place = of_control (record { said = []; verdict = fault (coded 0x0104) place })

-- a push stream, its type in each size
pub push_streams : Holds (
    one_way [] (one-way-refused (coded 0x0103) 1) ("01" ∷ "01 00" ∷ [])
    ++ one_way [] (one-way-refused (coded 0x0103) 2) ("40 01" ∷ "40 01 04 00" ∷ [])
    ++ one_way [] (one-way-refused (coded 0x0103) 4) ("80 00 00 01" ∷ [])
    ++ one_way [] (one-way-refused (coded 0x0103) 8) ("C0 00 00 00 00 00 00 01" ∷ [])
    )
unfolding answer hex hex_from nibble number_of rows named_in named code_in coded
push_streams = refl

pub one_way_streams : Holds (
    -- the type, in each size
    one_way [] (ended_control 1) ("00" ∷ [])
    ++ one_way [] (ended_control 2) ("40 00" ∷ [])
    ++ one_way [] (ended_control 4) ("80 00 00 00" ∷ [])
    ++ one_way [] (ended_control 8) ("C0 00 00 00 00 00 00 00" ∷ [])
    ++ one_way [] (of_qpack encoder []) ("02" ∷ "40 02" ∷ "80 00 00 02" ∷ "C0 00 00 00 00 00 00 02" ∷ [])
    ++ one_way [] (of_qpack decoder []) ("03" ∷ "40 03" ∷ "80 00 00 03" ∷ "C0 00 00 00 00 00 00 03" ∷ [])
    ++ one_way [] passed_over ("04" ∷ "40 04" ∷ "80 00 00 04" ∷ "C0 00 00 00 00 00 00 04" ∷ [])
    ++ one_way [] passed_over ("21" ∷ "40 21" ∷ "80 00 00 21" ∷ "C0 00 00 00 00 00 00 21" ∷ [])
    ++ one_way [] passed_over ("3F" ∷ "40 40" ∷ "41 00" ∷ "41 01" ∷ "41 02" ∷ "C0 00 00 01 00 00 00 01" ∷ "FF FF FF FF FF FF FF FF" ∷ [])
    ++ one_way [] untyped ("" ∷ "40" ∷ "80" ∷ "80 00 00" ∷ "C0" ∷ "C0 00 00 00 00 00 00" ∷ [])
    -- what is behind it: QPACK bytes, no frames; places count the type's bytes
    ++ one_way [] (of_qpack encoder (hex "20 00 FF")) ("02 20 00 FF" ∷ "40 02 20 00 FF" ∷ [])
    ++ one_way [] (of_qpack decoder (hex "00")) ("03 00" ∷ [])
    ++ one_way [] passed_over ("21 00 00" ∷ "04 07 01" ∷ "3F 04 00" ∷ [])
    ++ control_behind "40 00" (fault (coded 0x010a) 4) ("07 01" ∷ [])
    ++ control_behind "C0 00 00 00 00 00 00 00" (fault (coded 0x0105) 12) ("04 00 04 00" ∷ [])
    -- each once
    ++ one_way (0 ∷ []) (one-way-refused (coded 0x0103) 1) ("00" ∷ "00 04 00" ∷ "00 07" ∷ "01" ∷ [])
    ++ one_way (0 ∷ []) (one-way-refused (coded 0x0103) 2) ("40 00" ∷ "40 00 04" ∷ [])
    ++ one_way (0 ∷ []) (of_qpack encoder []) ("02" ∷ [])
    ++ one_way (0 ∷ []) (of_qpack decoder []) ("03" ∷ [])
    ++ one_way (2 ∷ []) (one-way-refused (coded 0x0103) 1) ("02" ∷ "02 20" ∷ [])
    ++ one_way (2 ∷ []) (of_qpack decoder []) ("03" ∷ [])
    ++ one_way (2 ∷ []) (ended_control 1) ("00" ∷ [])
    ++ one_way (3 ∷ []) (one-way-refused (coded 0x0103) 1) ("03" ∷ "03 00" ∷ [])
    ++ one_way (3 ∷ []) (of_qpack encoder []) ("02" ∷ [])
    ++ one_way (3 ∷ 2 ∷ []) (ended_control 3) ("00 04 00" ∷ [])
    ++ one_way (3 ∷ 2 ∷ 0 ∷ []) (one-way-refused (coded 0x0103) 1) ("00" ∷ "01" ∷ "02" ∷ "03" ∷ [])
    ++ one_way (3 ∷ 2 ∷ 0 ∷ []) (one-way-refused (coded 0x0103) 8) ("C0 00 00 00 00 00 00 00" ∷ "C0 00 00 00 00 00 00 03" ∷ [])
    ++ one_way (3 ∷ 2 ∷ 0 ∷ []) passed_over ("04" ∷ "21" ∷ "21 00" ∷ [])
    ++ one_way (3 ∷ 2 ∷ 0 ∷ []) untyped ("" ∷ "40" ∷ [])
    -- ended or reset
    ++ closing [] (some (coded 0x0104)) ("00" ∷ "00 04" ∷ "00 04 00" ∷ "00 04 00 07 01" ∷ "40 00" ∷ "02" ∷ "02 20" ∷ "03" ∷ "40 03 00" ∷ [])
    ++ closing [] none ("" ∷ "40" ∷ "80 00 00" ∷ "C0 00 00 00 00 00 00" ∷ "04" ∷ "21" ∷ "21 00 00" ∷ "40 21" ∷ "FF FF FF FF FF FF FF FF" ∷ [])
    ++ closing (3 ∷ 2 ∷ 0 ∷ []) none ("" ∷ "40" ∷ "04" ∷ "21 00" ∷ [])
    -- after a connection fault a later call gives its code
    ++ closing [] (some (coded 0x010a)) ("00 07 01" ∷ "00 21 00" ∷ "40 00 00 00" ∷ [])
    ++ closing [] (some (coded 0x0105)) ("00 04 00 04 00" ∷ [])
    ++ closing [] (some (coded 0x0106)) ("00 04 01 06" ∷ "00 04 00 07 00" ∷ [])
    ++ closing [] (some (coded 0x0107)) ("00 04 41 01" ∷ [])
    ++ closing [] (some (coded 0x0108)) ("00 04 00 03 01 00" ∷ [])
    ++ closing [] (some (coded 0x0109)) ("00 04 02 02 00" ∷ [])
    ++ closing [] (some (coded 0x0103)) ("01" ∷ "40 01" ∷ [])
    ++ closing (0 ∷ 2 ∷ []) (some (coded 0x0103)) ("00" ∷ "02 20" ∷ [])
    )
unfolding answer hex hex_from nibble number_of rows named_in named code_in coded
one_way_streams = refl
