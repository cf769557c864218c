-- Edges of Message: the sum of content at its limit and one past it, stated or not.
-- Each list is a claim, computed; what it says was worked out by hand from document 01. Assumes nothing.
use Rattle.std.specs.Prelude.{refl, ℕ, ◌+◌, ◌-◌, [], ◌∷◌}
use Rattle.std.proofs.Math.Option.{none, some}
use Rattle.rules.specs.Text.{nibble, hex_from, hex}
use Rattle.rules.specs.Integers.{largest}
use Rattle.rules.specs.Reading.{content, refuse, accept, whole, fault}
use Rattle.rules.specs.Message.{Message, opening, body, trailed, content_limit}
use Rattle.rules.specs.Numbers.{number_of, rows, named_in, named, code_in, coded}
use Rattle.rules.specs.Worked.{request_rule, ruling_is, Worked, answer, stream, Holds, asks}

-- DATA of a length, where a message is
abbrev carries : Message → (len : ℕ) → Message → Worked
carries m len after = asks (request_rule m 0 len) (ruling_is (accept content after))

abbrev refuses : Message → (len code : ℕ) → Worked
refuses m len code = asks (request_rule m 0 len) (ruling_is (refuse (coded code)))

pub data_sums : Holds (
    -- without Content-Length
    carries (body none 0) content_limit (body none content_limit)
    ∷ refuses (body none 0) (content_limit + 1) 0x010c
    ∷ carries (body none (content_limit - 1)) 1 (body none content_limit)
    ∷ refuses (body none (content_limit - 1)) 2 0x010c
    ∷ carries (body none content_limit) 0 (body none content_limit)
    ∷ refuses (body none content_limit) 1 0x010c
    ∷ refuses (body none 0) largest 0x010c
    ∷ stream none "01 01 00 00 80 10 00 00" "" (fault (coded 0x0106) 8)
    ∷ stream none "01 01 00 00 80 10 00 01" "" (fault (coded 0x010c) 8)
    ∷ stream none "01 01 00 00 03 61 62 63 00 80 0F FF FD" "61 62 63" (fault (coded 0x0106) 13)
    ∷ stream none "01 01 00 00 03 61 62 63 00 80 0F FF FE" "61 62 63" (fault (coded 0x010c) 13)
    ∷ stream none "01 01 00 00 03 61 62 63 21 80 10 00 01" "61 62 63" (fault (coded 0x0106) 13)
    -- with one
    ∷ carries (body (some 3) 0) 3 (body (some 3) 3)
    ∷ refuses (body (some 3) 0) 4 0x010e
    ∷ carries (body (some 3) 2) 1 (body (some 3) 3)
    ∷ refuses (body (some 3) 2) 2 0x010e
    ∷ carries (body (some 3) 3) 0 (body (some 3) 3)
    ∷ refuses (body (some 3) 3) 1 0x010e
    ∷ carries (body (some 0) 0) 0 (body (some 0) 0)
    ∷ refuses (body (some 0) 0) 1 0x010e
    ∷ carries (body (some content_limit) 0) content_limit (body (some content_limit) content_limit)
    ∷ refuses (body (some content_limit) 0) (content_limit + 1) 0x010e
    ∷ refuses (body (some content_limit) content_limit) 1 0x010e
    ∷ stream (some 3) "01 01 00 00 01 61 00 01 62 00 01 63" "61 62 63" whole
    ∷ stream (some 2) "01 01 00 00 01 61 00 01 62 00 01 63" "61 62" (fault (coded 0x010e) 11)
    ∷ stream (some 2) "01 01 00 00 03" "" (fault (coded 0x010e) 5)
    ∷ stream (some 3) "01 01 00 00 04 61" "" (fault (coded 0x010e) 5)
    ∷ stream (some 3) "01 01 00 00 40 04 61" "" (fault (coded 0x010e) 6)
    ∷ stream (some 1) "01 01 00 21 02 61 62 00 01 63 01 01 00 21 01 64" "63" whole
    ∷ stream (some 1) "01 01 00 00 00 00 01 63 00 00 00 00" "63" whole
    -- position before the sum
    ∷ refuses opening 0 0x0105
    ∷ refuses opening (content_limit + 1) 0x0105
    ∷ refuses (trailed none content_limit) 1 0x0105
    ∷ refuses (trailed (some 2) 2) 0 0x0105
    ∷ stream (some 2) "01 01 00 00 02 61 62 01 01 00 00 01" "61 62" (fault (coded 0x0105) 12)
    ∷ []
    )
unfolding answer hex hex_from nibble number_of rows named_in named code_in coded content_limit largest
data_sums = refl
