-- What a call reports, in numbers, as the code has them (crates/rules/src). Assumes nothing.
use Rattle.std.specs.Prelude.{ℕ}

abbrev pub NOTHING : ℕ
NOTHING = 0

abbrev pub CONTENT : ℕ
CONTENT = 1

abbrev pub SECTION : ℕ
SECTION = 2

abbrev pub SECTION-END : ℕ
SECTION-END = 3

abbrev pub FAULT : ℕ
FAULT = 4

abbrev pub KEPT : ℕ
KEPT = 5

abbrev pub KEPT-PART : ℕ
KEPT-PART = 6

abbrev pub QPACK : ℕ
QPACK = 7

abbrev pub SETTINGS : ℕ
SETTINGS = 8

abbrev pub GOAWAY : ℕ
GOAWAY = 9

abbrev pub MAX-PUSH-ID : ℕ
MAX-PUSH-ID = 10

abbrev pub WHOLE : ℕ
WHOLE = 11

abbrev pub FREED : ℕ
FREED = 12
