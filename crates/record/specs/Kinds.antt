-- What kind of stream a record is of, in numbers, as the code has them. Assumes nothing.
use Rattle.std.specs.Prelude.{ℕ}

-- no stream
abbrev pub FREE : ℕ
FREE = 0

abbrev pub REQUEST : ℕ
REQUEST = 1

-- a one-way stream before its type is whole
abbrev pub UNTYPED : ℕ
UNTYPED = 2

abbrev pub CONTROL : ℕ
CONTROL = 3

-- the client's QPACK encoder stream
abbrev pub ENCODER : ℕ
ENCODER = 4

-- its decoder stream
abbrev pub DECODER : ℕ
DECODER = 5

-- a one-way stream of another type
abbrev pub SKIPPED : ℕ
SKIPPED = 6
