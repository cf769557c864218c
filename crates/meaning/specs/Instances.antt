-- An instance of each theorem, so that none is empty. Assumes nothing.
use Rattle.std.specs.Prelude.{ℕ, List, [], ◌∷◌}
use Rattle.std.proofs.Math.Option.{some}
use Rattle.rules.specs.Block.{Section}
use Rattle.rules.specs.Request.{Rules, all_sound}
use Rattle.meaning.specs.Feeds.{Call, feed_call, give_call}
use Rattle.meaning.specs.OneWayFeed as O

-- H, then DATA of three bytes: document 01's stream, with Content-Length 3
unfoldable pub H : List ℕ
H = 0x01 ∷ 0x01 ∷ 0x00 ∷ []

unfoldable pub upload : List ℕ
upload = 0x01 ∷ 0x01 ∷ 0x00 ∷ 0x00 ∷ 0x03 ∷ 0x61 ∷ 0x62 ∷ 0x63 ∷ []

-- an empty DATA and an unknown frame behind it
unfoldable pub behind : List ℕ
behind = 0x00 ∷ 0x00 ∷ 0x21 ∷ 0x00 ∷ []

abbrev pub three : Rules
three = all_sound (some 3)

abbrev pub one : List Section
one = [] ∷ []

-- calls: in pieces, an allowance of one header at a time, a feed while the section is due, a section too many, a feed with no allowance
unfoldable pub some_calls : List Call
some_calls =
    feed_call 1 (0x01 ∷ [])
    ∷ feed_call 1 (0x01 ∷ 0x00 ∷ 0x00 ∷ [])
    ∷ feed_call 1 (0x00 ∷ 0x03 ∷ [])
    ∷ give_call []
    ∷ give_call []
    ∷ feed_call 0 (0x00 ∷ 0x03 ∷ [])
    ∷ feed_call 1 (0x00 ∷ 0x03 ∷ 0x61 ∷ 0x62 ∷ [])
    ∷ feed_call 0 (0x63 ∷ [])
    ∷ []

-- a one-way stream: its type in two bytes, SETTINGS {6: 5} in pieces, a GOAWAY 4
unfoldable pub its_calls : List O.Call
its_calls = O.feed_call 0 (0x40 ∷ []) ∷ O.feed_call 1 (0x00 ∷ 0x04 ∷ 0x02 ∷ 0x06 ∷ []) ∷ O.feed_call 0 (0x05 ∷ 0x07 ∷ []) ∷ O.feed_call 5 (0x07 ∷ 0x01 ∷ 0x04 ∷ []) ∷ []
