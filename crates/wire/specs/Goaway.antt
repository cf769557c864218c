-- Our GOAWAY (rules, Writer). Assumes nothing.
use Rattle.std.specs.Prelude.{ℕ, ◌≡◌, List, true, false, length, Option as Maybe, Some, None, Result, Err}
use Rattle.std.proofs.Math.Path.{refl}
use Rattle.std.proofs.Math.Option.{Option, none, some}
use Rattle.rules.specs.Writer.{bad_goaway, write_goaway, write_integer_frame}
use Rattle.varint.specs.Write.{Meets, wrote_of, left_in}
use Rattle.rules.specs.declared.codes.House.{House}
use Rattle.rules.specs.declared.codes.House.TheVariants.{BadValue}
use Rattle.wire.specs.declared.ids.StreamId.{StreamId}

-- what was sent before
unfoldable pub sent_of : Maybe StreamId → Option ℕ
sent_of None = none
sent_of (Some id) = some id.0

-- ---- the write

module _ (l : List ℕ) (sent : Option ℕ) (id : ℕ) where
  pub goaway_bad : true ≡ bad_goaway sent id → Meets (write_goaway sent (length l) id) l (Err BadValue) l
  unfolding write_goaway wrote_of left_in
  goaway_bad e = rw (write_goaway, ← e) (record { answers = refl; leaves = refl })

  pub goaway_frame : {r : Result ℕ House} {after : List ℕ} → false ≡ bad_goaway sent id → Meets (write_integer_frame (length l) 7 id) l r after → Meets (write_goaway sent (length l) id) l r after
  unfolding write_goaway
  goaway_frame e m = rw (write_goaway, ← e) m
