-- Our control opening (rules, Writer), byte by byte. Assumes nothing.
use Rattle.std.specs.Prelude.{ℕ, ◌<◌, ◌≤◌, ◌≡◌, refl, List, [], ◌∷◌, length, Ok, Err}
use Rattle.std.proofs.Common.{ap}
use Rattle.std.proofs.Math.Option.{some}
use Rattle.std.proofs.lemmas.List.Edits.{sets}
use Rattle.rules.specs.Text.{hex, hex_from, nibble, between}
use Rattle.rules.specs.Writer.{opening, write_opening}
use Rattle.varint.specs.Write.{Meets, meets_short, meets_bytes}
use Rattle.rules.specs.declared.codes.House.TheVariants.{RoomShort}

-- the bytes of the code
abbrev pub ours : List ℕ
ours = 0x00 ∷ 0x04 ∷ 0x09 ∷ 0x01 ∷ 0x00 ∷ 0x06 ∷ 0x80 ∷ 0x00 ∷ 0x40 ∷ 0x00 ∷ 0x07 ∷ 0x00 ∷ []

are_ours : opening ≡ ours
unfolding opening hex hex_from nibble between
are_ours = refl

pub opening_short : (l : List ℕ) → length l < 12 → Meets (write_opening (length l)) l (Err RoomShort) l
unfolding write_opening
opening_short l h = meets_short l (some opening) ours (ap some are_ours) h

pub opening_done : (l after : List ℕ) → 12 ≤ length l → after ≡ sets l 0 ours → Meets (write_opening (length l)) l (Ok 12) after
unfolding write_opening
opening_done l after h e = meets_bytes l (some opening) ours (ap some are_ours) 12 after h refl e
