-- `Text::put` meets its contract: the bytes copied are those that stores one by one leave. Assumes nothing.
use Rattle.std.proofs.Common.{ℕ, ◌+◌, ◌≤◌, ◌≡◌, refl, sym, ◌∙◌, List, length, take, drop-drop, append_assoc, arith}
use Rattle.std.proofs.lemmas.List.Edits.{sets-eq}
use borrow.Rule.Slice.PartMut.{put_mid}
use Rattle.listing.specs.Put.{Put}
use Rattle.listing.proofs.room.Text.put.Goals as goal

copied : (room : List ℕ) (to n : ℕ) (w : List ℕ) {ys : List ℕ} → ys ≡ w → n ≡ length w → to + length w ≤ length room → to + length w ≤ 2048 → Put room to w (put_mid to n room ys) (to + length w)
copied room to n w e f h b = record { is = rw (e, f, drop-drop (length w) to room) (sym (sets-eq w room to h ∙ append_assoc (take to room) w _)); next = refl; within = b }

pub returns : goal.returns
returns c = copied c.args.self.now.room c.args.self.now.length _ c.args.word.now c.copy_from_slice.ensures.after (omega arith) (omega arith) c.requires
