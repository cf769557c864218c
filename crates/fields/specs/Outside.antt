-- Not every byte is of a class: some byte is outside it. Assumes nothing.
use Rattle.std.specs.Prelude.{ℕ, ◌≡◌, refl, Bool, true, false, List}
use Rattle.std.proofs.Common.{ap, ◌∙◌}
use Rattle.std.proofs.Math.Bool.{not}
use Rattle.rules.specs.Text.{any, all}
use Rattle.fields.specs.declared.Class.{Class}
use Rattle.fields.specs.Bytes.{is_in, outside}
use Rattle.fields.specs.Laws.{all_by_any}

pub outside_all : (class : Class) (v : List ℕ) → not (all (is_in class) v) ≡ any (outside class) v
outside_all class v = ap not (all_by_any (is_in class) v) ∙ twice (any (outside class) v)
  where
    twice : (t : Bool) → not (not t) ≡ t
    twice true = refl
    twice false = refl
