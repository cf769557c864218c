-- The records of a section block, read at a place of the block. Assumes nothing.
use Rattle.std.specs.Prelude.{ℕ, zero, suc, ◌+◌, ◌-◌, List, [], ◌∷◌, Bool, true, false, cond, not, leb, ltb, eqb, length, take, drop, get_or, Result, Ok, Err, Some, None}
use Rattle.std.proofs.Math.Option.{Option, none, some}
use Rattle.rules.specs.Block.{Line, Section, Lines, unreadable, readable, little}
use Rattle.std.specs.Prelude as std
use Rattle.fields.specs.declared.Line as code
use Rattle.fields.specs.declared.Unreadable.{Unreadable}

abbrev pub is_readable : Lines → Bool
is_readable (unreadable f) = false
is_readable (readable s) = true

-- the two-byte number at a place
abbrev pub number_at : List ℕ → ℕ → ℕ
number_at block at = little (get_or block at 0) (get_or block (at + 1) 0)

-- the bytes of a list from one place up to another
abbrev pub part : (from to : ℕ) → List ℕ → List ℕ
part from to bytes = take (to - from) (drop from bytes)

-- what is at a place of a block: its end, no record, or a field line
abbrev pub Record : Type 0
Record = Result (std.Option code.Line) Unreadable

abbrev pub no_record : Record
no_record = Err (record {})

abbrev pub a_line : (name value next : ℕ) → Record
a_line name value next = Ok (Some (record { name = name; value = value; next = next }))

-- what a record's numbers make of it, where six bytes or more are left: the length of what follows, the kind, the name's length
unfoldable pub record_from : (at left len kind named : ℕ) → Record
record_from at left len kind named =
    cond (ltb len 4) no_record
    (cond (ltb (left - 2) len) no_record
    (cond (not (eqb kind 1)) no_record
    (cond (ltb (len - 4) named) no_record
    (a_line (at + 6) (at + 6 + named) (at + 2 + len)))))

unfoldable pub record_at : (block : List ℕ) (at : ℕ) → Record
record_at block at =
    cond (leb (length block) at) (Ok None)
    (cond (ltb (length block - at) 6) no_record
    (record_from at (length block - at) (number_at block at) (number_at block (at + 2)) (number_at block (at + 4))))

-- the line of a record
abbrev pub line_of : (block : List ℕ) (number at name value next : ℕ) → Line
line_of block number at name value next = record { number = number; at = at; name = part name value block; value = part value next block }

abbrev pub by_record : {A : Type 0} → (end flaw : A) → (line : (name value next : ℕ) → A) → Record → A
by_record end flaw line (Ok None) = end
by_record end flaw line (Err u) = flaw
by_record end flaw line (Ok (Some l)) = line l.name l.value l.next

-- A walk of the records from a place on: `end` at the end of the block, `flaw` at a record that is unreadable, `each` puts a line before
-- what the rest gives. `fuel` bounds the number of records, as it does in the rules.
unfoldable pub walk : {A : Type 0} → (end flaw : A) → (each : Line → A → A) → (fuel number at : ℕ) → List ℕ → A
walk end flaw each zero number at block = end
walk end flaw each (suc fuel) number at block =
    by_record end flaw (λ name value next. each (line_of block number at name value next) (walk end flaw each fuel (suc number) next block))
    (record_at block at)

unfoldable pub walk_from : {A : Type 0} → (end flaw : A) → (each : Line → A → A) → (block : List ℕ) (number at : ℕ) → A
walk_from end flaw each block number at = walk end flaw each (length block) number at block

-- the lines from a place on, up to the end of the block or to the first record that is unreadable
abbrev pub section_from : (block : List ℕ) (number at : ℕ) → Section
section_from block number at = walk_from [] [] ◌∷◌ block number at

-- the lines of a block; for a readable block, the rules' own (`held_is` of specs/Lines.antt)
abbrev pub held : List ℕ → Section
held block = section_from block 0 0

-- the same, and none where the block is unreadable from there on
abbrev pub onto : Line → Option Section → Option Section
onto l none = none
onto l (some s) = some (l ∷ s)

abbrev pub told_from : (block : List ℕ) (number at : ℕ) → Option Section
told_from block number at = walk_from (some []) none onto block number at
