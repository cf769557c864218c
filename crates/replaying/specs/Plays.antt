-- WHAT A LINE LEAVES AND PRINTS: the lent call that its verb asks for, and the line of what the call answered. Assumes nothing.
use Rattle.std.specs.Prelude.{Option, Some, None, Bool, eqb, ℕ, ◌+◌, zero, suc, ◌≤◌, ◌<◌, ◌≡◌, refl, List, [], ◌∷◌, true, false, length, take, replicate, unwrap_or}
use Rattle.std.proofs.Common.{ap, subst, ◌∙◌, arith}
use Rattle.std.proofs.lemmas.List.{length-replicate}
use Rattle.std.proofs.lemmas.Bool.{eqb-true, eqb-false}
use Rattle.rules.specs.Integers.{integer}
use Rattle.listing.specs.Put.{Put}
use Rattle.listing.specs.declared.room.Text.{Text}
use Rattle.record.specs.declared.Record.{Record}
use Rattle.record.specs.Row.{free_record}
use Rattle.connection.specs.declared.Call.{Call}
use Rattle.connection.specs.declared.Own.{Own}
use Rattle.connection.specs.declared.Connection.{Connection}
use Rattle.connection.specs.declared.Report.{Report}
use Rattle.connection.specs.declared.Written.{Written}
use Rattle.calls.specs.Lent.{Stepped, Started, SaidGoaway}
use Rattle.script.specs.Words.{LineAt}
use Rattle.script.specs.declared.Line.{Line}
use Rattle.script.specs.declared.Verb.{Verb}
use Rattle.script.specs.declared.Writing.{Writing}
use Rattle.replaying.specs.Lines.{start_line, report_line, written_line, write_of, write_line, read_line, state_line, bad_line, long_line}
use Rattle.replaying.specs.Puts.{Puts}
use Rattle.replaying.specs.declared.Pair.{Pair}
use Rattle.replaying.specs.declared.Step.{Step}

-- the kept row
abbrev pub kept : Pair → List Record
kept p = take 24 p.rows

-- a start, lent the kept row or another of n free records
pub data Starts (p : Pair) (n : ℕ) (q : Pair) (text : List ℕ) : Type 0 where
  start_here : (number : ℕ) → n ≡ 24 → Started p.conn (kept p) q.conn (kept q) number → text ≡ start_line number → Starts p n q text
  start_elsewhere : (rows : List Record) (number : ℕ) → (n ≡ 24 → ⊥) → Started p.conn (replicate n free_record) q.conn rows number → q.rows ≡ p.rows → text ≡ start_line number → Starts p n q text

-- a call on one stream, lent the same
pub data Steps (p : Pair) (n : ℕ) (call : Call) (id allow : ℕ) (piece : List ℕ) (q : Pair) (text : List ℕ) : Type 0 where
  step_here : (r : Report) → n ≡ 24 → Stepped p.conn (kept p) call id allow piece q.conn (kept q) r → text ≡ report_line q.conn r → Steps p n call id allow piece q text
  step_elsewhere : (rows : List Record) (r : Report) → (n ≡ 24 → ⊥) → Stepped p.conn (replicate n free_record) call id allow piece q.conn rows r → q.rows ≡ p.rows → text ≡ report_line q.conn r
      → Steps p n call id allow piece q text

-- our GOAWAY, into a buffer
pub record Says (p : Pair) (id : ℕ) (buffer : List ℕ) (q : Pair) (text : List ℕ) : Type 0 where
  pub left : List ℕ
  pub written : Written
  pub said : SaidGoaway p.conn id buffer q.conn left written
  pub rows : q.rows ≡ p.rows
  pub is : text ≡ written_line written.number written.count left

-- a buffer as it is lent
abbrev pub filled : ℕ → List ℕ
filled n = replicate n 170

pub data Writes (p : Pair) (l : Line) (q : Pair) (text : List ℕ) : Type 0 where
  our_goaway : l.verb ≡ Verb.Goaway → Says p l.a (filled l.room) q text → Writes p l q text
  other_write : (w : Writing) → l.verb ≡ Verb.Write w → q ≡ p → text ≡ write_line (write_of w l.a l.b l.room) (filled l.room) → Writes p l q text

-- how many free records a line is lent; 24: the kept row
abbrev pub row_of : Line → ℕ
row_of l = unwrap_or l.row 24

-- THE CALL OF A LINE
pub data Plays (p : Pair) (l : Line) (piece : List ℕ) (q : Pair) (text : List ℕ) : Type 0 where
  starts : l.verb ≡ Verb.Start → Starts p (row_of l) q text → Plays p l piece q text
  opens : l.verb ≡ Verb.Open → Steps p (row_of l) Call.Open l.a l.b piece q text → Plays p l piece q text
  feeds : l.verb ≡ Verb.Feed → Steps p (row_of l) (Call.On Own.Feed) l.a l.b piece q text → Plays p l piece q text
  gives : l.verb ≡ Verb.Give → Steps p (row_of l) (Call.On Own.Give) l.a l.b piece q text → Plays p l piece q text
  ends : l.verb ≡ Verb.End → Steps p (row_of l) (Call.On Own.End) l.a l.b piece q text → Plays p l piece q text
  resets : l.verb ≡ Verb.Reset → Steps p (row_of l) (Call.On Own.Reset) l.a l.b piece q text → Plays p l piece q text
  reads : l.verb ≡ Verb.Value → q ≡ p → text ≡ read_line (integer 0 piece) → Plays p l piece q text
  shows : l.verb ≡ Verb.State → q ≡ p → text ≡ state_line p.conn (kept p) → Plays p l piece q text
  writes : Writes p l q text → Plays p l piece q text

-- A LINE OF A RUN: the script is too long, or at its end; the line is no call; or its call is made
pub data Runs (script : List ℕ) (at : ℕ) (p : Pair) (before after : List ℕ) (r : Option Step) (text : List ℕ) : Type 0 where
  too_long : 1048576 < length script → r ≡ None → text ≡ long_line → Runs script at p before after r text
  at_end : length script ≤ at → r ≡ None → text ≡ [] → Runs script at p before after r text
  bad : LineAt at before None after → r ≡ None → text ≡ bad_line → Runs script at p before after r text
  plays : (l : Line) (q : Pair) → LineAt at before (Some l) after → Plays p l (take l.count after) q text → r ≡ Some (record { pair = q; at = l.next }) → Runs script at p before after r text

-- a text that says so is put from a place of the room on
pub record Lined (Tells : List ℕ → Type 0) (room : List ℕ) (to : ℕ) (after : Text) : Type 0 where
  pub text : List ℕ
  pub tells : Tells text
  pub put : Put room to text after.room after.length

abbrev pub Prints : (Tells : List ℕ → Type 0) (before after : Text) → Type 0
Prints Tells before after = Lined Tells before.room before.length after

-- room for any line
abbrev pub HasLine : Text → Type 0
HasLine t = t.length + 1425 ≤ 2048

pub lined : {Tells : List ℕ → Type 0} {room text : List ℕ} {to most : ℕ} {after : Text} → Tells text → Puts room to text most after.room after.length → Lined Tells room to after
lined t p = record { text = _; tells = t; put = p.put }

pub told : {A B : List ℕ → Type 0} {room : List ℕ} {to : ℕ} {after : Text} → ((text : List ℕ) → A text → B text) → Lined A room to after → Lined B room to after
told f l = record { text = l.text; tells = f l.text l.tells; put = l.put }

-- ---- rows and buffers that are lent in part

take_replicate : {A : Type 0} (n m : ℕ) (x : A) → n ≤ m → take n (replicate m x) ≡ replicate n x
take_replicate zero m x h = refl
take_replicate (suc n) zero x h = absurd (omega arith)
take_replicate (suc n) (suc m) x h = ap (λ xs. x ∷ xs) (take_replicate n m x (omega arith))

free_rows : (n : ℕ) {x : Record} → n ≤ 32 → x ≡ free_record → take n (replicate 32 x) ≡ replicate n free_record
free_rows n {x} h e = take_replicate n 32 x h ∙ ap (replicate n) e

-- the row that is lent, and what is left of it
pub record Lends (p : Pair) (n : ℕ) (rows : List Record) : Type 0 where
  pub here : n ≡ 24 → rows ≡ p.rows
  pub elsewhere : (n ≡ 24 → ⊥) → rows ≡ replicate 32 free_record

pub record Leaves (p : Pair) (n : ℕ) (c : Connection) (rows : List Record) (q : Pair) : Type 0 where
  pub conn : q.conn ≡ c
  pub here : n ≡ 24 → q.rows ≡ rows
  pub elsewhere : (n ≡ 24 → ⊥) → q.rows ≡ p.rows

module _ (p : Pair) (n : ℕ) (h : n ≤ 32) {lent left : List Record} {c : Connection} {q : Pair} (a : Lends p n lent) (b : Leaves p n c left q) where
  pub start_lent : {number : ℕ} → Started p.conn (take n lent) c (take n left) number → Starts p n q (start_line number)
  start_lent {number} s = go (eqb n 24) refl
    where
      go : (x : Bool) → eqb n 24 ≡ x → Starts p n q (start_line number)
      go true e =
          let k : n ≡ 24 = eqb-true n 24 e in
          start_here number k (rw (b.conn, b.here k, ← a.here k, ← k) s) refl
      go false e =
          let w : n ≡ 24 → ⊥ = eqb-false n 24 e in
          start_elsewhere (take n left) number w (rw (b.conn, ← free_rows n h refl, ← a.elsewhere w) s) (b.elsewhere w) refl

  pub step_lent : {call : Call} {id allow : ℕ} {piece : List ℕ} {r : Report} → Stepped p.conn (take n lent) call id allow piece c (take n left) r → Steps p n call id allow piece q (report_line c r)
  step_lent {call} {id} {allow} {piece} {r} s = go (eqb n 24) refl
    where
      go : (x : Bool) → eqb n 24 ≡ x → Steps p n call id allow piece q (report_line c r)
      go true e =
          let k : n ≡ 24 = eqb-true n 24 e in
          step_here r k (rw (b.conn, b.here k, ← a.here k, ← k) s) (rw b.conn refl)
      go false e =
          let w : n ≡ 24 → ⊥ = eqb-false n 24 e in
          step_elsewhere (take n left) r w (rw (b.conn, ← free_rows n h refl, ← a.elsewhere w) s) (b.elsewhere w) (rw b.conn refl)

module _ (p : Pair) (l : Line) (b : List ℕ) (h : l.room ≤ 64) (e : b ≡ replicate 64 170) where
  in_filled : take l.room b ≡ filled l.room
  in_filled = ap (take l.room) e ∙ take_replicate l.room 64 170 h

  pub goaway_in : {q : Pair} {room : List ℕ} {to : ℕ} {after : Text} → l.verb ≡ Verb.Goaway → Lined (Says p l.a (take l.room b) q) room to after → Lined (Writes p l q) room to after
  goaway_in {q} g s = told (λ t y. our_goaway g (subst (λ x. Says p l.a x q t) in_filled y)) s

  pub write_in : {room : List ℕ} {to most : ℕ} {after : Text} {w : Writing} → l.verb ≡ Verb.Write w → Puts room to (write_line (write_of w l.a l.b (length (take l.room b))) (take l.room b)) most after.room after.length
      → Lined (Writes p l p) room to after
  write_in v y =
      let t = in_filled in
      let k = length-replicate {A = ℕ} l.room 170 in
      lined (other_write _ v refl (rw (t, k) refl)) y
