-- ONE ANSWER: each lent call leaves one answer and one content of what it was lent; a call on one stream leaves every other record as it was; a row of
-- another length alters nothing; what start leaves does not depend on what was there; and a pair stays a pair. Assumes nothing.
use Rattle.std.specs.Prelude.{◌≡◌, refl, ℕ, zero, suc, ◌≤◌, List, [], ◌∷◌, map, length, get_or, set}
use Rattle.std.proofs.Common.{sym, ap, subst, ◌∙◌, arith, length-set}
use Rattle.std.proofs.lemmas.List.{length-map}
use Rattle.rules.specs.Numbers.{OTHER-ROW}
use Rattle.rules.specs.Writer.{Write}
use Rattle.record.specs.declared.Record.{Record}
use Rattle.record.specs.Row.{free_record}
use Rattle.connection.specs.declared.Call.{Call}
use Rattle.connection.specs.declared.Connection.{Connection}
use Rattle.connection.specs.declared.Report.{Report}
use Rattle.connection.specs.declared.Found.{Found}
use Rattle.connection.specs.declared.Turn.{Turn}
use Rattle.connection.specs.declared.Written.{Written}
use Rattle.connection.specs.Whose.{found_one}
use Rattle.connection.specs.Halves.{with_doors}
use Rattle.connection.specs.Turned.{numbered, unaltered, Turned, other_row, dead, opens, not_open, request, one_way, begun_of, swept_of}
use Rattle.connection.proofs.Ways.{begun_fresh, swept_free}
use Rattle.connection.specs.One.{one_turn, one_goaway}
use Rattle.connection.specs.Pair.{Paired, kept_pair, goaway_pair}
use Rattle.connection.proofs.Pair.{start_pair}
use Rattle.calls.specs.Promises.{Started, Stepped, SaidGoaway, WroteInto}
use Rattle.calls.specs.Rows.{set_past, set_other}

-- ---- a call on one stream

nine : {c : Connection} {f : Found} {call : Call} {id allow : ℕ} {piece : List ℕ} {t : Turn} → Turned c f call id allow piece t → (f.len ≡ 24 → ⊥) → t ≡ unaltered OTHER-ROW c f
nine (other_row n q) x = q
nine (dead l n q) x = absurd (x l)
nine (opens v e q) x = absurd (x v.long)
nine (not_open v e n q) x = absurd (x v.long)
nine (request v e l o q s) x = absurd (x v.long)
nine (one_way v e l h q s) x = absurd (x v.long)

set_same : (rows : List Record) (i : ℕ) (d : Record) → set rows i (get_or rows i d) ≡ rows
set_same [] i d = refl
set_same (r ∷ rows) zero d = refl
set_same (r ∷ rows) (suc i) d = ap (λ x. r ∷ x) (set_same rows i d)

all_free : (rows others : List Record) → length rows ≡ length others → (n m : ℕ) → n ≡ 24 → m ≡ 24 → map (swept_of n) rows ≡ map (swept_of m) others
all_free [] [] e n m a b = refl
all_free [] (q ∷ others) e n m a b = absurd (omega arith)
all_free (r ∷ rows) [] e n m a b = absurd (omega arith)
all_free (r ∷ rows) (q ∷ others) e n m a b =
    ap (λ x. x ∷ map (swept_of n) rows) (sym (swept_free n r a refl) ∙ swept_free m q b refl) ∙ ap (λ x. swept_of m q ∷ x) (all_free rows others (omega arith) n m a b)

module _ {c : Connection} {rows : List Record} {call : Call} {id allow : ℕ} {piece : List ℕ} where
  -- two results that meet the contract are equal, and so is what they leave
  pub one_step : {c₁ c₂ : Connection} {rows₁ rows₂ : List Record} {r₁ r₂ : Report}
      → Stepped c rows call id allow piece c₁ rows₁ r₁ → Stepped c rows call id allow piece c₂ rows₂ r₂ → (c₁ ≡ c₂) × (rows₁ ≡ rows₂) × (r₁ ≡ r₂)
  one_step a b =
      let e : a.found ≡ b.found = found_one a.is_found b.is_found in
      let t : a.turn ≡ b.turn = one_turn c b.found call id allow piece (subst (λ f. Turned c f call id allow piece a.turn) e a.turned) b.turned in (
        a.conn_left ∙ ap (λ u. u.conn) t ∙ sym b.conn_left,
        a.rows_left ∙ ap (λ f. set rows f.at a.turn.row) e ∙ ap (λ u. set rows b.found.at u.row) t ∙ sym b.rows_left,
        a.answered ∙ ap (λ u. u.report) t ∙ sym b.answered,
      )

  module _ {c' : Connection} {rows' : List Record} {r : Report} (s : Stepped c rows call id allow piece c' rows' r) where
    -- OTHER RECORDS stay as they were, and the row as long
    pub others_stay : (j : ℕ) → (j ≡ s.found.at → ⊥) → get_or rows' j free_record ≡ get_or rows j free_record
    others_stay j n = ap (λ x. get_or x j free_record) s.rows_left ∙ set_other rows s.found.at j s.turn.row free_record n

    pub length_stays : length rows' ≡ length rows
    length_stays = ap length s.rows_left ∙ length-set rows s.found.at s.turn.row

    -- A ROW OF ANOTHER LENGTH: 9, and nothing is altered
    pub other_length : (length rows ≡ 24 → ⊥) → (c' ≡ c) × (rows' ≡ rows) × (r ≡ numbered OTHER-ROW)
    other_length n =
        let t : s.turn ≡ unaltered OTHER-ROW c s.found = nine s.turned (λ e. n (sym s.is_found.long ∙ e)) in
        (s.conn_left ∙ ap (λ u. u.conn) t, s.rows_left ∙ ap (λ u. set rows s.found.at u.row) t ∙ ap (set rows s.found.at) s.is_found.row ∙ set_same rows s.found.at free_record, s.answered ∙ ap (λ u. u.report) t)

    -- THE PAIR STAYS ONE
    pub stays_paired : Paired c rows → Paired c' rows'
    stays_paired p = subst (λ x. Paired x rows') (sym s.conn_left) (subst (Paired s.turn.conn) (sym s.rows_left) (kept_pair s.is_found p s.turned))

    -- where no record is wanted, none is changed
    pub none_changed : length rows ≤ s.found.at → rows' ≡ rows
    none_changed l = s.rows_left ∙ set_past rows s.found.at s.turn.row l

-- ---- start

module _ {c : Connection} {rows : List Record} where
  pub one_start : {c₁ c₂ : Connection} {rows₁ rows₂ : List Record} {r₁ r₂ : ℕ} → Started c rows c₁ rows₁ r₁ → Started c rows c₂ rows₂ r₂ → (c₁ ≡ c₂) × (rows₁ ≡ rows₂) × (r₁ ≡ r₂)
  one_start a b = (a.conn_left ∙ sym b.conn_left, a.rows_left ∙ sym b.rows_left, a.answered ∙ sym b.answered)

  -- WHAT START LEAVES does not depend on what was there
  pub start_anew : {d c₁ c₂ : Connection} {others rows₁ rows₂ : List Record} {r₁ r₂ : ℕ} → length rows ≡ 24 → length others ≡ 24 → Started c rows c₁ rows₁ r₁ → Started d others c₂ rows₂ r₂ → (c₁ ≡ c₂) × (rows₁ ≡ rows₂) × (r₁ ≡ r₂)
  start_anew {d} {others = others} l m a b =
      let x = sym (begun_fresh c (length rows) l refl) in
      let y = sym (begun_fresh d (length others) m refl) in
      (a.conn_left ∙ ap (λ z. z.conn) (x ∙ sym y) ∙ sym b.conn_left, a.rows_left ∙ all_free rows others (l ∙ sym m) (length rows) (length others) l m ∙ sym b.rows_left, a.answered ∙ ap (λ z. z.number) (x ∙ sym y) ∙ sym b.answered)

  pub start_pairs : {c' : Connection} {rows' : List Record} {r : ℕ} → length rows ≡ 24 → Started c rows c' rows' r → Paired c' rows'
  start_pairs {rows' = rows'} l s = subst (λ x. Paired x rows') (sym s.conn_left) (subst (Paired (begun_of c (length rows)).conn) (sym s.rows_left) (start_pair c rows l))

  pub start_length : {c' : Connection} {rows' : List Record} {r : ℕ} → Started c rows c' rows' r → length rows' ≡ length rows
  start_length s = ap length s.rows_left ∙ length-map rows (swept_of (length rows))

-- ---- our GOAWAY

module _ {c : Connection} {id : ℕ} {room : List ℕ} where
  pub one_sent : {c₁ c₂ : Connection} {x y : List ℕ} {r₁ r₂ : Written} → SaidGoaway c id room c₁ x r₁ → SaidGoaway c id room c₂ y r₂ → (c₁ ≡ c₂) × (x ≡ y) × (r₁ ≡ r₂)
  one_sent a b = let e = one_goaway a.goes b.goes in
      (a.conn_left ∙ ap (λ g. with_doors c g.doors) e.0 ∙ sym b.conn_left, e.1, a.answered ∙ ap (λ g. g.written) e.0 ∙ sym b.answered)

  pub goaway_pairs : {rows : List Record} {c' : Connection} {x : List ℕ} {r : Written} → SaidGoaway c id room c' x r → Paired c rows → Paired c' rows
  goaway_pairs {rows} a p = subst (λ y. Paired y rows) (sym a.conn_left) (goaway_pair a.goes p)

-- ---- the other writes

pub one_write : {w : Write} {room x y : List ℕ} {r₁ r₂ : Written} → WroteInto w room r₁ x → WroteInto w room r₂ y → (x ≡ y) × (r₁ ≡ r₂)
one_write a b = (a.room_left ∙ sym b.room_left, a.answered ∙ sym b.answered)
