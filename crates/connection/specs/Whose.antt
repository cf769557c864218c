-- Which record of the row a call is about, and what a search of the row finds. Assumes nothing.
use Rattle.std.specs.Prelude.{◌≡◌, ℕ, ◌≤◌, ◌<◌, List, Bool, not, eqb, length, get_or}
use Rattle.std.proofs.Common.{sym, ap, ◌∙◌, arith}
use Rattle.std.proofs.Math.Decide.{ℕ_discrete, dec_lt}
use borrow.Author.Tests.{eq-eqb, ne_eqb}
use Rattle.record.specs.Kinds.{FREE}
use Rattle.record.specs.declared.Record.{Record}
use Rattle.record.specs.Row.{free_record}
use Rattle.record.specs.Sound.{Decides}
use Rattle.record.specs.Tests.{accepts, refuses}
use Rattle.connection.specs.declared.Call.{Call}
use Rattle.connection.specs.declared.Own.{Own}
use Rattle.connection.specs.declared.Found.{Found}

-- A RECORD THAT MAY BE TAKEN: free
abbrev pub Vacant : Record → Type 0
Vacant r = r ≡ free_record

-- WHOSE RECORD IT IS: an open stream's, and its ID is this one
pub record Belongs (id : ℕ) (r : Record) : Type 0 where
  pub taken : r.kind ≡ FREE → ⊥
  pub own : r.id ≡ id

-- THE RECORD THAT IS WANTED: of an opening one that may be taken, of a call on a stream the stream's own
unfoldable pub Wanted : Call → (id : ℕ) → Record → Type 0
Wanted Call.Open id r = Vacant r
Wanted (Call.On own) id r = Belongs id r

pub open_not_on : {call : Call} {own : Own} → call ≡ Call.Open → call ≡ Call.On own → ⊥
open_not_on e on = let z : ◌≡◌ {A = ℕ} 0 1 = cc in omega arith

pub one_own : {call : Call} {own also : Own} → call ≡ Call.On own → call ≡ Call.On also → own ≡ also
one_own e f = cc

-- WHAT A SEARCH FINDS: the first record that is wanted
pub record FoundIn (call : Call) (id : ℕ) (rows : List Record) (f : Found) : Type 0 where
  pub long : f.len ≡ length rows
  pub within : f.at ≤ length rows
  pub before : (j : ℕ) → j < f.at → Wanted call id (get_or rows j free_record) → ⊥
  pub there : f.at < length rows → Wanted call id (get_or rows f.at free_record)
  pub row : f.row ≡ get_or rows f.at free_record

-- ---- A SEARCH FINDS ONE THING

abbrev found : (len at : ℕ) → Record → Found
found len at r = record { len = len; at = at; row = r }

module _ {call : Call} {id : ℕ} {rows : List Record} where
  no_earlier : {f g : Found} → FoundIn call id rows f → FoundIn call id rows g → f.at < g.at → ⊥
  no_earlier {f} {g} x y l = let w = y.within in y.before f.at l (x.there (omega arith))

  same_place : {f g : Found} → FoundIn call id rows f → FoundIn call id rows g → Dec (f.at < g.at) → Dec (g.at < f.at) → f.at ≡ g.at
  same_place x y (yes l) d = absurd (no_earlier x y l)
  same_place x y (no n) (yes l) = absurd (no_earlier y x l)
  same_place x y (no n) (no m) = omega arith

  pub found_one : {f g : Found} → FoundIn call id rows f → FoundIn call id rows g → f ≡ g
  found_one {f} {g} x y = let e = same_place x y (dec_lt f.at g.at) (dec_lt g.at f.at) in
      ap (λ n. found n f.at f.row) (x.long ∙ sym y.long) ∙ ap (λ n. found g.len n f.row) e
      ∙ ap (found g.len g.at) (x.row ∙ ap (λ n. get_or rows n free_record) e ∙ sym y.row)

-- ---- laws of the test: a law for each way out

module _ (id : ℕ) (r : Record) {call : Call} where
  pub wanted_vacant : {b : Bool} → call ≡ Call.Open → Decides (r ≡ free_record) b → Decides (Wanted call id r) b
  unfolding Wanted
  wanted_vacant e d = rw e d

  module _ {own : Own} (on : call ≡ Call.On own) where
    pub belongs_wanted : Belongs id r → Wanted call id r
    unfolding Wanted
    belongs_wanted w = rw on w

    pub wanted_belongs : Wanted call id r → Belongs id r
    unfolding Wanted
    wanted_belongs w = rw on at w

    pub wanted_own : (r.kind ≡ FREE → ⊥) → r.id ≡ id → Decides (Wanted call id r) Bool.true
    wanted_own k e = accepts (belongs_wanted (record { taken = k; own = e }))

    pub wanted_free : r.kind ≡ FREE → Decides (Wanted call id r) Bool.false
    wanted_free k = refuses (λ w. (wanted_belongs w).taken k)

    pub wanted_other : (r.id ≡ id → ⊥) → Decides (Wanted call id r) Bool.false
    wanted_other k = refuses (λ w. k (wanted_belongs w).own)

    pub wanted_taken : r.id ≡ id → Decides (Wanted call id r) (not (eqb r.kind FREE))
    wanted_taken e = by (ℕ_discrete r.kind FREE)
      where
        by : Dec (r.kind ≡ FREE) → Decides (Wanted call id r) (not (eqb r.kind FREE))
        by (yes k) = let x = eq-eqb r.kind FREE k in rw x (wanted_free k)
        by (no k) = let x = ne_eqb r.kind FREE k in rw x (wanted_own k e)
