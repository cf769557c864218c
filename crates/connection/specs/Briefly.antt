-- A FEED OF CONTENT: it is answered from the connection's code alone, the same for every connection of that code. Assumes nothing.
use Rattle.std.specs.Prelude.{◌≡◌, refl, ℕ, ◌<◌, List, Option, Some, IfSome}
use Rattle.std.proofs.Common.{ap, ◌∙◌, arith}
use Rattle.record.specs.Kinds.{REQUEST}
use Rattle.record.specs.Sound.{cells_in}
use Rattle.record.specs.Body.{content_in}
use Rattle.requests.specs.declared.Reply.{Reply}
use Rattle.requests.specs.Reply.{Content as OfRequest}
use Rattle.connection.specs.declared.Call.{Call}
use Rattle.connection.specs.declared.Own.{Own}
use Rattle.connection.specs.declared.Connection.{Connection}
use Rattle.connection.specs.declared.Found.{Found}
use Rattle.connection.specs.declared.Report.{Report}
use Rattle.connection.specs.declared.Brief.{Brief}
use Rattle.connection.specs.Faults.{kept_small}
use Rattle.connection.specs.Turned.{request_report, turn, Turned}
use Rattle.connection.specs.Ways.{asks_feed, on_request}

-- WHAT CONTENT LEAVES OF THE CONNECTION: all as it is
abbrev pub content_leaves : Connection → Brief → Connection
content_leaves c b = c

-- what there is of it is what the call answers, accepted; none says nothing
pub record Content (code : ℕ) (f : Found) (allow : ℕ) (piece : List ℕ) (b : Brief) : Type 0 where
  pub accepted : b.report.number ≡ 0
  pub turns : (c : Connection) (id : ℕ) → c.doors.code ≡ code → Turned c f (Call.On Own.Feed) id allow piece (turn (content_leaves c b) b.row b.report)
  pub alters : b.row ≡ content_in f.row (cells_in b.row)  -- three numbers of the record

pub record Briefly (code : ℕ) (f : Found) (allow : ℕ) (piece : List ℕ) (o : Option Brief) : Type 0 where
  pub content : IfSome o (Content code f allow piece)

module _ {code : ℕ} {f : Found} {allow : ℕ} {piece : List ℕ} where
  pub briefly_so : f.len ≡ 24 → code ≡ 0 → f.at < 24 → f.row.kind ≡ REQUEST → {a : Reply} → OfRequest f.row allow piece a → {r : Report} → r ≡ request_report a
      → Briefly code f allow piece (Some (record { row = a.row; report = r }))
  briefly_so l z w k {a} took {r} q = record {
    content = record {
      accepted = ap (λ (x : Report). x.number) q ∙ took.accepted;
      turns = λ c id e.
          on_request id allow (record { long = l; alive = e ∙ z }) refl w {a = a} k (asks_feed f.row allow piece refl took.keeps)
          (ap (turn c a.row) q ∙ ap (λ x. turn x a.row (request_report a)) (kept_small c a.number (let y = took.accepted in omega arith)));
      alters = took.alters;
    };
  }
