-- THE FUNCTIONS BEHIND WHAT A HOST LINKS (calls_c gives each its name in C, under the same promise): each, by its own name and as it is proved, makes the call that these theorems speak of. What is
-- cited of a function is its own theorem (`Met`), so another function's promise under its name is refused here. Assumes nothing.
use Rattle.std.specs.Prelude.{ℕ, ◌≡◌, refl, List, [], ◌∷◌, length}
use seplogic.Ra.Ura.{Ura}
use base.Logic.{ent, emp}
use prog.Model.{Model}
use prog.Routine.{Callee}
use prog.Wired.{Wired, Code}
use mir.Syntax.{Symbol}
use types.Logic.{Logic}
use contract.Monad.{fact, fact_mono, fm→mono}
use contract.Lifetimes.{Lfts}
use contract.Running.{Running}
use denote.Triple.Entry.{Args, Res}
use denote.Triple.Spec.{Meets}
use denote.Triple.Clauses.{AtExit, Clauses, closing}
use denote.Triple.Clauses as kit
use denote.Triple.Table.{run_framed}
use denote.Triple.Weaken.{weaken}
use Rattle.rules.specs.Calls.{feed, section, end, reset, Call, start, open', on, goaway}
use Rattle.record.specs.declared.Record.{Record}
use Rattle.connection.specs.declared.Connection.{Connection}
use Rattle.connection.specs.declared.Report.{Report}
use Rattle.connection.specs.declared.Written.{Written}
use Rattle.calls.specs.Promises as promise
use Rattle.calls.specs.contracts.eistulko_start as Start
use Rattle.calls.proofs.eistulko_start.Symbol as Start-is
use Rattle.calls.proofs.eistulko_start.Met as Start-has
use Rattle.calls.specs.contracts.eistulko_open as Open
use Rattle.calls.proofs.eistulko_open.Symbol as Open-is
use Rattle.calls.proofs.eistulko_open.Met as Open-has
use Rattle.calls.specs.contracts.eistulko_feed as Feed
use Rattle.calls.proofs.eistulko_feed.Symbol as Feed-is
use Rattle.calls.proofs.eistulko_feed.Met as Feed-has
use Rattle.calls.specs.contracts.eistulko_give as Give
use Rattle.calls.proofs.eistulko_give.Symbol as Give-is
use Rattle.calls.proofs.eistulko_give.Met as Give-has
use Rattle.calls.specs.contracts.eistulko_end as End
use Rattle.calls.proofs.eistulko_end.Symbol as End-is
use Rattle.calls.proofs.eistulko_end.Met as End-has
use Rattle.calls.specs.contracts.eistulko_reset as Reset
use Rattle.calls.proofs.eistulko_reset.Symbol as Reset-is
use Rattle.calls.proofs.eistulko_reset.Met as Reset-has
use Rattle.calls.specs.contracts.eistulko_goaway as Goaway
use Rattle.calls.proofs.eistulko_goaway.Symbol as Goaway-is
use Rattle.calls.proofs.eistulko_goaway.Met as Goaway-has
use Rattle.calls.specs.contracts.eistulko_write_header as Header
use Rattle.calls.proofs.eistulko_write_header.Symbol as Header-is
use Rattle.calls.proofs.eistulko_write_header.Met as Header-has
use Rattle.calls.specs.contracts.eistulko_write_integer_frame as IntegerFrame
use Rattle.calls.proofs.eistulko_write_integer_frame.Symbol as IntegerFrame-is
use Rattle.calls.proofs.eistulko_write_integer_frame.Met as IntegerFrame-has
use Rattle.calls.specs.contracts.eistulko_write_opening as Opening
use Rattle.calls.proofs.eistulko_write_opening.Symbol as Opening-is
use Rattle.calls.proofs.eistulko_write_opening.Met as Opening-has
use Rattle.demands.specs.Streams.{streams}
use Rattle.demands.specs.Runs.{Seen, a_number, a_report, a_written}

-- which functions they are, by the name in the source
pub named : ◌≡◌ {A = List Symbol} (Start-is.symbol ∷ Open-is.symbol ∷ Feed-is.symbol ∷ Give-is.symbol ∷ End-is.symbol ∷ Reset-is.symbol ∷ Goaway-is.symbol ∷ Header-is.symbol ∷ IntegerFrame-is.symbol ∷ Opening-is.symbol ∷ [])
    ("calls::eistulko_start" ∷ "calls::eistulko_open" ∷ "calls::eistulko_feed" ∷ "calls::eistulko_give" ∷ "calls::eistulko_end" ∷ "calls::eistulko_reset" ∷ "calls::eistulko_goaway" ∷ "calls::eistulko_write_header" ∷ "calls::eistulko_write_integer_frame" ∷ "calls::eistulko_write_opening" ∷ [])
named = refl

-- what may be said of a function's arguments, of its answer, and of what it leaves behind the references that it is lent
abbrev pub Says : kit.Ended → Type 1
Says T = (κs : Lfts T.signature.lifetimes) → Args T.signature κs → Res T.signature κs → AtExit T κs → Type 0

-- and of what it is lent and passed, in plain values: of a call on a connection and a row, whichever it is, and of each; and of a write into a room
abbrev pub CallSays : Type 1
CallSays = (c : Connection) (rows : List Record) (k : Call streams) (x : Seen) (c' : Connection) (rows' : List Record) → Type 0

abbrev pub StartSays : Type 1
StartSays = (c : Connection) (rows : List Record) (n : ℕ) (c' : Connection) (rows' : List Record) → Type 0

abbrev pub StreamSays : Type 1
StreamSays = (c : Connection) (rows : List Record) (id : ℕ) (r : Report) (c' : Connection) (rows' : List Record) → Type 0

abbrev pub FeedSays : Type 1
FeedSays = (c : Connection) (rows : List Record) (id : ℕ) (piece : List ℕ) (allow : ℕ) (r : Report) (c' : Connection) (rows' : List Record) → Type 0

abbrev pub GiveSays : Type 1
GiveSays = (c : Connection) (rows : List Record) (id : ℕ) (block : List ℕ) (r : Report) (c' : Connection) (rows' : List Record) → Type 0

abbrev pub GoawaySays : Type 1
GoawaySays = (c : Connection) (id : ℕ) (room : List ℕ) (r : Written) (c' : Connection) (room' : List ℕ) → Type 0

abbrev pub FrameSays : Type 1
FrameSays = (type value : ℕ) (room : List ℕ) (r : Written) (room' : List ℕ) → Type 0

abbrev pub RoomSays : Type 1
RoomSays = (room : List ℕ) (r : Written) (room' : List ℕ) → Type 0

-- where programs run, as the kit has it
pub record World : Type 2 where
  pub M : Type 1
  pub 𝓤 : Ura M
  pub 𝓛 : Logic 𝓤
  pub 𝓜 : Model 𝓤 𝓛.H
  pub 𝓡 : Running 𝓤 𝓛.H 𝓜

module _ (w : World) where
  -- EVERY CALL OF A FUNCTION, where its name has its code, whatever it is passed: nothing is asked of the caller, it returns, and P holds then
  abbrev pub Always : (T : kit.Ended) → Code → Callee → Says T → Type 1
  Always T code name P = Wired w.𝓡.env code → Meets w.𝓛 T.signature (w.𝓡.run (w.𝓡.env name))
      (closing w.𝓛 T (λ κs a. record { ghost = Unit {0}; requires = λ g. emp w.𝓤; ensures = λ g r e. fact w.𝓤 (P κs a r e) }))

  -- from the function's own promise
  module _ (T : kit.Ended) (code : Code) (name : Callee) (c : Clauses w.𝓤 T) (P : Says T) where
    so : ((κs : Lfts T.signature.lifetimes) (a : Args T.signature κs) (g : (c κs a).ghost) (r : Res T.signature κs) (e : AtExit T κs) → ent w.𝓤 ((c κs a).ensures g r e) (fact w.𝓤 (P κs a r e)))
        → (Wired w.𝓡.env code → Meets w.𝓛 T.signature (w.𝓡.run (w.𝓡.env name)) (closing w.𝓛 T c))
        → Wired w.𝓡.env code → Meets w.𝓛 T.signature (w.𝓡.run (w.𝓡.env name)) (closing w.𝓛 T (λ κs a. record { ghost = (c κs a).ghost; requires = (c κs a).requires; ensures = λ g r e. fact w.𝓤 (P κs a r e) }))
    so h met wired = weaken w.𝓛 T c (λ κs a g r e. fact w.𝓤 (P κs a r e)) (λ κs a g r ws. h κs a g r _) (w.𝓡.run (w.𝓡.env name))
        (λ vs. fm→mono w.𝓤 (w.𝓡.run (w.𝓡.env name) vs) (run_framed w.𝓤 w.𝓛.H w.𝓜 w.𝓡 (w.𝓡.env name) vs)) (met wired)

  -- ---- the calls on a connection and a row: what is lent, what is passed, what is answered, what is left. Whatever follows from the promise of a call
  -- holds of every call of the function of that name, by its own theorem

  abbrev pub OfStart : StartSays → Type 1
  OfStart Q = Always Start.ended Start-is.code Start-is.name (λ κs a r e. Q a.0.now a.1.0.now r e.0.now e.1.0.now)

  pub of_start : (Q : StartSays) → ((c : Connection) (rows : List Record) (n : ℕ) (c' : Connection) (rows' : List Record) → promise.Started c rows c' rows' n → Q c rows n c' rows') → OfStart Q
  of_start Q h = so Start.ended Start-is.code Start-is.name (Start.clauses w.𝓛 w.𝓜.mem w.𝓡.returns) _ (λ κs a g r e. fact_mono w.𝓤 _ _ (h _ _ _ _ _)) (Start-has.met w.𝓤 w.𝓛 w.𝓜 w.𝓡)

  abbrev pub OfOpen : StreamSays → Type 1
  OfOpen Q = Always Open.ended Open-is.code Open-is.name (λ κs a r e. Q a.0.now a.1.0.now a.1.1.0 r e.0.now e.1.0.now)

  pub of_open : (Q : StreamSays) → ((c : Connection) (rows : List Record) (id : ℕ) (r : Report) (c' : Connection) (rows' : List Record) → promise.Opened c rows id c' rows' r → Q c rows id r c' rows') → OfOpen Q
  of_open Q h = so Open.ended Open-is.code Open-is.name (Open.clauses w.𝓛 w.𝓜.mem w.𝓡.returns) _ (λ κs a g r e. fact_mono w.𝓤 _ _ (h _ _ _ _ _ _)) (Open-has.met w.𝓤 w.𝓛 w.𝓜 w.𝓡)

  abbrev pub OfFeed : FeedSays → Type 1
  OfFeed Q = Always Feed.ended Feed-is.code Feed-is.name (λ κs a r e. Q a.0.now a.1.0.now a.1.1.0 a.1.1.1.0.now a.1.1.1.1.0 r e.0.now e.1.0.now)

  pub of_feed : (Q : FeedSays) → ((c : Connection) (rows : List Record) (id : ℕ) (piece : List ℕ) (allow : ℕ) (r : Report) (c' : Connection) (rows' : List Record) → promise.Fed c rows id piece allow c' rows' r → Q c rows id piece allow r c' rows') → OfFeed Q
  of_feed Q h = so Feed.ended Feed-is.code Feed-is.name (Feed.clauses w.𝓛 w.𝓜.mem w.𝓡.returns) _ (λ κs a g r e. fact_mono w.𝓤 _ _ (h _ _ _ _ _ _ _ _)) (Feed-has.met w.𝓤 w.𝓛 w.𝓜 w.𝓡)

  abbrev pub OfGive : GiveSays → Type 1
  OfGive Q = Always Give.ended Give-is.code Give-is.name (λ κs a r e. Q a.0.now a.1.0.now a.1.1.0 a.1.1.1.0.now r e.0.now e.1.0.now)

  pub of_give : (Q : GiveSays) → ((c : Connection) (rows : List Record) (id : ℕ) (block : List ℕ) (r : Report) (c' : Connection) (rows' : List Record) → promise.Given c rows id block c' rows' r → Q c rows id block r c' rows') → OfGive Q
  of_give Q h = so Give.ended Give-is.code Give-is.name (Give.clauses w.𝓛 w.𝓜.mem w.𝓡.returns) _ (λ κs a g r e. fact_mono w.𝓤 _ _ (h _ _ _ _ _ _ _)) (Give-has.met w.𝓤 w.𝓛 w.𝓜 w.𝓡)

  abbrev pub OfEnd : StreamSays → Type 1
  OfEnd Q = Always End.ended End-is.code End-is.name (λ κs a r e. Q a.0.now a.1.0.now a.1.1.0 r e.0.now e.1.0.now)

  pub of_end : (Q : StreamSays) → ((c : Connection) (rows : List Record) (id : ℕ) (r : Report) (c' : Connection) (rows' : List Record) → promise.Ended c rows id c' rows' r → Q c rows id r c' rows') → OfEnd Q
  of_end Q h = so End.ended End-is.code End-is.name (End.clauses w.𝓛 w.𝓜.mem w.𝓡.returns) _ (λ κs a g r e. fact_mono w.𝓤 _ _ (h _ _ _ _ _ _)) (End-has.met w.𝓤 w.𝓛 w.𝓜 w.𝓡)

  abbrev pub OfReset : StreamSays → Type 1
  OfReset Q = Always Reset.ended Reset-is.code Reset-is.name (λ κs a r e. Q a.0.now a.1.0.now a.1.1.0 r e.0.now e.1.0.now)

  pub of_reset : (Q : StreamSays) → ((c : Connection) (rows : List Record) (id : ℕ) (r : Report) (c' : Connection) (rows' : List Record) → promise.Reset c rows id c' rows' r → Q c rows id r c' rows') → OfReset Q
  of_reset Q h = so Reset.ended Reset-is.code Reset-is.name (Reset.clauses w.𝓛 w.𝓜.mem w.𝓡.returns) _ (λ κs a g r e. fact_mono w.𝓤 _ _ (h _ _ _ _ _ _)) (Reset-has.met w.𝓤 w.𝓛 w.𝓜 w.𝓡)

  abbrev pub OfGoaway : GoawaySays → Type 1
  OfGoaway Q = Always Goaway.ended Goaway-is.code Goaway-is.name (λ κs a r e. Q a.0.now a.1.0 a.1.1.0.now r e.0.now e.1.1.0.now)

  pub of_goaway : (Q : GoawaySays) → ((c : Connection) (id : ℕ) (room : List ℕ) (r : Written) (c' : Connection) (room' : List ℕ) → promise.SaidGoaway c id room c' room' r → Q c id room r c' room') → OfGoaway Q
  of_goaway Q h = so Goaway.ended Goaway-is.code Goaway-is.name (Goaway.clauses w.𝓛 w.𝓜.mem w.𝓡.returns) _ (λ κs a g r e. fact_mono w.𝓤 _ _ (h _ _ _ _ _ _)) (Goaway-has.met w.𝓤 w.𝓛 w.𝓜 w.𝓡)

  -- WHAT HOLDS OF EVERY CALL, whichever function makes it (our GOAWAY is lent no row, and so leaves any as it was)
  pub record Every (Q : CallSays) : Type 1 where
    pub eistulko_start : OfStart (λ c rows n c' rows'. Q c rows start (a_number n) c' rows')
    pub eistulko_open : OfOpen (λ c rows id r c' rows'. Q c rows (open' id) (a_report r) c' rows')
    pub eistulko_feed : OfFeed (λ c rows id piece allow r c' rows'. Q c rows (on id (feed allow piece)) (a_report r) c' rows')
    pub eistulko_give : OfGive (λ c rows id block r c' rows'. Q c rows (on id (section block)) (a_report r) c' rows')
    pub eistulko_end : OfEnd (λ c rows id r c' rows'. Q c rows (on id end) (a_report r) c' rows')
    pub eistulko_reset : OfReset (λ c rows id r c' rows'. Q c rows (on id reset) (a_report r) c' rows')
    pub eistulko_goaway : OfGoaway (λ c id room r c' room'. (rows : List Record) → Q c rows (goaway id (length room)) (a_written r) c' rows)

  -- ---- the plain writes

  abbrev pub OfHeader : FrameSays → Type 1
  OfHeader Q = Always Header.ended Header-is.code Header-is.name (λ κs a r e. Q a.0 a.1.0 a.1.1.0.now r e.1.1.0.now)

  pub of_header : (Q : FrameSays) → ((type len : ℕ) (room : List ℕ) (r : Written) (room' : List ℕ) → promise.WroteHeader type len room r room' → Q type len room r room') → OfHeader Q
  of_header Q h = so Header.ended Header-is.code Header-is.name (Header.clauses w.𝓛 w.𝓜.mem w.𝓡.returns) _ (λ κs a g r e. fact_mono w.𝓤 _ _ (h _ _ _ _ _)) (Header-has.met w.𝓤 w.𝓛 w.𝓜 w.𝓡)

  abbrev pub OfIntegerFrame : FrameSays → Type 1
  OfIntegerFrame Q = Always IntegerFrame.ended IntegerFrame-is.code IntegerFrame-is.name (λ κs a r e. Q a.0 a.1.0 a.1.1.0.now r e.1.1.0.now)

  pub of_integer_frame : (Q : FrameSays) → ((type value : ℕ) (room : List ℕ) (r : Written) (room' : List ℕ) → promise.WroteIntegerFrame type value room r room' → Q type value room r room') → OfIntegerFrame Q
  of_integer_frame Q h = so IntegerFrame.ended IntegerFrame-is.code IntegerFrame-is.name (IntegerFrame.clauses w.𝓛 w.𝓜.mem w.𝓡.returns) _ (λ κs a g r e. fact_mono w.𝓤 _ _ (h _ _ _ _ _)) (IntegerFrame-has.met w.𝓤 w.𝓛 w.𝓜 w.𝓡)

  abbrev pub OfOpening : RoomSays → Type 1
  OfOpening Q = Always Opening.ended Opening-is.code Opening-is.name (λ κs a r e. Q a.0.now r e.0.now)

  pub of_opening : (Q : RoomSays) → ((room : List ℕ) (r : Written) (room' : List ℕ) → promise.WroteOpening room r room' → Q room r room') → OfOpening Q
  of_opening Q h = so Opening.ended Opening-is.code Opening-is.name (Opening.clauses w.𝓛 w.𝓜.mem w.𝓡.returns) _ (λ κs a g r e. fact_mono w.𝓤 _ _ (h _ _ _)) (Opening-has.met w.𝓤 w.𝓛 w.𝓜 w.𝓡)
