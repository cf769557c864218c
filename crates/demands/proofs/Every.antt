-- WHAT FOLLOWS FROM WHAT A CALL DOES holds of every call of the exported functions (specs/Exports), whichever function makes it. Assumes nothing.
use Rattle.std.specs.Prelude.{List, length}
use Rattle.rules.specs.Calls.{Call, goaway}
use Rattle.record.specs.declared.Record.{Record}
use Rattle.connection.specs.declared.Connection.{Connection}
use Rattle.demands.specs.Streams.{streams}
use Rattle.demands.specs.Runs.{Seen, a_written, Does, starts, opens_one, feeds, gives, ends, resets, goes_away}
use Rattle.demands.specs.Exports.{CallSays, World, of_start, of_open, of_feed, of_give, of_end, of_reset, of_goaway, Every}

module _ (w : World) where
  -- and so whatever follows from what a call does
  module _ (Q : CallSays)
      (h : (c : Connection) (rows : List Record) (k : Call streams) (x : Seen) (c' : Connection) (rows' : List Record) → Does c rows k x c' rows' → Q c rows k x c' rows') where
    pub every : Every w Q
    every = record {
      eistulko_start = of_start w _ (λ c rows n c' rows' m. h _ _ _ _ _ _ (starts m));
      eistulko_open = of_open w _ (λ c rows id r c' rows' m. h _ _ _ _ _ _ (opens_one m));
      eistulko_feed = of_feed w _ (λ c rows id piece allow r c' rows' m. h _ _ _ _ _ _ (feeds m));
      eistulko_give = of_give w _ (λ c rows id block r c' rows' m. h _ _ _ _ _ _ (gives m));
      eistulko_end = of_end w _ (λ c rows id r c' rows' m. h _ _ _ _ _ _ (ends m));
      eistulko_reset = of_reset w _ (λ c rows id r c' rows' m. h _ _ _ _ _ _ (resets m));
      eistulko_goaway = of_goaway w (λ c id room r c' room'. (rows : List Record) → Q c rows (goaway id (length room)) (a_written r) c' rows) (λ c id room r c' room' m rows. h _ _ _ _ _ _ (goes_away m));
    }
