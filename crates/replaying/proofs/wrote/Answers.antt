-- `replaying::wrote` meets its contract: one write for each kind. Assumes nothing.
use Rattle.replaying.specs.Lines.{write_of}
use Rattle.replaying.proofs.wrote.Goals as goal

pub returns-in-Header : goal.returns-in-Header
unfolding write_of
returns-in-Header c = rw c.in-Header.is c.write_header.ensures

pub returns-in-IntegerFrame : goal.returns-in-IntegerFrame
unfolding write_of
returns-in-IntegerFrame c = rw c.in-IntegerFrame.is c.write_integer_frame.ensures

pub returns-in-Integer : goal.returns-in-Integer
unfolding write_of
returns-in-Integer c = rw c.in-Integer.is c.write.ensures

pub returns-in-Opening : goal.returns-in-Opening
unfolding write_of
returns-in-Opening c = rw c.in-Opening.is c.write_opening.ensures
