-- `section::Fault::number` meets its contract: the number of the fault. Assumes nothing.
use Rattle.rules.specs.Section.{code_of}
use Rattle.rules.specs.Named.{reason_of, number_named}
use Rattle.section.specs.Answer.{header_number}
use Rattle.section.proofs.Fault.number.Goals as goal

pub returns-in-Unreadable : goal.returns-in-Unreadable
unfolding header_number
returns-in-Unreadable c = rw (c.in-Unreadable.is, c.number.ensures)

pub returns-in-Refused : goal.returns-in-Refused
unfolding header_number
returns-in-Refused c = rw c.in-Refused.is (number_named (code_of (reason_of c.in-Refused.reason)) c.reason_code.ensures c.number-in-Refused.ensures)
