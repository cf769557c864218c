-- What a host's header says of the structs, held to the layout that the program logic gives them: the check fails where a number is not theirs.
-- Assumes nothing.
use mathlib.Core.Path.{◌≡◌, refl}
use prog.Memory.{size, align}
use Rattle.record.proofs.Record.TheLaws as Record
use Rattle.connection.proofs.Connection.TheLaws as Connection
use Rattle.connection.proofs.Report.TheLaws as Report
use Rattle.connection.proofs.Written.TheLaws as Written
use Rattle.calls.specs.Layout.{connection_size, record_size, report_size, written_size}

pub connection_size_lem : size Connection.mir ≡ connection_size
connection_size_lem = refl

pub record_size_lem : size Record.mir ≡ record_size
record_size_lem = refl

pub report_size_lem : size Report.mir ≡ report_size
report_size_lem = refl

pub written_size_lem : size Written.mir ≡ written_size
written_size_lem = refl

-- each begins at a multiple of 8
pub connection_align : align Connection.mir ≡ 8
connection_align = refl

pub record_align : align Record.mir ≡ 8
record_align = refl

pub report_align : align Report.mir ≡ 8
report_align = refl

pub written_align : align Written.mir ≡ 8
written_align = refl
