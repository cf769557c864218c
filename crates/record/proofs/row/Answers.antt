use Rattle.record.specs.ReadWrite.{write_open, row_small}
use Rattle.record.proofs.row.Goals as goal

pub record_at-requires : goal.record_at-requires
record_at-requires c = row_small c.requires c.tidy.ensures

pub returns : goal.returns
returns c = write_open _ c.requires c.tidy.ensures c.record_at.ensures
