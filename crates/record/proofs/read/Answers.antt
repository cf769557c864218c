use Rattle.record.specs.ReadWrite.{row_small}
use Rattle.record.proofs.read.Goals as goal

pub record_at-requires : goal.record_at-requires
record_at-requires c = row_small (c.fits.ensures.yes c.if-fits.true) c.tidy.ensures
