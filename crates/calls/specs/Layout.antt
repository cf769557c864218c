-- How many bytes the structs take that a host lends or is answered with. `proofs/Sizes.antt` holds these to their layout.
use Rattle.std.specs.Prelude.{ℕ}

abbrev pub connection_size : ℕ
connection_size = 400

abbrev pub record_size : ℕ
record_size = 48

abbrev pub report_size : ℕ
report_size = 56

abbrev pub written_size : ℕ
written_size = 16
