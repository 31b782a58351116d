use Rattle.std.proofs.Common.{◌≡◌, length}
use Rattle.image_frames.specs.Records.{start_of}
use Rattle.image_index.specs.IndexTable.{table_size, records_to}
use Rattle.image_index.proofs.table.fill_records.Given as goal

abbrev pub invariant-loop-i : goal.invariant-loop-i
invariant-loop-i l = (l.at ≡ start_of l.image l.i) × (l.index ≡ records_to l.image l.i) × (length l.index ≡ table_size l.image)
