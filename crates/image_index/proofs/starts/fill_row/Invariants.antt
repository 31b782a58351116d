use Rattle.std.proofs.Common.{◌≡◌, drop}
use Rattle.image_header.specs.Thread.{begins}
use Rattle.image_index.specs.IndexTable.{row_to}
use Rattle.image_index.proofs.starts.fill_row.Given as goal

abbrev pub invariant-loop-p : goal.invariant-loop-p
invariant-loop-p l = (l.at ≡ begins (drop 1 l.body) l.p) × (l.index ≡ row_to l.fn.index l.from l.body l.p)
