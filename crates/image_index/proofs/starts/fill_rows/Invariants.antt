use Rattle.std.proofs.Common.{◌≡◌}
use Rattle.image_index.specs.IndexTable.{behind, rows_to}
use Rattle.image_index.proofs.starts.fill_rows.Given as goal

abbrev pub invariant-loop-j : goal.invariant-loop-j
invariant-loop-j l = (l.at ≡ behind l.image l.position l.j) × (l.index ≡ rows_to l.image l.fn.index l.from l.position l.j)
