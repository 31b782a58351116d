use Rattle.std.proofs.Common.{◌≡◌, length}
use Rattle.tables_rows.specs.EveryRow.{lasts_of}
use Rattle.tables_rows.proofs.every_row.fill_lasts.Given as goal

abbrev pub invariant-loop-j : goal.invariant-loop-j
invariant-loop-j l = (l.lasts ≡ lasts_of l.image l.slots l.range l.j) × (length l.lasts ≡ 12)
