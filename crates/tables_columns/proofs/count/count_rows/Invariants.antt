use Rattle.std.proofs.Common.{◌≡◌}
use Rattle.tables_columns.specs.Count.{rows_up_to}
use Rattle.tables_columns.proofs.count.count_rows.Given as goal

abbrev pub invariant-loop-j : goal.invariant-loop-j
invariant-loop-j l = l.rows ≡ rows_up_to l.image l.slots l.range l.limit l.j
