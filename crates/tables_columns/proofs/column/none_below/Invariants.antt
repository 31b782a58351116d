use Rattle.std.proofs.Common.{◌≡◌, cond}
use Rattle.tables_columns.specs.Column.{none_below}
use Rattle.tables_columns.proofs.column.none_below.Given as goal

abbrev pub invariant-loop-i : goal.invariant-loop-i
invariant-loop-i l = l.found ≡ cond (none_below l.column l.i) 0 1
