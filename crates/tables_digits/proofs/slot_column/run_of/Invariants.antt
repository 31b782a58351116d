use Rattle.std.proofs.Common.{◌≡◌}
use Rattle.tables_digits.specs.SlotColumn.{run_of}
use Rattle.tables_digits.proofs.slot_column.run_of.Given as goal

abbrev pub invariant-loop-i : goal.invariant-loop-i
invariant-loop-i l = l.run ≡ run_of l.n l.lasts l.i
