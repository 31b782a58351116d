use Rattle.std.proofs.Common.{◌≡◌, ◌*◌, take, min}
use Rattle.tables_digits.specs.SlotColumn.{slot_column}
use Rattle.tables_digits.proofs.slot_column.set_runs.Given as goal

abbrev pub invariant-loop-value : goal.invariant-loop-value
invariant-loop-value l =
    (l.to ≡ min (l.run * l.value) l.n) × (take l.to l.out ≡ slot_column l.lasts l.j l.to)
