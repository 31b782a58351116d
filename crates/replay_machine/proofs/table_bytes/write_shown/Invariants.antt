use Rattle.std.proofs.Common.{◌≡◌, take, length}
use Rattle.replay_machine.specs.OutputTable.{laid}
use Rattle.replay_machine.proofs.table_bytes.write_shown.Given as goal

abbrev pub invariant-loop-e : goal.invariant-loop-e
invariant-loop-e l = (l.table ≡ laid (take l.e l.shown.writes) l.fn.table) × (length l.table ≡ length l.fn.table)
