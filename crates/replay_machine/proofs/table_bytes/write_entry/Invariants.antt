use Rattle.std.proofs.Common.{◌≡◌, ◌++◌, take, drop, length}
use Rattle.replay_machine.specs.OutputTable.{entry_bytes}
use Rattle.replay_machine.proofs.table_bytes.write_entry.Given as goal

abbrev pub invariant-loop-j : goal.invariant-loop-j
invariant-loop-j l = (l.out ≡ take l.j (entry_bytes l.write) ++ drop l.j l.fn.out) × (length l.out ≡ length l.fn.out)
