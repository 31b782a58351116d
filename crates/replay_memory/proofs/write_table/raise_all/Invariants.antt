use Rattle.std.proofs.Common.{◌≡◌, ◌%◌, length}
use Rattle.replay_memory.proofs.TablePlaces.{raise_to}
use Rattle.replay_memory.proofs.write_table.raise_all.Given as goal

abbrev pub invariant-loop-j : goal.invariant-loop-j
invariant-loop-j l = (l.table ≡ raise_to l.fn.table l.x l.position l.j) × ((l.i ≡ l.x % 8) × (length l.fn.table ≡ 72))
