use Rattle.std.proofs.Common.{◌≡◌, take, length}
use Rattle.replay_memory.proofs.BytesBranches.{read_to}
use Rattle.replay_memory.proofs.bytes.writes_in.Given as goal

abbrev pub invariant-loop-i : goal.invariant-loop-i
invariant-loop-i l = (take l.i l.writes ≡ read_to l.table l.i) × (length l.writes ≡ 72)
