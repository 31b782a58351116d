use Rattle.std.proofs.Common.{◌≡◌, take, length}
use Rattle.replay_memory.specs.Bytes.{writes_in}
use Rattle.replay_memory.proofs.bytes.lay_out.Given as goal

abbrev pub invariant-loop-i : goal.invariant-loop-i
invariant-loop-i l = (take l.i (writes_in l.table) ≡ take l.i l.writes) × ((length l.table ≡ 792) × (length l.writes ≡ 72))
