use Rattle.std.proofs.Common.{◌≡◌, take, length}
use Rattle.replay_machine.specs.Start.{start_writes}
use Rattle.replay_machine.proofs.start.start_memory.Given as goal

abbrev pub invariant-loop-j : goal.invariant-loop-j
invariant-loop-j l = (take l.j l.writes ≡ start_writes l.body l.j) × (length l.writes ≡ 72)
