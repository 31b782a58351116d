use Rattle.std.proofs.Common.{◌≡◌, ◌≤◌, ◌*◌}
use Rattle.replay_memory.specs.Memory.{first}
use Rattle.replay_memory.proofs.memory.first_of.Given as goal

abbrev pub invariant-loop-j : goal.invariant-loop-j
invariant-loop-j l = (l.sum ≡ first l.sizes l.j) × (l.sum ≤ l.j * 255)
