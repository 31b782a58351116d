use Rattle.std.proofs.Common.{◌≡◌, take, length}
use Rattle.replay_machine.specs.Start.{start_values_to}
use Rattle.replay_machine.proofs.start.start_registers.Given as goal

abbrev pub invariant-loop-i : goal.invariant-loop-i
invariant-loop-i l = (take l.i l.at ≡ start_values_to l.body l.range l.given l.i) × (length l.at ≡ 16)
