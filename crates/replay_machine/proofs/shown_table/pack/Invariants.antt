use Rattle.std.proofs.Common.{◌≡◌, take, length}
use Rattle.replay_machine.specs.ShownTable.{packed_to}
use Rattle.replay_machine.proofs.shown_table.pack.Given as goal

abbrev pub invariant-loop-e : goal.invariant-loop-e
invariant-loop-e l = (take l.e l.writes ≡ packed_to l.memory l.words l.e) × (length l.writes ≡ 64)
