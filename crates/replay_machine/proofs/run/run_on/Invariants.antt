use Rattle.std.proofs.Common.{◌≡◌, ◌*◌, drop}
use Rattle.replay_machine.specs.State.{machine_of}
use Rattle.replay_machine.specs.Run.{ran}
use Rattle.replay_machine.proofs.run.run_on.Given as goal

abbrev pub invariant-loop-i : goal.invariant-loop-i
invariant-loop-i l = ran l.image l.sizes l.room (machine_of l.fn.from l.fn.table) 0 l.trace ≡ ran l.image l.sizes l.room (machine_of l.threads l.table) l.i (drop (2 * l.i) l.trace)
