use Rattle.std.proofs.Common.{◌≡◌}
use Rattle.replay_memory.proofs.InsertBranches.{grow_to}
use Rattle.replay_memory.proofs.insert.grow.Given as goal

abbrev pub invariant-loop-view : goal.invariant-loop-view
invariant-loop-view l = l.view-items ≡ grow_to l.fn.shape.views l.x l.position l.view-index
