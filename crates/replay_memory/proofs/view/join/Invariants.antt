use Rattle.std.proofs.Common.{◌≡◌, length}
use Rattle.replay_memory.proofs.ViewBranches.{join_to}
use Rattle.replay_memory.proofs.view.join.Given as goal

abbrev pub invariant-loop-i : goal.invariant-loop-i
invariant-loop-i l = (l.joined.at ≡ join_to l.view l.other l.i) × (length l.view.at ≡ 8)
