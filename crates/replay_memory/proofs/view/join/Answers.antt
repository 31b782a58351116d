use Rattle.limits.proofs.BranchTests.{tests}
use Rattle.replay_memory.proofs.ViewBranches.{join_end}
use Rattle.replay_memory.proofs.view.join.Goals as goal

pub returns : goal.returns
returns c = join_end _ _ _ c.loop-i.i c.loop-i.invariant.0 c.loop-i.invariant.1 (search tests) (search tests)
