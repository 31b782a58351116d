use Rattle.std.proofs.Common.{rules}
use Rattle.limits.proofs.BranchTests.{tests}
use Rattle.replay_machine.proofs.EffectBranches.{reach_there}
use Rattle.replay_machine.proofs.shared.is_reachable.Goals as goal

pub returns-then-position-size_in : goal.returns-then-position-size_in
returns-then-position-size_in c =
    reach_there c.args.shape c.args.t c.args.x c.args.position c.size_in.result c.position_in.result c.view_of.result c.size_in.ensures
    c.view_of.ensures c.position_in.ensures (search tests)
