use Rattle.std.proofs.Common.{arith, rules}
use Rattle.obligations.proofs.GroupBranches.{actions_more, actions_fail}
use Rattle.obligations.proofs.interference.judge_actor.Goals as goal

pub loop-k-preserved : goal.loop-k-preserved
loop-k-preserved c = actions_more _ _ _ _ _ _ _ _ c.loop-k.invariant c.judge_action.ensures _ c.in_ok-count.was

pub returns-in_err-count : goal.returns-in_err-count
returns-in_err-count c =
    actions_fail _ _ _ _ _ _ _ _ c.loop-k.invariant c.judge_action.ensures _ _ _ c.in_err-count.was (omega arith) c.last_point_of-last.ensures.0
    (search rules)
