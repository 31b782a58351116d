use Rattle.std.proofs.Common.{arith, rules}
use Rattle.obligations.proofs.GroupBranches.{own_more, own_fail}
use Rattle.obligations.proofs.own_steps.judge_thread.Goals as goal

pub loop-k-preserved : goal.loop-k-preserved
loop-k-preserved c = own_more _ _ _ _ _ _ _ _ c.loop-k.invariant c.judge_own.ensures _ c.in_ok-count.was

pub returns-in_err-count : goal.returns-in_err-count
returns-in_err-count c =
    own_fail _ _ _ _ _ _ _ _ c.loop-k.invariant c.judge_own.ensures _ _ _ c.in_err-count.was (omega arith) c.last_point_of-last.ensures.0
    (search rules)
