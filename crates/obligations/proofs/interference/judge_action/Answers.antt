use Rattle.std.proofs.Common.{arith, rules, ◌-◌}
use Rattle.obligations.proofs.GroupBranches.{assertions_more, assertions_fail}
use Rattle.obligations.proofs.interference.judge_action.Goals as goal

pub loop-u-preserved : goal.loop-u-preserved
loop-u-preserved c = (
  omega arith,
  assertions_more _ _ _ _ _ _ _ _ (c.loop-u.u - 1) _ (omega arith) c.loop-u.invariant.1 c.judge_asserting.ensures
      _ _ (omega arith) c.in_ok-count.was,
)

pub returns-in_ok-count : goal.returns-in_ok-count
returns-in_ok-count c =
    assertions_more _ _ _ _ _ _ _ _ (c.loop-u.u - 1) _ (omega arith) c.loop-u.invariant.1 c.judge_asserting.ensures
    _ _ (omega arith) c.in_ok-count.was

pub returns-in_err-count : goal.returns-in_err-count
returns-in_err-count c =
    assertions_fail _ _ _ _ _ _ _ _ (c.loop-u.u - 1) _ (omega arith) c.loop-u.invariant.1 c.judge_asserting.ensures _ _ c.in_err-count.was
    (omega arith) (search rules)
