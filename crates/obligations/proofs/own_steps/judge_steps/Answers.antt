use Rattle.std.proofs.Common.{arith, rules, ◌-◌}
use Rattle.obligations.proofs.GroupBranches.{steps_more, steps_fail}
use Rattle.obligations.proofs.own_steps.judge_steps.Goals as goal

pub loop-t-preserved : goal.loop-t-preserved
loop-t-preserved c = (
  omega arith,
  steps_more _ _ _ _ _ _ (c.loop-t.t - 1) _ (omega arith) c.loop-t.invariant.1 c.judge_thread.ensures _ _ (omega arith) c.in_ok-count.was,
)

pub returns-in_ok-count : goal.returns-in_ok-count
returns-in_ok-count c =
    steps_more _ _ _ _ _ _ (c.loop-t.t - 1) _ (omega arith) c.loop-t.invariant.1 c.judge_thread.ensures _ _ (omega arith) c.in_ok-count.was

pub returns-in_err-count : goal.returns-in_err-count
returns-in_err-count c =
    steps_fail _ _ _ _ _ _ (c.loop-t.t - 1) _ (omega arith) c.loop-t.invariant.1 c.judge_thread.ensures _ _ c.in_err-count.was
    (omega arith) (search rules)
