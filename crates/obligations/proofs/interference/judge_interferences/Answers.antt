use Rattle.std.proofs.Common.{arith, rules, ◌-◌}
use Rattle.obligations.proofs.GroupBranches.{interferences_more, interferences_fail}
use Rattle.obligations.proofs.interference.judge_interferences.Goals as goal

pub loop-t-preserved : goal.loop-t-preserved
loop-t-preserved c = (
  omega arith,
  interferences_more _ _ _ _ _ _ (c.loop-t.t - 1) _ (omega arith) c.loop-t.invariant.1 c.judge_actor.ensures
      _ _ (omega arith) c.in_ok-count.was,
)

pub returns-in_ok-count : goal.returns-in_ok-count
returns-in_ok-count c =
    interferences_more _ _ _ _ _ _ (c.loop-t.t - 1) _ (omega arith) c.loop-t.invariant.1 c.judge_actor.ensures
    _ _ (omega arith) c.in_ok-count.was

pub returns-in_err-count : goal.returns-in_err-count
returns-in_err-count c =
    interferences_fail _ _ _ _ _ _ (c.loop-t.t - 1) _ (omega arith) c.loop-t.invariant.1 c.judge_actor.ensures _ _ c.in_err-count.was
    (omega arith) (search rules)
