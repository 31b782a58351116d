use Rattle.std.proofs.Common.{arith, rules}
use Rattle.obligations.proofs.GroupBranches.{asserted_more, asserted_last, asserted_fail}
use Rattle.obligations.proofs.interference.judge_asserting.Goals as goal

pub loop-j-preserved : goal.loop-j-preserved
loop-j-preserved c = (
  omega arith,
  asserted_more _ _ _ _ _ _ _ _ _ _ c.loop-j.invariant.1 c.judge_assertion.ensures _ c.in_ok-count.was,
)

pub returns-in_ok-count : goal.returns-in_ok-count
returns-in_ok-count c =
    asserted_last _ _ _ _ _ _ _ _ _ _ c.loop-j.invariant.1 c.judge_assertion.ensures c.if-t-u.false _ c.last_point_of-last.ensures.0 _
    c.in_ok-count.was (omega arith)

pub returns-in_err-count : goal.returns-in_err-count
returns-in_err-count c =
    asserted_fail _ _ _ _ _ _ _ _ _ _ c.loop-j.invariant.1 c.judge_assertion.ensures c.if-t-u.false _ c.last_point_of-last.ensures.0 _ _
    c.in_err-count.was (omega arith) (search rules)
