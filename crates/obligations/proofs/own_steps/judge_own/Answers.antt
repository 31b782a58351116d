use Rattle.obligations.proofs.GroupBranches.{own_branch}
use Rattle.obligations.proofs.own_steps.judge_own.Goals as goal

pub returns-then-instruction-eq-BRANCH : goal.returns-then-instruction-eq-BRANCH
returns-then-instruction-eq-BRANCH c =
    own_branch _ _ _ _ _ _ c.instruction_of-instruction.ensures _ c.if-instruction-eq-BRANCH.true _ c.judge_one.ensures _ _ c.in_ok-count.was
    c.judge_one-then-instruction-eq-BRANCH.ensures
