use Rattle.limits.proofs.BranchTests.{tests}
use Rattle.tables_digits.proofs.RunBranches.{widen_branches}
use Rattle.tables_digits.proofs.run.widen.Goals as goal

pub loop-to-init : goal.loop-to-init
loop-to-init c = (search (widen_branches, tests), search tests, search (widen_branches, tests), search tests)

pub repeat_front-requires : goal.repeat_front-requires
repeat_front-requires c = search (widen_branches, tests)

pub loop-to-preserved : goal.loop-to-preserved
loop-to-preserved c = (search tests, search (widen_branches, tests), search (widen_branches, tests), search tests)

pub loop-to-smaller : goal.loop-to-smaller
loop-to-smaller c = search (widen_branches, tests)

pub returns : goal.returns
returns c = search (widen_branches, tests)
