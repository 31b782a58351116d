use Rattle.limits.proofs.BranchTests.{tests}
use Rattle.tables_columns.proofs.CountBranches.{count_rows_branches}
use Rattle.tables_columns.proofs.count.count_rows.Goals as goal

pub loop-j-init : goal.loop-j-init
loop-j-init c = search (count_rows_branches, tests)

pub loop-j-preserved : goal.loop-j-preserved
loop-j-preserved c = search (count_rows_branches, tests)
