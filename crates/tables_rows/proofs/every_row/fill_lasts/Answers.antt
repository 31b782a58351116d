use Rattle.limits.proofs.BranchTests.{tests}
use Rattle.tables_rows.proofs.EveryRowBranches.{fill_lasts_branches}
use Rattle.tables_rows.proofs.every_row.fill_lasts.Goals as goal

pub loop-j-preserved : goal.loop-j-preserved
loop-j-preserved c = (search (fill_lasts_branches, tests), search tests)

pub loop-j-init : goal.loop-j-init
loop-j-init c = (search (fill_lasts_branches, tests), search tests)
