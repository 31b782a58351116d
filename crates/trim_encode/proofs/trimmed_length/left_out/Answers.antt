use Rattle.trim_encode.proofs.LeftOutBranches.{behind_more, behind_all}
use Rattle.limits.proofs.BranchTests.{tests}
use Rattle.trim_encode.proofs.trimmed_length.left_out.Goals as goal

pub loop-i-preserved : goal.loop-i-preserved
loop-i-preserved c = (search (behind_more, tests), search tests)

pub returns : goal.returns
returns c = (search (behind_all, tests), search tests)
