use Rattle.verdict_record.proofs.TextBranches.{text_put}
use Rattle.limits.proofs.BranchTests.{tests}
use Rattle.std.proofs.Common.{rules}
use Rattle.verdict_record.proofs.text.text_of.Goals as goal

pub returns : goal.returns
returns c = search (text_put, tests)
