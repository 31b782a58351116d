use Rattle.verdict_record.proofs.TextBranches.{place_put}
use Rattle.limits.proofs.BranchTests.{tests}
use Rattle.std.proofs.Common.{rules}
use Rattle.verdict_record.proofs.text.put_place.Goals as goal

pub returns : goal.returns
returns c = search (place_put, tests)
