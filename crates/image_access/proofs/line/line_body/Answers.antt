use Rattle.limits.proofs.BranchTests.{tests}
use Rattle.image_access.proofs.Places.{line_found}
use Rattle.image_access.proofs.line.line_body.Goals as goal

pub returns : goal.returns
returns c = line_found c.args.image.now c.args.sizes c.args.number _ _ c.body_of.ensures (search tests)
