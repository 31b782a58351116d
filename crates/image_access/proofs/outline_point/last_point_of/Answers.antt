use Rattle.std.proofs.Common.{ap, ◌∙◌}
use Rattle.limits.proofs.BranchTests.{tests}
use Rattle.image_header.specs.Thread.{last_point}
use Rattle.image_access.proofs.Places.{thread_found}
use Rattle.image_access.proofs.outline_point.last_point_of.Goals as goal

pub returns : goal.returns
returns c = (
  c.last_point.ensures.0 ∙ ap last_point (thread_found c.args.image.now c.args.sizes c.args.t _ _ c.body_of.ensures (search tests)),
  c.last_point.ensures.1,
)
