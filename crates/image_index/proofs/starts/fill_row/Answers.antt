use Rattle.limits.proofs.BranchTests.{tests}
use Rattle.image_index.proofs.IndexBranches.{row_all}
use Rattle.image_index.proofs.starts.fill_row.Goals as goal

pub returns : goal.returns
returns c =
    row_all c.args.index.now c.args.from c.args.body.now c.loop-p.index c.loop-p.p c.row_length-p-end.result c.row_length-p-end.ensures.0
    (search tests) (search tests) c.loop-p.invariant.1
