use Rattle.limits.proofs.BranchTests.{tests}
use Rattle.image_index.proofs.IndexBranches.{records_ended, place_there}
use Rattle.image_index.proofs.table.fill_records.Goals as goal

pub returns-then-image-at : goal.returns-then-image-at
returns-then-image-at c =
    let v = c.loop-i.invariant in
    records_ended c.args.image.now c.loop-i.index c.loop-i.i c.loop-i.at c.args.n c.requires.1 (search tests) v.1 v.0 (search tests)

pub bounds-index-i : goal.bounds-index-i
bounds-index-i c = place_there c.args.image.now c.loop-i.index c.loop-i.i c.args.n c.loop-i.invariant.2 c.requires.1 (search tests)
