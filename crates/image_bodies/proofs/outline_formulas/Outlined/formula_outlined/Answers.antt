use Rattle.limits.proofs.BranchTests.{tests}
use Rattle.image_frames.specs.Records.{bodies}
use Rattle.image_bodies.proofs.Outlined.{entry_low, entry_is}
use Rattle.image_bodies.proofs.outline_formulas.Outlined.formula_outlined.Goals as goal

pub bounds-self-number : goal.bounds-self-number
bounds-self-number c = entry_low c.args.self.now.sizes c.args.number c.entry_count.result (search tests) (search tests)

pub returns-then-number-entry_count : goal.returns-then-number-entry_count
returns-then-number-entry_count c =
    let o = c.args.self.now in
    entry_is o.sizes (bodies o.image.now) o.on c.args.number c.entry_count.result (search tests) (search tests) (search tests)
