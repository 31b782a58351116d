use Rattle.std.proofs.Common.{◌≡◌}
use Rattle.image_frames.specs.Records.{bodies}
use Rattle.image_bodies.specs.OutlineFormulas.{entries, outlined_to}
use Rattle.image_bodies.proofs.outline_formulas.Outlined.new.Given as goal

abbrev pub invariant-loop-k : goal.invariant-loop-k
invariant-loop-k l = (l.k-end ≡ entries l.fn.sizes) × (l.on ≡ outlined_to (bodies l.image) l.k)
