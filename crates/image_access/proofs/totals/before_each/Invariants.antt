use Rattle.std.proofs.Common.{◌≡◌, ◌*◌, ◌≤◌}
use Rattle.image_frames.specs.Records.{bodies}
use Rattle.image_bodies.specs.PointCounts.{point_counts_to}
use Rattle.image_access.specs.Totals.{points_below}
use Rattle.image_access.proofs.totals.before_each.Given as goal

abbrev pub invariant-loop-t : goal.invariant-loop-t
invariant-loop-t l =
    (l.before ≡ points_below l.sizes (bodies l.image) l.t)
    × (l.sum ≡ (point_counts_to l.sizes (bodies l.image) l.t).points)
    × (l.sum ≤ 256 * l.t)
