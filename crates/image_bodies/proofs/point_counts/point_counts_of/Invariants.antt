use Rattle.std.proofs.Common.{◌≡◌}
use Rattle.image_frames.specs.Records.{bodies}
use Rattle.image_bodies.specs.PointCounts.{point_counts_to, Small}
use Rattle.image_bodies.proofs.point_counts.point_counts_of.Given as goal

abbrev pub invariant-loop-t : goal.invariant-loop-t
invariant-loop-t l = (l.c ≡ point_counts_to l.sizes (bodies l.image) l.t) × Small l.t l.c
