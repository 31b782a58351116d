-- Totals over the threads of an image: the points of all, those before each thread, the obligations.
use Rattle.std.specs.Prelude.{List, ℕ, zero, suc, set, replicate}
use Rattle.limits.specs.Limits as Limits
use Rattle.image_header.specs.declared.sizes.Sizes.{Sizes}
use Rattle.image_bodies.specs.PointCounts.{point_counts_to, point_counts, obligation_count}
use Rattle.image_access.specs.declared.totals.Totals.{Totals}

-- the points of the threads 1 to t at index t, for each t below n
unfoldable pub points_below : Sizes → List (List ℕ) → ℕ → List ℕ
points_below z l zero = replicate Limits.threads 0
points_below z l (suc t) = set (points_below z l t) t (point_counts_to z l t).points

-- the points of the threads before each thread
unfoldable pub points_before : Sizes → List (List ℕ) → List ℕ
points_before z l = points_below z l Limits.threads

-- the totals of an image
unfoldable pub totals_of : Sizes → List (List ℕ) → Totals
totals_of z l = record { points = (point_counts z l).points; before = points_before z l; obligations = obligation_count z l }
