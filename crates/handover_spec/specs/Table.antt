-- The handover table: for each old point, threads in order, three bytes: a new point, and a line of the new image (16 bits).
use Rattle.std.specs.Prelude.{Bool, true, ◌&&◌, List, ℕ, zero, suc, ◌+◌, ◌-◌, ◌*◌, get_or, drop}
use Rattle.semantics.specs.Machine.{Program}
use Rattle.limits.specs.Limits as Limits
use Rattle.limits.specs.Numbers.{le16}
use Rattle.handover_spec.specs.Handover.{NewPoint}

-- the bytes of an entry
abbrev pub entry_size : ℕ
entry_size = 3

-- the new point in entry i, counted from 0
unfoldable pub point_named : List ℕ → ℕ → ℕ
point_named table i = get_or table (entry_size * i) 0

-- the line of the new image in entry i
unfoldable pub line_named : List ℕ → ℕ → ℕ
line_named table i = le16 (drop (entry_size * i + 1) table)

module _ (P : Program) where
  -- how many points the threads 1 to t have
  unfoldable pub points_to : ℕ → ℕ
  points_to zero = 0
  points_to (suc t) = points_to t + P.points (suc t)

  -- the entry of point k of thread t
  abbrev pub entry_of : ℕ → ℕ → ℕ
  entry_of t k = points_to (t - 1) + k

  -- the new point that the table gives for point k of thread t
  abbrev pub new_point : List ℕ → NewPoint
  new_point table t k = point_named table (entry_of t k)

  -- the line of the new image that the table gives for point k of thread t
  abbrev pub new_line : List ℕ → ℕ → ℕ → ℕ
  new_line table t k = line_named table (entry_of t k)

-- a bound for the points of an image
abbrev pub most_points : ℕ
most_points = Limits.threads * Limits.points

-- 0 to n - 1 pass the test f
unfoldable pub each : ℕ → (ℕ → Bool) → Bool
each zero f = true
each (suc n) f = each n f && f n
