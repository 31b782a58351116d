-- The number of points and of obligations of an image.
use Rattle.std.specs.Prelude.{cond, List, [], ◌∷◌, ℕ, zero, suc, ◌+◌, ◌-◌, ◌*◌, ◌≤◌, eqb}
use Rattle.logic.specs.Opcode as Opcode
use Rattle.image_header.specs.declared.sizes.Sizes.{Sizes}
use Rattle.image_header.specs.declared.instruction.Instruction.{Instruction}
use Rattle.image_header.specs.Thread.{last_point, instructions}
use Rattle.image_bodies.specs.RecordPlaces.{thread_body}
use Rattle.image_bodies.specs.declared.point_counts.PointCounts.{PointCounts}

-- 1 for a branch, 0 for any other instruction
unfoldable pub is_branch : Instruction → ℕ
is_branch i = cond (eqb i.operation Opcode.branch) 1 0

-- the number of branches
unfoldable pub branches : List Instruction → ℕ
branches [] = 0
branches (i ∷ l) = is_branch i + branches l

-- a thread with this last point and n branches: its points; two obligations for each branch, one for each other instruction; its actions,
-- which are the instructions that are no branch; its points times its actions
abbrev pub tallied : ℕ → ℕ → PointCounts
tallied last n = record { points = last + 1; steps = last + n; actions = last - n; own = (last + 1) * (last - n) }

-- the counts of one thread's body
unfoldable pub thread_counts : List ℕ → PointCounts
thread_counts b = tallied (last_point b) (branches (instructions b))

-- the sums of two counts
abbrev pub plus : PointCounts → PointCounts → PointCounts
plus c d = record { points = c.points + d.points; steps = c.steps + d.steps; actions = c.actions + d.actions; own = c.own + d.own }

-- the sums over the threads 1 to t
unfoldable pub point_counts_to : Sizes → List (List ℕ) → ℕ → PointCounts
point_counts_to z l zero = record { points = 0; steps = 0; actions = 0; own = 0 }
point_counts_to z l (suc t) = plus (point_counts_to z l t) (thread_counts (thread_body z l (suc t)))

-- the sums over all threads
unfoldable pub point_counts : Sizes → List (List ℕ) → PointCounts
point_counts z l = point_counts_to z l z.threads

-- class 1: each thread's start; classes 2 and 3: the steps; class 4: every point with every action of another thread
abbrev pub obligations_by : ℕ → PointCounts → ℕ
obligations_by threads c = threads + c.steps + (c.points * c.actions - c.own)

-- the number of obligations of an image
unfoldable pub obligation_count : Sizes → List (List ℕ) → ℕ
obligation_count z l = obligations_by z.threads (point_counts z l)

-- bounds of the sums over k threads, each with at most 256 points
pub record Small (k : ℕ) (c : PointCounts) : Type 0 where
  pub points : c.points ≤ 256 * k
  pub steps : c.steps ≤ 512 * k
  pub actions : c.actions ≤ 256 * k
  pub own : c.own ≤ 65536 * k
