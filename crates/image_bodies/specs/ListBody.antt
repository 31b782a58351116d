-- The outline and the obligations record.
use Rattle.std.specs.Prelude.{Bool, List, [], ℕ, get_or}
use Rattle.limits.specs.Numbers.{numbers, every}
use Rattle.image_frames.specs.Fault.{unless, also, Checked, passed}
use Rattle.image_frames.specs.declared.fault.Fault.TheVariants.{Sort}
use Rattle.image_header.specs.declared.sizes.Sizes.{Sizes}
use Rattle.image_bodies.specs.NumberList.{exactly}
use Rattle.image_bodies.specs.PointCounts.{point_counts, obligation_count}
use Rattle.image_bodies.specs.FormulaUse.{outlined}

-- formula k, which is body k of the image, is fit for an outline or a triple
unfoldable pub outlined_at : List (List ℕ) → ℕ → Bool
outlined_at l k = outlined (get_or l k [])

-- "a formula per point, threads in order"
unfoldable pub outline : Sizes → List (List ℕ) → List ℕ → Checked
outline z l b = also (exactly (point_counts z l).points 1 z.formulas b)
    (unless (every (outlined_at l) (numbers (point_counts z l).points b)) Sort passed)

-- "a line number per obligation, 0 for none"
unfoldable pub obligations : Sizes → List (List ℕ) → List ℕ → Checked
obligations z l b = exactly (obligation_count z l) 0 z.lines b
