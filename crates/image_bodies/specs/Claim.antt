-- A claim: "thread, point, other thread, other point (bytes; equal threads are code 6), line (16 bits)".
use Rattle.std.specs.Prelude.{Bool, not, ◌&&◌, List, ℕ, ◌+◌, eqb, length, get_or, drop}
use Rattle.limits.specs.Numbers.{le16, within}
use Rattle.image_frames.specs.Fault.{unless, Checked, passed}
use Rattle.image_frames.specs.declared.fault.Fault.TheVariants.{Body, Number}
use Rattle.image_header.specs.declared.sizes.Sizes.{Sizes}
use Rattle.image_header.specs.Thread.{last_point}
use Rattle.image_bodies.specs.RecordPlaces.{thread_body}

-- the byte at i is a thread of the image, and the byte after it one of its points, the last one included
unfoldable pub point_there : Sizes → List (List ℕ) → List ℕ → ℕ → Bool
point_there z l b i = within 1 z.threads (get_or b i 0) && within 0 (last_point (thread_body z l (get_or b i 0))) (get_or b (i + 1) 0)

-- the two threads differ
unfoldable pub different : List ℕ → Bool
different b = not (eqb (get_or b 0 0) (get_or b 2 0))

-- two different threads with a point each; a line, or 0 for none
unfoldable pub claimed : Sizes → List (List ℕ) → List ℕ → Bool
claimed z l b = point_there z l b 0 && (point_there z l b 2 && (different b && within 0 z.lines (le16 (drop 4 b))))

-- code 5, then code 6
unfoldable pub claim : Sizes → List (List ℕ) → List ℕ → Checked
claim z l b = unless (eqb (length b) 6) Body (unless (claimed z l b) Number passed)
