-- Which formulas are fit for an outline or a triple, as a table.
use Rattle.std.specs.Prelude.{Bool, false, List, ℕ, zero, suc, ◌+◌, min, set, replicate}
use Rattle.limits.specs.Limits as Limits
use Rattle.image_header.specs.declared.sizes.Sizes.{Sizes}
use Rattle.image_bodies.specs.ListBody.{outlined_at}

-- an entry for each formula, after one for the header
unfoldable pub entries : Sizes → ℕ
entries z = min Limits.formulas z.formulas + 1

-- the table with its first n entries filled
unfoldable pub outlined_to : List (List ℕ) → ℕ → List Bool
outlined_to l zero = replicate (Limits.formulas + 1) false
outlined_to l (suc k) = set (outlined_to l k) k (outlined_at l k)

-- the table of an image
unfoldable pub outlined_of : Sizes → List (List ℕ) → List Bool
outlined_of z l = outlined_to l (entries z)
