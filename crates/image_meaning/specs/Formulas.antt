-- The formulas of an image. Formula k is body k of the bodies l of all records, whose body 0 is the header.
use Rattle.std.specs.Prelude.{List, [], ℕ, get_or}
use Rattle.semantics.specs.Formula.{Sort, Formula}
use Rattle.image_bodies.specs.FormulaUse.{tree_of}
use Rattle.formula_trees.specs.ToTree.{of_tree}

-- formula k, read as a formula of the sort s
unfoldable pub formula : List (List ℕ) → (s : Sort) → ℕ → Formula s
formula l s k = of_tree s (tree_of (get_or l k []))
