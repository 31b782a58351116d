-- Two formulas compared node by node.
use Rattle.std.specs.Prelude.{ℕ, ◌+◌, ◌-◌, Option, Some, None}
use Rattle.formula_compare.specs.declared.same.Pair.{Pair}
use Rattle.formula_compare.specs.declared.same.Pair.TheVariants.{Differ, Ended, One, Two}
use Rattle.tables_columns.specs.declared.leaf_equal.Step.{Step}

-- after two nodes: the positions of the next two, and the number of parts still to be compared; none if they differ
unfoldable pub step_of : Pair → ℕ → Option Step
step_of Differ due = None
step_of (Ended p q) due = Some (record { first = p; second = q; due = due - 1 })
step_of (One p q) due = Some (record { first = p; second = q; due = due })
step_of (Two p q) due = Some (record { first = p; second = q; due = due + 1 })
