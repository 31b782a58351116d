-- The number of rows.
use Rattle.std.specs.Prelude.{ℕ, ◌+◌, ◌*◌, List, cond, eqb, ltb}
use Rattle.semantics.specs.Code
use Rattle.semantics.specs.Code.{byte}
use Rattle.logic.specs.Rows.{row_count}
use Rattle.formula.specs.Tree.{Tree, none, node}
use Rattle.formula_compare.specs.Same.{same_tree}
use Rattle.tables_columns.specs.Slots.{kept}
use Rattle.tables_columns.specs.declared.slot.Slot.{Slot}

-- the choices for a leaf with the code c
unfoldable pub choices_by : ℕ → ℕ → ℕ
choices_by R c = cond (eqb c (byte Code.reg)) R (cond (eqb c (byte Code.word)) R 2)

-- "a value for each name (register or word) and true or false for each unsync or cov", or for any other leaf
unfoldable pub choices_t : ℕ → Tree → ℕ
choices_t R none = 2
choices_t R (node c o l r) = choices_by R c

-- the product, or the limit plus 1 if it is above the limit
unfoldable pub capped : ℕ → ℕ → ℕ → ℕ
capped limit n rows = cond (ltb limit (n * rows)) (limit + 1) (n * rows)

-- the number of rows of the first n slots, or the limit plus 1 if it is above the limit
unfoldable pub rows_up_to : List ℕ → List Slot → ℕ → ℕ → ℕ → ℕ
rows_up_to s q R limit n = capped limit 1 (row_count same_tree (choices_t R) (kept s q n))
