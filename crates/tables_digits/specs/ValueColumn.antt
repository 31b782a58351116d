-- The value of a tree at a row; of a test, 1 for true.
use Rattle.std.specs.Prelude.{ℕ, ◌-◌, max, ◌≡◌, List, Bool, true, cond, take, eqb, ltb, Option, Some, None}
use Rattle.formula.specs.Codes.{member}
use Rattle.formula.specs.Tree.{Tree, none, node, node_at, parse_tree}
use Rattle.tables_columns.specs.Slots.{slot_of}
use Rattle.tables_columns.specs.Combine.{combine}
use Rattle.tables_columns.specs.Column.{column}
use Rattle.tables_digits.specs.SlotColumn.{value_in, row_in, span_of, level_in, Cycles}
use Rattle.formula.specs.declared.node.Node.{Node}
use Rattle.tables_columns.specs.declared.slot.Slot.{Slot}
use Rattle.tables_digits.specs.declared.value_column.Reading.{Reading}
use Rattle.tables_digits.specs.declared.value_column.Reached.{Reached}

-- the value of a tree, where ν gives the values of its leaves
unfoldable pub value_t : Reading → (Tree → ℕ) → Tree → ℕ
value_t w ν none = 0
value_t w ν (node c o l r) = cond (member w.leaves c) (ν (node c o l r)) (combine w.range c o (value_t w ν l) (value_t w ν r))

-- the value of a tree at a row, which has a value for each slot
unfoldable pub row_value : List ℕ → Reading → List Slot → List ℕ → Tree → ℕ
row_value s w q values t = value_t w (λ u. value_in values (slot_of s q u)) t

-- the values of a tree at the first n rows
unfoldable pub column_of : List ℕ → Reading → List Slot → List ℕ → ℕ → Tree → List ℕ
column_of s w q ms n t = column (λ i. row_value s w q (row_in ms i) t) n

-- the level of a tree: how many of the first slots its value depends on
unfoldable pub level_of : List ℕ → Reading → List Slot → Tree → ℕ
level_of s w q none = 0
level_of s w q (node c o l r) = cond (member w.leaves c) (level_in (slot_of s q (node c o l r))) (max (level_of s w q l) (level_of s w q r))

-- the period of a tree's values, n at most
unfoldable pub span_t : List ℕ → Reading → List Slot → List ℕ → ℕ → Tree → ℕ
span_t s w q ms n t = span_of n ms (level_of s w q t)

-- there is nothing to combine at a position: no nesting is left, it has no parts, or it is a leaf
unfoldable pub leaf_at : List ℕ → Reading → ℕ → ℕ → Bool
leaf_at s w k at = cond (eqb k 0) true (cond (eqb (node_at s at).parts 0) true (member w.leaves (node_at s at).code))

-- the column at a position if there is nothing to combine; else the rows of out
unfoldable pub leaf_column : List ℕ → Reading → List Slot → List ℕ → ℕ → ℕ → ℕ → List ℕ → List ℕ
leaf_column s w q ms n k at out = cond (leaf_at s w k at) (column_of s w q ms n (parse_tree s k at).tree) (take n out)

-- the level at a position if there is nothing to combine
unfoldable pub met_at : List ℕ → Reading → List Slot → ℕ → ℕ → Option ℕ
met_at s w q k at = cond (leaf_at s w k at) (Some (level_of s w q (parse_tree s k at).tree)) None

-- the position past a formula, and its level
unfoldable pub reached_at : List ℕ → Reading → List Slot → ℕ → ℕ → Reached
reached_at s w q k at = record { end = (parse_tree s k at).end; level = level_of s w q (parse_tree s k at).tree }

-- two columns, known up to their periods, combined up to the period of both
unfoldable pub Joined : ℕ → Node → ℕ → List ℕ → ℕ → ℕ → List ℕ → List ℕ → List ℕ → Type 0
Joined R x n ms i j a b o =
    (f g : ℕ → ℕ) → take (span_of n ms i) a ≡ column f (span_of n ms i) → Cycles f (span_of n ms (max i j)) (span_of n ms i)
    → take (span_of n ms j) b ≡ column g (span_of n ms j) → Cycles g (span_of n ms (max i j)) (span_of n ms j)
    → take (span_of n ms (max i j)) o ≡ column (λ r. combine R x.code x.operand (f r) (g r)) (span_of n ms (max i j))

-- the nesting left for a node's second part
unfoldable pub second_left : ℕ → ℕ → ℕ
second_left parts k = cond (ltb parts 2) 0 (k - 1)
