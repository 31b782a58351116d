-- Rows and tables: the ways through their functions, one law for each.
use mathlib.Core.Path.{◌≡◌, ap, ◌∙◌}
use mathlib.Core.List.{List}
use mathlib.Core.Bool.{Bool}
use Prim.Native.Nat.{ℕ}
use Rattle.limits.specs.Limits.{nesting}
use Rattle.formula.specs.Tree.{parse_tree}
use Rattle.tables_rows.specs.ByRows.{rows_t, table_t, line_of, premises_of}
use Rattle.tables_rows.specs.declared.by_rows.Implications.{Implications}
use Rattle.exports.specs.Answers.{of_truth}
use Rattle.exports.specs.Places.{implications_in}

pub rows_is : (s : List ℕ) (a b v r : ℕ) (t : Bool) → t ≡ rows_t v (parse_tree s nesting a).tree (parse_tree s nesting b).tree
    → r ≡ of_truth t
    → r ≡ of_truth (rows_t v (parse_tree s nesting a).tree (parse_tree s nesting b).tree)
rows_is s a b v r t e h = h ∙ ap of_truth e

pub table_is : (s p : List ℕ) (i : Implications) (r : ℕ) (t : Bool) → i ≡ implications_in p → t ≡ table_t (premises_of s i) (line_of s i)
    → r ≡ of_truth t
    → r ≡ of_truth (table_t (premises_of s (implications_in p)) (line_of s (implications_in p)))
table_is s p i r t e h g = g ∙ ap of_truth (h ∙ ap (λ (i : Implications). table_t (premises_of s i) (line_of s i)) e)

pub ruleset rows_branches = (rows_is, table_is)
