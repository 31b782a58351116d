-- What the rows of an image give: of a tree its level, its period and its column, and the same at a position.
use Rattle.std.specs.Prelude.{ℕ, List, Option}
use Rattle.formula.specs.Tree.{Tree, parse_tree}
use Rattle.tables_digits.specs.ValueColumn.{column_of, level_of, span_t, leaf_column, met_at, reached_at}
use Rattle.tables_digits.specs.declared.value_column.Reached.{Reached}
use Rattle.tables_digits.specs.declared.rows.Rows.{Rows}

module _ (r : Rows) where
  -- the formula at a position
  abbrev pub formula : ℕ → ℕ → Tree
  formula k at = (parse_tree r.image.now k at).tree

  -- how many of the first slots a tree's value depends on
  abbrev pub level : Tree → ℕ
  level t = level_of r.image.now r.reading r.slots.now t

  -- the period of a tree's values, at most the rows that there are
  abbrev pub span : Tree → ℕ
  span t = span_t r.image.now r.reading r.slots.now r.lasts.now r.count t

  -- the values of a tree at the first n rows
  abbrev pub column : ℕ → Tree → List ℕ
  column n t = column_of r.image.now r.reading r.slots.now r.lasts.now n t

  -- the level at a position if there is nothing to combine
  abbrev pub met : ℕ → ℕ → Option ℕ
  met k at = met_at r.image.now r.reading r.slots.now k at

  -- the column at a position if there is nothing to combine; else the rows of out
  abbrev pub leaf : ℕ → ℕ → ℕ → List ℕ → List ℕ
  leaf n k at out = leaf_column r.image.now r.reading r.slots.now r.lasts.now n k at out

  -- the position past a formula, and its level
  abbrev pub reached : ℕ → ℕ → Reached
  reached k at = reached_at r.image.now r.reading r.slots.now k at
