use Rattle.tables_digits.proofs.ValueBranches.{reached_leaf, level_within}
use Rattle.tables_digits.proofs.value_column.+column_at.Goals as goal

pub returns-in-Some-clause-value : goal.returns-in-Some-clause-value
returns-in-Some-clause-value t c =
    reached_leaf _ _ _ c.args.rows.now.lasts.now c.args.rows.now.count _ _ _ c.leaf_column.ensures.value _ _ c.in-Some.is c.end_at.ensures

pub join_columns-level-requires-clause-levels : goal.join_columns-level-requires-clause-levels
join_columns-level-requires-clause-levels t c =
    (level_within _ _ _ _ _ _ c.column_at-p.ensures.value, level_within _ _ _ _ _ _ c.column_at-e.ensures.value)

pub join_columns-level-requires-2-clause-levels : goal.join_columns-level-requires-2-clause-levels
join_columns-level-requires-2-clause-levels t c =
    (level_within _ _ _ _ _ _ c.column_at-p.ensures.value, level_within _ _ _ _ _ _ c.column_at-e-2.ensures.value)
