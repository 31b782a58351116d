use Rattle.tables_digits.proofs.value_column.+column_at.Given as goal

abbrev pub decreases-column_at : goal.decreases-column_at
decreases-column_at l = l.left
