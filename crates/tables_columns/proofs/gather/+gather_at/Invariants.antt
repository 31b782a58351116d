use Rattle.tables_columns.proofs.gather.+gather_at.Given as goal

abbrev pub decreases-gather_at : goal.decreases-gather_at
decreases-gather_at l = l.left
