use Rattle.tables_bits.proofs.truth_table.+table_at.Given as goal

abbrev pub decreases-table_at : goal.decreases-table_at
decreases-table_at l = l.left
