use Rattle.std.proofs.Common.{rules, arith}
use Rattle.tables_columns.proofs.ColumnBranches.{zip_combined}
use Rattle.tables_columns.proofs.column.combine_by.Goals as goal

pub returns : goal.returns
returns c = zip_combined _ _ _ _ (omega (arith, c.zip_with.ensures.len)) _ c.zip_with.ensures.zipped _ _ _ (λ x y r k. search rules)
