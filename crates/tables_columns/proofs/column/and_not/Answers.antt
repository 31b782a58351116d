use Rattle.std.proofs.Common.{rules, arith}
use Rattle.tables_columns.proofs.ColumnBranches.{zip_denied}
use Rattle.tables_columns.proofs.column.and_not.Goals as goal

pub returns : goal.returns
returns c = zip_denied _ _ _ _ (omega (arith, c.zip_with.ensures.len)) _ c.zip_with.ensures.zipped (λ x y r k. search rules)
