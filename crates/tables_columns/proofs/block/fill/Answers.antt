use Rattle.std.proofs.Common.{rules}
use Rattle.tables_columns.proofs.ColumnBranches.{filled}
use Rattle.tables_columns.proofs.block.fill.Goals as goal

pub returns : goal.returns
returns c = filled _ _ _ _ _ c.requires (c.fill.ensures.after (search rules))
