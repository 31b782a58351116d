use Rattle.std.proofs.Common.{arith}
use Rattle.tables_rows.proofs.EveryRowBranches.{every_many, every_over, every_rows, every_try}
use Rattle.tables_rows.proofs.every_row.every_row.Goals as goal

pub returns-then-from-rows : goal.returns-then-from-rows
returns-then-from-rows c =
    every_over _ _ _ _ _ _ _ c.gather_line-k.ensures _ (omega arith) c.count_rows-rows.ensures (omega arith)

pub rows_hold-requires-clause-rows_value : goal.rows_hold-requires-clause-rows_value
rows_hold-requires-clause-rows_value c =
    every_rows _ _ _ _ _ _ _ c.gather_line-k.ensures _ (omega arith) c.count_rows-rows.ensures (omega arith) (omega arith)

pub returns : goal.returns
returns c =
    every_try _ _ _ _ _ _ _ c.gather_line-k.ensures _ (omega arith) c.count_rows-rows.ensures _ (omega arith) (omega arith)
    c.rows_hold.ensures.value

pub returns-then-k-gt-COUNT : goal.returns-then-k-gt-COUNT
returns-then-k-gt-COUNT c = every_many _ _ _ _ _ _ _ c.gather_line-k.ensures (omega arith)
