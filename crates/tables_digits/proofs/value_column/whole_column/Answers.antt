use Rattle.std.proofs.Common.{arith}
use Rattle.tables_digits.proofs.ValueBranches.{whole_asks}
use Rattle.tables_digits.proofs.value_column.whole_column.Goals as goal

pub widen-requires : goal.widen-requires
widen-requires c =
    let a = whole_asks _ _ _ _ c.span_of.ensures in
    (a.0, (a.1, omega (arith, c.column_at-p.auto.out)))
