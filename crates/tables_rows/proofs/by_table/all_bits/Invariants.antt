use Rattle.std.proofs.Common.{◌≡◌, [], length}
use Rattle.tables_columns.specs.Gather.{keys, view}
use Rattle.tables_bits.specs.TruthTable.{by_leaves}
use Rattle.tables_rows.specs.Entailment.{pair_at, premises_from, gather_imps}
use Rattle.tables_rows.specs.ByTable.{AllBits}
use Rattle.tables_rows.proofs.by_table.all_bits.Given as goal

abbrev pub invariant-loop-i : goal.invariant-loop-i
invariant-loop-i l =
    (view l.image l.n l.slots ≡ gather_imps by_leaves.leaves (premises_from l.image (pair_at l.pairs) l.task l.i) (keys []))
    × ((length l.slots ≡ 12)
    × ((length l.holds ≡ 16) × AllBits l.image l.n l.slots (premises_from l.image (pair_at l.pairs) l.task l.i) l.holds))
