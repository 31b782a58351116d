use Rattle.tables_columns.proofs.LeafEqualBranches.{Walking}
use Rattle.tables_columns.proofs.leaf_equal.same_leaf.Given as goal

abbrev pub invariant-loop-walked : goal.invariant-loop-walked
invariant-loop-walked l =
    Walking l.image l.at l.at_left l.other_at l.other_left l.step.first l.step.second l.step.due l._walked l._walked-end
