use Rattle.formula_compare.proofs.same.+same_at.Given as goal

abbrev pub decreases-same_at : goal.decreases-same_at
decreases-same_at l = l.left
