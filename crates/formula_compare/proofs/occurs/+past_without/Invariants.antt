use Rattle.formula_compare.proofs.occurs.+past_without.Given as goal

abbrev pub decreases-past_without : goal.decreases-past_without
decreases-past_without l = l.left
