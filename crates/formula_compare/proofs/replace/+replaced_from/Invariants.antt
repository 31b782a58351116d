use Rattle.formula_compare.proofs.replace.+replaced_from.Given as goal

abbrev pub decreases-replaced_from : goal.decreases-replaced_from
decreases-replaced_from l = l.left
